use Rattle.std.proofs.Common.{IsTrue, sym, subst}
use Rattle.subst_foreign.proofs.NamesLemmas.{listed_iff}
use Rattle.subst_foreign.proofs.names.OnlyNamesNames.has.Goals as goal

pub returns : goal.returns
returns c =
    let iff = listed_iff c.args.name.now c.args.self.now.names.keys in
    record {
      chosen = (
        λ is. iff.0 (subst IsTrue c.contains.ensures is),
        λ is. subst IsTrue (sym c.contains.ensures) (iff.1 is),
      );
    }
