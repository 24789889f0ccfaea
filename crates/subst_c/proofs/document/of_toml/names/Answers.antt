-- The names are those of the listed strings, and the refusal is that of the document with every name.
use Rattle.std.proofs.Common.{refl}
use Rattle.subst_c.proofs.DocumentNamesLemmas.{toml_names}
use Rattle.subst_c.proofs.document.of_toml.names.Goals as goal

pub returns-in-Some : goal.returns-in-Some
returns-in-Some c =
    let listed = rw c.in-Ok-Some.field-0-is at c.in-Ok-Some.ensures.listed.list in
    toml_names c.args.source.now c.in-Ok-Some.list.items c.deref.result.now _ listed
    c.in-Ok-Some.ensures.listed.is_toml c.deref.ensures.value (rw c.in-Some.is at c.in_ok-names.ensures)

pub returns : goal.returns
returns c = c.in_ok-first_refusal-in-None.ensures (λ v. v) (λ v. refl)
