-- The variables are those of all entries, in order.
use Rattle.std.proofs.Common.{◌≡◌, ◌∙◌, List, ap, subst, sym}
use Rattle.subst_expander.specs.Layers.{AreVariablesOf, Entry, entries_of}
use Rattle.subst_expander.specs.declared.entry.Entry as owned
use Rattle.subst_expander.specs.declared.layers.Variables.{Variables}
use Rattle.subst_cli.proofs.entries.fill_in.Goals as goal

variables_of : (variables kept : Variables) (read entries : List owned.Entry) (all : List Entry)
    → AreVariablesOf variables (entries_of read) → read ≡ entries → entries_of entries ≡ all
    → kept ≡ variables → AreVariablesOf kept all
variables_of variables kept read entries all are same ordered is =
    subst (λ it. AreVariablesOf it all) (sym is)
    (subst (AreVariablesOf variables) (ap entries_of same ∙ ordered) are)

pub returns : goal.returns
returns c =
    let are = variables_of c.in_ok-variables.variables c.expander_of-expander.result.variables c.deref.result.now
    c.in_ok-entries.entries.items _ c.in_ok-variables.ensures.variables c.deref.ensures.value
    c.in_ok-entries.ensures c.expander_of-expander.ensures.variables in
    record {
      gives = rw (c.expander_of-expander.ensures.formats, c.expander_of-expander.ensures.placeholders) at
          (c.fill_all.ensures.gives _ are);
      refused = rw (c.expander_of-expander.ensures.formats, c.expander_of-expander.ensures.placeholders) at
          (c.fill_all.ensures.refused _ are);
    }
