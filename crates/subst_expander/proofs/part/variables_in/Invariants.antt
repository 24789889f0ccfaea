-- The variables so far are converted, and the names of those left are names.
use Rattle.std.proofs.Common.{◌≡◌, map}
use Rattle.std.specs.List.{All}
use Rattle.std.specs.Vec.Iter.{into_iter_items}
use Rattle.subst.specs.Calls.Variables.{variable_of}
use Rattle.subst.specs.Reading.{variable_of as found_variable}
use Rattle.subst_language.specs.Language.Name.{IsName}
use Rattle.subst_expander.specs.Listing.{variable_in}
use Rattle.subst_expander.proofs.part.variables_in.Given as goal

abbrev pub invariant-loop-it : goal.invariant-loop-it
invariant-loop-it l = All (λ v. IsName v.name.now) l.fn.found.items → record {
  named : All (λ v. IsName v.name.now) (into_iter_items l.it-iterator);
  converted : map variable_of l.variables.items
      ≡ map (λ v. variable_in l.missing l.source (found_variable v)) l.yielded;
}
