-- Each name of the tree has a value, so no variable is missing; or a name has no value.
use Rattle.std.proofs.Common.{◌≡◌, ℕ, true, List, IsSome, refl, sym, ◌∙◌, string_bytes}
use Rattle.std.proofs.lemmas.Bool.{false≢true}
use Rattle.subst.proofs.Calling.{expanded_memory_alone}
use Rattle.subst_uses.specs.CommandLine.{texts_of}
use Rattle.subst_uses.proofs.NameLemmas.{all_mapped_twice}
use Rattle.subst_uses.proofs.missing.expanded_or_none.Goals as goal

pub of_expanding-requires : goal.of_expanding-requires
of_expanding-requires c =
    let look = texts_of c.args.variables.now in
    let (t, spells) = c.in-Err.ensures.sentence in
    let all = rw c.deref.ensures.value at (c.have_all.ensures.0 c.if-not-have_all.false) in
    let each =
    (all_mapped_twice (λ (n : List ℕ). IsSome (look n)) _ _ _ _ _
    (c.in_ok-needed.ensures.variables t spells) (c.missing_lists_are_whole.ensures.names 0 t)).0 all in
    let (x, (u, spelled, gives)) =
    c.missing_variables_are_missing.ensures.given c.args.template.now t look spells each in
    expanded_memory_alone x _ c.in-Err.e gives
    (c.in-Err.ensures.value (λ v. string_bytes v) (λ v. refl) u spelled)

pub returns-in-Ok-clause-some : goal.returns-in-Ok-clause-some
returns-in-Ok-clause-some c =
    let (t, spells) = c.in-Ok.ensures.sentence in
    (t, spells, c.in-Ok.ensures.value (λ v. string_bytes v) (λ v. refl) t spells)

pub returns-then-not-have_all-clause-none : goal.returns-then-not-have_all-clause-none
returns-then-not-have_all-clause-none c = λ t spells each.
    let look = texts_of c.args.variables.now in
    let all =
    (all_mapped_twice (λ (n : List ℕ). IsSome (look n)) _ _ _ _ _
    (c.in_ok-needed.ensures.variables t spells) (c.missing_lists_are_whole.ensures.names 0 t)).1 each in
    let found : c.have_all.result ≡ true = c.have_all.ensures.1 (rw c.deref.ensures.value all) in
    false≢true (sym c.if-not-have_all.true ∙ found)
