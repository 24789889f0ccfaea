-- Each turn inserts a name.
use Rattle.std.proofs.Common.{◌≡◌, ◌||◌, ℕ, List, take, sym, ap, ◌∙◌, subst, arith}
use Rattle.std.proofs.lemmas.List.Folds.{list_any_more}
use Rattle.std.proofs.Math.Seq.{take-length}
use Rattle.std.specs.Borrow.{Bor}
use Rattle.std.specs.BTreeMap.{is_at}
use Rattle.std.specs.Cmp.Lexicographic.{slice_cmp}
use Rattle.std.specs.Ordering.{nat_cmp, is_eq}
use Rattle.subst_foreign.proofs.NamesLemmas.{is_listed, listed-insert, same_listed}
use Rattle.subst_foreign.proofs.names.OnlyNames.new.Goals as goal

pub loop-name-preserved : goal.loop-name-preserved
loop-name-preserved c = λ name.
    let names = c.args.names.now in
    let at = c.loop-name.name-index in
    ap (is_listed name) c.in_ok-insert.ensures.keys
    ∙ listed-insert name c.loop-name.set.keys c.as_bytes.result
    ∙ ap (λ b. b || is_eq (slice_cmp nat_cmp name c.as_bytes.result.now)) (c.loop-name.invariant name)
    ∙ ap (λ x. is_listed name (take at names) || is_eq (slice_cmp nat_cmp name x)) c.as_bytes.ensures.value
    ∙ sym (list_any_more (is_at (λ (key : Bor (List ℕ)). slice_cmp nat_cmp name key.now)) names at _ (omega arith))

pub returns : goal.returns
returns c =
    let names = c.args.names.now in
    let all : take c.loop-name.name-index names ≡ names =
    subst (λ n. take n names ≡ names) (omega arith) (take-length names) in
    record {
      listed = λ operated name. same_listed name c.loop-name.set.keys names
          (c.loop-name.invariant name ∙ ap (is_listed name) all);
    }
