-- Each string is filled in after those before it.
use Rattle.std.proofs.Common.{◌≡◌, ◌+◌, [], ◌∷◌, ◌++◌, length, inl, refl, sym, ap, ◌∙◌, subst, rules, arith, append_assoc, append-nil, string_bytes}
use Rattle.std.proofs.lemmas.Grind.{common_steps}
use Rattle.std.proofs.lemmas.Option.{IfSome_then}
use Rattle.std.proofs.lemmas.Result.{err_from_is_err_and}
use Rattle.subst_error.specs.ErrorFault.{error_fault}
use Rattle.subst_language.specs.Language.Several.{GivesBy}
use Rattle.subst_language.proofs.Language.SeveralLemmas.{refusal_alone, refusal_before, refusal_after}
use Rattle.subst_document.specs.Edits.{IsFilledUpTo}
use Rattle.subst_document.specs.Stays.{StatesChange}
use Rattle.subst_document.proofs.EditLemmas.{filled_then, given_so_far, none_filled, stayed}
use Rattle.subst_document.proofs.StaysLemmas.{some_after, states_more, values_kept, values_more}
use Rattle.subst_document.proofs.strings.filled_in.Goals as goal

pub returns-in_err-fill_in_string-clause-err : goal.returns-in_err-fill_in_string-clause-err
returns-in_err-fill_in_string-clause-err g c =
    let ask = g.F.Fill.answers c.args.filler.now in
    let l = c.loop-it in
    let (is_utf8, done, all, filled, tells, count, values) = l.invariant in
    let here = c.in-Some.it.text.now in
    let more = g.S.Strings.left c.next.new.self in
    let failed = c.in_err-fill_in_string in
    let given = err_from_is_err_and c.from_residual-in_err-fill_in_string.result
    c.from_residual-in_err-fill_in_string.ensures.1 in
    rw (given.1, given.2, all, c.in-Some.ensures) (IfSome_then (error_fault failed.field-0.0)
    failed.ensures.err (λ f refused. refusal_after ask done (here ∷ more) f
    (given_so_far g.T.StringFormat.is_token g.T.StringFormat.is_part g.T.StringFormat.is_fit ask done _ _ [] _
    filled)
    (refusal_before ask (here ∷ []) more f (refusal_alone ask here f refused))))

pub returns-in-NotFound-clause-changed : goal.returns-in-NotFound-clause-changed
returns-in-NotFound-clause-changed g c =
    let Becomes = GivesBy (g.F.Fill.answers c.args.filler.now) in
    let (is_utf8, done, all, filled, tells, count, values) = c.loop-it.invariant in
    let here = c.in-Some.it.text.now in
    let more = g.S.Strings.left c.next.new.self in
    let other = rw c.in-NotFound.is at c.in_ok-fill_in_string.ensures.outcome in
    rw (all, c.in-Some.ensures) (some_after Becomes done (here ∷ more) (inl other))

pub loop-it-init : goal.loop-it-init
loop-it-init g c =
    let IsToken = g.T.StringFormat.is_token in
    let IsPart = g.T.StringFormat.is_part in
    let Fits = g.T.StringFormat.is_fit in
    let Becomes = GivesBy (g.F.Fill.answers c.args.filler.now) in
    let source = c.args.source.now in (
      search rules,
      [],
      refl,
      subst (IsFilledUpTo IsToken IsPart Fits Becomes [] source source []) (sym c.in_ok-output.ensures.bytes)
          (none_filled IsToken IsPart Fits Becomes source []),
      (tt, ap (λ output. output ++ source) c.in_ok-output.ensures.bytes),
      refl,
      λ _. search rules,
    )

pub loop-it-preserved-in-Unchanged : goal.loop-it-preserved-in-Unchanged
loop-it-preserved-in-Unchanged g c =
    let l = c.loop-it in
    let (is_utf8, done, all, filled, tells, count, values) = l.invariant in
    let IsToken = g.T.StringFormat.is_token in
    let IsPart = g.T.StringFormat.is_part in
    let Fits = g.T.StringFormat.is_fit in
    let here = c.in-Some.it.text.now in
    let Becomes = GivesBy (g.F.Fill.answers c.args.filler.now) in
    let (same, kept) = rw c.in-Unchanged.is at c.in_ok-fill_in_string.ensures.outcome in
    let next = stayed IsToken IsPart Fits Becomes here l.rest.now _ _ same kept in (
      search rules,
      done ++ here ∷ [],
      all ∙ ap (λ xs. done ++ xs) c.in-Some.ensures
          ∙ sym (append_assoc done (here ∷ []) (g.S.Strings.left c.next.new.self)),
      filled_then IsToken IsPart Fits Becomes done (here ∷ []) _ _ _ [] _ _ filled next,
      subst (λ output. StatesChange Becomes (done ++ here ∷ []) c.args.source.now (output ++ l.rest.now)
          l.is_changed) (sym kept) (states_more Becomes done here _ _ l.is_changed tells same),
      grind (arith, common_steps, count),
      λ keeps. values_kept Becomes 0 done here _ _ (values keeps) same,
    )

pub loop-it-preserved : goal.loop-it-preserved
loop-it-preserved g c =
    let l = c.loop-it in
    let (is_utf8, done, all, filled, tells, count, values) = l.invariant in
    let IsToken = g.T.StringFormat.is_token in
    let IsPart = g.T.StringFormat.is_part in
    let Fits = g.T.StringFormat.is_fit in
    let here = c.in-Some.it.text.now in
    let Becomes = GivesBy (g.F.Fill.answers c.args.filler.now) in
    let (becomes, other, next) = rw c.in-Changed.is at c.in_ok-fill_in_string.ensures.outcome in
    let at : l.count ≡ 0 + length done = omega (arith, count) in (
      search rules,
      done ++ here ∷ [],
      all ∙ ap (λ xs. done ++ xs) c.in-Some.ensures
          ∙ sym (append_assoc done (here ∷ []) (g.S.Strings.left c.next.new.self)),
      filled_then IsToken IsPart Fits Becomes done (here ∷ []) _ _ _ [] _ _ filled next,
      some_after Becomes done (here ∷ []) (inl (string_bytes c.in-Changed.value, becomes, other)),
      grind (arith, common_steps, count),
      λ keeps. let (list, text) = c.in_ok-keep-in-Changed.ensures keeps in
          rw (list, text, at, c.as_str.ensures.value)
          (values_more Becomes 0 done here (string_bytes c.in-Changed.value) _ _ (values keeps) becomes),
    )

pub returns-clause-changed : goal.returns-clause-changed
returns-clause-changed g c =
    let Becomes = GivesBy (g.F.Fill.answers c.args.filler.now) in
    let l = c.loop-it in
    let (is_utf8, done, all, filled, tells, count, values) = l.invariant in
    let none : g.S.Strings.left l.strings ≡ [] = search rules in
    let ended = all ∙ ap (λ xs. done ++ xs) none ∙ append-nil done in
    rw (ended, c.in_ok-push_str.ensures.bytes) tells

pub returns-clause-values : goal.returns-clause-values
returns-clause-values g c =
    let Becomes = GivesBy (g.F.Fill.answers c.args.filler.now) in
    let l = c.loop-it in
    let (is_utf8, done, all, filled, tells, count, values) = l.invariant in
    let none : g.S.Strings.left l.strings ≡ [] = search rules in
    let ended = all ∙ ap (λ xs. done ++ xs) none ∙ append-nil done in
    λ keeps. rw ended (values keeps)
