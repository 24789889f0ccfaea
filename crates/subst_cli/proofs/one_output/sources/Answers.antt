-- Each turn reads one more file.
use Rattle.std.proofs.Common.{◌∙◌, ◌+◌, [], ap, drop, inr, refl, subst, sym, take}
use Rattle.std.proofs.lemmas.List.{take-append-drop}
use Rattle.subst_cli.proofs.ExpandedLemmas.{HasRead, one_lost, one_read, one_unread}
use Rattle.subst_cli.proofs.RunLemmas.{no_value, one_more_at}
use Rattle.subst_cli.proofs.WrittenLemmas.{no_calls}
use Rattle.subst_cli.specs.Expanded.{none_read}
use Rattle.subst_cli.specs.Status.{status_of}
use Rattle.subst_cli.proofs.one_output.sources.Goals as goal
use Rattle.subst_cli.proofs.one_output.sources.Goals.{in-Some+in_ok-push, in_default}

pub loop-file-init : goal.loop-file-init
loop-file-init g c = (_, [], rw c.new-sources.ensures.items none_read, no_calls _, inr refl)

pub returns-in_err-source : goal.returns-in_err-source
returns-in_err-source g c =
    let l = c.loop-file in
    let all = c.deref-file-items.result.now in
    let same = c.deref-file-items.ensures.value in
    let start = status_of c.args.report.now.worst in
    let first = g.F.Files.history c.args.files.now in
    let mid = g.F.Files.history l.files in
    let before = subst (λ xs. HasRead start first (take l.file-index xs) l.sources.items mid l.report.worst)
    (sym same) l.invariant in
    let (status, calls, read, went) =
    one_lost start first (take l.file-index all) _ _ l.sources.items mid _ l.report.worst l.report.worst
    (one_more_at all l.file-index _ c.loop-file-test.true) before
    c.in_err-source.ensures.gave_up in (
      take (l.file-index + 1) all,
      drop (l.file-index + 1) all,
      l.sources.items,
      status,
      calls,
      sym (take-append-drop (l.file-index + 1) all ∙ same),
      read,
      went,
      no_value c.from_residual.result _ c.from_residual.ensures.0,
    )

pub returns-in_err-push : goal.returns-in_err-push
returns-in_err-push g c =
    let l = c.loop-file in
    let all = c.deref-file-items.result.now in
    let same = c.deref-file-items.ensures.value in
    let start = status_of c.args.report.now.worst in
    let first = g.F.Files.history c.args.files.now in
    let mid = g.F.Files.history l.files in
    let before = subst (λ xs. HasRead start first (take l.file-index xs) l.sources.items mid l.report.worst)
    (sym same) l.invariant in
    let own = rw c.in-Some.is at c.in_ok-source.ensures.read in
    let (status, calls, read, went) =
    one_lost start first (take l.file-index all) _ _ l.sources.items mid _ l.report.worst l.report.worst
    (one_more_at all l.file-index _ c.loop-file-test.true) before
    (inr (_, own.0)) in (
      take (l.file-index + 1) all,
      drop (l.file-index + 1) all,
      l.sources.items,
      status,
      calls,
      sym (take-append-drop (l.file-index + 1) all ∙ same),
      read,
      went,
      no_value c.from_residual-in_err-push.result _ c.from_residual-in_err-push.ensures.0,
    )

pub loop-file-preserved : goal.loop-file-preserved
loop-file-preserved g c =
    let l = c.loop-file in
    let all = c.deref-file-items.result.now in
    let same = c.deref-file-items.ensures.value in
    let start = status_of c.args.report.now.worst in
    let worst = c.source_to_expand.new.report.worst in
    let first = g.F.Files.history c.args.files.now in
    let mid = g.F.Files.history l.files in
    let last = g.F.Files.history c.source_to_expand.new.files in
    let before = subst (λ xs. HasRead start first (take l.file-index xs) l.sources.items mid l.report.worst)
    (sym same) l.invariant in
    let next = one_more_at all l.file-index _ c.loop-file-test.true in
    subst (λ xs. HasRead start first (take (l.file-index + 1) xs) c.match-branch-2.sources.items last worst) same
    (elim c.match-branch-2.branch [
      | in-Some+in_ok-push w ↦
          let own = rw w.in-Some.is at c.in_ok-source.ensures.read in
          let pushed = ap (λ v. v.items) w.sources-is ∙ w.in_ok-push.ensures.items in
          subst (λ xs. HasRead start first (take (l.file-index + 1) all) xs last worst) (sym pushed)
          (one_read start first (take l.file-index all) _ _ l.sources.items mid last l.report.worst worst next
          before w.in-Some.source own.0 own.1 own.2)
      | in_default w ↦
          let own = rw w.in_default.is at c.in_ok-source.ensures.unread in
          subst (λ v. HasRead start first (take (l.file-index + 1) all) v.items last worst) (sym w.sources-is)
          (one_unread start first (take l.file-index all) _ _ l.sources.items mid last l.report.worst worst next
          before own.0 own.1)
    ])
