-- Each turn appends one more report.
use Rattle.std.proofs.Common.{◌≡◌, suc, [], ◌∷◌, ◌++◌, drop, drop-cons, sym, ap, ◌∙◌, refl, subst, append_assoc, append-nil, add-one, rules, string_bytes}
use Rattle.std.proofs.Math.ListN.{drop_of_length-le}
use Rattle.subst_document.specs.Report.{AreReports}
use Rattle.subst_document.proofs.report.each_refusal.Goals as goal

pub loop-it-preserved : goal.loop-it-preserved
loop-it-preserved g c more h =
    let Reports = g.R.ReportFormat.reports c.args.file.now c.args.source.now in
    let all = c.deref-it-items.result.now in
    let l = c.loop-it in
    let it = c.it-item.result in
    let report = string_bytes c.in_ok-report.report in
    let left : drop l.it-index all ≡ it ∷ drop (suc l.it-index) all =
    drop-cons all l.it-index it c.loop-it-test.true
    ∙ ap (λ x. x ∷ drop (suc l.it-index) all) (sym c.it-item.is) in
    let here : AreReports Reports (it ∷ drop (suc l.it-index) all) (report ++ more) = (
      report,
      more,
      refl,
      c.in_ok-report.ensures,
      subst (λ n. AreReports Reports (drop n all) more) (add-one l.it-index) h,
    ) in
    let so_far = l.invariant (report ++ more)
    (subst (λ xs. AreReports Reports xs (report ++ more)) (sym left) here) in
    let pushed : string_bytes c.push_str.new.self ≡ string_bytes l.text ++ report = search rules in
    subst (AreReports Reports all)
    (sym (append_assoc (string_bytes l.text) report more) ∙ ap (λ text. text ++ more) (sym pushed)) so_far

pub returns : goal.returns
returns g c =
    let Reports = g.R.ReportFormat.reports c.args.file.now c.args.source.now in
    let all = c.deref-it-items.result.now in
    let l = c.loop-it in
    let none : drop l.it-index all ≡ [] = drop_of_length-le all c.loop-it-test.false in
    let same : all ≡ c.args.all.now.items = search rules in
    subst (λ xs. AreReports Reports xs (string_bytes l.text)) same
    (subst (AreReports Reports all) (append-nil (string_bytes l.text))
    (l.invariant [] (subst (λ xs. AreReports Reports xs []) (sym none) refl)))
