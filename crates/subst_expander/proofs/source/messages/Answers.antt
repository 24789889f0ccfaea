-- Each turn appends one more message.
use Rattle.std.proofs.Common.{◌≡◌, suc, [], ◌∷◌, ◌++◌, drop, drop-cons, sym, ap, ◌∙◌, refl, subst, append_assoc, append-nil, add-one, rules, string_bytes}
use Rattle.std.proofs.Math.ListN.{drop_of_length-le}
use Rattle.subst_expander.specs.Messages.{AreMessages}
use Rattle.subst_expander.proofs.source.messages.Goals as goal

pub loop-fault-preserved : goal.loop-fault-preserved
loop-fault-preserved c =
    let l = c.loop-fault in
    let all = c.args.faults.now in
    let Are = AreMessages c.args.excerpts c.args.name.now c.args.bytes.now in
    let it = c.fault-item.result in
    let at = c.in_ok-position.position in
    let report = string_bytes c.in_ok-report.report in
    let left : drop l.fault-index all ≡ it ∷ drop (suc l.fault-index) all =
    drop-cons all l.fault-index it c.loop-fault-test.true
    ∙ ap (λ x. x ∷ drop (suc l.fault-index) all) (sym c.fault-item.is) in
    let pushed : string_bytes c.push_str.new.self ≡ string_bytes l.text ++ report = search rules in
    record {
      source = c.in_ok-position.ensures.source ∙ l.invariant.source;
      messages = λ more h.
          let here : Are (it ∷ drop (suc l.fault-index) all) (report ++ more) = (
            report,
            more,
            refl,
            (
              at.line,
              at.column,
              rw l.invariant.source at c.in_ok-position.ensures.position,
              c.in_ok-report.ensures,
            ),
            subst (λ n. Are (drop n all) more) (add-one l.fault-index) h,
          ) in
          subst (Are all)
          (sym (append_assoc (string_bytes l.text) report more) ∙ ap (λ text. text ++ more) (sym pushed))
          (l.invariant.messages (report ++ more) (subst (λ xs. Are xs (report ++ more)) (sym left) here));
    }

pub returns : goal.returns
returns c =
    let l = c.loop-fault in
    let all = c.args.faults.now in
    let Are = AreMessages c.args.excerpts c.args.name.now c.args.bytes.now in
    let none : drop l.fault-index all ≡ [] = drop_of_length-le all c.loop-fault-test.false in
    subst (Are all) (append-nil (string_bytes l.text))
    (l.invariant.messages [] (subst (λ xs. Are xs []) (sym none) refl))
