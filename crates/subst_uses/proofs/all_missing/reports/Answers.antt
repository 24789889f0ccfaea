-- Each turn adds the report of one more variable.
use Rattle.std.proofs.Common.{◌≡◌, [], ◌∷◌, ◌++◌, map, sym, ap, ◌∙◌, append_assoc, string_bytes}
use Rattle.std.proofs.lemmas.List.{map_push}
use Rattle.std.proofs.lemmas.List.Elements.{All-head, All-rest, All-same}
use Rattle.std.specs.Vec.Iter.{into_iter_items}
use Rattle.subst.specs.Calls.Variables.{missing_variable, missing_range}
use Rattle.subst.specs.Range.{IsRangeIn}
use Rattle.subst_uses.proofs.ReportLemmas.{report_added}
use Rattle.subst_uses.proofs.all_missing.reports.Goals as goal

pub fault_report-requires : goal.fault_report-requires
fault_report-requires c =
    let l = c.loop-e in
    let e = c.in-Some.e in
    let left = into_iter_items c.next.new.self in
    let P = λ (e : _). IsRangeIn c.args.source.now (missing_range e) in
    let steps : e ∷ left ≡ into_iter_items l.e-iterator = sym c.in-Some.ensures.steps.0 in
    All-head P e left (All-same P (e ∷ left) (into_iter_items l.e-iterator) steps l.invariant.in_source)

pub loop-e-preserved : goal.loop-e-preserved
loop-e-preserved c =
    let l = c.loop-e in
    let e = c.in-Some.e in
    let left = into_iter_items c.next.new.self in
    let file = c.args.file.now in
    let s = c.args.source.now in
    let steps : into_iter_items l.e-iterator ≡ e ∷ left = c.in-Some.ensures.steps.0 in
    let added = report_added file s (map missing_variable l.yielded) e.position (string_bytes e.name)
    (string_bytes l.text) (string_bytes c.in_ok-shown.shown) _ l.invariant.reported c.in_ok-shown.ensures
    (rw c.as_str.ensures.value at c.in_ok-push_str.ensures.bytes) in
    record {
      all = l.invariant.all ∙ ap (λ vs. l.yielded ++ vs) steps ∙ sym (append_assoc l.yielded (e ∷ []) left);
      in_source = All-rest (λ e. IsRangeIn s (missing_range e)) e left _ steps l.invariant.in_source;
      reported = rw (map_push missing_variable l.yielded e) added;
    }
