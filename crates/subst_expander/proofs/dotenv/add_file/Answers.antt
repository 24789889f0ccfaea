-- The file isn't UTF-8, or its lines are read.
use Rattle.std.proofs.Common.{◌∙◌, inl, inr, rules, subst, sym}
use Rattle.std.specs.Str.{IsUtf8}
use Rattle.subst_expander.proofs.ExpansionLemmas.{weaker_faults, weaker_outcome}
use Rattle.subst_expander.proofs.FaultLemmas.{one_weaker}
use Rattle.subst_expander.proofs.dotenv.add_file.Goals as goal
use Rattle.subst_expander.specs.Dotenv.{IsFaultOfFile, IsFirstRefusedLine}
use Rattle.subst_expander.specs.Faults.{IsNoText}
use Rattle.subst_expander.specs.Layers.{entries_of}
use Rattle.subst_expander.specs.Refusals.{bytes_of}

pub returns-then-is_none-clause-refused : goal.returns-then-is_none-clause-refused
returns-then-is_none-clause-refused c above are =
    let s = bytes_of c.args.source.now in
    let before = entries_of c.args.set.now.entries.items in
    let not_here : ¬ (IsUtf8 c.deref.result.now) = search rules in
    let none : ¬ (IsUtf8 c.deref-then-is_none.result.now) =
    subst (λ x. ¬ (IsUtf8 x)) (c.deref.ensures.value ∙ sym c.deref-then-is_none.ensures.value) not_here in
    one_weaker (IsNoText s) (IsFaultOfFile above before s) (λ it is. inl is) _
    (rw c.deref-then-is_none.ensures.value at (c.in_ok-not_utf8.ensures none))

pub returns-clause-leaves : goal.returns-clause-leaves
returns-clause-leaves c above are =
    let utf8 : IsUtf8 (bytes_of c.args.source.now) = search rules in
    weaker_outcome c.add_lines.result _ _ (λ it leaves. (utf8, leaves))
    (rw c.deref-4.ensures.value at (c.add_lines.ensures.leaves above are))

pub returns-clause-refused : goal.returns-clause-refused
returns-clause-refused c above are =
    let s = bytes_of c.args.source.now in
    let before = entries_of c.args.set.now.entries.items in
    let utf8 : IsUtf8 s = search rules in
    weaker_faults c.add_lines.result _ _
    (λ faults. one_weaker (IsFirstRefusedLine above before s) (IsFaultOfFile above before s)
    (λ it is. inr (utf8, is)) faults.items) (rw c.deref-4.ensures.value at (c.add_lines.ensures.stops above are))
