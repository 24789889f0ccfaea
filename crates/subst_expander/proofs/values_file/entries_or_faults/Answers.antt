-- The file isn't UTF-8, or its lines are parsed.
use Rattle.std.proofs.Common.{inl, inr, rules}
use Rattle.std.proofs.lemmas.Str.{is_utf8-from_IsUtf8}
use Rattle.std.specs.Str.{IsUtf8}
use Rattle.subst_expander.proofs.ExpansionLemmas.{weaker_faults}
use Rattle.subst_expander.proofs.FaultLemmas.{one_weaker}
use Rattle.subst_expander.specs.Faults.{IsNoText}
use Rattle.subst_expander.specs.ValuesFaults.{IsFaultOfLines, IsFirstWrong}
use Rattle.subst_expander.proofs.values_file.entries_or_faults.Goals as goal

pub returns-then-is_none-clause-refused : goal.returns-then-is_none-clause-refused
returns-then-is_none-clause-refused c =
    let s = c.args.bytes.now in
    one_weaker (IsNoText s) (IsFaultOfLines s) (λ it is. inl is) _ (c.in_ok-not_utf8.ensures (search rules))

pub returns-clause-gives : goal.returns-clause-gives
returns-clause-gives c = rw (is_utf8-from_IsUtf8 c.args.bytes.now (search rules)) c.entries.ensures.gives

pub returns-clause-refused : goal.returns-clause-refused
returns-clause-refused c =
    let s = c.args.bytes.now in
    let utf8 : IsUtf8 s = search rules in
    weaker_faults c.entries.result _ _ (λ faults. one_weaker (IsFirstWrong s) (IsFaultOfLines s)
    (λ it is. inr (utf8, is)) faults.items) c.entries.ensures.refused
