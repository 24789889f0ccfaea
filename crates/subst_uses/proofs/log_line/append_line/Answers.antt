-- The output of a line is computed, and it fits if there is capacity for the longest line.
use Rattle.std.proofs.Common.{◌≡◌, ◌≤◌, ◌+◌, ◌++◌, ◌∷◌, [], ℕ, List, Result, Ok, Err, IsOk, OnOk, length, length-append, refl, arith, vec_capacity, vec_len}
use Rattle.subst.specs.Language.Answer.{Answers, Gives}
use Rattle.subst.specs.Language.LookUp.{LookUp}
use Rattle.subst.proofs.Calling.{answer_unique, computed_gives, given_in_capacity, given_into}
use Rattle.subst_uses.proofs.log_line.append_line.Goals as goal

pub returns-then-capacity-len-ge-ROOM-clause-room : goal.returns-then-capacity-len-ge-ROOM-clause-room
returns-then-capacity-len-ge-ROOM-clause-room c =
    let expands = c.expand_into.ensures in
    let fields = c.args.fields.now in
    let end = 32 ∷ (fields.message.now ++ 10 ∷ []) in
    let room : vec_len c.args.log.now + length (fields.level.now ++ end) ≤ vec_capacity c.args.log.now =
    omega (
      arith,
      length-append fields.level.now end,
      length-append fields.message.now (10 ∷ []),
      fields.short,
      c.if-capacity-len-ge-ROOM.true,
      c.capacity.ensures,
      c.len.ensures,
    ) in
    let given = given_in_capacity _ _ _ _ _ _ _ c.expand_into.result (computed_gives _ _ _ refl) room
    (rw c.requires at (expands.value (λ v. v) (λ v. refl)))
    (rw c.requires at (expands.full (λ v. v) (λ v. refl))) in (
      λ did. omega (arith, c.if-capacity-len-ge-ROOM.true, c.capacity.ensures, c.len.ensures),
      λ fits. rw c.is_ok.ensures.value given,
    )

-- if an output of a source is appended, it is this output
appended : {T E : Type 0} (s x : List ℕ) (look : LookUp) (before after : List ℕ) (result : Result T E)
    → Answers s look (Gives x)
    → OnOk result ((y : List ℕ) × Answers s look (Gives y) × (after ≡ before ++ y))
    → IsOk result → after ≡ before ++ x
appended s x look before after (Ok done) known (y, gives, is) did =
    let same = answer_unique s look (Gives y) (Gives x) gives known in cc
appended s x look before after (Err e) known into did = absurd cc

pub returns-then-capacity-len-ge-ROOM-clause-line : goal.returns-then-capacity-len-ge-ROOM-clause-line
returns-then-capacity-len-ge-ROOM-clause-line c did =
    let expands = c.expand_into.ensures in
    appended _ _ _ _ _ c.expand_into.result (computed_gives _ _ _ refl)
    (given_into _ _ _ _ c.expand_into.result (rw c.requires at expands.sentence)
    (rw c.requires at (expands.value (λ v. v) (λ v. refl)))) (rw c.is_ok.ensures.value at did)
