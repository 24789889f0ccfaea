-- The output of each kind of part is appended.
use Rattle.std.proofs.lemmas.Grind.{common_steps}
use Rattle.std.proofs.Common.{arith, [], ◌∷◌, map, ap, refl, sym}
use Rattle.subst_language.specs.Language.Steps.{Own}
use Rattle.subst_expand.proofs.ExpandLemmas.{has_value, has_none}
use Rattle.subst_expand.proofs.FilledLemmas.{has_mark, has_no_mark}
use Rattle.subst_expand.proofs.ContextLemmas.{own_length, writes_own, writes_value, writes_nothing}
use Rattle.subst_expand.proofs.append.append_part.Goals as goal

pub returns-in_ok-append_bytes-in-Literal-clause-written :
    goal.returns-in_ok-append_bytes-in-Literal-clause-written
returns-in_ok-append_bytes-in-Literal-clause-written g c =
    let appended = c.in_ok-append_bytes-in-Literal.ensures in
    writes_own _ _ c.args.part c.bytes_at.result.now _ _ appended.ok appended.len appended.capacity
    (λ look. rw c.in-Literal.is (ap (map Own) (sym c.bytes_at.ensures)))

-- as many bytes are written as the range has
pub returns-in_err-append_bytes-in-Literal-clause-stopped :
    goal.returns-in_err-append_bytes-in-Literal-clause-stopped
returns-in_err-append_bytes-in-Literal-clause-stopped g c = grind (arith, common_steps, own_length)

pub returns-in_ok-append_byte-in-Escaped-clause-written :
    goal.returns-in_ok-append_byte-in-Escaped-clause-written
returns-in_ok-append_byte-in-Escaped-clause-written g c =
    let appended = c.in_ok-append_byte-in-Escaped.ensures in
    writes_own _ _ c.args.part (c.in-Escaped.byte ∷ []) _ _ appended.ok appended.len appended.capacity
    (λ look. rw c.in-Escaped.is refl)

pub returns-in_ok-append_bytes-in-Variable-clause-written :
    goal.returns-in_ok-append_bytes-in-Variable-clause-written
returns-in_ok-append_bytes-in-Variable-clause-written g c =
    let appended = c.in_ok-append_bytes-in-Variable.ensures in
    let look_up = g.M.VariableMap.look_up c.args.variables.now in
    writes_value _ _ c.args.part c.bytes_of.result.now _ _ appended.ok appended.len appended.capacity
    (λ bytes reads. rw (
      c.in-Variable.is,
      ← c.name_at.ensures,
      has_value g.R.ReadValue.read g.M.VariableMap.see bytes look_up c.in-Some.value reads
          c.in-Some.ensures.value c.bytes_of.ensures.bytes,
    ) refl)
    (rw (c.in-Variable.is, ← c.name_at.ensures, has_mark look_up c.in-Some.ensures.value) refl)
    c.bytes_of.ensures.property

pub returns-in_ok-append_bytes-in-Default-clause-written :
    goal.returns-in_ok-append_bytes-in-Default-clause-written
returns-in_ok-append_bytes-in-Default-clause-written g c =
    let appended = c.in_ok-append_bytes-in-Default.ensures in
    let look_up = g.M.VariableMap.look_up c.args.variables.now in
    writes_value _ _ c.args.part c.bytes_of-in-Default.result.now _ _ appended.ok appended.len
    appended.capacity
    (λ bytes reads. rw (
      c.in-Default.is,
      ← c.name_at-in-Default.ensures,
      has_value g.R.ReadValue.read g.M.VariableMap.see bytes look_up c.in-Some-get.value reads
          c.in-Some-get.ensures.value c.bytes_of-in-Default.ensures.bytes,
    ) refl)
    (rw (c.in-Default.is, ← c.name_at-in-Default.ensures, has_mark look_up c.in-Some-get.ensures.value) refl)
    c.bytes_of-in-Default.ensures.property

pub returns-in_default-get-clause-written : goal.returns-in_default-get-clause-written
returns-in_default-get-clause-written g c =
    let look_up = g.M.VariableMap.look_up c.args.variables.now in
    writes_nothing _ _ c.args.part _
    (λ bytes reads. rw (
      c.in-Default.is,
      ← c.name_at-in-Default.ensures,
      has_none bytes look_up c.in_default-get.ensures.value,
    ) refl)
    (rw (c.in-Default.is, ← c.name_at-in-Default.ensures, has_no_mark look_up c.in_default-get.ensures.value)
    refl)
