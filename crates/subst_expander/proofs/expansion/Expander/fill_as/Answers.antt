-- The output of bytes or a text is their expansion; that of a document comes after the bytes that are kept.
use Rattle.std.proofs.Common.{◌≡◌, IfOk, inr, refl, string_bytes}
use Rattle.std.specs.Prelude.{IfErr}
use Rattle.subst_expander.specs.Fill.{IsOutput}
use Rattle.subst_expander.specs.Mark.{filled_of}
use Rattle.subst_expander.specs.Refusals.{AreFaultsFor}
use Rattle.subst_expander.proofs.ExpansionLemmas.{no_text, of_text, weaker_faults, weaker_outcome}
use Rattle.subst_expander.proofs.expansion.Expander.fill_as.Goals as goal

pub returns-in-Bytes-clause-gives : goal.returns-in-Bytes-clause-gives
returns-in-Bytes-clause-gives c = λ entries are. rw c.in-Bytes.is
    (weaker_outcome c.fill_bytes.result _ _ (λ output is. (output.items, refl, is))
    (rw (c.split_source.ensures.filled, c.in-Bytes.is) at (c.fill_bytes.ensures.gives entries are)))

pub returns-in-Bytes-clause-refused : goal.returns-in-Bytes-clause-refused
returns-in-Bytes-clause-refused c = λ entries are. rw c.in-Bytes.is
    (rw (c.split_source.ensures.filled, c.in-Bytes.is) at (c.fill_bytes.ensures.refused entries are))

pub returns-in_default-text_of-clause-refused : goal.returns-in_default-text_of-clause-refused
returns-in_default-text_of-clause-refused c = λ entries are.
    let expander = c.args.self.now in
    no_text c.args.format expander.placeholders.now entries _ c.in_ok-not_utf8.field-0.items c.in_default.not-Bytes
    (rw c.split_source.ensures.filled at (c.in_ok-not_utf8.ensures c.in_default-text_of.ensures))

pub returns-in_default-format-clause-gives : goal.returns-in_default-format-clause-gives
returns-in_default-format-clause-gives c = λ entries are.
    let placeholders = c.args.self.now.placeholders.now in
    let source = c.args.source.now in
    let filled = c.fill_bytes-in_default-format.result in
    of_text c.args.format
    (λ form. c.split_source.result.1.now ≡ filled_of form source → IfOk filled (λ outcome.
    IfOk outcome (λ output. IsOutput form placeholders entries source output.items)))
    c.in_default.not-Bytes c.in_default-format.not-Document (λ same. weaker_outcome filled _ _
    (λ output is. (output.items, refl, (rw same at c.in-Some.ensures.1, is)))
    (rw same at (c.fill_bytes-in_default-format.ensures.gives entries are))) c.split_source.ensures.filled

pub returns-in_default-format-clause-refused : goal.returns-in_default-format-clause-refused
returns-in_default-format-clause-refused c = λ entries are.
    let placeholders = c.args.self.now.placeholders.now in
    let source = c.args.source.now in
    let filled = c.fill_bytes-in_default-format.result in
    of_text c.args.format
    (λ form. c.split_source.result.1.now ≡ filled_of form source → IfOk filled (λ outcome.
    IfErr outcome (λ faults. AreFaultsFor form placeholders entries source faults.items)))
    c.in_default.not-Bytes c.in_default-format.not-Document (λ same. weaker_faults filled _ _ (λ faults. inr)
    (rw same at (c.fill_bytes-in_default-format.ensures.refused entries are))) c.split_source.ensures.filled

pub returns-in_ok-after-in-Ok-clause-gives : goal.returns-in_ok-after-in-Ok-clause-gives
returns-in_ok-after-in-Ok-clause-gives c = λ entries are. (
  string_bytes c.in-Ok.output,
  rw c.split_source.ensures.kept at c.in_ok-after-in-Ok.ensures,
  rw c.in-Document.is (rw (
    c.in-Ok.is,
    c.in-Some.ensures.0,
    c.split_source.ensures.filled,
    c.in-Document.is,
    c.filler.ensures.placeholders,
  ) at
      (c.in_ok-output.ensures.gives entries (c.filler.ensures.variables entries are))),
)

pub returns-in-Err-clause-refused : goal.returns-in-Err-clause-refused
returns-in-Err-clause-refused c = λ entries are. rw c.in-Document.is (inr
    (rw (
      c.in-Err.is,
      c.in-Some.ensures.0,
      c.split_source.ensures.filled,
      c.in-Document.is,
      c.filler.ensures.placeholders,
    ) at
    (c.in_ok-output.ensures.refused entries (c.filler.ensures.variables entries are))))
