-- The output and the fault of the template are those of its source.
use Rattle.std.proofs.Common.{List, ℕ, subst}
use Rattle.subst_language.specs.Language.Answer.{Answers, Gives}
use Rattle.subst_c.specs.Buffer.{IsTooLong}
use Rattle.subst_c.specs.Fault.{IsRecordOf, SetsFault}
use Rattle.subst_c.specs.Pairs.{RefusedBy, pair_value}
use Rattle.subst_c.proofs.subst_bytes_into.Goals as goal

pub returns-in-Ok-clause-fault : goal.returns-in-Ok-clause-fault
returns-in-Ok-clause-fault c =
    let pairs = c.args.pairs.now in
    subst (λ (s : List ℕ). SetsFault (IsRecordOf (RefusedBy s pairs)) s c.expand_into_buffer.result
    c.args.fault.now c.expand_into_buffer.new.fault)
    c.in-Ok.ensures.ok.1 c.expand_into_buffer.ensures.fault

pub returns-in-Ok-clause-too_small : goal.returns-in-Ok-clause-too_small
returns-in-Ok-clause-too_small c short =
    let look = pair_value c.args.pairs.now in
    let needed = c.expand_into_buffer.new.needed in
    subst (λ (s : List ℕ). IsTooLong (λ x. Answers s look (Gives x)) needed c.args.buffer.now)
    c.in-Ok.ensures.ok.1 (c.expand_into_buffer.ensures.too_small short)
