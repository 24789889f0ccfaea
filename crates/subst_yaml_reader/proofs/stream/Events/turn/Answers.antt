-- The events to come after a turn.
use Rattle.std.proofs.Common.{◌≡◌, ◌+◌, rules, sym}
use Rattle.subst_yaml_reader.specs.Reader.{state_of}
use Rattle.subst_yaml_reader.specs.State.{without_events}
use Rattle.subst_yaml_reader.specs.Stream.{text_of, to_come}
use Rattle.subst_yaml_reader.proofs.StreamLemmas.{end_inside, end_outside, halted, no_turn, token_not_read, token_read}
use Rattle.subst_yaml_reader.proofs.stream.Events.turn.Goals as goal

pub returns-in_default-clause-err : goal.returns-in_default-clause-err
returns-in_default-clause-err c =
    let old = c.args.self.now in
    let none : old.turns ≡ 0 = search rules in
    halted c.error_of.result c.at.result (text_of old) (to_come old) c.error_of.ensures.out_of_memory
    c.error_of.ensures.span (λ _. rw none (no_turn old.given old.reader.events.items
    (without_events (state_of old.reader)) old.rest.now))

pub returns-in-None-clause-end : goal.returns-in-None-clause-end
returns-in-None-clause-end c = λ _.
    let old = c.args.self.now in
    let more : old.turns ≡ c.in-Some.turns + 1 = search rules in
    rw more (end_outside c.in-Some.turns old.given old.reader.events.items
    (without_events (state_of old.reader)) old.rest.now c.requires (search rules) (search rules))

pub returns-in-Some-innermost_bracket-clause-err : goal.returns-in-Some-innermost_bracket-clause-err
returns-in-Some-innermost_bracket-clause-err c =
    let old = c.args.self.now in
    let more : old.turns ≡ c.in-Some.turns + 1 = search rules in
    let again = c.error_of-in-Some-innermost_bracket in
    halted again.result c.at-in-Some-innermost_bracket.result (text_of old) (to_come old)
    again.ensures.out_of_memory again.ensures.span (λ _. rw more (end_inside c.in-Some.turns old.given
    old.reader.events.items (without_events (state_of old.reader)) old.rest.now c.requires
    c.in-Some-innermost_bracket.field-0 (search rules) (search rules)))

pub returns-in-Ok-clause-more : goal.returns-in-Ok-clause-more
returns-in-Ok-clause-more c = λ _.
    let old = c.args.self.now in
    let more : old.turns ≡ c.in-Some.turns + 1 = search rules in
    rw more (sym (token_read c.in-Some.turns old.given old.reader.events.items
    (without_events (state_of old.reader)) old.rest.now c.requires (state_of c.turn.new.self)
    c.in-Ok.rest.now (search rules) (rw c.forget_events.ensures at c.in-Ok.ensures.ok)))

pub returns-in-Err-clause-err : goal.returns-in-Err-clause-err
returns-in-Err-clause-err c =
    let old = c.args.self.now in
    let more : old.turns ≡ c.in-Some.turns + 1 = search rules in
    halted c.error_of-in-Err.result c.in-Err.halt (text_of old) (to_come old)
    c.error_of-in-Err.ensures.out_of_memory c.error_of-in-Err.ensures.span
    (λ refused. rw more (token_not_read c.in-Some.turns old.given old.reader.events.items
    (without_events (state_of old.reader)) old.rest.now c.requires (search rules)
    (rw c.forget_events.ensures at c.in-Err.ensures.err refused)))
