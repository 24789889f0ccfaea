-- Each token goes before those after it.
use Rattle.std.proofs.Common.{◌≡◌, ◌∷◌, true, length, reverse, sym, ap, subst, rules, arith}
use Rattle.json.specs.Reads.{token_of}
use Rattle.subst_json.specs.Nesting.{expected, AreExpected}
use Rattle.subst_json.proofs.NestingLemmas.{ends, is_value, value_before, key_before, end_before}
use Rattle.subst_json.proofs.nesting.Nesting.accept.Goals as goal

pub returns-in-Key-Key-clause-rest : goal.returns-in-Key-Key-clause-rest
returns-in-Key-Key-clause-rest c = λ may rest h.
    let before = key_before (reverse c.args.self.now.outer.items) rest c.in-Key-Key.field-0-0.now h in
    rw (c.in-Key-Key.is-0, c.in-Key-Key.is-1) before

pub returns-in-String-default-clause-rest : goal.returns-in-String-default-clause-rest
returns-in-String-default-clause-rest c = λ may rest h.
    let is : is_value (token_of c.args.token) ≡ true = search rules in
    value_before (token_of c.args.token) (expected c.args.self.now) rest is
    (λ j deep. c.accept_value.ensures.rest may j rest (omega arith) h)

pub returns-in-EndObject-Key-clause-rest : goal.returns-in-EndObject-Key-clause-rest
returns-in-EndObject-Key-clause-rest c = λ may rest h.
    let old = c.args.self.now in
    let is : ends (token_of c.args.token) old.next ≡ true = search rules in
    let all = c.close.ensures.rest may in
    let long = ap length all in
    subst (λ expected. AreExpected expected (token_of c.args.token ∷ rest)) (sym all)
    (end_before (expected c.close.new.self) rest (token_of c.args.token) old.next is (omega arith) h)
