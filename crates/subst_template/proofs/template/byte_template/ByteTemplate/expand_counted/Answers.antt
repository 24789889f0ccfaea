-- The value of the parts, and the number of visited ones, are those of the source's tree.
use Rattle.std.proofs.Common.{◌≡◌, ◌≤◌, ◌+◌, ℕ, List, IfErr, length, sym, subst}
use Rattle.std.specs.Prelude.{OnOk}
use Rattle.subst_error.specs.ErrorFault.{expand_fault}
use Rattle.subst_error.specs.Range.{range_of}
use Rattle.subst_language.specs.Language.Sentence.{Spells}
use Rattle.subst_language.specs.Calls.Outcome.{Expands}
use Rattle.subst_language.specs.Calls.VariableMap.{look_up_of}
use Rattle.subst_expand.proofs.TemplateOfLemmas.{template_value, template_count, errors_missing, errors_range}
use Rattle.subst_template.proofs.template.byte_template.ByteTemplate.expand_counted.Goals as goal

pub returns-clause-value : goal.returns-clause-value
returns-clause-value g c bytes reads t spells =
    let s = c.self.inside.source.now in
    let look = look_up_of bytes (g.M.VariableMap.look_up c.args.variables.now) in
    let spells_here : Spells t s = subst (λ x. Spells t x) (sym c.self.view_is) spells in
    subst (Expands (λ output. output.items) c.expand.result)
    (template_value s c.self.inside.parts t look c.self.invariant spells_here)
    (c.expand.ensures.value bytes reads)

pub returns-clause-counted : goal.returns-clause-counted
returns-clause-counted g c bytes reads t spells =
    let s = c.self.inside.source.now in
    let look = look_up_of bytes (g.M.VariableMap.look_up c.args.variables.now) in
    let spells_here : Spells t s = subst (λ x. Spells t x) (sym c.self.view_is) spells in
    subst (λ n. OnOk c.expand.result (c.expand.new.turns ≡ c.args.turns.now + n))
    (template_count s c.self.inside.parts t look c.self.invariant spells_here)
    (c.expand.ensures.counted bytes reads)

pub returns-clause-at_most : goal.returns-clause-at_most
returns-clause-at_most g c bytes reads t spells =
    let s = c.self.inside.source.now in
    let look = look_up_of bytes (g.M.VariableMap.look_up c.args.variables.now) in
    let spells_here : Spells t s = subst (λ x. Spells t x) (sym c.self.view_is) spells in
    subst (λ n. c.expand.new.turns ≤ c.args.turns.now + n)
    (template_count s c.self.inside.parts t look c.self.invariant spells_here)
    (c.expand.ensures.at_most bytes reads)

pub returns-clause-missing : goal.returns-clause-missing
returns-clause-missing g c look names t spells =
    let s = c.self.inside.source.now in
    let spells_here : Spells t s = subst (λ x. Spells t x) (sym c.self.view_is) spells in
    errors_missing expand_fault s c.self.inside.parts t (g.M.VariableMap.look_up c.args.variables.now)
    c.expand.result c.self.invariant spells_here c.expand.ensures.missing look names

pub returns-clause-range : goal.returns-clause-range
returns-clause-range g c =
    let parts = c.self.inside.parts in
    let look_up = g.M.VariableMap.look_up c.args.variables.now in
    let within = errors_range expand_fault c.self.inside.source.now parts look_up c.expand.result
    c.self.invariant c.expand.ensures.missing in
    subst (λ (x : List ℕ). IfErr c.expand.result
    (λ e. (range_of (expand_fault e)).end ≤ length x)) c.self.view_is within
