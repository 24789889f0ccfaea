-- The appended bytes are the value of the source's tree.
use Rattle.std.proofs.Common.{◌≤◌, ◌<◌, ◌+◌, ℕ, List, IfErr, length, vec_capacity, vec_len, sym, subst}
use Rattle.subst_error.specs.ErrorFault.{expand_into_fault}
use Rattle.subst_error.specs.Range.{range_of}
use Rattle.subst_language.specs.Language.Sentence.{Spells}
use Rattle.subst_language.specs.Calls.Outcome.{ExpandsInto, OnOutOfMemory}
use Rattle.subst_language.specs.Calls.VariableMap.{look_up_of}
use Rattle.subst_expand.proofs.TemplateOfLemmas.{template_value, template_written, errors_missing, errors_range}
use Rattle.subst_template.proofs.template.byte_template.ByteTemplate.expand_into.Goals as goal

pub returns-clause-value : goal.returns-clause-value
returns-clause-value g c bytes reads t spells =
    let s = c.self.inside.source.now in
    let look = look_up_of bytes (g.M.VariableMap.look_up c.args.variables.now) in
    let spells_here : Spells t s = subst (λ x. Spells t x) (sym c.self.view_is) spells in
    subst (ExpandsInto c.args.output.now.items c.expand_into.result c.expand_into.new.output.items)
    (template_value s c.self.inside.parts t look c.self.invariant spells_here)
    (c.expand_into.ensures.expands.value bytes reads)

pub returns-clause-full : goal.returns-clause-full
returns-clause-full g c bytes reads t spells =
    let s = c.self.inside.source.now in
    let look = look_up_of bytes (g.M.VariableMap.look_up c.args.variables.now) in
    let spells_here : Spells t s = subst (λ x. Spells t x) (sym c.self.view_is) spells in
    subst (λ (x : List ℕ). OnOutOfMemory expand_into_fault c.expand_into.result
    (vec_capacity c.args.output.now < vec_len c.args.output.now + length x))
    (template_written s c.self.inside.parts t look c.self.invariant spells_here)
    (c.expand_into.ensures.expands.full bytes reads)

pub returns-clause-missing : goal.returns-clause-missing
returns-clause-missing g c look names t spells =
    let s = c.self.inside.source.now in
    let spells_here : Spells t s = subst (λ x. Spells t x) (sym c.self.view_is) spells in
    errors_missing expand_into_fault s c.self.inside.parts t (g.M.VariableMap.look_up c.args.variables.now)
    c.expand_into.result c.self.invariant spells_here c.expand_into.ensures.expands.missing look names

pub returns-clause-range : goal.returns-clause-range
returns-clause-range g c =
    let parts = c.self.inside.parts in
    let look_up = g.M.VariableMap.look_up c.args.variables.now in
    let within = errors_range expand_into_fault c.self.inside.source.now parts look_up c.expand_into.result
    c.self.invariant c.expand_into.ensures.expands.missing in
    subst (λ (x : List ℕ). IfErr c.expand_into.result
    (λ e. (range_of (expand_into_fault e)).end ≤ length x)) c.self.view_is within
