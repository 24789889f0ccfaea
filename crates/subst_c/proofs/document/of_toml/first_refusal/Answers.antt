-- The list of refusals begins with this one.
use Rattle.std.proofs.Common.{ℕ, string_bytes}
use Rattle.std.specs.declared.ops.Range.{Range}
use Rattle.subst_error.specs.ErrorFault.{error_fault}
use Rattle.subst_language.specs.Calls.VariableMap.{look_up_of}
use Rattle.subst_toml.proofs.MappedLemmas.{refusals_by_map}
use Rattle.subst_toml.specs.Paths.{steps_of}
use Rattle.subst_c.specs.Documents.{Toml}
use Rattle.subst_c.proofs.DocumentLemmas.{first_of_toml, first_refused}
use Rattle.subst_c.proofs.document.of_toml.first_refusal.Goals as goal

pub returns-in-Some-2 : goal.returns-in-Some-2
returns-in-Some-2 g c = λ bytes reads.
    let s = c.args.source.now in
    let look = look_up_of bytes (g.M.VariableMap.look_up c.args.variables.now) in
    let it = c.in-Some.first.now in
    let list = c.in-Ok-Some.all.items in
    let all = refusals_by_map _ _ _ s list (rw c.in-Ok-Some.field-0-is at c.in-Ok-Some.ensures.listed.list) bytes
    reads in
    let first = rw c.deref.ensures.value at c.in-Some.ensures.value in
    let token : Range ℕ = record { start = it.span.start; end = it.span.end } in
    let placed = rw (c.in-Some-2.is, c.source_range.ensures.range) at c.in_ok-place.ensures.place in
    let told = rw (c.deref-in-Some-2.ensures, c.in_ok-path-in-Some-2.ensures.ok) at c.refused.ensures in
    first_refused Toml look s (steps_of it.path) (string_bytes it.text) token c.in-Some-2.place
    (error_fault it.error) c.refused.result
    (λ f is. first_of_toml look s list it f first all is) placed told
