-- Each part is read at its index, and its output is appended.
use Rattle.std.proofs.Common.{[], ◌∷◌, map, arith, refl, sym, ap, ◌∙◌}
use Rattle.std.proofs.lemmas.Result.{err_from_is_err_and}
use Rattle.subst_language.specs.Language.Steps.{Own}
use Rattle.subst_language.specs.declared.part.Part.TheVariants.{Literal, Escaped, Variable, Default}
use Rattle.subst_expand.proofs.ContextLemmas.{writes_own, writes_value, writes_nothing, stops_at_own, stops_at_value, stops_missing}
use Rattle.subst_expand.proofs.ExpandLemmas.{part_here, none_here, fits_there, found_gives, has_none}
use Rattle.subst_expand.proofs.FilledLemmas.{has_mark, has_no_mark}
use Rattle.subst_expand.proofs.LoopLemmas.{visits_none, visits_next, visits_all, visits_until}
use Rattle.subst_expand.proofs.expand.append_list.Goals as goal

pub loop-part-init : goal.loop-part-init
loop-part-init g c = record { same = refl; within = omega arith; visited = visits_none _ _ _ _ _ }

pub bytes_at-requires : goal.bytes_at-requires
bytes_at-requires g c =
    let here = part_here c.in-Some.ensures.part c.loop-part.invariant.same c.in-Literal.is in
    (fits_there _ _ c.requires here).0

pub name_at-requires-clause-inside : goal.name_at-requires-clause-inside
name_at-requires-clause-inside g c =
    let here = part_here c.in-Some.ensures.part c.loop-part.invariant.same c.in-Variable.is in
    (fits_there _ _ c.requires here).0.0

pub name_at-requires-clause-name : goal.name_at-requires-clause-name
name_at-requires-clause-name g c =
    let here = part_here c.in-Some.ensures.part c.loop-part.invariant.same c.in-Variable.is in
    (fits_there _ _ c.requires here).0.1

pub name_at-requires-in-Default-clause-inside : goal.name_at-requires-in-Default-clause-inside
name_at-requires-in-Default-clause-inside g c =
    let here = part_here c.in-Some.ensures.part c.loop-part.invariant.same c.in-Default.is in
    (fits_there _ _ c.requires here).0.0

pub name_at-requires-in-Default-clause-name : goal.name_at-requires-in-Default-clause-name
name_at-requires-in-Default-clause-name g c =
    let here = part_here c.in-Some.ensures.part c.loop-part.invariant.same c.in-Default.is in
    (fits_there _ _ c.requires here).0.1

pub loop-part-preserved-in-Literal : goal.loop-part-preserved-in-Literal
loop-part-preserved-in-Literal g c =
    let here = part_here c.in-Some.ensures.part c.loop-part.invariant.same c.in-Literal.is in
    let appended = c.in_ok-append_bytes-in-Literal.ensures in
    record {
      same = c.in-Some.ensures.same ∙ c.loop-part.invariant.same;
      within = omega (arith, here.below);
      visited =
          visits_next _ _ _ c.loop-part.invariant.visited _ _ _ here (fits_there _ _ c.requires here)
          (writes_own _ c.args.source.now (Literal c.in-Literal.span)
          c.bytes_at.result.now _ _ appended.ok appended.len appended.capacity
          (λ look. ap (map Own) (sym c.bytes_at.ensures)))
          refl c.in-Some.ensures.counted;
    }

pub loop-part-smaller-in-Literal : goal.loop-part-smaller-in-Literal
loop-part-smaller-in-Literal g c =
    let here = part_here c.in-Some.ensures.part c.loop-part.invariant.same c.in-Literal.is in
    omega (arith, here.below)

pub returns-in_err-append_bytes-in-Literal : goal.returns-in_err-append_bytes-in-Literal
returns-in_err-append_bytes-in-Literal g c =
    let here = part_here c.in-Some.ensures.part c.loop-part.invariant.same c.in-Literal.is in
    let gone = c.from_residual in
    let (e, is, gives_error) = err_from_is_err_and gone.result gone.ensures.1 in
    let failed = c.in_err-append_bytes-in-Literal.ensures in
    rw (is, gives_error) (visits_until _ _ _ c.loop-part.invariant.visited _ _ _ here
    (stops_at_own _ c.args.source.now (Literal c.in-Literal.span) c.bytes_at.result.now _ _ _ failed.err
    failed.full failed.capacity (λ look. ap (map Own) (sym c.bytes_at.ensures))) c.in-Some.ensures.counted)

pub loop-part-preserved-in-Escaped : goal.loop-part-preserved-in-Escaped
loop-part-preserved-in-Escaped g c =
    let here = part_here c.in-Some.ensures.part c.loop-part.invariant.same c.in-Escaped.is in
    let appended = c.in_ok-append_byte-in-Escaped.ensures in
    record {
      same = c.in-Some.ensures.same ∙ c.loop-part.invariant.same;
      within = omega (arith, here.below);
      visited =
          visits_next _ _ _ c.loop-part.invariant.visited _ _ _ here (fits_there _ _ c.requires here)
          (writes_own _ c.args.source.now (Escaped c.in-Escaped.byte) (c.in-Escaped.byte ∷ []) _ _
          appended.ok appended.len appended.capacity (λ look. refl))
          refl c.in-Some.ensures.counted;
    }

pub loop-part-smaller-in-Escaped : goal.loop-part-smaller-in-Escaped
loop-part-smaller-in-Escaped g c =
    let here = part_here c.in-Some.ensures.part c.loop-part.invariant.same c.in-Escaped.is in
    omega (arith, here.below)

pub returns-in_err-append_byte-in-Escaped : goal.returns-in_err-append_byte-in-Escaped
returns-in_err-append_byte-in-Escaped g c =
    let here = part_here c.in-Some.ensures.part c.loop-part.invariant.same c.in-Escaped.is in
    let gone = c.from_residual-in_err-append_byte-in-Escaped in
    let (e, is, gives_error) = err_from_is_err_and gone.result gone.ensures.1 in
    let failed = c.in_err-append_byte-in-Escaped.ensures in
    rw (is, gives_error) (visits_until _ _ _ c.loop-part.invariant.visited _ _ _ here
    (stops_at_own _ c.args.source.now (Escaped c.in-Escaped.byte) (c.in-Escaped.byte ∷ []) _ _ _ failed.err
    (omega (arith, failed.full)) failed.capacity (λ look. refl)) c.in-Some.ensures.counted)

pub loop-part-preserved-in-Variable : goal.loop-part-preserved-in-Variable
loop-part-preserved-in-Variable g c =
    let here = part_here c.in-Some.ensures.part c.loop-part.invariant.same c.in-Variable.is in
    let look_up = g.M.VariableMap.look_up c.args.variables.now in
    let appended = c.in_ok-append_bytes-in-Variable.ensures in
    record {
      same = c.in-Some.ensures.same ∙ c.loop-part.invariant.same;
      within = omega (arith, here.below);
      visited =
          visits_next _ _ _ c.loop-part.invariant.visited _ _ _ here (fits_there _ _ c.requires here)
          (writes_value _ c.args.source.now (Variable c.in-Variable.name) c.bytes_of.result.now _ _
          appended.ok appended.len appended.capacity (found_gives g.R.ReadValue.read g.M.VariableMap.see
          look_up c.in-Some-get.value _ c.name_at.ensures c.in-Some-get.ensures.value
          c.bytes_of.ensures.bytes)
          (rw (← c.name_at.ensures, has_mark look_up c.in-Some-get.ensures.value) refl)
          c.bytes_of.ensures.property)
          refl c.in-Some.ensures.counted;
    }

pub loop-part-smaller-in-Variable : goal.loop-part-smaller-in-Variable
loop-part-smaller-in-Variable g c =
    let here = part_here c.in-Some.ensures.part c.loop-part.invariant.same c.in-Variable.is in
    omega (arith, here.below)

pub returns-in_err-append_bytes-in-Variable : goal.returns-in_err-append_bytes-in-Variable
returns-in_err-append_bytes-in-Variable g c =
    let here = part_here c.in-Some.ensures.part c.loop-part.invariant.same c.in-Variable.is in
    let look_up = g.M.VariableMap.look_up c.args.variables.now in
    let gone = c.from_residual-in_err-append_bytes-in-Variable in
    let (e, is, gives_error) = err_from_is_err_and gone.result gone.ensures.1 in
    let failed = c.in_err-append_bytes-in-Variable.ensures in
    rw (is, gives_error) (visits_until _ _ _ c.loop-part.invariant.visited _ _ _ here
    (stops_at_value _ c.args.source.now (Variable c.in-Variable.name) c.bytes_of.result.now _ _ _ failed.err
    failed.full failed.capacity (found_gives g.R.ReadValue.read g.M.VariableMap.see look_up
    c.in-Some-get.value _ c.name_at.ensures c.in-Some-get.ensures.value c.bytes_of.ensures.bytes))
    c.in-Some.ensures.counted)

pub returns-in_default-get : goal.returns-in_default-get
returns-in_default-get g c =
    let here = part_here c.in-Some.ensures.part c.loop-part.invariant.same c.in-Variable.is in
    let look_up = g.M.VariableMap.look_up c.args.variables.now in
    visits_until _ _ _ c.loop-part.invariant.visited _ _ _ here
    (stops_missing _ c.args.source.now (Variable c.in-Variable.name) c.in-Variable.name _
    (λ bytes reads. rw (← c.name_at.ensures, has_none bytes look_up c.in_default-get.ensures.value) refl)
    (rw (← c.name_at.ensures, has_no_mark look_up c.in_default-get.ensures.value) refl)
    (fits_there _ _ c.requires here).0) c.in-Some.ensures.counted

pub loop-part-preserved-in-Some-get-2 : goal.loop-part-preserved-in-Some-get-2
loop-part-preserved-in-Some-get-2 g c =
    let here = part_here c.in-Some.ensures.part c.loop-part.invariant.same c.in-Default.is in
    let look_up = g.M.VariableMap.look_up c.args.variables.now in
    let appended = c.in_ok-append_bytes-in-Some-get-2.ensures in
    record {
      same = c.in-Some.ensures.same ∙ c.loop-part.invariant.same;
      within = (fits_there _ _ c.requires here).1.1;
      visited =
          visits_next _ _ _ c.loop-part.invariant.visited _ _ _ here (fits_there _ _ c.requires here)
          (writes_value _ c.args.source.now (Default c.in-Default.name c.in-Default.next)
          c.bytes_of-in-Some-get-2.result.now _ _ appended.ok appended.len appended.capacity (found_gives
          g.R.ReadValue.read g.M.VariableMap.see look_up c.in-Some-get-2.value _
          c.name_at-in-Default.ensures c.in-Some-get-2.ensures.value
          c.bytes_of-in-Some-get-2.ensures.bytes)
          (rw (← c.name_at-in-Default.ensures, has_mark look_up c.in-Some-get-2.ensures.value) refl)
          c.bytes_of-in-Some-get-2.ensures.property)
          (rw (← c.name_at-in-Default.ensures, ← c.in-Some-get-2.ensures.value) refl)
          c.in-Some.ensures.counted;
    }

pub loop-part-smaller-in-Some-get-2 : goal.loop-part-smaller-in-Some-get-2
loop-part-smaller-in-Some-get-2 g c =
    let here = part_here c.in-Some.ensures.part c.loop-part.invariant.same c.in-Default.is in
    omega (arith, (fits_there _ _ c.requires here).1.0, (fits_there _ _ c.requires here).1.1)

pub returns-in_err-append_bytes-in-Some-get-2 : goal.returns-in_err-append_bytes-in-Some-get-2
returns-in_err-append_bytes-in-Some-get-2 g c =
    let here = part_here c.in-Some.ensures.part c.loop-part.invariant.same c.in-Default.is in
    let look_up = g.M.VariableMap.look_up c.args.variables.now in
    let gone = c.from_residual-in_err-append_bytes-in-Some-get-2 in
    let (e, is, gives_error) = err_from_is_err_and gone.result gone.ensures.1 in
    let failed = c.in_err-append_bytes-in-Some-get-2.ensures in
    rw (is, gives_error) (visits_until _ _ _ c.loop-part.invariant.visited _ _ _ here
    (stops_at_value _ c.args.source.now (Default c.in-Default.name c.in-Default.next)
    c.bytes_of-in-Some-get-2.result.now _ _ _ failed.err failed.full failed.capacity (found_gives
    g.R.ReadValue.read g.M.VariableMap.see look_up c.in-Some-get-2.value _ c.name_at-in-Default.ensures
    c.in-Some-get-2.ensures.value c.bytes_of-in-Some-get-2.ensures.bytes)) c.in-Some.ensures.counted)

pub loop-part-preserved : goal.loop-part-preserved
loop-part-preserved g c =
    let here = part_here c.in-Some.ensures.part c.loop-part.invariant.same c.in-Default.is in
    let look_up = g.M.VariableMap.look_up c.args.variables.now in
    record {
      same = c.in-Some.ensures.same ∙ c.loop-part.invariant.same;
      within = omega (arith, here.below);
      visited =
          visits_next _ _ _ c.loop-part.invariant.visited _ _ _ here (fits_there _ _ c.requires here)
          (writes_nothing _ c.args.source.now (Default c.in-Default.name c.in-Default.next) _
          (λ bytes reads. rw (
            ← c.name_at-in-Default.ensures,
            has_none bytes look_up
                c.in-None.ensures.value,
          )
          refl)
          (rw (← c.name_at-in-Default.ensures, has_no_mark look_up c.in-None.ensures.value) refl))
          (rw (← c.name_at-in-Default.ensures, ← c.in-None.ensures.value) refl) c.in-Some.ensures.counted;
    }

pub loop-part-smaller : goal.loop-part-smaller
loop-part-smaller g c =
    let here = part_here c.in-Some.ensures.part c.loop-part.invariant.same c.in-Default.is in
    omega (arith, here.below)

pub returns : goal.returns
returns g c =
    let past = none_here c.in_default.ensures.part c.loop-part.invariant.same in
    visits_all _ _ _ c.loop-part.invariant.visited past c.in_default.ensures.counted
