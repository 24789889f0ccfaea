-- The outputs were handed on as the action says, or some of them were printed.
use Rattle.std.proofs.Common.{Err, Ok, arith, inl, inr, refl}
use Rattle.std.proofs.KnownBytes.{Keeps-refl}
use Rattle.subst_cli.proofs.LetterLemmas.{all_printed, handed_on, none_printed}
use Rattle.std.specs.declared.alloc.AllocError.{AllocError}
use Rattle.subst_rows.specs.Row.{look_in_row}
use Rattle.subst_cli.proofs.letters.Sheet.write.Goals as goal

pub returns-in-Ok : goal.returns-in-Ok
returns-in-Ok g c = record {
  written = λ fixed fallback are.
      let told = c.in-Ok.ensures.all fixed fallback are in
      let wrote = rw (c.deref.ensures.value, told.4, c.as_bytes.ensures.value) at c.write.ensures in
      handed_on c.write.result
      c.args.letter.now (λ row. look_in_row c.args.letter.now.no_empty row fixed fallback) _ _ _ _ _ _ _ _ _
      (λ is. absurd (grind (arith, c.in-WriteTo.is, is)))
      (rw c.in-WriteTo.is (inl (
        told.0,
        told.1,
        told.2,
        told.3,
        (wrote.0, wrote.1, wrote.3, (wrote.2, Keeps-refl _), wrote.4),
      )));
}

pub returns-in-Err : goal.returns-in-Err
returns-in-Err g c = record {
  written = λ fixed fallback are.
      none_printed {E = AllocError} (Err _)
      c.args.letter.now (λ row. look_in_row c.args.letter.now.no_empty row fixed fallback) _ _ _ _ _ _ _ _ _
      (λ is. absurd (grind (arith, c.in-WriteTo.is, is))) refl refl refl;
}

pub returns-in-Ok-write : goal.returns-in-Ok-write
returns-in-Ok-write g c = record {
  written = λ fixed fallback are.
      let told = rw c.as_bytes.ensures.value at c.in-Ok-write.ensures.all fixed fallback are in
      all_printed {E = AllocError} (Ok tt)
      c.args.letter.now (λ row. look_in_row c.args.letter.now.no_empty row fixed fallback) _ _ _ _ _ _ _ _
      told.0 told.1 told.2 told.3 told.4 refl refl _ c.in_default.not-Check
      (λ path is. c.in_default.not-WriteTo path is);
}

pub returns-in-Err-Failed : goal.returns-in-Err-Failed
returns-in-Err-Failed g c = record {
  written = λ fixed fallback are.
      let told = rw c.as_bytes.ensures.value at c.write-in_default.ensures.some fixed fallback are in
      handed_on c.report_failure.result
      c.args.letter.now (λ row. look_in_row c.args.letter.now.no_empty row fixed fallback) _ _ _ _ _ _ _ _ _
      c.in_default.not-Check
      (inr (told.0, told.1, told.2, refl, c.report_failure.ensures));
}

pub returns-in-Err-Refused : goal.returns-in-Err-Refused
returns-in-Err-Refused g c = record {
  written = λ fixed fallback are.
      let told = rw c.as_bytes.ensures.value at c.write-in_default.ensures.some fixed fallback are in
      handed_on {E = AllocError} (Err _)
      c.args.letter.now (λ row. look_in_row c.args.letter.now.no_empty row fixed fallback) _ _ _ _ _ _ _ _ _
      c.in_default.not-Check (inr (told.0, told.1, told.2, refl, tt));
}
