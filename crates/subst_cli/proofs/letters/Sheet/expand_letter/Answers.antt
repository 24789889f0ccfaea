-- The letter is refused, or its outputs are written.
use Rattle.std.proofs.Common.{arith, if◌then◌else◌, inl, inr, nat_lt, refl, subst}
use Rattle.std.proofs.KnownBytes.{Keeps-refl}
use Rattle.std.proofs.lemmas.Result.{on_ok_weaker}
use Rattle.subst_cli.proofs.LetterLemmas.{goes_on, none_refused, raised_if, refused_early, some_refused}
use Rattle.subst_cli.specs.Status.{Raises}
use Rattle.subst_filter_lib.specs.declared.status.TheConstants.{DONE, REFUSED}
use Rattle.subst_rows.specs.Row.{look_in_row}
use Rattle.subst_cli.proofs.letters.Sheet.expand_letter.Goals as goal
use Rattle.subst_cli.proofs.letters.Sheet.expand_letter.Goals.{else-leaves_out-via-then-leaves_out+else-not-self, else-leaves_out-via-else-leaves_out}

pub returns-then-not-branch : goal.returns-then-not-branch
returns-then-not-branch g c = record {
  letter = λ fixed fallback are.
      let bad = c.in_ok-check_head.ensures.bad c.if-not-branch.true in
      inl (
        refl,
        Keeps-refl _,
        (
          bad.0,
          refused_early c.args.letter.now (λ row. look_in_row c.args.letter.now.no_empty row fixed fallback) _
              bad.1,
        ),
      );
}

pub returns-in-Err : goal.returns-in-Err
returns-in-Err g c = record {
  letter = λ fixed fallback are.
      let good = c.in_ok-check_head.ensures.good c.if-not-branch.false in
      inl (
        refl,
        Keeps-refl _,
        on_ok_weaker c.refuse_rows.result
            (λ told. (
              subst (λ w. Raises w c.refuse_rows.new.report.worst REFUSED) good told.0,
              inl (c.in-Err.e, c.in-Err.ensures.err told.1),
            )) c.refuse_rows.ensures,
      );
}

pub returns-then-not-self : goal.returns-then-not-self
returns-then-not-self g c = record {
  letter = λ fixed fallback are.
      let good = c.in_ok-check_head.ensures.good c.if-not-branch.false in
      let told = c.in-Ok.ensures.ok fixed fallback are in
      inl (
        refl,
        Keeps-refl _,
        (
          subst (λ w. Raises w c.report_refused.new.report.worst REFUSED) good
              (c.in_ok-report_refused.ensures.some c.if-leaves_out.true),
          inr (inr (
            some_refused c.args.letter.now
                (λ row. look_in_row c.args.letter.now.no_empty row fixed fallback) told.0 c.in-Ok.refused.count
                c.if-leaves_out.true told.1,
            c.if-not-self.true,
          )),
        ),
      );
}

pub returns : goal.returns
returns g c = record {
  letter = λ fixed fallback are.
      let good = c.in_ok-check_head.ensures.good c.if-not-branch.false in
      let told = c.in-Ok.ensures.ok fixed fallback are in
      inr (
        told.0,
        nat_lt 0 c.in-Ok.refused.count,
        c.report_refused.new.report.worst,
        told.1,
        elim c.else-leaves_out.branch [
          | else-leaves_out-via-then-leaves_out+else-not-self w ↦
              goes_on (nat_lt 0 c.in-Ok.refused.count) c.args.self.now.rows.keeps_going w.if-not-self.false
          | else-leaves_out-via-else-leaves_out w ↦ none_refused _ _ (omega (arith, w.if-leaves_out.false))
        ],
        subst (λ w. Raises w c.report_refused.new.report.worst
            (if nat_lt 0 c.in-Ok.refused.count then REFUSED else DONE)) good
            (raised_if c.in-Ok.refused.count _ _ c.in_ok-report_refused.ensures.none
            c.in_ok-report_refused.ensures.some),
        c.write.ensures.written fixed fallback are,
      );
}
