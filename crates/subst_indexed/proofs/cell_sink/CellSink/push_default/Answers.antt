-- The name is numbered, and the cell appended.
use Rattle.std.proofs.Common.{refl, ◌∙◌}
use Rattle.std.proofs.lemmas.Result.{on_ok_weaker, on_err_weaker}
use Rattle.subst_indexed.proofs.SinkLemmas.{on_any_err, unchanged_after}
use Rattle.subst_indexed.proofs.cell_sink.CellSink.push_default.Goals as goal

pub returns-in_err-number-clause-err : goal.returns-in_err-number-clause-err
returns-in_err-number-clause-err c =
    on_any_err c.from_residual.result
    record { cells = refl; names = c.in_err-number.ensures.err; source = refl }

pub returns-clause-ok : goal.returns-clause-ok
returns-clause-ok c =
    let numbered = c.in_ok-number.ensures in
    on_ok_weaker c.push_or_truncate.result
    (λ pushed. record {
      mid = _;
      adds = record {
        cells = refl;
        source = refl;
        keeps = numbered.keeps;
        named = λ _. numbered.named;
        uses = numbered.uses;
      };
      number = c.in_ok-number.number;
      numbered = numbered.number;
      pushes = pushed;
    }) c.push_or_truncate.ensures.ok

pub returns-clause-err : goal.returns-clause-err
returns-clause-err c =
    on_err_weaker c.push_or_truncate.result
    (unchanged_after c.args.self.now _ _ c.push_or_truncate.new.self refl refl
    (c.len-known.ensures ∙ c.args.self.now.names.list.ok.0) c.in_ok-number.ensures.front)
    c.push_or_truncate.ensures.err
