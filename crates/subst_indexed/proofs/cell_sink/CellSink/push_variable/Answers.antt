-- The cell keeps the span of the name, and its number.
use Rattle.std.proofs.Common.{refl, ◌∙◌}
use Rattle.std.proofs.lemmas.Result.{on_ok_weaker, on_err_weaker}
use Rattle.subst_language.specs.Parts.Meaning.{part_variables}
use Rattle.subst_language.specs.declared.part.Part.TheVariants as parts
use Rattle.subst_indexed.proofs.SinkLemmas.{adds_part, keeps_parts, unchanged_after}
use Rattle.subst_indexed.proofs.cell_sink.CellSink.push_variable.Goals as goal

pub returns-clause-taken : goal.returns-clause-taken
returns-clause-taken c =
    let numbered = c.in_ok-number.ensures in
    let sink = c.args.self.now in
    on_ok_weaker c.push_or_truncate.result
    (adds_part sink _ c.push_or_truncate.new.self (λ _. parts.Variable c.args.name) _
    (part_variables (parts.Variable c.args.name) sink.source.now)
    record {
      cells = refl;
      source = refl;
      keeps = numbered.keeps;
      named = λ _. numbered.named;
      uses = numbered.uses;
    }
    (λ index. refl) (λ first parts held. (refl, refl, numbered.number)))
    c.push_or_truncate.ensures.ok

pub returns-clause-kept : goal.returns-clause-kept
returns-clause-kept c =
    on_err_weaker c.push_or_truncate.result
    (λ cut. keeps_parts c.args.self.now c.push_or_truncate.new.self
    (unchanged_after c.args.self.now _ _ c.push_or_truncate.new.self refl refl
    (c.len-known.ensures ∙ c.args.self.now.names.list.ok.0) c.in_ok-number.ensures.front cut))
    c.push_or_truncate.ensures.err
