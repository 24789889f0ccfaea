use Rattle.subst_yaml_reader.specs.Stream.{to_come}
use Rattle.subst_yaml.proofs.FilledLemmas.{Comparing}
use Rattle.subst_yaml.proofs.compared.are_filled.Given as goal

abbrev pub invariant-loop : goal.invariant-loop
invariant-loop g l =
    Comparing (g.F.Fill.answers l.filler) l.texts.source.now l.texts.output.now (to_come l.fn.events)
    (to_come l.fn.filled) (to_come l.events) (to_come l.filled) l.at
