-- A template's parts are those of its source's tree, by its invariant.
use Rattle.std.proofs.Common.{subst}
use Rattle.subst_language.specs.Language.Sentence.{IsSentence}
use Rattle.subst_template.proofs.template.byte_template.ByteTemplate.source.Goals as goal

pub returns-clause-sentence : goal.returns-clause-sentence
returns-clause-sentence c = subst IsSentence c.self.view_is (c.self.invariant.tree, c.self.invariant.spells)
