-- Each argument so far is the output of its source.
use Rattle.std.proofs.Common.{map, take}
use Rattle.subst.specs.Language.Several.{EachGives, under}
use Rattle.subst_uses.specs.CommandLine.{texts_of}
use Rattle.subst_uses.proofs.launcher.command_line.Given as goal

abbrev pub invariant-loop-word : goal.invariant-loop-word
invariant-loop-word l =
    let sources = map (λ w. w.now) (take l.word-index l.words) in
    EachGives (under (texts_of l.variables)) sources (map (λ x. x.items) l.line.items)
