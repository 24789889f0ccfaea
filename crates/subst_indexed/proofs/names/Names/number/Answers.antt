-- A new name has the next number, and the others keep theirs.
use Rattle.std.proofs.lemmas.Result.{IfOk-weaker}
use Rattle.subst_language.specs.Parts.Span.{span_bytes}
use Rattle.subst_indexed.proofs.NumberingLemmas.{added_keeps, added_number, added_uses, on_ok_of, uses_known}
use Rattle.subst_indexed.proofs.names.Names.number.Goals as goal

pub returns-in_ok-number-in-Some-clause-uses : goal.returns-in_ok-number-in-Some-clause-uses
returns-in_ok-number-in-Some-clause-uses c =
    uses_known c.args.self.now.list.items
    (record { position = c.args.span.start; name = span_bytes c.args.span c.args.source.now }) c.in-Some.index
    c.in-Some.ensures

pub returns-in-None-clause-number : goal.returns-in-None-clause-number
returns-in-None-clause-number c =
    IfOk-weaker c.add.result _ _
    (λ number added. added_number c.args.span.start (span_bytes c.args.span c.args.source.now)
    c.args.self.now.list.items c.add.new.self.list.items number added.1 c.in-None.ensures added.0)
    c.add.ensures.ok

pub returns-in-None-clause-keeps : goal.returns-in-None-clause-keeps
returns-in-None-clause-keeps c =
    on_ok_of c.add.result _ c.add.ensures.ok
    (λ number added. added_keeps c.args.span.start (span_bytes c.args.span c.args.source.now)
    c.args.self.now.list.items c.add.new.self.list.items added.1)

pub returns-in-None-clause-uses : goal.returns-in-None-clause-uses
returns-in-None-clause-uses c =
    on_ok_of c.add.result _ c.add.ensures.ok
    (λ number added. added_uses c.args.span.start (span_bytes c.args.span c.args.source.now)
    c.args.self.now.list.items c.add.new.self.list.items added.1 c.in-None.ensures)
