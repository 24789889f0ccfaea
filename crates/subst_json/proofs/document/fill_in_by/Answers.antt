-- A text in which no string changes is read as a tree that is filled in as itself.
use Rattle.std.proofs.Common.{rules, string_bytes, subst}
use Rattle.std.proofs.lemmas.Result.{IfOk-weaker}
use Rattle.json.specs.Lex.{tokens}
use Rattle.subst_language.specs.Language.Several.{GivesBy}
use Rattle.subst_document.specs.Stays.{StatesChange}
use Rattle.subst_json.specs.Filled.{strings_in}
use Rattle.subst_json.proofs.StaysLemmas.{unchanged_document}
use Rattle.subst_json.proofs.document.fill_in_by.Goals as goal

pub returns-in-Ok-Some-2 : goal.returns-in-Ok-Some-2
returns-in-Ok-Some-2 g c =
    let Becomes = GivesBy (g.F.Fill.answers c.args.filler.now) in
    let source = c.args.source.now in
    let filled = c.in-Ok-Some.filled in
    let tells : StatesChange Becomes (strings_in (tokens source)) source (string_bytes filled.text)
    filled.is_changed = rw c.in-Ok-Some.field-0-is at c.in-Ok-Some.ensures.changed in
    let stays = subst (StatesChange Becomes (strings_in (tokens source)) source (string_bytes filled.text))
    c.if-filled_in.false tells in record {
      filled = record {
        output = IfOk-weaker c.unchanged.result _ _ (unchanged_document Becomes source filled.text stays.0 stays.1
            (rw c.in-Ok-Some.field-0-is at c.in-Ok-Some.ensures.ok)) c.unchanged.ensures.same;
        unconfirmed = search rules;
        json = c.unchanged.ensures.json;
        kind = c.unchanged.ensures.kind;
        subst = search rules;
        range = search rules;
        memory = c.unchanged.ensures.memory;
      };
    }
