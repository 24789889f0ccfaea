-- If the string changes, a token of the value replaces its token.
use Rattle.std.proofs.Common.{Some, rules, subst}
use Rattle.std.specs.Option.{option_map}
use Rattle.std.specs.Prelude.{string_bytes}
use Rattle.subst_language.specs.Language.Several.{GivesBy}
use Rattle.subst_document.specs.Edits.{IsChanged}
use Rattle.subst_document.proofs.EditLemmas.{edited}
use Rattle.subst_document.proofs.edits.fill_in_string.Goals as goal

pub returns-clause-outcome : goal.returns-clause-outcome
returns-clause-outcome g c =
    let Becomes = GivesBy (g.F.Fill.answers c.args.filler.now) in
    let changed : IsChanged Becomes c.args.text.now (option_map (λ v. string_bytes v)
    (Some c.in-Some.value)) =
    subst (λ o. IsChanged Becomes c.args.text.now (option_map (λ v. string_bytes v) o)) c.in-Some.is
    c.in_ok-value.ensures.ok in (
      changed.0,
      changed.1,
      edited g.S.StringFormat.is_token g.S.StringFormat.is_part g.S.StringFormat.is_fit Becomes _ _ _
          c.in-Some-cut_round.cut.before.now _ _ _ _ _ changed.0 changed.1 (search rules) (search rules)
          (search rules) c.in-Some-cut_round.ensures.0 c.in_ok-push_both.ensures,
    )
