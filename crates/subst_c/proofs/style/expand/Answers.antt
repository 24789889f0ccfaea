-- The look-up of the pairs, as a template sees them, is that of the map.
use Rattle.std.proofs.Common.{◌≡◌, ◌⊎◌, inl, inr, refl}
use Rattle.subst_foreign.specs.Template.{seen_by}
use Rattle.subst_foreign.specs.declared.forms.Forms.{Forms}
use Rattle.subst_foreign.specs.declared.forms.Forms.TheVariants as of
use Rattle.subst_language.proofs.CallingLemmas.{same_look_up}
use Rattle.subst_language.specs.Language.LookUp.{LookUp}
use Rattle.subst_language.specs.Maps.{without_empty}
use Rattle.subst_foreign.specs.Question.{by_question}
use Rattle.subst_c.specs.Pairs.{pair_value}
use Rattle.subst_c.proofs.style.expand.Goals as goal

-- a template of the forms without questions sees the look-up itself
seen_plain : (forms : Forms) (look : LookUp) → (forms ≡ of.Own) ⊎ (forms ≡ of.Envsubst) → seen_by forms look ≡ look
seen_plain forms look (inl own) = rw own refl
seen_plain forms look (inr envsubst) = rw envsubst refl

pub returns-in-Own : goal.returns-in-Own
returns-in-Own c t spells =
    let look = pair_value c.args.given.now.pairs.now in
    rw (seen_plain c.args.forms look c.in-Own.is) (rw (same_look_up look) at
    (c.expand.ensures.value (λ v. v) (λ v. refl) t spells))

pub returns-in-Shell : goal.returns-in-Shell
returns-in-Shell c t spells =
    let look = pair_value c.args.given.now.pairs.now in
    rw c.in-Shell.is (rw (same_look_up (by_question look)) at
    (c.expand-in-Shell.ensures.value (λ v. v) (λ v. refl) t spells))

pub returns-in-Common : goal.returns-in-Common
returns-in-Common c t spells =
    let look = pair_value c.args.given.now.pairs.now in
    rw c.in-Common.is (rw (same_look_up (without_empty look)) at
    (c.expand-in-Common.ensures.value (λ v. v) (λ v. refl) t spells))
