-- The answers are identified with their bytes, which are those of the texts.
use Rattle.std.proofs.Common.{◌≡◌, ℕ, List, refl, sym}
use Rattle.std.proofs.lemmas.Iterator.Adapters.{option_map_id}
use Rattle.std.specs.Borrow.{Bor}
use Rattle.subst_language.specs.Maps.{of_one}
use Rattle.subst_language.specs.declared.maps.layered.OneOf.{OneOf}
use Rattle.subst_language.specs.declared.maps.layered.OneOf.TheVariants.{First, Second}
use Rattle.subst_foreign.proofs.laws.questions_are_answered_by_texts.Goals as goal

-- the text of an answer has the answer's bytes, if the text of each value has the value's
text_is_bytes : {V : Type 0} (text items : V → List ℕ) → ((v : V) → text v ≡ items v)
    → (answer : OneOf V (Bor (List ℕ)))
    → of_one text (λ t. t.now) answer ≡ of_one items (λ t. t.now) answer
text_is_bytes text items same (First v) = same v
text_is_bytes text items same (Second empty) = refl

pub returns : goal.returns
returns g c = record {
  shell = λ same. (
    (λ bytes. bytes),
    text_is_bytes _ _ same,
    (λ map name. sym (option_map_id _)),
  );
}
