-- The bytes of the values of two maps in layers. Each map has a function from its values to their bytes.
use Rattle.std.proofs.Common.{◌≡◌, inl, inr, ⊎_elim, ℕ, List, Option, Some, None, refl}
use Rattle.std.specs.Option.{option_map, option_or}
use Rattle.subst_language.specs.Calls.VariableMap.{ReadsAs, look_up_of}
use Rattle.subst_language.specs.Language.LookUp.{LookUp}
use Rattle.subst_language.specs.Maps.{AreReadAs, layered, of_one}
use Rattle.subst_language.specs.declared.maps.layered.OneOf.TheVariants.{First, Second}

-- The bytes of a `OneOf` follow from what it is identified with, if the same holds for values of each of its
-- two types.
pub of_one_reads_as : {A B S T : Type 0} (items : A → List ℕ) (other_items : B → List ℕ) (see : A → S)
    (other_see : B → T) (bytes : S → List ℕ) (other_bytes : T → List ℕ)
    → ReadsAs items see bytes → ReadsAs other_items other_see other_bytes
    → ReadsAs (of_one items other_items) (of_one (λ a. inl (see a)) (λ b. inr (other_see b)))
    (⊎_elim bytes other_bytes)
of_one_reads_as items other_items see other_see bytes other_bytes reads other_reads (First a) = reads a
of_one_reads_as items other_items see other_see bytes other_bytes reads other_reads (Second b) = other_reads b

-- Two maps in layers have, for a name, the bytes of the first map's value, or else of the second's.
pub layered_reads_as : {S T : Type 0} (bytes : S → List ℕ) (other_bytes : T → List ℕ)
    (first : List ℕ → Option S) (second : List ℕ → Option T) (name : List ℕ) (x y : Option (List ℕ))
    → x ≡ look_up_of bytes first name → y ≡ look_up_of other_bytes second name
    → option_or x y ≡ look_up_of (⊎_elim bytes other_bytes) (layered first second) name
layered_reads_as {S} {T} bytes other_bytes first second name x y p q = rw (p, q) (of (first name) (second name))
  where
    of : (a : Option S) (b : Option T) → option_or (option_map bytes a) (option_map other_bytes b)
        ≡ option_map (⊎_elim bytes other_bytes)
        (option_or (option_map (λ s. inl s) a) (option_map (λ t. inr t) b))
    of (Some s) b = refl
    of None (Some t) = refl
    of None None = refl

-- Two maps in layers have a look-up of bytes if each of them has one. For each name it has the first
-- look-up's value, or else the second's.
pub layers_are_read_as : {Layers M N A B S T : Type 0} (items : A → List ℕ) (other_items : B → List ℕ)
    (see : A → S) (other_see : B → T)
    (look_up : M → List ℕ → Option S) (other_look_up : N → List ℕ → Option T)
    (look : M → LookUp) (other_look : N → LookUp) (first : Layers → M) (second : Layers → N)
    → AreReadAs items see look_up look → AreReadAs other_items other_see other_look_up other_look
    → AreReadAs (of_one items other_items) (of_one (λ a. inl (see a)) (λ b. inr (other_see b)))
    (λ layers. layered (look_up (first layers)) (other_look_up (second layers)))
    (λ layers name. option_or (look (first layers) name) (other_look (second layers) name))
layers_are_read_as items other_items see other_see look_up other_look_up look other_look first second
    (bytes, reads, same) (other_bytes, other_reads, other_same) = (
      ⊎_elim bytes other_bytes,
      of_one_reads_as items other_items see other_see bytes other_bytes reads other_reads,
      (λ layers name. layered_reads_as bytes other_bytes
          (look_up (first layers)) (other_look_up (second layers)) name _ _
          (same (first layers) name) (other_same (second layers) name)),
    )
