-- Unquoted text on one line, which is its own value.
use Rattle.std.proofs.Common.{◌≡◌, ℕ, Bool, true, false, ◌||◌, ◌==◌, List, [], ◌∷◌, ◌++◌, map, filter, refl, sym, ap, ◌∙◌, append_assoc, append-nil, arith}
use Rattle.std.specs.List.{list_any}
use Rattle.std.proofs.lemmas.List.Elements.{filter-append}
use Rattle.subst_yaml_reader.specs.Bytes.{begins, is_blank, is_line_end, line_feed, backslash}
use Rattle.subst_yaml_reader.specs.Decoded.{piece_of}
use Rattle.subst_yaml_reader.specs.Search.{is_line_feed}
use Rattle.subst_yaml_reader.specs.Values.{folded, gap}
use Rattle.subst_yaml_reader.specs.declared.folded.Piece.{Piece}
use Rattle.subst_yaml_reader.specs.declared.folded.Piece.TheVariants as piece

-- white space without line feeds, which doesn't begin with a backslash
record IsOnLine (white : List ℕ) : Type 0 where
  pub start : begins backslash white ≡ false
  pub ends : filter (λ b. b == line_feed) white ≡ []

gap-on_line : (white : List ℕ) → IsOnLine white → gap white ≡ white
gap-on_line white h = rw (h.start, h.ends) refl

white_more : (white : List ℕ) (b : ℕ) → IsOnLine white → (b == backslash) ≡ false → (b == line_feed) ≡ false
    → IsOnLine (white ++ b ∷ [])
white_more white b h other more = record {
  start = begun white h.start;
  ends = filter-append (λ c. c == line_feed) white (b ∷ []) ∙ rw (h.ends, more) refl;
}
  where
    begun : (bytes : List ℕ) → begins backslash bytes ≡ false → begins backslash (bytes ++ b ∷ []) ≡ false
    begun [] is = other
    begun (c ∷ rest) is = is

-- pieces that add nothing to a value but the white space before them
abbrev Ends : List Piece → Type 0
Ends more = (white : List ℕ) → folded white more ≡ gap white

kept : (more : List Piece) → Ends more → (white text : List ℕ) → IsOnLine white → list_any is_line_feed text ≡ false
    → folded white (map piece_of text ++ more) ≡ white ++ text
unfolding folded
kept more over white [] h clear = over white ∙ gap-on_line white h ∙ sym (append-nil white)
kept more over white (b ∷ rest) h clear =
    step (λ w on none. kept more over w rest on none) (is_blank b || is_line_end b) refl (b == line_feed) refl
  where
    later : (b == line_feed) ≡ false → list_any is_line_feed rest ≡ false
    later inside = grind arith

    step : (again : (w : List ℕ) → IsOnLine w → list_any is_line_feed rest ≡ false
        → folded w (map piece_of rest ++ more) ≡ w ++ rest)
        → (is_white : Bool) → (is_blank b || is_line_end b) ≡ is_white → (ends : Bool)
        → (b == line_feed) ≡ ends
        → folded white (piece_of b ∷ (map piece_of rest ++ more)) ≡ white ++ b ∷ rest
    step again is_white is true ends_there =
        absurd (let bad : list_any is_line_feed (b ∷ rest) ≡ true = rw ends_there refl in cc)
    step again true is false inside = rw is
        (again (white ++ b ∷ []) (white_more white b h (grind arith) inside) (later inside)
        ∙ append_assoc white (b ∷ []) rest)
    step again false is false inside = rw is
        (ap (λ gone. (gone ++ b ∷ []) ++ folded [] (map piece_of rest ++ more)) (gap-on_line white h)
        ∙ ap (λ value. (white ++ b ∷ []) ++ value) (again [] (record { start = refl; ends = refl }) (later inside))
        ∙ append_assoc white (b ∷ []) rest)

-- unquoted text on one line is its value
pub plain_kept : (text : List ℕ) → list_any is_line_feed text ≡ false → folded [] (map piece_of text) ≡ text
unfolding folded
plain_kept text clear = ap (folded []) (sym (append-nil (map piece_of text)))
    ∙ kept [] (λ white. refl) [] text (record { start = refl; ends = refl }) clear
