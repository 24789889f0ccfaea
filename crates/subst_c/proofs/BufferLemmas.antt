-- The items that are written to the buffer are the wanted ones.
use Rattle.std.proofs.Common.{◌≡◌, ◌<◌, ◌≤◌, ℕ, ◌+◌, List, [], ◌∷◌, ◌++◌, drop, get_or, length, map, take, ap, ◌∙◌, subst, sym, append_assoc, arith}
use Rattle.std.proofs.Math.ListN.{set}
use Rattle.std.proofs.Math.Seq.{set-append_seam}
use Rattle.std.proofs.lemmas.List.{drop_more, length-map, length-take-le, map-append, take_more}
use Rattle.subst_c.specs.Buffer.{FillsBuffer, IsPut}

-- items that are written as wanted are so too under a weaker property
pub put_as : {A : Type 0} {W V : List A → Type 0} {needed : ℕ} {old new : List A}
    → ((x : List A) → W x → V x) → IsPut W needed old new → IsPut V needed old new
put_as so put = record {
  items = put.items;
  wanted = so put.items put.wanted;
  counted = put.counted;
  put = put.put;
}

-- a call that fills the buffer with wanted items does so too under a weaker property
pub fills_as : {A : Type 0} {W V : List A → Type 0} {result needed_old needed : ℕ} {old new : List A}
    → ((x : List A) → W x → V x) → FillsBuffer W result needed_old needed old new
    → FillsBuffer V result needed_old needed old new
fills_as so fills = record {
  done = λ is. put_as so (fills.done is);
  too_small = λ is.
      let long = fills.too_small is in record {
        items = long.items;
        wanted = so long.items long.wanted;
        counted = long.counted;
        longer = long.longer;
      };
  buffer_kept = fills.buffer_kept;
  needed_kept = fills.needed_kept;
}

-- a call fills the buffer with these items, which are wanted
pub fills_with : {A : Type 0} {W : List A → Type 0} {items : List A} {result needed_old needed : ℕ}
    {old new : List A} → W items → FillsBuffer (λ x. x ≡ items) result needed_old needed old new
    → FillsBuffer W result needed_old needed old new
fills_with {W = W} wanted fills = fills_as (λ x same. subst W (sym same) wanted) fills

-- the next item of a list is written to the buffer after those before it
pub one_more_put : {A B : Type 0} (f : A → B) (xs : List A) (old new : List B) (i : ℕ) (x : A) (y : B)
    → i < length xs → length xs ≤ length old → x ≡ get_or xs i x → y ≡ f x
    → new ≡ map f (take i xs) ++ drop i old
    → set new i y ≡ map f (take (i + 1) xs) ++ drop (i + 1) old
one_more_put f xs old new i x y below buffer here same so_far =
    let front = map f (take i xs) in
    let counted : length front ≡ i = length-map (take i xs) f ∙ length-take-le i xs (omega arith) in
    let old_here = get_or old i y in
    let rest = drop (i + 1) old in
    let cut : drop i old ≡ old_here ∷ rest = drop_more old i y (omega arith) in
    let seam : set (front ++ old_here ∷ rest) i y ≡ front ++ y ∷ rest =
    subst (λ n. set (front ++ old_here ∷ rest) n y ≡ front ++ y ∷ rest) counted
    (set-append_seam front old_here rest y) in
    let more : map f (take (i + 1) xs) ≡ front ++ y ∷ [] =
    ap (map f) (take_more xs i x below) ∙ map-append f (take i xs) (get_or xs i x ∷ [])
    ∙ ap (λ z. front ++ z ∷ []) (ap f (sym here) ∙ sym same) in
    ap (λ l. set l i y) (so_far ∙ ap (λ l. front ++ l) cut) ∙ seam
    ∙ sym (append_assoc front (y ∷ []) rest) ∙ ap (λ l. l ++ rest) (sym more)
