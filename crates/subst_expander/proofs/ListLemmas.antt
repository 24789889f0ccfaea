-- Lemmas on lists that are iterated over, and on lists whose elements have partners in another list.
use Rattle.std.proofs.Common.{◌≡◌, ◌∙◌, ◌∷◌, ◌++◌, [], Bool, true, false, List, Option, None, Vec, append-nil, arith, filter, length, map, refl, sym, vec_len}
use Rattle.std.proofs.lemmas.List.{map-append}
use Rattle.std.proofs.lemmas.List.Elements.{filter-append}
use Rattle.std.proofs.lemmas.Slice.Zip.{all_zipped_more}
use Rattle.std.proofs.lemmas.Iterator.{zips, YieldsList-from_zip}
use Rattle.std.proofs.lemmas.Iterator.Adapters.{YieldsList-from_vec}
use Rattle.std.proofs.lemmas.Iterator.Consumers.{YieldsList-end}
use Rattle.std.proofs.lemmas.List.{map-id}
use Rattle.std.specs.Iterator.{Yields}
use Rattle.std.specs.Iterator.Adapters.{zip_first, zip_second}
use Rattle.std.specs.List.{zip, AllZip}
use Rattle.std.specs.Vec.Iter.{into_iter_items, into_iter_len, into_iter_steps}
use Rattle.std.specs.declared.iter.Zip.{Zip}
use Rattle.std.specs.declared.vec.IntoIter.{IntoIter}

-- the iterator of a list that has yielded some items
module _ {X Z : Type 0} (all : Vec X Z) (s t u : IntoIter X Z) (xs : List X) (r : Option X)
    (items : into_iter_items s ≡ all.items) (len : into_iter_len s ≡ vec_len all)
    (yields : Yields into_iter_steps s xs t) (steps : into_iter_steps t r u) where
  counted : into_iter_len s ≡ length all.items
  counted = omega (arith, all.ok.0)

  -- at its end, the yielded items are the list
  pub vec_yielded : r ≡ None → xs ≡ all.items
  vec_yielded none =
      sym (map-id xs)
      ∙ (YieldsList-end (YieldsList-from_vec all.items items counted) xs t yields r u none steps).0

-- at the end of two lists that are iterated over together, the yielded items are their pairs
pub zip_yielded : {X Y Z W : Type 0} (xs : Vec X Z) (ys : Vec Y W) (s t u : Zip (IntoIter X Z) (IntoIter Y W))
    (pairs : List (X × Y)) (r : Option (X × Y)) → into_iter_items (zip_first s) ≡ xs.items
    → into_iter_len (zip_first s) ≡ vec_len xs → into_iter_items (zip_second s) ≡ ys.items
    → into_iter_len (zip_second s) ≡ vec_len ys → Yields (zips into_iter_steps into_iter_steps) s pairs t
    → zips into_iter_steps into_iter_steps t r u → r ≡ None → pairs ≡ zip xs.items ys.items
zip_yielded xs ys s t u pairs r first first_len second second_len yields steps none =
    sym (map-id pairs) ∙ (YieldsList-end (YieldsList-from_zip
    (YieldsList-from_vec xs.items first (first_len ∙ xs.ok.0))
    (YieldsList-from_vec ys.items second (second_len ∙ ys.ok.0))) pairs t yields r u none steps).0

-- an empty list has partners only for none
pub none_zipped : {X Y : Type 0} (R : X → Y → Type 0) (xs : List X) (ys : List Y) → AllZip R xs ys → ys ≡ []
    → xs ≡ []
none_zipped R [] ys are none = refl
none_zipped R (x ∷ xs) ys are none = absurd (rw none at are)

-- partners have a weaker relation too
pub zipped_weaker : {X Y : Type 0} (R Q : X → Y → Type 0) → ((x : X) (y : Y) → R x y → Q x y) → (xs : List X)
    (ys : List Y) → AllZip R xs ys → AllZip Q xs ys
zipped_weaker R Q weaker [] [] are = tt
zipped_weaker R Q weaker [] (y ∷ ys) are = are
zipped_weaker R Q weaker (x ∷ xs) [] are = are
zipped_weaker R Q weaker (x ∷ xs) (y ∷ ys) are =
    (weaker x y are.0, zipped_weaker R Q weaker xs ys are.1)

-- the elements that pass a test have partners; one more element passes, or doesn't
module _ {X Y Z : Type 0} (f : X → Y) (test : Y → Bool) (R : Y → Z → Type 0) (xs : List X) (x : X) (zs : List Z)
    (are : AllZip R (filter test (map f xs)) zs) where
  pub kept_more : (z : Z) → test (f x) ≡ true → R (f x) z
      → AllZip R (filter test (map f (xs ++ x ∷ []))) (zs ++ z ∷ [])
  kept_more z passes holds =
      rw (map-append f xs (x ∷ []), filter-append test (map f xs) (f x ∷ []), passes)
      (all_zipped_more R (filter test (map f xs)) zs (f x) z are holds)

  pub kept_same : test (f x) ≡ false → AllZip R (filter test (map f (xs ++ x ∷ []))) zs
  kept_same fails =
      rw (map-append f xs (x ∷ []), filter-append test (map f xs) (f x ∷ []), fails, append-nil) are
