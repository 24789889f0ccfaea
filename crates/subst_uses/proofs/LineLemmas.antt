-- Lists of arguments, which are outputs of sources.
use Rattle.std.proofs.Common.{◌≡◌, ℕ, ◌+◌, ◌<◌, List, [], ◌∷◌, ◌++◌, map, take, get_or, length, Option, Some, None, option_map, Result, Ok, Err, IfErr, IfSome, sym, subst, arith}
use Rattle.std.specs.Result.{IsErrAnd}
use Rattle.std.proofs.lemmas.List.{get_or-map, length-map, map_more, map_push, take-map}
use Rattle.subst.proofs.Calling.{each_more, refused_at}
use Rattle.subst.specs.Errors.{Error}
use Rattle.subst.specs.ErrorFault.{error_fault}
use Rattle.subst.specs.Fault.{Fault}
use Rattle.subst.specs.Language.LookUp.{LookUp}
use Rattle.subst.specs.Language.Answer.{Answers, Gives, Refuses}
use Rattle.subst.specs.Language.Several.{EachGives, IsFirstRefusal, under}

-- the output of the source at an index is appended to those of the sources before it
pub word_added : {X W : Type 0} (look : LookUp) (text : X → List ℕ) (bytes : W → List ℕ)
    (xs : List X) (i : ℕ) (d : X) (line : List W) (w : W) (source : List ℕ) → i < length xs
    → EachGives (under look) (map text (take i xs)) (map bytes line)
    → source ≡ text (get_or xs i d) → Answers source look (Gives (bytes w))
    → EachGives (under look) (map text (take (i + 1) xs)) (map bytes (line ++ w ∷ []))
word_added look text bytes xs i d line w source h each is given =
    let sources = map_more text xs i d h in
    let words = map_push bytes line w in
    let here = subst (λ s. Answers s look (Gives (bytes w))) is given in
    rw (sources, words)
    (each_more (under look) (map text (take i xs)) (map bytes line) _ (bytes w) each here)

-- the source at an index is refused, and none before it
pub word_refused : {X T : Type 0} (look : LookUp) (text : X → List ℕ) (xs : List X) (i : ℕ) (d : X)
    (words : List (List ℕ)) (source : List ℕ) (result : Result T Error) (e : Error)
    → IsErrAnd result (λ x. x ≡ e) → i < length xs → EachGives (under look) (map text (take i xs)) words
    → source ≡ text (get_or xs i d)
    → IfSome (option_map Refuses (error_fault e)) (Answers source look)
    → IfErr result (λ x. IfSome (error_fault x) (IsFirstRefusal look (map text xs)))
word_refused look text xs i d words source (Ok x) e same h each is refused = absurd same
word_refused look text xs i d words source (Err x) e same h each is refused =
    subst (λ y. IfSome (error_fault y) (IsFirstRefusal look (map text xs))) (sym same)
    (by_fault (error_fault e) refused)
  where
    here : text (get_or xs i d) ≡ get_or (map text xs) i (text d)
    here = sym (get_or-map text xs i d (text d) h)

    given : EachGives (under look) (take i (map text xs)) words
    given = subst (λ sources. EachGives (under look) sources words) (sym (take-map text i xs)) each

    by_fault : (o : Option Fault) → IfSome (option_map Refuses o) (Answers source look)
        → IfSome o (IsFirstRefusal look (map text xs))
    by_fault None r = tt
    by_fault (Some f) r = (
      i,
      refused_at (under look) (map text xs) i (text d) f (omega (arith, length-map xs text)) (words, given)
          (subst (λ s. Answers s look (Refuses f)) here (subst (λ s. Answers s look (Refuses f)) is r)),
    )
