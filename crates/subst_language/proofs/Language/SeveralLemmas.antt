-- Several sources in order: their outputs, the first refusal, and more sources before or after them. At most
-- one refusal is the first, and none if each source has an output.
use Rattle.std.proofs.lemmas.Grind.{common_steps}
use Rattle.std.proofs.Common.{◌≡◌, ◌⊎◌, ℕ, suc, ◌<◌, List, [], ◌∷◌, ◌++◌, take, get_or, length, inl, inr, refl, sym, ap, ◌∙◌, subst, append_assoc, arith}
use Rattle.std.proofs.lemmas.List.{drop_more, length-take-le, take-append-drop}
use Rattle.subst_error.specs.Fault.{Fault, NoSuchVariable}
use Rattle.subst_language.specs.Language.LookUp.{LookUp}
use Rattle.subst_language.specs.Language.Answer.{Answer, Answers, Gives, Refuses}
use Rattle.subst_language.specs.Language.Sentence.{Spells}
use Rattle.subst_language.specs.Language.Several.{AreGiven, EachGives, RefusesAt, RefusesFirst, under}
use Rattle.subst_language.specs.Language.Tree.{Tree}
use Rattle.subst_language.specs.Language.Value.{Value, value, Bytes, Missing}
use Rattle.subst_language.proofs.Language.AnswerLemmas.{answer_unique}
use Rattle.subst_language.proofs.Language.ReadingLemmas.{one_reading}

-- elements and their outputs, and more of them
each_append : {T : Type 0} (ask : T → Answer → Type 0) (xs more : List T) (outputs others : List (List ℕ))
    → EachGives ask xs outputs → EachGives ask more others → EachGives ask (xs ++ more) (outputs ++ others)
each_append ask [] more [] others h k = k
each_append ask (x ∷ xs) more (output ∷ outputs) others h k =
    (h.0, each_append ask xs more outputs others h.1 k)
each_append ask [] more (output ∷ outputs) others h k = absurd h
each_append ask (x ∷ xs) more [] others h k = absurd h

-- one more element and its output
pub each_more : {T : Type 0} (ask : T → Answer → Type 0) (xs : List T) (outputs : List (List ℕ)) (x : T)
    (output : List ℕ) → EachGives ask xs outputs → ask x (Gives output)
    → EachGives ask (xs ++ x ∷ []) (outputs ++ output ∷ [])
each_more ask xs outputs x output h k = each_append ask xs (x ∷ []) outputs (output ∷ []) h (k, tt)

-- there are as many outputs as elements
pub length_each : {T : Type 0} (ask : T → Answer → Type 0) (xs : List T) (outputs : List (List ℕ))
    → EachGives ask xs outputs → length outputs ≡ length xs
length_each ask [] [] h = refl
length_each ask (x ∷ xs) (output ∷ outputs) h = ap suc (length_each ask xs outputs h.1)
length_each ask [] (output ∷ outputs) h = absurd h
length_each ask (x ∷ xs) [] h = absurd h

-- elements that have outputs, and more of them
pub given_append : {T : Type 0} (ask : T → Answer → Type 0) (xs more : List T) → AreGiven ask xs → AreGiven ask more
    → AreGiven ask (xs ++ more)
given_append ask xs more h k = (h.0 ++ k.0, each_append ask xs more h.0 k.0 h.1 k.1)

-- the refusal of the element at an index, after elements that have outputs
pub refused_at : {T : Type 0} (ask : T → Answer → Type 0) (xs : List T) (i : ℕ) (d : T) (f : Fault) → i < length xs
    → AreGiven ask (take i xs) → ask (get_or xs i d) (Refuses f) → RefusesAt ask xs i f
refused_at ask xs i d f h given refused =
    grind (arith, common_steps, take-append-drop i xs, drop_more xs i d h, length-take-le i xs (omega arith))

-- the refusal of the only element
pub refusal_alone : {T : Type 0} (ask : T → Answer → Type 0) (x : T) (f : Fault) → ask x (Refuses f)
    → RefusesFirst ask (x ∷ []) f
refusal_alone ask x f h = (
  0,
  record { before = []; here = x; after = []; cut = refl; index = refl; given = ([], tt); refused = h },
)

-- the first refusal of some elements stays the first if elements are appended
pub refusal_before : {T : Type 0} (ask : T → Answer → Type 0) (xs more : List T) (f : Fault)
    → RefusesFirst ask xs f → RefusesFirst ask (xs ++ more) f
refusal_before ask xs more f (i, h) = (
  i,
  record {
    before = h.before;
    here = h.here;
    after = h.after ++ more;
    cut = ap (λ ys. ys ++ more) h.cut ∙ append_assoc h.before (h.here ∷ h.after) more;
    index = h.index;
    given = h.given;
    refused = h.refused;
  },
)

-- the first refusal of some elements stays the first after elements that have outputs
pub refusal_after : {T : Type 0} (ask : T → Answer → Type 0) (xs more : List T) (f : Fault)
    → AreGiven ask xs → RefusesFirst ask more f → RefusesFirst ask (xs ++ more) f
refusal_after ask xs more f given (i, h) = (
  length (xs ++ h.before),
  record {
    before = xs ++ h.before;
    here = h.here;
    after = h.after;
    cut = ap (λ ys. xs ++ ys) h.cut ∙ sym (append_assoc xs h.before (h.here ∷ h.after));
    index = refl;
    given = given_append ask xs h.before given h.given;
    refused = h.refused;
  },
)

-- if each element has an output or is refused, all have outputs, or one is refused first
pub given_or_refused : {T : Type 0} (ask : T → Answer → Type 0)
    → ((x : T) → ((y : List ℕ) × ask x (Gives y)) ⊎ ((f : Fault) × ask x (Refuses f))) → (xs : List T)
    → AreGiven ask xs ⊎ ((f : Fault) × RefusesFirst ask xs f)
given_or_refused ask has [] = inl ([], tt)
given_or_refused {T} ask has (x ∷ xs) = elim (has x) [
  | inl (y, gives) ↦ after_given (y ∷ [], (gives, tt)) (given_or_refused ask has xs)
  | inr (f, refused) ↦ inr (f, refusal_before ask (x ∷ []) xs f (refusal_alone ask x f refused))
]
  where
    after_given : AreGiven ask (x ∷ []) → AreGiven ask xs ⊎ ((f : Fault) × RefusesFirst ask xs f)
        → AreGiven ask (x ∷ xs) ⊎ ((f : Fault) × RefusesFirst ask (x ∷ xs) f)
    after_given here (inl given) = inl (given_append ask (x ∷ []) xs here given)
    after_given here (inr (f, h)) = inr (f, refusal_after ask (x ∷ []) xs f here h)

-- if all elements have outputs, those of each of two parts do
pub given_apart : {T : Type 0} (ask : T → Answer → Type 0) (xs more : List T) → AreGiven ask (xs ++ more)
    → AreGiven ask xs × AreGiven ask more
given_apart ask [] more given = (([], tt), given)
given_apart ask (x ∷ xs) more ([], h) = absurd h
given_apart ask (x ∷ xs) more (output ∷ outputs, h) =
    let (left, right) = given_apart ask xs more (outputs, h.1) in
    ((output ∷ left.0, (h.0, left.1)), right)

-- outputs under one relation of answers are outputs under each that follows from it
each_weaker : {T : Type 0} (ask other : T → Answer → Type 0)
    → ((x : T) (answer : Answer) → ask x answer → other x answer) → (xs : List T) (outputs : List (List ℕ))
    → EachGives ask xs outputs → EachGives other xs outputs
each_weaker ask other follows [] [] h = tt
each_weaker ask other follows (x ∷ xs) (output ∷ outputs) h =
    (follows x (Gives output) h.0, each_weaker ask other follows xs outputs h.1)
each_weaker ask other follows [] (output ∷ outputs) h = absurd h
each_weaker ask other follows (x ∷ xs) [] h = absurd h

pub first_weaker : {T : Type 0} (ask other : T → Answer → Type 0)
    → ((x : T) (answer : Answer) → ask x answer → other x answer) → (xs : List T) (f : Fault)
    → RefusesFirst ask xs f → RefusesFirst other xs f
first_weaker ask other follows xs f (i, h) = (
  i,
  record {
    before = h.before;
    here = h.here;
    after = h.after;
    cut = h.cut;
    index = h.index;
    given = (h.given.0, each_weaker ask other follows h.before h.given.0 h.given.1);
    refused = follows h.here (Refuses f) h.refused;
  },
)

-- an element has at most one answer
abbrev pub HasOneAnswer : {T : Type 0} → (T → Answer → Type 0) → Type 0
HasOneAnswer {T} ask = (x : T) (a b : Answer) → ask x a → ask x b → a ≡ b

-- a source has at most one answer under a look-up
pub one_under : (look : LookUp) → HasOneAnswer (under look)
one_under look s a b h k = answer_unique s look a b h k

-- a refused element has no output
not_both : {T : Type 0} (ask : T → Answer → Type 0) → HasOneAnswer ask → (x : T) (y : List ℕ) (f : Fault)
    → ask x (Gives y) → ¬ (ask x (Refuses f))
not_both ask one x y f h k = let same = one x (Gives y) (Refuses f) h k in absurd cc

-- if each element has an output, none is refused
pub given_not_refused : {T : Type 0} (ask : T → Answer → Type 0) → HasOneAnswer ask → (xs : List T) (i : ℕ)
    (f : Fault) → AreGiven ask xs → ¬ (RefusesAt ask xs i f)
given_not_refused {T} ask one xs i f (outputs, h) k =
    at k.before outputs (subst (λ (ys : List T). EachGives ask ys outputs) k.cut h)
  where
    at : (before : List T) (outputs : List (List ℕ)) → EachGives ask (before ++ k.here ∷ k.after) outputs → ⊥
    at [] [] h = h
    at [] (x ∷ outputs) h = not_both ask one k.here x f h.0 k.refused
    at (y ∷ before) [] h = h
    at (y ∷ before) (x ∷ outputs) h = at before outputs h.1

-- two refusals of a list, each after elements that have outputs, are equal
same_refusal : {T : Type 0} (ask : T → Answer → Type 0) → HasOneAnswer ask → (xs ys : List T) (s t : T)
    (more rest : List T) (outputs others : List (List ℕ)) (f g : Fault) → xs ++ s ∷ more ≡ ys ++ t ∷ rest
    → EachGives ask xs outputs → EachGives ask ys others → ask s (Refuses f) → ask t (Refuses g)
    → (length xs ≡ length ys) × (f ≡ g)
same_refusal ask one [] [] s t more rest outputs others f g is h k refused also =
    let here : s ≡ t = cc in
    let same = one t (Refuses f) (Refuses g) (subst (λ x. ask x (Refuses f)) here refused) also in
    (refl, cc)
same_refusal ask one [] (y ∷ ys) s t more rest outputs (x ∷ others) f g is h k refused also =
    let here : s ≡ y = cc in
    absurd (not_both ask one y x f k.0 (subst (λ x. ask x (Refuses f)) here refused))
same_refusal ask one [] (y ∷ ys) s t more rest outputs [] f g is h k refused also = absurd k
same_refusal ask one (y ∷ xs) [] s t more rest (x ∷ outputs) others f g is h k refused also =
    let here : y ≡ t = cc in
    absurd (not_both ask one t x g (subst (λ u. ask u (Gives x)) here h.0) also)
same_refusal ask one (y ∷ xs) [] s t more rest [] others f g is h k refused also = absurd h
same_refusal ask one (x ∷ xs) (y ∷ ys) s t more rest (a ∷ outputs) (b ∷ others) f g is h k refused also =
    let tails : xs ++ s ∷ more ≡ ys ++ t ∷ rest = cc in
    let (lengths, faults) =
    same_refusal ask one xs ys s t more rest outputs others f g tails h.1 k.1 refused also in
    (ap suc lengths, faults)
same_refusal ask one (x ∷ xs) (y ∷ ys) s t more rest [] others f g is h k refused also = absurd h
same_refusal ask one (x ∷ xs) (y ∷ ys) s t more rest (a ∷ outputs) [] f g is h k refused also = absurd k

-- at most one refusal is the first, and at one index
pub refusal_unique : {T : Type 0} (ask : T → Answer → Type 0) → HasOneAnswer ask → (xs : List T) (i j : ℕ)
    (f g : Fault) → RefusesAt ask xs i f → RefusesAt ask xs j g → (i ≡ j) × (f ≡ g)
refusal_unique ask one xs i j f g h k =
    let (lengths, faults) =
    same_refusal ask one h.before k.before h.here k.here h.after k.after h.given.0 k.given.0 f g
    (sym h.cut ∙ k.cut) h.given.1 k.given.1 h.refused k.refused in
    (h.index ∙ lengths ∙ sym k.index, faults)

-- each source has an output or is refused
pub answered : (look : LookUp) (s : List ℕ)
    → ((x : List ℕ) × Answers s look (Gives x)) ⊎ ((f : Fault) × Answers s look (Refuses f))
answered look s = elim ((one_reading s).either) [
  | inl h ↦ of_tree h.0 h.1 (value 0 h.0 look) refl
  | inr h ↦ inr ((h 0).0, inl (h 0).1)
]
  where
    of_tree : (t : Tree) → Spells t s → (v : Value) → value 0 t look ≡ v
        → ((x : List ℕ) × Answers s look (Gives x)) ⊎ ((f : Fault) × Answers s look (Refuses f))
    of_tree t spelled (Bytes x) is = inl (x, (t, spelled, is))
    of_tree t spelled (Missing position name) is =
        inr (NoSuchVariable position name, inr (t, spelled, (position, name, is, refl)))
