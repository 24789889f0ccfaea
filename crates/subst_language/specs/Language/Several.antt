-- The answers of several sources, in order. Elements of another type can replace the sources: `ask` relates
-- an element to its answers, as `under look` does for a source.
use Rattle.std.specs.Prelude.{◌≡◌, ⊤, ℕ, List, [], ◌∷◌, ◌++◌, length}
use Rattle.subst_error.specs.Fault.{Fault}
use Rattle.subst_language.specs.Language.LookUp.{LookUp}
use Rattle.subst_language.specs.Language.Answer.{Answer, Answers, Gives, Refuses}

-- the answers of a source under this look-up
abbrev pub under : LookUp → List ℕ → Answer → Type 0
under look s = Answers s look

-- the element x has this output
abbrev pub GivesBy : {T : Type 0} → (T → Answer → Type 0) → T → List ℕ → Type 0
GivesBy ask x output = ask x (Gives output)

-- the second list has the output of each element of the first, in order
abbrev pub EachGives : {T : Type 0} → (T → Answer → Type 0) → List T → List (List ℕ) → Type 0
EachGives ask [] [] = ⊤
EachGives ask (x ∷ xs) (output ∷ outputs) = ask x (Gives output) × EachGives ask xs outputs
EachGives ask _ _ = ⊥

-- each element has an output
abbrev pub AreGiven : {T : Type 0} → (T → Answer → Type 0) → List T → Type 0
AreGiven ask xs = (outputs : List (List ℕ)) × EachGives ask xs outputs

-- the first refused element is at this index, and f is its refusal
pub record RefusesAt {T : Type 0} (ask : T → Answer → Type 0) (xs : List T) (i : ℕ) (f : Fault) : Type 0 where
  pub before : List T
  pub here : T
  pub after : List T
  pub cut : xs ≡ before ++ here ∷ after
  pub index : i ≡ length before
  pub given : AreGiven ask before
  pub refused : ask here (Refuses f)

-- f is the refusal of the first refused element
abbrev pub RefusesFirst : {T : Type 0} → (T → Answer → Type 0) → List T → Fault → Type 0
RefusesFirst ask xs f = (i : ℕ) × RefusesAt ask xs i f

-- under one look-up, the fault is the refusal of the first refused source in the list
abbrev pub IsFirstRefusal : LookUp → List (List ℕ) → Fault → Type 0
IsFirstRefusal look = RefusesFirst (under look)
