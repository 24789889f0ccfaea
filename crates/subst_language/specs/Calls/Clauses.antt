-- Clauses that many calls share, about a source's value, an error's fault, or a list. Three functions
-- describe a map: `items`, `see` and `look_up`. `items v` is the bytes of a value v. `see v` is v as
-- contracts see it: for a reference, the value that it points to. `look_up name` is `see` of the value under
-- `name`, or `None`. `fault_of e` is the fault that an error e states.
use Rattle.std.specs.Prelude.{◌≡◌, ◌≤◌, ◌<◌, ◌+◌, ℕ, List, ◌∷◌, ◌++◌, length, map, Option, Some, Result, Vec, IfErr, IfNone, IfOk, IfSome}
use Rattle.std.specs.List.{All}
use Rattle.std.specs.declared.ops.Range.{Range}
use Rattle.subst_error.specs.Fault.{Fault}
use Rattle.subst_error.specs.ErrorFault.{expand_into_fault, parse_fault}
use Rattle.subst_error.specs.Range.{range_of, IsRangeIn}
use Rattle.subst_error.specs.declared.NoSuchVariable.{NoSuchVariable}
use Rattle.subst_error.specs.declared.borrowed.ExpandIntoError.{ExpandIntoError}
use Rattle.subst_error.specs.declared.borrowed.SubstituteIntoError.{SubstituteIntoError}
use Rattle.subst_language.specs.Language.Answer.{Answer, Answers, Gives, Refuses, IsMissing}
use Rattle.subst_language.specs.Language.BadItem.{HasFault}
use Rattle.subst_language.specs.Language.Bytes.{dollar, opening_brace, colon}
use Rattle.subst_language.specs.Language.Name.{IsName}
use Rattle.subst_language.specs.Language.Sentence.{ByTree, IsSentence}
use Rattle.subst_language.specs.Language.Value as tree
use Rattle.subst_language.specs.Language.Variables.{all_missing, variables_of}
use Rattle.subst_language.specs.Language.Written.{written}
use Rattle.subst_language.specs.Calls.Outcome.{IfRefused, OnFault, OnOutOfMemory}
use Rattle.subst_language.specs.Calls.VariableMap.{ByLookUp, ByNames}
use Rattle.subst_language.specs.Calls.Variables.{missing_variable, variable_of}
use Rattle.subst_language.specs.declared.variable.Variable.{Variable}

-- P holds of the value that the tree of the source s has under the map's look-up
abbrev pub ByValue : {Value Seen : Type 0} → (Value → List ℕ) → (Value → Seen) → (List ℕ → Option Seen)
    → List ℕ → (tree.Value → Type 0) → Type 0
ByValue items see look_up s P =
    ByLookUp items see look_up (λ look. ByTree s (λ t. P (tree.value 0 t look)))

-- P holds of the bytes that an expansion of the source s writes: all, or those before the missing variable
abbrev pub ByWritten : {Value Seen : Type 0} → (Value → List ℕ) → (Value → Seen) → (List ℕ → Option Seen)
    → List ℕ → (List ℕ → Type 0) → Type 0
ByWritten items see look_up s P =
    ByLookUp items see look_up (λ look. ByTree s (λ t. P (written 0 t look)))

-- if memory runs out, a buffer of this capacity is too small for the `len` bytes in it and the bytes x
abbrev pub Overflows : {T : Type 0} → (capacity len : ℕ) → Result T ExpandIntoError → List ℕ → Type 0
Overflows capacity len result x = OnOutOfMemory expand_into_fault result (capacity < len + length x)

-- If memory runs out after the parse, a buffer of this capacity is too small for the `len` bytes in it and
-- the bytes x.
abbrev pub OverflowsParsed : {T : Type 0} → (capacity len : ℕ) → Result T SubstituteIntoError → List ℕ
    → Type 0
OverflowsParsed capacity len result x =
    IfRefused result (λ e. Unit {0}) (λ e. IfNone (expand_into_fault e) (capacity < len + length x))

-- somewhere in the source s, a name and a colon follow `${`, as in each placeholder with a default
abbrev pub ContainsDefault : List ℕ → Type 0
ContainsDefault s = (before : List ℕ) × (name : List ℕ) × (after : List ℕ) × IsName name
    × (s ≡ before ++ (dollar ∷ opening_brace ∷ name ++ colon ∷ after))

-- if the parse runs out of memory, the source s has the beginning of a default
abbrev pub NeedsMemory : {T : Type 0} → List ℕ → Result T SubstituteIntoError → Type 0
NeedsMemory s result = IfRefused result (λ e. IfNone (parse_fault e) (ContainsDefault s)) (λ e. Unit {0})

-- If the result is an error that states a fault, that fault is the first missing variable of the source s.
-- This depends on which names the map has a value for, and not on the values.
abbrev pub Misses : {Seen T E : Type 0} → (List ℕ → Option Seen) → List ℕ → (E → Option Fault)
    → Result T E → Type 0
Misses look_up s fault_of result =
    ByNames look_up (λ look. ByTree s (λ t. OnFault fault_of result (IsMissing (tree.value 0 t look))))

-- If the result is an error that states a fault, the source s is refused for that fault. This depends on
-- which names the map has a value for, and not on the values.
abbrev pub StatesRefusal : {Seen T E : Type 0} → (List ℕ → Option Seen) → List ℕ → (E → Option Fault)
    → Result T E → Type 0
StatesRefusal look_up s fault_of result =
    ByNames look_up (λ look. OnFault fault_of result (λ f. Answers s look (Refuses f)))

-- An error of the parse states the fault of the source s, unless memory ran out. If the result is an error of
-- the expansion, s is a sentence.
abbrev pub StatesKind : {T : Type 0} → List ℕ → Result T SubstituteIntoError → Type 0
StatesKind s result = IfRefused result (λ e. IfSome (parse_fault e) (HasFault 0 s)) (λ e. IsSentence s)

-- the range of an error ends within the source s
abbrev pub EndsWithin : {T E : Type 0} → List ℕ → (E → Option Fault) → Result T E → Type 0
EndsWithin s fault_of result = IfErr result (λ e. (range_of (fault_of e)).end ≤ length s)

-- the range of an error begins and ends at character boundaries of the text s
abbrev pub IsRangedIn : {T E : Type 0} → List ℕ → (E → Option Fault) → Result T E → Type 0
IsRangedIn s fault_of result = IfErr result (λ e. IsRangeIn s (range_of (fault_of e)))

-- `list` has exactly the variables of the tree of the source s, in order
abbrev pub AreVariables : List ℕ → List Variable → Type 0
AreVariables s list = ByTree s (λ t. map variable_of list ≡ variables_of 0 t)

-- An `Ok` result lists all missing variables of the source s. This depends on which names the map has a value
-- for, and not on the values.
abbrev pub ListsMissing : {Seen A E : Type 0} → (List ℕ → Option Seen) → List ℕ
    → Result (Vec NoSuchVariable A) E → Type 0
ListsMissing look_up s result =
    ByNames look_up (λ look. ByTree s
    (λ t. IfOk result (λ list. map missing_variable list.items ≡ all_missing 0 t look)))

-- the range of each element ends within the source
abbrev pub EachEndsWithin : {A : Type 0} → List ℕ → (A → Range ℕ) → List A → Type 0
EachEndsWithin s range list = All (λ it. (range it).end ≤ length s) list

-- the range of each element begins and ends at character boundaries of the text
abbrev pub EachIsRangedIn : {A : Type 0} → List ℕ → (A → Range ℕ) → List A → Type 0
EachIsRangedIn s range list = All (λ it. IsRangeIn s (range it)) list

-- whatever values the map's names have, the source s has an output: it is a sentence, and no variable is
-- missing
abbrev pub HasOutput : {Seen : Type 0} → (List ℕ → Option Seen) → List ℕ → Type 0
HasOutput look_up s = ByNames look_up (λ look. (x : List ℕ) × Answers s look (Gives x))

-- The text s has this answer under a map. If the answer is bytes x, then s has an output. It is x, provided
-- that contracts can state the bytes of the map's values. If the answer is the refusal for f, then s is
-- refused for f, whatever values the map's names have. The range of f is then in s.
abbrev pub AnswersText : {Value Seen : Type 0} → (Value → List ℕ) → (Value → Seen)
    → (List ℕ → Option Seen) → List ℕ → Answer → Type 0
AnswersText items see look_up s (Gives x) =
    HasOutput look_up s × ByLookUp items see look_up (λ look. Answers s look (Gives x))
AnswersText items see look_up s (Refuses f) =
    ByNames look_up (λ look. Answers s look (Refuses f)) × IsRangeIn s (range_of (Some f))
