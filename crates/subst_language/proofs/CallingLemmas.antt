-- Lemmas for callers, beside the contracts: known answers, which only running out of memory can prevent.
use Rattle.std.proofs.Common.{rules, ◌≡◌, ◌≤◌, ◌<◌, ◌+◌, ◌*◌, ◌==◌, ℕ, List, length, count_by, Option, Some, None, Result, Ok, Err, IfErr, IfNone, IfOk, IfSome, IsOk, IsTrue, OnOk, ◌++◌, refl, subst, sym, arith}
use Rattle.std.proofs.Math.Path.{fun_ext}
use Rattle.std.proofs.lemmas.Iterator.Adapters.{option_map_id}
use Rattle.std.specs.List.{All}
use Rattle.std.specs.Option.{option_map}
use Rattle.std.specs.Str.{IsUtf8}
use Rattle.subst_error.specs.Fault.{Fault}
use Rattle.subst_error.specs.ErrorFault.{error_fault, expand_fault, expand_into_fault, parse_fault}
use Rattle.subst_error.specs.Range.{range_of, IsRangeIn}
use Rattle.subst_error.specs.declared.Error.{Error}
use Rattle.subst_error.specs.declared.ExpandError.{ExpandError}
use Rattle.subst_error.specs.declared.ParseError.{ParseError}
use Rattle.subst_error.specs.declared.borrowed.ExpandIntoError.{ExpandIntoError}
use Rattle.subst_language.specs.Language.Bytes.{IsPlain, dollar}
use Rattle.subst_language.specs.Language.Tree.{Tree, text}
use Rattle.subst_language.specs.Language.Sentence.{ByTree, IsSentence, Spells}
use Rattle.subst_language.specs.Language.LookUp.{LookUp}
use Rattle.subst_language.specs.Language.Value.{Value, Bytes, value}
use Rattle.subst_language.specs.Language.Written.{written}
use Rattle.subst_language.specs.Language.BadItem.{HasFault}
use Rattle.subst_language.specs.Language.Answer.{Answer, Answers, Gives, Refuses, IsMissing}
use Rattle.subst_language.specs.Language.Several.{IsFirstRefusal, RefusesFirst, under}
use Rattle.subst_language.specs.Calls.Clauses.{AnswersText}
use Rattle.subst_language.specs.Calls.VariableMap.{look_up_of, ByLookUp}
use Rattle.subst_language.specs.Calls.Outcome.{Expands, ExpandsInto, OnFault, OnOutOfMemory, answer_of}
use Rattle.subst_language.proofs.Language.FaultLemmas.{exclusive}
use Rattle.subst_language.proofs.Language.ListLemmas.{each_by_recursion}
use Rattle.subst_language.proofs.Language.PlainLemmas.{plains, text-plains, value-plains, well_formed_plains}
use Rattle.subst_language.proofs.Language.AlikeLemmas.{found_as_read}
use Rattle.subst_language.proofs.Language.AnswerLemmas.{answer_unique, refused_for}
use Rattle.subst_language.proofs.Language.RangeLemmas.{error_in_text}
use Rattle.subst_language.proofs.Language.SeveralLemmas.{first_weaker}
use Rattle.subst_language.proofs.Language.RangeWithinLemmas.{refusal_within}
use Rattle.subst_language.proofs.Language.ValueLengthLemmas.{value_length_within, written_exact, written_length_at_most}
use Rattle.subst_language.proofs.TestLemmas.{is_well_formed, well_formed_from_test}

-- a tree that passes the test and whose text is the source is the source's tree
pub spells : (s : List ℕ) (t : Tree) → IsTrue (is_well_formed t) → s ≡ text t → Spells t s
spells s t w e = record { well_formed = well_formed_from_test t w; spelled = e }

-- if the source's answer is the bytes x, an output of its substitution is x
pub given : {T : Type 0} (bytes_of : T → List ℕ) (s x : List ℕ) (look : LookUp) (result : Result T Error)
    → Answers s look (Gives x) → IfSome (answer_of bytes_of result) (Answers s look)
    → IfOk result (λ output. bytes_of output ≡ x)
given bytes_of s x look (Ok output) known h =
    let e = answer_unique s look (Gives (bytes_of output)) (Gives x) h known in cc
given bytes_of s x look (Err e) known h = tt

-- if the source's answer is bytes, an error of its substitution states no fault, so it is out of memory
pub memory_alone : (s x : List ℕ) (look : LookUp) (e : Error) → Answers s look (Gives x)
    → IfSome (option_map Refuses (error_fault e)) (Answers s look) → error_fault e ≡ None
memory_alone s x look e known = no_refusal (error_fault e)
  where
    no_refusal : (o : Option Fault) → IfSome (option_map Refuses o) (Answers s look) → o ≡ None
    no_refusal None h = refl
    no_refusal (Some f) h = let same = answer_unique s look (Refuses f) (Gives x) h known in absurd cc

-- the range of an error of substituting a text is in the text; for out of memory it is empty, at the start
pub range_in_text : (s : List ℕ) (look : LookUp) (e : Error) → IsUtf8 s
    → IfSome (option_map Refuses (error_fault e)) (Answers s look) → IsRangeIn s (range_of (error_fault e))
range_in_text s look e is = of (error_fault e)
  where
    of : (o : Option Fault) → IfSome (option_map Refuses o) (Answers s look) → IsRangeIn s (range_of o)
    of None h = error_in_text s look None is tt
    of (Some f) h = error_in_text s look (Some f) is h

-- the range of an error of a substitution ends within the source, even if the source is no text
pub range_in_source : (s : List ℕ) (look : LookUp) (e : Error)
    → IfSome (option_map Refuses (error_fault e)) (Answers s look) → (range_of (error_fault e)).end ≤ length s
range_in_source s look e = of (error_fault e)
  where
    of : (o : Option Fault) → IfSome (option_map Refuses o) (Answers s look) → (range_of o).end ≤ length s
    of None h = omega arith
    of (Some f) h = refusal_within s look f h

-- an error of parsing a sentence is out of memory, as a sentence has no fault
pub parsed_memory_alone : (s : List ℕ) (t : Tree) (e : ParseError) → Spells t s
    → IfSome (parse_fault e) (HasFault 0 s) → parse_fault e ≡ None
parsed_memory_alone s t e known = search (rules, parse_fault, exclusive)

-- if a tree's value is the bytes x, an output of its expansion is x
pub expanded : {T : Type 0} (bytes_of : T → List ℕ) (x : List ℕ) (v : Value) (result : Result T ExpandError)
    → v ≡ Bytes x → Expands bytes_of result v → IfOk result (λ output. bytes_of output ≡ x)
expanded bytes_of x v (Ok output) known h = cc
expanded bytes_of x v (Err e) known h = tt

-- if a tree's value is bytes, an error of its expansion is out of memory
pub expanded_memory_alone : (x : List ℕ) (v : Value) (e : ExpandError) → v ≡ Bytes x
    → IfSome (expand_fault e) (IsMissing v) → expand_fault e ≡ None
expanded_memory_alone x v e known = search (rules, expand_fault)

-- an expansion into a buffer appends the source's output
pub given_into : {T : Type 0} (s : List ℕ) (look : LookUp) (before after : List ℕ)
    (result : Result T ExpandIntoError) → IsSentence s
    → ByTree s (λ t. ExpandsInto before result after (value 0 t look))
    → OnOk result ((x : List ℕ) × Answers s look (Gives x) × (after ≡ before ++ x))
given_into s look before after (Ok done) (t, spells) into =
    let (x, gives, appended) = into t spells in (x, (t, spells, gives), appended)
given_into s look before after (Err e) sentence into = tt

-- an error of an expansion into a buffer states the source's refusal
pub missed_into : {T : Type 0} (s : List ℕ) (look : LookUp) (before after : List ℕ)
    (result : Result T ExpandIntoError) → IsSentence s
    → ByTree s (λ t. ExpandsInto before result after (value 0 t look))
    → OnFault expand_into_fault result (λ f. Answers s look (Refuses f))
missed_into s look before after (Ok done) sentence into = tt
missed_into s look before after (Err e) (t, spells) into =
    refused_for s t look spells (expand_into_fault e) (into t spells)

-- if the source's answer is the bytes x, an expansion into a buffer with capacity for them succeeds
pub given_in_capacity : {T : Type 0} (s x : List ℕ) (look : LookUp) (before after : List ℕ) (len capacity : ℕ)
    (result : Result T ExpandIntoError) → Answers s look (Gives x) → len + length x ≤ capacity
    → ByTree s (λ t. ExpandsInto before result after (value 0 t look))
    → ByTree s (λ t. OnOutOfMemory expand_into_fault result (capacity < len + length (written 0 t look)))
    → IsOk result
given_in_capacity s x look before after len capacity (Ok done) given enough into full = refl
given_in_capacity s x look before after len capacity (Err e) (t, spells, gives) enough into full =
    search (rules, expand_into_fault, spells, value, written, written_exact)

-- If no value is longer than `longest`, a buffer with capacity for the source, and `longest` for each of its
-- dollars, is never too small.
pub never_full : {T : Type 0} (s : List ℕ) (look : LookUp) (longest len capacity : ℕ)
    (result : Result T ExpandIntoError) → IsSentence s
    → ((name y : List ℕ) → look name ≡ Some y → length y ≤ longest)
    → len + (length s + count_by (λ b. b == dollar) s * longest) ≤ capacity
    → ByTree s (λ t. OnOutOfMemory expand_into_fault result (capacity < len + length (written 0 t look)))
    → OnOutOfMemory expand_into_fault result ⊥
never_full s look longest len capacity (Ok done) sentence short enough full = tt
never_full s look longest len capacity (Err e) (t, spells) short enough full =
    of (expand_into_fault e) (full t spells)
  where
    of : (o : Option Fault) → IfNone o (capacity < len + length (written 0 t look)) → IfNone o ⊥
    of None too_short =
        let bound = value_length_within s t look longest spells short in
        let most = written_length_at_most 0 t look in
        absurd (omega (arith, enough, too_short, bound, most))
    of (Some f) too_short = tt

-- values that are bytes already leave a look-up as it is
pub same_look_up : (look : LookUp) → look_up_of (λ bytes. bytes) look ≡ look
same_look_up look = fun_ext (λ name. option_map_id (look name))

-- a map's answer to a text is its answer under the map's look-up of bytes
pub answer_by_map : {V Seen : Type 0} (items : V → List ℕ) (see : V → Seen) (look_up : List ℕ → Option Seen)
    (s : List ℕ) (answer : Answer) → AnswersText items see look_up s answer
    → ByLookUp items see look_up (λ look. Answers s look answer)
answer_by_map items see look_up s (Gives x) h = h.1
answer_by_map items see look_up s (Refuses f) h = λ bytes reads.
    h.0 (look_up_of bytes look_up) (λ name. found_as_read bytes (look_up name))

-- the same for the first refusal of several texts
pub first_by_map : {V Seen : Type 0} (items : V → List ℕ) (see : V → Seen) (look_up : List ℕ → Option Seen)
    (texts : List (List ℕ)) (f : Fault) → RefusesFirst (AnswersText items see look_up) texts f
    → ByLookUp items see look_up (λ look. IsFirstRefusal look texts f)
first_by_map items see look_up texts f h = search (rules, first_weaker, under, look_up_of, answer_by_map)

-- an answer under a look-up whose values are bytes already, read as they are, is one under the look-up itself
pub answer_as_read : (s : List ℕ) (look : LookUp) (found : Option Answer)
    → IfSome found (Answers s (look_up_of (λ bytes. bytes) look)) → IfSome found (Answers s look)
answer_as_read s look found h = subst (λ l. IfSome found (Answers s l)) (same_look_up look) h

-- if the source's answer is the bytes x under a look-up of bytes, an output of its substitution with these
-- values is x
pub given_as_read : {T : Type 0} (bytes_of : T → List ℕ) (s x : List ℕ) (look : LookUp)
    (result : Result T Error) → Answers s look (Gives x)
    → IfSome (answer_of bytes_of result) (Answers s (look_up_of (λ bytes. bytes) look))
    → IfOk result (λ output. bytes_of output ≡ x)
given_as_read bytes_of s x look result known h =
    given bytes_of s x look result known (answer_as_read s look (answer_of bytes_of result) h)

-- an error of such a substitution is out of memory
pub alone_as_read : {T : Type 0} (bytes_of : T → List ℕ) (s x : List ℕ) (look : LookUp)
    (result : Result T Error) → Answers s look (Gives x)
    → IfSome (answer_of bytes_of result) (Answers s (look_up_of (λ bytes. bytes) look))
    → IfErr result (λ e. error_fault e ≡ None)
alone_as_read bytes_of s x look (Ok output) known h = tt
alone_as_read bytes_of s x look (Err e) known h =
    memory_alone s x look e known (answer_as_read s look (answer_of bytes_of (Err e)) h)

-- the answer of a source without dollars and backslashes is the source, whatever the look-up
pub plain_answer : (s : List ℕ) (look : LookUp) → All IsPlain s → Answers s look (Gives s)
plain_answer s look each =
    let well_formed = well_formed_plains s (each_by_recursion IsPlain s each) in
    (plains s, record { well_formed = well_formed; spelled = sym (text-plains s) }, value-plains 0 s look)
