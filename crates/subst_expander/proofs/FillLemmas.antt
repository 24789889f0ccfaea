-- The refusals of sources; the outputs of texts without variables.
use Rattle.std.proofs.Common.{◌≡◌, ◌∙◌, ◌++◌, ℕ, List, [], ◌∷◌, Bool, false, true, Ok, Some, IfSome, ap, inl, inr, map, refl}
use Rattle.std.specs.List.{All, AllByRecursion}
use Rattle.std.specs.Option.{option_map}
use Rattle.std.specs.declared.alloc.AllocError.{AllocError}
use Rattle.std.specs.declared.ops.Range.{Range}
use Rattle.std.proofs.lemmas.List.Elements.{recursion_from_All}
use Rattle.subst.specs.ErrorFault.{error_fault}
use Rattle.subst.specs.Errors.{Error}
use Rattle.subst.specs.Errors.error
use Rattle.subst.specs.Fault.{NoSuchVariable}
use Rattle.subst.specs.Language.Answer.{Answers, Refuses}
use Rattle.subst.specs.Language.Bytes.{dollar}
use Rattle.subst.specs.Language.LookUp.{LookUp}
use Rattle.subst.specs.Language.Sentence.{Spells}
use Rattle.subst.specs.Language.Tree as tree
use Rattle.subst.specs.Language.Tree.{text, Tree}
use Rattle.subst.specs.Language.Value.{Value, Bytes, Missing as Lacks}
use Rattle.subst.specs.Language.Variables.{all_missing, Variable}
use Rattle.subst.specs.Range.{range_of}
use Rattle.subst_foreign.proofs.ReadingLemmas.{whole_template}
use Rattle.subst_foreign.proofs.TemplateLemmas.{text_fits, text_means}
use Rattle.subst_foreign.proofs.TokenLemmas.{plain_byte}
use Rattle.subst_foreign.specs.Foreign.{unplaced}
use Rattle.subst_foreign.specs.Grammar.{Grammar}
use Rattle.subst_foreign.specs.Template.{is_escaped, item_of_byte, renamed, tree_of, IsTemplate}
use Rattle.subst_foreign.specs.Text.{Byte, Empty, Text, Then, spelling, text_value, IsText}
use Rattle.subst_foreign.specs.declared.forms.Forms.{Forms}
use Rattle.subst_foreign.specs.declared.forms.Missing.{Missing}
use Rattle.subst_language.proofs.Language.UnsettledLemmas.{fault_is_known}
use Rattle.subst_language.proofs.Language.VariablesLemmas.{missing_first}
use Rattle.subst_language.specs.Language.NamesIn.{names_in}
use Rattle.subst_expander.proofs.PartLemmas.{readable_nameless}
use Rattle.subst_expander.specs.Faults.{IsRefusalUnder}
use Rattle.subst_expander.specs.Fill.{grammar_of, GivesFor}
use Rattle.subst_expander.specs.Layers.{Entry}
use Rattle.subst_expander.specs.declared.fill.Refusal.TheVariants.{NotATemplate}
use Rattle.subst_expander.specs.declared.kinds.Chosen.{Chosen as ChosenForms}
use Rattle.subst_expander.specs.declared.kinds.Placeholders.TheVariants.{Chosen}

-- an error other than out of memory or a missing variable is the fault of a source that is no template
pub no_template : (s : List ℕ) (look : LookUp) (e : Error) (range : Range ℕ)
    → ((x : AllocError) → ¬ (e ≡ error.OutOfMemory x)) → ((x : _) → ¬ (e ≡ error.NoSuchVariable x))
    → IfSome (option_map Refuses (error_fault e)) (Answers s look) → range ≡ range_of (error_fault e)
    → IsRefusalUnder look s (NotATemplate range e)
no_template s look (error.OutOfMemory x) range memory known answer is = absurd (memory x refl)
no_template s look (error.NoSuchVariable x) range memory known answer is = absurd (known x refl)
no_template s look _ range memory known (inl fault) is = (fault, is)
no_template s look _ range memory known (inr (t, spells, (position, name, missing, same))) is = absurd cc

-- a source that is refused for a missing variable is a template, and there are missing variables
pub all_listed : {X : Type 0} (view : X → Variable) (s : List ℕ) (look : LookUp) (position : ℕ)
    (name : List ℕ) (list : List X) → Answers s look (Refuses (NoSuchVariable position name))
    → ((t : Tree) → Spells t s → map view list ≡ all_missing 0 t look)
    → (¬ (list ≡ [])) × ((t : Tree) × Spells t s × (map view list ≡ all_missing 0 t look))
all_listed view s look position name list (inl fault) are =
    absurd (fault_is_known position name fault refl)
all_listed view s look position name list (inr (t, spells, (p, n, missing, same))) are =
    let (more, begins) = missing_first 0 p t look n missing in
    (λ none. let known = are t spells in absurd (cc), (t, spells, are t spells))

-- bytes as a text of another tool
abbrev bytes_text : List ℕ → Text
bytes_text [] = Empty
bytes_text (b ∷ s) = Then (Byte b) (bytes_text s)

bytes_spelled : (s : List ℕ) → s ≡ spelling (bytes_text s)
bytes_spelled [] = refl
bytes_spelled (b ∷ s) = ap (λ rest. b ∷ rest) (bytes_spelled s)

bytes_read : (g : Grammar) (s : List ℕ) → AllByRecursion (λ b. ¬ (b ≡ dollar)) s → IsText g false (bytes_text s) []
bytes_read g [] each = tt
bytes_read g (b ∷ s) (other, each) =
    (plain_byte g false b (spelling (bytes_text s) ++ []) other (λ within. absurd cc), bytes_read g s each)

-- the output of bytes as a text of another tool is the bytes
bytes_output : (forms : Forms) (unset : Missing) (s : List ℕ) (look : LookUp)
    → text_value forms unset (bytes_text s) look ≡ Ok s
bytes_output forms unset [] look = refl
bytes_output forms unset (b ∷ s) look = rw (bytes_output forms unset s look) refl

output_bytes : (forms : Forms) (v : Value) (x : List ℕ) → renamed forms (unplaced v) ≡ Ok x → v ≡ Bytes x
output_bytes forms (Bytes y) x same = cc
output_bytes forms (Lacks position name) x same = absurd cc

byte_names : (test : Bool) (b : ℕ) (next : tree.Tree)
    → names_in (tree.Then (item_of_byte test b) next) ≡ names_in next
byte_names true b next = refl
byte_names false b next = refl

-- the tree of bytes as a text of another tool has no name
bytes_names : (forms : Forms) (unset : Missing) (s : List ℕ) → names_in (tree_of forms unset (bytes_text s)) ≡ []
bytes_names forms unset [] = refl
bytes_names forms unset (b ∷ s) =
    byte_names (is_escaped b) b (tree_of forms unset (bytes_text s)) ∙ bytes_names forms unset s

-- the output of a text without a dollar is the text, whatever is chosen
pub text_output : (chosen : ChosenForms) (entries : List Entry) (s : List ℕ)
    → All (λ b. ¬ (b ≡ dollar)) s → GivesFor (Chosen chosen) entries s s
text_output chosen entries s each =
    let none = recursion_from_All (λ b. ¬ (b ≡ dollar)) s each in
    let g = grammar_of chosen entries in
    let t = tree_of chosen.forms chosen.missing (bytes_text s) in
    let is : IsTemplate g chosen.missing s (text t) =
    whole_template (bytes_text s, bytes_read g s none, bytes_spelled s, refl) in
    let spells : Spells t (text t) = record {
      well_formed = text_fits g chosen.missing false (bytes_text s) [] (bytes_read g s none);
      spelled = refl;
    } in
    let readable =
    readable_nameless (Some chosen.forms) entries (text t) t spells (bytes_names chosen.forms chosen.missing s) in (
      text t,
      is,
      (
        readable,
        λ look agrees. (
          t,
          spells,
          output_bytes chosen.forms _ s
              (text_means g chosen.missing false (bytes_text s) [] 0 look (bytes_read g s none)
              ∙ bytes_output chosen.forms chosen.missing s look),
        ),
      ),
    )
