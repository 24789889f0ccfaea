-- The refused strings of a document, with their paths and spans.
use Rattle.std.specs.Prelude.{◌≡◌, ℕ, List, ◌++◌, Some, codes, map}
use Rattle.std.specs.Fmt.{decimal}
use Rattle.std.specs.List.{AllByRecursion}
use Rattle.subst_language.specs.Language.Answer.{Answer}
use Rattle.subst_document.specs.Edits.{AreSpelled}
use Rattle.subst_document.specs.Plain.{with_plain}
use Rattle.subst_document.specs.Refused.{AreRefusedOf}
use Rattle.subst_document.specs.declared.edits.RefusalAt.{RefusalAt}
use Rattle.subst_document.specs.declared.edits.StringAt.{StringAt}
use Rattle.subst_toml.specs.Filled.{refusal_in, spelled_of, strings_in, AreAllRefusals, HasFaultInText, IsFound, IsQuotedToken}
use Rattle.subst_toml.specs.Outcome.{ReadsAsTree}
use Rattle.subst_toml.specs.Paths.{steps_of, Leads}
use Rattle.subst_toml.specs.declared.path.Path.{Path}

-- the token, in single quotes, that spells the number n in decimal digits
abbrev pub index_token : ℕ → List ℕ
index_token n = codes "'" ++ (decimal n ++ codes "'")

-- The path leads to the string with this index in `list`. In a copy of `source`, each string of `list` is
-- replaced by its index; in the tree of the copy, the path leads to `index`.
abbrev pub IsPathTo : (source : List ℕ) → List StringAt → ℕ → Path → Type 0
IsPathTo source list index path = ReadsAsTree (with_plain index_token source 0 0 list)
    (λ d. Leads (steps_of path) d (decimal index))

-- `all` has the refused strings of `source`, in order, each with its span and a path that leads to it. No
-- other string is refused.
abbrev pub AreRefusedIn : (List ℕ → Answer → Type 0) → (source : List ℕ) → List (RefusalAt Path) → Type 0
AreRefusedIn ask source all =
    (list : List StringAt) × (strings_in source ≡ Some (map spelled_of list))
    × AreRefusedOf ask (IsPathTo source list) 0 list all

-- The list has all strings of the document, each with its span.
pub record IsListing (source : List ℕ) (list : List StringAt) : Type 0 where
  pub all : strings_in source ≡ Some (map spelled_of list)
  pub spelled : AreSpelled IsQuotedToken source 0 list

-- The list has all refused strings of the document, each with its span.
pub record AreAllRefused (ask : List ℕ → Answer → Type 0) (source : List ℕ) (all : List (RefusalAt Path))
    : Type 0 where
  -- each refusal has its string's span, and a path that leads to the string
  pub each : AreRefusedIn ask source all
  -- `all` has the refusals of the refused strings, in order; the document's other strings have outputs
  pub refused : AreAllRefusals ask source (map refusal_in all)
  -- each span spells its string, and each path leads to that string in the tree of `source`
  pub found : ReadsAsTree source (λ d. AllByRecursion (IsFound source d) all)
  pub range : AllByRecursion HasFaultInText (map refusal_in all)
