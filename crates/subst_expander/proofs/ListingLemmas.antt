-- The variables of a text of another tool have names.
use Rattle.std.proofs.Common.{ℕ, [], ◌∷◌, ◌++◌, List, map}
use Rattle.std.proofs.lemmas.List.Elements.{All-cons, All-nil}
use Rattle.std.specs.List.{All, AllByRecursion}
use Rattle.subst.specs.Grammar.{Grammar, Dollar, Short, Braced, Optional, Opened, IsNameOf}
use Rattle.subst.specs.Reading.{variable_of, IsToken, Listing, Token, VariableAt, listed_at}
use Rattle.subst.specs.Reading.Listing.{ended, token}
use Rattle.subst.specs.Reading as tokens
use Rattle.subst_foreign.specs.declared.forms.Forms.{Forms}
use Rattle.subst_foreign.specs.declared.forms.Forms.TheVariants.{Own, Shell, Common, Envsubst}
use Rattle.subst_foreign.specs.declared.variables.TextVariable.{TextVariable}
use Rattle.subst_language.specs.Language.Name.{IsName}

is_name : (forms : Forms) (n : List ℕ) → IsNameOf forms n → IsName n
is_name Own n is = is
is_name Shell n is = is.0
is_name Common n is = is.0
is_name Envsubst n is = is.0

token_named : (g : Grammar) (p depth : ℕ) (t : Token) (x : List ℕ) → IsToken g depth t x
    → AllByRecursion (λ v. IsName v.name) (listed_at p t)
token_named g p depth (tokens.Whole (Short n)) x is = (is_name g.forms n is.1.0.0, tt)
token_named g p depth (tokens.Whole (Braced n)) x is = (is_name g.forms n is.1.0, tt)
token_named g p depth (tokens.Whole (Optional n)) x is = (is_name g.forms n is.1.1.0, tt)
token_named g p depth (tokens.Opens n op) x is = (is_name g.forms n is.1.1.0, tt)
token_named g p depth (tokens.Required n op m) x is = (is_name g.forms n is.1.1.0, tt)
token_named g p depth (tokens.Whole Dollar) x is = tt
token_named g p depth (tokens.Whole (Opened n op)) x is = tt
token_named g p depth (tokens.Byte b) x is = tt
token_named g p depth tokens.Opening x is = tt
token_named g p depth tokens.Closing x is = tt
token_named g p depth (tokens.Refused form front) x is = tt

append_named : (xs ys : List VariableAt) → AllByRecursion (λ v. IsName v.name) xs
    → AllByRecursion (λ v. IsName v.name) ys → AllByRecursion (λ v. IsName v.name) (xs ++ ys)
append_named [] ys left right = right
append_named (x ∷ xs) ys left right = (left.0, append_named xs ys left.1 right)

listing_named : (g : Grammar) (p depth : ℕ) (s : List ℕ) (list : List VariableAt) → Listing g p depth s list
    → AllByRecursion (λ v. IsName v.name) list
listing_named g p depth _ _ ended = tt
listing_named g p depth _ _ (token {variables = rest} t x is next) =
    append_named (listed_at p t) rest (token_named g p depth t x is) (listing_named g _ _ x rest next)

map_named : (list : List TextVariable) → AllByRecursion (λ v. IsName v.name) (map variable_of list)
    → All (λ v. IsName v.name.now) list
map_named [] named = All-nil (λ v. IsName v.name.now)
map_named (v ∷ list) named = All-cons (λ x. IsName x.name.now) v list named.0 (map_named list named.1)

-- each variable that is found has a name
pub found_named : (g : Grammar) (s : List ℕ) (list : List TextVariable) → Listing g 0 0 s (map variable_of list)
    → All (λ v. IsName v.name.now) list
found_named g s list listing = map_named list (listing_named g 0 0 s (map variable_of list) listing)
