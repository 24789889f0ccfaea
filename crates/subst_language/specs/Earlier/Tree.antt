-- Syntax trees of the earlier language, and the text of each. This is the grammar in EBNF; the literal braces
-- within a `default` must also be balanced:
--   template = { item } ;
--   item     = plain | "\" special | "$" name | "${" name "}" | "${" name ":" default "}" ;
--   default  = template ;
--   name     = name byte, { name byte } ;
use Rattle.std.specs.Prelude.{ℕ, List, [], ◌∷◌, ◌++◌}
use Rattle.subst_language.specs.Language.Bytes.{dollar, colon, backslash, opening_brace, closing_brace}

-- A tree is a list of items. The two types are declared together, since the default of an item is again a
-- tree.
mutual
  pub data Item : Type 0 where
    -- a plain byte
    Plain : ℕ → Item
    -- a byte after a backslash
    Escaped : ℕ → Item
    -- a name after a dollar
    Short : List ℕ → Item
    -- a name in braces
    Braced : List ℕ → Item
    -- a name in braces with a default, which is used if the name has no value
    Default : List ℕ → Tree → Item

  pub data Tree : Type 0 where
    Empty : Tree
    Then : Item → Tree → Tree

abbrev mutual
  -- the text of an item: `b`, `\b`, `$name`, `${name}` or `${name:default}`
  pub item_text : Item → List ℕ
  item_text (Plain b) = b ∷ []
  item_text (Escaped b) = backslash ∷ b ∷ []
  item_text (Short n) = dollar ∷ n
  item_text (Braced n) = dollar ∷ opening_brace ∷ n ++ closing_brace ∷ []
  item_text (Default n t) = dollar ∷ opening_brace ∷ n ++ (colon ∷ text t ++ closing_brace ∷ [])

  -- the text of a tree: the concatenated texts of its items
  pub text : Tree → List ℕ
  text Empty = []
  text (Then item rest) = item_text item ++ text rest
