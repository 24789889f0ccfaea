-- Well-formed trees of the earlier language.
use Rattle.subst_language.specs.Language.Bytes.{IsPlain, IsEscapable}
use Rattle.subst_language.specs.Language.Name.{IsName, IsNameByte}
use Rattle.subst_language.specs.Earlier.Tree.{Item, Plain, Escaped, Short, Braced, Default, Tree, Empty, Then, text}
use Rattle.subst_language.specs.Language.Balanced.{IsBalanced}

-- the tree doesn't begin with a plain name byte, which would continue a name before the tree
abbrev pub EndsName : Tree → Type 0
EndsName (Then (Plain b) rest) = ¬ (IsNameByte b)
EndsName _ = Unit {0}

abbrev mutual
  -- An item followed by the items `next` is well-formed if these rules hold. A plain byte is neither `$` nor
  -- `\`. An escaped byte is `\`, `$`, `{`, `}` or `:`. A name has only name bytes, and no name byte follows a
  -- name without braces. A default is well-formed, and its braces match.
  pub IsItem : Item → Tree → Type 0
  IsItem (Plain b) next = IsPlain b
  IsItem (Escaped b) next = IsEscapable b
  IsItem (Short n) next = IsName n × EndsName next
  IsItem (Braced n) next = IsName n
  IsItem (Default n t) next = IsName n × IsWellFormed t × IsBalanced (text t)

  pub IsWellFormed : Tree → Type 0
  IsWellFormed Empty = Unit {0}
  IsWellFormed (Then item rest) = IsItem item rest × IsWellFormed rest
