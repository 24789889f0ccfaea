-- The text of a path: keys with dots between them, as in TOML, and indices in brackets.
use Rattle.std.specs.Prelude.{ℕ, List, [], ◌∷◌, ◌++◌, codes}
use Rattle.std.specs.Fmt.{decimal}
use Rattle.std.specs.List.{flat_map}
use Rattle.toml_writer.specs.Text.{key_text}
use Rattle.subst_document.specs.Paths.{PathStep, Key, Index}

-- the text of a step: `dot` and the key, quoted if it can't be bare; or the index in brackets
abbrev pub step_text : List ℕ → PathStep → List ℕ
step_text dot (Key key) = dot ++ key_text key
step_text dot (Index i) = codes "[" ++ (decimal i ++ codes "]")

-- the text of a path: the texts of its steps, concatenated, with no dot before the first
abbrev pub dotted_text : List PathStep → List ℕ
dotted_text [] = []
dotted_text (step ∷ path) = step_text [] step ++ flat_map (step_text (codes ".")) path
