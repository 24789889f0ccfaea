-- The templates of a path: a file, or files of a directory and its subdirectories.
use Rattle.std.specs.Prelude.{◌≡◌, ◌⊎◌, ◌∷◌, [], ℕ, IsTrue, List, nat_eq, string_bytes}
use Rattle.std.specs.List.{ends_with}
use Rattle.std.specs.Path.{path_join}
use Rattle.subst_cli.specs.declared.templates.Template.{Template}

-- the file of the template is at `path`, or at a path that ends in the suffix
abbrev pub IsTemplateOf : List ℕ → List ℕ → Template → Type 0
IsTemplateOf path suffix template = (string_bytes template.file ≡ path)
    ⊎ IsTrue (ends_with nat_eq (string_bytes template.file) suffix)

-- the output path of a template whose outputs are written into `directory`: the directory's own path if the
-- template's name is empty
abbrev pub path_in : (directory name : List ℕ) → List ℕ
path_in directory [] = directory
path_in directory (b ∷ name) = path_join directory (b ∷ name)

abbrev pub target_in : (directory : List ℕ) → Template → List ℕ
target_in directory template = path_in directory (string_bytes template.name)
