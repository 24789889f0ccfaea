-- The output of a template with a row of pairs, from its expansion with values by number.
use denote.Ref.{Bor}
use Rattle.std.proofs.Common.{◌≡◌, List, ℕ, Option, IfSome, sym, ◌∙◌, subst}
use Rattle.subst_error.specs.Fault.{Fault}
use Rattle.subst_language.specs.Language.Answer.{Answers, Gives, IsMissing}
use Rattle.subst_language.specs.Language.LookUp.{LookUp}
use Rattle.subst_language.specs.Language.Sentence.{ByTree, IsSentence, Spells}
use Rattle.subst_language.specs.Language.Tree.{Tree}
use Rattle.subst_language.specs.Language.Value.{Bytes, value}
use Rattle.subst_indexed.proofs.StopLemmas.{value_given}
use Rattle.subst_indexed.specs.Expansion as expansions
use Rattle.subst_indexed.specs.Expansion.{Values}
use Rattle.subst_indexed.specs.Numbering.{look_by_number}
use Rattle.subst_indexed.specs.Parsed.{IsCellsOf}
use Rattle.subst_indexed.specs.Template.{template_expansion}
use Rattle.subst_indexed.specs.declared.cell.Cell.{Cell}
use Rattle.subst_c.specs.RowValues.{AreValuesOf, bytes_of, names_at}
use Rattle.subst_c.proofs.RowValuesLemmas.{value_by_number}

module _ (s : List ℕ) (names : List (Bor (List ℕ))) (values : Values) (look : LookUp)
    (named : ByTree s (λ t. bytes_of names ≡ names_at t)) (are : AreValuesOf (bytes_of names) look values) where
  module _ (t : Tree) (spells : Spells t s) where
    -- a tree has one value under a look-up and under its values by number
    same_value : value 0 t (look_by_number t values) ≡ value 0 t look
    same_value = value_by_number t values look (subst (λ ns. AreValuesOf ns look values) (named t spells) are)

    -- the value of the tree is the output
    pub tree_given : (x : List ℕ) → value 0 t (look_by_number t values) ≡ Bytes x → Answers s look (Gives x)
    tree_given x is = (t, spells, sym same_value ∙ is)

    -- a variable that is missing by number is missing
    pub tree_missing : (fault : Option Fault) → IfSome fault (IsMissing (value 0 t (look_by_number t values)))
        → IfSome fault (IsMissing (value 0 t look))
    tree_missing fault missing = subst (λ v. IfSome fault (IsMissing v)) same_value missing

  -- so are the bytes of an expansion of the cells
  pub cells_given : IsSentence s → (numbered : List (List ℕ)) (cells : List Cell) → IsCellsOf s numbered cells
      → (x : List ℕ) → template_expansion cells s values ≡ expansions.Gives x → Answers s look (Gives x)
  cells_given (t, spells) numbered cells is x gives =
      tree_given t spells x (value_given s numbered values cells is t spells x gives)
