-- The pairs so far are those of the names so far, and their values are UTF-8 if those that are set are.
use Rattle.std.proofs.Common.{◌≡◌, ℕ, List, map, string_bytes, take, true}
use Rattle.std.specs.List.{list_all}
use Rattle.subst_indexed.specs.Numbering.{look_of}
use Rattle.subst_c.specs.DocumentNames.{is_text_if_set}
use Rattle.subst_c.specs.Pairs.{pair_value}
use Rattle.subst_c.specs.Text.{have_texts}
use Rattle.subst_c.specs.Values.{given_values}
use Rattle.subst_c.proofs.document.by_names.pairs_by_number.Given as goal

abbrev pub invariant-loop-number : goal.invariant-loop-number
invariant-loop-number l = ((name : List ℕ) → pair_value l.pairs.items name
    ≡ look_of (take l.number (map string_bytes l.names)) (given_values l.values) name)
    × (list_all is_text_if_set l.values ≡ true → have_texts l.pairs.items ≡ true)
