-- The values of pairs by name, in a map that is sorted by names.
use denote.Ref.{Bor}
use Rattle.std.specs.Prelude.{List, ℕ}
use Rattle.std.specs.BTreeMap.{BTreeMap}
use Rattle.std.specs.Option.{option_map}
use Rattle.subst_language.specs.Language.LookUp.{LookUp}
use Rattle.subst_language.specs.Maps.{btree_get_by_borrowed_text}

-- the value of a name in a map of borrowed bytes
abbrev pub indexed_value : BTreeMap (Bor (List ℕ)) (Bor (List ℕ)) → LookUp
indexed_value index name = option_map (λ value. value.now) (btree_get_by_borrowed_text index name)
