-- The lemmas for proofs of callers; docs/CALLING.md introduces them.
-- a tree that passes the test, with bytes as its value under the look-up: its text has these bytes as its
-- output
pub use Rattle.subst_language.proofs.TreeOf.{gives}
-- a source that is written out, with a computed value: `computed_gives _ _ _ refl` shows that this is its
-- output
pub use Rattle.subst_language.proofs.TreeOf.{tree_of, spelled, value_of, computed_gives}
-- a source has at most one answer under a look-up
pub use Rattle.subst_language.proofs.Language.AnswerLemmas.{answer_unique}
-- a source whose output is the bytes x: its substitution returns x
pub use Rattle.subst_language.proofs.CallingLemmas.{given}
-- a source that has an output: its substitution fails only if memory runs out
pub use Rattle.subst_language.proofs.CallingLemmas.{memory_alone}
-- an error of the substitution of a text: its range is within the text, as its line and its underline require
pub use Rattle.subst_language.proofs.CallingLemmas.{range_in_text}
-- an error of any substitution: its range is within the source
pub use Rattle.subst_language.proofs.CallingLemmas.{range_in_source}
-- a look-up is unchanged if its values are bytes already
pub use Rattle.subst_language.proofs.CallingLemmas.{same_look_up}
-- an answer under values that are bytes already, read as they are, is one under the map's values
pub use Rattle.subst_language.proofs.CallingLemmas.{answer_as_read}
-- the output of a source, under values that are bytes already, is that returned
pub use Rattle.subst_language.proofs.CallingLemmas.{given_as_read}
-- a source that has an output, under values that are bytes already: its substitution fails only if memory
-- runs out
pub use Rattle.subst_language.proofs.CallingLemmas.{alone_as_read}
-- a property of a map's look-up of bytes holds for the look-up of its values as they are read
pub use Rattle.subst_language.proofs.MapLemmas.{by_look_up_bytes}
-- the outputs of several sources, with one more
pub use Rattle.subst_language.proofs.Language.SeveralLemmas.{each_more}
-- sources that have outputs, and more of them
pub use Rattle.subst_language.proofs.Language.SeveralLemmas.{given_append}
-- of several sources the one at an index is refused, and those before it have outputs
pub use Rattle.subst_language.proofs.Language.SeveralLemmas.{refused_at}
-- of several sources exactly one is the first that is refused, for one fault, since each has one answer
pub use Rattle.subst_language.proofs.Language.SeveralLemmas.{refusal_unique, one_under}
-- a source without dollars and backslashes is its own output, whatever the look-up
pub use Rattle.subst_language.proofs.CallingLemmas.{plain_answer}
-- a text that doesn't begin with a name byte may follow any tree
pub use Rattle.subst_language.proofs.Language.TreeLemmas.{followed_by_no_name}
-- a tree that passes the test, with the source as its text, is the source's tree
pub use Rattle.subst_language.proofs.CallingLemmas.{spells}
-- a sentence has no fault: its parsing fails only if memory runs out
pub use Rattle.subst_language.proofs.CallingLemmas.{parsed_memory_alone}
-- a tree whose value is the bytes x: its expansion returns x
pub use Rattle.subst_language.proofs.CallingLemmas.{expanded}
-- a tree whose value is bytes: its expansion fails only if memory runs out
pub use Rattle.subst_language.proofs.CallingLemmas.{expanded_memory_alone}
-- an expansion into a buffer appends the output of the source, or returns its fault
pub use Rattle.subst_language.proofs.CallingLemmas.{given_into, missed_into}
-- a source that has an output: its expansion into a buffer with enough capacity succeeds
pub use Rattle.subst_language.proofs.CallingLemmas.{given_in_capacity}
-- if no value is longer than `longest`, a buffer suffices that has capacity for the source and for `longest`
-- bytes for each of its dollars
pub use Rattle.subst_language.proofs.CallingLemmas.{never_full}
-- if no value is longer than `longest`, an output is at most as long as its source and `longest` bytes for
-- each of its dollars
pub use Rattle.subst_language.proofs.Language.ValueLengthLemmas.{output_at_most}
-- a sentence has no fault
pub use Rattle.subst_language.proofs.Language.FaultLemmas.{exclusive}
-- a tree that passes the test is well-formed
pub use Rattle.subst_language.proofs.TestLemmas.{well_formed_from_test}
-- the test for well-formed trees
pub use Rattle.subst_language.proofs.TestLemmas.{is_well_formed}
-- spellings of trees: literal bytes before a tree, literal bytes alone, and an item alone
pub use Rattle.subst_language.proofs.TreeOf.{plain, only_plain, only}
-- a JSON tree is filled in as one tree or refused for one fault, never both
pub use Rattle.subst_json.proofs.OneOutcomeLemmas.{one_outcome}
-- a TOML tree is filled in as one tree or refused for one fault, never both
pub use Rattle.subst_toml.proofs.OneOutcomeLemmas.{one_outcome as toml_one_outcome}
-- a map's answer to a text, the first refusal of several sources and a filled-in tree, by the map's look-up
-- of bytes
pub use Rattle.subst_language.proofs.CallingLemmas.{answer_by_map, first_by_map}
pub use Rattle.subst_json.proofs.MappedLemmas.{mapped_by_map}
pub use Rattle.subst_toml.proofs.MappedLemmas.{mapped_by_map as toml_mapped_by_map}
-- the same for a document that is filled in in place, and for its refused strings
pub use Rattle.subst_json.proofs.MappedLemmas.{filled_by_map, refusals_by_map}
pub use Rattle.subst_toml.proofs.MappedLemmas.{filled_by_map as toml_filled_by_map, refusals_by_map as toml_refusals_by_map}
pub use Rattle.subst_yaml.proofs.MappedLemmas.{filled_by_map as yaml_filled_by_map, refusals_by_map as yaml_refusals_by_map}
-- documents of JSON, TOML and YAML, trees of JSON and TOML, and texts are filled in by any weaker relation
pub use Rattle.subst_json.proofs.MappedLemmas.{document_weaker}
pub use Rattle.subst_toml.proofs.MappedLemmas.{document_weaker as toml_document_weaker}
pub use Rattle.subst_yaml.proofs.MappedLemmas.{document_weaker as yaml_document_weaker}
pub use Rattle.subst_json.proofs.MappedLemmas.{each_weaker}
pub use Rattle.subst_toml.proofs.MappedLemmas.{each_weaker as toml_each_weaker}
pub use Rattle.subst_document.proofs.EditLemmas.{filled_weaker}
