-- The places are those of a value of the text, and are confirmed.
use Rattle.std.proofs.Common.{◌≡◌, List, ℕ, Some, length, rules, string_bytes, sym, ◌∙◌, ap}
use Rattle.std.specs.List.{All, AllZip}
use Rattle.std.specs.Prelude.{slice_range}
use Rattle.subst_error.specs.Range.{IsRangeIn}
use Rattle.subst_yaml_reader.specs.Decoded.{value_of}
use Rattle.subst_yaml.specs.Filled.{string_of}
use Rattle.subst_yaml.specs.Places.{with_sentinels, AreInOrder, IsShortened}
use Rattle.subst_yaml.proofs.places.RangeFinder.find.Goals as goal

pub returns-then-branch-clause-places : goal.returns-then-branch-clause-places
returns-then-branch-clause-places c finder =
    let s = c.args.source.now in
    let x = string_bytes c.in-Some-2.string in
    let token = c.args.token in
    let scalar = c.in-Some.scalar in
    let found = c.in-Some-3.found in
    let places = found.places.items in
    let short = found.short.items in
    let (in_flow, value) = c.in-Some.ensures.value s finder in
    let is_text : c.as_bytes.result.now ≡ slice_range s token.start token.end = search rules in
    let spells : string_of scalar.style scalar.indent (slice_range s token.start token.end) ≡ Some x =
    search rules in
    let are : (length places ≡ length c.args.ranges.now) × All (IsRangeIn s) places
    × AllZip (IsShortened x) c.args.ranges.now short = search rules in
    let confirmed : AreInOrder token.start places token.end × AreInOrder 0 short (length x)
    × (value_of scalar.style scalar.indent (with_sentinels s token.start places token.end)
    ≡ Some (with_sentinels x 0 short (length x))) = search rules in record {
      style = scalar.style;
      in_flow = in_flow;
      indent = scalar.indent;
      value = value;
      text = x;
      spells = spells;
      one_each = are.0;
      within = are.1;
      in_order = confirmed.0;
      short = short;
      shortened = are.2;
      short_in_order = confirmed.1;
      spelled = confirmed.2;
    }
