-- The place of a range, by the three strings that were read.
use Rattle.std.proofs.Common.{rules, string_bytes}
use Rattle.subst_toml.proofs.place.place_in.Goals as goal

pub returns-then-is_in_newline : goal.returns-then-is_in_newline
returns-then-is_in_newline c = record {
  place = (
    search rules,
    search rules,
    search rules,
    search rules,
    (
      string_bytes c.in-Some-2.whole,
      search rules,
      search rules,
      (string_bytes c.in-Some-3.start, search rules, search rules, search rules),
      (string_bytes c.in-Some-4.end, search rules, search rules, search rules),
    ),
  );
}
