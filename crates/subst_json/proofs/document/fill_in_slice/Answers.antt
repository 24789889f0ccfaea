-- The text is that of the bytes.
use Rattle.std.proofs.Common.{◌≡◌, rules}
use Rattle.subst_json.proofs.document.fill_in_slice.Goals as goal

pub returns-in-Ok : goal.returns-in-Ok
returns-in-Ok g c =
    let same : c.args.source.now ≡ c.in-Ok.text.now = search rules in
    let filled = c.fill_in.ensures.filled in record {
      filled = record {
        text = λ is. rw same filled;
        utf8 = search rules;
        refused_utf8 = search rules;
        kind = filled.kind;
        memory = filled.memory;
      };
    }
