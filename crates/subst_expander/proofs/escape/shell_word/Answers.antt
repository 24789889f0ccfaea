-- The text up to a single quote is written, or the rest.
use Rattle.std.proofs.Common.{◌∙◌, ◌++◌, ◌∷◌, [], None, Some, ap, append_assoc, lit<, rules, string_bytes, sym}
use Rattle.std.proofs.lemmas.Str.Pattern.{split_parts}
use Rattle.std.specs.List.{flat_map}
use Rattle.subst_expander.specs.Layers.{word_byte}
use Rattle.subst_expander.proofs.EscapeLemmas.{word_split, word_whole}
use Rattle.subst_expander.proofs.escape.shell_word.Goals as goal

pub loop-before-preserved : goal.loop-before-preserved
loop-before-preserved c =
    let before = c.in-Some.before.now in
    let after = c.in-Some.after.now in
    let written = string_bytes c.loop-before.word in
    let quote = 39 ∷ 92 ∷ 39 ∷ 39 ∷ [] in
    let (whole, free) = split_parts 39 c.loop-before.rest.now (Some (c.in-Some.before, c.in-Some.after))
    c.in-Some.ensures.cases (lit< tt) in
    let split = ap (flat_map word_byte) whole ∙ word_split before after free in (
      search rules,
      rw (c.in_ok-push_str-2.ensures.bytes, c.in_ok-push_str.ensures.bytes) (c.loop-before.invariant.1
          ∙ ap (λ l. written ++ l) split ∙ sym (append_assoc written before (quote ++ flat_map word_byte after))
          ∙ sym (append_assoc (written ++ before) quote (flat_map word_byte after))),
    )

pub returns : goal.returns
returns c =
    let whole = word_whole c.loop-before.rest.now
    (split_parts 39 c.loop-before.rest.now None c.in_default.ensures.cases (lit< tt)) in
    rw (c.in_ok-push_str-4.ensures.bytes, c.in_ok-push_str-3.ensures.bytes)
    (ap (λ l. l ++ 39 ∷ []) (sym (c.loop-before.invariant.1
    ∙ ap (λ l. string_bytes c.loop-before.word ++ l) whole)))
