-- Each part of the text is that of the definition.
use Rattle.std.proofs.Common.{None, Some, lit<, refl}
use Rattle.std.proofs.lemmas.Str.Pattern.{strip_prefix_char, strip_suffix_char}
use Rattle.subst_options.proofs.ArgumentLemmas.{is_after, no_after, without_brace}
use Rattle.subst_options.proofs.without_dollar.Goals as goal

pub returns-in_default : goal.returns-in_default
returns-in_default c =
    let none = no_after 36 c.args.text.now
    (strip_prefix_char 36 c.args.text.now None c.in_default.ensures.cases (lit< tt)) in
    rw none refl

pub returns-in_default-strip_prefix : goal.returns-in_default-strip_prefix
returns-in_default-strip_prefix c =
    let name = c.in-Some.name.now in
    let after = is_after 36 c.args.text.now name
    (strip_prefix_char 36 c.args.text.now (Some c.in-Some.name) c.in-Some.ensures.cases (lit< tt)) in
    let none = no_after 123 name
    (strip_prefix_char 123 name None c.in_default-strip_prefix.ensures.cases (lit< tt)) in
    rw (after, none) refl

pub returns : goal.returns
returns c =
    let name = c.in-Some.name.now in
    let text = c.args.text.now in
    let opened = c.in-Some-strip_prefix.open in
    let after = is_after 36 text name
    (strip_prefix_char 36 text (Some c.in-Some.name) c.in-Some.ensures.cases (lit< tt)) in
    let in_braces = is_after 123 name opened.now
    (strip_prefix_char 123 name (Some opened) c.in-Some-strip_prefix.ensures.cases (lit< tt)) in
    let closed = strip_suffix_char 125 opened.now _ c.strip_suffix.ensures.cases (lit< tt) in
    rw (after, in_braces, c.unwrap_or.ensures) (without_brace c.args.text opened.now c.strip_suffix.result closed)
