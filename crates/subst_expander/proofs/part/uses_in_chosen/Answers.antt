-- The uses are the variables of the text, converted.
use Rattle.std.proofs.Common.{◌∙◌, None, map, sym}
use Rattle.std.proofs.lemmas.Simd.{map-map}
use Rattle.subst.specs.Reading.{variable_of as found_variable}
use Rattle.subst_expander.specs.Fill.{grammar_in}
use Rattle.subst_expander.specs.Listing.{variable_in}
use Rattle.subst_expander.proofs.ListingLemmas.{found_named}
use Rattle.subst_expander.proofs.part.uses_in_chosen.Goals as goal

pub returns : goal.returns
returns c =
    let chosen = c.args.chosen.now in
    let s = c.args.source.now in
    let found = c.in_ok-found.found.items in
    let listing = rw (c.style_of.ensures.forms, c.style_of.ensures.names) at c.in_ok-found.ensures.listed in
    let named = found_named (grammar_in chosen None) s found listing in (
      map found_variable found,
      listing,
      c.in_ok-uses_of.ensures ∙ c.in_ok-variables.ensures named
          ∙ sym (map-map (variable_in chosen.missing s) found_variable found),
    )
