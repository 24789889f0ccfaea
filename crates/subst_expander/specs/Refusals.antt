-- The faults of sources.
use Rattle.std.specs.Prelude.{◌≡◌, ◌⊎◌, ◌∷◌, ℕ, List, []}
use Rattle.subst_expander.specs.Documents.{AreDocumentFaults}
use Rattle.subst_expander.specs.Faults.{AreFaultsOf, IsNoText}
use Rattle.subst_expander.specs.Fill.{IsSourceOutput}
use Rattle.subst_expander.specs.FormatRule.{format_of_source}
use Rattle.subst_expander.specs.Layers.{Entry}
use Rattle.subst_expander.specs.Mark.{filled_of}
use Rattle.subst_expander.specs.ValuesFaults.{HasOne}
use Rattle.subst_expander.specs.declared.fault.Fault.{Fault}
use Rattle.subst_expander.specs.declared.format_rule.FormatRule.{FormatRule}
use Rattle.subst_expander.specs.declared.kinds.InputFormat.{InputFormat}
use Rattle.subst_expander.specs.declared.kinds.InputFormat.TheVariants.{Text, Bytes, Document}
use Rattle.subst_expander.specs.declared.kinds.Placeholders.{Placeholders}
use Rattle.subst_expander.specs.declared.source.Refused.{Refused}
use Rattle.subst_expander.specs.declared.source.Source.{Source}

-- the bytes of a source
abbrev pub bytes_of : Source → List ℕ
bytes_of source = source.bytes.items

-- `faults` are those of `s`, in this format; `s` are the bytes of a source that are filled in
abbrev pub AreFaultsIn : InputFormat → Placeholders → List Entry → (s : List ℕ) → (faults : List Fault) → Type 0
AreFaultsIn Text placeholders entries s faults =
    HasOne (IsNoText s) faults ⊎ AreFaultsOf placeholders entries s faults
AreFaultsIn Bytes placeholders entries s faults = AreFaultsOf placeholders entries s faults
AreFaultsIn (Document format) placeholders entries s faults =
    HasOne (IsNoText s) faults ⊎ AreDocumentFaults format placeholders entries s faults

-- `faults` are those of the source `s` in this format
abbrev pub AreFaultsFor : InputFormat → Placeholders → List Entry → (s : List ℕ) → (faults : List Fault) → Type 0
AreFaultsFor form placeholders entries s faults =
    AreFaultsIn form placeholders entries (filled_of form s) faults

-- `it` is the refusal of the source: the source itself, with its faults in its format by `rule`
abbrev pub IsRefusalOf : FormatRule → Placeholders → List Entry → Source → Refused → Type 0
IsRefusalOf rule placeholders entries source it = (it.source ≡ source)
    × AreFaultsFor (format_of_source rule source) placeholders entries (bytes_of source) it.faults.items

-- each of `sources` has an output or is refused, and `refused` are the refusals, in order
abbrev pub AreRefusals : FormatRule → Placeholders → List Entry → (sources : List Source)
    → (refused : List Refused) → Type 0
AreRefusals rule placeholders entries [] refused = refused ≡ []
AreRefusals rule placeholders entries (source ∷ sources) refused =
    ((x : List ℕ) × IsSourceOutput rule placeholders entries source x
    × AreRefusals rule placeholders entries sources refused)
    ⊎ ((it : Refused) × (more : List Refused) × IsRefusalOf rule placeholders entries source it
    × AreRefusals rule placeholders entries sources more × (refused ≡ it ∷ more))
