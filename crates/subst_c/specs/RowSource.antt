-- The sources that are expanded with rows.
use Rattle.std.specs.Prelude.{ℕ, List}
use Rattle.subst_c.specs.declared.each.Parsed.{Parsed}
use Rattle.subst_c.specs.declared.each.Parsed.TheVariants.{Numbered, ByName}

-- the source that was parsed
abbrev pub source_of : Parsed → List ℕ
source_of (Numbered numbered) = numbered.template
source_of (ByName template) = template
