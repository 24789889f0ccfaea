-- Laws about filling in a tree.
use Rattle.std.specs.Prelude.{◌≡◌, ◌⊎◌}
use Rattle.toml.specs.Data.{Data}
use Rattle.subst_error.specs.Fault.{Fault}
use Rattle.subst_language.specs.Language.LookUp.{LookUp}
use Rattle.subst_language.specs.Language.Several.{IsFirstRefusal}
use Rattle.subst_toml.specs.Mapped.{strings, IsMapped}

-- under the look-up the tree is mapped to one tree or refused for one fault, never both
pub record IsMappedOrRefused (look : LookUp) (d : Data) : Type 0 where
  pub either : ((e : Data) × IsMapped look d e) ⊎ ((f : Fault) × IsFirstRefusal look (strings d) f)
  pub mapped_unique : (e f : Data) → IsMapped look d e → IsMapped look d f → e ≡ f
  pub refusal_unique : (f g : Fault) → IsFirstRefusal look (strings d) f → IsFirstRefusal look (strings d) g
      → f ≡ g
  pub never_both : (e : Data) (f : Fault) → IsMapped look d e → ¬ (IsFirstRefusal look (strings d) f)
