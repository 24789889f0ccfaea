-- A lemma for callers that are generic in a map of bytes.
use Rattle.std.proofs.Common.{ℕ, List, Option, subst, sym}
use Rattle.std.proofs.Math.Path.{fun_ext}
use Rattle.subst_language.specs.Calls.VariableMap.{ByLookUp}
use Rattle.subst_language.specs.Language.LookUp.{LookUp}
use Rattle.subst_language.specs.Maps.{AreReadAs}

-- a property of a map's look-up of bytes holds of the look-up that its values are read as
pub by_look_up_bytes : {Map Value Seen : Type 0} (items : Value → List ℕ) (see : Value → Seen)
    (look_up : Map → List ℕ → Option Seen) (look : Map → LookUp) (map : Map) (P : LookUp → Type 0)
    → AreReadAs items see look_up look → ByLookUp items see (look_up map) P → P (look map)
by_look_up_bytes items see look_up look map P (bytes, reads, same) holds =
    subst P (sym (fun_ext (same map))) (holds bytes reads)
