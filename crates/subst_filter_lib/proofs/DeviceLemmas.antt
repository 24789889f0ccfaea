-- Lemmas on the bytes read from an input and written to an output.
use Rattle.std.proofs.Common.{◌≡◌, ℕ, ◌+◌, ◌-◌, List, [], ◌++◌, ◌≤◌, Option, Some, None, IfSome, take, drop, length, sym, subst, arith}
use Rattle.std.proofs.KnownBytes.{Appends-trans, Consumes-trans}
use Rattle.std.proofs.Math.Seq.{take-add}
use Rattle.std.proofs.lemmas.Grind.{common_steps}
use Rattle.std.proofs.lemmas.Option.{IfSome_then}
use Rattle.std.specs.Io.KnownBytes.{Appends, Consumes, IsAtEnd}
use Rattle.subst_filter_lib.specs.Device.{ReadsExactly}

-- a property of the bytes that were read holds for those that were to be read
pub holds_of_source : (P : List ℕ → Type 0) (old new : Option (List ℕ)) (bytes : List ℕ)
    → ReadsExactly old new bytes → P bytes → IfSome old P
holds_of_source P old new bytes read h = IfSome_then old read (λ source same. subst P (sym same.0) h)

-- the rest after an index, cut to its own length, is the rest
take_rest : (bytes : List ℕ) (from : ℕ) → take (length bytes - from) (drop from bytes) ≡ drop from bytes
take_rest bytes from = grind (arith, common_steps)

-- a prefix of the bytes, followed by a prefix of the rest, is a longer prefix of the bytes
pub longer_prefix : (old mid new : Option (List ℕ)) (bytes : List ℕ) (from count : ℕ)
    → Appends old mid (take from bytes)
    → Appends mid new (take count (take (length bytes - from) (drop from bytes)))
    → Appends old new (take (from + count) bytes)
longer_prefix old mid new bytes from count first second =
    let rest = take count (drop from bytes) in
    let both = Appends-trans old mid new (take from bytes) rest first (rw (take_rest bytes from) at second) in
    rw (take-add from count bytes) both

-- a read at the end reads no bytes, so the bytes read before are all bytes
pub reads_to_end : (old mid new : Option (List ℕ)) (bytes : List ℕ) → Consumes old mid bytes
    → Consumes mid new [] → IsAtEnd new → ReadsExactly old new bytes
reads_to_end None mid new bytes before read at_end = tt
reads_to_end (Some xs) None new bytes before read at_end = absurd before
reads_to_end (Some xs) (Some ys) None bytes before read at_end = absurd read
reads_to_end (Some xs) (Some ys) (Some zs) bytes before read at_end = grind (arith, common_steps)

-- the bytes read into a chunk follow those read before
pub reads_on : (old mid new : Option (List ℕ)) (bytes buf rest chunk : List ℕ) (n count : ℕ)
    → Consumes old mid bytes → Consumes mid new (take count buf) → count ≤ length buf → length buf ≡ n
    → chunk ≡ take n (buf ++ rest) → Consumes old new (bytes ++ take count chunk)
reads_on old mid new bytes buf rest chunk n count before read bound full is =
    let same : take count chunk ≡ take count buf = grind (arith, common_steps) in
    rw same (Consumes-trans old mid new bytes (take count buf) before read)
