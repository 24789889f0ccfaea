-- Lemmas on calls that only read files.
use Rattle.std.proofs.Common.{◌∷◌, ℕ, List, [], ◌++◌, Option}
use Rattle.std.proofs.lemmas.List.Elements.{All-append, All-from_recursion}
use Rattle.subst_cli.proofs.WrittenLemmas.{calls_then, no_calls}
use Rattle.subst_cli.specs.Files.{Event, GoesOn, IsRead, OnlyReads, Read, Unread}

-- no calls
pub no_reads : (at : Option (List Event)) → OnlyReads at at
unfolding OnlyReads
no_reads at = ([], All-from_recursion IsRead [] tt, no_calls at)

-- a file was read
pub read_one : (old new : Option (List Event)) (path bytes : List ℕ) → GoesOn old new (Read path bytes ∷ [])
    → OnlyReads old new
unfolding OnlyReads
read_one old new path bytes went =
    (Read path bytes ∷ [], All-from_recursion IsRead (Read path bytes ∷ []) (tt, tt), went)

-- a file couldn't be read
pub unread_one : (old new : Option (List Event)) (path : List ℕ) → GoesOn old new (Unread path ∷ [])
    → OnlyReads old new
unfolding OnlyReads
unread_one old new path went = (Unread path ∷ [], All-from_recursion IsRead (Unread path ∷ []) (tt, tt), went)

-- reads after reads
pub reads_then : (old mid new : Option (List Event)) → OnlyReads old mid → OnlyReads mid new
    → OnlyReads old new
unfolding OnlyReads
reads_then old mid new (xs, some, first) (ys, more, second) =
    (xs ++ ys, All-append IsRead xs ys some more, calls_then old mid new xs ys first second)
