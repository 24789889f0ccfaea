-- The results of calls.
use Rattle.std.specs.Prelude.{◌≡◌, ◌≢◌, ℕ}
use Rattle.subst_c.specs.declared.outcome.TheConstants.{DONE, REFUSED, OUT_OF_MEMORY, ROOM_TOO_SMALL}

-- a result other than `DONE`, `REFUSED` and `ROOM_TOO_SMALL` is `OUT_OF_MEMORY`
abbrev pub IsOther : ℕ → Type 0
IsOther result = result ≢ DONE → result ≢ REFUSED → result ≢ ROOM_TOO_SMALL → result ≡ OUT_OF_MEMORY
