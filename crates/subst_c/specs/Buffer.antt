-- The contents of the caller's buffer.
use Rattle.std.specs.Prelude.{◌≡◌, ◌≢◌, ◌<◌, ℕ, List, ◌++◌, drop, length}
use Rattle.subst_c.specs.declared.outcome.TheConstants.{DONE, ROOM_TOO_SMALL}

-- The buffer begins with the wanted items, `needed` in number, and the items after them are unchanged.
pub record IsPut {A : Type 0} (IsWanted : List A → Type 0) (needed : ℕ) (old new : List A) : Type 0 where
  pub items : List A
  pub wanted : IsWanted items
  pub counted : needed ≡ length items
  pub put : new ≡ items ++ drop needed old

-- the wanted items are `needed` in number, more than the buffer holds
pub record IsTooLong {A : Type 0} (IsWanted : List A → Type 0) (needed : ℕ) (buffer : List A) : Type 0 where
  pub items : List A
  pub wanted : IsWanted items
  pub counted : needed ≡ length items
  pub longer : length buffer < needed

-- the effect that a call with the result `result` has on the buffer, and on the count of needed items
pub record FillsBuffer {A : Type 0} (IsWanted : List A → Type 0) (result needed_old needed : ℕ)
    (old new : List A) : Type 0 where
  -- if the result is `DONE`, the buffer begins with the wanted items
  pub done : result ≡ DONE → IsPut IsWanted needed old new
  -- if the result is `ROOM_TOO_SMALL`, the wanted items are more than the buffer holds
  pub too_small : result ≡ ROOM_TOO_SMALL → IsTooLong IsWanted needed old
  -- unless the call is done, the buffer is unchanged
  pub buffer_kept : result ≢ DONE → new ≡ old
  -- unless the call is done or the buffer is too small, the count is unchanged
  pub needed_kept : result ≢ DONE → result ≢ ROOM_TOO_SMALL → needed ≡ needed_old
