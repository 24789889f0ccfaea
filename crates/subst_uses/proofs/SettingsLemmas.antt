-- Errors in place of settings.
use Rattle.std.proofs.Common.{◌⊎◌, inl, inr, ℕ, List, Err, IsUtf8}
use Rattle.toml.specs.Data.{table, Members}
use Rattle.toml.specs.declared.de.error.Error as reading
use Rattle.subst.specs.Language.Answer.{Answer}
use Rattle.subst.specs.Language.Several.{GivesBy, RefusesFirst}
use Rattle.subst.specs.Toml.{Error}
use Rattle.subst.specs.Toml.error.{InvalidUtf8, Toml, Subst, OutOfMemory}
use Rattle.subst.specs.Toml.Errors.{HasOwnMemory}
use Rattle.subst.specs.Toml.Mapped.{strings, IsEach}
use Rattle.subst.specs.Toml.Outcome.{ReadsAsTree, IfToml, OnSubst, StatesUtf8}
use Rattle.subst.specs.Toml.Report.{Reports}
use Rattle.subst_uses.specs.Settings.{CanFillIn, IsRefusal, IsUnreadIn}

module _ (ask : List ℕ → Answer → Type 0) (file s : List ℕ) where
  -- an error of a call that is reported: the reader's, for which P and Q hold, or a substitution's
  pub refused : (report : List ℕ) (P Q IsUnread : reading.Error → Type 0) (e : Error)
      → IsUtf8 s → ((d : reading.Error) → P d → Q d → IsUnread d) → StatesUtf8 {T = ℕ} s (Err e)
      → IfToml {T = ℕ} (Err e) P → IfToml {T = ℕ} (Err e) Q
      → OnSubst {T = ℕ} (Err e) (λ f. ReadsAsTree s (λ d. RefusesFirst ask (strings d) f))
      → HasOwnMemory e → Reports ask file s e report
      → IsRefusal ask s IsUnread e × Reports ask file s e report
  refused report P Q IsUnread (InvalidUtf8 e) is why utf8 toml also subst memory told = absurd (utf8.0 is)
  refused report P Q IsUnread (Toml e) is why utf8 toml also subst memory told = (why e toml also, told)
  refused report P Q IsUnread (Subst e) is why utf8 toml also subst memory told = ((memory, subst), told)
  refused report P Q IsUnread (OutOfMemory e) is why utf8 toml also subst memory told = absurd told

  -- a tree that a type was read from can be filled in
  pub filled_in : (IsRead : Members → Type 0)
      → ReadsAsTree s (λ d. (filled : Members) × IsEach (GivesBy ask) d (table filled) × IsRead filled)
      → CanFillIn ask s
  filled_in IsRead (ms, parsed, (filled, each, _)) = (ms, parsed, (table filled, each))

  -- the text isn't a document, or its filled-in tree doesn't fit a type
  pub unread : (IsRead : reading.Error → Members → Type 0) (Q : reading.Error → Type 0) (e : reading.Error)
      → IsUnreadIn s e
      ⊎ ReadsAsTree s (λ d. (filled : Members) × IsEach (GivesBy ask) d (table filled) × IsRead e filled)
      → Q e → IsUnreadIn s e ⊎ CanFillIn ask s
  unread IsRead Q e (inl h) also = inl h
  unread IsRead Q e (inr h) also = inr (filled_in (IsRead e) h)
