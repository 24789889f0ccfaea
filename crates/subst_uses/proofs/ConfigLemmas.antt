-- Errors in place of a configuration.
use Rattle.std.proofs.Common.{◌⊎◌, inl, inr, ℕ, List, Err}
use Rattle.serde_json.specs.Data.{Data}
use Rattle.serde_json.specs.declared.error.Error as reading
use Rattle.subst.specs.Json.{Error}
use Rattle.subst.specs.Json.error.{Json, Subst, OutOfMemory}
use Rattle.subst.specs.Json.Errors.{HasOwnMemory}
use Rattle.subst.specs.Json.Mapped.{strings, IsEach}
use Rattle.subst.specs.Json.Outcome.{ReadsAsTree, IfJson, OnSubst}
use Rattle.subst.specs.Json.Report.{Reports}
use Rattle.subst.specs.Language.Answer.{Answer}
use Rattle.subst.specs.Language.Several.{GivesBy, RefusesFirst}
use Rattle.subst_uses.specs.Config.{CanFillIn, IsRefusal, IsUnreadIn}

module _ (ask : List ℕ → Answer → Type 0) (file s : List ℕ) where
  -- an error of a call that is reported: the reader's, for which P and Q hold, or a substitution's
  pub refused : (report : List ℕ) (P Q IsUnread : reading.Error → Type 0) (e : Error)
      → ((d : reading.Error) → P d → Q d → IsUnread d) → IfJson {T = ℕ} (Err e) P → IfJson {T = ℕ} (Err e) Q
      → OnSubst {T = ℕ} (Err e) (λ f. ReadsAsTree s (λ d. RefusesFirst ask (strings d) f))
      → HasOwnMemory e → Reports ask file s e report
      → IsRefusal ask s IsUnread e × Reports ask file s e report
  refused report P Q IsUnread (Json e) why json also subst memory told = (why e json also, told)
  refused report P Q IsUnread (Subst e) why json also subst memory told = ((memory, subst), told)
  refused report P Q IsUnread (OutOfMemory e) why json also subst memory told = absurd told

  -- the text isn't JSON, or its filled-in tree doesn't fit a type
  pub unread : (IsRead : reading.Error → Data → Type 0) (Q : reading.Error → Type 0) (e : reading.Error)
      → IsUnreadIn s e
      ⊎ ReadsAsTree s (λ d. (filled : Data) × IsEach (GivesBy ask) d filled × IsRead e filled)
      → Q e → IsUnreadIn s e ⊎ CanFillIn ask s
  unread IsRead Q e (inl h) also = inl h
  unread IsRead Q e (inr (d, reads, (filled, each, _))) also = inr (d, reads, (filled, each))
