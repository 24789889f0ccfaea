-- Lemmas on the calls of a run, on its exit status, and on its results for files.
use Rattle.std.proofs.Common.{◌≡◌, ◌≤◌, ◌∙◌, ◌++◌, ◌∷◌, ℕ, Bool, true, false, List, [], Option, Some, None, ap, append_assoc, append-nil, arith, inl, inr, subst, sym}
use Rattle.std.proofs.lemmas.Grind.{common_steps}
use Rattle.std.specs.Prelude.{◌⊎◌, IfNone, IfSome, OnSome, max}
use Rattle.subst_cli.specs.Files.{Event, FileResult, GoesOn, IsFileWritten, IsReadOrNot, Kept, LookedAt, NoMemory, NotCommitted, NotRead, NotStaged, Read, Refused, Staged, Uncommitted, Unstaged, Written, committed, uncommitted, unstaged}
use Rattle.subst_expander.specs.Layers.{Entry}
use Rattle.subst_cli.specs.Status.{IsStatus, Raises}
use Rattle.subst_cli.specs.Written.{HasNoOutput, IsChecked, IsDone, IsDoneOnce, IsOutputOf, IsReplaced, IsReplacedOnce, IsUnread, IsWriting, IsWritten, IsWrittenOnce, Refuses}
use Rattle.subst_cli.specs.declared.files.AtPath.{AtPath}
use Rattle.subst_expander.specs.declared.format_rule.FormatRule.{FormatRule}
use Rattle.subst_expander.specs.declared.kinds.Placeholders.{Placeholders}
use Rattle.subst_cli.specs.declared.per_file.Output.{Output}
use Rattle.subst_cli.specs.declared.report.Severity.{Severity}
use Rattle.subst_cli.specs.declared.report.Severity.TheVariants.{Exhaustion}
use Rattle.subst_filter_lib.specs.declared.status.TheConstants.{DONE, REFUSED, DEVICE_FAILED, OUT_OF_MEMORY}

-- no calls
pub no_calls : (old : Option (List Event)) → GoesOn old old []
no_calls None = tt
no_calls (Some calls) = ap Some (sym (append-nil calls))

-- calls after calls
pub calls_then : (old mid new : Option (List Event)) (xs ys : List Event) → GoesOn old mid xs
    → GoesOn mid new ys → GoesOn old new (xs ++ ys)
calls_then None mid new xs ys first second = tt
calls_then (Some calls) mid new xs ys first second =
    rw first at second ∙ ap Some (append_assoc calls xs ys)

-- the exit status rises after it rose
pub raises_then : (first mid last : Severity) (m n : ℕ) → Raises first mid m → Raises mid last n
    → Raises first last (max m n)
raises_then first mid last m n (inl memory) (inl more) = inl more
raises_then first mid last m n (inr same) (inl more) = inl more
raises_then first mid last m n (inl memory) (inr more) = inl (rw more (omega arith))
raises_then first mid last m n (inr same) (inr more) = inr (more ∙ grind (arith, common_steps, same))

-- the exit status of a run rises
pub status_then : (mid last : Severity) (m n : ℕ) → IsStatus mid m → Raises mid last n
    → IsStatus last (max m n)
status_then mid last m n (inl memory) (inl more) = inl more
status_then mid last m n (inr same) (inl more) = inl more
status_then mid last m n (inl memory) (inr more) = inl (rw more (omega arith))
status_then mid last m n (inr same) (inr more) = inr (rw same at more)

-- out of memory
pub exhausted : (old new : Severity) (n : ℕ) → new ≡ Exhaustion → Raises old new n
exhausted old new n is = inl (rw is (omega arith))

-- a file without a source isn't read, or memory ran out for it
pub unread : (Is : FileResult → Type 0) (file target : List ℕ) (first last : Option (List Event))
    (before after : Severity) → IsUnread file first last before after → Is NotRead
    → ((s : List ℕ) → Is (NoMemory s)) → IsDone Is file target first last before after
unread Is file target first last before after (inl (calls, raised)) none memory =
    (NotRead, none, calls, raised)
unread Is file target first last before after (inr (s, calls, raised)) none memory =
    (NoMemory s, memory s, calls, raised)

-- memory ran out while a file was read, or after that
pub gave_up : (file : List ℕ) (first last : Option (List Event)) (before after : Severity)
    → IsReadOrNot file first last → after ≡ Exhaustion → IsUnread file first last before after
gave_up file first last before after (inl calls) is = inl (calls, exhausted before after DEVICE_FAILED is)
gave_up file first last before after (inr (s, calls)) is =
    inr (s, calls, exhausted before after OUT_OF_MEMORY is)

-- a weaker property if there is no value
pub none_weaker : {T : Type 0} (it : Option T) (P Q : Type 0) → (P → Q) → IfNone it P → IfNone it Q
none_weaker None P Q weaker holds = weaker holds
none_weaker (Some x) P Q weaker holds = tt

-- the file at `path` with the bytes `s` was read
module _ (path s : List ℕ) (first mid : Option (List Event)) (read : GoesOn first mid (Read path s ∷ []))
    (before at after : Severity) where
  -- an output was handed on, or this failed
  pub handed_on : (Is : FileResult → Type 0) (target x : List ℕ) (last : Option (List Event))
      → Raises before at DONE → IsWriting target x mid last at after → Is (Written s x) → Is (NotStaged s x)
      → Is (NotCommitted s x) → IsDone Is path target first last before after
  handed_on Is target x last one (status, calls, how, wrote, two) is_written not_staged not_committed =
      of how wrote two
    where
      of : {status : ℕ} {calls : List Event} → IsFileWritten target x status calls → GoesOn mid last calls
          → Raises at after status → IsDone Is path target first last before after
      of committed wrote two = (
        Written s x,
        is_written,
        calls_then first mid last (Read path s ∷ []) _ read wrote,
        raises_then before at after DONE DONE one two,
      )
      of uncommitted wrote two = (
        NotCommitted s x,
        not_committed,
        calls_then first mid last (Read path s ∷ []) _ read wrote,
        raises_then before at after DONE DEVICE_FAILED one two,
      )
      of unstaged wrote two = (
        NotStaged s x,
        not_staged,
        calls_then first mid last (Read path s ∷ []) _ read wrote,
        raises_then before at after DONE DEVICE_FAILED one two,
      )

  module _ (rule : FormatRule) (placeholders : Placeholders) (entries : List Entry) where
    -- a file that has no output
    pub no_output : (Is : FileResult → Type 0) (target : List ℕ) (m : ℕ)
        → HasNoOutput rule placeholders entries path s at after → Raises before at m → m ≤ REFUSED
        → (Refuses rule placeholders entries path s → Is (Refused s)) → Is (NoMemory s)
        → IsDone Is path target first mid before after
    no_output Is target m (inl (refuses, two)) one least refused memory = (
      Refused s,
      refused refuses,
      read,
      subst (Raises before after) (grind (arith, common_steps, least))
          (raises_then before at after m REFUSED one two),
    )
    no_output Is target m (inr two) one least refused memory = (
      NoMemory s,
      memory,
      read,
      subst (Raises before after) (grind (arith, common_steps, least))
          (raises_then before at after m OUT_OF_MEMORY one two),
    )

    -- a file that is only checked
    pub checked : (strict : Bool) (it : Option Output)
        → IfSome it (IsOutputOf rule placeholders entries path s)
        → IfNone it (HasNoOutput rule placeholders entries path s at after) → OnSome it (after ≡ at)
        → Raises before at DONE
        → IsDone (IsChecked rule placeholders entries strict path) path [] first mid before after
    checked strict None output none same one =
        no_output (IsChecked rule placeholders entries strict path) [] DONE none one (omega arith)
        (refused strict) tt
      where
        refused : (strict : Bool) → Refuses rule placeholders entries path s
            → IsChecked rule placeholders entries strict path (Refused s)
        refused true refuses = tt
        refused false refuses = refuses
    checked strict (Some it) output none same one =
        (Kept s, (it.bytes.items, output.0), read, subst (λ w. Raises before w DONE) (sym same) one)

    -- a file whose defaults were reported
    pub checked_strictly : (it : Option Output)
        → IfNone it (HasNoOutput rule placeholders entries path s at after) → OnSome it (after ≡ at)
        → Raises before at REFUSED
        → IsDone (IsChecked rule placeholders entries true path) path [] first mid before after
    checked_strictly None none same one =
        no_output (IsChecked rule placeholders entries true path) [] REFUSED none one (omega arith) (λ _. tt) tt
    checked_strictly (Some it) none same one =
        (Refused s, tt, read, subst (λ w. Raises before w REFUSED) (sym same) one)

-- a file whose defaults were looked for
pub checked_as : (path s : List ℕ) (first mid : Option (List Event)) → GoesOn first mid (Read path s ∷ [])
    → (before reading at after : Severity) (rule : FormatRule) (placeholders : Placeholders)
    (entries : List Entry) (strict : Bool) → strict ≡ true → (it : Option Output)
    → IfSome it (IsOutputOf rule placeholders entries path s)
    → IfNone it (HasNoOutput rule placeholders entries path s at after) → OnSome it (after ≡ at)
    → Raises before reading DONE → Raises reading at DONE ⊎ Raises reading at REFUSED
    → IsDone (IsChecked rule placeholders entries strict path) path [] first mid before after
checked_as path s first mid read before reading at after rule placeholders entries strict is it output none same one
    (inl two) = checked path s first mid read before at after rule placeholders entries strict it output none same
    (raises_then before reading at DONE DONE one two)
checked_as path s first mid read before reading at after rule placeholders entries strict is it output none same one
    (inr two) = rw is (checked_strictly path s first mid read before at after rule placeholders entries it none same
    (raises_then before reading at DONE REFUSED one two))

-- a file whose output path isn't taken
pub untaken : (rule : FormatRule) (placeholders : Placeholders) (entries : List Entry) (file target : List ℕ)
    (taken : Bool) (first last : Option (List Event)) (before after : Severity) → taken ≡ false
    → IsDone (IsWritten rule placeholders entries file) file target first last before after
    → IsDone (IsWrittenOnce rule placeholders entries taken file) file target first last before after
untaken rule placeholders entries file target taken first last before after is (result, right, calls, raised) =
    (result, rw is right, calls, raised)

-- a file that was looked at is replaced
pub looked_then : (rule : FormatRule) (placeholders : Placeholders) (entries : List Entry)
    (places : List (ℕ × ℕ)) (at : AtPath) (file : List ℕ) (first mid last : Option (List Event))
    (before after : Severity) → GoesOn first mid (LookedAt file at ∷ [])
    → IsDone (IsReplaced rule placeholders entries file) file file mid last before after
    → ((result : FileResult) → IsReplaced rule placeholders entries file result
    → IsReplacedOnce rule placeholders entries places at file result)
    → IsDoneOnce rule placeholders entries places file first last before after
looked_then rule placeholders entries places at file first mid last before after looked
    (result, right, own, raised) once =
    (at, result, once result right, calls_then first mid last _ _ looked own, raised)

-- a file couldn't be written
pub unwritten : (path all : List ℕ) (first last : Option (List Event)) (P : ℕ → Type 0)
    → GoesOn first last (Unstaged path all ∷ []) ⊎ GoesOn first last (Staged path all ∷ Uncommitted path ∷ [])
    → P DEVICE_FAILED
    → (status : ℕ) × (calls : List Event) × IsFileWritten path all status calls × GoesOn first last calls
    × P status
unwritten path all first last P (inl calls) holds = (DEVICE_FAILED, _, unstaged, calls, holds)
unwritten path all first last P (inr calls) holds = (DEVICE_FAILED, _, uncommitted, calls, holds)
