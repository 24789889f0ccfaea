-- Lemmas on runs whose outputs are written to one place.
use denote.Ref.{Bor}
use Rattle.std.proofs.Common.{◌≡◌, ◌<◌, ◌∙◌, ◌++◌, ◌∷◌, ℕ, List, [], Option, Some, None, Result, Ok, Err, OnOk, Vec, arith, inl, inr, length, refl, string_bytes, subst, sym}
use Rattle.std.proofs.lemmas.Grind.{common_steps}
use Rattle.std.proofs.lemmas.Result.{on_ok_weaker}
use Rattle.std.specs.Io.KnownBytes.{Keeps}
use Rattle.std.specs.Prelude.{IsErr, max}
use Rattle.subst_cli.proofs.RunLemmas.{no_success}
use Rattle.subst_cli.proofs.WrittenLemmas.{calls_then, no_calls, status_then}
use Rattle.subst_cli.specs.Expanded.{AreOutputsWritten, AreSourcesRead, IsExpandRun, Reads, then_lost, then_read, then_unread}
use Rattle.subst_cli.specs.Files.{Event, GoesOn, IsReadOrNot, Read, Unread}
use Rattle.subst_expander.specs.Fill.{AreOutputs}
use Rattle.subst_expander.specs.Layers.{Entry}
use Rattle.subst_expander.specs.Refusals.{AreRefusals}
use Rattle.subst_cli.specs.Status.{IsStatus, Raises, status_of}
use Rattle.std.specs.declared.alloc.AllocError.{AllocError}
use Rattle.subst_expander.specs.declared.format_rule.FormatRule.{FormatRule}
use Rattle.subst_options.specs.declared.Action.{Action}
use Rattle.subst_expander.specs.declared.kinds.Placeholders.{Placeholders}
use Rattle.subst_cli.specs.declared.report.Severity.{Severity}
use Rattle.subst_expander.specs.declared.source.Refused.{Refused}
use Rattle.subst_expander.specs.declared.source.Source.{Source}
use Rattle.subst_filter_lib.specs.declared.status.TheConstants.{DONE, REFUSED, DEVICE_FAILED, OUT_OF_MEMORY}

module _ (start : ℕ) (first : Option (List Event)) where
  -- the files at these paths were read
  abbrev pub HasRead : (paths : List (Bor (List ℕ))) → List Source → (last : Option (List Event))
      → (worst : Severity) → Type 0
  HasRead paths sources last worst = (status : ℕ) × (calls : List Event)
      × Reads start paths sources status calls × GoesOn first last calls × IsStatus worst status

  module _ (paths more : List (Bor (List ℕ))) (path : Bor (List ℕ)) (sources : List Source)
      (mid last : Option (List Event)) (before after : Severity) (next : more ≡ paths ++ path ∷ [])
      (has : HasRead paths sources mid before) where
    -- one more
    pub one_read : (source : Source) → GoesOn mid last (Read path.now source.bytes.items ∷ [])
        → string_bytes source.path ≡ path.now → Raises before after DONE
        → HasRead more (sources ++ source ∷ []) last after
    one_read source read same raised = rw next (
      has.0,
      has.1 ++ Read path.now source.bytes.items ∷ [],
      then_read path source has.2 same,
      calls_then first mid last has.1 _ has.3 read,
      subst (IsStatus after) (grind (arith, common_steps)) (status_then before after has.0 DONE has.4 raised),
    )

    -- memory ran out for one more
    pub one_lost : (sum : IsReadOrNot path.now mid last) → (status : ℕ) × (calls : List Event)
        × Reads start more sources status calls × GoesOn first last calls
    one_lost (inl read) = rw next (
      max has.0 DEVICE_FAILED,
      has.1 ++ Unread path.now ∷ [],
      then_unread path has.2,
      calls_then first mid last has.1 _ has.3 read,
    )
    one_lost (inr (s, read)) = rw next (
      max has.0 OUT_OF_MEMORY,
      has.1 ++ Read path.now s ∷ [],
      then_lost path s has.2,
      calls_then first mid last has.1 _ has.3 read,
    )

    -- one more, which can't be read
    pub one_unread : GoesOn mid last (Unread path.now ∷ []) → Raises before after DEVICE_FAILED
        → HasRead more sources last after
    one_unread read raised = rw next (
      max has.0 DEVICE_FAILED,
      has.1 ++ Unread path.now ∷ [],
      then_unread path has.2,
      calls_then first mid last has.1 _ has.3 read,
      status_then before after has.0 DEVICE_FAILED has.4 raised,
    )

-- the same bytes are kept
pub keeps : (written : Option (List ℕ)) → Keeps written written
keeps None = tt
keeps (Some bytes) = refl

-- a list that isn't empty
some_length : {T : Type 0} (xs : List T) → ¬ (xs ≡ []) → 0 < length xs
some_length [] some = absurd (some refl)
some_length (x ∷ xs) some = omega arith

-- no error was reported, so all files were read
is_done : (worst : Severity) (read : ℕ) → status_of worst ≡ DONE → IsStatus worst read → read ≡ DONE
is_done worst read none (inl memory) = absurd (omega (arith, none, memory))
is_done worst read none (inr same) = sym same ∙ none

-- a fact that holds in any case holds of a success
on_ok : {T E P : Type 0} (result : Result T E) → P → OnOk result P
on_ok (Ok it) holds = holds
on_ok (Err e) holds = tt

-- a run over files that were read before `mid`
module _ {E : Type 0} (action : Action) (rule : FormatRule) (placeholders : Placeholders) (entries : List Entry)
    (paths : List (Bor (List ℕ))) (before : Severity) (first mid : Option (List Event))
    (old : Option (List ℕ)) where
  -- memory ran out before anything was written
  pub stopped : {Z F : Type 0} (sources : Result (Vec Source Z) F) (at after : Severity)
      (result : Result (Unit {0}) E) → AreSourcesRead paths before at first mid sources → IsErr result
      → IsExpandRun action rule placeholders entries after result paths before first mid old old
  stopped sources at after result (handled, left, are, read, calls, same, reads, went, rest) failed = (
    handled,
    left,
    are,
    read,
    calls,
    [],
    same,
    reads,
    calls_then first mid mid calls [] went (no_calls mid),
    inl (refl, keeps old, no_success result _ failed),
  )

  module _ {Z : Type 0} (sources : Vec Source Z) (at after : Severity) (result : Result (Unit {0}) E)
      (are : AreSourcesRead {Z = Z} {E = AllocError} paths before at first mid (Ok sources)) where
    -- some source is refused
    pub all_refused : (refused : List Refused) → ¬ (refused ≡ [])
        → AreRefusals rule placeholders entries sources.items refused
        → OnOk result (0 < length refused → Raises at after REFUSED)
        → IsExpandRun action rule placeholders entries after result paths before first mid old old
    all_refused refused some refusals raised = of are
      where
        of : AreSourcesRead {Z = Z} {E = AllocError} paths before at first mid (Ok sources)
            → IsExpandRun action rule placeholders entries after result paths before first mid old old
        of (handled, left, list, read, calls, same, reads, went, done) = (
          handled,
          left,
          list,
          read,
          calls,
          [],
          same,
          reads,
          calls_then first mid mid calls [] went (no_calls mid),
          inl (
            refl,
            keeps old,
            on_ok_weaker result (λ raised. (
              done.0,
              inl (
                refused,
                some,
                subst (λ l. AreRefusals rule placeholders entries l refused) done.1 refusals,
                status_then at after read REFUSED done.2 (raised (some_length refused some)),
              ),
            )) raised,
          ),
        )

    -- the outputs were handed on, unless an error has been reported
    pub all_written : (all : List ℕ) (last : Option (List Event)) (new : Option (List ℕ))
        → AreOutputs rule placeholders entries sources.items all
        → AreOutputsWritten action all at after mid last old new result
        → IsExpandRun action rule placeholders entries after result paths before first last old new
    all_written all last new outputs written = of are written
      where
        of : AreSourcesRead {Z = Z} {E = AllocError} paths before at first mid (Ok sources)
            → AreOutputsWritten action all at after mid last old new result
            → IsExpandRun action rule placeholders entries after result paths before first last old new
        of (handled, left, list, read, calls, same, reads, went, done) (inl (other, stays, no_call, kept)) = (
          handled,
          left,
          list,
          read,
          calls,
          [],
          same,
          reads,
          rw no_call (calls_then first mid mid calls [] went (no_calls mid)),
          inl (
            refl,
            kept,
            on_ok result (
              done.0,
              inr (
                subst (λ w. ¬ (status_of w ≡ DONE)) (sym stays) other,
                subst (λ w. IsStatus w read) (sym stays) done.2,
              ),
            ),
          ),
        )
        of (handled, left, list, read, calls, same, reads, went, done)
            (inr (none, (status, own, goes, handed, ends))) = (
              handled,
              left,
              list,
              read,
              calls,
              own,
              same,
              reads,
              calls_then first mid last calls own went goes,
              inr (
                all,
                status,
                done.0,
                is_done at read none done.2,
                subst (λ l. AreOutputs rule placeholders entries l all) done.1 outputs,
                handed,
                ends,
              ),
            )
