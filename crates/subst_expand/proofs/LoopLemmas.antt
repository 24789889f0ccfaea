-- The progress of the expansion's loop.
use Rattle.std.proofs.Common.{◌≡◌, ◌≤◌, ℕ, ◌+◌, List, [], ◌∷◌, ◌++◌, length, drop, unwrap_or, Ok, Err, append-nil, append_assoc, length-append, refl, sym, ap, ◌∙◌, arith}
use Rattle.std.proofs.lemmas.List.{drop_all}
use Rattle.subst_language.specs.Calls.VariableMap.{look_up_of}
use Rattle.subst_language.proofs.Language.ListLemmas.{IsElementAt}
use Rattle.subst_expand.specs.Context.{Context, WritesPart, StopsAtPart, jump_of}
use Rattle.subst_language.specs.Parts.Meaning.{FitsAt, resume_index, visited_parts}
use Rattle.subst_expand.specs.Writing.{WritesVisited, AppendsParts}
use Rattle.subst_expand.specs.declared.expand.Stop.{Stop}
use Rattle.subst_language.specs.declared.part.Part.{Part}
use Rattle.subst_expand.proofs.ExpandLemmas.{goes_on, after_jump, visited_parts-here}
use Rattle.subst_expand.proofs.WritingLemmas.{writes_none, writes_next, stops_next, writes_same}

-- An expansion of parts at the index `at` has visited those that are done, whatever the bytes of the map's
-- values. Their outputs were written, and each was a turn.
pub record HasVisited {V Seen W First : Type 0} (context : Context V Seen W First) (s : List ℕ)
    (parts : List Part) (at : ℕ) (first now : W) (start turns : ℕ) : Type 0 where
  pub done : List Part
  pub visits : (bytes : Seen → List ℕ) → visited_parts parts 0 0 s (look_up_of bytes context.look_up)
      ≡ done ++ visited_parts (drop at parts) at 0 s (look_up_of bytes context.look_up)
  pub written : WritesVisited context s (λ _. done) first now
  pub counted : turns ≡ start + length done

module _ {V Seen W First : Type 0} (context : Context V Seen W First) (s : List ℕ) (parts : List Part) where
  -- at first it has visited none
  pub visits_none : (output : W) (turns : ℕ) → HasVisited context s parts 0 output output turns turns
  visits_none output turns = record {
    done = [];
    visits = λ bytes. refl;
    written = writes_none context s output;
    counted = omega arith;
  }

  module _ {at : ℕ} {first before : W} {start turns later : ℕ} (so_far : HasVisited context s parts at first
      before start turns) where
    -- one more, after which it continues at the end of its jump, or else at the next index
    pub visits_next : (part : Part) (after : W) (next : ℕ) → IsElementAt parts at part
        → FitsAt at (length parts) s part → WritesPart context s part before after
        → next ≡ unwrap_or (jump_of context.look_up s part) (at + 1) → later ≡ turns + 1
        → HasVisited context s parts next first after start later
    visits_next part after next here fits writes goes one = record {
      done = so_far.done ++ part ∷ [];
      visits = λ bytes.
          let look = look_up_of bytes context.look_up in
          let there = goes_on (length parts) part here fits.1 in
          let rest = λ (i : ℕ). visited_parts (drop i parts) i 0 s look in
          so_far.visits bytes
          ∙ ap (λ (visited : List Part). so_far.done ++ visited) there.visits
          ∙ sym (append_assoc so_far.done (part ∷ []) _)
          ∙ ap (λ i. (so_far.done ++ part ∷ []) ++ rest i)
          (sym (goes ∙ after_jump context.look_up bytes s part (at + 1)));
      written =
          writes_next context s (λ _. so_far.done) (λ _. so_far.done ++ part ∷ []) part first before after
          so_far.written (λ bytes. refl) writes;
      counted = omega (arith, one, so_far.counted, length-append so_far.done (part ∷ []));
    }

    -- after the last index it has visited all
    pub visits_all : length parts ≤ at → later ≡ turns
        → AppendsParts context s parts (Ok tt) first before start later
    visits_all above same =
        let all : (bytes : Seen → List ℕ) → visited_parts parts 0 0 s (look_up_of bytes context.look_up)
        ≡ so_far.done =
        λ bytes. so_far.visits bytes
        ∙ ap (λ (rest : List Part). so_far.done
        ++ visited_parts rest at 0 s (look_up_of bytes context.look_up)) (drop_all at parts above)
        ∙ append-nil so_far.done in
        record {
          written =
              writes_same context s (λ _. so_far.done) (λ look. visited_parts parts 0 0 s look)
              (λ bytes. rw (all bytes) record { steps = refl }) first before so_far.written;
          stopped = tt;
          counted = λ bytes reads. omega (arith, same, so_far.counted, ap length (all bytes));
          at_most = λ bytes reads. omega (arith, same, so_far.counted, ap length (all bytes));
          grown = omega (arith, same, so_far.counted);
        }

    -- or writing stops at the next
    pub visits_until : (part : Part) (after : W) (stopped : Stop) → IsElementAt parts at part
        → StopsAtPart context s part stopped before after → later ≡ turns + 1
        → AppendsParts context s parts (Err stopped) first after start later
    visits_until part after stopped here stops one =
        let more : (bytes : Seen → List ℕ) → visited_parts parts 0 0 s (look_up_of bytes context.look_up)
        ≡ so_far.done ++ part ∷ visited_parts (drop (at + 1) parts) (at + 1)
        (resume_index part s (look_up_of bytes context.look_up)) s (look_up_of bytes context.look_up) =
        λ bytes. so_far.visits bytes
        ∙ ap (λ (visited : List Part). so_far.done ++ visited)
        (visited_parts-here parts at part s (look_up_of bytes context.look_up) here) in
        record {
          written = tt;
          stopped =
              stops_next context s (λ _. so_far.done) (λ look. visited_parts parts 0 0 s look) part first
              before after so_far.written
              (λ look. visited_parts (drop (at + 1) parts) (at + 1) (resume_index part s look) s look) more
              stopped stops;
          counted = λ bytes reads. tt;
          at_most = λ bytes reads.
              let look = look_up_of bytes context.look_up in
              let rest = visited_parts (drop (at + 1) parts) (at + 1) (resume_index part s look) s look in
              omega (
                arith,
                one,
                so_far.counted,
                ap length (more bytes),
                length-append so_far.done (part ∷ rest),
              );
          grown = omega (arith, one, so_far.counted);
        }
