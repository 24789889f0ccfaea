-- Escapes and placeholders at a byte offset of a source.
use Rattle.std.proofs.Common.{◌≡◌, ◌≢◌, ℕ, ◌+◌, ◌≤◌, true, false, List, [], ◌∷◌, ◌++◌, length, drop, refl, sym, ap, ◌∙◌, arith, Some, None}
use Rattle.std.specs.List.{AllByRecursion}
use Rattle.std.proofs.lemmas.Bool.{false≢true}
use Rattle.std.proofs.lemmas.List.{append-nil}
use Rattle.subst_language.specs.Language.Bytes.{is_escapable, dollar, opening_brace, backslash, closing_brace, colon, question_mark}
use Rattle.subst_language.specs.Language.Name.{IsName, IsNameByte}
use Rattle.subst_parse.specs.ByteRun.{IsRun}
use Rattle.subst_language.specs.Language.Name.{BeginsWithNo}
use Rattle.subst_language.specs.Parts.Span.{span_bytes}
use Rattle.subst_error.specs.Fault.{InvalidEscapeSequence, MissingVariableName, UnexpectedCharacter, MissingClosingBrace}
use Rattle.subst_language.specs.Language.Character.{IsFrontCharacter}
use Rattle.subst_language.specs.Language.BadItem.{after_name, after_question_mark}
use Rattle.subst_parse.specs.Placeholder.{IsEscape, IsNameAt, IsShort, IsInBraces, IsBadWhenCut}
use Rattle.subst_error.specs.declared.CharOrByte.{CharOrByte}
use Rattle.subst_language.specs.declared.part.Span.{Span}
use Rattle.subst_language.specs.Language.BadItem.IsBad.{escape_at_end, escape, dollar_at_end, dollar_alone, brace_at_end, brace_alone, name_at_end, name_alone, optional_at_end, optional_alone}
use Rattle.subst_parse.proofs.CutLemmas.{bad_however}
use Rattle.subst_language.proofs.Language.ListLemmas.{next_element, next_elements}
use Rattle.subst_parse.proofs.ByteRunLemmas.{slice_of_run}

module _ (s : List ℕ) (at : ℕ) (rest : List ℕ) (begins : drop at s ≡ backslash ∷ rest) where
  -- a backslash before a special byte is an escape
  pub escape_at : (b : ℕ) → drop (at + 1) s ≡ b ∷ drop (at + 1 + 1) s → is_escapable b ≡ true
      → IsEscape s at b
  escape_at b second special =
      record {
        special = special;
        spelled = next_elements s at backslash b
            (next_element s at backslash rest begins) second;
      }

  -- a backslash at the end is no escape
  pub lone_backslash_at : drop (at + 1) s ≡ [] → IsBadWhenCut at (drop at s) (InvalidEscapeSequence at None)
  lone_backslash_at ends = rw (next_element s at backslash rest begins, ends) (bad_however escape_at_end tt)

  -- a backslash before another byte is no escape
  pub other_escape_at : (b : ℕ) (c : CharOrByte) → drop (at + 1) s ≡ b ∷ drop (at + 1 + 1) s
      → is_escapable b ≡ false
      → IsFrontCharacter (drop (at + 1) s) c → IsBadWhenCut at (drop at s) (InvalidEscapeSequence at (Some c))
  other_escape_at b c second plain front =
      rw (next_element s at backslash rest begins, second)
      (bad_however (escape (λ special. false≢true (sym plain ∙ special)) (rw second at front)) tt)

-- some name bytes are a name
name_of_bytes : (n : List ℕ) → AllByRecursion IsNameByte n → length n ≢ 0 → IsName n
name_of_bytes [] each some = some refl
name_of_bytes (b ∷ n) each some = each

module _ (s : List ℕ) (start end : ℕ) (run : IsRun IsNameByte s start end) where
  -- a run's range has its bytes
  run_bytes : span_bytes (record { start = start; end = end }) s ≡ run.run
  run_bytes = slice_of_run run

  -- a run of name bytes that is not empty is a name
  run_named : start ≢ end → IsName run.run
  run_named some = name_of_bytes run.run run.each (λ none. some (omega (arith, run.ends)))

  -- the name is at its range
  name_at : start ≢ end → end ≤ length s → IsNameAt s (record { start = start; end = end })
  name_at some within = record {
    inside = record { ordered = omega (arith, run.ends); within = within };
    valid = rw run_bytes (run_named some);
    ends = run.ends ∙ ap (λ (n : List ℕ). start + length n) (sym run_bytes);
  }

  -- from `start` on, the source is the range's bytes and then the rest
  run_tree_at : drop start s ≡ span_bytes (record { start = start; end = end }) s ++ drop end s
  run_tree_at = run.spelled ∙ ap (λ (n : List ℕ). n ++ drop end s) (sym run_bytes)

-- a dollar with no opening brace and no name after it
nameless_dollar : (p : ℕ) (r : List ℕ) → BeginsWithNo (λ b. b ≡ opening_brace) r → BeginsWithNo IsNameByte r
    → IsBadWhenCut p (dollar ∷ r) (MissingVariableName p 1)
nameless_dollar p [] unbraced unnamed = bad_however dollar_at_end tt
nameless_dollar p (b ∷ r) unbraced unnamed = bad_however (dollar_alone unbraced unnamed) tt

-- a dollar and an opening brace with no name
nameless_braces : (p : ℕ) (r : List ℕ) → BeginsWithNo IsNameByte r
    → IsBadWhenCut p (dollar ∷ opening_brace ∷ r) (MissingVariableName p 2)
nameless_braces p [] unnamed = bad_however brace_at_end tt
nameless_braces p (b ∷ r) unnamed = bad_however (brace_alone unnamed) tt

module _ (s : List ℕ) (at end : ℕ) (begins : drop at s ≡ dollar ∷ drop (at + 1) s)
    (run : IsRun IsNameByte s (at + 1) end)
    (longest : BeginsWithNo IsNameByte (drop end s)) where
  -- a dollar before a name
  pub short_at : at + 1 ≢ end → end ≤ length s → IsShort s at (record { start = at + 1; end = end })
  short_at some within = record {
    named = name_at s (at + 1) end run some within;
    starts = refl;
    spelled = begins ∙ ap (λ (x : List ℕ). dollar ∷ x) (run_tree_at s (at + 1) end run);
    longest = longest;
  }

  -- a dollar with no name after it
  pub nameless_dollar_at : BeginsWithNo (λ b. b ≡ opening_brace) (drop (at + 1) s) → at + 1 ≡ end
      → IsBadWhenCut at (drop at s) (MissingVariableName at 1)
  nameless_dollar_at unbraced none =
      rw begins (nameless_dollar at (drop (at + 1) s) unbraced (rw none longest))

module _ (s : List ℕ) (at end : ℕ) (begins : drop at s ≡ dollar ∷ opening_brace ∷ drop (at + 2) s)
    (run : IsRun IsNameByte s (at + 2) end) where
  -- a dollar and an opening brace before a name, and a byte that may follow it
  pub in_braces_at : (a b : ℕ) → at + 2 ≢ end → end ≤ length s → drop end s ≡ a ∷ drop (end + 1) s → a ≡ b
      → IsInBraces s at (record { start = at + 2; end = end }) b
  in_braces_at a b some within follows is = record {
    named = name_at s (at + 2) end run some within;
    starts = refl;
    spelled = begins ∙ ap (λ (x : List ℕ). dollar ∷ opening_brace ∷ x) (run_tree_at s (at + 2) end run
        ∙ ap (λ (x : List ℕ). span_bytes (record { start = at + 2; end = end }) s ++ x)
        (follows ∙ ap (λ (k : ℕ). k ∷ drop (end + 1) s) is));
  }

  -- a dollar and an opening brace with no name after them
  pub nameless_braces_at : BeginsWithNo IsNameByte (drop end s) → at + 2 ≡ end
      → IsBadWhenCut at (drop at s) (MissingVariableName at 2)
  nameless_braces_at longest none = rw begins (nameless_braces at (drop (at + 2) s) (rw none longest))

  -- the end after a name in braces
  pub unended_name_at : at + 2 ≢ end → drop end s ≡ []
      → IsBadWhenCut at (drop at s) (MissingClosingBrace (at + 1))
  unended_name_at some ends =
      let whole : drop (at + 2) s ≡ run.run =
      run.spelled ∙ ap (λ (x : List ℕ). run.run ++ x) ends ∙ append-nil run.run in
      rw (begins, whole) (bad_however (name_at_end run.run (run_named s (at + 2) end run some)) tt)

  -- an unexpected byte after a name in braces
  pub unexpected_byte_at : (b : ℕ) (c : CharOrByte) (expected : List ℕ) → at + 2 ≢ end
      → BeginsWithNo IsNameByte (drop end s)
      → drop end s ≡ b ∷ drop (end + 1) s → b ≢ closing_brace → b ≢ colon → b ≢ question_mark
      → IsFrontCharacter (drop end s) c → expected ≡ after_name
      → IsBadWhenCut at (drop at s) (UnexpectedCharacter end c expected)
  unexpected_byte_at b c expected some longest follows no_close no_colon no_mark front is =
      let whole : drop (at + 2) s ≡ run.run ++ b ∷ drop (end + 1) s =
      run.spelled ∙ ap (λ (x : List ℕ). run.run ++ x) follows in
      let named = run_named s (at + 2) end run some in
      let bad : IsBadWhenCut at (dollar ∷ opening_brace ∷ run.run ++ b ∷ drop (end + 1) s)
      (UnexpectedCharacter (at + 2 + length run.run) c after_name) =
      bad_however
      (name_alone run.run (drop (end + 1) s) named (rw follows at longest) no_close no_colon no_mark
      (rw follows at front)) tt in
      rw (begins, whole, is) (rw (← run.ends) at bad)

module _ (s : List ℕ) (at : ℕ) (name : Span) (head : IsInBraces s at name question_mark) where
  -- a name and a question mark in braces at the end
  pub unended_optional_at : (position : ℕ) → drop (name.end + 1) s ≡ [] → position ≡ at + 1
      → IsBadWhenCut at (drop at s) (MissingClosingBrace position)
  unended_optional_at position ends is =
      rw (head.spelled, ends, is) (bad_however (optional_at_end (span_bytes name s) head.named.valid) tt)

  -- a byte after a name and a question mark in braces that is no closing brace
  pub unclosed_optional_at : (position b : ℕ) (c : CharOrByte) (expected : List ℕ)
      → drop (name.end + 1) s ≡ b ∷ drop (name.end + 1 + 1) s → b ≢ closing_brace
      → IsFrontCharacter (drop (name.end + 1) s) c → position ≡ name.end + 1 → expected ≡ after_question_mark
      → IsBadWhenCut at (drop at s) (UnexpectedCharacter position c expected)
  unclosed_optional_at position b c expected follows no_close front here is =
      let n = span_bytes name s in
      let there : at + 3 + length n ≡ position = omega (arith, here, head.starts, head.named.ends) in
      let bad : IsBadWhenCut at
      (dollar ∷ opening_brace ∷ n ++ (question_mark ∷ b ∷ drop (name.end + 1 + 1) s))
      (UnexpectedCharacter (at + 3 + length n) c after_question_mark) =
      bad_however (optional_alone n (drop (name.end + 1 + 1) s) head.named.valid no_close
      (rw follows at front)) tt in
      rw (head.spelled, follows, is) (rw there at bad)
