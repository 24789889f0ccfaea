-- The records of a text, one after the other.
use Rattle.std.proofs.Common.{◌≡◌, ℕ, zero, suc, ◌+◌, ◌<◌, ◌≤◌, Bool, true, false, Option, Some, None, List, [], ◌∷◌, ◌++◌, drop, get_or, length, refl, sym, ap, ◌∙◌, subst, arith}
use Rattle.std.proofs.lemmas.Option.{slice_get_past}
use Rattle.std.specs.Prelude.{slice_get, if◌then◌else◌}
use Rattle.csv.specs.Machine.{Read, ends_at_end, field_after, fields_after, is_end, next_record, step}
use Rattle.csv.specs.Reading.{is_bom, records_from, records_next, strip_bom}
use Rattle.csv.specs.Records.{field_at}
use Rattle.csv.specs.declared.parser.Config.{Config}
use Rattle.csv.specs.declared.parser.State.{State}
use Rattle.csv.specs.declared.parser.State.TheVariants as st

module _ (config : Config) where
  -- after a record, fewer bytes are left, or none were there; at the end, the state is that of a new record
  abbrev LeavesLess : List ℕ → Option Read → Type 0
  LeavesLess text None = Unit {0}
  LeavesLess [] (Some p) = (p.1 ≡ st.StartRecord) × (p.2 ≡ [])
  LeavesLess (b ∷ rest) (Some p) = length p.2 ≤ length rest

  less_again : (b c : ℕ) (rest : List ℕ) (found : Option Read) → LeavesLess (c ∷ rest) found
      → LeavesLess (b ∷ c ∷ rest) found
  less_again b c rest None less = tt
  less_again b c rest (Some p) less = omega arith

  less_at_end : (b : ℕ) (found : Option Read) → LeavesLess [] found → LeavesLess (b ∷ []) found
  less_at_end b None less = tt
  less_at_end b (Some p) less = omega (arith, ap length less.1)

  leaves_less : (s : State) (fields : List (List ℕ)) (field text : List ℕ)
      → LeavesLess text (next_record config s fields field text)
  unfolding next_record
  leaves_less s fields field [] = of (ends_at_end s)
    where
      of : (ends : Bool)
          → LeavesLess [] (if ends then Some (fields ++ (field ∷ []), st.StartRecord, []) else None)
      of true = (refl, refl)
      of false = tt
  leaves_less s fields field (b ∷ rest) =
      of (is_end (step config s b).1) rest
      (leaves_less (step config s b).0 (fields_after (step config s b).1 fields field)
      (field_after (step config s b).1 b field) rest)
    where
      of : (ends : Bool) (rest : List ℕ)
          → LeavesLess rest (next_record config (step config s b).0 (fields_after (step config s b).1 fields field)
          (field_after (step config s b).1 b field) rest)
          → LeavesLess (b ∷ rest)
          (if ends then Some (fields_after (step config s b).1 fields field, (step config s b).0, rest)
          else next_record config (step config s b).0 (fields_after (step config s b).1 fields field)
          (field_after (step config s b).1 b field) rest)
      of true rest less = omega arith
      of false [] less = less_at_end b _ less
      of false (c ∷ rest) less = less_again b c rest _ less

  -- there are no records at the end of a text
  records_at_end : (n : ℕ) → records_from config n st.StartRecord [] ≡ []
  unfolding records_from next_record
  records_at_end zero = refl
  records_at_end (suc n) = refl

  no_records : (n : ℕ) (p : Read) → (p.1 ≡ st.StartRecord) × (p.2 ≡ []) → records_from config n p.1 p.2 ≡ []
  no_records n p (started, none) =
      ap (λ s. records_from config n s p.2) started
      ∙ ap (records_from config n st.StartRecord) none ∙ records_at_end n

  -- the records after one, with each limit above the length
  rest_alike : (n m : ℕ) (text : List ℕ) (p : Read) → LeavesLess text (Some p) → length text < n + 1
      → length text < m + 1
      → (length p.2 < n → length p.2 < m → records_from config n p.1 p.2 ≡ records_from config m p.1 p.2)
      → records_from config n p.1 p.2 ≡ records_from config m p.1 p.2
  rest_alike n m [] p less below above alike = no_records n p less ∙ sym (no_records m p less)
  rest_alike n m (b ∷ rest) p less below above alike = alike (omega arith) (omega arith)

  next_alike : (n m : ℕ) (text : List ℕ) (found : Option Read) → LeavesLess text found → length text < n + 1
      → length text < m + 1
      → ((p : Read) → length p.2 < n → length p.2 < m
      → records_from config n p.1 p.2 ≡ records_from config m p.1 p.2)
      → records_next (records_from config n) found ≡ records_next (records_from config m) found
  next_alike n m text None less below above alike = refl
  next_alike n m text (Some p) less below above alike =
      ap (λ rest. p.0 ∷ rest) (rest_alike n m text p less below above (alike p))

  -- the records are the same for each limit above the length
  records_alike : (n m : ℕ) (s : State) (text : List ℕ) → length text < n → length text < m
      → records_from config n s text ≡ records_from config m s text
  unfolding records_from
  records_alike zero m s text below above = absurd (omega arith)
  records_alike (suc n) zero s text below above = absurd (omega arith)
  records_alike (suc n) (suc m) s text below above =
      next_alike n m text (next_record config s [] [] text) (leaves_less s [] [] text) (omega arith) (omega arith)
      (λ p. records_alike n m p.1 p.2)

  -- the records of a text: the next one, and those of the bytes that it leaves
  pub records_step : (s : State) (text : List ℕ) (p : Read) → next_record config s [] [] text ≡ Some p
      → records_from config (length text + 1) s text
      ≡ p.0 ∷ records_from config (length p.2 + 1) p.1 p.2
  unfolding records_from
  records_step s text p is =
      let less = subst (LeavesLess text) is (leaves_less s [] [] text) in
      ap (λ n. records_from config n s text) (one_more (length text))
      ∙ ap (records_next (records_from config (length text))) is
      ∙ ap (λ rest. p.0 ∷ rest) (after text p less)
    where
      one_more : (n : ℕ) → n + 1 ≡ suc n
      one_more n = omega arith

      after : (text : List ℕ) (p : Read) → LeavesLess text (Some p)
          → records_from config (length text) p.1 p.2 ≡ records_from config (length p.2 + 1) p.1 p.2
      after [] p less = no_records 0 p less ∙ sym (no_records (length p.2 + 1) p less)
      after (b ∷ rest) p less =
          records_alike (length (b ∷ rest)) (length p.2 + 1) p.1 p.2 (omega arith) (omega arith)

  -- no record
  pub records_none : (s : State) (text : List ℕ) → next_record config s [] [] text ≡ None
      → records_from config (length text + 1) s text ≡ []
  unfolding records_from
  records_none s text is =
      ap (λ n. records_from config n s text) (one_more (length text))
      ∙ ap (records_next (records_from config (length text))) is
    where
      one_more : (n : ℕ) → n + 1 ≡ suc n
      one_more n = omega arith

-- a text shorter than a byte order mark has none
pub no_mark : (text : List ℕ) → length text < 3 → strip_bom text ≡ text
unfolding strip_bom
no_mark [] short = refl
no_mark (a ∷ []) short = refl
no_mark (a ∷ b ∷ []) short = refl
no_mark (a ∷ b ∷ c ∷ rest) short = absurd (omega arith)

-- a text without its mark, if it has one
pub mark_at : (text : List ℕ) (d : ℕ) → 3 ≤ length text → (found : Bool)
    → is_bom (get_or text 0 d) (get_or text 1 d) (get_or text 2 d) ≡ found
    → strip_bom text ≡ (if found then drop 3 text else text)
unfolding strip_bom
mark_at [] d long found is = absurd (omega arith)
mark_at (a ∷ []) d long found is = absurd (omega arith)
mark_at (a ∷ b ∷ []) d long found is = absurd (omega arith)
mark_at (a ∷ b ∷ c ∷ rest) d long found is =
    ap (λ mark. if mark then rest else a ∷ b ∷ c ∷ rest) is

-- the field of a record with an index
pub field_at-get : (fields : List (List ℕ)) (index : ℕ) → field_at fields index ≡ slice_get fields index
unfolding field_at
field_at-get [] index = sym (slice_get_past [] index (omega arith))
field_at-get (f ∷ fields) zero = refl
field_at-get (f ∷ fields) (suc index) = field_at-get fields index
