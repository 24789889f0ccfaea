-- The variables of a text, listed token by token.
use Rattle.std.proofs.Common.{◌≡◌, ◌-◌, ℕ, ◌+◌, ◌≤◌, List, [], ◌∷◌, ◌++◌, length, sym, ap, ◌∙◌, subst, append_assoc, append-nil, length-append, arith}
use Rattle.std.specs.List.{AllByRecursion}
use Rattle.subst_foreign.proofs.ReadingLemmas.{opens_one, token_some}
use Rattle.subst_foreign.proofs.TokenLemmas.{plain_byte}
use Rattle.subst_foreign.specs.Foreign.{is_inside}
use Rattle.subst_foreign.specs.Grammar.{Grammar}
use Rattle.subst_foreign.specs.Reading.{Token, Byte, IsAfterPlain, IsPlainAt, IsToken, Listing, VariableAt, depth_after, listed_at, token_text}
use Rattle.subst_foreign.specs.Reading.Listing.{ended, token}

-- plain bytes have no variables
list_plain : (g : Grammar) (depth p : ℕ) (run x : List ℕ) (variables : List VariableAt)
    → AllByRecursion (IsPlainAt depth) run → Listing g (p + length run) depth x variables
    → Listing g p depth (run ++ x) variables
list_plain g depth p [] x variables each more = subst (λ q. Listing g q depth x variables) (omega arith) more
list_plain g depth p (b ∷ run) x variables each more =
    token (Byte b) (run ++ x) (plain_byte g (is_inside depth) b (run ++ x) each.0.0 each.0.2)
    (list_plain g depth (p + 1) run x variables each.1
    (subst (λ q. Listing g q depth x variables) (omega arith) more))

-- The variables of a text are listed up to its rest, at this depth.
pub record Lists (g : Grammar) (s rest : List ℕ) (found : List VariableAt) (depth : ℕ) : Type 0 where
  pub position : ℕ
  pub at : position + length rest ≡ length s
  pub listed : (more : List VariableAt) → Listing g position depth rest more → Listing g 0 0 s (found ++ more)
  pub few : depth + length rest ≤ length s

pub starts : (g : Grammar) (s : List ℕ) → Lists g s s [] 0
starts g s = record { position = 0; at = omega arith; listed = λ more is. is; few = omega arith }

-- plain bytes and a token are passed
pub passes : (g : Grammar) (s rest special : List ℕ) (found more : List VariableAt) (depth after : ℕ) (t : Token)
    (x : List ℕ) → Lists g s rest found depth → IsAfterPlain depth rest special → IsToken g depth t x
    → special ≡ token_text t ++ x → more ≡ found ++ listed_at (length s - length special) t
    → after ≡ depth_after depth t → Lists g s x more after
passes g s rest special found more depth after t x so_far (run, each, splits) is taken added deeper =
    let before : length rest ≡ length run + length special = ap length splits ∙ length-append run special in
    let lengths : length special ≡ length (token_text t) + length x =
    ap length taken ∙ length-append (token_text t) x in
    let p = so_far.position + length run in
    let here : length s - length special ≡ p = omega (arith, so_far.at, before) in
    record {
      position = p + length (token_text t);
      at = omega (arith, so_far.at, before, lengths);
      listed = λ later lists. subst (Listing g 0 0 s)
          (sym (ap (λ z. z ++ later) (added ∙ ap (λ p. found ++ listed_at p t) here)
          ∙ append_assoc found (listed_at p t) later))
          (so_far.listed (listed_at p t ++ later)
          (subst (λ z. Listing g so_far.position depth z (listed_at p t ++ later)) (sym splits)
          (list_plain g depth so_far.position run special (listed_at p t ++ later) each
          (subst (λ z. Listing g p depth z (listed_at p t ++ later)) (sym taken)
          (token t x is (subst (λ d. Listing g (p + length (token_text t)) d x later) deeper lists))))));
      few = omega (arith, so_far.few, before, lengths, token_some g depth t x is, opens_one depth t, deeper);
    }

-- the whole text is listed
pub ends : (g : Grammar) (s rest : List ℕ) (found : List VariableAt) (depth : ℕ) → Lists g s rest found depth
    → IsAfterPlain depth rest [] → Listing g 0 0 s found
ends g s rest found depth so_far (run, each, splits) =
    subst (Listing g 0 0 s) (append-nil found)
    (so_far.listed [] (subst (λ z. Listing g so_far.position depth z []) (sym splits)
    (list_plain g depth so_far.position run [] [] each ended)))
