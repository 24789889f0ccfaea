-- Texts written one after the other, whatever the formatter's width and precision.
use Rattle.std.proofs.Common.{◌≡◌, ◌++◌, ℕ, List, [], ◌∷◌, Option, Some, None, Result, IsOk, IfSome, refl, sym, ap, ◌∙◌, subst, codes, append_assoc, append-nil}
use Rattle.std.proofs.lemmas.List.Folds.{concat-append}
use Rattle.std.specs.Fmt.{◌++?◌, DisplaysStyledOnOk, HasWrittenStyled, IsFlush, WritesStyledOnOk, WritesText}
use Rattle.std.specs.Fmt.InlineText.{AppendsIfIntact, inline_text, IsIntact}
use Rattle.std.specs.List.{concat, FoldsTo}
use Rattle.std.specs.declared.fmt.Error.{Error}
use Rattle.std.specs.declared.fmt.Formatter.{Formatter}
use Rattle.std.specs.declared.fmt.InlineText.{InlineText}
use Rattle.subst_error.specs.Display.{quoted_of}
use Rattle.subst_error.specs.declared.CharOrByte.{CharOrByte}

-- two sequences of calls are one
calls-append : {W : Type 0} (took : W → List ℕ → W → Type 0) (w v u : W) (xs ys : List (List ℕ))
    → FoldsTo took w xs v → FoldsTo took v ys u → FoldsTo took w (xs ++ ys) u
calls-append took w v u [] ys p q = subst (λ x. FoldsTo took x ys u) (sym p) q
calls-append took w v u (x ∷ xs) ys p q = (p.0, p.1, calls-append took p.0 v u xs ys p.2 q)

-- two texts are written one after the other
pub styled_two : {W : Type 0} (took : W → List ℕ → W → Type 0) (f g h : Formatter W) (a b all : List ℕ)
    → HasWrittenStyled took f a g → HasWrittenStyled took g b h → a ++ b ≡ all → HasWrittenStyled took f all h
styled_two took f g h a b all one two is = record {
  wrote = record {
    parts = one.wrote.parts ++ two.wrote.parts;
    calls = calls-append took _ _ _ _ _ one.wrote.calls two.wrote.calls;
    whole = concat-append one.wrote.parts two.wrote.parts
        ∙ ap (λ l. l ++ concat two.wrote.parts) one.wrote.whole
        ∙ ap (λ l. a ++ l) two.wrote.whole ∙ is;
  };
  spec = two.spec ∙ one.spec;
  flush = two.flush;
}

-- a quoted form is written between two texts
styled_around : {W : Type 0} (took : W → List ℕ → W → Type 0) (f g h i j : Formatter W)
    (q r : Result (Unit {0}) Error) (a b c : List ℕ) (o : Option (List ℕ))
    → (IsFlush f → HasWrittenStyled took f a g) → DisplaysStyledOnOk took g q o h → IsOk q
    → (IsFlush h → HasWrittenStyled took h b i) → WritesStyledOnOk took i r c j
    → DisplaysStyledOnOk took f r (Some a ++? o ++? Some (b ++ c)) j
styled_around took f g h i j q r a b c None one two fine three four = tt
styled_around took f g h i j q r a b c (Some shown) one two fine three four = λ flush ok.
    let first = one flush in
    let second = two first.flush fine in
    let third = three second.flush in
    let last = four third.flush ok in
    let ends = styled_two took h i j b c (b ++ c) third last refl in
    let shows = styled_two took g h j shown (b ++ c) (shown ++ (b ++ c)) second ends refl in
    styled_two took f g j a (shown ++ (b ++ c)) (a ++ (shown ++ (b ++ c))) first shows refl

-- an unexpected character is written in its quoted form, if there is one, with the text around it
pub unexpected_styled : {W : Type 0} (took : W → List ℕ → W → Type 0) (f g h i j : Formatter W)
    (q r : Result (Unit {0}) Error) (c shown : CharOrByte) (expected said : List ℕ)
    → (IsFlush f → HasWrittenStyled took f (codes "Unexpected character: ") g)
    → DisplaysStyledOnOk took g q (quoted_of shown) h → IsOk q
    → (IsFlush h → HasWrittenStyled took h (codes ", expected ") i) → WritesStyledOnOk took i r said j
    → shown ≡ c → said ≡ expected
    → DisplaysStyledOnOk took f r
    (Some (codes "Unexpected character: ") ++? quoted_of c ++? Some (codes ", expected " ++ expected)) j
unexpected_styled took f g h i j q r c shown expected said one two fine three four same kept =
    subst (λ x. Is x expected) same (subst (Is shown) kept
    (styled_around took f g h i j q r _ _ said (quoted_of shown) one two fine three four))
  where
    Is : CharOrByte → List ℕ → Type 0
    Is x text = DisplaysStyledOnOk took f r
        (Some (codes "Unexpected character: ") ++? quoted_of x ++? Some (codes ", expected " ++ text)) j

-- an inline text has the texts that were written to it, if none was cut
shown_after : {n : ℕ} (s : InlineText n) (parts : List (List ℕ)) (t : InlineText n)
    → FoldsTo AppendsIfIntact s parts t → IsIntact s → inline_text t ≡ inline_text s ++ concat parts
shown_after s [] t same intact = ap inline_text (sym same) ∙ sym (append-nil (inline_text s))
shown_after s (part ∷ parts) t calls intact =
    let next = calls.1 intact in
    shown_after calls.0 parts t calls.2 next.0 ∙ ap (λ l. l ++ concat parts) next.1
    ∙ append_assoc (inline_text s) part (concat parts)

-- a property of an inline text holds of the text that was written to it while it was empty
pub holds_of_shown : {n : ℕ} (P : List ℕ → Type 0) (s t : InlineText n) (said : List ℕ)
    (o : Option (List ℕ)) → IsIntact s → inline_text s ≡ [] → WritesText AppendsIfIntact s o t
    → said ≡ inline_text t → P said → IfSome o P
holds_of_shown P s t said None intact empty wrote same holds = tt
holds_of_shown P s t said (Some bs) intact empty wrote same holds =
    let all = shown_after s wrote.parts t wrote.calls intact in
    subst P (same ∙ all ∙ ap (λ l. l ++ concat wrote.parts) empty ∙ wrote.whole) holds
