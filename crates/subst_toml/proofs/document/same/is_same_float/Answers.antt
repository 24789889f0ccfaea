-- There is one NaN, and each other float has its own bits.
use Rattle.std.proofs.Common.{◌≡◌, true, is_nan, refl, sym, ap, ◌∙◌, subst, T, eqb-true, rules}
use Rattle.std.proofs.lemmas.Bool.{false≢true}
use Rattle.std.specs.Float.{binary64}
use Rattle.std.specs.Float.Ieee
use lib.Ieee.Bits.{of_bits-to_bits}
use Rattle.subst_toml.proofs.document.same.is_same_float.Goals as goal

nan_alone : (x y : Ieee.Float) → is_nan x ≡ true → is_nan y ≡ true → x ≡ y
unfolding Ieee.is_nan
nan_alone Ieee.nan Ieee.nan h k = refl
nan_alone Ieee.nan (Ieee.inf s) h k = absurd (false≢true k)
nan_alone Ieee.nan (Ieee.fin s m e) h k = absurd (false≢true k)
nan_alone (Ieee.inf s) y h k = absurd (false≢true h)
nan_alone (Ieee.fin s m e) y h k = absurd (false≢true h)

pub returns-then-is_nan : goal.returns-then-is_nan
returns-then-is_nan c is = nan_alone c.args.number c.args.other (search rules) (search rules)

pub returns : goal.returns
returns c is =
    let back = λ (v : Ieee.Float) (fits : Ieee.fits binary64 v ≡ true). of_bits-to_bits binary64 v
    (subst T (sym fits) tt) in
    sym (back c.args.number c.well_formed.0.1) ∙ ap (Ieee.of_bits binary64) (eqb-true _ _ is)
    ∙ back c.args.other c.well_formed.1.0.1
