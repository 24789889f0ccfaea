-- Bytes appended to an output.
use Rattle.std.proofs.Common.{ℕ, List, [], ◌++◌, append-nil, append_assoc, sym, subst}
use Rattle.subst_expand.specs.Output.{Puts, Appended}

module _ {W First : Type 0} {holds : W → First → List ℕ → Type 0} where
  -- at first nothing was appended
  pub nothing_appended : (P : List ℕ → Type 0) (output : W) → P [] → Appended holds P output output
  nothing_appended P output given = record {
    appended = [];
    puts = λ first x before. subst (holds output first) (sym (append-nil x)) before;
    given = given;
  }

  -- more is appended
  pub more_appended : {P Q : List ℕ → Type 0} {before after grown : W} (more : List ℕ)
      → Appended holds P before after → Puts holds after more grown
      → ((x : List ℕ) → P x → Q (x ++ more)) → Appended holds Q before grown
  more_appended {grown = grown} more so_far puts given = record {
    appended = so_far.appended ++ more;
    puts = λ first x before. subst (holds grown first) (append_assoc x so_far.appended more)
        (puts first (x ++ so_far.appended) (so_far.puts first x before));
    given = given so_far.appended so_far.given;
  }

  -- a property of the appended bytes, by another one
  pub same_appended : {P Q : List ℕ → Type 0} {before after : W} → Appended holds P before after
      → ((x : List ℕ) → P x → Q x) → Appended holds Q before after
  same_appended so_far given = record {
    appended = so_far.appended;
    puts = so_far.puts;
    given = given so_far.appended so_far.given;
  }
