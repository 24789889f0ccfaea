-- One text that is being read: a run of plain bytes becomes a part, and an item is added.
use Rattle.std.proofs.Common.{◌≡◌, ℕ, ◌+◌, ◌<◌, ◌≤◌, Bool, true, false, List, [], ◌∷◌, ◌++◌, length, drop, refl, ap, ◌∙◌, subst, append_assoc, length-append, arith}
use Rattle.subst_language.specs.Language.Tree.{Tree, text}
use Rattle.subst_language.specs.Language.Followed.{IsFollowed}
use Rattle.subst_parse.specs.ByteRun.{IsRun}
use Rattle.subst_language.specs.Language.Bytes.{IsPlain}
use Rattle.subst_language.specs.Language.LookUp.{LookUp}
use Rattle.subst_language.specs.Lemmas.PlainEnds.{ends_plain, HasNoPlainEnds}
use Rattle.subst_language.specs.Language.Counts.{visited_count_after, visited_count}
use Rattle.subst_language.specs.Parts.Meaning.{PartsMean}
use Rattle.subst_parse.specs.Parsing.{IsTreeAt, IsParsed, IsParsedWithTail}
use Rattle.subst_language.specs.declared.part.Part.{Part}
use Rattle.subst_language.specs.declared.part.Part.TheVariants.{Literal}
use Rattle.subst_language.specs.Language.Join.{join}
use Rattle.subst_language.proofs.Language.TreeLemmas.{text-join, well_formed_join, followed_join, followed_front}
use Rattle.subst_language.proofs.Language.CountLemmas.{ends_plain-join, ends_plain-apart, visited_count_after-apart}
use Rattle.subst_parse.proofs.ByteRunLemmas.{slice_of_run, run_nothing}
use Rattle.subst_language.proofs.PartsLemmas.{mean_append, mean_literal}
use Rattle.subst_language.proofs.Language.PlainLemmas.{plains, text-plains, well_formed_plains}

-- two trees, one after the other
pub tree_at_append : {s : List ℕ} {from at to : ℕ} {t u : Tree} → IsTreeAt s from at t → IsTreeAt s at to u
    → IsTreeAt s from to (join t u)
tree_at_append {s} {from} {at} {to} {t} {u} first second = record {
  well_formed = well_formed_join t u first.well_formed second.well_formed
      (followed_front t (text u) (drop to s) (rw (← second.spelled) first.followed));
  followed = followed_join t u (drop to s) (rw (← second.spelled) first.followed) second.followed;
  spelled = first.spelled ∙ rw (text-join, second.spelled, append_assoc) refl;
  ends = omega (arith, first.ends, second.ends, simp length-append at (ap length (text-join t u)));
}

-- the parsed tree, with a tree after it and the parts that mean this
pub add_tree : {s : List ℕ} {start at to i : ℕ} {own new : List Part} {t : Tree}
    (level : IsParsed s start at i own) → IsTreeAt s at to t
    → ((look : LookUp) → visited_count_after (ends_plain false level.tree) t look ≡ visited_count t look)
    → PartsMean s (i + length own) new at t → IsParsed s start to i (own ++ new)
add_tree {s} {start} {at} {to} {i} {own} {new} {t} level added apart mean = record {
  tree = join level.tree t;
  read = tree_at_append level.read added;
  mean =
      mean_append s i own new start level.tree t apart level.mean
      (subst (λ p. PartsMean s (i + length own) new p t) level.read.ends mean);
}

-- if all plain bytes have their parts, an item is added with its part
pub add_item : {pending : Bool} {s : List ℕ} {start at to i : ℕ} {own new : List Part} {t : Tree}
    → IsParsedWithTail pending s start at at i own
    → IsTreeAt s at to t → HasNoPlainEnds t → PartsMean s (i + length own) new at t
    → IsParsedWithTail true s start to to i (own ++ new)
unfolding add_tree
add_item {s = s} {to = to} {t = t} current added apart mean = record {
  level =
      add_tree current.level added
      (λ look. visited_count_after-apart (ends_plain false current.level.tree) t look apart) mean;
  run = run_nothing IsPlain s to;
  begins =
      λ pending. ends_plain-join false current.level.tree t
      ∙ ends_plain-apart (ends_plain false current.level.tree) t apart;
}

-- a text with pending bytes is one without that condition
pub current_any : {s : List ℕ} {start literal_start at i : ℕ} {own : List Part}
    → IsParsedWithTail true s start literal_start at i own
    → IsParsedWithTail false s start literal_start at i own
current_any current = record { level = current.level; run = current.run; begins = λ pending. absurd cc }

-- any text may follow plain bytes
pub followed_plains : (x y : List ℕ) → IsFollowed (plains x) y
followed_plains [] y = tt
followed_plains (b ∷ x) y = followed_plains x y

-- a run of plain bytes is the text of a tree
pub run_tree_at : {s : List ℕ} {at to : ℕ} (r : IsRun IsPlain s at to) → IsTreeAt s at to (plains r.run)
run_tree_at {s} {at} {to} r = record {
  well_formed = well_formed_plains r.run r.each;
  followed = followed_plains r.run (drop to s);
  spelled = rw (text-plains, r.spelled) refl;
  ends = rw text-plains r.ends;
}

-- the plain bytes become a part
pub give_part : {s : List ℕ} {start literal_start at i : ℕ} {own : List Part} → literal_start < at
    → at ≤ length s
    → IsParsedWithTail true s start literal_start at i own
    → IsParsedWithTail false s start at at i
    (own ++ Literal (record { start = literal_start; end = at }) ∷ [])
give_part {s} {start} {literal_start} {at} {i} {own} some inside current =
    record {
      level = add_tree current.level (run_tree_at current.run)
          (λ look. ap (λ after. visited_count_after after (plains current.run.run) look)
          (current.begins refl))
          (mean_literal s (i + length own) (record { start = literal_start; end = at }) literal_start
          current.run.run (omega (arith, current.run.ends))
          (record { ordered = omega arith; within = inside }) (slice_of_run current.run));
      run = run_nothing IsPlain s at;
      begins = λ pending. absurd cc;
    }

-- if there are no plain bytes, nothing changes
pub no_part : {s : List ℕ} {start literal_start at i : ℕ} {own : List Part} → at ≤ literal_start
    → IsParsedWithTail true s start literal_start at i own
    → IsParsedWithTail false s start at at i own
no_part {s} {start} {literal_start} {at} {i} {own} none current =
    let same : literal_start ≡ at = omega (arith, current.run.ends) in
    record {
      level = subst (λ n. IsParsed s start n i own) same current.level;
      run = run_nothing IsPlain s at;
      begins = λ pending. absurd cc;
    }

-- the parsed tree, with the bytes that have no part yet, is the text of a tree
pub current_tree_at : {pending : Bool} {s : List ℕ} {start literal_start at i : ℕ} {own : List Part}
    (current : IsParsedWithTail pending s start literal_start at i own)
    → IsTreeAt s start at (join current.level.tree (plains current.run.run))
current_tree_at current = tree_at_append current.level.read (run_tree_at current.run)
