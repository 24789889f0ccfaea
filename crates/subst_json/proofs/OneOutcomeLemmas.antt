-- A tree is mapped to one tree, or refused for one fault.
use Rattle.std.proofs.Common.{◌≡◌, ℕ, List, inl, inr, refl, sym, ap, ◌∙◌}
use Rattle.serde_json.specs.Data.{Data, null, boolean, number, string, array, object, Items, no_items, item, Members, no_members, member}
use Rattle.subst_language.specs.Language.LookUp.{LookUp}
use Rattle.subst_language.specs.Language.Answer.{Answer, Gives}
use Rattle.subst_language.specs.Language.Several.{GivesBy, under}
use Rattle.subst_language.proofs.Language.SeveralLemmas.{answered, given_not_refused, given_or_refused, refusal_unique, HasOneAnswer, one_under}
use Rattle.subst_json.specs.Laws.{IsMappedOrRefused}
use Rattle.subst_json.specs.Mapped.{strings, IsEach, AreEach, HasEachMember}
use Rattle.subst_json.proofs.MappedLemmas.{given, each_given}

-- if each string has one answer, a tree is filled in as at most one tree
module _ (ask : List ℕ → Answer → Type 0) (one : HasOneAnswer ask) where
  mutual
    each_unique : (d e f : Data) → IsEach (GivesBy ask) d e → IsEach (GivesBy ask) d f → e ≡ f
    each_unique null null null h k = refl
    each_unique (boolean b) (boolean c) (boolean d) h k = ap boolean (sym h ∙ k)
    each_unique (number m) (number n) (number o) h k = ap number (sym h ∙ k)
    each_unique (string s) (string x) (string y) h k = let same = one s (Gives x) (Gives y) h k in cc
    each_unique (array ds) (array es) (array fs) h k = ap array (items_unique ds es fs h k)
    each_unique (object ms) (object ns) (object os) h k = ap object (members_unique ms ns os h k)
    each_unique null null _ h k = absurd k
    each_unique (boolean b) (boolean c) _ h k = absurd k
    each_unique (number m) (number n) _ h k = absurd k
    each_unique (string s) (string x) _ h k = absurd k
    each_unique (array ds) (array es) _ h k = absurd k
    each_unique (object ms) (object ns) _ h k = absurd k
    each_unique _ _ _ h k = absurd h

    items_unique : (ds es fs : Items) → AreEach (GivesBy ask) ds es → AreEach (GivesBy ask) ds fs → es ≡ fs
    items_unique no_items no_items no_items h k = refl
    items_unique (item d ds) (item e es) (item f fs) h k =
        let first = each_unique d e f h.0 k.0 in
        let rest = items_unique ds es fs h.1 k.1 in cc
    items_unique no_items no_items _ h k = absurd k
    items_unique (item d ds) (item e es) _ h k = absurd k
    items_unique _ _ _ h k = absurd h

    members_unique : (ms ns os : Members) → HasEachMember (GivesBy ask) ms ns
        → HasEachMember (GivesBy ask) ms os → ns ≡ os
    members_unique no_members no_members no_members h k = refl
    members_unique (member key d ms) (member l e ns) (member other f os) h k =
        let keys : l ≡ other = sym h.0 ∙ k.0 in
        let first = each_unique d e f h.1 k.1 in
        let rest = members_unique ms ns os h.2 k.2 in cc
    members_unique no_members no_members _ h k = absurd k
    members_unique (member key d ms) (member l e ns) _ h k = absurd k
    members_unique _ _ _ h k = absurd h

-- a tree is mapped or refused, and never both
pub one_outcome : (look : LookUp) (d : Data) → IsMappedOrRefused look d
one_outcome look d = record {
  either = elim (given_or_refused (under look) (answered look) (strings d)) [
    | inl given ↦ inl (each_given (under look) d given)
    | inr refused ↦ inr refused
  ];
  mapped_unique = each_unique (under look) (one_under look) d;
  refusal_unique = λ f g h k.
      (refusal_unique (under look) (one_under look) (strings d) h.0 k.0 f g h.1 k.1).1;
  never_both = λ e f h k.
      given_not_refused (under look) (one_under look) (strings d) k.0 f (given (under look) d e h) k.1;
}
