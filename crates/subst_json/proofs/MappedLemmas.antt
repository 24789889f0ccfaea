-- Trees and texts whose strings are filled in, whatever their representation.
use Rattle.std.proofs.Common.{ℕ, List, [], ◌∷◌, Option, refl}
use Rattle.serde_json.specs.Data.{Data, null, boolean, number, string, array, object, Items, no_items, item, Members, no_members, member}
use Rattle.subst_language.specs.Calls.Clauses.{AnswersText}
use Rattle.subst_language.specs.Calls.VariableMap.{look_up_of, ByLookUp}
use Rattle.subst_language.specs.Language.Answer.{Answer, Gives}
use Rattle.subst_language.specs.Language.Several.{AreGiven, GivesBy, under}
use Rattle.subst_language.proofs.CallingLemmas.{answer_by_map}
use Rattle.subst_language.proofs.Language.SeveralLemmas.{given_append, given_apart}
use Rattle.subst_document.proofs.EditLemmas.{filled_weaker}
use Rattle.subst_document.proofs.RefusedLemmas.{refused_weaker}
use Rattle.subst_json.proofs.ListedLemmas.{all_refused}
use Rattle.subst_json.specs.InPlace.{IsFilledDocument}
use Rattle.subst_json.specs.Listed.{AreAllRefused, IsPathTo, RefusalAt}
use Rattle.subst_json.specs.Mapped.{strings, strings_of_items, strings_of_members, IsEach, AreEach, HasEachMember, IsMapped}

-- `ask` relates a string to its answers
module _ (ask : List ℕ → Answer → Type 0) where
  -- no string of a tree that is filled in is refused
  mutual
    pub given : (d e : Data) → IsEach (GivesBy ask) d e → AreGiven ask (strings d)
    given (string s) (string x) h = (x ∷ [], (h, tt))
    given (array ds) (array es) h = items_given ds es h
    given (object ms) (object ns) h = members_given ms ns h
    given null e h = ([], tt)
    given (boolean b) e h = ([], tt)
    given (number n) e h = ([], tt)
    given _ _ h = absurd h

    items_given : (ds es : Items) → AreEach (GivesBy ask) ds es → AreGiven ask (strings_of_items ds)
    items_given no_items es h = ([], tt)
    items_given (item d ds) no_items h = absurd h
    items_given (item d ds) (item e es) h =
        given_append ask (strings d) (strings_of_items ds) (given d e h.0) (items_given ds es h.1)

    members_given : (ms ns : Members) → HasEachMember (GivesBy ask) ms ns
        → AreGiven ask (strings_of_members ms)
    members_given no_members ns h = ([], tt)
    members_given (member key d ms) no_members h = absurd h
    members_given (member key d ms) (member other e ns) h =
        given_append ask (strings d) (strings_of_members ms) (given d e h.1) (members_given ms ns h.2)

  -- a tree without refused strings is filled in as some tree
  mutual
    pub each_given : (d : Data) → AreGiven ask (strings d) → (e : Data) × IsEach (GivesBy ask) d e
    each_given (string s) (x ∷ outputs, h) = (string x, h.0)
    each_given (string s) ([], h) = absurd h
    each_given (array ds) h = let (es, each) = each_item_given ds h in (array es, each)
    each_given (object ms) h = let (ns, each) = each_member_given ms h in (object ns, each)
    each_given null h = (null, tt)
    each_given (boolean b) h = (boolean b, refl)
    each_given (number n) h = (number n, refl)

    each_item_given : (ds : Items) → AreGiven ask (strings_of_items ds)
        → (es : Items) × AreEach (GivesBy ask) ds es
    each_item_given no_items h = (no_items, tt)
    each_item_given (item d ds) h =
        let (first, rest) = given_apart ask (strings d) (strings_of_items ds) h in
        let (e, is) = each_given d first in
        let (es, are) = each_item_given ds rest in
        (item e es, (is, are))

    each_member_given : (ms : Members) → AreGiven ask (strings_of_members ms)
        → (ns : Members) × HasEachMember (GivesBy ask) ms ns
    each_member_given no_members h = (no_members, tt)
    each_member_given (member key d ms) h =
        let (first, rest) = given_apart ask (strings d) (strings_of_members ms) h in
        let (e, is) = each_given d first in
        let (ns, are) = each_member_given ms rest in
        (member key e ns, (refl, is, are))

-- a tree is filled in by any weaker relation
module _ (Becomes Stays : List ℕ → List ℕ → Type 0)
    (weaker : (x y : List ℕ) → Becomes x y → Stays x y) where
  mutual
    pub each_weaker : (d e : Data) → IsEach Becomes d e → IsEach Stays d e
    each_weaker (string s) (string x) h = weaker s x h
    each_weaker (array ds) (array es) h = items_weaker ds es h
    each_weaker (object ms) (object ns) h = members_weaker ms ns h
    each_weaker null null h = tt
    each_weaker (boolean b) (boolean c) h = h
    each_weaker (number m) (number n) h = h
    each_weaker _ _ h = absurd h

    items_weaker : (ds es : Items) → AreEach Becomes ds es → AreEach Stays ds es
    items_weaker no_items no_items h = tt
    items_weaker (item d ds) (item e es) h = (each_weaker d e h.0, items_weaker ds es h.1)
    items_weaker _ _ h = absurd h

    members_weaker : (ms ns : Members) → HasEachMember Becomes ms ns → HasEachMember Stays ms ns
    members_weaker no_members no_members h = tt
    members_weaker (member key d ms) (member other e ns) h =
        (h.0, each_weaker d e h.1, members_weaker ms ns h.2)
    members_weaker _ _ h = absurd h

  -- a document is filled in by any weaker relation
  pub document_weaker : (source output : List ℕ) → IsFilledDocument Becomes source output
      → IsFilledDocument Stays source output
  document_weaker source output h =
      let (d, read, (e, read_as, each)) = h.mapped in record {
        mapped = (d, read, (e, read_as, each_weaker d e each));
        kept = filled_weaker _ _ _ Becomes Stays weaker _ source output h.kept;
      }

-- a tree that is filled in from a map is mapped under the map's look-up
pub mapped_by_map : {V Seen : Type 0} (items : V → List ℕ) (see : V → Seen) (look_up : List ℕ → Option Seen)
    (d e : Data) → IsEach (GivesBy (AnswersText items see look_up)) d e
    → ByLookUp items see look_up (λ look. IsMapped look d e)
mapped_by_map items see look_up d e h = λ bytes reads.
    each_weaker (GivesBy (AnswersText items see look_up)) (GivesBy (under (look_up_of bytes look_up)))
    (λ s x gives. answer_by_map items see look_up s (Gives x) gives bytes reads) d e h

-- a document that is filled in from a map is so under the map's look-up
pub filled_by_map : {V Seen : Type 0} (items : V → List ℕ) (see : V → Seen) (look_up : List ℕ → Option Seen)
    (source output : List ℕ) → IsFilledDocument (GivesBy (AnswersText items see look_up)) source output
    → ByLookUp items see look_up (λ look. IsFilledDocument (GivesBy (under look)) source output)
filled_by_map items see look_up source output h = λ bytes reads.
    document_weaker (GivesBy (AnswersText items see look_up)) (GivesBy (under (look_up_of bytes look_up)))
    (λ s x gives. answer_by_map items see look_up s (Gives x) gives bytes reads) source output h

-- the refused strings of a document from a map are those under the map's look-up
pub refusals_by_map : {V Seen : Type 0} (items : V → List ℕ) (see : V → Seen) (look_up : List ℕ → Option Seen)
    (source : List ℕ) (all : List RefusalAt) → AreAllRefused (AnswersText items see look_up) source all
    → ByLookUp items see look_up (λ look. AreAllRefused (under look) source all)
refusals_by_map items see look_up source all h = λ bytes reads.
    let (list, listing, are) = h.each in
    all_refused _ source all (
      list,
      listing,
      refused_weaker _ (IsPathTo source) (under (look_up_of bytes look_up))
          (λ s a known. answer_by_map items see look_up s a known bytes reads) 0 list all are,
    )
