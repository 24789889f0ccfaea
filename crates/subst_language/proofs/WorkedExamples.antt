-- Worked examples of the definitions, for sources that are written out. No code is named here.
use Rattle.std.proofs.Common.{◌≡◌, ◌≢◌, ℕ, cond, inl, List, [], ◌∷◌, ◌++◌, length, Some, None, bytes_eq, codes, refl, ap, arith}
use Rattle.std.specs.Char.{encode_utf8}
use Rattle.std.specs.List.{range_with_len}
use Rattle.std.specs.Str.{chars}
use Rattle.subst_error.specs.Fault.{InvalidEscapeSequence, MissingVariableName, UnexpectedCharacter, MissingClosingBrace, NoSuchVariable}
use Rattle.subst_error.specs.declared.CharOrByte.TheVariants.{Char, Byte}
use Rattle.subst_language.specs.Earlier.Answer.{Answers as EarlierAnswers}
use Rattle.subst_language.specs.Earlier.BadItem as earlier
use Rattle.subst_language.specs.Earlier.Tree as earlier_tree
use Rattle.subst_language.specs.Language.Answer.{Answer, Answers, Gives, Refuses}
use Rattle.subst_language.specs.Language.BadItem.{fault_after, after_name}
use Rattle.subst_language.specs.Language.BadItem.IsBad.{escape_at_end, escape, dollar_at_end, dollar_alone, brace_at_end, brace_alone, name_at_end, name_alone, optional_at_end, optional_alone, unclosed, inside}
use Rattle.subst_language.specs.Language.Counts.{part_count, visited_count}
use Rattle.subst_language.specs.Language.Escaped.{escaped}
use Rattle.subst_language.specs.Language.Laws.{OpensAt, IsSettled}
use Rattle.subst_language.specs.Language.LookUp.{LookUp}
use Rattle.subst_language.specs.Language.Sentence.{IsSentence}
use Rattle.subst_language.specs.Language.Tree.{Short, Default, Tree, Empty, Then}
use Rattle.subst_language.specs.Language.WellFormed.{IsWellFormed}
use Rattle.subst_language.proofs.Language.AnswerLemmas.{answer_unique}
use Rattle.subst_language.proofs.TestLemmas.{balanced_from_test, balanced_never_closes, ascii_in_front, byte_in_front}
use Rattle.subst_language.proofs.TreeOf.{tree_of, spelled, computed_gives, computed_missing, plain, only_plain, only}

-- the look-up that has no value for any name
abbrev nothing : LookUp
nothing = λ _. None

-- the look-up of the first pair of each name
abbrev looking_up : List (List ℕ × List ℕ) → LookUp
looking_up [] name = None
looking_up (pair ∷ pairs) name = cond (bytes_eq name pair.0) (Some pair.1) (looking_up pairs name)

-- `a` is 1
abbrev a_is_1 : LookUp
a_is_1 = looking_up ((codes "a", codes "1") ∷ [])

-- Each form, and plain bytes.

-- a name without braces is the longest run of letters, digits and underscores
pub longest_name : Answers (codes "$a_1-")
    (looking_up ((codes "a", codes "x") ∷ (codes "a_1", codes "y") ∷ [])) (Gives (codes "y-"))
longest_name = computed_gives _ _ _ refl

-- a value is never read as a template, and may be any bytes: a dollar, a name and FF
pub value_verbatim : Answers (codes "$a") (looking_up ((codes "a", codes "$b" ++ 0xFF ∷ []) ∷ []))
    (Gives (codes "$b" ++ 0xFF ∷ []))
value_verbatim = computed_gives _ _ _ refl

-- a value may be empty, and then no default is used
pub empty_value : Answers (codes "x${a:b}y$a") (looking_up ((codes "a", []) ∷ [])) (Gives (codes "xy"))
empty_value = computed_gives _ _ _ refl

-- the names in a default that isn't used aren't needed
pub unused_default : Answers (codes "${a:$z}") a_is_1 (Gives (codes "1"))
unused_default = computed_gives _ _ _ refl

-- a default may have variables, and a dash has no meaning in it; braces separate a name from the text after
-- it
pub variable_in_default : Answers (codes "${b:-${a}0}") a_is_1 (Gives (codes "-10"))
variable_in_default = computed_gives _ _ _ refl

-- the five escapes, whatever the look-up
pub five_escapes : (look : LookUp) → Answers (codes "\\\\\\$\\{\\}\\:") look (Gives (codes "\\${}:"))
five_escapes look = computed_gives _ _ _ refl

-- every byte but the dollar and the backslash is plain, whatever the look-up
pub all_other_bytes : (look : LookUp)
    → Answers (range_with_len 0 36 ++ range_with_len 37 55 ++ range_with_len 93 163) look
    (Gives (range_with_len 0 36 ++ range_with_len 37 55 ++ range_with_len 93 163))
all_other_bytes look = computed_gives _ _ _ refl

-- Defaults in defaults, and braces.

-- `Hello ${a:cruel ${b:world}}!`, as a tree
abbrev nested : Tree
nested =
    plain (codes "Hello ") (Then
    (Default (codes "a") (plain (codes "cruel ") (only (Default (codes "b") (only_plain (codes "world"))))))
    (only_plain (codes "!")))

-- it is the tree of that text
pub nested_tree : tree_of (codes "Hello ${a:cruel ${b:world}}!") ≡ Some nested
nested_tree = refl

-- without values each default is used
pub nested_defaults : Answers (codes "Hello ${a:cruel ${b:world}}!") nothing
    (Gives (codes "Hello cruel world!"))
nested_defaults = computed_gives _ _ _ refl

-- a value in a default
pub nested_with_inner : Answers (codes "Hello ${a:cruel ${b:world}}!")
    (looking_up ((codes "b", codes "sea") ∷ [])) (Gives (codes "Hello cruel sea!"))
nested_with_inner = computed_gives _ _ _ refl

-- its parts are two names and four runs of plain bytes; the parts of a default that isn't used are not
-- visited
pub nested_parts : (part_count nested ≡ 6) × (visited_count nested nothing ≡ 6)
    × (visited_count nested a_is_1 ≡ 3)
nested_parts = (refl, refl, refl)

-- the first closing brace ends the default, and the second is plain
pub brace_after_default : Answers (codes "${b:}}") nothing (Gives (codes "}"))
brace_after_default = computed_gives _ _ _ refl

-- a default may hold matching braces
pub braces_in_default : Answers (codes "${b:{x}}{") nothing (Gives (codes "{x}{"))
braces_in_default = computed_gives _ _ _ refl

-- an escaped brace opens and closes nothing, but the brace after two backslashes isn't escaped
pub escaped_in_default : Answers (codes "${b:\\}\\{}${c:\\\\}") nothing (Gives (codes "}{\\"))
escaped_in_default = computed_gives _ _ _ refl

-- Optional variables.

-- they expand to nothing without a value, and else to the value
pub optional : Answers (codes "-${a?}${b?}-") a_is_1 (Gives (codes "-1-"))
optional = computed_gives _ _ _ refl

-- an optional variable may be empty in a default
pub optional_in_default : Answers (codes "${b:${c?}}") nothing (Gives [])
optional_in_default = computed_gives _ _ _ refl

-- a question mark elsewhere is plain
pub plain_question_marks : Answers (codes "$a?{?}${b:?}") a_is_1 (Gives (codes "1?{?}?"))
plain_question_marks = computed_gives _ _ _ refl

-- Missing variables: the first needed name without a value, at the position of the name.

-- the position is that of the name, and not of the dollar or the opening brace
pub missing_name : Answers (codes "Hello ${name}!") nothing (Refuses (NoSuchVariable 8 (codes "name")))
missing_name = computed_missing _ _ _ _ refl

-- the first needed one, though a name in a default that isn't used has no value either
pub first_missing : Answers (codes "${a:$x}$y$z") a_is_1 (Refuses (NoSuchVariable 8 (codes "y")))
first_missing = computed_missing _ _ _ _ refl

-- one in a default that is used, at its position in the whole source
pub missing_in_default : Answers (codes "${x:\\:${a}$z}") a_is_1 (Refuses (NoSuchVariable 11 (codes "z")))
missing_in_default = computed_missing _ _ _ _ refl

-- Bad items: each kind, whatever the look-up.

-- a backslash at the end
pub backslash_at_end : (look : LookUp) → Answers (codes "\\") look (Refuses (InvalidEscapeSequence 0 None))
backslash_at_end look = inl (fault_after Empty tt escape_at_end)

-- a backslash before a letter
pub backslash_before_letter : (look : LookUp)
    → Answers (codes "\\x") look (Refuses (InvalidEscapeSequence 0 (Some (Char 120))))
backslash_before_letter look = inl (fault_after Empty tt (escape (λ h. cc) (ascii_in_front 120 [] refl)))

-- a dollar at the end, after a variable whose value isn't looked up
pub lone_dollar : (look : LookUp) → Answers (codes "$x$") look (Refuses (MissingVariableName 2 1))
lone_dollar look = inl (fault_after (only (Short (codes "x"))) (((refl, tt), tt), tt) dollar_at_end)

-- a dollar before a mark
pub dollar_before_mark : (look : LookUp) → Answers (codes "$!") look (Refuses (MissingVariableName 0 1))
dollar_before_mark look = inl (fault_after Empty tt (dollar_alone (omega arith) (λ h. cc)))

-- `${` at the end
pub lone_brace : (look : LookUp) → Answers (codes "${") look (Refuses (MissingVariableName 0 2))
lone_brace look = inl (fault_after Empty tt brace_at_end)

-- no name in braces
pub empty_braces : (look : LookUp) → Answers (codes "${}") look (Refuses (MissingVariableName 0 2))
empty_braces look = inl (fault_after Empty tt (brace_alone (λ h. cc)))

-- `${name` at the end
pub unclosed_name : (look : LookUp) → Answers (codes "${a") look (Refuses (MissingClosingBrace 1))
unclosed_name look = inl (fault_after Empty tt (name_at_end (codes "a") (refl, tt)))

-- a name in braces before another byte, with the message of what was expected
pub byte_after_name : (look : LookUp) → Answers (codes "${a-b}") look
    (Refuses (UnexpectedCharacter 3 (Char 45)
    (codes "a closing brace ('}'), colon (':') or question mark ('?')")))
byte_after_name look =
    let here = ascii_in_front 45 _ refl in
    inl (fault_after Empty tt
    (name_alone (codes "a") _ (refl, tt) (λ h. cc) (omega arith) (omega arith) (omega arith) here))

-- `${name?` at the end
pub unclosed_optional : (look : LookUp) → Answers (codes "${a?") look (Refuses (MissingClosingBrace 1))
unclosed_optional look = inl (fault_after Empty tt (optional_at_end (codes "a") (refl, tt)))

-- a byte after a question mark, with the message of what was expected
pub byte_after_question_mark : (look : LookUp) → Answers (codes "${a?:d}") look
    (Refuses (UnexpectedCharacter 4 (Char 58) (codes "a closing brace ('}')")))
byte_after_question_mark look = inl (fault_after Empty tt
    (optional_alone (codes "a") _ (refl, tt) (omega arith) (ascii_in_front 58 _ refl)))

-- a default that is never closed: a bare brace in it takes the closing one
pub unclosed_default : (look : LookUp) → Answers (codes "${a:{}") look (Refuses (MissingClosingBrace 1))
unclosed_default look = inl (fault_after Empty tt
    (unclosed (codes "a") (codes "{}") (refl, tt) (balanced_never_closes _ refl)))

-- the fault is the outermost placeholder that is never closed, and not one in its default
pub unclosed_before_inner : (look : LookUp)
    → Answers (codes "${a:${b)}") look (Refuses (MissingClosingBrace 1))
unclosed_before_inner look = inl (fault_after Empty tt
    (unclosed (codes "a") (codes "${b)}") (refl, tt) (balanced_never_closes _ refl)))

-- a fault in a default that is closed has its position in the whole source, and comes before later ones
pub fault_in_default : (look : LookUp) → Answers (codes "-${a:$}${") look (Refuses (MissingVariableName 5 1))
fault_in_default look = inl (fault_after (only_plain (codes "-")) ((omega arith, omega arith), tt)
    (inside (codes "a") (codes "$") _ (refl, tt) (balanced_from_test _ refl)
    (fault_after Empty tt dollar_at_end)))

-- Bytes that aren't ASCII.

-- a byte that isn't ASCII ends a name: `$a` and U+00E9
pub name_before_past_ascii : Answers (codes "$a" ++ 0xC3 ∷ 0xA9 ∷ []) a_is_1
    (Gives (codes "1" ++ 0xC3 ∷ 0xA9 ∷ []))
name_before_past_ascii = computed_gives _ _ _ refl

-- a backslash before a character: U+2764, which has the bytes E2 9D A4
pub escaped_character : (look : LookUp) → Answers (codes "\\" ++ 0xE2 ∷ 0x9D ∷ 0xA4 ∷ []) look
    (Refuses (InvalidEscapeSequence 0 (Some (Char 0x2764))))
unfolding encode_utf8
escaped_character look = inl (fault_after Empty tt (escape (λ h. cc) (refl, ([], refl))))

-- without its last byte there is no character, and the first byte is in the fault
pub escaped_byte : (look : LookUp)
    → Answers (codes "\\" ++ 0xE2 ∷ 0x9D ∷ []) look (Refuses (InvalidEscapeSequence 0 (Some (Byte 0xE2))))
unfolding encode_utf8 chars
escaped_byte look = inl (fault_after Empty tt (escape (λ h. cc) (byte_in_front 0xE2 _ refl)))

-- Wrong answers: a source has at most one.

-- an answer that differs from the source's
not_answered : (a b : Answer) (s : List ℕ) (look : LookUp) → Answers s look a → a ≢ b
    → ¬ (Answers s look b)
not_answered a b s look h n k = n (answer_unique s look a b h k)

-- `$ab` isn't `$a` and a plain b, which is no well-formed tree
pub name_not_cut_short : ¬ (IsWellFormed (Then (Short (codes "a")) (only_plain (codes "b"))))
name_not_cut_short h = h.0.1 refl

-- a name that has no value isn't empty
pub missing_not_empty : ¬ (Answers (codes "Hello ${name}!") nothing (Gives (codes "Hello !")))
missing_not_empty =
    not_answered (Refuses (NoSuchVariable 8 (codes "name"))) (Gives (codes "Hello !")) _ _ missing_name
    (λ e. cc)

-- the default `${b:}` is empty: `b` isn't missing
pub empty_default_counts : ¬ (Answers (codes "${b:}}") nothing (Refuses (NoSuchVariable 2 (codes "b"))))
empty_default_counts =
    not_answered (Gives (codes "}")) (Refuses (NoSuchVariable 2 (codes "b"))) _ _ brace_after_default
    (λ e. cc)

-- a missing variable isn't the answer if the source has a fault after it
pub missing_before_fault : ¬ (Answers (codes "$x$") nothing (Refuses (NoSuchVariable 1 (codes "x"))))
missing_before_fault =
    not_answered (Refuses (MissingVariableName 2 1)) (Refuses (NoSuchVariable 1 (codes "x"))) _ _
    (lone_dollar nothing) (λ e. cc)

-- Sources for the laws.

-- `$a` and then `b` are another variable, so not all sentences join
pub name_goes_on : Answers (codes "$a" ++ codes "b") a_is_1 (Refuses (NoSuchVariable 1 (codes "ab")))
name_goes_on = computed_missing _ _ _ _ refl

-- a backslash comes before each special byte, and other bytes stay as they are
pub specials_escaped : escaped (codes "a$b{c}:\\?" ++ 0xC3 ∷ []) ≡ codes "a\\$b\\{c\\}\\:\\\\?" ++ 0xC3 ∷ []
specials_escaped = refl

-- the missing closing brace in `a${b` is that of the `${` after `a`
pub brace_after_sentence : OpensAt 0 (codes "a${b") 2
brace_after_sentence = record {
  before = codes "a";
  after = codes "b";
  sentence = (only_plain (codes "a"), spelled (codes "a") _ refl);
  parts = refl;
  brace = refl;
}

-- a dollar at the end isn't settled, since a name may follow
pub dollar_not_settled : ¬ (IsSettled 1 (MissingVariableName 0 1)) × IsSentence (codes "$a")
dollar_not_settled = (λ h. absurd (omega arith), (only (Short (codes "a")), spelled (codes "$a") _ refl))

-- the earlier language refuses `${a?}`
pub optional_earlier : (look : LookUp)
    → EarlierAnswers (codes "${a?}") look (Refuses (UnexpectedCharacter 3 (Char 63) earlier.brace_or_colon))
optional_earlier look =
    let here = ascii_in_front 63 _ refl in
    inl (earlier.HasFault.fault_after earlier_tree.Empty tt
    (earlier.IsBad.name_alone (codes "a") _ (refl, tt) (λ h. cc) (omega arith) (omega arith) here))

-- the message of what is expected after a name has changed
pub other_message : earlier.brace_or_colon ≢ after_name
other_message same = omega (arith, ap length same)
