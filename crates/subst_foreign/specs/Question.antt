-- Look-ups of names that are questions. A name that begins with the digit 1, 2 or 3 is a question about the
-- variable whose name follows the digit. No name in a shell begins with a digit.
use Rattle.std.specs.Prelude.{◌==◌, if◌then◌else◌, ℕ, List, [], ◌∷◌, Option, Some, None}
use Rattle.subst_language.specs.Language.LookUp.{LookUp}
use Rattle.subst_language.specs.Maps.{without_empty}

-- the digits of the questions: the value, even if it is empty; whether the variable is unset; whether it is
-- unset or empty
abbrev pub value_of : ℕ
value_of = 49

abbrev pub is_missing : ℕ
is_missing = 50

abbrev pub is_empty : ℕ
is_empty = 51

-- the empty value if there is no value, and `None` if there is one
abbrev pub negated : Option (List ℕ) → Option (List ℕ)
negated (Some x) = None
negated None = Some []

-- the look-up of a `ShellMap` over `look`: for a name that is a question, the answer; for any other name, its
-- value, unless that is empty
abbrev pub by_question : LookUp → LookUp
by_question look [] = without_empty look []
by_question look (b ∷ name) =
    if b == value_of then look name
    else if b == is_missing then negated (look name)
    else if b == is_empty then negated (without_empty look name)
    else without_empty look (b ∷ name)
