-- Common mistakes in JSON and TOML, recognized by the text or by the reader's message.
use Rattle.std.specs.Prelude.{ℕ, zero, suc, ◌==◌, ◌+◌, ◌-◌, Bool, true, false, not, ◌&&◌, ◌||◌, List, [], ◌∷◌, codes, drop, get_or, length, take, Option, Some, None, is_some, option_map, if◌then◌else◌, string_bytes}
use Rattle.std.specs.Char.{is_ascii_hexdigit, is_ascii_whitespace}
use Rattle.std.specs.Int.{is_in_range}
use Rattle.std.specs.Str.{bytes_eq}
use Rattle.json.specs.Json.{document}
use Rattle.subst_json.specs.declared.stop.ReaderStop.{ReaderStop}
use Rattle.subst_expander.specs.declared.document.format.Unfilled.{Unfilled}
use Rattle.subst_expander.specs.declared.document.format.Unfilled.TheVariants.{Unread}
use Rattle.subst_expander.specs.declared.document.mistake.SurrogateHalf.{SurrogateHalf}
use Rattle.subst_expander.specs.declared.document.mistake.SurrogateHalf.TheVariants.{First, Second}
use Rattle.subst_expander.specs.declared.document.mistake.Mistake.{Mistake}
use Rattle.subst_expander.specs.declared.document.mistake.Mistake.TheVariants.{TrailingComma, Comment, Variable, SecondDocument, LoneSurrogate, TooDeep}
use Rattle.subst_expander.specs.declared.document.mistake.Part.{Part}
use Rattle.subst_expander.specs.declared.document.mistake.Part.TheVariants.{Outside, Inside, Escaped}
use Rattle.subst_expander.specs.declared.document.mistake.TheConstants.{LEVELS, TOML_LEVELS}
use Rattle.subst_expander.specs.declared.fault.Cause.TheVariants as cause

-- the part of JSON that the byte after `b` is in; the first argument is the part that `b` itself is in
abbrev pub part_after : Part → ℕ → Part
part_after Outside b = if b == 34 then Inside else Outside
part_after Inside b = if b == 34 then Outside else if b == 92 then Escaped else Inside
part_after Escaped b = Inside

-- the byte, in this part of JSON, opens an array or object
abbrev pub does_open : Part → ℕ → Bool
does_open Outside b = b == 91 || b == 123
does_open Inside b = false
does_open Escaped b = false

-- the byte, in this part of JSON, closes an array or object
abbrev pub does_close : Part → ℕ → Bool
does_close Outside b = b == 93 || b == 125
does_close Inside b = false
does_close Escaped b = false

-- the index of the first bracket that opens one level too many; the bytes begin at index `at`, in `part` and
-- inside `depth` levels
abbrev pub bracket_past : ℕ → Part → ℕ → List ℕ → Option ℕ
bracket_past at part depth [] = None
bracket_past at part depth (b ∷ bs) =
    if does_open part b then (if depth == LEVELS then Some at else bracket_past (at + 1) part (depth + 1) bs)
    else if does_close part b then bracket_past (at + 1) part (depth - 1) bs
    else bracket_past (at + 1) (part_after part b) depth bs

-- the last byte that isn't white space, or `last` if there is none
abbrev pub last_of : ℕ → List ℕ → ℕ
last_of last [] = last
last_of last (b ∷ bs) = last_of (if is_ascii_whitespace b then last else b) bs

-- the half of a surrogate pair whose escape has the second digit `b` (the 8 of `\ud800`), if there is one
abbrev pub half_by : ℕ → Option SurrogateHalf
half_by b =
    if is_in_range 56 57 b || (is_in_range 97 98 b || is_in_range 65 66 b) then Some First
    else if is_in_range 99 102 b || is_in_range 67 70 b then Some Second
    else None

-- the bytes begin with `\uD` or `\ud`, then any byte, then two hexadecimal digits
abbrev pub is_surrogate_at : List ℕ → Bool
is_surrogate_at bs = (get_or bs 0 0 == 92) && ((get_or bs 1 0 == 117)
    && ((get_or bs 2 0 == 100 || get_or bs 2 0 == 68)
    && (is_ascii_hexdigit (get_or bs 4 0) && is_ascii_hexdigit (get_or bs 5 0))))

-- the half of a surrogate pair whose escape the bytes begin with
abbrev pub half_at : List ℕ → Option SurrogateHalf
half_at bs = if is_surrogate_at bs then half_by (get_or bs 3 0) else None

-- there is a half of a surrogate pair, and it is the second half
abbrev pub is_second : Option SurrogateHalf → Bool
is_second None = false
is_second (Some First) = false
is_second (Some Second) = true

-- there is a half of a surrogate pair, and it lacks the other half: it is a second half, or no second half
-- follows; `next` is the half whose escape follows, if any
abbrev pub is_without : Option SurrogateHalf → Option SurrogateHalf → Bool
is_without None next = false
is_without (Some First) next = not (is_second next)
is_without (Some Second) next = true

-- the bytes begin with the escape of a lone surrogate: a second half, or a first half that no second half
-- follows
abbrev pub is_lone_at : List ℕ → Bool
is_lone_at bs = is_without (half_at bs) (half_at (drop 6 bs))

-- the number of bytes to skip after the backslash of an escape: 1, but 11 for a first half, to skip the whole
-- surrogate pair
abbrev pub after_half : Option SurrogateHalf → ℕ
after_half None = 1
after_half (Some First) = 11
after_half (Some Second) = 1

-- the number of bytes to skip after the first: 11 for a surrogate pair, 1 for another escape, or else 0
abbrev pub after_first : List ℕ → ℕ
after_first bs = if get_or bs 0 0 == 92 then after_half (half_at bs) else 0

-- the index of the first lone surrogate (half a pair without the other half) before the closing quote; the
-- bytes begin at index `at` of a string, and the first `to_skip` are skipped
abbrev pub lone_at : ℕ → ℕ → List ℕ → Option ℕ
lone_at at to_skip [] = None
lone_at at (suc to_skip) (b ∷ bs) = lone_at (at + 1) to_skip bs
lone_at at zero (b ∷ bs) =
    if b == 34 then None
    else if is_lone_at (b ∷ bs) then Some at
    else lone_at (at + 1) (after_first (b ∷ bs)) bs

-- the bytes begin a comment
abbrev pub begins_comment : List ℕ → Bool
begins_comment bs = (get_or bs 0 0 == 47) && (get_or bs 1 0 == 47 || get_or bs 1 0 == 42)

-- the mistake that stopped the reader between `before` and `rest`, with its offset: a comment, a variable, a
-- bracket after a comma, text after a document, or half a surrogate pair
abbrev pub mistake_in : List ℕ → List ℕ → Bool → Option (Mistake × ℕ)
mistake_in before rest is_document =
    let first = get_or rest 0 0 in
    if begins_comment rest then Some (Comment, length before)
    else if first == 36 then Some (Variable, length before)
    else if (first == 93 || first == 125) && (last_of 0 before == 44) then Some (TrailingComma, length before)
    else if is_document && not (length rest == 0) then Some (SecondDocument, length before)
    else if first == 34 then option_map (λ half. (LoneSurrogate, length before + half)) (lone_at 0 1 rest)
    else None

-- the mistake `TooDeep` at the offset of the bracket, or `mistake` if there is no bracket
abbrev pub or_bracket : Option (Mistake × ℕ) → Option ℕ → Option (Mistake × ℕ)
or_bracket mistake None = mistake
or_bracket mistake (Some bracket) = Some (TooDeep LEVELS, bracket)

-- The mistake in a text that isn't JSON, and its offset. The reader stopped between `before` and `rest`, and
-- `is_document` is whether `before` is a document.
abbrev pub mistake_at : List ℕ → List ℕ → Bool → Option (Mistake × ℕ)
mistake_at before rest is_document =
    or_bracket (mistake_in before rest is_document) (bracket_past 0 Outside 0 before)

-- the mistake in the text, with its offset, if the mistake is known and the reader's message states no reason
abbrev pub mistake_of : List ℕ → ReaderStop → Option (Mistake × ℕ)
mistake_of text stop =
    let before = take stop.offset text in
    if bytes_eq (string_bytes stop.message) (codes "invalid JSON")
    then mistake_at before (drop stop.offset text) (is_some (document before)) else None

-- the reason why a text isn't JSON: the given mistake if there is one, or else the message of the reader's
-- stop
abbrev pub or_message : ReaderStop → Option (Mistake × ℕ) → Unfilled
or_message stop (Some (mistake, offset)) = Unread (record { start = offset; end = offset }) (cause.Mistake mistake)
or_message stop None =
    Unread (record { start = stop.offset; end = stop.offset }) (cause.NotADocument stop.message)

-- the reason why a text isn't JSON, if its reader stopped with `stop`: a known mistake, or else the stop's
-- message
abbrev pub unread_at : List ℕ → ReaderStop → Unfilled
unread_at text stop = or_message stop (mistake_of text stop)

-- the mistake that the TOML reader's message states, if the mistake is known
abbrev pub mistake_of_toml : List ℕ → Option Mistake
mistake_of_toml message = if bytes_eq message (codes "cannot recurse further; max recursion depth met")
    then Some (TooDeep TOML_LEVELS) else None
