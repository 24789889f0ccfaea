-- The entries of values files, which have NAME=VALUE lines or a single value.
use Rattle.std.specs.Prelude.{◌==◌, ◌-◌, ℕ, Bool, true, ◌||◌, List, [], ◌∷◌, ◌++◌, codes, length, take, drop, Option, Some, None, option_map, string_bytes, if◌then◌else◌}
use Rattle.std.specs.List.{slice_split}
use Rattle.std.specs.Str.{bytes_eq, is_utf8}
use Rattle.subst_expander.specs.Layers.{Entry, entry_in}
use Rattle.subst_expander.specs.Mark.{after_mark}
use Rattle.subst_filter_lib.specs.Arguments.{is_pair}
use Rattle.subst_expander.specs.declared.kinds.LineEnd.{LineEnd}
use Rattle.subst_expander.specs.declared.kinds.LineEnd.TheVariants.{Removed, Kept}
use Rattle.subst_expander.specs.declared.values_file.ValuesSource.{ValuesSource}
use Rattle.subst_expander.specs.declared.values_file.ValuesSource.TheVariants.{Lines, Value}

-- the byte is a line feed, which ends a line
abbrev pub is_line_feed : ℕ → Bool
is_line_feed b = b == 10

-- a carriage return
abbrev pub carriage_return : List ℕ
carriage_return = 13 ∷ []

-- the line without a carriage return at its end
abbrev pub without_return : List ℕ → List ℕ
without_return line =
    if bytes_eq (drop (length line - 1) line) carriage_return then take (length line - 1) line else line

-- a line feed
abbrev pub line_feed : List ℕ
line_feed = 10 ∷ []

-- the bytes without a final line end: a line feed, or a carriage return and a line feed
abbrev pub without_line_end : List ℕ → List ℕ
without_line_end bytes =
    if bytes_eq (drop (length bytes - 1) bytes) line_feed
    then without_return (take (length bytes - 1) bytes) else bytes

-- the byte is a blank or a tab
abbrev pub is_blank : ℕ → Bool
is_blank b = (b == 32) || (b == 9)

-- the line without its leading blanks and tabs
abbrev pub after_blanks : List ℕ → List ℕ
after_blanks [] = []
after_blanks (b ∷ line) = if is_blank b then after_blanks line else b ∷ line

-- the line is empty, or begins with `#`
abbrev pub is_ignored : List ℕ → Bool
is_ignored [] = true
is_ignored (b ∷ line) = b == 35

-- a line of a values file: an empty line or a comment, a line with an entry, or a wrong line
pub data Line : Type 0 where
  Nothing : Line
  Sets : Entry → Line
  Wrong : Line

-- the line that has the entry, or a wrong line if there is none
abbrev pub entry_or_wrong : Option Entry → Line
entry_or_wrong None = Wrong
entry_or_wrong (Some entry) = Sets entry

-- a line without leading blanks, parsed
abbrev pub parsed_after_blanks : List ℕ → Line
parsed_after_blanks line = if is_ignored line then Nothing else entry_or_wrong (entry_in line)

-- the parsed line
abbrev pub parsed : List ℕ → Line
parsed line = parsed_after_blanks (after_blanks (without_return line))

-- the message of a wrong line, which depends on whether the line has an `=`
abbrev pub message_of : List ℕ → List ℕ
message_of line = if is_pair line then codes "not a variable name" else codes "missing '='"

-- `entries` followed by `later`, which are the entries of later lines or files; none if `later` is none
abbrev pub before : List Entry → Option (List Entry) → Option (List Entry)
before entries later = option_map (λ more. entries ++ more) later

-- the entries of a line followed by `later`, the entries of later lines; none if one of these lines is wrong
abbrev pub with_line : Line → Option (List Entry) → Option (List Entry)
with_line Nothing later = later
with_line (Sets entry) later = before (entry ∷ []) later
with_line Wrong later = None

-- the entries of lines, in order, or none if a line is wrong
abbrev pub values_of_lines : List (List ℕ) → Option (List Entry)
values_of_lines [] = Some []
values_of_lines (line ∷ lines) = with_line (parsed line) (values_of_lines lines)

-- the lines of a values file
abbrev pub lines_in : List ℕ → List (List ℕ)
lines_in bytes = slice_split is_line_feed (after_mark bytes)

-- the entries of a values file, in the order of its lines, or none if it isn't UTF-8 or a line is wrong
abbrev pub values_of : List ℕ → Option (List Entry)
values_of bytes = if is_utf8 bytes then values_of_lines (lines_in bytes) else None

-- the entries of a file followed by `later`, the entries of later files; none if one of these files is
-- refused
abbrev pub with_file : Option (List Entry) → Option (List Entry) → Option (List Entry)
with_file None later = None
with_file (Some entries) later = before entries later

-- the bytes of a file as a value: without a final line end for `Removed`, unchanged for `Kept`
abbrev pub value_bytes : LineEnd → List ℕ → List ℕ
value_bytes Removed bytes = without_line_end bytes
value_bytes Kept bytes = bytes

-- the entry of this name with these bytes as its value, or none if they aren't UTF-8
abbrev pub value_of : List ℕ → List ℕ → Option (List Entry)
value_of name bytes =
    if is_utf8 bytes then Some (record { name = name; value = Some bytes } ∷ []) else None

-- the entries of a file: those of its lines, or a single entry with the file as its value; none if the file
-- is refused
abbrev pub values_in : ValuesSource → Option (List Entry)
values_in (Lines source) = values_of source.bytes.items
values_in (Value name line_end source) =
    value_of (string_bytes name) (value_bytes line_end source.bytes.items)

-- the entries of files, in order, or none if a file is refused
abbrev pub values_of_files : List ValuesSource → Option (List Entry)
values_of_files [] = Some []
values_of_files (file ∷ files) = with_file (values_in file) (values_of_files files)
