-- The lines of a document's bytes.
use Rattle.std.specs.Prelude.{◌≡◌, ℕ, Bool, true, not, ◌&&◌, if◌then◌else◌, ◌==◌, nat_le, List, [], ◌∷◌, ◌++◌, length, drop, slice_index}
use Rattle.std.specs.List.{flat_map, list_all, list_any, prefix_len}
use Rattle.dg_lex.specs.Bytes.{Bytes, line_end, line_limit, is_plain}

-- lines, the first of which begins with one more byte
abbrev pub with_first : ℕ → List Bytes → List Bytes
with_first b [] = []
with_first b (line ∷ lines) = (b ∷ line) ∷ lines

-- the lines of these bytes, each without the LF that ends it
abbrev pub lines_of : Bytes → List Bytes
lines_of [] = []
lines_of (b ∷ bytes) = if b == line_end then [] ∷ lines_of bytes else with_first b (lines_of bytes)

-- what stands after the last LF
abbrev pub rest_of : Bytes → Bytes
rest_of [] = []
rest_of (b ∷ bytes) = if list_any (λ c. c == line_end) (b ∷ bytes) then rest_of bytes else b ∷ bytes

-- a line with the LF that ends it
abbrev pub with_end : Bytes → Bytes
with_end line = line ++ (line_end ∷ [])

abbrev pub has_no_end : Bytes → Bool
has_no_end bytes = list_all (λ b. not (b == line_end)) bytes

-- The bytes are the lines, each with its LF, and then the rest; and neither a line nor the rest
-- holds an LF.
pub record AreSplit (bytes : Bytes) : Type 0 where
  pub joined : flat_map with_end (lines_of bytes) ++ rest_of bytes ≡ bytes
  pub lines : list_all has_no_end (lines_of bytes) ≡ true
  pub rest : has_no_end (rest_of bytes) ≡ true

abbrev pub LinesAndRest : Type 0
LinesAndRest = (bytes : Bytes) → AreSplit bytes

-- a line of plain bytes, and not too many
abbrev pub is_printable : Bytes → Bool
is_printable line = nat_le (length line) line_limit && list_all is_plain line

-- a line from its first byte that is no space on
abbrev pub without_indent : Bytes → Bytes
without_indent line = drop (prefix_len (λ b. b == 32) line) line

abbrev pub is_blank : Bytes → Bool
is_blank line = length (without_indent line) == 0

-- the first two bytes that aren't spaces are `//`
abbrev pub is_comment : Bytes → Bool
is_comment line = slice_index (without_indent line) 0 == 47 && slice_index (without_indent line) 1
    == 47
