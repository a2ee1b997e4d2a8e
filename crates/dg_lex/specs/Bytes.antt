-- Bytes of a document, and texts of them.
use Rattle.std.specs.Prelude.{ℕ, Bool, ◌&&◌, ◌||◌, List, nat_le, ◌==◌}
use Rattle.std.specs.Char.{is_ascii_alphanumeric}
use Rattle.std.specs.List.{list_any}
use Rattle.std.specs.Str.{bytes_eq}

-- a list of bytes
abbrev pub Bytes : Type 0
Bytes = List ℕ

-- LF, which ends a line
abbrev pub line_end : ℕ
line_end = 10

-- a byte that a line may hold
abbrev pub is_plain : ℕ → Bool
is_plain b = nat_le 32 b && nat_le b 126

-- letters, digits and `_`
abbrev pub is_word_byte : ℕ → Bool
is_word_byte b = is_ascii_alphanumeric b || b == 95

-- one of these texts is this one
abbrev pub is_among : Bytes → List Bytes → Bool
is_among z texts = list_any (bytes_eq z) texts

-- the most bytes of a name
abbrev pub name_limit : ℕ
name_limit = 64

-- the most bytes of a line, without the LF that ends it
abbrev pub line_limit : ℕ
line_limit = 4096
