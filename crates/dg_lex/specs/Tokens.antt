-- The tokens of a line, from its first byte on. Where one token is the front of another, the longer
-- one is taken.
use Rattle.std.specs.Prelude.{ℕ, zero, suc, ◌+◌, ◌-◌, ◌*◌, ◌^◌, Bool, true, false, not, ◌&&◌, ◌||◌, if◌then◌else◌, ◌==◌, nat_lt, nat_le, List, [], ◌∷◌, length, take, drop, fold, slice_index, Option, Some, None, Result, Ok, Err, codes, ℤ, pos, neg_ℤ}
use Rattle.std.specs.Char.{is_ascii_alphabetic, is_ascii_digit}
use Rattle.std.specs.List.{prefix_len, list_all, list_any}
use Rattle.std.specs.Str.{bytes_eq}
use Rattle.dg_lex.specs.Bytes.{Bytes, is_plain, is_word_byte, is_among, name_limit}
use Rattle.dg_lex.specs.declared.token.Token.{Token}
use Rattle.dg_lex.specs.declared.token.TokenKind.{TokenKind}
use Rattle.dg_lex.specs.declared.token.TokenKind.TheVariants.{Name, Word, AtName, Integer, Text, Sign}

-- ---- what each kind of token is

abbrev pub reserved : List Bytes
reserved = codes "new" ∷ codes "if" ∷ codes "then" ∷ codes "else" ∷ codes "await" ∷ []

-- a word that begins with a letter and has no more bytes than a name may have; reserved words are
-- none
unfoldable pub is_name : Bytes → Bool
is_name z = is_ascii_alphabetic (slice_index z 0) && list_all is_word_byte z
    && nat_le (length z) name_limit && not (is_among z reserved)

-- `@` and a name
unfoldable pub is_at_name : Bytes → Bool
is_at_name z = slice_index z 0 == 64 && is_name (drop 1 z)

-- the number that decimal digits write
abbrev pub value_of_digits : Bytes → ℕ
value_of_digits z = fold (λ n b. 10 * n + (b - 48)) 0 z

-- at least one digit, and the first of them isn't 0
unfoldable pub is_counting : Bytes → Bool
is_counting z = not (slice_index z 0 == 48) && nat_lt 0 (length z) && list_all is_ascii_digit z

-- an integer from -2^63 to 2^63 - 1, with no zero in front and no `-` before a zero
unfoldable pub is_integer : Bytes → Bool
is_integer z =
    bytes_eq z (codes "0")
    || (is_counting z && nat_lt (value_of_digits z) (2 ^ 63))
    || (slice_index z 0 == 45 && is_counting (drop 1 z) && nat_le (value_of_digits (drop 1 z)) (2 ^
    63))

-- the number that an integer writes: with `-` in front, the negative of the number that its digits
-- write
unfoldable pub value_of_integer : Bytes → ℤ
value_of_integer z = if slice_index z 0 == 45 then neg_ℤ (pos (value_of_digits (drop 1 z))) else pos
    (value_of_digits z)

-- what stands behind the opening quote of a text, up to its closing quote, which ends it: plain
-- bytes, in which `\` stands before `"` and `\` alone, and `"` behind `\` alone. The first
-- argument: the byte before is such a `\`
abbrev pub is_rest_of_text : Bool → Bytes → Bool
is_rest_of_text escaped [] = false
is_rest_of_text true (b ∷ z) = (b == 34 || b == 92) && is_rest_of_text false z
is_rest_of_text false (b ∷ z) = if b == 34 then length z == 0 else is_plain b
    && is_rest_of_text (b == 92) z

unfoldable pub is_text : Bytes → Bool
is_text z = slice_index z 0 == 34 && is_rest_of_text false (drop 1 z)

unfoldable pub is_sign : Bytes → Bool
is_sign z = bytes_eq z (codes "==") || (length z == 1 && list_any (λ s. s == slice_index z 0) (codes
    "(){}<>,:=.!?[]+"))

-- the kind of a token of just these bytes, where they are one
unfoldable pub kind_of : Bytes → Option TokenKind
kind_of z =
    if is_name z then Some Name else (if is_among z reserved then Some Word else (if is_at_name z
    then Some AtName
    else (if is_integer z then Some Integer else (if is_text z then Some Text else (if is_sign z
    then Some Sign else None)))))

-- ---- how far a token reaches

-- the bytes up to and with the closing quote of a text, or all where none closes it
abbrev pub quoted_len : Bool → Bytes → ℕ
quoted_len escaped [] = 0
quoted_len true (b ∷ z) = 1 + quoted_len false z
quoted_len false (b ∷ z) = if b == 34 then 1 else 1 + quoted_len (b == 92) z

-- How many bytes the token at the front takes, where one begins there: a text ends with its closing
-- quote, a sign is as long as it can be, and every other token ends before the next byte that no
-- word has.
unfoldable pub extent : Bytes → ℕ
extent [] = 0
extent (b ∷ z) =
    if is_word_byte b || b == 64 || b == 45 then 1 + prefix_len is_word_byte z
    else (if b == 34 then 1 + quoted_len false z
    else (if b == 61 && slice_index z 0 == 61 then 2 else 1))

-- ---- the tokens of a line

-- a token before the others, where they are tokens
abbrev pub before : Token → Result (List Token) ℕ → Result (List Token) ℕ
before t (Ok ts) = Ok (t ∷ ts)
before t (Err at) = Err at

-- the token of this kind that begins at a byte
abbrev pub token_from : TokenKind → ℕ → ℕ → Token
token_from kind at len = record { kind = kind; from = at; to = at + len }

-- The tokens from a byte on, of which `left` bytes still belong to a token that began before: the
-- tokens, or the byte at which none begins.
abbrev pub tokens_from : ℕ → ℕ → Bytes → Result (List Token) ℕ
tokens_from left at [] = Ok []
tokens_from (suc left) at (b ∷ z) = tokens_from left (at + 1) z
tokens_from zero at (b ∷ z) =
    if b == 32 then tokens_from 0 (at + 1) z
    else token_then (kind_of (take (extent (b ∷ z)) (b ∷ z))) at (extent (b
    ∷ z)) (tokens_from (extent (b ∷ z) - 1) (at + 1) z)
  where
    token_then : Option TokenKind → ℕ → ℕ → Result (List Token) ℕ → Result (List Token) ℕ
    token_then None at len rest = Err at
    token_then (Some kind) at len rest = before (token_from kind at len) rest

-- the tokens of a line, or the first byte at which none begins
unfoldable pub tokens_of : Bytes → Result (List Token) ℕ
tokens_of line = tokens_from 0 0 line

-- the bytes that a token takes of its line
abbrev pub spelling_of : Bytes → Token → Bytes
spelling_of line t = take (t.to - t.from) (drop t.from line)
