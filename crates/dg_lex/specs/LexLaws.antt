-- What holds of the tokens of every line, and of every text in quotes.
use Rattle.std.specs.Prelude.{◌≡◌, ℕ, ◌-◌, ◌<◌, ◌≤◌, Bool, true, false, ◌==◌, List, [], ◌∷◌, length, take, drop, slice_index, nat_lt, ◌^◌, ℤ, pos, negsuc, Some, None, Ok, Err}
use Rattle.std.specs.Fmt.{signed_decimal}
use Rattle.std.specs.List.{list_all}
use Rattle.dg_lex.specs.declared.token.Token.{Token}
use Rattle.dg_lex.specs.declared.token.TokenKind.{TokenKind}
use Rattle.dg_lex.specs.declared.token.TokenKind.TheVariants.{Text, Sign}
use Rattle.dg_lex.specs.Bytes.{Bytes, is_plain, is_word_byte}
use Rattle.dg_lex.specs.Tokens.{extent, is_integer, is_text, kind_of, spelling_of, tokens_of, value_of_integer}
use Rattle.dg_lex.specs.Lexemes.{quoted, value_of_text}

-- no front of the bytes that is longer than what the token in front takes is a token of any kind
abbrev pub NoLongerToken : Type 0
NoLongerToken = (z : Bytes) (n : ℕ) → extent z < n → n ≤ length z → kind_of (take n z) ≡ None

-- a token of this kind takes the whole run of letters, digits and `_`
abbrev pub takes_run : TokenKind → Bool
takes_run Text = false
takes_run Sign = false
takes_run other = true

abbrev pub are_spaces : Bytes → Bool
are_spaces z = list_all (λ b. b == 32) z

-- A token of a line: it takes at least one byte, and no more than are there; these are spelled as
-- its kind says; no longer front of what stands there is a token; and where it takes the run of
-- letters, digits and `_`, none stands behind it.
pub record IsTokenOf (line : Bytes) (t : Token) : Type 0 where
  pub some : t.from < t.to
  pub within : t.to ≤ length line
  pub kind : kind_of (spelling_of line t) ≡ Some t.kind
  pub longest : (n : ℕ) → t.to - t.from < n → n ≤ length (drop t.from line)
      → kind_of (take n (drop t.from line)) ≡ None
  pub whole : takes_run t.kind ≡ true → is_word_byte (slice_index line t.to) ≡ false

-- tokens lie in this order from a byte on, none over another, and only spaces stand before, between
-- and behind them
abbrev pub LieInOrder : Bytes → ℕ → List Token → Type 0
LieInOrder line at [] = are_spaces (drop at line) ≡ true
LieInOrder line at (t ∷ ts) =
    (at ≤ t.from) × (are_spaces (take (t.from - at) (drop at line)) ≡ true) × IsTokenOf line t
    × LieInOrder line t.to ts

abbrev pub TokensLieInOrder : Type 0
TokensLieInOrder = (line : Bytes) (ts : List Token) → tokens_of line ≡ Ok ts → LieInOrder line 0 ts

-- A byte of a line at which no token begins: something other than a space stands there, and what a
-- token there would take is none.
pub record NoTokenAt (line : Bytes) (at : ℕ) : Type 0 where
  pub within : at < length line
  pub no_space : (slice_index line at == 32) ≡ false
  pub no_token : kind_of (take (extent (drop at line)) (drop at line)) ≡ None

abbrev pub NoTokenBegins : Type 0
NoTokenBegins = (line : Bytes) (at : ℕ) → tokens_of line ≡ Err at → NoTokenAt line at

-- Of each text, the text in quotes has it as its value, and is a token where its bytes are plain;
-- and each text token is its value in quotes. So texts are printed as they were written.
pub record AreQuoted : Type 0 where
  pub value : (z : Bytes) → value_of_text (quoted z) ≡ z
  pub token : (z : Bytes) → list_all is_plain z ≡ true → is_text (quoted z) ≡ true
  pub spelling : (z : Bytes) → is_text z ≡ true → quoted (value_of_text z) ≡ z

-- an integer of 64 bits, signed
abbrev pub is_in_range : ℤ → Bool
is_in_range (pos n) = nat_lt n (2 ^ 63)
is_in_range (negsuc n) = nat_lt n (2 ^ 63)

-- The decimal text of each integer of 64 bits is a token, and that integer is its value.
pub record AreDecimals : Type 0 where
  pub token : (n : ℤ) → is_in_range n ≡ true → is_integer (signed_decimal n) ≡ true
  pub value : (n : ℤ) → is_in_range n ≡ true → value_of_integer (signed_decimal n) ≡ n
