-- Tokens with the bytes that they take, and the values of texts.
use Rattle.std.specs.Prelude.{ℕ, ◌-◌, Bool, true, false, ◌||◌, if◌then◌else◌, ◌==◌, List, [], ◌∷◌, ◌++◌, length, take, drop, map}
use Rattle.std.specs.List.{flat_map}
use Rattle.dg_lex.specs.Bytes.{Bytes}
use Rattle.dg_lex.specs.Tokens.{spelling_of}
use Rattle.dg_lex.specs.declared.token.Token.{Token}
use Rattle.dg_lex.specs.declared.token.TokenKind.{TokenKind}

-- a token with the bytes that it takes of its line
pub record Lexeme : Type 0 where
  pub kind : TokenKind
  pub spelling : Bytes

abbrev pub lexeme_of : Bytes → Token → Lexeme
lexeme_of line t = record { kind = t.kind; spelling = spelling_of line t }

abbrev pub lexemes : Bytes → List Token → List Lexeme
lexemes line tokens = map (lexeme_of line) tokens

-- what stands between the quotes of a text, without the `\` before each `"` and `\`. The first
-- argument: such a `\` came before
abbrev pub unescaped : Bool → Bytes → Bytes
unescaped escaped [] = []
unescaped true (b ∷ z) = b ∷ unescaped false z
unescaped false (b ∷ z) = if b == 92 then unescaped true z else b ∷ unescaped false z

-- the value of a text, by all of its bytes
unfoldable pub value_of_text : Bytes → Bytes
value_of_text z = unescaped false (take (length z - 2) (drop 1 z))

-- a byte of a text, with a `\` before `"` and `\`
abbrev pub escaped : ℕ → Bytes
escaped b = if b == 34 || b == 92 then 92 ∷ b ∷ [] else b ∷ []

-- the text in quotes whose value this is
unfoldable pub quoted : Bytes → Bytes
quoted z = 34 ∷ flat_map escaped z ++ 34 ∷ []
