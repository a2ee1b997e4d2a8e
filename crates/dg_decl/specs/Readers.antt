-- Readers of the front of a list of lexemes: what is read and the lexemes behind it, or None.
use Rattle.std.specs.Prelude.{ℕ, zero, suc, Bool, true, false, ◌&&◌, if◌then◌else◌, List, [], ◌∷◌, take, drop, map, Option, Some, None, codes, ℤ}
use Rattle.std.specs.List.{prefix_len}
use Rattle.std.specs.Str.{bytes_eq}
use denote.Enum.Bare.{sameb}
use Rattle.dg_lex.specs.contracts.token.TokenKind.{the_type}
use Rattle.dg_lex.specs.declared.token.TokenKind.{TokenKind}
use Rattle.dg_lex.specs.declared.token.TokenKind.TheVariants as kind
use Rattle.dg_lex.specs.Bytes.{Bytes, line_limit}
use Rattle.dg_lex.specs.Tokens.{is_integer, value_of_integer}
use Rattle.dg_lex.specs.Lexemes.{Lexeme, value_of_text}

abbrev pub Reader : Type 0 → Type 0
Reader A = List Lexeme → Option (A × List Lexeme)

abbrev pub then_reads : {A B : Type 0} → Option (A × List Lexeme) → (A → Reader B) → Option (B
    × List Lexeme)
then_reads None f = None
then_reads (Some p) f = f p.0 p.1

infixl 10 ◌>>=◌
abbrev pub ◌>>=◌ : {A B : Type 0} → Reader A → (A → Reader B) → Reader B
p >>= f = λ ls. then_reads (p ls) f

infixl 10 ◌>>◌
abbrev pub ◌>>◌ : {A B : Type 0} → Reader A → Reader B → Reader B
p >> q = p >>= (λ _. q)

abbrev pub pure : {A : Type 0} → A → Reader A
pure a = λ ls. Some (a, ls)

abbrev pub nothing : {A : Type 0} → Reader A
nothing = λ ls. None

-- ---- one lexeme

-- a lexeme of this kind that is spelled so
abbrev pub is_spelled : TokenKind → Bytes → Lexeme → Bool
is_spelled kind spelling l = sameb the_type l.kind kind && bytes_eq l.spelling spelling

-- such a lexeme comes next
unfoldable pub comes : TokenKind → Bytes → List Lexeme → Bool
comes kind spelling [] = false
comes kind spelling (l ∷ ls) = is_spelled kind spelling l

-- takes such a lexeme
unfoldable pub taken : TokenKind → Bytes → Reader (Unit {0})
taken kind spelling ls = if comes kind spelling ls then Some (tt, drop 1 ls) else None

-- takes such a lexeme if it comes next
unfoldable pub eaten : TokenKind → Bytes → Reader Bool
eaten kind spelling ls = if comes kind spelling ls then Some (true, drop 1 ls) else Some (false, ls)

abbrev pub is_of_kind : TokenKind → Lexeme → Bool
is_of_kind kind l = sameb the_type l.kind kind

-- a lexeme of this kind comes next
unfoldable pub comes_kind : TokenKind → List Lexeme → Bool
comes_kind kind [] = false
comes_kind kind (l ∷ ls) = is_of_kind kind l

-- the spelling of the next lexeme, which is of this kind
unfoldable pub spelled : TokenKind → Reader Bytes
spelled kind [] = None
spelled kind (l ∷ ls) = if is_of_kind kind l then Some (l.spelling, ls) else None

-- a name that has a meaning by its place
abbrev pub keyword : Bytes → Reader (Unit {0})
keyword w = taken kind.Name w

-- a reserved word
abbrev pub word : Bytes → Reader (Unit {0})
word w = taken kind.Word w

abbrev pub sign : Bytes → Reader (Unit {0})
sign s = taken kind.Sign s

-- no lexeme is left
unfoldable pub at_end : Reader (Unit {0})
at_end [] = Some (tt, [])
at_end (l ∷ ls) = None

abbrev pub name : Reader Bytes
name = spelled kind.Name

-- the name behind the `@` of an at-name
unfoldable pub at_name : Reader Bytes
at_name = spelled kind.AtName >>= λ z. pure (drop 1 z)

-- a text, by its value
unfoldable pub text : Reader Bytes
text = spelled kind.Text >>= λ z. pure (value_of_text z)

-- an integer, by its value. The test says what a reader does with lexemes that are of no line: in a
-- line a lexeme of this kind is spelled as an integer
unfoldable pub integer : Reader ℤ
integer = spelled kind.Integer >>= λ z. if is_integer z then pure (value_of_integer z) else nothing

-- ---- optional parts, lists, parentheses

-- such a lexeme and what is read behind it, or neither
unfoldable pub optional : {A : Type 0} → TokenKind → Bytes → Reader A → Reader (Option A)
optional kind spelling part = do
  some ← eaten kind spelling
  if some then (part >>= λ x. pure (Some x)) else pure None

-- one member or more with commas between, at most so many
unfoldable pub list_of : {A : Type 0} → Reader A → ℕ → Reader (List A)
list_of member zero = nothing
list_of member (suc n) = do
  x ← member
  more ← eaten kind.Sign (codes ",")
  if more then (list_of member n >>= λ xs. pure (x ∷ xs)) else pure (x ∷ [])

-- the most members of a list of parameters, arguments, constants or parts of `cat`, and the most
-- steps of a path
abbrev pub list_limit : ℕ
list_limit = 32

-- `N, ..`: no line has room for more names than it has bytes
unfoldable pub names : Reader (List Bytes)
names = list_of name line_limit

-- behind such a name `N, ..`, or none
unfoldable pub optional_names : TokenKind → Bytes → Reader (List Bytes)
optional_names kind spelling = do
  some ← eaten kind spelling
  if some then names else pure []

-- one part in parentheses
unfoldable pub enclosed : {A : Type 0} → Reader A → Reader A
enclosed part = do
  sign (codes "(")
  x ← part
  sign (codes ")")
  pure x

-- a list in parentheses
unfoldable pub some_in_parentheses : {A : Type 0} → Reader A → Reader (List A)
some_in_parentheses member = enclosed (list_of member list_limit)

-- none, or a list, in parentheses
unfoldable pub in_parentheses : {A : Type 0} → Reader A → Reader (List A)
in_parentheses member = do
  sign (codes "(")
  none ← eaten kind.Sign (codes ")")
  if none then pure [] else (list_of member list_limit >>= λ xs. sign (codes ")") >> pure xs)

-- the names of all at-names that stand in front
unfoldable pub at_names : Reader (List Bytes)
at_names ls =
    let count = prefix_len (is_of_kind kind.AtName) ls in
    Some (map (λ l. drop 1 l.spelling) (take count ls), drop count ls)
