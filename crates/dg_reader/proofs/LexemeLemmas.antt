-- The `(` in front of a line's lexemes, and the word that tells its form, are found one lexeme
-- after
-- another, as loops do.
use Rattle.std.proofs.Common.{◌≡◌, ◌≢◌, ℕ, suc, ◌+◌, Bool, true, false, not, ◌&&◌, List, [], ◌∷◌}
use Rattle.std.proofs.Common.{refl, sym, ap, ◌∙◌, arith}
use Rattle.std.specs.Prelude.{if◌then◌else◌, codes}
use Rattle.std.specs.List.{prefix_len}
use denote.Enum.Bare.{sameb}
use Rattle.dg_lex.specs.contracts.token.TokenKind.{the_type}
use Rattle.dg_lex.specs.declared.token.TokenKind.{TokenKind}
use Rattle.dg_lex.specs.declared.token.TokenKind.TheVariants as kind
use Rattle.dg_lex.specs.Bytes.{Bytes}
use Rattle.dg_lex.specs.Lexemes.{Lexeme}
use Rattle.dg_decl.specs.Readers.{is_spelled, is_of_kind}
use Rattle.dg_decl.specs.Forms.{form_word}

abbrev is_open : Lexeme → Bool
is_open l = is_spelled kind.Sign (codes "(") l

pub one_open : (count total : ℕ) (l : Lexeme) (ls : List Lexeme) → is_open l ≡ true
    → count + prefix_len is_open (l ∷ ls) ≡ total → (count + 1) + prefix_len is_open ls ≡ total
one_open count total l ls is all = (let more : count + (1 + prefix_len is_open ls) ≡ total = rw is
    at all in omega (arith, more))

pub no_open : (count total : ℕ) (l : Lexeme) (ls : List Lexeme) → is_open l ≡ false
    → count + prefix_len is_open (l ∷ ls) ≡ total → count ≡ total
no_open count total l ls is all = (let more : count + 0 ≡ total = rw is at all in omega (
  arith,
  more,
))

pub no_opens : (count total : ℕ) → count + prefix_len is_open [] ≡ total → count ≡ total
no_opens count total all = (let more : count + 0 ≡ total = all in omega (arith, more))
