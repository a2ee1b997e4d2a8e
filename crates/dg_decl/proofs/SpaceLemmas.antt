-- The tokens of canonical text: a space stands before each that couldn't stand right behind the one before it.
use Rattle.std.proofs.Common.{◌≡◌, Bool, true, false, ◌&&◌, List, [], ◌∷◌, ◌++◌, Option, Some, None, refl, ap, ◌∙◌, inl, inr}
use Rattle.std.specs.Prelude.{◌||◌, not, codes}
use Rattle.std.specs.List.{list_all}
use Rattle.std.specs.Str.{bytes_eq}
use Rattle.std.proofs.lemmas.Slice.Eq.{bytes_eq-Decides}
use Rattle.std.proofs.lemmas.Bool.{and_parts, and_cases, or_cases, or_parts, not-false, false≢true}
use Rattle.dg_lex.specs.declared.token.TokenKind.{TokenKind}
use Rattle.dg_lex.specs.Bytes.{Bytes, is_among}
use Rattle.dg_lex.specs.Tokens.{kind_of, is_name, is_at_name, is_integer, is_counting, is_text, is_sign}
use Rattle.dg_lex.specs.Lexemes.{Lexeme}
use Rattle.dg_lex.proofs.PieceLemmas.{closes, starts_apart, may_touch, Piece, AreTokens, AreParted}
use Rattle.dg_lex.proofs.PieceLemmas as pieces
use Rattle.dg_decl.specs.Canonical.{Printed, has_space, gap, text_behind, text_of}

-- what holds of each of these texts holds of one of them
among_has : (p : Bytes → Bool) (z : Bytes) (texts : List Bytes) → is_among z texts ≡ true → list_all p texts ≡ true → p z ≡ true
among_has p z [] is all = absurd (false≢true is)
among_has p z (x ∷ xs) is all =
    let parts = and_parts (p x) (list_all p xs) all in
    elim (or_cases (bytes_eq z x) (is_among z xs) is) [
      | inl here ↦ ap p ((bytes_eq-Decides z x).0 here) ∙ parts.0
      | inr later ↦ among_has p z xs later parts.1
    ]

-- a token of this kind is closed
closes_as : Option TokenKind → Bytes → Bool
closes_as None z = false
closes_as (Some k) z = closes k z

closed_before : (z : Bytes) → is_among z (codes "(" ∷ codes "[" ∷ codes "." ∷ []) ≡ true → closes_as (kind_of z) z ≡ true
unfolding kind_of is_name is_at_name is_integer is_counting is_text is_sign closes_as
closed_before z is = among_has (λ x. closes_as (kind_of x) x) z (codes "(" ∷ codes "[" ∷ codes "." ∷ []) is refl

apart_next : (z : Bytes) → is_among z (codes ")" ∷ codes "]" ∷ codes "," ∷ codes "." ∷ codes "!" ∷ codes "?" ∷ codes "(" ∷ codes "[" ∷ []) ≡ true → starts_apart z ≡ true
apart_next z is = among_has starts_apart z (codes ")" ∷ codes "]" ∷ codes "," ∷ codes "." ∷ codes "!" ∷ codes "?" ∷ codes "(" ∷ codes "[" ∷ []) is refl

or_true : (v : Bool) → (v || true) ≡ true
or_true true = refl
or_true false = refl

-- where no space stands between two tokens, the second may stand right behind the first
pub space_or_touch : (t : Lexeme) (next : Bytes) → kind_of t.spelling ≡ Some t.kind → has_space t.spelling next ≡ false → may_touch t next ≡ true
unfolding closes_as
space_or_touch t next is none =
    elim (and_cases (not (is_among t.spelling (codes "(" ∷ codes "[" ∷ codes "." ∷ []))) (not (is_among next (codes ")" ∷ codes "]" ∷ codes "," ∷ codes "." ∷ codes "!" ∷ codes "?" ∷ codes "(" ∷ codes "[" ∷ []))) (or_parts (bytes_eq t.spelling (codes ",")) _ none).1) [
      | inl behind ↦ (let closed : closes t.kind t.spelling ≡ true = rw is at (closed_before t.spelling (not-false _ behind)) in rw closed refl)
      | inr before ↦ rw (apart_next next (not-false _ before), or_true (closes t.kind t.spelling)) refl
    ]

-- ---- printed tokens as pieces

-- each token with its space, behind this one
abbrev pub pieces_behind : Lexeme → List Printed → List Piece
pieces_behind before [] = []
pieces_behind before (p ∷ ps) = record { token = p.token; apart = not p.close && has_space before.spelling p.token.spelling } ∷ pieces_behind p.token ps

abbrev pub pieces_of : List Printed → List Piece
pieces_of [] = []
pieces_of (p ∷ ps) = record { token = p.token; apart = false } ∷ pieces_behind p.token ps

text_of_behind : (before : Lexeme) (ps : List Printed) → text_behind before ps ≡ pieces.text_of (pieces_behind before ps)
text_of_behind before [] = refl
text_of_behind before (p ∷ ps) = ap (λ (z : Bytes). gap before p ++ (p.token.spelling ++ z)) (text_of_behind p.token ps)

pub text_of_pieces : (ps : List Printed) → text_of ps ≡ pieces.text_of (pieces_of ps)
text_of_pieces [] = refl
text_of_pieces (p ∷ ps) = ap (λ (z : Bytes). p.token.spelling ++ z) (text_of_behind p.token ps)

-- ---- what the printed tokens of an item owe

-- each is spelled as its kind says
abbrev pub AllTokens : List Printed → Type 0
AllTokens [] = Unit {0}
AllTokens (p ∷ ps) = (kind_of p.token.spelling ≡ Some p.token.kind) × AllTokens ps

-- each that stands right behind the one before it, whichever that is, may do so
abbrev pub IsCloseFrom : Lexeme → List Printed → Type 0
IsCloseFrom before [] = Unit {0}
IsCloseFrom before (p ∷ ps) = (not p.close || may_touch before p.token.spelling) ≡ true × IsCloseFrom p.token ps

abbrev pub IsClose : List Printed → Type 0
IsClose [] = Unit {0}
IsClose (p ∷ ps) = IsCloseFrom p.token ps

behind_tokens : (before : Lexeme) (ps : List Printed) → AllTokens ps → AreTokens (pieces_behind before ps)
behind_tokens before [] are = tt
behind_tokens before (p ∷ ps) are = (are.0, behind_tokens p.token ps are.1)

pub pieces_tokens : (ps : List Printed) → AllTokens ps → AreTokens (pieces_of ps)
pieces_tokens [] are = tt
pieces_tokens (p ∷ ps) are = (are.0, behind_tokens p.token ps are.1)

parted_at : (t : Lexeme) (p : Printed) (close space : Bool) → p.close ≡ close → has_space t.spelling p.token.spelling ≡ space → kind_of t.spelling ≡ Some t.kind → (not p.close || may_touch t p.token.spelling) ≡ true → ((not p.close && has_space t.spelling p.token.spelling) || may_touch t p.token.spelling) ≡ true
parted_at t p true space e f is owed = rw e (rw e at owed)
parted_at t p false true e f is owed = rw (e, f) refl
parted_at t p false false e f is owed = rw (e, f) (space_or_touch t p.token.spelling is f)

behind_parted : (piece : Piece) (ps : List Printed) → kind_of piece.token.spelling ≡ Some piece.token.kind → AllTokens ps → IsCloseFrom piece.token ps → AreParted (piece ∷ pieces_behind piece.token ps)
behind_parted piece [] is are close = tt
behind_parted piece (p ∷ ps) is are close = (
  parted_at piece.token p p.close (has_space piece.token.spelling p.token.spelling) refl refl is close.0,
  behind_parted (record { token = p.token; apart = not p.close && has_space piece.token.spelling p.token.spelling }) ps are.0 are.1 close.1,
)

pub pieces_parted : (ps : List Printed) → AllTokens ps → IsClose ps → AreParted (pieces_of ps)
pieces_parted [] are close = tt
pieces_parted (p ∷ ps) are close = behind_parted (record { token = p.token; apart = false }) ps are.0 are.1 close
