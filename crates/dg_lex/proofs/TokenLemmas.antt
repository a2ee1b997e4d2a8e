-- The tokens of a line, found one after another.
use Rattle.std.proofs.Common.{ℕ, zero, suc, ◌≡◌, ◌≢◌, ◌+◌, ◌-◌, ◌≤◌, ◌<◌, false, ◌==◌, List, [], ◌∷◌, ◌++◌, length, take, drop, get_or, Some, None, Result, Ok, Err, refl, ap, ◌∙◌, append_assoc, append-nil, length-drop, arith}
use Rattle.std.proofs.lemmas.List.{drop_more, drop-drop, at_drop_all}
use Rattle.dg_lex.specs.declared.token.Token.{Token}
use Rattle.dg_lex.specs.declared.token.TokenKind.{TokenKind}
use Rattle.dg_lex.specs.Bytes.{Bytes}
use Rattle.dg_lex.specs.Tokens.{kind_of, extent, before, token_from, tokens_from}

-- the tokens found so far before the others, where they are tokens
abbrev pub joined : List Token → Result (List Token) ℕ → Result (List Token) ℕ
joined front (Ok ts) = Ok (front ++ ts)
joined front (Err at) = Err at

joined-before : (front : List Token) (t : Token) (rest : Result (List Token) ℕ) → joined (front ++ (t ∷ [])) rest ≡ joined front (before t rest)
joined-before front t (Ok ts) = ap Ok (append_assoc front (t ∷ []) ts)
joined-before front t (Err at) = refl

tokens_from-drop : (left at to : ℕ) (z : Bytes) → at + left ≡ to → tokens_from left at z ≡ tokens_from 0 to (drop left z)
tokens_from-drop zero at to z sum = ap (λ k. tokens_from 0 k z) (omega arith)
tokens_from-drop (suc left) at to [] sum = refl
tokens_from-drop (suc left) at to (b ∷ z) sum = tokens_from-drop left (at + 1) to z (omega arith)

pub bad_first : (at len : ℕ) (z : Bytes) → 0 < length z → (get_or z 0 0 == 32) ≡ false → extent z ≡ len → kind_of (take len z) ≡ None → tokens_from 0 at z ≡ Err at
bad_first at len [] some other is none = absurd (omega arith)
bad_first at len (b ∷ z) some other is none = rw (other, is, none)

pub token_first : (at len : ℕ) (z : Bytes) (kind : TokenKind) → 0 < length z → (get_or z 0 0 == 32) ≡ false → extent z ≡ len → 0 < len → kind_of (take len z) ≡ Some kind → before (token_from kind at len) (tokens_from 0 (at + len) (drop len z)) ≡ tokens_from 0 at z
token_first at len [] kind some other is moves found = absurd (omega arith)
token_first at zero (b ∷ z) kind some other is moves found = absurd (omega arith)
token_first at (suc n) (b ∷ z) kind some other is moves found =
    let less : suc n - 1 ≡ n = omega arith in
    rw (other, is, found, less, tokens_from-drop n (at + 1) (at + suc n) z (omega arith))

pub not_space : (at : ℕ) (z : Bytes) → at < length z → (get_or z at 0 == 32) ≡ false → (get_or (drop at z) 0 0 == 32) ≡ false
not_space at z within other = rw (drop_more z at 0 within) other

pub joined_end : (front : List Token) (at : ℕ) (z : Bytes) → length z ≤ at → joined front (tokens_from 0 at (drop at z)) ≡ Ok front
joined_end front at z past = at_drop_all (λ rest. joined front (tokens_from 0 at rest)) z at past ∙ ap Ok (append-nil front)

pub joined_bad : (front : List Token) (at len : ℕ) (z : Bytes) → at < length z → (get_or z at 0 == 32) ≡ false → extent (drop at z) ≡ len → kind_of (take len (drop at z)) ≡ None → joined front (tokens_from 0 at (drop at z)) ≡ Err at
joined_bad front at len z within other is none =
    ap (joined front) (bad_first at len (drop at z) (omega (arith, length-drop at z)) (not_space at z within other) is none)

pub joined_more : (front : List Token) (at len : ℕ) (z : Bytes) (kind : TokenKind) → at < length z → (get_or z at 0 == 32) ≡ false → extent (drop at z) ≡ len → 0 < len → kind_of (take len (drop at z)) ≡ Some kind → joined (front ++ (token_from kind at len ∷ [])) (tokens_from 0 (at + len) (drop (at + len) z)) ≡ joined front (tokens_from 0 at (drop at z))
joined_more front at len z kind within other is moves found =
    let goes = token_first at len (drop at z) kind (omega (arith, length-drop at z)) (not_space at z within other) is moves found in
    joined-before front (token_from kind at len) _ ∙ ap (joined front) (rw (← drop-drop len at z) goes)

-- where a token was found, there are tokens or a bad place
pub joined_some : (front : List Token) (t : Token) (rest : Result (List Token) ℕ) → joined (front ++ (t ∷ [])) rest ≢ Ok []
joined_some [] t (Ok ts) none = absurd cc
joined_some (first ∷ front) t (Ok ts) none = absurd cc
joined_some front t (Err at) none = absurd cc
