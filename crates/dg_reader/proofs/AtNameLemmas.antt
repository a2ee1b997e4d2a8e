-- At-names are read one after another, as a loop does.
use Rattle.std.proofs.Common.{◌≡◌, ℕ, suc, ◌+◌, ◌<◌, Bool, true, false, List, [], ◌∷◌, ◌++◌, length}
use Rattle.std.proofs.Common.{take, drop, map, Option, Some, None, Err, refl, sym, ap, ◌∙◌, arith}
use Rattle.std.proofs.lemmas.List.{append-nil}
use Rattle.std.specs.Prelude.{if◌then◌else◌}
use Rattle.std.specs.List.{prefix_len}
use Rattle.dg_lex.specs.Bytes.{Bytes}
use Rattle.dg_lex.specs.Lexemes.{Lexeme}
use Rattle.dg_lex.specs.declared.token.TokenKind.TheVariants as kind
use Rattle.dg_decl.specs.Readers.{at_name, at_names, comes_kind, is_of_kind, spelled, then_reads}
use Rattle.dg_decl.specs.Readers.{pure}
use Rattle.dg_reader.specs.declared.fault.FormFault.{FormFault}
use Rattle.dg_reader.specs.declared.fault.FormFault.TheVariants as fault
use Rattle.dg_reader.specs.Gives.{Gives}
use Rattle.dg_reader.proofs.ListLemmas.{ReadList, with_front, regroup}

abbrev is_at : Lexeme → Bool
is_at l = is_of_kind kind.AtName l

abbrev pair_of : Bytes → List Lexeme → Option (Bytes × List Lexeme)
pair_of x ls = Some (x, ls)

abbrev name_of : Option (Bytes × List Lexeme) → Bytes
name_of None = []
name_of (Some p) = p.0

abbrev left_of : Option (Bytes × List Lexeme) → List Lexeme
left_of None = []
left_of (Some p) = p.1

same_parts : (x y : Bytes) (ls left : List Lexeme) → pair_of x ls ≡ pair_of y left
    → (x ≡ y) × (ls ≡ left)
same_parts x y ls left same = (ap name_of same, ap left_of same)

-- an at-name in front
record IsFirst (ls : List Lexeme) (x : Bytes) (after : List Lexeme) : Type 0 where
  shorter : length after < length ls
  names : at_names ls ≡ with_front (x ∷ []) (at_names after)

first_read : (l : Lexeme) (ls : List Lexeme) → is_at l ≡ true
    → at_name (l ∷ ls) ≡ Some (drop 1 l.spelling, ls)
unfolding at_name spelled
first_read l ls is = rw is refl

names_from : (l : Lexeme) (ls : List Lexeme) → is_at l ≡ true
    → at_names (l ∷ ls) ≡ with_front (drop 1 l.spelling ∷ []) (at_names ls)
unfolding at_names
names_from l ls is =
    let one : 1 + prefix_len is_at ls ≡ suc (prefix_len is_at ls) = omega arith in
    rw (is, one) refl

first : (ls : List Lexeme) (x : Bytes) (after : List Lexeme) → comes_kind kind.AtName ls ≡ true
    → at_name ls ≡ Some (x, after) → IsFirst ls x after
unfolding comes_kind
first [] x after is read = absurd cc
first (l ∷ ls) x after is read =
    let found = first_read l ls is in
    let parts = same_parts (drop 1 l.spelling) x ls after (sym found ∙ read) in
    let name = parts.0 in
    let left = parts.1 in
    record { shorter = rw (← left) (omega arith); names = rw (← left, ← name) (names_from l ls is) }

some_none : (p : Bytes × List Lexeme) → Some p ≡ None → ⊥
some_none p same = cc

never_missing : (ls : List Lexeme) → comes_kind kind.AtName ls ≡ true → at_name ls ≡ None → ⊥
unfolding comes_kind
never_missing [] is none = cc
never_missing (l ∷ ls) is none = some_none (drop 1 l.spelling, ls) (sym (first_read l ls is) ∙ none)

none_left : (ls : List Lexeme) → comes_kind kind.AtName ls ≡ false → at_names ls ≡ Some ([], ls)
unfolding comes_kind at_names
none_left [] is = refl
none_left (l ∷ ls) is = rw is refl

pub names_shorter : (ls : List Lexeme) (x : Bytes) (after : List Lexeme)
    → comes_kind kind.AtName ls ≡ true → at_name ls ≡ Some (x, after) → length after < length ls
names_shorter ls x after is read = (first ls x after is read).shorter

pub names_go_on : (found : List Bytes) (ls : List Lexeme) (x : Bytes) (after : List Lexeme) (total :
    ReadList Bytes) → comes_kind kind.AtName ls ≡ true → at_name ls ≡ Some (x, after)
    → with_front found (at_names ls) ≡ total → with_front (found ++ x ∷ []) (at_names after) ≡ total
names_go_on found ls x after total is read so_far =
    sym (ap (with_front found) (first ls x after is read).names ∙ regroup found x (at_names after))
    ∙ so_far

pub names_fail : (found : List Bytes) (ls left new : List Lexeme) (e : FormFault) (total : ReadList
    Bytes) → comes_kind kind.AtName ls ≡ true → Gives (at_name ls) (Err e) left
    → Gives total (Err e) new
names_fail found ls left new fault.NoMemory total is refused = tt
names_fail found ls left new fault.NoForm total is refused = absurd (never_missing ls is refused)

pub names_end : (found : List Bytes) (ls : List Lexeme) (total : ReadList Bytes)
    → comes_kind kind.AtName ls ≡ false → with_front found (at_names ls) ≡ total
    → total ≡ Some (found, ls)
names_end found ls total is so_far = sym so_far ∙ (rw (none_left ls is) (ap
    (λ (xs : List Bytes). Some (xs, ls)) (append-nil found)))
