-- A set of pairs, as a list of pairs.
use Rattle.std.proofs.Common.{◌≡◌, ℕ, ◌==◌, Bool, true, false, cond, not, ◌&&◌, ◌||◌, List, [], ◌∷◌, ◌++◌, map, refl, sym, ap, ◌∙◌}
use Rattle.std.specs.List.{list_any}
use Rattle.std.specs.Str.{bytes_eq}
use Rattle.std.proofs.lemmas.Bool.{false≢true, eqb-true}
use Rattle.std.proofs.lemmas.List.{map-append}
use Rattle.std.proofs.lemmas.List.Folds.{list_any-append}
use Rattle.std.specs.Cmp.Lexicographic.{bytes_decides}
use Rattle.indexmap.specs.IndexSet.{insert_key}
use Rattle.dg_lex.specs.Bytes.{Bytes}
use Rattle.dg_compdep.specs.declared.named.Pair.{Pair}
use Rattle.dg_compdep.specs.contracts.named.PairPartialEq.TheImpl as block
use Rattle.dg_compdep.specs.Dependencies.{is_pair, has_pair}

abbrev pub rows : List Pair → List (ℕ × Bytes)
rows keys = map (λ p. (p.class, p.name)) keys

abbrev pub same_pair : Pair → Pair → Bool
same_pair = block.ghosts.eq

pub has_rows : (k : Pair) (keys : List Pair)
    → list_any (same_pair k) keys ≡ has_pair (rows keys) k.class k.name
has_rows k [] = refl
has_rows k (p ∷ ps) = ap (λ b. same_pair k p || b) (has_rows k ps)

and_first : (a b : Bool) → (a && b) ≡ true → a ≡ true
and_first true b e = refl
and_first false b e = e

and_second : (a b : Bool) → (a && b) ≡ true → b ≡ true
and_second true b e = e
and_second false b e = absurd (false≢true e)

-- what passes the test of a pair is this pair
had_already : (ks : List (ℕ × Bytes)) (class c : ℕ) (name n : Bytes) → has_pair ks class name ≡ true
    → is_pair c n (class, name) ≡ true → has_pair ks c n ≡ true
had_already ks class c name n had passes =
    let same : c ≡ class = eqb-true c class (and_first (c == class) (bytes_eq n name) passes) in
    let named : n ≡ name = (bytes_decides n name).0 (and_second (c == class) (bytes_eq n name)
    passes) in
    ap (λ x. has_pair ks x n) same ∙ ap (has_pair ks class) named ∙ had

or_self : (a b : Bool) → (b ≡ true → a ≡ true) → a ≡ (a || (b || false))
or_self true b given = refl
or_self false true given = given refl
or_self false false given = refl

noted_by : (v : Pair) (keys : List Pair) (c : ℕ) (n : Bytes) (had : Bool)
    → list_any (same_pair v) keys ≡ had
    → has_pair (rows (cond had keys (keys ++ v ∷ []))) c n
    ≡ (has_pair (rows keys) c n || (is_pair c n (v.class, v.name) || false))
noted_by v keys c n true had =
    or_self (has_pair (rows keys) c n) (is_pair c n (v.class, v.name))
    (had_already (rows keys) v.class c v.name n (sym (has_rows v keys) ∙ had))
noted_by v keys c n false had =
    ap (λ (ps : List (ℕ × Bytes)). has_pair ps c n) (map-append (λ (p : Pair). (p.class, p.name))
    keys (v ∷ []))
    ∙ list_any-append (is_pair c n) (rows keys) ((v.class, v.name) ∷ [])

-- the list once a pair is put into the set
pub noted : (v : Pair) (old new : List Pair) (class : ℕ) (name : Bytes) (before : List (ℕ × Bytes))
    → new ≡ insert_key same_pair old v → v.class ≡ class → v.name ≡ name → rows old ≡ before
    → (c : ℕ) (n : Bytes) → has_pair (rows new) c n
    ≡ (has_pair before c n || has_pair ((class, name) ∷ []) c n)
noted v old new class name before is of_class of_name seen c n =
    ap (λ (ks : List Pair). has_pair (rows ks) c n) is
    ∙ noted_by v old c n (list_any (same_pair v) old) refl
    ∙ ap (λ (ps : List (ℕ × Bytes)). has_pair ps c n || (is_pair c n (v.class, v.name) || false))
    seen
    ∙ ap (λ x. has_pair before c n || (is_pair c n (x, v.name) || false)) of_class
    ∙ ap (λ (x : Bytes). has_pair before c n || (is_pair c n (class, x) || false)) of_name

pub has : (v : Pair) (keys : List Pair) (class : ℕ) (name : Bytes) (before : List (ℕ × Bytes))
    → v.class ≡ class → v.name ≡ name → rows keys ≡ before
    → list_any (same_pair v) keys ≡ has_pair before class name
has v keys class name before of_class of_name seen =
    has_rows v keys ∙ ap (λ (ps : List (ℕ × Bytes)). has_pair ps v.class v.name) seen
    ∙ ap (λ x. has_pair before x v.name) of_class ∙ ap (has_pair before class) of_name

pub not_not : (a b : Bool) → a ≡ not b → not a ≡ b
not_not a true e = ap not e
not_not a false e = ap not e
