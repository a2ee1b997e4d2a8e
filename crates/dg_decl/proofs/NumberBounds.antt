-- Which numbers of items and of classes there can be.
use Rattle.std.proofs.Common.{◌≡◌, ℕ, zero, suc, ◌+◌, ◌<◌, ◌≤◌, Bool, true, false, cond, nat_lt, List, [], ◌∷◌, ◌++◌, length, get_or, Contains, Option, Some, None, option_and_then, option_to_list, is_some, filter, find, filter_map, position, refl, ap, arith}
use Rattle.std.specs.Option.{option_or}
use Rattle.std.specs.List.{cons_option, position_or_len}
use Rattle.std.proofs.lemmas.Bool.{false≢true, ltb-true}
use Rattle.dg_decl.specs.declared.document.Doc.{Doc}
use Rattle.dg_decl.specs.declared.item.Item.{Item}
use Rattle.dg_decl.specs.Document.{Statement, statements, statements_from, open_behind}

-- ---- options

pub none_is_not_some : {A : Type 0} (x : A) → None ≡ Some x → ⊥
none_is_not_some x e = false≢true (ap is_some e)

abbrev value_or : {A : Type 0} → A → Option A → A
value_or d None = d
value_or d (Some x) = x

pub same_value : {A : Type 0} (x y : A) → Some x ≡ Some y → x ≡ y
same_value x y e = ap (value_or x) e

-- ---- lists of small numbers

abbrev pub EachBelow : ℕ → List ℕ → Type 0
EachBelow bound [] = Unit {0}
EachBelow bound (x ∷ xs) = (x < bound) × EachBelow bound xs

-- where a function gives a number, it is small
abbrev pub GivesBelow : {A : Type 0} → ℕ → (A → Option ℕ) → Type 0
GivesBelow {A} bound f = (a : A) (n : ℕ) → f a ≡ Some n → n < bound

below_at : (bound : ℕ) (xs : List ℕ) (n k : ℕ) → EachBelow bound xs → k < length xs
    → get_or xs k n ≡ n → n < bound
below_at bound [] n k each lt e = absurd (omega arith)
below_at bound (x ∷ xs) n zero each lt e = (let small : x < bound = each.0 in let same : x ≡ n = e
    in omega arith)
below_at bound (x ∷ xs) n (suc k) each lt e = below_at bound xs n k each.1 (omega arith) e

pub below_of_each : (bound : ℕ) (xs : List ℕ) (n : ℕ) → EachBelow bound xs → Contains xs n
    → n < bound
below_of_each bound xs n each c = below_at bound xs n c.0 each c.1 c.2

cons_kept : (bound : ℕ) (b : Bool) (x : ℕ) (xs : List ℕ) → x < bound → EachBelow bound xs
    → EachBelow bound (cond b (x ∷ xs) xs)
cons_kept bound true x xs small each = (small, each)
cons_kept bound false x xs small each = each

pub each_filter : (bound : ℕ) (p : ℕ → Bool) (xs : List ℕ) → EachBelow bound xs
    → EachBelow bound (filter p xs)
each_filter bound p [] each = tt
each_filter bound p (x ∷ xs) each = cons_kept bound (p x) x (filter p xs) each.0
    (each_filter bound p xs each.1)

cons_given : (bound : ℕ) (o : Option ℕ) (xs : List ℕ) → ((n : ℕ) → o ≡ Some n → n < bound)
    → EachBelow bound xs → EachBelow bound (cons_option o xs)
cons_given bound None xs small each = each
cons_given bound (Some n) xs small each = (small n refl, each)

pub each_filter_map : {A : Type 0} (bound : ℕ) (f : A → Option ℕ) (xs : List A)
    → GivesBelow bound f → EachBelow bound (filter_map f xs)
each_filter_map bound f [] small = tt
each_filter_map bound f (x ∷ xs) small = cons_given bound (f x) (filter_map f xs) (small x)
    (each_filter_map bound f xs small)

pub each_append : (bound : ℕ) (xs ys : List ℕ) → EachBelow bound xs → EachBelow bound ys
    → EachBelow bound (xs ++ ys)
each_append bound [] ys each more = more
each_append bound (x ∷ xs) ys each more = (each.0, each_append bound xs ys each.1 more)

pub each_option : (bound : ℕ) (o : Option ℕ) → ((n : ℕ) → o ≡ Some n → n < bound)
    → EachBelow bound (option_to_list o)
each_option bound None small = tt
each_option bound (Some n) small = (small n refl, tt)

-- ---- functions that give small numbers

pub below_and_then : {A : Type 0} (bound : ℕ) (f : A → Option ℕ) (o : Option A)
    → ((a : A) → o ≡ Some a → (n : ℕ) → f a ≡ Some n → n < bound) → (n : ℕ)
    → option_and_then f o ≡ Some n → n < bound
below_and_then bound f None small n e = absurd (none_is_not_some n e)
below_and_then bound f (Some a) small n e = small a refl n e

pub below_or : (bound : ℕ) (o p : Option ℕ) → ((n : ℕ) → o ≡ Some n → n < bound)
    → ((n : ℕ) → p ≡ Some n → n < bound) → (n : ℕ) → option_or o p ≡ Some n → n < bound
below_or bound None p first second n e = second n e
below_or bound (Some m) p first second n e = first n e

position_at : (b : Bool) (k bound n : ℕ) → nat_lt k bound ≡ b → cond b (Some k) None ≡ Some n
    → n < bound
position_at true k bound n lt e = (let small : k < bound = ltb-true k bound lt in let same : k
    ≡ n = same_value k n e in omega arith)
position_at false k bound n lt e = absurd (none_is_not_some n e)

pub position_below : {A : Type 0} (p : A → Bool) (xs : List A) (n : ℕ) → position p xs ≡ Some n
    → n < length xs
position_below p xs n e = position_at (nat_lt (position_or_len p xs) (length xs))
    (position_or_len p xs) (length xs) n refl e

-- ---- indices of statements

abbrev pub EachIndexBelow : ℕ → List Statement → Type 0
EachIndexBelow bound [] = Unit {0}
EachIndexBelow bound (s ∷ ss) = (s.index < bound) × EachIndexBelow bound ss

from_below : (doc : Doc) (index : ℕ) (block : Option ℕ) (items : List Item) (bound : ℕ)
    → index + length items ≤ bound → EachIndexBelow bound (statements_from doc index block items)
from_below doc index block [] bound fits = tt
from_below doc index block (x ∷ xs) bound fits =
    (omega arith, from_below doc (suc index) (open_behind block index x) xs bound (omega arith))

pub statements_below : (doc : Doc) → EachIndexBelow (length doc.items) (statements doc)
unfolding statements
statements_below doc = from_below doc 0 None doc.items (length doc.items) (omega arith)

found_cond : (bound : ℕ) (b : Bool) (s t : Statement) (rest : Option Statement) → s.index < bound
    → (rest ≡ Some t → t.index < bound) → cond b (Some s) rest ≡ Some t → t.index < bound
found_cond bound true s t rest small later e =
    (let same : s.index ≡ t.index = ap (λ s. s.index) (same_value s t e) in omega arith)
found_cond bound false s t rest small later e = later e

pub found_below : (bound : ℕ) (p : Statement → Bool) (ss : List Statement)
    → EachIndexBelow bound ss → (s : Statement) → find p ss ≡ Some s → s.index < bound
found_below bound p [] each s e = absurd (none_is_not_some s e)
found_below bound p (t ∷ ts) each s e = found_cond bound (p t) t s (find p ts) each.0
    (found_below bound p ts each.1 s) e
