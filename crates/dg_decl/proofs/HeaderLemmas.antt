-- The headers of component classes have the numbers of their classes, and where no rule on classes
-- is broken, no class is
-- its own ancestor.
use Rattle.std.proofs.Common.{◌≡◌, inl, inr, ℕ, zero, suc, ◌+◌, ◌-◌, ◌<◌, ◌≤◌, ◌==◌, Bool, true, false, cond, not, nat_lt, nat_eq, List, [], ◌∷◌, ◌++◌, length, map, Option, Some, None, option_map, option_and_then, option_to_list, slice_get, filter, flat_map, position, refl, sym, ap, ◌∙◌, arith}
use Rattle.std.specs.Option.{option_or}
use Rattle.std.specs.List.{list_any, position_or_len}
use Rattle.std.proofs.lemmas.Bool.{false≢true, true≢false, ltb-true, ltb-false, lt-ltb, le-ltb, eq-eqb, ne_eqb, cases_lt}
use Rattle.std.proofs.lemmas.Option.{slice_get_within, slice_get_past}
use Rattle.dg_hilt.specs.Table.{HiltRow, hilt_classes}
use Rattle.dg_decl.specs.declared.document.Doc.{Doc}
use Rattle.dg_decl.specs.declared.item.Item.{Item}
use Rattle.dg_decl.specs.Document.{Statement, statements, statements_from, open_behind}
use Rattle.dg_decl.specs.Components.{hilt_count, hilt_row, is_component, component_headers, class_count, number_of_header, header_of, HeadersHaveTheirNumbers, class_named, parent_in, parent_of, walk, ancestors, chain, is_own_ancestor}
use Rattle.dg_decl.specs.Stages.Components.{parent_cycle, ancestor_scope, duplicate_entry, bad_replace, components_at, components_stage, ChainsEndAtRoots}
use Rattle.dg_decl.proofs.NumberBounds.{none_is_not_some, same_value}
use Rattle.dg_decl.proofs.ChainLemmas.{chains_are_whole}

-- ---- the order of statements

-- the indices rise, and the first is at least this number
abbrev Rises : ℕ → List Statement → Type 0
Rises low [] = Unit {0}
Rises low (s ∷ ss) = (low ≤ s.index) × Rises (suc s.index) ss

rises_lower : (low high : ℕ) (ss : List Statement) → low ≤ high → Rises high ss → Rises low ss
rises_lower low high [] le rises = tt
rises_lower low high (s ∷ ss) le rises = (
  (let first : high ≤ s.index = rises.0
      in omega arith),
  rises.1,
)

rises_kept : (b : Bool) (low : ℕ) (s : Statement) (ss : List Statement) → low ≤ s.index
    → Rises (suc s.index) ss → Rises low (cond b (s ∷ ss) ss)
rises_kept true low s ss le rises = (le, rises)
rises_kept false low s ss le rises = rises_lower low (suc s.index) ss (omega arith) rises

rises_filter : (p : Statement → Bool) (low : ℕ) (ss : List Statement) → Rises low ss
    → Rises low (filter p ss)
rises_filter p low [] rises = tt
rises_filter p low (s ∷ ss) rises = rises_kept (p s) low s (filter p ss) rises.0 (rises_filter p
    (suc s.index) ss rises.1)

from_rises : (doc : Doc) (index : ℕ) (block : Option ℕ) (items : List Item)
    → Rises index (statements_from doc index block items)
from_rises doc index block [] = tt
from_rises doc index block (x ∷ xs) = (
  omega arith,
  from_rises doc (suc index)
      (open_behind block index x) xs,
)

headers_rise : (doc : Doc) → Rises 0 (component_headers doc)
unfolding statements
headers_rise doc = rises_filter (λ s. is_component s.item) 0 (statements doc)
    (from_rises doc 0 None doc.items)

at_least : (low : ℕ) (ss : List Statement) (k : ℕ) (s : Statement) → Rises low ss
    → slice_get ss k ≡ Some s → low ≤ s.index
at_least low [] k s rises e = absurd (none_is_not_some s e)
at_least low (t ∷ ts) zero s rises e =
    (let first : low ≤ t.index = rises.0 in let same : t.index ≡ s.index = ap (λ x. x.index)
    (same_value t s e) in omega arith)
at_least low (t ∷ ts) (suc k) s rises e =
    (let first : low ≤ t.index = rises.0 in let later : suc t.index ≤ s.index = at_least
    (suc t.index) ts k s rises.1 e in omega arith)

abbrev has_index : Statement → Statement → Bool
has_index s h = h.index == s.index

place_of : (low : ℕ) (ss : List Statement) (k : ℕ) (s : Statement) → Rises low ss
    → slice_get ss k ≡ Some s → position_or_len (has_index s) ss ≡ k
place_of low [] k s rises e = absurd (none_is_not_some s e)
place_of low (t ∷ ts) zero s rises e =
    (let same : (t.index == s.index) ≡ true = eq-eqb t.index s.index (ap (λ x. x.index)
    (same_value t s e)) in rw same refl)
place_of low (t ∷ ts) (suc k) s rises e =
    (let later : suc t.index ≤ s.index = at_least (suc t.index) ts k s rises.1 e in
    let other : (t.index == s.index) ≡ false = ne_eqb t.index s.index (λ same. absurd
    (omega arith)) in
    let rest : position_or_len (has_index s) ts ≡ k = place_of (suc t.index) ts k s rises.1 e in
    rw other (omega arith))

position_is : (ss : List Statement) (k : ℕ) (s : Statement) → Rises 0 ss → slice_get ss k ≡ Some s
    → position (has_index s) ss ≡ Some k
position_is ss k s rises e =
    (let place : position_or_len (has_index s) ss ≡ k = place_of 0 ss k s rises e in
    let within : nat_lt k (length ss) ≡ true = lt-ltb k (length ss) (slice_get_within ss k s e) in
    rw (place, within) refl)

-- ---- the number of a header

numbered_at : (doc : Doc) (c : ℕ) (h : Statement) (b : Bool) → nat_lt c hilt_count ≡ b
    → cond b None (slice_get (component_headers doc) (c - hilt_count)) ≡ Some h
    → number_of_header doc h ≡ Some c
numbered_at doc c h true lt e = absurd (none_is_not_some h e)
numbered_at doc c h false lt e =
    (let found = position_is (component_headers doc) (c - hilt_count) h (headers_rise doc) e in
    let past : hilt_count ≤ c = ltb-false c hilt_count lt in
    let sum : hilt_count + (c - hilt_count) ≡ c = omega arith in
    ap (option_map (λ place. hilt_count + place)) found ∙ ap Some sum)

pub headers_have_their_numbers : HeadersHaveTheirNumbers
unfolding header_of
headers_have_their_numbers doc c h e = numbered_at doc c h (nat_lt c hilt_count) refl e

-- ---- what an empty stage says of each header

abbrev is_cons : {A : Type 0} → List A → Bool
is_cons [] = false
is_cons (x ∷ xs) = true

cons_is_not_nil : {A : Type 0} (x : A) (xs : List A) → x ∷ xs ≡ [] → ⊥
cons_is_not_nil x xs e = false≢true (sym (ap is_cons e))

nil_parts : {A : Type 0} (xs ys : List A) → xs ++ ys ≡ [] → (xs ≡ []) × (ys ≡ [])
nil_parts [] ys e = (refl, e)
nil_parts (x ∷ xs) ys e = absurd (cons_is_not_nil x (xs ++ ys) e)

flat_nil : {A B : Type 0} (f : A → List B) (xs : List A) (k : ℕ) (x : A) → flat_map f xs ≡ []
    → slice_get xs k ≡ Some x → f x ≡ []
flat_nil f [] k x e at = absurd (none_is_not_some x at)
flat_nil f (y ∷ ys) zero x e at = ap f (sym (same_value y x at)) ∙ (nil_parts (f y)
    (flat_map f ys) e).0
flat_nil f (y ∷ ys) (suc k) x e at = flat_nil f ys k x (nil_parts (f y) (flat_map f ys) e).1 at

nil_kept : {A B : Type 0} (f : A → List B) (b : Bool) (x : A) (xs : List A) → f x ≡ []
    → flat_map f xs ≡ [] → flat_map f (cond b (x ∷ xs) xs) ≡ []
nil_kept f true x xs first rest = ap (λ ys. ys ++ flat_map f xs) first ∙ rest
nil_kept f false x xs first rest = rest

flat_nil_filter : {A B : Type 0} (f : A → List B) (p : A → Bool) (xs : List A)
    → flat_map f xs ≡ [] → flat_map f (filter p xs) ≡ []
flat_nil_filter f p [] e = refl
flat_nil_filter f p (y ∷ ys) e =
    let parts = nil_parts (f y) (flat_map f ys) e in
    nil_kept f (p y) y (filter p ys) parts.0 (flat_nil_filter f p ys parts.1)

-- no header breaks the rule on cycles
no_parent_cycle : (doc : Doc) (k : ℕ) (h : Statement) → components_stage doc ≡ []
    → slice_get (component_headers doc) k ≡ Some h → parent_cycle doc h ≡ []
unfolding components_stage
no_parent_cycle doc k h e at =
    let all = flat_nil_filter (components_at doc) (λ s. is_component s.item) (statements doc) e in
    let here = flat_nil (components_at doc) (component_headers doc) k h all at in
    let first = nil_parts (parent_cycle doc h ++ ancestor_scope doc h ++ duplicate_entry doc h)
    (bad_replace doc h) here in
    let second = nil_parts (parent_cycle doc h ++ ancestor_scope doc h)
    (duplicate_entry doc h) first.0 in
    (nil_parts (parent_cycle doc h) (ancestor_scope doc h) second.0).0

kept_one : {A B : Type 0} (f : A → B) (p : A → Bool) (b : Bool) (x : A) → p x ≡ b
    → map f (cond b (x ∷ []) []) ≡ [] → p x ≡ false
kept_one f p true x e nil = absurd (cons_is_not_nil (f x) [] nil)
kept_one f p false x e nil = e

not_own : (doc : Doc) (c : ℕ) (h : Statement) (o : Option ℕ) → o ≡ Some c
    → {B : Type 0} (f : ℕ → B) → map f (filter (is_own_ancestor doc) (option_to_list o)) ≡ []
    → is_own_ancestor doc c ≡ false
not_own doc c h None e f nil = absurd (none_is_not_some c e)
not_own doc c h (Some d) e f nil =
    ap (is_own_ancestor doc) (sym (same_value d c e)) ∙ kept_one f (is_own_ancestor doc)
    (is_own_ancestor doc d) d refl nil

headed_not_own : (doc : Doc) (c : ℕ) (h : Statement) → number_of_header doc h ≡ Some c
    → parent_cycle doc h ≡ [] → is_own_ancestor doc c ≡ false
unfolding parent_cycle
headed_not_own doc c h number nil = not_own doc c h (number_of_header doc h) number _ nil

-- ---- Hilt's classes

abbrev goes_down : ℕ → Option ℕ → Bool
goes_down bound None = true
goes_down bound (Some p) = nat_lt p bound

-- the parent of each of these has a smaller number than it
abbrev GoDown : ℕ → List HiltRow → Type 0
GoDown at [] = Unit {0}
GoDown at (row ∷ rows) = (goes_down at row.parent ≡ true) × GoDown (suc at) rows

hilt_goes_down : GoDown 0 hilt_classes
hilt_goes_down = (refl, (refl, (refl, (refl, (refl, (refl, (refl, (refl, tt))))))))

down_at : (bound : ℕ) (o : Option ℕ) (p : ℕ) → goes_down bound o ≡ true → o ≡ Some p → p < bound
down_at bound None p down e = absurd (none_is_not_some p e)
down_at bound (Some q) p down e =
    (let lt : q < bound = ltb-true q bound down in let same : q ≡ p = same_value q p e
    in omega arith)

down_in : (at : ℕ) (rows : List HiltRow) (c p : ℕ) → GoDown at rows
    → option_and_then (λ row. row.parent) (slice_get rows c) ≡ Some p → p < at + c
down_in at [] c p down e = absurd (none_is_not_some p e)
down_in at (row ∷ rows) zero p down e = (let lt : p < at = down_at at row.parent p down.0 e
    in omega arith)
down_in at (row ∷ rows) (suc c) p down e = (let lt : p < suc at + c = down_in
    (suc at) rows c p down.1 e in omega arith)

no_header : (doc : Doc) (c : ℕ) → c < hilt_count → header_of doc c ≡ None
unfolding header_of
no_header doc c lt = (let b : nat_lt c hilt_count ≡ true = lt-ltb c hilt_count lt in rw b refl)

none_then : {A B : Type 0} (f : A → Option B) (o : Option A) → o ≡ None → option_and_then f o ≡ None
none_then f None e = refl
none_then f (Some x) e = absurd (none_is_not_some x (sym e))

none_map : {A B : Type 0} (f : A → B) (o : Option A) → o ≡ None → option_map f o ≡ None
none_map f None e = refl
none_map f (Some x) e = absurd (none_is_not_some x (sym e))

or_none : {A : Type 0} (o p : Option A) → p ≡ None → option_or o p ≡ o
or_none None p e = e
or_none (Some x) p e = refl

-- a class without a header has no parent but that in Hilt's table
parent_in_table : (doc : Doc) (c : ℕ) → header_of doc c ≡ None
    → parent_of doc c ≡ option_and_then (λ row. row.parent) (hilt_row c)
unfolding parent_of
parent_in_table doc c e =
    or_none _ _ (none_then (class_named doc) _ (none_then parent_in _ (none_map (λ h. h.item)
    (header_of doc c) e)))

hilt_down : (doc : Doc) (c p : ℕ) → c < hilt_count → parent_of doc c ≡ Some p → p < c
hilt_down doc c p lt e =
    (let small : p < 0 + c = down_in 0 hilt_classes c p hilt_goes_down (sym (parent_in_table doc c
    (no_header doc c lt)) ∙ e) in omega arith)

walk_is_below : (doc : Doc) (c k : ℕ) (o : Option ℕ) → c < hilt_count
    → ((p : ℕ) → o ≡ Some p → p < c) → list_any (nat_eq c) (walk (parent_of doc) k o) ≡ false
walk_is_below doc c zero o lt small = refl
walk_is_below doc c (suc k) None lt small = refl
walk_is_below doc c (suc k) (Some p) lt small =
    (let less : p < c = small p refl in
    let other : nat_eq c p ≡ false = ne_eqb c p (λ same. absurd (omega arith)) in
    let rest : list_any (nat_eq c) (walk (parent_of doc) k (parent_of doc p))
    ≡ false = walk_is_below doc c k (parent_of doc p) lt (λ q e.
    (let lower : q < p = hilt_down doc p q (omega arith) e in omega arith)) in
    rw (other, rest) refl)

hilt_not_own : (doc : Doc) (c : ℕ) → c < hilt_count → is_own_ancestor doc c ≡ false
unfolding is_own_ancestor ancestors
hilt_not_own doc c lt =
    walk_is_below doc c (class_count doc) (parent_of doc c) lt (λ p e. hilt_down doc c p lt e)

-- ---- other classes

-- a number past Hilt's classes without a header has no ancestors
walk_of_none : (next : ℕ → Option ℕ) (k : ℕ) (o : Option ℕ) (c : ℕ) → o ≡ None
    → list_any (nat_eq c) (walk next k o) ≡ false
walk_of_none next zero o c e = refl
walk_of_none next (suc k) None c e = refl
walk_of_none next (suc k) (Some p) c e = absurd (none_is_not_some p (sym e))

past_not_own : (doc : Doc) (c : ℕ) → hilt_count ≤ c → header_of doc c ≡ None
    → is_own_ancestor doc c ≡ false
unfolding is_own_ancestor ancestors
past_not_own doc c le e =
    let past = slice_get_past hilt_classes c le in
    walk_of_none (parent_of doc) (class_count doc) (parent_of doc c) c
    (parent_in_table doc c e ∙ none_then (λ row. row.parent) (hilt_row c) past)

header_at : (doc : Doc) (c : ℕ) (h : Statement) → hilt_count ≤ c → header_of doc c ≡ Some h
    → slice_get (component_headers doc) (c - hilt_count) ≡ Some h
unfolding header_of
header_at doc c h le e = at_false (nat_lt c hilt_count) (le_not_lt) e
  where
    le_not_lt : nat_lt c hilt_count ≡ false
    le_not_lt = le-ltb c hilt_count le

    at_false : (b : Bool) → b ≡ false → cond b None (slice_get (component_headers doc)
        (c - hilt_count)) ≡ Some h → slice_get (component_headers doc) (c - hilt_count) ≡ Some h
    at_false true is_false e = absurd (true≢false is_false)
    at_false false is_false e = e

declared_not_own : (doc : Doc) (c : ℕ) (o : Option Statement) → components_stage doc ≡ []
    → hilt_count ≤ c → header_of doc c ≡ o → is_own_ancestor doc c ≡ false
declared_not_own doc c None stage le e = past_not_own doc c le e
declared_not_own doc c (Some h) stage le e =
    headed_not_own doc c h (headers_have_their_numbers doc c h e)
    (no_parent_cycle doc (c - hilt_count) h stage (header_at doc c h le e))

none_is_its_own_ancestor : (doc : Doc) → components_stage doc ≡ [] → (c : ℕ)
    → is_own_ancestor doc c ≡ false
none_is_its_own_ancestor doc stage c =
    elim (cases_lt c hilt_count) [
      | inl lt ↦ hilt_not_own doc c lt
      | inr le ↦ declared_not_own doc c (header_of doc c) stage le refl
    ]

none_of : (p : ℕ → Bool) (xs : List ℕ) → ((x : ℕ) → p x ≡ false) → list_any p xs ≡ false
none_of p [] none = refl
none_of p (x ∷ xs) none = rw (none x) (none_of p xs none)

pub chains_end_at_roots : ChainsEndAtRoots
chains_end_at_roots doc stage c =
    chains_are_whole doc c (ap not (none_of (is_own_ancestor doc) (chain doc c)
    (none_is_its_own_ancestor doc stage)))
