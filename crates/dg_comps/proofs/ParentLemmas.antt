-- The ancestors of classes, by a table of parents.
use Rattle.std.proofs.Common.{◌≡◌, inl, inr, ℕ, zero, suc, ◌+◌, ◌<◌, ◌≤◌, Bool, true, false, ◌||◌, ◌&&◌, not, nat_eq, List, [], ◌∷◌, ◌++◌, length, get_or, map, All, Option, Some, None, IfSome, slice_index, refl, sym, ap, subst, ◌∙◌, arith}
use Rattle.std.specs.List.{list_any, range_with_len}
use Rattle.std.proofs.lemmas.Bool.{false≢true, cases_lt, eq-eqb, ne_eqb}
use Rattle.std.proofs.lemmas.Option.{none-some, same_Some}
use Rattle.std.proofs.Math.ListN.{get_or-append}
use Rattle.std.proofs.Math.Seq.{get_or-append_seam}
use Rattle.std.proofs.lemmas.List.{length-append}
use Rattle.std.proofs.lemmas.List.FromFn.{length-map-range_with_len, get_or-map-range_with_len}
use Rattle.dg_decl.specs.declared.document.Doc.{Doc}
use Rattle.dg_decl.specs.Components.{class_count, parent_of, walk, ancestors, chain, is_own_ancestor, has_root}
use Rattle.dg_decl.proofs.ComponentLemmas.{parent_below}
use Rattle.dg_decl.proofs.NumberBounds.{EachBelow}
use Rattle.dg_comps.specs.ClassSets.{has, IsSetOf}
use Rattle.dg_comps.specs.Tables.{parents_by_class, parent_at, is_above, is_ancestor, KnowsAncestors, KnowsCyclic}
use Rattle.dg_comps.proofs.SetLemmas.{none_has}

-- ---- the loop over a table of parents

-- what the loop knows: the classes of the set, and those of the walk that is left, are all
pub record Walked (parents : List (Option ℕ)) (class counter set : ℕ)
    (next : Option ℕ) : Type 0 where
  pub rest : ℕ
  pub steps : counter + rest ≡ length parents
  pub within : IfSome next (λ p. p < length parents)
  pub covers : (c : ℕ) → (has set c || list_any (nat_eq c) (walk (parent_at parents) rest next))
      ≡ is_above parents class c

abbrev pub AllWithinTable : List (Option ℕ) → Type 0
AllWithinTable parents = All (λ parent. IfSome parent (λ p. p < length parents)) parents

pub walk_begins : (parents : List (Option ℕ)) (class : ℕ) → class < length parents
    → AllWithinTable parents → Walked parents class 0 0 (parent_at parents class)
walk_begins parents class lt all =
    record {
      rest = length parents;
      steps = omega arith;
      within = all class None lt;
      covers = λ c. ap (λ b. b || is_above parents class c) (none_has c);
    }

moved : (a b c : Bool) → ((a || b) || c) ≡ (b || (a || c))
moved true true c = refl
moved true false c = refl
moved false true c = refl
moved false false c = refl

pub walk_steps : (parents : List (Option ℕ)) (class counter set more p : ℕ) (next : Option ℕ)
    → Walked parents class counter set next → next ≡ Some p → counter < length parents
    → AllWithinTable parents → ((o : ℕ) → has more o ≡ (nat_eq o p || has set o))
    → Walked parents class (counter + 1) more (parent_at parents p)
walk_steps parents class counter set more p None w is lt all adds = absurd (none-some p is)
walk_steps parents class counter set more p (Some q) w is lt all adds =
    from w.rest w.steps w.covers (sym (same_Some q p is))
  where
    from : (rest : ℕ) → counter + rest ≡ length parents
        → ((c : ℕ) → (has set c || list_any (nat_eq c) (walk (parent_at parents) rest (Some q)))
        ≡ is_above parents class c) → p ≡ q
        → Walked parents class (counter + 1) more (parent_at parents p)
    from zero steps covers same = absurd (omega arith)
    from (suc r) steps covers same =
        let few : q < length parents = w.within in
        let small : p < length parents = omega arith in
        record {
          rest = r;
          steps = omega arith;
          within = all p None small;
          covers = λ c. ap (λ b. b || list_any (nat_eq c) (walk (parent_at parents) r
              (parent_at parents p))) (adds c)
              ∙ moved (nat_eq c p) (has set c) (list_any (nat_eq c) (walk (parent_at parents) r
              (parent_at parents p)))
              ∙ ap (λ n. has set c || list_any (nat_eq c) (walk (parent_at parents) (suc r)
              (Some n)))
              same ∙ covers c;
        }

or_nothing : (b : Bool) → (b || false) ≡ b
or_nothing true = refl
or_nothing false = refl

nothing_left : (next : ℕ → Option ℕ) (rest c : ℕ) → list_any (nat_eq c) (walk next rest None)
    ≡ false
nothing_left next zero c = refl
nothing_left next (suc r) c = refl

pub walk_stops : (parents : List (Option ℕ)) (class counter set : ℕ) (next : Option ℕ)
    → Walked parents class counter set next → next ≡ None → IsSetOf (is_above parents class) set
walk_stops parents class counter set (Some p) w is c = absurd (none-some p (sym is))
walk_stops parents class counter set None w is c =
    sym (or_nothing (has set c))
    ∙ ap (λ b. has set c || b) (sym (nothing_left (parent_at parents) w.rest c)) ∙ w.covers c

pub walk_ends : (parents : List (Option ℕ)) (class counter set : ℕ) (next : Option ℕ)
    → Walked parents class counter set next → length parents ≤ counter
    → IsSetOf (is_above parents class) set
walk_ends parents class counter set next w all = from w.rest w.steps w.covers
  where
    from : (rest : ℕ) → counter + rest ≡ length parents
        → ((c : ℕ) → (has set c || list_any (nat_eq c) (walk (parent_at parents) rest next))
        ≡ is_above parents class c) → IsSetOf (is_above parents class) set
    from zero steps covers = λ c. sym (or_nothing (has set c)) ∙ covers c
    from (suc r) steps covers = absurd (omega arith)

-- ---- the table of a document

pub table_length : (doc : Doc) → length (parents_by_class doc) ≡ class_count doc
table_length doc = length-map-range_with_len (parent_of doc) 0 (class_count doc)

pub table_at : (doc : Doc) (class : ℕ) → class < class_count doc
    → parent_at (parents_by_class doc) class ≡ parent_of doc class
table_at doc class lt =
    get_or-map-range_with_len (parent_of doc) 0 (class_count doc) class class None lt (omega arith)

small_parent : (doc : Doc) (class : ℕ) (o : Option ℕ) → parent_of doc class ≡ o
    → IfSome o (λ p. p < class_count doc)
small_parent doc class None e = tt
small_parent doc class (Some p) e = parent_below doc class p e

pub table_within : (doc : Doc) → AllWithinTable (parents_by_class doc)
table_within doc k d lt =
    let len = table_length doc in
    let small : k < class_count doc = omega arith in
    let at : get_or (parents_by_class doc) k d ≡ parent_of doc k = get_or-map-range_with_len
    (parent_of doc) 0 (class_count doc) k k d small (omega arith) in
    let P : Option ℕ → Type 0 = λ o. IfSome o (λ p. p < length (parents_by_class doc)) in
    let Q : ℕ → Type 0 = λ n. IfSome (parent_of doc k) (λ p. p < n) in
    subst P (sym at) (subst Q (sym len) (small_parent doc k (parent_of doc k) refl))

-- walks by two functions that agree below a bound
same_walk : (f g : ℕ → Option ℕ) (bound : ℕ) → ((c : ℕ) → c < bound → f c ≡ g c)
    → ((c p : ℕ) → g c ≡ Some p → p < bound) → (k : ℕ) (o : Option ℕ)
    → ((p : ℕ) → o ≡ Some p → p < bound) → walk f k o ≡ walk g k o
same_walk f g bound agree small zero o low = refl
same_walk f g bound agree small (suc k) None low = refl
same_walk f g bound agree small (suc k) (Some p) low =
    ap (λ o. p ∷ walk f k o) (agree p (low p refl))
    ∙ ap (λ (ws : List ℕ). p ∷ ws) (same_walk f g bound agree small k (g p) (λ q e. small p q e))

pub table_walks : (doc : Doc) (class other : ℕ) → class < class_count doc
    → is_above (parents_by_class doc) class other ≡ is_ancestor doc class other
unfolding ancestors
table_walks doc class other lt =
    ap (λ k. list_any (nat_eq other) (walk (parent_at (parents_by_class doc)) k
    (parent_at (parents_by_class doc) class))) (table_length doc)
    ∙ ap (λ o. list_any (nat_eq other) (walk (parent_at (parents_by_class doc))
    (class_count doc) o))
    (table_at doc class lt)
    ∙ ap (list_any (nat_eq other)) (same_walk (parent_at (parents_by_class doc)) (parent_of doc)
    (class_count doc) (λ c small. table_at doc c small) (λ c p e. parent_below doc c p e)
    (class_count doc) (parent_of doc class) (λ p e. parent_below doc class p e))

-- a set by the table is a set of ancestors
pub set_by_table : (doc : Doc) (parents : List (Option ℕ)) (class set : ℕ)
    → parents ≡ parents_by_class doc → class < class_count doc
    → IsSetOf (is_above parents class) set → IsSetOf (is_ancestor doc class) set
set_by_table doc parents class set same lt is c =
    is c ∙ ap (λ ps. is_above ps class c) same ∙ table_walks doc class c lt

-- ---- ancestors are classes

walk_below : (doc : Doc) (k : ℕ) (o : Option ℕ) → ((p : ℕ) → o ≡ Some p → p < class_count doc)
    → EachBelow (class_count doc) (walk (parent_of doc) k o)
walk_below doc zero o low = tt
walk_below doc (suc k) None low = tt
walk_below doc (suc k) (Some p) low =
    (low p refl, walk_below doc k (parent_of doc p) (λ q e. parent_below doc p q e))

pub ancestors_below : (doc : Doc) (class : ℕ) → EachBelow (class_count doc) (ancestors doc class)
unfolding ancestors
ancestors_below doc class =
    walk_below doc (class_count doc) (parent_of doc class) (λ p e. parent_below doc class p e)

pub chain_below : (doc : Doc) (class : ℕ) → class < class_count doc
    → EachBelow (class_count doc) (chain doc class)
unfolding chain
chain_below doc class lt = (lt, ancestors_below doc class)

-- tests that agree on some numbers
pub any_same : (p q : ℕ → Bool) (bound : ℕ) (xs : List ℕ) → EachBelow bound xs
    → ((x : ℕ) → x < bound → p x ≡ q x) → list_any p xs ≡ list_any q xs
any_same p q bound [] below same = refl
any_same p q bound (x ∷ xs) below same =
    ap (λ b. b || list_any p xs) (same x below.0)
    ∙ ap (λ b. q x || b) (any_same p q bound xs below.1 same)

-- ---- cycles

pub cyclic_by_sets : (doc : Doc) (sets : List ℕ) (cyclic : ℕ) → KnowsAncestors doc sets
    → ((class : ℕ) → class < length sets → has cyclic class ≡ has (slice_index sets class) class)
    → KnowsCyclic doc cyclic
unfolding is_own_ancestor
cyclic_by_sets doc sets cyclic knows each class lt =
    let len = knows.len in
    let within : class < length sets = omega arith in
    each class within ∙ knows.each class lt class

pub rooted : (doc : Doc) (sets : List ℕ) (cyclic class with_class : ℕ) (r : Bool)
    → KnowsAncestors doc sets → KnowsCyclic doc cyclic → class < length sets
    → ((o : ℕ) → has with_class o ≡ (nat_eq o class || has (slice_index sets class) o))
    → ((classes : List ℕ) → IsSetOf (λ c. list_any (nat_eq c) classes) with_class
    → r ≡ list_any (has cyclic) classes) → not r ≡ has_root doc class
unfolding chain
rooted doc sets cyclic class with_class r knows cycles within adds meets =
    let len = knows.len in
    let lt : class < class_count doc = omega arith in
    let in_chain : IsSetOf (λ c. list_any (nat_eq c) (chain doc class)) with_class = λ c. adds c
    ∙ ap (λ b. nat_eq c class || b) (knows.each class lt c) in
    ap not (meets (chain doc class) in_chain
    ∙ any_same (has cyclic) (is_own_ancestor doc) (class_count doc) (chain doc class)
    (chain_below doc class lt) cycles)

-- ---- the sets of all classes

-- the classes below a number have the sets of their ancestors
pub record KnowsBelow (doc : Doc) (count : ℕ) (sets : List ℕ) : Type 0 where
  pub len : length sets ≡ count
  pub each : (k : ℕ) → k < count → IsSetOf (is_ancestor doc k) (slice_index sets k)

pub one_more_set : (doc : Doc) (sets more : List ℕ) (class set : ℕ) → KnowsBelow doc class sets
    → more ≡ sets ++ set ∷ [] → IsSetOf (is_ancestor doc class) set
    → KnowsBelow doc (class + 1) more
one_more_set doc sets more class set knows e is =
    let len = knows.len in
    record {
      len = ap length e ∙ length-append sets (set ∷ []) ∙ omega arith;
      each = λ k lt o. elim (cases_lt k class) [
        | inl below ↦ (let within : k < length sets = omega arith in
            ap (λ xs. has (slice_index xs k) o) e
            ∙ ap (λ n. has n o) (get_or-append sets (set ∷ []) 0 k within)
            ∙ knows.each k below o)
        | inr high ↦ (let here : k ≡ length sets = omega arith in
            let same : k ≡ class = omega arith in
            ap (λ xs. has (slice_index xs k) o) e
            ∙ ap (λ n. has (slice_index (sets ++ set ∷ []) n) o) here
            ∙ ap (λ n. has n o) (get_or-append_seam sets set [] 0)
            ∙ is o ∙ ap (λ n. is_ancestor doc n o) (sym same))
      ];
    }

pub knows_all : (doc : Doc) (sets : List ℕ) (class : ℕ) → KnowsBelow doc class sets
    → class ≡ class_count doc → KnowsAncestors doc sets
knows_all doc sets class knows e = record {
  len = knows.len ∙ e;
  each = λ k lt. knows.each k (omega arith);
}

-- ---- classes that are their own ancestors

-- whether each class below a number is in its own set
pub record KnowsOwn (sets : List ℕ) (count cyclic : ℕ) : Type 0 where
  pub each : (k : ℕ) → k < count → has cyclic k ≡ has (slice_index sets k) k
  pub others : (k : ℕ) → count ≤ k → has cyclic k ≡ false

pub own_begins : (sets : List ℕ) → KnowsOwn sets 0 0
own_begins sets = record { each = λ k lt. absurd (omega arith); others = λ k le. none_has k }

pub own_then : (h n s r : Bool) → s ≡ true → r ≡ (n || h) → r ≡ (h || (n && s))
own_then true true true r e is = is
own_then true false true r e is = is
own_then false true true r e is = is
own_then false false true r e is = is
own_then true true false r e is = is
own_then true false false r e is = is
own_then false true false r e is = absurd (false≢true e)
own_then false false false r e is = is

pub own_else : (h n s : Bool) → s ≡ false → h ≡ (h || (n && s))
own_else true n s e = refl
own_else false true s e = sym e
own_else false false s e = refl

apart_from : (a b c d : Bool) → b ≡ false → a ≡ (c || (b && d)) → a ≡ c
apart_from a true c d e is = absurd (false≢true (sym e))
apart_from a false true d e is = is
apart_from a false false d e is = is

at_it : (a b c d : Bool) → b ≡ true → c ≡ false → a ≡ (c || (b && d)) → a ≡ d
at_it a true true d e none is = absurd (false≢true (sym none))
at_it a true false d e none is = is
at_it a false c d e none is = absurd (false≢true e)

pub own_steps : (sets : List ℕ) (class cyclic set more : ℕ) → KnowsOwn sets class cyclic
    → set ≡ slice_index sets class
    → ((o : ℕ) → has more o ≡ (has cyclic o || (nat_eq o class && has set class)))
    → KnowsOwn sets (class + 1) more
own_steps sets class cyclic set more knows at adds = record {
  each = λ k lt. elim (cases_lt k class) [
    | inl below ↦ (let apart : nat_eq k class
        ≡ false = ne_eqb k class (λ e. absurd (omega arith)) in
        apart_from (has more k) (nat_eq k class) (has cyclic k) (has set class) apart (adds k)
        ∙ knows.each k below)
    | inr high ↦ (let same : k ≡ class = omega arith in
        at_it (has more k) (nat_eq k class) (has cyclic k) (has set class) (eq-eqb k class same)
        (knows.others k high) (adds k)
        ∙ ap (λ n. has n class) at ∙ ap (λ n. has (slice_index sets n) n) (sym same))
  ];
  others = λ k le. (let apart : nat_eq k class
      ≡ false = ne_eqb k class (λ e. absurd (omega arith)) in
      apart_from (has more k) (nat_eq k class) (has cyclic k) (has set class) apart (adds k)
      ∙ knows.others k (omega arith));
}
