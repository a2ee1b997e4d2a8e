-- The map keys that came again are those that stand more than once.
use Rattle.std.proofs.Common.{◌≡◌, ℕ, zero, suc, ◌+◌, ◌<◌, Bool, true, false, cond, not, ◌&&◌, ◌||◌, nat_lt, List, [], ◌∷◌, ◌++◌, map, fold, filter, filter_map, flat_map, Option, Some, None, if◌then◌else◌, refl, sym, ap, ◌∙◌, arith, append-nil, append_assoc, zero-add}
use Rattle.std.specs.List.{list_any, count_by, cons_option}
use Rattle.std.proofs.lemmas.Bool.{false≢true, true≢false, lt-ltb, le-ltb}
use Rattle.std.proofs.lemmas.List.Sums.{sum_by-cons}
use Rattle.std.proofs.lemmas.List.Folds.{list_any-append}
use Rattle.indexmap.specs.IndexSet.{insert_key}
use Rattle.dg_types.specs.declared.key.Key.{Key}
use Rattle.dg_types.specs.declared.key.MapKeyVal.{MapKeyVal}
use Rattle.dg_types.specs.Equality.{same_map_key}
use Rattle.dg_types.proofs.EqualityLemmas.{map_key_decides}
use Rattle.dg_types.specs.Texts.{map_key_text}
use Rattle.dg_decl.specs.declared.document.Doc.{Doc}
use Rattle.dg_decl.specs.declared.graph.Node.{Node}
use Rattle.dg_decl.specs.declared.graph.NodeKind.TheVariants as node
use Rattle.dg_decl.specs.declared.violation.Rule.TheVariants as rule
use Rattle.dg_decl.specs.Graph.{Dependency, contribution_of, deps}
use Rattle.dg_decl.specs.Lookup.{contributions}
use Rattle.dg_decl.specs.Stages.Bindings.{at_node, map_keys_of, repeated}
use Rattle.dg_rules.specs.MapKeys.{key_of_found, Seen, seen_of, seen_with, seen_some, where_again, keys_found, broken_keys}
use Rattle.dg_rules.proofs.ListLemmas.{filtered}

-- ---- equality of map keys as a test

same_as : (x y : MapKeyVal) → same_map_key x y ≡ true → x ≡ y
same_as x y h = (map_key_decides x y).0 h

itself : (x : MapKeyVal) → same_map_key x x ≡ true
itself x = (map_key_decides x x).1 refl

turned : (x y : MapKeyVal) → same_map_key x y ≡ same_map_key y x
turned x y = by (same_map_key x y) (same_map_key y x) refl refl
  where
    by : (a b : Bool) → same_map_key x y ≡ a → same_map_key y x ≡ b
        → same_map_key x y ≡ same_map_key y x
    by true true p q = p ∙ sym q
    by false false p q = p ∙ sym q
    by true false p q =
        absurd (true≢false (sym (itself y) ∙ ap (λ z. same_map_key y z) (sym (same_as x y p)) ∙ q))
    by false true p q =
        absurd (true≢false (sym (itself x) ∙ ap (λ z. same_map_key x z) (sym (same_as y x q)) ∙ p))

-- equal keys are among the same
alike : (x y : MapKeyVal) (ks : List MapKeyVal) → same_map_key x y ≡ true
    → list_any (same_map_key x) ks ≡ list_any (same_map_key y) ks
alike x y ks h = ap (λ z. list_any (same_map_key z) ks) (same_as x y h)

or_none : (a : Bool) → (a || false) ≡ a
or_none true = refl
or_none false = refl

or_one : (a b : Bool) → b ≡ true → (a || b) ≡ true
or_one true b e = refl
or_one false b e = e

-- whether a key is there, once another is
any_insert : (k x : MapKeyVal) (ks : List MapKeyVal)
    → list_any (same_map_key k) (insert_key same_map_key ks x)
    ≡ (list_any (same_map_key k) ks || same_map_key k x)
any_insert k x ks = by (list_any (same_map_key x) ks) (same_map_key k x) refl refl
  where
    by : (b c : Bool) → list_any (same_map_key x) ks ≡ b → same_map_key k x ≡ c
        → list_any (same_map_key k) (if b then ks else ks ++ x ∷ [])
        ≡ (list_any (same_map_key k) ks || c)
    by true true there same =
        alike k x ks same ∙ there ∙ sym (or_one (list_any (same_map_key k) ks) true refl)
    by true false there same = sym (or_none (list_any (same_map_key k) ks))
    by false c there same =
        list_any-append (same_map_key k) ks (x ∷ [])
        ∙ ap (λ t. list_any (same_map_key k) ks || t) (or_none (same_map_key k x) ∙ same)

-- ---- counts

-- the keys so far stand this often
record Counted (s : Seen) (n : MapKeyVal → ℕ) : Type 0 where
  once : (k : MapKeyVal) → list_any (same_map_key k) s.once ≡ nat_lt 0 (n k)
  again : (k : MapKeyVal) → list_any (same_map_key k) s.again ≡ nat_lt 1 (n k)

abbrev one_if : Bool → ℕ
one_if b = cond b 1 0

counted_as : (s : Seen) (n m : MapKeyVal → ℕ) → ((k : MapKeyVal) → n k ≡ m k) → Counted s n
    → Counted s m
counted_as s n m same c = record {
  once = λ k. c.once k ∙ ap (nat_lt 0) (same k);
  again = λ k. c.again k ∙ ap (nat_lt 1) (same k);
}

once_more : (n : ℕ) (b : Bool) → (nat_lt 0 n || b) ≡ nat_lt 0 (n + one_if b)
once_more n true = or_one (nat_lt 0 n) true refl ∙ sym (lt-ltb 0 (n + 1) (omega arith))
once_more n false = or_none (nat_lt 0 n) ∙ ap (nat_lt 0) (omega arith)

none_yet : (n : ℕ) → false ≡ nat_lt 0 n → n ≡ 0
none_yet zero e = refl
none_yet (suc n) e = absurd (false≢true (e ∙ lt-ltb 0 (suc n) (omega arith)))

some_yet : (n : ℕ) → true ≡ nat_lt 0 n → 0 < n
some_yet zero e = absurd (true≢false e)
some_yet (suc n) e = omega arith

again_more : (s : Seen) (n : MapKeyVal → ℕ) (x k : MapKeyVal) → Counted s n
    → list_any (same_map_key k) (seen_with s x).again
    ≡ nat_lt 1 (n k + one_if (same_map_key k x))
again_more s n x k c = by (list_any (same_map_key x) s.once) (same_map_key k x) refl refl
  where
    by : (b d : Bool) → list_any (same_map_key x) s.once ≡ b → same_map_key k x ≡ d
        → list_any (same_map_key k) (if b then insert_key same_map_key s.again x else s.again)
        ≡ nat_lt 1 (n k + one_if d)
    by true true there same =
        let some : 0 < n k = some_yet (n k) (sym there ∙ sym (alike k x s.once same) ∙ c.once k) in
        any_insert k x s.again ∙ or_one (list_any (same_map_key k) s.again) (same_map_key k x) same
        ∙ sym (lt-ltb 1 (n k + 1) (omega arith))
    by true false there same =
        any_insert k x s.again ∙ ap (λ t. list_any (same_map_key k) s.again || t) same
        ∙ or_none (list_any (same_map_key k) s.again) ∙ c.again k ∙ ap (nat_lt 1) (omega arith)
    by false true there same =
        let none : n k ≡ 0 = none_yet (n k) (sym there ∙ sym (alike k x s.once same) ∙ c.once k) in
        c.again k ∙ le-ltb 1 (n k) (omega arith) ∙ sym (le-ltb 1 (n k + 1) (omega arith))
    by false false there same = c.again k ∙ ap (nat_lt 1) (omega arith)

counted_more : (s : Seen) (n : MapKeyVal → ℕ) (x : MapKeyVal) → Counted s n
    → Counted (seen_with s x) (λ k. n k + one_if (same_map_key k x))
counted_more s n x c = record {
  once = λ k. any_insert k x s.once
      ∙ ap (λ t. t || same_map_key k x) (c.once k) ∙ once_more (n k) (same_map_key k x);
  again = λ k. again_more s n x k c;
}

counted_all : (s : Seen) (n : MapKeyVal → ℕ) (ks : List MapKeyVal) → Counted s n
    → Counted (fold seen_with s ks) (λ k. n k + count_by (same_map_key k) ks)
counted_all s n [] c = counted_as s n (λ k. n k + 0) (λ k. omega arith) c
counted_all s n (x ∷ ks) c =
    counted_as (fold seen_with (seen_with s x) ks)
    (λ k. (n k + one_if (same_map_key k x)) + count_by (same_map_key k) ks)
    (λ k. n k + count_by (same_map_key k) (x ∷ ks))
    (λ k. omega (arith, sum_by-cons (λ y. cond (same_map_key k y) 1 0) x ks))
    (counted_all (seen_with s x) (λ k. n k + one_if (same_map_key k x)) ks (counted_more s n x c))

none_counted : Counted (seen_of [] []) (λ k. 0)
none_counted = record { once = λ k. refl; again = λ k. refl }

-- ---- first appearances

unfoldable first_ones : List MapKeyVal → List MapKeyVal
first_ones [] = []
first_ones (k ∷ rest) = k ∷ filter (λ other. not (same_map_key k other)) (first_ones rest)

first_is : (g : List MapKeyVal → List MapKeyVal) → g [] ≡ []
    → ((k : MapKeyVal) (rest : List MapKeyVal)
    → g (k ∷ rest) ≡ k ∷ filter (λ other. not (same_map_key k other)) (g rest))
    → (ks : List MapKeyVal) → g ks ≡ first_ones ks
unfolding first_ones
first_is g none more [] = none
first_is g none more (k ∷ ks) =
    more k ks ∙ ap (λ xs. k ∷ filter (λ other. not (same_map_key k other)) xs)
    (first_is g none more ks)

with_first : (g : List MapKeyVal → List MapKeyVal) → g [] ≡ []
    → ((k : MapKeyVal) (rest : List MapKeyVal)
    → g (k ∷ rest) ≡ k ∷ filter (λ other. not (same_map_key k other)) (g rest))
    → (ks : List MapKeyVal) → filter (λ k. nat_lt 1 (count_by (same_map_key k) ks)) (g ks)
    ≡ filter (λ k. nat_lt 1 (count_by (same_map_key k) ks)) (first_ones ks)
with_first g none more ks =
    ap (filter (λ k. nat_lt 1 (count_by (same_map_key k) ks))) (first_is g none more ks)

repeated_is : (ks : List MapKeyVal)
    → repeated ks ≡ filter (λ k. nat_lt 1 (count_by (same_map_key k) ks)) (first_ones ks)
repeated_is = with_first _ refl (λ k rest. refl)

abbrev fresh : List MapKeyVal → MapKeyVal → Bool
fresh acc k = not (list_any (same_map_key k) acc)

-- a filter by two tests
filters : (p q r : MapKeyVal → Bool) → ((y : MapKeyVal) → r y ≡ (q y && p y))
    → (xs : List MapKeyVal) → filter r xs ≡ filter p (filter q xs)
filters p q r both [] = refl
filters p q r both (y ∷ ys) =
    ap (λ b. cond b (y ∷ filter r ys) (filter r ys)) (both y)
    ∙ ap (λ zs. cond (q y && p y) (y ∷ zs) zs) (filters p q r both ys)
    ∙ by (q y)
  where
    by : (b : Bool) → cond (b && p y) (y ∷ filter p (filter q ys)) (filter p (filter q ys))
        ≡ filter p (cond b (y ∷ filter q ys) (filter q ys))
    by true = refl
    by false = refl

known_anyway : (acc : List MapKeyVal) (x y : MapKeyVal) → list_any (same_map_key x) acc ≡ true
    → fresh acc y ≡ (not (same_map_key x y) && fresh acc y)
known_anyway acc x y there = by (same_map_key x y) refl
  where
    by : (b : Bool) → same_map_key x y ≡ b → fresh acc y ≡ (not b && fresh acc y)
    by true same = ap not (sym (alike x y acc same) ∙ there)
    by false same = refl

fresh_both : (acc : List MapKeyVal) (x y : MapKeyVal)
    → fresh (acc ++ x ∷ []) y ≡ (not (same_map_key x y) && fresh acc y)
fresh_both acc x y =
    ap not (list_any-append (same_map_key y) acc (x ∷ [])
    ∙ ap (λ t. list_any (same_map_key y) acc || t) (or_none (same_map_key y x) ∙ turned y x))
    ∙ by (list_any (same_map_key y) acc) (same_map_key x y)
  where
    by : (a b : Bool) → not (a || b) ≡ (not b && not a)
    by true true = refl
    by true false = refl
    by false true = refl
    by false false = refl

abbrev rest_of : MapKeyVal → List MapKeyVal → List MapKeyVal
rest_of x xs = filter (λ other. not (same_map_key x other)) xs

-- what is new behind some keys, once one more is there
new_behind : (acc xs : List MapKeyVal) (x : MapKeyVal)
    → insert_key same_map_key acc x ++ filter (fresh (insert_key same_map_key acc x)) xs
    ≡ acc ++ filter (fresh acc) (x ∷ rest_of x xs)
new_behind acc xs x = by (list_any (same_map_key x) acc) refl
  where
    by : (b : Bool) → list_any (same_map_key x) acc ≡ b
        → (if b then acc else acc ++ x ∷ [])
        ++ filter (fresh (if b then acc else acc ++ x ∷ [])) xs
        ≡ acc ++ cond (not b) (x ∷ filter (fresh acc) (rest_of x xs))
        (filter (fresh acc) (rest_of x xs))
    by true there =
        ap (λ zs. acc ++ zs) (filters (fresh acc) (λ other. not (same_map_key x other)) (fresh acc)
        (λ y. known_anyway acc x y there) xs)
    by false there =
        ap (λ zs. (acc ++ x ∷ []) ++ zs) (filters (fresh acc)
        (λ other. not (same_map_key x other)) (fresh (acc ++ x ∷ []))
        (λ y. fresh_both acc x y) xs)
        ∙ append_assoc acc (x ∷ []) (filter (fresh acc) (rest_of x xs))

once_is : (s : Seen) (ks : List MapKeyVal)
    → (fold seen_with s ks).once ≡ s.once ++ filter (fresh s.once) (first_ones ks)
unfolding first_ones
once_is s [] = sym (append-nil s.once)
once_is s (x ∷ ks) = once_is (seen_with s x) ks ∙ new_behind s.once (first_ones ks) x

all_fresh : (xs : List MapKeyVal) → filter (fresh []) xs ≡ xs
all_fresh [] = refl
all_fresh (x ∷ xs) = ap (λ ys. x ∷ ys) (all_fresh xs)

-- ---- what the keys of a map break

fold_given : {A : Type 0} (f : A → Option MapKeyVal) (s : Seen) (xs : List A)
    → fold (λ t x. seen_some t (f x)) s xs ≡ fold seen_with s (filter_map f xs)
fold_given f s [] = refl
fold_given {A} f s (x ∷ xs) = fold_given f (seen_some s (f x)) xs ∙ by (f x)
  where
    by : (o : Option MapKeyVal) → fold seen_with (seen_some s o) (filter_map f xs)
        ≡ fold seen_with s (cons_option o (filter_map f xs))
    by None = refl
    by (Some k) = refl

pub repeated_are : (doc : Doc) (n : Node) (ds : List Dependency) (once again : List MapKeyVal)
    → seen_of once again
    ≡ fold (λ s d. seen_some s (key_of_found doc d.found)) (seen_of [] []) ds
    → flat_map (where_again doc n again) once ≡ broken_keys doc n (keys_found doc ds)
repeated_are doc n ds once again seen =
    let ks = keys_found doc ds in
    let all : seen_of once again ≡ fold seen_with (seen_of [] []) ks =
    seen ∙ fold_given (λ (d : Dependency). key_of_found doc d.found) (seen_of [] []) ds in
    let firsts : once ≡ first_ones ks =
    ap (λ (s : Seen). s.once) all ∙ once_is (seen_of [] []) ks ∙ all_fresh (first_ones ks) in
    let c = counted_all (seen_of [] []) (λ k. 0) ks none_counted in
    let often : (k : MapKeyVal) → list_any (same_map_key k) again
    ≡ nat_lt 1 (count_by (same_map_key k) ks) =
    λ k. ap (λ (s : Seen). list_any (same_map_key k) s.again) all ∙ c.again k
    ∙ ap (nat_lt 1) (zero-add (count_by (same_map_key k) ks)) in
    ap (flat_map (where_again doc n again)) firsts
    ∙ (λ i. flat_map (λ k. cond (often k i) (at_node rule.MapKeys (Some (map_key_text k)) doc n
    ∷ []) []) (first_ones ks))
    ∙ sym (filtered (λ k. nat_lt 1 (count_by (same_map_key k) ks))
    (λ k. at_node rule.MapKeys (Some (map_key_text k)) doc n) (first_ones ks))
    ∙ ap (map (λ k. at_node rule.MapKeys (Some (map_key_text k)) doc n)) (sym (repeated_is ks))

given_of : {A B C : Type 0} (f : B → Option C) (g : A → B) (xs : List A)
    → filter_map f (map g xs) ≡ filter_map (λ x. f (g x)) xs
given_of f g [] = refl
given_of f g (x ∷ xs) = ap (cons_option (f (g x))) (given_of f g xs)

pub keys_of_map : (doc : Doc) (n : Node) (key : Key) (ds : List Dependency) → ds ≡ deps doc n
    → n.kind ≡ node.Multi key → keys_found doc ds ≡ map_keys_of doc n.class key
unfolding deps
keys_of_map doc n key ds all is =
    ap (keys_found doc) all
    ∙ (λ i. keys_found doc (deps doc (record { class = n.class; kind = is i })))
    ∙ given_of (λ (d : Dependency). key_of_found doc d.found) (contribution_of n.class key)
    (contributions doc n.class key)
