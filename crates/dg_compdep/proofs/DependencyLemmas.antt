-- The dependencies that earlier lines name.
use Rattle.std.proofs.Common.{◌≡◌, ℕ, zero, suc, ◌+◌, ◌-◌, ◌<◌, ◌≤◌, ◌==◌, nat_lt, Bool, true, false, cond, ◌&&◌, ◌||◌, List, [], ◌∷◌, ◌++◌, length, get_or, map, take, filter, flat_map, slice_get, Option, Some, None, option_map, option_and_then, option_to_list, position, refl, sym, ap, ◌∙◌, arith, add-one, zero-add, append-nil, append_assoc}
use Rattle.std.specs.Option.{option_or, option_map_or}
use Rattle.std.specs.List.{list_any}
use Rattle.std.specs.Str.{bytes_eq}
use Rattle.std.specs.Cmp.Lexicographic.{bytes_decides}
use Rattle.std.proofs.lemmas.Bool.{false≢true, true≢false, eqb-true, eq-eqb, lt-ltb, le-ltb}
use Rattle.std.proofs.lemmas.Option.{slice_get-get_or}
use Rattle.std.proofs.lemmas.List.Folds.{list_any-append}
use Rattle.dg_lex.specs.Bytes.{Bytes}
use Rattle.dg_decl.specs.declared.document.Doc.{Doc}
use Rattle.dg_decl.specs.declared.item.Item.{Item}
use Rattle.dg_decl.specs.Document.{Statement, statements, statements_from, open_behind, stands_in}
use Rattle.dg_decl.specs.Names.{is_called}
use Rattle.dg_decl.specs.Components.{hilt_count, is_component, component_headers, class_count, number_of_header, header_of, class_of_block, class_around, class_named, entry_point_class, dependency_in}
use Rattle.dg_decl.specs.declared.violation.Violation.{Violation}
use Rattle.dg_decl.specs.Stages.Dependencies.{is_named_earlier, bad_depends_on}
use Rattle.dg_decl.proofs.NumberBounds.{none_is_not_some, same_value, below_and_then, below_or, position_below}
use Rattle.dg_decl.proofs.ComponentLemmas.{class_below}
use Rattle.dg_decl.proofs.HeaderLemmas.{headers_have_their_numbers}
use Rattle.dg_names.proofs.StatementLemmas.{at_its_place}
use Rattle.dg_compdep.specs.Dependencies.{is_pair, has_pair, is_own, pairs_of, named_by, HasNamed, AreBoth}

-- ---- one more of a list

more_of : {A B : Type 0} (f : A → List B) (xs : List A) (i : ℕ) (x : A) → i < length xs
    → get_or xs i x ≡ x → flat_map f (take (suc i) xs) ≡ flat_map f (take i xs) ++ f x
more_of f [] i x lt e = absurd (omega arith)
more_of f (y ∷ ys) zero x lt e = append-nil (f y) ∙ ap f e
more_of f (y ∷ ys) (suc i) x lt e =
    ap (λ t. f y ++ t) (more_of f ys i x (omega arith) e)
    ∙ sym (append_assoc (f y) (flat_map f (take i ys)) (f x))

pub flat_map_more : {A B : Type 0} (f : A → List B) (xs : List A) (i : ℕ) (x : A) → i < length xs
    → get_or xs i x ≡ x → flat_map f (take (i + 1) xs) ≡ flat_map f (take i xs) ++ f x
flat_map_more f xs i x lt e = rw add-one (more_of f xs i x lt e)

-- ---- where the header of a class stands

record Placed (ss : List Statement) (h : Statement) : Type 0 where
  at : ℕ
  there : slice_get ss at ≡ Some h

placed_behind : (s : Statement) (ss : List Statement) (h : Statement) → Placed ss h
    → Placed (s ∷ ss) h
placed_behind s ss h p = record { at = suc p.at; there = p.there }

placed_in : (p : Statement → Bool) (ss : List Statement) (k : ℕ) (h : Statement)
    → slice_get (filter p ss) k ≡ Some h → Placed ss h
placed_in p [] k h e = absurd (none_is_not_some h e)
placed_in p (s ∷ ss) k h e = by (p s) k e
    (λ j is. placed_in p ss j h is)
  where
    by : (b : Bool) (k : ℕ) → slice_get (cond b (s ∷ filter p ss) (filter p ss)) k ≡ Some h
        → ((j : ℕ) → slice_get (filter p ss) j ≡ Some h → Placed ss h) → Placed (s ∷ ss) h
    by true zero e later = record { at = 0; there = e }
    by true (suc k) e later = placed_behind s ss h (later k e)
    by false k e later = placed_behind s ss h (later k e)

-- a header stands at its own index
header_stands : (doc : Doc) (c : ℕ) (h : Statement) → header_of doc c ≡ Some h
    → slice_get (statements doc) h.index ≡ Some h
unfolding header_of
header_stands doc c h e = by (nat_lt c hilt_count) e
  where
    there : (p : Placed (statements doc) h) → slice_get (statements doc) h.index ≡ Some h
    there p = ap (slice_get (statements doc)) (at_its_place doc p.at h p.there) ∙ p.there

    by : (b : Bool) → cond b None (slice_get (component_headers doc) (c - hilt_count)) ≡ Some h
        → slice_get (statements doc) h.index ≡ Some h
    by true e = absurd (none_is_not_some h e)
    by false e = there (placed_in (λ s. is_component s.item) (statements doc) (c - hilt_count) h e)

-- a statement in the block of a class is one around which the class stands
own_around : (doc : Doc) (s : Statement) (c : ℕ) (h : Statement) (b : Option ℕ) → s.block ≡ b
    → header_of doc c ≡ Some h → stands_in h.index s ≡ true → class_around doc s ≡ Some c
unfolding class_around
own_around doc s c h None is e stands = absurd (false≢true (rw is at stands))
own_around doc s c h (Some b) is e stands =
    let test : (b == h.index) ≡ true = rw is at stands in
    let same : b ≡ h.index = eqb-true b h.index test in
    ap (λ (o : Option ℕ). option_and_then (class_of_block doc) (option_and_then (slice_get
    (statements doc)) o)) is
    ∙ ap (λ k. option_and_then (class_of_block doc) (slice_get (statements doc) k)) same
    ∙ ap (option_and_then (class_of_block doc)) (header_stands doc c h e)
    ∙ ap (λ (o : Option ℕ). option_or o (option_and_then (class_named doc) (entry_point_class
    h.item)))
    (headers_have_their_numbers doc c h e)

own_is : (doc : Doc) (s : Statement) (c : ℕ) → is_own doc s c ≡ true → class_around doc s ≡ Some c
own_is doc s c e = by (header_of doc c) refl e
  where
    by : (o : Option Statement) → header_of doc c ≡ o
        → option_map_or (λ h. stands_in h.index s) o false ≡ true → class_around doc s ≡ Some c
    by None is e = absurd (false≢true e)
    by (Some h) is e = own_around doc s c h s.block refl is e

-- ---- what a statement names

and_false : (b : Bool) → (b && false) ≡ false
and_false true = refl
and_false false = refl

pub or_false : (b : Bool) → (b || false) ≡ b
or_false true = refl
or_false false = refl

same_test : (a b : Bool) → (a ≡ true → b ≡ true) → (b ≡ true → a ≡ true) → a ≡ b
same_test true true to from = refl
same_test false false to from = refl
same_test true false to from = sym (to refl)
same_test false true to from = from refl

swapped : (a b : Bytes) → bytes_eq a b ≡ true → bytes_eq b a ≡ true
swapped a b e = (bytes_decides b a).1 (sym ((bytes_decides a b).0 e))

bytes_either_way : (a b : Bytes) → bytes_eq a b ≡ bytes_eq b a
bytes_either_way a b = same_test (bytes_eq a b) (bytes_eq b a) (swapped a b) (swapped b a)

pair_is : (s : Statement) (k c : ℕ) (n : Bytes) → has_pair (pairs_of s k) c n
    ≡ ((c == k) && is_called dependency_in n s)
pair_is s k c n = by (dependency_in s.item) refl
  where
    by : (o : Option Bytes) → dependency_in s.item ≡ o → has_pair (pairs_of s k) c n
        ≡ ((c == k) && is_called dependency_in n s)
    by None e =
        ap (λ (o : Option Bytes). has_pair (map (λ m. (k, m)) (option_to_list o)) c n) e
        ∙ sym (let t : is_called dependency_in n s ≡ false = rw e refl in
        ap (λ b. (c == k) && b) t ∙ and_false (c == k))
    by (Some m) e =
        ap (λ (o : Option Bytes). has_pair (map (λ m. (k, m)) (option_to_list o)) c n) e
        ∙ or_false ((c == k) && bytes_eq n m)
        ∙ ap (λ b. (c == k) && b) (bytes_either_way n m
        ∙ sym (let t : is_called dependency_in n s ≡ bytes_eq m n = rw e refl in t))

-- the pairs of a class that is there and passes are those of the class that passes
passing : (around : Option ℕ) (own : ℕ → Bool) (s : Statement) (c : ℕ) (n : Bytes)
    → (own c ≡ true → around ≡ Some c)
    → has_pair (flat_map (pairs_of s) (filter own (option_to_list around))) c n
    ≡ (own c && is_called dependency_in n s)
passing None own s c n there = by (own c) refl
  where
    by : (b : Bool) → own c ≡ b → false ≡ (own c && is_called dependency_in n s)
    by true e = absurd (none_is_not_some c (there e))
    by false e = sym (ap (λ b. b && is_called dependency_in n s) e)
passing (Some k) own s c n there = by (own k) (own c) (c == k) refl refl refl
  where
    by : (b a t : Bool) → own k ≡ b → own c ≡ a → (c == k) ≡ t
        → has_pair (flat_map (pairs_of s) (cond (own k) (k ∷ []) [])) c n
        ≡ (own c && is_called dependency_in n s)
    by b true false kept mine test =
        absurd (true≢false (sym (eq-eqb c k (sym (same_value k c (there mine)))) ∙ test))
    by true a true kept mine test =
        let same : c ≡ k = eqb-true c k test in
        ap (λ b. has_pair (flat_map (pairs_of s) (cond b (k ∷ []) [])) c n) kept
        ∙ list_any-append (is_pair c n) (pairs_of s k) []
        ∙ or_false (has_pair (pairs_of s k) c n) ∙ pair_is s k c n
        ∙ ap (λ b. b && is_called dependency_in n s) (test ∙ sym (ap own same ∙ kept))
    by false true true kept mine test =
        absurd (true≢false (sym mine ∙ ap own (eqb-true c k test) ∙ kept))
    by false false t kept mine test =
        ap (λ b. has_pair (flat_map (pairs_of s) (cond b (k ∷ []) [])) c n) kept
        ∙ sym (ap (λ b. b && is_called dependency_in n s) mine)
    by true false false kept mine test =
        ap (λ b. has_pair (flat_map (pairs_of s) (cond b (k ∷ []) [])) c n) kept
        ∙ list_any-append (is_pair c n) (pairs_of s k) []
        ∙ or_false (has_pair (pairs_of s k) c n) ∙ pair_is s k c n
        ∙ ap (λ b. b && is_called dependency_in n s) (test ∙ sym mine)

named_is : (doc : Doc) (s : Statement) (c : ℕ) (n : Bytes) → has_pair (named_by doc s) c n
    ≡ (is_own doc s c && is_called dependency_in n s)
named_is doc s c n = passing (class_around doc s) (is_own doc s) s c n (own_is doc s c)

-- ---- what the statements before one name

abbrev names_in : Doc → ℕ → Bytes → Statement → Bool
names_in doc c n s = is_own doc s c && is_called dependency_in n s

all_named : (doc : Doc) (c : ℕ) (n : Bytes) (ss : List Statement)
    → has_pair (flat_map (named_by doc) ss) c n ≡ list_any (names_in doc c n) ss
all_named doc c n [] = refl
all_named doc c n (s ∷ ss) =
    list_any-append (is_pair c n) (named_by doc s) (flat_map (named_by doc) ss)
    ∙ ap (λ b. b || has_pair (flat_map (named_by doc) ss) c n) (named_is doc s c n)
    ∙ ap (λ b. names_in doc c n s || b) (all_named doc c n ss)

any_same : {A : Type 0} (p q : A → Bool) (xs : List A) → ((x : A) → p x ≡ q x)
    → list_any p xs ≡ list_any q xs
any_same p q [] same = refl
any_same p q (x ∷ xs) same =
    ap (λ b. b || list_any p xs) (same x) ∙ ap (λ b. q x || b) (any_same p q xs same)

none_any : {A : Type 0} (xs : List A) → list_any (λ x. false) xs ≡ false
none_any [] = refl
none_any (x ∷ xs) = none_any xs

any_kept : {A : Type 0} (b : Bool) (p : A → Bool) (x : A) (xs : List A)
    → list_any p (cond b (x ∷ xs) xs) ≡ ((b && p x) || list_any p xs)
any_kept true p x xs = refl
any_kept false p x xs = refl

abbrev before : ℕ → Bytes → Statement → Bool
before bound n s = nat_lt s.index bound && is_called dependency_in n s

abbrev held : ℕ → Bytes → Statement → Bool
held h n s = stands_in h s && is_called dependency_in n s

none_lower : (doc : Doc) (k : ℕ) (b : Option ℕ) (xs : List Item) (bound h : ℕ) (n : Bytes)
    → bound ≤ k
    → list_any (before bound n) (filter (stands_in h) (statements_from doc k b xs)) ≡ false
none_lower doc k b [] bound h n le = refl
none_lower doc k b (x ∷ xs) bound h n le =
    let s : Statement = record { index = k; line = get_or doc.lines k 0; block = b; item = x } in
    let rest = statements_from doc (suc k) (open_behind b k x) xs in
    any_kept (stands_in h s) (before bound n) s (filter (stands_in h) rest)
    ∙ ap (λ t. (stands_in h s && (t && is_called dependency_in n s)) || list_any (before bound n)
    (filter (stands_in h) rest)) (le-ltb k bound le)
    ∙ ap (λ t. t || list_any (before bound n) (filter (stands_in h) rest)) (and_false (stands_in h
    s))
    ∙ none_lower doc (suc k) (open_behind b k x) xs bound h n (omega arith)

taken_is : (doc : Doc) (k : ℕ) (b : Option ℕ) (xs : List Item) (j h : ℕ) (n : Bytes)
    → list_any (held h n) (take j (statements_from doc k b xs))
    ≡ list_any (before (k + j) n) (filter (stands_in h) (statements_from doc k b xs))
taken_is doc k b xs zero h n = sym (none_lower doc k b xs (k + 0) h n (omega arith))
taken_is doc k b [] (suc j) h n = refl
taken_is doc k b (x ∷ xs) (suc j) h n =
    let s : Statement = record { index = k; line = get_or doc.lines k 0; block = b; item = x } in
    let rest = statements_from doc (suc k) (open_behind b k x) xs in
    let lower : nat_lt k (k + suc j) ≡ true = lt-ltb k (k + suc j) (omega arith) in
    let bound : suc k + j ≡ k + suc j = omega arith in
    ap (λ t. held h n s || t) (taken_is doc (suc k) (open_behind b k x) xs j h n)
    ∙ ap (λ m. held h n s || list_any (before m n) (filter (stands_in h) rest)) bound
    ∙ ap (λ t. (stands_in h s && (t && is_called dependency_in n s)) || list_any (before (k + suc
    j) n) (filter (stands_in h) rest)) (sym lower)
    ∙ sym (any_kept (stands_in h s) (before (k + suc j) n) s (filter (stands_in h) rest))

taken_all : (doc : Doc) (i h : ℕ) (n : Bytes) → list_any (held h n) (take i (statements doc))
    ≡ list_any (before i n) (filter (stands_in h) (statements doc))
unfolding statements
taken_all doc i h n = taken_is doc 0 None doc.items i h n
    ∙ ap (λ m. list_any (before m n) (filter (stands_in h) (statements_from doc 0 None
    doc.items))) (zero-add i)

pub earlier : (doc : Doc) (i : ℕ)
    → HasNamed doc i (flat_map (named_by doc) (take i (statements doc)))
earlier doc i c n = all_named doc c n (take i (statements doc)) ∙ by (header_of doc c) refl
  where
    own : Option Statement → Statement → Bool
    own o s = option_map_or (λ h. stands_in h.index s) o false

    by : (o : Option Statement) → header_of doc c ≡ o
        → list_any (names_in doc c n) (take i (statements doc)) ≡ is_named_earlier doc c i n
    by None e =
        any_same (names_in doc c n) (λ s. false) (take i (statements doc))
        (λ s. ap (λ (o : Option Statement). option_map_or (λ h. stands_in h.index s) o false &&
        is_called dependency_in n s) e)
        ∙ none_any (take i (statements doc))
        ∙ ap (λ (o : Option Statement). list_any (before i n) (flat_map (λ h. filter (stands_in
        h.index) (statements doc)) (option_to_list o))) (sym e)
    by (Some h) e =
        any_same (names_in doc c n) (held h.index n) (take i (statements doc))
        (λ s. ap (λ (o : Option Statement). option_map_or (λ h. stands_in h.index s) o false &&
        is_called dependency_in n s) e)
        ∙ taken_all doc i h.index n
        ∙ sym (list_any-append (before i n) (filter (stands_in h.index) (statements doc)) []
        ∙ or_false _)
        ∙ ap (λ (o : Option Statement). list_any (before i n) (flat_map (λ h. filter (stands_in
        h.index) (statements doc)) (option_to_list o))) (sym e)

-- the pairs once one more statement has named its dependency
pub named_more : (doc : Doc) (i : ℕ) (s : Statement) (old new : List (ℕ × Bytes))
    → i < length (statements doc) → get_or (statements doc) i s ≡ s
    → AreBoth [] (flat_map (named_by doc) (take i (statements doc))) old
    → AreBoth old (named_by doc s) new
    → AreBoth [] (flat_map (named_by doc) (take (i + 1) (statements doc))) new
named_more doc i s old new lt e before more c n =
    more c n ∙ ap (λ b. b || has_pair (named_by doc s) c n) (before c n)
    ∙ sym (list_any-append (is_pair c n) (flat_map (named_by doc) (take i (statements doc)))
    (named_by doc s))
    ∙ ap (λ (ps : List (ℕ × Bytes)). has_pair ps c n) (sym (flat_map_more (named_by doc)
    (statements doc) i s lt e))

pub named_earlier : (doc : Doc) (i : ℕ) (s : Statement) (pairs : List (ℕ × Bytes))
    → i < length (statements doc) → get_or (statements doc) i s ≡ s
    → AreBoth [] (flat_map (named_by doc) (take i (statements doc))) pairs
    → HasNamed doc s.index pairs
named_earlier doc i s pairs lt e is c n =
    let here : s.index ≡ i = at_its_place doc i s (slice_get-get_or (statements doc) i s lt
    ∙ ap Some e) in
    is c n ∙ earlier doc i c n ∙ ap (λ k. is_named_earlier doc c k n) (sym here)

pub around_small : (doc : Doc) (s : Statement) (c : ℕ) → class_around doc s ≡ Some c
    → c < class_count doc
unfolding class_around class_count
around_small doc s c e =
    below_and_then (hilt_count + length (component_headers doc)) (class_of_block doc) _
    (λ h there k is. below_or _ (number_of_header doc h) _
    (λ m found. after (position (λ t. t.index == h.index) (component_headers doc)) m
    (position_below _ (component_headers doc)) found)
    (λ m found. below_and_then _ (class_named doc) (entry_point_class h.item) (λ name given j
    named. small name j named) m found) k is) c e
  where
    after : (o : Option ℕ) (m : ℕ) → ((k : ℕ) → o ≡ Some k → k < length (component_headers doc))
        → option_map (λ k. hilt_count + k) o ≡ Some m
        → m < hilt_count + length (component_headers doc)
    after None m small e = absurd (none_is_not_some m e)
    after (Some k) m small e =
        let within : k < length (component_headers doc) = small k refl in
        let same : hilt_count + k ≡ m = same_value (hilt_count + k) m e in omega arith

    small : (name : Bytes) (j : ℕ) → class_named doc name ≡ Some j
        → j < hilt_count + length (component_headers doc)
    small name j e = class_below doc name j e

-- ---- the steps of the loop over statements

pub step_requires : (doc classes : Doc) (list : List Statement) (i : ℕ) (s : Statement) (pairs :
    List (ℕ × Bytes))
    → list ≡ statements doc → classes ≡ doc → i < length list → s ≡ get_or list i s
    → AreBoth [] (flat_map (named_by doc) (take i (statements doc))) pairs
    → HasNamed classes s.index pairs
step_requires doc classes list i s pairs all same lt e is c n =
    let within : i < length (statements doc) = omega (arith, ap length all) in
    let here = ap (λ (ss : List Statement). get_or ss i s) (sym all) ∙ sym e in
    named_earlier doc i s pairs within here is c n
    ∙ ap (λ (d : Doc). is_named_earlier d c s.index n) (sym same)

pub step_named : (doc classes : Doc) (list : List Statement) (i : ℕ) (s : Statement) (old new :
    List (ℕ × Bytes))
    → list ≡ statements doc → classes ≡ doc → i < length list → s ≡ get_or list i s
    → AreBoth [] (flat_map (named_by doc) (take i (statements doc))) old
    → AreBoth old (named_by classes s) new
    → AreBoth [] (flat_map (named_by doc) (take (i + 1) (statements doc))) new
step_named doc classes list i s old new all same lt e is more =
    let within : i < length (statements doc) = omega (arith, ap length all) in
    let here = ap (λ (ss : List Statement). get_or ss i s) (sym all) ∙ sym e in
    named_more doc i s old new within here is
    (λ c n. more c n ∙ ap (λ (d : Doc). has_pair old c n || has_pair (named_by d s) c n) same)

pub step_broken : (doc classes : Doc) (list : List Statement) (i : ℕ) (s : Statement) (old new :
    List Violation)
    → list ≡ statements doc → classes ≡ doc → i < length list → s ≡ get_or list i s
    → old ≡ flat_map (bad_depends_on doc) (take i (statements doc))
    → new ≡ old ++ bad_depends_on classes s
    → new ≡ flat_map (bad_depends_on doc) (take (i + 1) (statements doc))
step_broken doc classes list i s old new all same lt e is more =
    let within : i < length (statements doc) = omega (arith, ap length all) in
    let here = ap (λ (ss : List Statement). get_or ss i s) (sym all) ∙ sym e in
    more ∙ ap (λ (vs : List Violation). vs ++ bad_depends_on classes s) is
    ∙ ap (λ (d : Doc). flat_map (bad_depends_on doc) (take i (statements doc)) ++ bad_depends_on d
    s) same
    ∙ sym (flat_map_more (bad_depends_on doc) (statements doc) i s within here)
