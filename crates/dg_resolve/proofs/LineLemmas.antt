-- The bound arguments of classes by their lines, and the next binding.
use Rattle.std.proofs.Common.{◌≡◌, inl, inr, ℕ, zero, suc, ◌+◌, ◌<◌, ◌≤◌, ◌==◌, nat_lt, nat_eq, Bool, true, false, cond, ◌&&◌, List, [], ◌∷◌, ◌++◌, length, map, drop, filter, filter_map, flat_map, position, slice_get, Contains, Option, Some, None, is_some, option_map, option_and_then, option_to_list, if◌then◌else◌, refl, sym, ap, subst, ◌∙◌, arith}
use Rattle.std.specs.List.{cons_option, position_or_len, range_with_len}
use Rattle.std.proofs.lemmas.Bool.{ne_eqb, eq-eqb, lt-ltb, le-ltb}
use Rattle.std.proofs.lemmas.Bool.Decides.{Decides-eqb}
use Rattle.std.proofs.lemmas.List.{append-nil}
use Rattle.std.proofs.lemmas.List.Elements.{filter-append, Contains-append_right, Contains-append_cases}
use Rattle.std.proofs.lemmas.Option.{none-some, same_Some}
use Rattle.dg_decl.specs.declared.document.Doc.{Doc}
use Rattle.dg_decl.specs.declared.component.Bound.{Bound}
use Rattle.dg_decl.specs.declared.binding.Bind.{Bind}
use Rattle.dg_decl.specs.Document.{Statement, statements, members, stands_in}
use Rattle.dg_decl.specs.Components.{is_number, class_count, header_of, own_members, bound_in}
use Rattle.dg_decl.specs.Lookup.{binding_of, bound_lines}
use Rattle.dg_decl.proofs.MemberLemmas.{in_front, none_in, first_or_rest, out_filter, out_filter_map}
use Rattle.dg_decl.proofs.NodeCandidates.{binding_item}
use Rattle.dg_decl.proofs.NodeWalks.{in_rest}
use Rattle.dg_resolve.specs.Explicit.{classes_around, classes_of_line, next_at}
use Rattle.dg_resolve.specs.Members.{header_index, AreHeaders}
use Rattle.dg_resolve.specs.Tables.{Numbers, of_number}
use Rattle.dg_resolve.proofs.ListLemmas.{flat_map_same, flat_map_nothing, filter_as, pick}
use Rattle.dg_resolve.proofs.StatementLemmas.{Rises, at_least}
use Rattle.dg_resolve.proofs.TableLemmas.{symmetric}

-- ---- before and behind a statement

pub front_before : (low : ℕ) (done : List Statement) (s : Statement) (rest : List Statement) (x : Statement)
    → Rises low (done ++ s ∷ rest) → Contains done x → x.index < s.index
front_before low [] s rest x rises h = absurd (none_in x h)
front_before low (d ∷ done) s rest x rises h =
    elim (first_or_rest x d done h) [
      | inl e ↦ (
          let later : suc d.index ≤ s.index = at_least (suc d.index) (done ++ s ∷ rest) s rises.1
          (Contains-append_right done (s ∷ rest) s (in_front s rest)) in
          let same : d.index ≡ x.index = ap (λ (t : Statement). t.index) e in omega arith
          )
      | inr r ↦ front_before (suc d.index) done s rest x rises.1 r
    ]

pub rises_behind : (low : ℕ) (done : List Statement) (s : Statement) (rest : List Statement)
    → Rises low (done ++ s ∷ rest) → Rises (suc s.index) rest
rises_behind low [] s rest rises = rises.1
rises_behind low (d ∷ done) s rest rises = rises_behind (suc d.index) done s rest rises.1

-- ---- positions

place_in : (p : Statement → Bool) (front : List Statement) (s : Statement) (rest : List Statement)
    → ((x : Statement) → Contains front x → p x ≡ false) → p s ≡ true
    → position_or_len p (front ++ s ∷ rest) ≡ length front
place_in p [] s rest before here = rw here refl
place_in p (x ∷ front) s rest before here =
    let other : p x ≡ false = before x (in_front x front) in
    let later : position_or_len p (front ++ s ∷ rest) ≡ length front =
    place_in p front s rest (λ y h. before y (in_rest y x front h)) here in
    rw other (omega arith)

place_past : (p : Statement → Bool) (xs : List Statement) → ((x : Statement) → Contains xs x → p x ≡ false)
    → position_or_len p xs ≡ length xs
place_past p [] before = refl
place_past p (x ∷ xs) before =
    let other : p x ≡ false = before x (in_front x xs) in
    let later : position_or_len p xs ≡ length xs = place_past p xs (λ y h. before y (in_rest y x xs h)) in
    rw other (omega arith)

length_longer : (front : List Statement) (s : Statement) (rest : List Statement) → length front < length (front ++ s ∷ rest)
length_longer [] s rest = omega arith
length_longer (x ∷ front) s rest = let k = length_longer front s rest in omega arith

position_in : (p : Statement → Bool) (front : List Statement) (s : Statement) (rest : List Statement)
    → ((x : Statement) → Contains front x → p x ≡ false) → p s ≡ true
    → position p (front ++ s ∷ rest) ≡ Some (length front)
position_in p front s rest before here =
    let place : position_or_len p (front ++ s ∷ rest) ≡ length front = place_in p front s rest before here in
    let within : nat_lt (length front) (length (front ++ s ∷ rest)) ≡ true =
    lt-ltb (length front) (length (front ++ s ∷ rest)) (length_longer front s rest) in
    rw (place, within) refl

not_below_itself : (n : ℕ) → nat_lt n n ≡ false
not_below_itself n = le-ltb n n (omega arith)

position_none : (p : Statement → Bool) (xs : List Statement) → ((x : Statement) → Contains xs x → p x ≡ false)
    → position p xs ≡ None
position_none p xs before =
    let place : position_or_len p xs ≡ length xs = place_past p xs before in
    let within : nat_lt (length xs) (length xs) ≡ false = not_below_itself (length xs) in
    rw (place, within) refl

-- the position of a statement among those that pass a test
pub position_among : (q : Statement → Bool) (low : ℕ) (done : List Statement) (s : Statement) (rest : List Statement)
    → Rises low (done ++ s ∷ rest)
    → position (λ x. x.index == s.index) (filter q (done ++ s ∷ rest))
    ≡ (if q s then Some (length (filter q done)) else None)
position_among q low done s rest rises =
    ap (λ (l : List Statement). position (λ x. x.index == s.index) l) (filter-append q done (s ∷ rest))
    ∙ by (q s)
  where
    before : (x : Statement) → Contains (filter q done) x → (x.index == s.index) ≡ false
    before x h =
        let lt : x.index < s.index = front_before low done s rest x rises (out_filter q done x h).0 in
        ne_eqb x.index s.index (λ (e : x.index ≡ s.index). omega (arith, e))

    behind : (x : Statement) → Contains (filter q rest) x → (x.index == s.index) ≡ false
    behind x h =
        let lt : suc s.index ≤ x.index = at_least (suc s.index) rest x (rises_behind low done s rest rises) (out_filter q rest x h).0 in
        ne_eqb x.index s.index (λ (e : x.index ≡ s.index). omega (arith, e))

    by : (b : Bool) → position (λ x. x.index == s.index) (filter q done ++ cond b (s ∷ filter q rest) (filter q rest))
        ≡ (if b then Some (length (filter q done)) else None)
    by true = position_in (λ x. x.index == s.index) (filter q done) s (filter q rest) before (eq-eqb s.index s.index refl)
    by false = position_none (λ x. x.index == s.index) (filter q done ++ filter q rest)
        (λ x h. elim (Contains-append_cases (filter q done) (filter q rest) x h) [
          | inl f ↦ before x f
          | inr r ↦ behind x r
        ])

-- ---- the lines of a class

-- a statement stands in the block of the header of a class
abbrev pub in_block : Doc → ℕ → Statement → Bool
in_block doc c s = is_in s.block
  where
    is_in : Option ℕ → Bool
    is_in None = false
    is_in (Some h) = is_number h (header_index doc c)

abbrev pub is_line : Doc → ℕ → Statement → Bool
is_line doc c s = in_block doc c s && is_some (bound_in s.item)

filter_none : (p : Statement → Bool) (ss : List Statement) → ((s : Statement) → p s ≡ false) → filter p ss ≡ []
filter_none p [] e = refl
filter_none p (s ∷ ss) e = ap (λ (b : Bool). cond b (s ∷ filter p ss) (filter p ss)) (e s) ∙ filter_none p ss e

filter_both : (p q r : Statement → Bool) (ss : List Statement) → ((s : Statement) → r s ≡ (q s && p s))
    → filter p (filter q ss) ≡ filter r ss
filter_both p q r [] e = refl
filter_both p q r (s ∷ ss) e =
    by (q s) (filter_both p q r ss e) ∙ ap (λ (b : Bool). cond b (s ∷ filter r ss) (filter r ss)) (sym (e s))
  where
    by : (b : Bool) → filter p (filter q ss) ≡ filter r ss
        → filter p (cond b (s ∷ filter q ss) (filter q ss)) ≡ cond (b && p s) (s ∷ filter r ss) (filter r ss)
    by true rest = ap (λ (l : List Statement). cond (p s) (s ∷ l) l) rest
    by false rest = rest

block_none : (doc : Doc) (c : ℕ) (s : Statement) → header_of doc c ≡ None → in_block doc c s ≡ false
block_none doc c s e = by s.block refl
  where
    by : (o : Option ℕ) → s.block ≡ o → in_block doc c s ≡ false
    by None f = rw f refl
    by (Some h) f = rw (f, e) refl

block_some : (doc : Doc) (c : ℕ) (s h : Statement) → header_of doc c ≡ Some h → in_block doc c s ≡ stands_in h.index s
block_some doc c s h e = by s.block refl
  where
    by : (o : Option ℕ) → s.block ≡ o → in_block doc c s ≡ stands_in h.index s
    by None f = rw f refl
    by (Some b) f = rw (f, e) (symmetric nat_eq Decides-eqb (λ (x : List ℕ). x) h.index b)

lines_of_header : (doc : Doc) (c : ℕ) (o : Option Statement) → header_of doc c ≡ o
    → filter (λ s. is_some (bound_in s.item)) (flat_map (λ h. members doc h.index) (option_to_list o))
    ≡ filter (is_line doc c) (statements doc)
lines_of_header doc c None e =
    sym (filter_none (is_line doc c) (statements doc)
    (λ s. ap (λ (b : Bool). b && is_some (bound_in s.item)) (block_none doc c s e)))
lines_of_header doc c (Some h) e =
    ap (λ (l : List Statement). filter (λ s. is_some (bound_in s.item)) l) (append-nil (members doc h.index))
    ∙ filter_both (λ s. is_some (bound_in s.item)) (stands_in h.index) (is_line doc c) (statements doc)
    (λ s. ap (λ (b : Bool). b && is_some (bound_in s.item)) (block_some doc c s h e))

pub lines_are : (doc : Doc) (c : ℕ) → bound_lines doc c ≡ filter (is_line doc c) (statements doc)
lines_are doc c = lines_of_header doc c (header_of doc c) refl

-- the classes in whose block a statement stands
pub around_is : (doc : Doc) (headed : Numbers) (s : Statement) → AreHeaders doc headed
    → classes_around headed s.block
    ≡ flat_map (λ x. if in_block doc x s then x ∷ [] else []) (range_with_len 0 (class_count doc))
around_is doc headed s are = by s.block refl
  where
    by : (o : Option ℕ) → s.block ≡ o
        → classes_around headed s.block
        ≡ flat_map (λ x. if in_block doc x s then x ∷ [] else []) (range_with_len 0 (class_count doc))
    by None e =
        ap (classes_around headed) e
        ∙ sym (flat_map_nothing (λ x. if in_block doc x s then x ∷ [] else []) (range_with_len 0 (class_count doc))
        (λ x h. rw e refl))
    by (Some b) e =
        ap (classes_around headed) e ∙ are.each b
        ∙ flat_map_same (λ x. if is_number b (header_index doc x) then x ∷ [] else [])
        (λ x. if in_block doc x s then x ∷ [] else []) (range_with_len 0 (class_count doc))
        (λ x h. rw e refl)

-- one line of a class, by its index
pub line_at : (doc : Doc) (headed : Numbers) (c : ℕ) (s : Statement) → AreHeaders doc headed → c < class_count doc
    → flat_map (λ x. if c == x then s.index ∷ [] else []) (classes_of_line headed s)
    ≡ (if is_line doc c s then s.index ∷ [] else [])
line_at doc headed c s are lt = by (bound_in s.item) refl
  where
    none : (b : Bool) → [] ≡ (if b && false then s.index ∷ [] else [])
    none true = refl
    none false = refl

    tests : (b : Bool) → (if b then (if c == c then s.index ∷ [] else []) else []) ≡ (if b && true then s.index ∷ [] else [])
    tests true = ap (λ (t : Bool). if t then s.index ∷ [] else []) (eq-eqb c c refl)
    tests false = refl

    by : (o : Option Bound) → bound_in s.item ≡ o
        → flat_map (λ x. if c == x then s.index ∷ [] else []) (classes_of_line headed s)
        ≡ (if is_line doc c s then s.index ∷ [] else [])
    by None e = rw e (none (in_block doc c s))
    by (Some b) e =
        rw e (ap (λ (l : List ℕ). flat_map (λ x. if c == x then s.index ∷ [] else []) l) (around_is doc headed s are)
        ∙ pick (λ x. in_block doc x s) (λ x. if c == x then s.index ∷ [] else []) c
        (λ x ne. ap (λ (t : Bool). if t then s.index ∷ [] else []) ne) (class_count doc) lt
        ∙ tests (in_block doc c s))

-- ---- the next binding

got_front : (xs : List Bind) (p : ℕ) (y : Bind) (ys : List Bind) → drop p xs ≡ y ∷ ys
    → (slice_get xs p ≡ Some y) × (drop (suc p) xs ≡ ys)
got_front [] zero y ys e = cc
got_front [] (suc p) y ys e = cc
got_front (x ∷ xs) zero y ys e = (cc, cc)
got_front (x ∷ xs) (suc p) y ys e = got_front xs p y ys e

got_none : (xs : List Bind) (p : ℕ) → drop p xs ≡ [] → slice_get xs p ≡ None
got_none [] p e = refl
got_none (x ∷ xs) zero e = cc
got_none (x ∷ xs) (suc p) e = got_none xs p e

-- the binding of a statement, where the bindings from a place on are those of the statements from
-- it on; and those behind it
pub next_is : (doc : Doc) (bs : List Bind) (place : ℕ) (s : Statement) (rest : List Statement)
    → Rises (suc s.index) rest → ((t : Statement) → Contains (s ∷ rest) t → Contains (statements doc) t)
    → drop place bs ≡ filter_map binding_of (s ∷ rest)
    → (next_at bs place s.index ≡ binding_of s)
    × (drop (place + length (option_to_list (next_at bs place s.index))) bs ≡ filter_map binding_of rest)
next_is doc bs place s rest rises stand left = by (binding_of s) refl
  where
    found : (b : Bind) → binding_of s ≡ Some b → slice_get bs place ≡ Some b → next_at bs place s.index ≡ Some b
    found b is at =
        let same : (b.item == s.index) ≡ true =
        eq-eqb b.item s.index (sym (binding_item doc s b (stand s (in_front s rest)) is)) in
        rw (at, same) refl

    other : (b : Bind) → Contains (filter_map binding_of rest) b → slice_get bs place ≡ Some b
        → next_at bs place s.index ≡ None
    other b h at =
        let o = out_filter_map binding_of rest b h in
        let later : suc s.index ≤ o.0.index = at_least (suc s.index) rest o.0 rises o.1 in
        let item : o.0.index ≡ b.item = binding_item doc o.0 b (stand o.0 (in_rest o.0 s rest o.1)) o.2 in
        let differs : (b.item == s.index) ≡ false =
        ne_eqb b.item s.index (λ (e : b.item ≡ s.index). omega (arith, later, item, e)) in
        rw (at, differs) refl

    past : next_at bs place s.index ≡ None → binding_of s ≡ None → drop place bs ≡ filter_map binding_of rest
        → (next_at bs place s.index ≡ binding_of s)
        × (drop (place + length (option_to_list (next_at bs place s.index))) bs ≡ filter_map binding_of rest)
    past next is at =
        let same : place + 0 ≡ place = omega arith in (
          next ∙ sym is,
          ap (λ (o : Option Bind). drop (place + length (option_to_list o)) bs) next
              ∙ ap (λ (n : ℕ). drop n bs) same ∙ at,
        )

    front : (l : List Bind) → filter_map binding_of rest ≡ l → drop place bs ≡ l → next_at bs place s.index ≡ None
    front [] e at = (let none = got_none bs place at in rw none refl)
    front (b ∷ l) e at =
        other b (subst (λ (k : List Bind). Contains k b) (sym e) (in_front b l)) (got_front bs place b l at).0

    by : (o : Option Bind) → binding_of s ≡ o
        → (next_at bs place s.index ≡ binding_of s)
        × (drop (place + length (option_to_list (next_at bs place s.index))) bs ≡ filter_map binding_of rest)
    by None is =
        let at : drop place bs ≡ filter_map binding_of rest =
        left ∙ ap (λ (o : Option Bind). cons_option o (filter_map binding_of rest)) is in
        past (front (filter_map binding_of rest) refl at) is at
    by (Some b) is =
        let at : drop place bs ≡ b ∷ filter_map binding_of rest =
        left ∙ ap (λ (o : Option Bind). cons_option o (filter_map binding_of rest)) is in
        let got = got_front bs place b (filter_map binding_of rest) at in
        let next = found b is got.0 in
        let one : place + 1 ≡ suc place = omega arith in (
          next ∙ sym is,
          ap (λ (o : Option Bind). drop (place + length (option_to_list o)) bs) next
              ∙ ap (λ (n : ℕ). drop n bs) one ∙ got.1,
        )
