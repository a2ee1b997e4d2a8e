-- The classes of numbers, the first lines of ties, and the numbers of instances.
use Rattle.std.proofs.Common.{◌≡◌, inl, inr, ℕ, zero, suc, ◌+◌, ◌-◌, ◌<◌, ◌≤◌, ◌==◌, nat_lt, Bool, true, false, cond, ◌&&◌, List, [], ◌∷◌, length, get_or, map, not, take, ◌++◌, append-nil, Option, Some, None, is_some, slice_get, flat_map, if◌then◌else◌, refl, sym, ap, ◌∙◌, arith, zero-add}
use Rattle.std.specs.List.{filter, find, list_any, position, position_from}
use Rattle.std.specs.Option.{option_map, option_or, option_map_or, option_and_then, option_to_list, unwrap_or}
use Rattle.std.proofs.lemmas.Bool.{true≢false, eq-eqb, eqb-true, le-ltb, cases_lt}
use Rattle.std.proofs.lemmas.Iterator.Adapters.{position_from-zero}
use Rattle.std.proofs.Math.Seq.{take-length}
use Rattle.std.proofs.lemmas.Option.{slice_get_past}
use Rattle.dg_lex.specs.Bytes.{Bytes}
use Rattle.dg_hilt.specs.Table.{HiltRow, hilt_classes}
use Rattle.dg_decl.specs.declared.document.Doc.{Doc}
use Rattle.dg_decl.specs.declared.component.Class.{Class}
use Rattle.dg_decl.specs.declared.item.Item.{Item}
use Rattle.dg_decl.specs.declared.item.Item.TheVariants as item
use Rattle.dg_decl.specs.Document.{Statement, statements, statements_from, open_behind, stands_in}
use Rattle.dg_decl.specs.Limits.{is_open_line}
use Rattle.dg_decl.specs.Names.{outer_name, is_called}
use Rattle.dg_decl.specs.Components.{hilt_count, hilt_row, class_count, class_of_number, component_classes, component_headers, header_of, header_item, class_name, deps_of, class_named, dependency_in}
use Rattle.dg_decl.specs.Stages.Names.{instance_name}
use Rattle.dg_decl.specs.Stages.Session.{opened_before, class_opened, first_of}
use Rattle.dg_decl.specs.Stages.Links.{Tie, is_tied, is_tied_before, untied}
use Rattle.dg_decl.proofs.NumberBounds.{none_is_not_some, same_value}
use Rattle.dg_names.proofs.StatementLemmas.{found_at}
use Rattle.dg_slots.proofs.ClassLemmas.{class_at, classes_counted}
use Rattle.dg_slots.specs.Links.{ties, linked, linked_by, links_of_line, links_of}
use Rattle.dg_slots.specs.Sessions.{open_lines, number_of_line, instance_before}
use Rattle.dg_compdep.specs.Ties.{first_index, number_behind, numbers_from, AreNumbers, links_by}
use Rattle.dg_compdep.proofs.OpenedLemmas.{early, guarded, found_before}

-- ---- classes by number

pub class_got : (doc : Doc) (c : ℕ) (class : Class) → Some class ≡ slice_get (component_classes
    doc) c → class ≡ class_of_number doc c
class_got doc c class e = elim (cases_lt c (class_count doc)) [
  | inl lt ↦ same_value class (class_of_number doc c) (e ∙ class_at doc c lt)
  | inr le ↦
      absurd (none_is_not_some class (sym (slice_get_past (component_classes doc) c (omega (
        arith,
        classes_counted doc,
      ))) ∙ sym e))
]

pub class_lacks : (doc : Doc) (c : ℕ) → None ≡ slice_get (component_classes doc) c
    → class_count doc ≤ c
class_lacks doc c e = elim (cases_lt c (class_count doc)) [
  | inl lt ↦ absurd (none_is_not_some (class_of_number doc c) (e ∙ class_at doc c lt))
  | inr le ↦ le
]

header_past : (doc : Doc) (c : ℕ) → class_count doc ≤ c → header_of doc c ≡ None
unfolding header_of class_count
header_past doc c le =
    ap (λ b. cond b None (slice_get (component_headers doc) (c - hilt_count)))
    (le-ltb c hilt_count (omega arith))
    ∙ slice_get_past (component_headers doc) (c - hilt_count) (omega arith)

pub deps_past : (doc : Doc) (c : ℕ) → class_count doc ≤ c → deps_of doc c ≡ []
unfolding deps_of
deps_past doc c le =
    ap (λ (o : Option Statement). Rattle.std.specs.List.filter_map (λ s. option_and_then
    (class_named doc) (dependency_in s.item)) (flat_map (λ h. filter (stands_in h.index)
    (statements doc)) (option_to_list o))) (header_past doc c le)

row_past : (doc : Doc) (c : ℕ) → class_count doc ≤ c → hilt_row c ≡ None
unfolding class_count
row_past doc c le = slice_get_past hilt_classes c (omega arith)

pub name_past : (doc : Doc) (c : ℕ) → class_count doc ≤ c → class_name doc c ≡ []
unfolding class_name
name_past doc c le =
    ap (λ (o : Option HiltRow). unwrap_or (option_or (option_map (λ row. row.class) o)
    (option_and_then outer_name (header_item doc c))) []) (row_past doc c le)
    ∙ ap (λ (o : Option Statement). unwrap_or (option_and_then outer_name (option_map (λ h.
    h.item) o)) []) (header_past doc c le)

-- ---- first lines

any_is_found : {A : Type 0} (p : A → Bool) (xs : List A) → is_some (find p xs) ≡ list_any p xs
any_is_found p [] = refl
any_is_found p (x ∷ xs) = by (p x) (any_is_found p xs)
  where
    by : (b : Bool) → is_some (find p xs) ≡ list_any p xs
        → is_some (cond b (Some x) (find p xs)) ≡ Rattle.std.proofs.Common.◌||◌ b (list_any p xs)
    by true e = refl
    by false e = e

pub tied : (doc : Doc) (from : Bytes) (class : ℕ) (o : Option ℕ)
    → o ≡ first_index doc from class (statements doc) → is_some o ≡ is_tied doc from class
tied doc from class o e =
    ap is_some e ∙ by (find (ties doc from class) (statements doc))
    ∙ any_is_found (ties doc from class) (statements doc)
  where
    by : (o : Option Statement) → is_some (option_map (λ s. s.index) o) ≡ is_some o
    by None = refl
    by (Some s) = refl

abbrev lower : ℕ → Option ℕ → Bool
lower bound o = option_map_or (λ k. nat_lt k bound) o false

pub tied_before : (doc : Doc) (s : Statement) (t : Tie) (from : Bytes) (class : ℕ) (o : Option ℕ)
    → record { from = from; class = class } ≡ t
    → o ≡ first_index doc from class (statements doc)
    → lower s.index o ≡ is_tied_before doc s t
tied_before doc s t from class o same e =
    ap (lower s.index) e ∙ by (find (ties doc from class) (statements doc))
    ∙ ap is_some (sym (found_before doc s.index (ties doc from class)))
    ∙ any_is_found (early s.index (ties doc from class)) (statements doc)
    ∙ ap (is_tied_before doc s) same
  where
    seen : (b : Bool) (t : Statement) → b ≡ is_some (if b then Some t else None)
    seen true t = refl
    seen false t = refl

    by : (o : Option Statement) → lower s.index (option_map (λ t. t.index) o)
        ≡ is_some (guarded s.index o)
    by None = refl
    by (Some t) = seen (nat_lt t.index s.index) t

pub linked_found : (doc : Doc) (from : Bytes) (class k : ℕ)
    → Some k ≡ first_index doc from class (statements doc)
    → option_and_then (linked_by doc) (slice_get (statements doc) k) ≡ linked doc from class
unfolding linked
linked_found doc from class k e =
    ap (λ o. option_and_then (linked_by doc) (option_and_then (slice_get (statements doc)) o)) e
    ∙ ap (option_and_then (linked_by doc)) (found_at (ties doc from class) doc)

-- ---- the numbers of instances

abbrev opens : Statement → Bool
opens s = is_open_line s.item

numbered : (doc : Doc) (k : ℕ) (b : Option ℕ) (xs : List Item) (j n : ℕ) (o : Statement)
    → slice_get (statements_from doc k b xs) j ≡ Some o → opens o ≡ true
    → slice_get (numbers_from n (statements_from doc k b xs)) j
    ≡ position_from (λ s. s.index == k + j) n (filter opens (statements_from doc k b xs))
numbered doc k b [] j n o e is = absurd (none_is_not_some o e)
numbered doc k b (x ∷ xs) zero n o e is =
    let s : Statement = record { index = k; line = get_or doc.lines k 0; block = b; item = x } in
    let rest = statements_from doc (suc k) (open_behind b k x) xs in
    let here : opens s ≡ true = ap opens (same_value s o e) ∙ is in
    let number : (k == k + 0) ≡ true = eq-eqb k (k + 0) (omega arith) in
    sym (ap (λ t. position_from (λ r. r.index == k + 0) n (cond t (s ∷ filter opens rest) (filter
    opens rest))) here
    ∙ ap (λ t. cond t (Some n) (position_from (λ r. r.index == k + 0) (n + 1) (filter opens rest)))
    number)
numbered doc k b (x ∷ xs) (suc j) n o e is =
    let next : suc k + j ≡ k + suc j = omega arith in
    numbered doc (suc k) (open_behind b k x) xs j (number_behind n s) o e is
    ∙ ap (λ m. position_from (λ r. r.index == m) (number_behind n s) (filter opens rest)) next
    ∙ by (opens s)
  where
    s : Statement
    s = record { index = k; line = get_or doc.lines k 0; block = b; item = x }

    rest : List Statement
    rest = statements_from doc (suc k) (open_behind b k x) xs

    other : (t : Bool) → (k == k + suc j) ≡ t → t ≡ false
    other true e =
        let same : k ≡ k + suc j = eqb-true k (k + suc j) e in absurd (omega arith)
    other false e = refl

    by : (t : Bool) → position_from (λ r. r.index == k + suc j) (if t then n + 1 else n) (filter
        opens rest)
        ≡ position_from (λ r. r.index == k + suc j) n (cond t (s ∷ filter opens rest) (filter opens
        rest))
    by true = sym (ap (λ t. cond t (Some n) (position_from (λ r. r.index == k + suc j) (n + 1)
        (filter opens rest))) (other (k == k + suc j) refl))
    by false = refl

-- what is opened before a statement stands at its index, and is an `open` line
opened_is_open : (n : Bytes) (o : Statement) → is_called instance_name n o ≡ true → opens o ≡ true
opened_is_open n o e = by o.item e
  where
    by : (x : Item) → is_called instance_name n (record {
      index = 0;
      line = 0;
      block = None;
      item
          = x;
    }) ≡ true → is_open_line x ≡ true
    by (item.OpenLine m class parent args) e = refl
    by x e = absurd (true≢false (sym e))

found_passes : {A : Type 0} (p : A → Bool) (xs : List A) (x : A) → find p xs ≡ Some x → p x ≡ true
found_passes p [] x e = absurd (none_is_not_some x e)
found_passes {A = A} p (y ∷ ys) x e = by (p y) refl e (found_passes p ys x)
  where
    by : (b : Bool) → p y ≡ b → cond b (Some y) (find p ys) ≡ Some x
        → (find p ys ≡ Some x → p x ≡ true) → p x ≡ true
    by true is e later = ap p (sym (same_value y x e)) ∙ is
    by false is e later = later e

and_second : (a b : Bool) → (a && b) ≡ true → b ≡ true
and_second true b e = e
and_second false b e = absurd (true≢false (sym e))

stands_there : (p : Statement → Bool) (doc : Doc) (o : Statement) → find p (statements doc) ≡ Some o
    → slice_get (statements doc) o.index ≡ Some o
stands_there p doc o e =
    ap (λ (q : Option Statement). option_and_then (slice_get (statements doc)) (option_map (λ s.
    s.index) q)) (sym e)
    ∙ found_at p doc ∙ e

number_of : (doc : Doc) (o : Statement) → slice_get (statements doc) o.index ≡ Some o
    → opens o ≡ true
    → slice_get (numbers_from 0 (statements doc)) o.index ≡ number_of_line doc o
unfolding statements
number_of doc o there is =
    numbered doc 0 None doc.items o.index 0 o there is
    ∙ ap (λ m. position_from (λ s. s.index == m) 0 (open_lines doc)) (zero-add o.index)
    ∙ sym (position_from-zero (λ s. s.index == o.index) (open_lines doc))

pub number_found : (doc d : Doc) (s : Statement) (n : Bytes) (o : Statement) (index : ℕ) (numbers
    list : List ℕ) → d ≡ doc → AreNumbers d numbers → list ≡ numbers
    → Some o ≡ opened_before d s n → index ≡ o.index
    → slice_get list index ≡ instance_before doc s n
unfolding instance_before
number_found doc d s n o index numbers list same are is found here =
    let p : Statement → Bool = λ e. nat_lt e.index s.index && is_called instance_name n e in
    let passes : p o ≡ true = found_passes p (statements d) o (sym found) in
    ap (λ (xs : List ℕ). slice_get xs index) (is ∙ are)
    ∙ ap (slice_get (numbers_from 0 (statements d))) here
    ∙ number_of d o (stands_there p d o (sym found))
    (opened_is_open n o (and_second (nat_lt o.index s.index) (is_called instance_name n o) passes))
    ∙ ap (option_and_then (number_of_line d)) found
    ∙ ap (λ (e : Doc). option_and_then (number_of_line e) (opened_before e s n)) same

-- ---- the dependencies without a tie

first_found : (f : ℕ → Bytes) (p : ℕ → Bool) (xs : List ℕ)
    → option_to_list (option_map f (find p xs)) ≡ first_of (map f (filter p xs))
first_found f p [] = refl
first_found f p (x ∷ xs) = by (p x) (first_found f p xs)
  where
    by : (b : Bool) → option_to_list (option_map f (find p xs)) ≡ first_of (map f (filter p xs))
        → option_to_list (option_map f (cond b (Some x) (find p xs)))
        ≡ first_of (map f (cond b (x ∷ filter p xs) (filter p xs)))
    by true e = refl
    by false e = e

abbrev lacks : Doc → Bytes → ℕ → Bool
lacks doc n d = not (is_tied doc n d)

pub first_lacking : (doc : Doc) (s : Statement) (n : Bytes) (class : ℕ) (o : Option ℕ)
    → instance_name s.item ≡ Some n → Some class ≡ class_opened doc s
    → o ≡ find (lacks doc n) (deps_of doc class)
    → option_to_list (option_map (class_name doc) o)
    ≡ first_of (map (class_name doc) (untied doc s))
first_lacking doc s n class o named opened is =
    ap (λ q. option_to_list (option_map (class_name doc) q)) is
    ∙ first_found (class_name doc) (lacks doc n) (deps_of doc class)
    ∙ ap (λ xs. first_of (map (class_name doc) xs))
    (sym (ap (λ q. flat_map (λ m. filter (lacks doc m) (flat_map (deps_of doc) (option_to_list
    (class_opened doc s)))) (option_to_list q)) named
    ∙ append-nil (filter (lacks doc n) (flat_map (deps_of doc) (option_to_list (class_opened doc
    s))))
    ∙ ap (λ q. filter (lacks doc n) (flat_map (deps_of doc) (option_to_list q))) (sym opened)
    ∙ ap (filter (lacks doc n)) (append-nil (deps_of doc class))))

-- ---- the links of all instances

all_linked : (doc : Doc) (ss : List Statement)
    → flat_map (links_by doc) ss ≡ map (links_of_line doc) (filter opens ss)
all_linked doc [] = refl
all_linked doc (s ∷ ss) = by (opens s) (all_linked doc ss)
  where
    by : (b : Bool) → flat_map (links_by doc) ss ≡ map (links_of_line doc) (filter opens ss)
        → map (links_of_line doc) (cond b (s ∷ []) []) ++ flat_map (links_by doc) ss
        ≡ map (links_of_line doc) (cond b (s ∷ filter opens ss) (filter opens ss))
    by true e = ap (λ xs. links_of_line doc s ∷ xs) e
    by false e = e

pub links_end : (doc : Doc) (ss : List Statement) (i : ℕ) (lists : List (List ℕ))
    → ss ≡ statements doc → i ≤ length ss → length ss ≤ i
    → lists ≡ flat_map (links_by doc) (take i ss) → lists ≡ links_of doc
unfolding links_of
links_end doc ss i lists all le ge is =
    let whole : i ≡ length ss = omega arith in
    is ∙ ap (flat_map (links_by doc)) (ap (λ n. take n ss) whole ∙ take-length ss ∙ all)
    ∙ all_linked doc (statements doc)

-- ---- empty lists

pub no_items : {A : Type 0} (xs : List A) → length xs ≡ 0 → xs ≡ []
no_items [] e = refl
no_items (x ∷ xs) e = absurd (omega arith)
