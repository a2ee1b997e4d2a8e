-- Which modules are replaced, included and reached.
use Rattle.std.proofs.Common.{◌≡◌, ◌⊎◌, inl, inr, ◌↔◌, IsTrue, ℕ, zero, suc, ◌+◌, ◌<◌, ◌≤◌, ◌^◌, Bool, true, false, cond, if◌then◌else◌, not, ◌&&◌, ◌||◌, nat_lt, nat_eq, List, [], ◌∷◌, ◌++◌, length, get_or, drop, map, replicate, All, Contains, filter, filter_map, Option, Some, None, option_map, unwrap_or, slice_get, slice_index, slice_index_or, slice_set, Vec, refl, sym, ap, subst, ◌∙◌, append_assoc, append-nil, drop-cons, arith}
use Rattle.std.specs.Global.{Global}
use Rattle.std.specs.List.{list_any, cons_option, range_with_len}
use Rattle.std.proofs.lemmas.Bool.{false≢true, true≢false, cases_lt, cases_eq, ltb-true, lt-ltb, le-ltb, eq-eqb, eqb-true, ne_eqb}
use Rattle.std.proofs.lemmas.List.{length-set, length-replicate, get_or-set_same, get_or-set_other, get_or_past, get_or-map, length-map, map_push, length-append}
use Rattle.std.proofs.Math.ListN.{get_or-append}
use Rattle.std.proofs.Math.Seq.{get_or-append_seam}
use Rattle.std.proofs.lemmas.Option.{none-some, same_Some, slice_get_past, slice_get_within}
use Rattle.dg_lex.specs.Bytes.{Bytes, is_among}
use Rattle.dg_hilt.specs.Names.{predefined_names}
use Rattle.dg_num.specs.declared.graph.Graph.{Graph}
use Rattle.dg_num.specs.Graph.{node_count, row_at, successors, IsSound}
use Rattle.dg_num.specs.Walks as num
use Rattle.dg_num.proofs.Rows.{row_at_read, row_at_past, row_at-set_same, row_at-set_other}
use Rattle.dg_decl.specs.declared.document.Doc.{Doc}
use Rattle.dg_decl.specs.declared.item.Item.{Item}
use Rattle.dg_decl.specs.Bounds.{IsBounded}
use Rattle.dg_decl.specs.Document.{Statement, statements, statements_from, open_behind}
use Rattle.dg_decl.specs.Walks as walks
use Rattle.dg_decl.specs.Names.{outer_name, is_called, declared, is_module, module_named, item_at}
use Rattle.dg_decl.specs.Components.{is_number, class_count, is_replaced, replaces_in, includes_in, modules_named, included, seeds, is_reached, is_installed, ancestors}
use Rattle.dg_decl.proofs.NumberBounds.{EachBelow, below_of_each, each_filter, each_filter_map, each_append, below_and_then, found_below, statements_below}
use Rattle.dg_decl.proofs.ComponentLemmas.{reached_by_short_walks}
use Rattle.dg_comps.specs.ClassSets.{has, IsSetOf}
use Rattle.dg_comps.specs.Rows.{indices, is_annotated, is_installed_at, AreRows}
use Rattle.dg_comps.specs.Tables.{is_ancestor, KnowsAncestors, KnowsReplaced, kept_module, IsIncludes, IsReachedSet, KnowsReached}
use Rattle.dg_comps.proofs.SetLemmas.{none_has}
use Rattle.dg_comps.proofs.ParentLemmas.{any_same, ancestors_below}
use Rattle.dg_comps.proofs.StatementLemmas.{Each, all_stand}
use Rattle.dg_comps.specs.Stands.{Stands}

-- ---- tests of lists, element by element

pub or_false : (b : Bool) → b ≡ (b || false)
or_false true = refl
or_false false = refl

or_moved : (a b c : Bool) → ((a || b) || c) ≡ (a || (b || c))
or_moved true b c = refl
or_moved false b c = refl

pub any_drop : {A : Type 0} (p : A → Bool) (xs : List A) (i : ℕ) (x : A) → i < length xs
    → get_or xs i x ≡ x → list_any p (drop i xs) ≡ (p x || list_any p (drop (i + 1) xs))
any_drop p xs i x lt at =
    let next : suc i ≡ i + 1 = omega arith in
    ap (list_any p) (drop-cons xs i x lt) ∙ ap (λ y. p y || list_any p (drop (suc i) xs)) at
    ∙ ap (λ n. p x || list_any p (drop n xs)) next

pub dropped_all : {A : Type 0} (xs : List A) (i : ℕ) → length xs ≤ i → drop i xs ≡ []
dropped_all [] zero le = refl
dropped_all [] (suc i) le = refl
dropped_all (x ∷ xs) zero le = absurd (omega arith)
dropped_all (x ∷ xs) (suc i) le = dropped_all xs i (omega arith)

-- marks by number, of which each tells so far whether an element before this place passes its test,
-- or it was marked before
pub record MarksSoFar {A : Type 0} (test : ℕ → A → Bool) (before : ℕ → Bool) (count : ℕ)
    (xs : List A) (place : ℕ) (marks : List Bool) : Type 0 where
  pub len : length marks ≡ count
  pub each : (m : ℕ) → m < count → (slice_index_or marks m false
      || list_any (test m) (drop place xs))
      ≡ (before m || list_any (test m) xs)

pub marks_begin : {A : Type 0} (test : ℕ → A → Bool) (xs : List A) (marks : List Bool)
    → MarksSoFar test (λ m. slice_index_or marks m false) (length marks) xs 0 marks
marks_begin test xs marks = record { len = refl; each = λ m lt. refl }

pub marks_step : {A : Type 0} (test : ℕ → A → Bool) (before : ℕ → Bool) (count : ℕ) (xs : List A)
    (place : ℕ) (x : A) (marks more : List Bool) → MarksSoFar test before count xs place marks
    → place < length xs → get_or xs place x ≡ x → length more ≡ length marks
    → ((m : ℕ) → m < length marks → slice_index_or more m false
    ≡ (slice_index_or marks m false || test m x))
    → MarksSoFar test before count xs (place + 1) more
marks_step test before count xs place x marks more so lt at same adds =
    let len = so.len in record {
      len = same ∙ len;
      each = λ m small.
          let within : m < length marks = omega arith in
          ap (λ b. b || list_any (test m) (drop (place + 1) xs)) (adds m within)
          ∙ or_moved (slice_index_or marks m false) (test m x) (list_any (test m) (drop
          (place + 1) xs))
          ∙ ap (λ b. slice_index_or marks m false || b) (sym (any_drop (test m) xs place x lt at))
          ∙ so.each m small;
    }

pub marks_end : {A : Type 0} (test : ℕ → A → Bool) (before : ℕ → Bool) (count : ℕ) (xs : List A)
    (place : ℕ) (marks : List Bool) → MarksSoFar test before count xs place marks
    → length xs ≤ place → (m : ℕ) → m < count
    → slice_index_or marks m false ≡ (before m || list_any (test m) xs)
marks_end test before count xs place marks so all m lt =
    or_false (slice_index_or marks m false)
    ∙ ap (λ ys. slice_index_or marks m false
    || list_any (test m) ys) (sym (dropped_all xs place all))
    ∙ so.each m lt

-- one mark more
pub marked : (marks : List Bool) (index m : ℕ) (o : Option ℕ) → Some index ≡ o
    → index < length marks → slice_index_or (slice_set marks index true) m false
    ≡ (slice_index_or marks m false || is_number m o)
marked marks index m o is lt =
    elim (cases_eq m index) [
      | inl same ↦ (let test : is_number m o ≡ true = ap (is_number m) (sym is)
          ∙ eq-eqb index m (sym same) in
          ap (λ n. slice_index_or (slice_set marks index true) n false) same
          ∙ get_or-set_same marks index true false lt
          ∙ sym (or_true (slice_index_or marks m false))
          ∙ ap (λ b. slice_index_or marks m false || b) (sym test))
      | inr ne ↦ (let test : is_number m o ≡ false = ap (is_number m) (sym is)
          ∙ ne_eqb index m (λ e. ne (sym e)) in
          get_or-set_other marks index m true false ne
          ∙ or_false (slice_index_or marks m false)
          ∙ ap (λ b. slice_index_or marks m false || b) (sym test))
    ]
  where
    or_true : (b : Bool) → (b || true) ≡ true
    or_true true = refl
    or_true false = refl

pub not_marked : (b : Bool) (index m count : ℕ) (o : Option ℕ) → Some index ≡ o → count ≤ index
    → m < count → b ≡ (b || is_number m o)
not_marked b index m count o is past lt =
    let test : is_number m o ≡ false = ap (is_number m) (sym is) ∙ ne_eqb index m
    (λ e. absurd (omega arith)) in
    or_false b ∙ ap (λ t. b || t) (sym test)

pub none_marked : (b : Bool) (m : ℕ) (o : Option ℕ) → None ≡ o → b ≡ (b || is_number m o)
none_marked b m o is = or_false b ∙ ap (λ t. b || is_number m t) is

-- ---- which modules there can be

no_or_found : (bound : ℕ) (b : Bool) (o : Option Statement) (s : Statement)
    → (o ≡ Some s → s.index < bound) → cond b None o ≡ Some s → s.index < bound
no_or_found bound true o s found e = absurd (none-some s e)
no_or_found bound false o s found e = found e

declared_below : (doc : Doc) (n : Bytes) (s : Statement) → declared doc n ≡ Some s
    → s.index < length doc.items
unfolding declared
declared_below doc n s e =
    no_or_found (length doc.items) (is_among n predefined_names) _ s
    (found_below (length doc.items) (is_called outer_name n) (statements doc)
    (statements_below doc) s) e

index_below : (bound : ℕ) (b : Bool) (index n : ℕ) → index < bound
    → cond b (Some index) None ≡ Some n → n < bound
index_below bound true index n small e = (let same : index ≡ n = same_Some index n e
    in omega arith)
index_below bound false index n small e = absurd (none-some n e)

pub module_below : (doc : Doc) (n : Bytes) (m : ℕ) → module_named doc n ≡ Some m
    → m < length doc.items
unfolding module_named
module_below doc n m e =
    below_and_then (length doc.items) _ (declared doc n)
    (λ s found k given. index_below (length doc.items) (is_module s.item) s.index k
    (declared_below doc n s found) given) m e

number_is : (m : ℕ) (o : Option ℕ) → is_number m o ≡ true → o ≡ Some m
number_is m None e = absurd (false≢true e)
number_is m (Some n) e = ap Some (eqb-true n m e)

any_none : {A : Type 0} (p : A → Bool) (xs : List A) → ((x : A) → p x ≡ false) → list_any p xs
    ≡ false
any_none p [] none = refl
any_none p (x ∷ xs) none = ap (λ b. b || list_any p xs) (none x) ∙ any_none p xs none

bool_of : (b : Bool) → (b ≡ true → ⊥) → b ≡ false
bool_of true h = absurd (h refl)
bool_of false h = refl

past_is_not_replaced : (doc : Doc) (m : ℕ) → length doc.items ≤ m → is_replaced doc m ≡ false
unfolding is_replaced
past_is_not_replaced doc m past =
    any_none _ (statements doc) (λ s. any_none (λ n. is_number m (module_named doc n))
    (replaces_in s.item) (λ n. bool_of (is_number m (module_named doc n)) (λ e.
    (let lt : m < length doc.items = module_below doc n m (number_is m (module_named doc n) e) in
    absurd (omega arith)))))

-- ---- the modules of names

pub named_cons : (doc : Doc) (n : Bytes) (ns : List Bytes)
    → modules_named doc (n ∷ ns) ≡ modules_named doc (n ∷ []) ++ modules_named doc ns
named_cons doc n ns = from (module_named doc n)
  where
    kept : (b : Bool) (m : ℕ) (ms : List ℕ) → cond b (m ∷ ms) ms ≡ cond b (m ∷ []) [] ++ ms
    kept true m ms = refl
    kept false m ms = refl

    from : (o : Option ℕ) → filter (λ m. not (is_replaced doc m))
        (cons_option o (filter_map (module_named doc) ns))
        ≡ filter (λ m. not (is_replaced doc m)) (cons_option o []) ++ modules_named doc ns
    from None = refl
    from (Some m) = kept (not (is_replaced doc m)) m (modules_named doc ns)

kept_by : (b : Bool) (m : ℕ) → cond (not b) (m ∷ []) [] ≡ (if b then [] else m ∷ [])
kept_by true m = refl
kept_by false m = refl

pub one_named : (doc : Doc) (n : Bytes) (m : ℕ) → Some m ≡ module_named doc n
    → modules_named doc (n ∷ []) ≡ kept_module doc m
one_named doc n m e =
    ap (λ o. filter (λ m. not (is_replaced doc m)) (cons_option o [])) (sym e)
    ∙ kept_by (is_replaced doc m) m

pub none_named : (doc : Doc) (n : Bytes) → None ≡ module_named doc n → modules_named doc (n ∷ [])
    ≡ []
none_named doc n e = ap (λ o. filter (λ m. not (is_replaced doc m)) (cons_option o [])) (sym e)

-- ---- adding what elements give, one by one

-- what was added so far, and what the elements that are left give, is all
abbrev pub AddedSoFar : {A B : Type 0} → (List A → List B) → List B → List A → ℕ → List B → Type 0
AddedSoFar gives before xs place added = added ++ gives (drop place xs) ≡ before ++ gives xs

pub added_step : {A B : Type 0} (gives : List A
    → List B) (before : List B) (xs : List A) (place : ℕ)
    (x : A) (added more : List B) → ((y : A) (ys : List A) → gives (y ∷ ys)
    ≡ gives (y ∷ []) ++ gives ys)
    → AddedSoFar gives before xs place added → place < length xs → get_or xs place x ≡ x
    → more ≡ added ++ gives (x ∷ []) → AddedSoFar gives before xs (place + 1) more
added_step {A} {B} gives before xs place x added more parts so lt at adds =
    let next : place + 1 ≡ suc place = omega arith in
    let rest = drop (suc place) xs in
    ap (λ n. more ++ gives (drop n xs)) next
    ∙ ap (λ (ys : List B). ys ++ gives rest) adds
    ∙ append_assoc added (gives (x ∷ [])) (gives rest)
    ∙ ap (λ (ys : List B). added ++ ys) (sym (parts x rest))
    ∙ ap (λ (y : A). added ++ gives (y ∷ rest)) (sym at)
    ∙ ap (λ (ys : List A). added ++ gives ys) (sym (drop-cons xs place x lt))
    ∙ so

pub added_all : {A B : Type 0} (gives : List A → List B) (before : List B) (xs : List A) (place : ℕ)
    (added : List B) → gives [] ≡ [] → AddedSoFar gives before xs place added → length xs ≤ place
    → added ≡ before ++ gives xs
added_all {A} {B} gives before xs place added none so all =
    sym (append-nil added) ∙ ap (λ (ys : List B). added ++ ys) (sym none)
    ∙ ap (λ (ys : List A). added ++ gives ys) (sym (dropped_all xs place all)) ∙ so

pub kept_cons : (doc : Doc) (m : ℕ) (ms : List ℕ)
    → filter (λ m. not (is_replaced doc m)) (m ∷ ms)
    ≡ filter (λ m. not (is_replaced doc m)) (m ∷ []) ++ filter (λ m. not (is_replaced doc m)) ms
kept_cons doc m ms = from (not (is_replaced doc m))
  where
    from : (b : Bool) → cond b (m ∷ filter (λ m. not (is_replaced doc m)) ms)
        (filter (λ m. not (is_replaced doc m)) ms)
        ≡ cond b (m ∷ []) [] ++ filter (λ m. not (is_replaced doc m)) ms
    from true = refl
    from false = refl

pub kept_one : (doc : Doc) (m : ℕ) → filter (λ m. not (is_replaced doc m)) (m ∷ [])
    ≡ kept_module doc m
kept_one doc m = kept_by (is_replaced doc m) m

-- ---- the table of replaced modules

-- an item replaces the module of this index
abbrev pub replaces_it : Doc → ℕ → Statement → Bool
replaces_it doc m s = list_any (λ n. is_number m (module_named doc n)) (replaces_in s.item)

length_from : (doc : Doc) (index : ℕ) (block : Option ℕ) (items : List Item)
    → length (statements_from doc index block items) ≡ length items
length_from doc index block [] = refl
length_from doc index block (x ∷ xs) =
    ap suc (length_from doc (suc index) (open_behind block index x) xs)

pub statements_length : (doc : Doc) → length (statements doc) ≡ length doc.items
unfolding statements
statements_length doc = length_from doc 0 None doc.items

replaced_by : (doc : Doc) (m : ℕ) → list_any (replaces_it doc m) (statements doc)
    ≡ is_replaced doc m
unfolding is_replaced
replaced_by doc m = refl

pub knows_replaced : (doc : Doc) (place : ℕ) (marks : List Bool)
    → MarksSoFar (replaces_it doc) (λ m. false) (length doc.items) (statements doc) place marks
    → length (statements doc) ≤ place → KnowsReplaced doc marks
knows_replaced doc place marks so all =
    let len = so.len in record {
      len = len;
      each = λ m. elim (cases_lt m (length doc.items)) [
        | inl lt ↦ marks_end (replaces_it doc) (λ m. false) (length doc.items)
            (statements doc) place
            marks so all m lt ∙ replaced_by doc m
        | inr past ↦ (let beyond : length marks ≤ m = omega arith in
            get_or_past marks m false beyond ∙ sym (past_is_not_replaced doc m past))
      ];
    }

none_of_replicate : (n m : ℕ) → get_or (replicate n false) m false ≡ false
none_of_replicate zero m = refl
none_of_replicate (suc n) zero = refl
none_of_replicate (suc n) (suc m) = none_of_replicate n m

pub replaced_begins : (doc : Doc) (marks : List Bool) (n : ℕ) → marks ≡ replicate n false
    → n ≡ length (statements doc)
    → MarksSoFar (replaces_it doc) (λ m. false) (length doc.items) (statements doc) 0 marks
replaced_begins doc marks n is len = record {
  len = ap length is ∙ length-replicate n false ∙ len ∙ statements_length doc;
  each = λ m lt. ap (λ bs. slice_index_or bs m false
      || list_any (replaces_it doc m) (statements doc)) is
      ∙ ap (λ b. b || list_any (replaces_it doc m) (statements doc)) (none_of_replicate n m);
}

-- ---- the graph of includes

-- a row for each of the first items, with the modules that it includes
pub record IncludesSoFar (doc : Doc) (count : ℕ) (rows : List (Vec ℕ Global)) : Type 0 where
  pub len : length rows ≡ count
  pub each : (m : ℕ) → m < count → row_at rows m ≡ included doc m

pub row_of_more : (rows : List (Vec ℕ Global)) (row : Vec ℕ Global) (m : ℕ) → m < length rows
    → row_at (rows ++ row ∷ []) m ≡ row_at rows m
unfolding row_at
row_of_more rows row m lt =
    let small : m < length (map (λ (r : Vec ℕ Global). r.items) rows) = omega (
      arith,
      length-map rows
          (λ (r : Vec ℕ Global). r.items),
    ) in
    ap (λ xs. get_or xs m []) (map_push (λ (r : Vec ℕ Global). r.items) rows row)
    ∙ get_or-append (map (λ (r : Vec ℕ Global). r.items) rows) (row.items ∷ []) [] m small

pub row_of_last : (rows : List (Vec ℕ Global)) (row : Vec ℕ Global)
    → row_at (rows ++ row ∷ []) (length rows) ≡ row.items
unfolding row_at
row_of_last rows row =
    ap (λ xs. get_or xs (length rows) []) (map_push (λ (r : Vec ℕ Global). r.items) rows row)
    ∙ ap (λ n. get_or (map (λ (r : Vec ℕ Global). r.items) rows ++ row.items ∷ []) n [])
    (sym (length-map rows (λ (r : Vec ℕ Global). r.items)))
    ∙ get_or-append_seam (map (λ (r : Vec ℕ Global). r.items) rows) row.items [] []

pub includes_begin : (doc : Doc) (rows : List (Vec ℕ Global)) → rows ≡ [] → IncludesSoFar doc 0 rows
includes_begin doc rows e = record { len = ap length e; each = λ m lt. absurd (omega arith) }

pub includes_step : (doc : Doc) (count : ℕ) (row : Vec ℕ Global) (rows more : List (Vec ℕ Global))
    → IncludesSoFar doc count rows → more ≡ rows ++ row ∷ [] → row.items ≡ included doc count
    → IncludesSoFar doc (count + 1) more
includes_step doc count row rows more so adds is =
    let len = so.len in record {
      len = ap length adds ∙ length-append rows (row ∷ []) ∙ omega arith;
      each = λ m lt. elim (cases_lt m count) [
        | inl below ↦ (let within : m < length rows = omega arith in
            ap (λ rs. row_at rs m) adds ∙ row_of_more rows row m within ∙ so.each m below)
        | inr high ↦ (let here : m ≡ length rows = omega arith in let same : count
            ≡ m = omega arith in
            ap (λ rs. row_at rs m) adds ∙ ap (row_at (rows ++ row ∷ [])) here ∙ row_of_last rows row
            ∙ is ∙ ap (included doc) same)
      ];
    }

past_includes_nothing : (doc : Doc) (m : ℕ) → length doc.items ≤ m → included doc m ≡ []
unfolding included
past_includes_nothing doc m past =
    ap (λ (o : Option Item). modules_named doc (unwrap_or (option_map includes_in o) []))
    (slice_get_past doc.items m past)

pub includes_end : (doc : Doc) (count : ℕ) (graph : Graph)
    → IncludesSoFar doc count graph.next.items
    → count ≡ length doc.items → IsIncludes doc graph
includes_end doc count graph so all =
    let len = so.len in record {
      nodes = len ∙ all;
      edges = λ m. elim (cases_lt m count) [
        | inl lt ↦ so.each m lt
        | inr past ↦ (let beyond : length graph.next.items ≤ m = omega arith in
            let high : length doc.items ≤ m = omega arith in
            row_at_past graph.next.items m beyond ∙ sym (past_includes_nothing doc m high))
      ];
    }

-- ---- what is reached

kept_below : (doc : Doc) (ns : List Bytes) → EachBelow (length doc.items) (modules_named doc ns)
kept_below doc ns =
    each_filter (length doc.items) (λ m. not (is_replaced doc m)) _
    (each_filter_map (length doc.items) (module_named doc) ns
    (λ name k e. module_below doc name k e))

included_below : (doc : Doc) (m n : ℕ) → Contains (included doc m) n → n < length doc.items
unfolding included
included_below doc m n c = below_of_each (length doc.items) _ n (kept_below doc _) c

indices_below : (bound : ℕ) (p : Statement → Bool) (ss : List Statement)
    → Each (λ s. s.index < bound) ss
    → EachBelow bound (map (λ (s : Statement). s.index) (filter p ss))
indices_below bound p [] each = tt
indices_below bound p (s ∷ ss) each = from (p s) (indices_below bound p ss each.1)
  where
    from : (b : Bool) → EachBelow bound (map (λ (s : Statement). s.index) (filter p ss))
        → EachBelow bound (map (λ (s : Statement). s.index) (cond b (s ∷ filter p ss)
        (filter p ss)))
    from true rest = (each.0, rest)
    from false rest = rest

stands_below : (doc : Doc) (ss : List Statement) → Each (Stands doc) ss
    → Each (λ s. s.index < length doc.items) ss
stands_below doc [] each = tt
stands_below doc (s ∷ ss) each =
    (slice_get_within doc.items s.index s.item each.0.item, stands_below doc ss each.1)

seeds_below : (doc : Doc) (class : ℕ) → EachBelow (length doc.items) (seeds doc class)
unfolding seeds
seeds_below doc class =
    each_append (length doc.items) (modules_named doc _) _ (kept_below doc _)
    (each_filter (length doc.items) (λ m. not (is_replaced doc m)) _
    (indices_below (length doc.items) _ (statements doc) (stands_below doc (statements doc)
    (all_stand doc))))

all_from_each : (bound : ℕ) (xs : List ℕ) → EachBelow bound xs → All (λ x. x < bound) xs
all_from_each bound [] each k d lt = absurd (omega arith)
all_from_each bound (x ∷ xs) each zero d lt = each.0
all_from_each bound (x ∷ xs) each (suc k) d lt = all_from_each bound xs each.1 k d (omega arith)

pub seeds_are_nodes : (doc : Doc) (graph : Graph) (class : ℕ) (list : List ℕ) → IsIncludes doc graph
    → list ≡ seeds doc class → All (λ node. node < node_count graph) list
seeds_are_nodes doc graph class list is same =
    let P : List ℕ → Type 0 = λ xs. All (λ node. node < node_count graph) xs in
    let Q : ℕ → Type 0 = λ n. All (λ node. node < n) (seeds doc class) in
    subst P (sym same) (subst Q (sym is.nodes) (all_from_each (length doc.items) (seeds doc class)
    (seeds_below doc class)))

pub graph_is_sound : (doc : Doc) (graph : Graph) → IsBounded doc → IsIncludes doc graph
    → IsSound graph
graph_is_sound doc graph bounded is =
    let nodes = is.nodes in let items = bounded.items in record {
      in_range = λ a b edge. (let P : List ℕ → Type 0 = λ xs. Contains xs b in
          let lt : b < length doc.items = included_below doc a b (subst P (is.edges a) edge) in
          omega arith);
      small = omega arith;
    }

-- walks by two functions that give the same
walk_is : (doc : Doc) (graph : Graph) → IsIncludes doc graph → (roots : List ℕ) (n a b : ℕ)
    → walks.IsReached (included doc) roots a → num.Walk (successors graph) n a b
    → walks.IsReached (included doc) roots b
walk_is doc graph is roots zero a b r w = (let P : ℕ → Type 0 = λ m. walks.IsReached (included doc)
    roots m in subst P w r)
walk_is doc graph is roots (suc n) a b r w =
    let P : List ℕ → Type 0 = λ xs. Contains xs w.0 in
    walk_is doc graph is roots n w.0 b (walks.step a w.0 r (subst P (is.edges a) w.1)) w.2

one_longer : (graph : Graph) (n a b c : ℕ) → num.Walk (successors graph) n a b
    → Contains (successors graph b) c → num.Walk (successors graph) (suc n) a c
one_longer graph zero a b c w e = (
  c,
  (let P : ℕ → Type 0 = λ m. Contains (successors graph m) c in
      subst P (sym w) e),
  refl,
)
one_longer graph (suc n) a b c w e = (w.0, w.1, one_longer graph n w.0 b c w.2 e)

is_walk : (doc : Doc) (graph : Graph) → IsIncludes doc graph → (roots : List ℕ) (m : ℕ)
    → walks.IsReached (included doc) roots m → num.IsReached (successors graph) roots m
is_walk doc graph is roots m (walks.root n c) = (n, c, (0, refl))
is_walk doc graph is roots m (walks.step k n r c) =
    let before = is_walk doc graph is roots k r in
    let P : List ℕ → Type 0 = λ xs. Contains xs n in (
      before.0,
      before.1,
      (
        suc before.2.0,
        one_longer graph before.2.0 before.0 k n before.2.1
            (subst P (sym (is.edges k)) c),
      ),
    )

same_truth : (a b : Bool) → (a ≡ true → b ≡ true) → (b ≡ true → a ≡ true) → a ≡ b
same_truth true b there back = sym (there refl)
same_truth false true there back = back refl
same_truth false false there back = refl

pub reached_marks : (doc : Doc) (graph : Graph) (class : ℕ) (list : List ℕ) (marks : List Bool)
    → IsIncludes doc graph → list ≡ seeds doc class
    → num.TellsExactly graph (num.IsReached (successors graph) list) marks
    → (m : ℕ) → m < length doc.items → slice_index_or marks m false ≡ is_reached doc class m
reached_marks doc graph class list marks is same tells m lt =
    let node : m < node_count graph = omega (arith, is.nodes) in
    let exact = tells.exact m node in
    let short = reached_by_short_walks doc class m in
    let P : List ℕ → Type 0 = λ xs. num.IsReached (successors graph) xs m in
    same_truth (slice_index_or marks m false) (is_reached doc class m)
    (λ h. (let r = subst P same (exact.0 h) in
    short.1 (walk_is doc graph is (seeds doc class) r.2.0 r.0 m (walks.root r.0 r.1) r.2.1)))
    (λ h. exact.1 (subst P (sym same) (is_walk doc graph is (seeds doc class) m (short.0 h))))

pub marks_length : (doc : Doc) (graph : Graph) (P : ℕ → Type 0) (marks : List Bool)
    → IsIncludes doc graph → num.TellsExactly graph P marks → length marks ≡ length doc.items
marks_length doc graph P marks is tells = tells.for_each_node ∙ is.nodes

-- ---- sets of classes by item

-- what the sets have, once the marks before this place have been added to what they were before
pub record AddedClass (before : List ℕ) (marks : List Bool) (class place : ℕ) (sets : List ℕ)
    : Type 0 where
  pub len : length sets ≡ length before
  pub done : (m other : ℕ) → m < place → m < length before → has (slice_index sets m) other
      ≡ (has (slice_index before m) other || (nat_eq other class && slice_index_or marks m false))
  pub rest : (m : ℕ) → place ≤ m → slice_index sets m ≡ slice_index before m

pub class_begins : (before : List ℕ) (marks : List Bool) (class : ℕ)
    → AddedClass before marks class 0 before
class_begins before marks class = record {
  len = refl;
  done = λ m other lt within. absurd (omega arith);
  rest = λ m le. refl;
}

pub class_step : (before : List ℕ) (marks : List Bool) (class place set : ℕ) (mark : Bool)
    (sets more : List ℕ) → AddedClass before marks class place sets → place < length before
    → mark ≡ slice_index_or marks place false
    → ((other : ℕ) → has set other
    ≡ (has (slice_index sets place) other || (nat_eq other class && mark)))
    → more ≡ slice_set sets place set → AddedClass before marks class (place + 1) more
class_step before marks class place set mark sets more so lt at adds is =
    let len = so.len in
    let within : place < length sets = omega arith in
    record {
      len = ap length is ∙ length-set sets place set ∙ len;
      done = λ m other small inside. elim (cases_lt m place) [
        | inl below ↦ (let ne : m ≡ place → ⊥ = λ e. absurd (omega arith) in
            ap (λ xs. has (slice_index xs m) other) is
            ∙ ap (λ n. has n other) (get_or-set_other sets place m set 0 ne)
            ∙ so.done m other below inside)
        | inr high ↦ (let same : m ≡ place = omega arith in let low : place ≤ place = omega arith in
            ap (λ xs. has (slice_index xs m) other) is
            ∙ ap (λ n. has (slice_index (slice_set sets place set) n) other) same
            ∙ ap (λ n. has n other) (get_or-set_same sets place set 0 within)
            ∙ adds other
            ∙ ap (λ n. has n other || (nat_eq other class && mark)) (so.rest place low)
            ∙ ap (λ b. has (slice_index before place) other || (nat_eq other class && b)) at
            ∙ ap (λ n. has (slice_index before n) other
            || (nat_eq other class && slice_index_or marks n false)) (sym same))
      ];
      rest = λ m le. (let ne : m ≡ place → ⊥ = λ e. absurd (omega arith) in
          let high : place ≤ m = omega arith in
          ap (λ xs. slice_index xs m) is ∙ get_or-set_other sets place m set 0 ne ∙ so.rest m high);
    }

pub class_ends : (before : List ℕ) (marks : List Bool) (class place : ℕ) (sets : List ℕ)
    → AddedClass before marks class place sets → length before ≤ place → (m other : ℕ)
    → m < length before → has (slice_index sets m) other
    ≡ (has (slice_index before m) other || (nat_eq other class && slice_index_or marks m false))
class_ends before marks class place sets so all m other lt = so.done m other (omega arith) lt

-- the sets of items, by the classes below a number
pub record ReachedSoFar (doc : Doc) (count : ℕ) (sets : List ℕ) : Type 0 where
  pub len : length sets ≡ length doc.items
  pub each : (m class : ℕ) → m < length doc.items
      → has (slice_index sets m) class ≡ (nat_lt class count && is_reached doc class m)

none_of_zeros : (n m : ℕ) → ◌≡◌ {A = ℕ} (get_or {A = ℕ} (replicate {A = ℕ} n 0) m 0) 0
none_of_zeros zero m = refl
none_of_zeros (suc n) zero = refl
none_of_zeros (suc n) (suc m) = none_of_zeros n m

pub reached_begins : (doc : Doc) (sets : List ℕ) (n : ℕ) → sets ≡ replicate n 0
    → n ≡ length (statements doc) → ReachedSoFar doc 0 sets
reached_begins doc sets n is len = record {
  len = ap length is ∙ length-replicate n 0 ∙ len ∙ statements_length doc;
  each = λ m class lt. ap (λ xs. has (slice_index xs m) class) is
      ∙ ap (λ k. has k class) (none_of_zeros n m) ∙ none_has class
      ∙ sym (none_below class (is_reached doc class m));
}
  where
    none_below : (class : ℕ) (b : Bool) → (nat_lt class 0 && b) ≡ false
    none_below class b = ap (λ t. t && b) (le-ltb class 0 (omega arith))

pub reached_step : (doc : Doc) (count : ℕ) (marks : List Bool) (sets more : List ℕ)
    → ReachedSoFar doc count sets
    → ((m : ℕ) → m < length doc.items → slice_index_or marks m false ≡ is_reached doc count m)
    → length more ≡ length sets
    → ((m other : ℕ) → m < length sets → has (slice_index more m) other
    ≡ (has (slice_index sets m) other || (nat_eq other count && slice_index_or marks m false)))
    → ReachedSoFar doc (count + 1) more
reached_step doc count marks sets more so told same adds =
    let len = so.len in record {
      len = same ∙ len;
      each = λ m class lt.
          let within : m < length sets = omega arith in
          adds m class within
          ∙ ap (λ b. b || (nat_eq class count && slice_index_or marks m false)) (so.each m class lt)
          ∙ ap (λ b. (nat_lt class count && is_reached doc class m) || (nat_eq class count && b))
          (told m lt)
          ∙ by_place class m;
    }
  where
    by_place : (class m : ℕ) → ((nat_lt class count && is_reached doc class m)
        || (nat_eq class count && is_reached doc count m))
        ≡ (nat_lt class (count + 1) && is_reached doc class m)
    by_place class m =
        elim (cases_eq class count) [
          | inl same ↦ (let equal : nat_eq class count ≡ true = eq-eqb class count same in
              let less : nat_lt class count ≡ false = le-ltb class count (omega arith) in
              let more : nat_lt class (count + 1) ≡ true = lt-ltb class (count + 1) (omega arith) in
              ap (λ b. (b && is_reached doc class m)
              || (nat_eq class count && is_reached doc count m))
              less ∙ ap (λ b. b && is_reached doc count m) equal
              ∙ ap (λ n. is_reached doc n m) (sym same)
              ∙ ap (λ b. b && is_reached doc class m) (sym more))
          | inr ne ↦ elim (cases_lt class count) [
            | inl lt ↦ (let apart : nat_eq class count ≡ false = ne_eqb class count ne in
                let less : nat_lt class count ≡ true = lt-ltb class count lt in
                let more : nat_lt class (count + 1)
                ≡ true = lt-ltb class (count + 1) (omega arith) in
                ap (λ b. (nat_lt class count && is_reached doc class m)
                || (b && is_reached doc count m))
                apart ∙ sym (or_false (nat_lt class count && is_reached doc class m))
                ∙ ap (λ b. b && is_reached doc class m) (less ∙ sym more))
            | inr le ↦ (let apart : nat_eq class count ≡ false = ne_eqb class count ne in
                let less : nat_lt class count ≡ false = le-ltb class count le in
                let high : count + 1 ≤ class = omega (arith, ne) in
                let more : nat_lt class (count + 1) ≡ false = le-ltb class (count + 1) high in
                ap (λ b. (nat_lt class count && is_reached doc class m)
                || (b && is_reached doc count m))
                apart ∙ sym (or_false (nat_lt class count && is_reached doc class m))
                ∙ ap (λ b. b && is_reached doc class m) (less ∙ sym more))
          ]
        ]

pub reached_ends : (doc : Doc) (count : ℕ) (sets : List ℕ) → ReachedSoFar doc count sets
    → count ≡ class_count doc → KnowsReached doc sets
reached_ends doc count sets so all = record {
  len = so.len;
  each = λ m lt class small. so.each m class lt
      ∙ ap (λ b. b && is_reached doc class m) (lt-ltb class count (omega arith));
}

-- ---- what is installed

-- the rows, once the module of an index was added to those of the classes below a number in which
-- it is installed
pub record InstalledSoFar (doc : Doc) (index place : ℕ) (before rows : List (Vec ℕ Global))
    : Type 0 where
  pub each : (class : ℕ) → class < length before → row_at rows class ≡ row_at before class
      ++ (if nat_lt class place && is_installed doc class index then index ∷ [] else [])

pub installed_begins : (doc : Doc) (index : ℕ) (rows : List (Vec ℕ Global))
    → InstalledSoFar doc index 0 rows rows
installed_begins doc index rows = record {
  each = λ class lt. sym (append-nil (row_at rows class))
      ∙ ap (λ b. row_at rows class ++ (if b then index ∷ [] else []))
      (sym (none_below class (is_installed doc class index)));
}
  where
    none_below : (class : ℕ) (b : Bool) → (nat_lt class 0 && b) ≡ false
    none_below class b = ap (λ t. t && b) (le-ltb class 0 (omega arith))

is_installed_by : (doc : Doc) (class index reached above : ℕ) → class < class_count doc
    → IsReachedSet doc index reached → IsSetOf (is_ancestor doc class) above
    → (has reached class && not (list_any (has reached) (ancestors doc class)))
    ≡ is_installed doc class index
unfolding is_installed
is_installed_by doc class index reached above lt is over =
    ap (λ b. b && not (list_any (has reached) (ancestors doc class))) (is class lt)
    ∙ ap (λ b. is_reached doc class index && not b)
    (any_same (has reached) (λ a. is_reached doc a index) (class_count doc) (ancestors doc class)
    (ancestors_below doc class) is)

pub installed_step : (doc : Doc) (index place reached : ℕ) (above : List ℕ) (o : Option ℕ)
    (before rows more : List (Vec ℕ Global)) → KnowsAncestors doc above
    → IsReachedSet doc index reached → InstalledSoFar doc index place before rows
    → length rows ≡ length before → length before ≡ length above → place < length above
    → ((classes : List ℕ) → IsSetOf (λ c. list_any (nat_eq c) classes) (slice_index above place)
    → o ≡ (if has reached place && not (list_any (has reached) classes) then Some place else None))
    → ((other : ℕ) → other < length rows → row_at more other
    ≡ row_at rows other ++ (if is_number other o then index ∷ [] else []))
    → InstalledSoFar doc index (place + 1) before more
installed_step doc index place reached above o before rows more knows is so same long lt tells adds
    =
    let len = knows.len in
    let small : place < class_count doc = omega arith in
    let over = knows.each place small in
    let found = tells (ancestors doc place) over
    ∙ ap (λ b. if b then Some place else None) (is_installed_by doc place index reached
    (slice_index above place) small is over) in
    record {
      each = λ class within.
          let inside : class < length rows = omega arith in
          adds class inside
          ∙ ap (λ (xs : List ℕ). xs ++ (if is_number class o then index ∷ [] else []))
          (so.each class within)
          ∙ append_assoc (row_at before class) _ _
          ∙ ap (λ (xs : List ℕ). row_at before class ++ xs) (by_place class found);
    }
  where
    number_if : (class : ℕ) (b : Bool) → is_number class (if b then Some place else None)
        ≡ (b && nat_eq place class)
    number_if class true = refl
    number_if class false = refl

    and_false : (b : Bool) → (b && false) ≡ false
    and_false true = refl
    and_false false = refl

    and_true : (b : Bool) → (b && true) ≡ b
    and_true true = refl
    and_true false = refl

    by_place : (class : ℕ) → o ≡ (if is_installed doc place index then Some place else None)
        → (if nat_lt class place && is_installed doc class index then index ∷ [] else [])
        ++ (if is_number class o then index ∷ [] else [])
        ≡ (if nat_lt class (place + 1) && is_installed doc class index then index ∷ [] else [])
    by_place class found =
        let number = ap (is_number class) found ∙ number_if class (is_installed doc place index) in
        elim (cases_eq class place) [
          | inl e ↦ (let less : nat_lt class place ≡ false = le-ltb class place (omega arith) in
              let more : nat_lt class (place + 1) ≡ true = lt-ltb class (place + 1) (omega arith) in
              let equal : nat_eq place class ≡ true = eq-eqb place class (sym e) in
              let now : is_number class o ≡ is_installed doc class index = number
              ∙ ap (λ b. is_installed doc place index && b) equal
              ∙ and_true (is_installed doc place index)
              ∙ ap (λ n. is_installed doc n index) (sym e) in
              ap (λ b. (if b && is_installed doc class index then index ∷ [] else [])
              ++ (if is_number class o then index ∷ [] else [])) less
              ∙ ap (λ b. if b then index ∷ [] else []) now
              ∙ ap (λ b. if b && is_installed doc class index then index ∷ [] else []) (sym more))
          | inr ne ↦ (let apart : nat_eq place class
              ≡ false = ne_eqb place class (λ e. ne (sym e)) in
              let now : is_number class o ≡ false = number
              ∙ ap (λ b. is_installed doc place index && b) apart
              ∙ and_false (is_installed doc place index) in
              let same_test : nat_lt class place
              ≡ nat_lt class (place + 1) = below_or_past class ne in
              ap (λ b. (if nat_lt class place && is_installed doc class index then index ∷ [] else
              [])
              ++ (if b then index ∷ [] else [])) now
              ∙ append-nil _
              ∙ ap (λ b. if b && is_installed doc class index then index ∷ [] else []) same_test)
        ]
      where
        below_or_past : (class : ℕ) → (class ≡ place → ⊥)
            → nat_lt class place ≡ nat_lt class (place + 1)
        below_or_past class ne =
            elim (cases_lt class place) [
              | inl lt ↦ lt-ltb class place lt ∙ sym (lt-ltb class (place + 1) (omega arith))
              | inr le ↦ (let high : place + 1 ≤ class = omega (arith, ne) in
                  le-ltb class place le ∙ sym (le-ltb class (place + 1) high))
            ]

pub installed_ends : (doc : Doc) (index place : ℕ) (before rows : List (Vec ℕ Global))
    → InstalledSoFar doc index place before rows → length before ≤ place → (class : ℕ)
    → class < length before → row_at rows class ≡ row_at before class
    ++ (if is_installed doc class index then index ∷ [] else [])
installed_ends doc index place before rows so all class lt =
    so.each class lt
    ∙ ap (λ b. row_at before class ++
    (if b && is_installed doc class index then index ∷ [] else []))
    (lt-ltb class place (omega arith))
