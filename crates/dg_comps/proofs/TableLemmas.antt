-- Tables of names with sets of component classes.
use Rattle.std.proofs.Common.{◌≡◌, ◌⊎◌, inl, inr, ℕ, zero, suc, ◌+◌, ◌<◌, ◌≤◌, Bool, true, false, cond, ◌&&◌, ◌||◌, nat_lt, nat_eq, List, [], ◌∷◌, ◌++◌, length, get_or, drop, map, Option, Some, None, option_map, option_and_then, option_to_list, unwrap_or, slice_get, IfSome, bytes_eq, refl, sym, ap, ◌∙◌, drop-cons, arith}
use Rattle.std.specs.Prelude.{Result, Ok, Err, OnOk}
use Rattle.std.specs.List.{list_any}
use Rattle.std.specs.Map.{lookup}
use Rattle.std.specs.Bool.{one_answer}
use Rattle.std.proofs.lemmas.Bool.{false≢true, cases_lt, cases_eq, eq-eqb, ne_eqb, lt-ltb, le-ltb}
use Rattle.std.proofs.lemmas.List.Folds.{list_any-append}
use Rattle.std.proofs.lemmas.Slice.Eq.{bytes_eq-Decides}
use Rattle.dg_lex.specs.Bytes.{Bytes, is_among}
use Rattle.dg_decl.specs.declared.document.Doc.{Doc}
use Rattle.dg_decl.specs.declared.item.Item.{Item}
use Rattle.dg_decl.specs.Document.{Statement, statements, statements_from, open_behind}
use Rattle.dg_decl.specs.Names.{is_called}
use Rattle.dg_decl.specs.Components.{class_count, hilt_row, header_item, scopes_in, scopes_of, carries, class_around, class_of_block, number_of_header, class_named, entry_point_class, component_headers, hilt_count, is_entry, is_entry_of, is_number}
use Rattle.dg_decl.specs.Stages.Components.{entry_name, has_earlier_entry}
use Rattle.dg_decl.proofs.NumberBounds.{position_below, below_or, below_and_then, same_value, none_is_not_some}
use Rattle.dg_decl.proofs.ComponentLemmas.{class_below}
use Rattle.dg_comps.specs.ClassSets.{has}
use Rattle.dg_comps.specs.ClassTables.{ClassTable, set_of, has_at, KnowsCarriers, KnowsEntries}
use Rattle.dg_comps.specs.Entries.{both, repeats, is_repeated}
use Rattle.dg_comps.proofs.SetLemmas.{none_has}

bytes_turned : (a b : Bytes) → bytes_eq a b ≡ bytes_eq b a
bytes_turned a b =
    one_answer (bytes_eq a b) (bytes_eq b a) (bytes_eq-Decides a b)
    ((λ e. sym ((bytes_eq-Decides b a).0 e)), (λ e. (bytes_eq-Decides b a).1 (sym e)))

or_turned : (a b : Bool) → (a || b) ≡ (b || a)
or_turned true true = refl
or_turned true false = refl
or_turned false true = refl
or_turned false false = refl

or_false : (b : Bool) → b ≡ (b || false)
or_false true = refl
or_false false = refl

or_moved : (a b c : Bool) → ((a || b) || c) ≡ (a || (b || c))
or_moved true b c = refl
or_moved false b c = refl

-- ---- one class more

pub class_added : (old new : ClassTable) (name other : Bytes) (class set c : ℕ)
    → lookup (bytes_eq other) new
    ≡ cond (bytes_eq name other) (Some set) (lookup (bytes_eq other) old)
    → ((o : ℕ) → has set o ≡ (nat_eq o class || has (set_of name old) o))
    → has_at new other c ≡ (has_at old other c || (bytes_eq name other && nat_eq c class))
class_added old new name other class set c found adds = by (bytes_eq name other) refl
  where
    by : (b : Bool) → bytes_eq name other ≡ b
        → has_at new other c ≡ (has_at old other c || (bytes_eq name other && nat_eq c class))
    by true e =
        let same : name ≡ other = (bytes_eq-Decides name other).0 e in
        ap (λ o. has (unwrap_or o 0) c) (found ∙ ap (λ b. cond b (Some set)
        (lookup (bytes_eq other) old)) e)
        ∙ adds c ∙ ap (λ n. nat_eq c class || has (set_of n old) c) same
        ∙ or_turned (nat_eq c class) (has_at old other c)
        ∙ ap (λ b. has_at old other c || (b && nat_eq c class)) (sym e)
    by false e =
        ap (λ o. has (unwrap_or o 0) c) (found ∙ ap (λ b. cond b (Some set)
        (lookup (bytes_eq other) old)) e)
        ∙ or_false (has_at old other c)
        ∙ ap (λ b. has_at old other c || (b && nat_eq c class)) (sym e)

-- ---- scopes

pub one_scope : (scope name : Bytes) (b : Bool)
    → (bytes_eq name scope && b) ≡ (is_among scope (name ∷ []) && b)
one_scope scope name b =
    ap (λ t. t && b) (bytes_turned name scope ∙ or_false (bytes_eq scope name))

pub one_hilt : (scope name : Bytes) (o : Option Bytes) (b : Bool) → Some name ≡ o
    → (bytes_eq name scope && b) ≡ (is_among scope (option_to_list o) && b)
one_hilt scope name o b e =
    one_scope scope name b ∙ ap (λ p. is_among scope (option_to_list p) && b) e

-- what follows from what holds after an `Ok`
pub on_ok : {V E P Q : Type 0} (r : Result V E) → OnOk r P → (P → Q) → OnOk r Q
on_ok (Ok x) p f = f p
on_ok (Err e) p f = tt

-- the table, once a class was added for the scopes before this place
abbrev pub ScopesSoFar : ClassTable → ℕ → List Bytes → ℕ → ClassTable → Type 0
ScopesSoFar before class scopes place table =
    (scope : Bytes) (c : ℕ)
    → (has_at table scope c || (is_among scope (drop place scopes) && nat_eq c class))
    ≡ (has_at before scope c || (is_among scope scopes && nat_eq c class))

split_and : (a b c : Bool) → ((a || b) && c) ≡ ((a && c) || (b && c))
split_and true true true = refl
split_and true true false = refl
split_and true false true = refl
split_and true false false = refl
split_and false b c = refl

pub scopes_step : (before table more : ClassTable) (class place : ℕ) (scopes : List Bytes)
    (name : Bytes) → ScopesSoFar before class scopes place table → place < length scopes
    → get_or scopes place name ≡ name
    → ((scope : Bytes) (c : ℕ) → has_at more scope c
    ≡ (has_at table scope c || (bytes_eq name scope && nat_eq c class)))
    → ScopesSoFar before class scopes (place + 1) more
scopes_step before table more class place scopes name so lt at adds scope c =
    let next : place + 1 ≡ suc place = omega arith in
    let rest = drop (suc place) scopes in
    let split : drop place scopes ≡ name ∷ rest = drop-cons scopes place name lt
    ∙ ap (λ (x : Bytes). x ∷ rest) at in
    ap (λ n. has_at more scope c || (is_among scope (drop n scopes) && nat_eq c class)) next
    ∙ ap (λ b. b || (is_among scope rest && nat_eq c class)) (adds scope c)
    ∙ or_moved (has_at table scope c) (bytes_eq name scope && nat_eq c class)
    (is_among scope rest && nat_eq c class)
    ∙ ap (λ b. has_at table scope c
    || ((b && nat_eq c class) || (is_among scope rest && nat_eq c class)))
    (bytes_turned name scope)
    ∙ ap (λ b. has_at table scope c || b) (sym (split_and (bytes_eq scope name)
    (is_among scope rest) (nat_eq c class)))
    ∙ ap (λ (xs : List Bytes). has_at table scope c || (is_among scope xs && nat_eq c class))
    (sym split)
    ∙ so scope c

nothing_left : (xs : List Bytes) (place : ℕ) → length xs ≤ place → drop place xs ≡ []
nothing_left [] zero le = refl
nothing_left [] (suc k) le = refl
nothing_left (x ∷ xs) zero le = absurd (omega arith)
nothing_left (x ∷ xs) (suc k) le = nothing_left xs k (omega arith)

pub scopes_all : (before table : ClassTable) (class place : ℕ) (scopes : List Bytes)
    → ScopesSoFar before class scopes place table → length scopes ≤ place
    → (scope : Bytes) (c : ℕ) → has_at table scope c
    ≡ (has_at before scope c || (is_among scope scopes && nat_eq c class))
scopes_all before table class place scopes so all scope c =
    or_false (has_at table scope c)
    ∙ ap (λ (xs : List Bytes). has_at table scope c || (is_among scope xs && nat_eq c class))
    (sym (nothing_left scopes place all))
    ∙ so scope c

pub both_scopes : (doc : Doc) (class : ℕ) (before between after : ClassTable)
    → ((scope : Bytes) (c : ℕ) → has_at between scope c ≡ (has_at before scope c
    || (is_among scope (option_to_list (option_map (λ row. row.scope) (hilt_row class)))
    && nat_eq c class)))
    → ((scope : Bytes) (c : ℕ) → has_at after scope c ≡ (has_at between scope c
    || (is_among scope (unwrap_or (option_map scopes_in (header_item doc class)) [])
    && nat_eq c class)))
    → (scope : Bytes) (c : ℕ) → has_at after scope c
    ≡ (has_at before scope c || (carries doc scope class && nat_eq c class))
unfolding scopes_of
both_scopes doc class before between after first second scope c =
    let own = option_to_list (option_map (λ row. row.scope) (hilt_row class)) in
    let written = unwrap_or (option_map scopes_in (header_item doc class)) [] in
    second scope c ∙ ap (λ b. b || (is_among scope written && nat_eq c class)) (first scope c)
    ∙ or_moved (has_at before scope c) (is_among scope own && nat_eq c class)
    (is_among scope written && nat_eq c class)
    ∙ ap (λ b. has_at before scope c || b) (sym (split_and (is_among scope own)
    (is_among scope written) (nat_eq c class)))
    ∙ ap (λ b. has_at before scope c || (b && nat_eq c class))
    (sym (list_any-append (bytes_eq scope) own written))

-- the carriers among the classes below a number
abbrev pub CarriersSoFar : Doc → ℕ → ClassTable → Type 0
CarriersSoFar doc count table =
    (scope : Bytes) (c : ℕ) → has_at table scope c ≡ (nat_lt c count && carries doc scope c)

pub carriers_begin : (doc : Doc) (table : ClassTable) → table ≡ [] → CarriersSoFar doc 0 table
carriers_begin doc table e scope c =
    ap (λ (t : ClassTable). has_at t scope c) e ∙ none_has c
    ∙ sym (ap (λ b. b && carries doc scope c) (le-ltb c 0 (omega arith)))

pub carriers_step : (doc : Doc) (class : ℕ) (table more : ClassTable)
    → CarriersSoFar doc class table
    → ((scope : Bytes) (c : ℕ) → has_at more scope c
    ≡ (has_at table scope c || (carries doc scope class && nat_eq c class)))
    → CarriersSoFar doc (class + 1) more
carriers_step doc class table more so adds scope c =
    adds scope c ∙ ap (λ b. b || (carries doc scope class && nat_eq c class)) (so scope c)
    ∙ by_place
  where
    and_turned : (a b : Bool) → (a && b) ≡ (b && a)
    and_turned true true = refl
    and_turned true false = refl
    and_turned false true = refl
    and_turned false false = refl

    by_place : ((nat_lt c class && carries doc scope c)
        || (carries doc scope class && nat_eq c class))
        ≡ (nat_lt c (class + 1) && carries doc scope c)
    by_place =
        elim (cases_eq c class) [
          | inl e ↦ (let less : nat_lt c class ≡ false = le-ltb c class (omega arith) in
              let more : nat_lt c (class + 1) ≡ true = lt-ltb c (class + 1) (omega arith) in
              let equal : nat_eq c class ≡ true = eq-eqb c class e in
              ap (λ b. (b && carries doc scope c)
              || (carries doc scope class && nat_eq c class)) less
              ∙ and_turned (carries doc scope class) (nat_eq c class)
              ∙ ap (λ b. b && carries doc scope class) equal
              ∙ ap (λ n. carries doc scope n) (sym e)
              ∙ ap (λ b. b && carries doc scope c) (sym more))
          | inr ne ↦ (let apart : nat_eq c class ≡ false = ne_eqb c class ne in
              ap (λ b. (nat_lt c class && carries doc scope c) || b)
              (and_turned (carries doc scope class) (nat_eq c class)
              ∙ ap (λ b. b && carries doc scope class) apart)
              ∙ sym (or_false (nat_lt c class && carries doc scope c))
              ∙ ap (λ b. b && carries doc scope c) (below_or_past (cases_lt c class) ne))
        ]
      where
        below_or_past : (c < class) ⊎ (class ≤ c) → (c ≡ class → ⊥)
            → nat_lt c class ≡ nat_lt c (class + 1)
        below_or_past (inl lt) ne = lt-ltb c class lt ∙ sym (lt-ltb c (class + 1) (omega arith))
        below_or_past (inr le) ne = (let high : class + 1 ≤ c = omega (arith, ne) in
            le-ltb c class le ∙ sym (le-ltb c (class + 1) high))

pub carriers_end : (doc : Doc) (count : ℕ) (table : ClassTable) → CarriersSoFar doc count table
    → count ≡ class_count doc → KnowsCarriers doc table
carriers_end doc count table so all scope c lt =
    so scope c ∙ ap (λ b. b && carries doc scope c) (lt-ltb c count (omega arith))

-- ---- the class around a statement

after_hilt : (place count : ℕ) (o : Option ℕ) (n : ℕ) → ((k : ℕ) → o ≡ Some k → k < count)
    → option_map (λ k. place + k) o ≡ Some n → n < place + count
after_hilt place count None n small e = absurd (none_is_not_some n e)
after_hilt place count (Some k) n small e =
    (let within : k < count = small k refl in let same : place + k ≡ n = same_value (place + k) n e
    in omega arith)

pub header_number_below : (doc : Doc) (h : Statement) (n : ℕ) → number_of_header doc h ≡ Some n
    → n < class_count doc
unfolding class_count
header_number_below doc h n e =
    after_hilt hilt_count (length (component_headers doc)) _ n
    (λ k found. position_below _ (component_headers doc) k found) e

pub around_below : (doc : Doc) (s : Statement) (n : ℕ) → class_around doc s ≡ Some n
    → n < class_count doc
unfolding class_around
around_below doc s n e =
    below_and_then (class_count doc) (class_of_block doc) _
    (λ h is k given. below_or (class_count doc) (number_of_header doc h) _
    (λ j found. header_number_below doc h j found)
    (λ j found. below_and_then (class_count doc) (class_named doc) (entry_point_class h.item)
    (λ name named i one. class_below doc name i one) j found) k given) n e

some_below : (bound : ℕ) (r : Option ℕ) → ((n : ℕ) → r ≡ Some n → n < bound)
    → IfSome r (λ n. n < bound)
some_below bound None small = tt
some_below bound (Some n) small = small n refl

pub headed_below : (doc : Doc) (index : ℕ) (r : Option ℕ)
    → r ≡ option_and_then (number_of_header doc) (slice_get (statements doc) index)
    → IfSome r (λ n. n < class_count doc)
headed_below doc index r e =
    some_below (class_count doc) r (λ n is. below_and_then (class_count doc) (number_of_header doc)
    (slice_get (statements doc) index) (λ h at k given. header_number_below doc h k given) n
    (sym e ∙ is))
