-- Stores: what one call more does to them.
use Rattle.std.proofs.Common.{◌≡◌, ◌<◌, ◌≤◌, ◌⊎◌, inl, inr, ℕ, zero, suc, ◌==◌, ◌&&◌, Bool, true, false, cond, List, [], ◌∷◌, ◌++◌, length, map, take, slice_get, position, Option, Some, None, Contains, refl, sym, ap, subst, ◌∙◌, append_assoc, length-append, arith}
use Rattle.std.specs.List.{IsDistinct, find, cons_option, filter_map, position_or_len}
use Rattle.std.specs.Map.{lookup, keys_of}
use Rattle.std.specs.Option.{option_map}
use Rattle.std.proofs.lemmas.Bool.{eqb-true, eq-eqb}
use Rattle.std.proofs.lemmas.List.{append-nil, length-map, take_all, take-append-le}
use Rattle.std.proofs.lemmas.List.Elements.{Contains-append_left, Contains-append_right, Contains-append_cases, Contains-push, Contains-push_cases, filter_map-append}
use Rattle.std.proofs.lemmas.Option.{slice_get_within}
use Rattle.indexmap.specs.IndexMap.{insert_entry}
use Rattle.dg_decl.specs.declared.document.Doc.{Doc}
use Rattle.dg_value.specs.declared.value.Kept.{Kept}
use Rattle.dg_value.specs.Contents.{CellKept, is_cell, content_in}
use Rattle.dg_eval.specs.Runs.{Asked, cell, lazy}
use Rattle.dg_eval.specs.Asks.{asked_by}
use Rattle.dg_promises.specs.Uses.{used_by_asks}
use Rattle.dg_requests.specs.Scopes.{IsContent}
use Rattle.dg_tree.specs.declared.keys.CellKey.{CellKey}
use Rattle.dg_tree.specs.declared.keys.LazyKey.{LazyKey}
use Rattle.dg_tree.specs.declared.keys.Noted.{Noted}
use Rattle.dg_tree.specs.declared.keys.Noted.TheVariants as noted
use Rattle.dg_tree.specs.Stores.{Stored, as_cell, as_lazy, contents, names, names_of, IsEachOnce, IsSound, IsSoundFor, settled}
use Rattle.dg_tree.specs.Tables.{Cells, Lazies, kept_cell, kept_lazy, stored_in, cell_name, lazy_name, names_in, entries_in, all_entries, noted_name, asked_in, IsStore}
use Rattle.dg_tree.proofs.NameLemmas.{contains_head, contains_tail, contains_cases, contains_map, none_contained, content_of_name, Adds, names_join, adds_left, adds_right, names_grow, adds_entry, entry_found, name_at, none_named, each_once, name_inserted}
use Rattle.dg_tree.proofs.KeyLemmas.{same_cell, same_lazy, cells_same, cells_told, lazies_same, lazies_told}

-- ---- sound contents

-- what is named now was named before, or is the new one
old_or_new : (x : Asked) (kept : Kept) (old new : List (Asked × Kept)) → Adds x kept old new
    → (y : Asked) → Contains (names_of new) y → Contains (names_of old) y ⊎ (x ≡ y)
old_or_new x kept old new adds y c =
    let found = content_of_name new y c in
    elim (adds.each y found.0 found.1) [
      | inl a ↦ inl (contains_map (λ (e : Asked × Kept). e.0) old (y, found.0) a)
      | inr e ↦ inr (ap (λ (p : Asked × Kept). p.0) e)
    ]

sound_more : (doc : Doc) (x : Asked) (kept : Kept) (old new : List (Asked × Kept))
    (asked : List Asked) → IsSoundFor doc old asked → IsContent doc x kept
    → Contains (used_by_asks doc) x
    → ((y : Asked) → Contains (asked_by doc x) y → Contains asked y) → Adds x kept old new
    → IsEachOnce (names_of new) → IsSoundFor doc new (asked ++ x ∷ [])
sound_more doc x kept old new asked sound is_content is_used is_closed adds once = record {
  content = λ y k c. elim (adds.each y k c) [
    | inl a ↦ sound.content y k a
    | inr e ↦ subst (λ (p : Asked × Kept). IsContent doc p.0 p.1) e is_content
  ];
  used = λ y c. elim (old_or_new x kept old new adds y c) [
    | inl a ↦ sound.used y a
    | inr e ↦ subst (λ z. Contains (used_by_asks doc) z) e is_used
  ];
  closed = λ y z c d. elim (old_or_new x kept old new adds y c) [
    | inl a ↦ adds.stays z (sound.closed y z a d)
    | inr e ↦ adds.stays z (sound.asked_stored z (is_closed z
        (subst (λ w. Contains (asked_by doc w) z) (sym e) d)))
  ];
  once = once;
  asked_stored = λ y c. elim (Contains-push_cases asked x y c) [
    | inl a ↦ adds.stays y (sound.asked_stored y a)
    | inr e ↦ subst (λ z. Contains (names_of new) z) e adds.there
  ];
  stored_asked = λ y c. elim (old_or_new x kept old new adds y c) [
    | inl a ↦ Contains-append_left asked (x ∷ []) y (sound.stored_asked y a)
    | inr e ↦ subst (λ z. Contains (asked ++ x ∷ []) z) e (Contains-push asked x)
  ];
}

sound_again : (doc : Doc) (x : Asked) (stored : List (Asked × Kept)) (asked : List Asked)
    → IsSoundFor doc stored asked → Contains (names_of stored) x
    → IsSoundFor doc stored (asked ++ x ∷ [])
sound_again doc x stored asked sound there = record {
  content = sound.content;
  used = sound.used;
  closed = sound.closed;
  once = sound.once;
  asked_stored = λ y c. elim (Contains-push_cases asked x y c) [
    | inl a ↦ sound.asked_stored y a
    | inr e ↦ subst (λ z. Contains (names_of stored) z) e there
  ];
  stored_asked = λ y c. Contains-append_left asked (x ∷ []) y (sound.stored_asked y c);
}

sound_settled : (doc : Doc) (stored : List (Asked × Kept)) (asked : List Asked)
    → IsSoundFor doc stored asked → IsSoundFor doc stored (names_of stored)
sound_settled doc stored asked sound = record {
  content = sound.content;
  used = sound.used;
  closed = sound.closed;
  once = sound.once;
  asked_stored = λ y c. c;
  stored_asked = λ y c. c;
}

-- ---- the names of the tables

names_are : {K : Type 0} (name : K → Asked) (es : List (K × Kept))
    → names_of (entries_in name es) ≡ names_in name es
names_are name [] = refl
names_are name (e ∷ es) = ap (λ (l : List Asked). name e.0 ∷ l) (names_are name es)

all_names : (cs : Cells) (ls : Lazies)
    → names_of (all_entries cs ls) ≡ names_in cell_name cs ++ names_in lazy_name ls
all_names cs ls =
    names_join (entries_in cell_name cs) (entries_in lazy_name ls)
    ∙ (λ i. names_are cell_name cs i ++ names_are lazy_name ls i)

abbrev is_lazy : Asked → Type 0
is_lazy (cell i k) = ⊥
is_lazy (lazy i k p) = Unit {0}

cell_not_lazy : (i k : ℕ) (ls : Lazies) → Contains (names_in lazy_name ls) (cell i k) → ⊥
cell_not_lazy i k [] c = none_contained (cell i k) c
cell_not_lazy i k (e ∷ es) c =
    elim (contains_cases (lazy_name e.0) (names_in lazy_name es) (cell i k) c) [
      | inl same ↦ subst is_lazy same tt
      | inr b ↦ cell_not_lazy i k es b
    ]

-- each once on both sides, and no cell is a Lazy
once_joined : (cs : Cells) (ls : Lazies) → IsEachOnce (names_in cell_name cs)
    → IsEachOnce (names_in lazy_name ls)
    → IsEachOnce (names_in cell_name cs ++ names_in lazy_name ls)
once_joined [] ls of_cells of_lazies = of_lazies
once_joined (e ∷ es) ls of_cells of_lazies = (
  λ c. elim (append_cases c) [
    | inl a ↦ of_cells.0 a
    | inr b ↦ cell_not_lazy e.0.inst e.0.slot ls b
  ],
  once_joined es ls of_cells.1 of_lazies,
)
  where
    append_cases : Contains (names_in cell_name es ++ names_in lazy_name ls) (cell_name e.0)
        → Contains (names_in cell_name es) (cell_name e.0)
        ⊎ Contains (names_in lazy_name ls) (cell_name e.0)
    append_cases c = Contains-append_cases (names_in cell_name es) (names_in lazy_name ls)
        (cell_name e.0) c

once_left : (xs ys : List Asked) → IsEachOnce (xs ++ ys) → IsEachOnce xs
once_left [] ys h = tt
once_left (x ∷ xs) ys h = (λ c. h.0 (Contains-append_left xs ys x c), once_left xs ys h.1)

once_right : (xs ys : List Asked) → IsEachOnce (xs ++ ys) → IsEachOnce ys
once_right [] ys h = h
once_right (x ∷ xs) ys h = once_right xs ys h.1

-- ---- what was asked for

-- a note more
asked_again : (cells lazies : List Asked) (n m : ℕ) (notes new : List Noted) (note : Noted)
    (x : Asked) → new ≡ notes ++ note ∷ [] → noted_name lazies note ≡ Some x
    → asked_in cells lazies n m new ≡ asked_in cells lazies n m notes ++ x ∷ []
asked_again cells lazies n m notes new note x is at =
    ap (λ (l : List Noted). asked_in cells lazies n m l) is
    ∙ ap (λ (l : List Asked). take n cells ++ take m lazies ++ l)
    (filter_map-append (noted_name lazies) notes (note ∷ []))
    ∙ ap (λ (o : Option Asked). take n cells ++ take m lazies
    ++ (filter_map (noted_name lazies) notes ++ cons_option o [])) at
    ∙ sym (append_assoc (take n cells ++ take m lazies) (filter_map (noted_name lazies) notes)
    (x ∷ []))

get_front : {A : Type 0} (xs ys : List A) (k : ℕ) → k < length xs
    → slice_get (xs ++ ys) k ≡ slice_get xs k
get_front [] ys k lt = absurd (omega (arith, lt))
get_front (x ∷ xs) ys zero lt = refl
get_front (x ∷ xs) ys (suc k) lt = get_front xs ys k (omega (arith, lt))

same_note : (lazies more : List Asked) (note : Noted)
    → ((k : ℕ) → note ≡ noted.Lazy k → k < length lazies)
    → noted_name (lazies ++ more) note ≡ noted_name lazies note
same_note lazies more (noted.Cell i k) within = refl
same_note lazies more (noted.Lazy k) within = get_front lazies more k (within k refl)

same_notes : (lazies more : List Asked) (notes : List Noted)
    → ((k : ℕ) → Contains notes (noted.Lazy k) → k < length lazies)
    → filter_map (noted_name (lazies ++ more)) notes ≡ filter_map (noted_name lazies) notes
same_notes lazies more [] within = refl
same_notes lazies more (note ∷ notes) within =
    let first = same_note lazies more note (λ k e. within k
    (subst (λ z. Contains (note ∷ notes) z) e (contains_head note notes))) in
    let rest = same_notes lazies more notes
    (λ k c. within k (contains_tail note notes (noted.Lazy k) c)) in
    λ i. cons_option (first i) (rest i)

-- cells more, and Lazies more
asked_cells : (cells more lazies : List Asked) (n m : ℕ) (notes : List Noted) → n ≤ length cells
    → asked_in (cells ++ more) lazies n m notes ≡ asked_in cells lazies n m notes
asked_cells cells more lazies n m notes le =
    ap (λ (l : List Asked). l ++ take m lazies ++ filter_map (noted_name lazies) notes)
    (take-append-le n cells more le)

asked_lazies : (cells lazies more : List Asked) (n m : ℕ) (notes : List Noted) → m ≤ length lazies
    → ((k : ℕ) → Contains notes (noted.Lazy k) → k < length lazies)
    → asked_in cells (lazies ++ more) n m notes ≡ asked_in cells lazies n m notes
asked_lazies cells lazies more n m notes le within =
    let front = take-append-le m lazies more le in
    let rest = same_notes lazies more notes within in
    λ i. take n cells ++ front i ++ rest i

abbrev is_lazy_note : Noted → Type 0
is_lazy_note (noted.Cell i k) = ⊥
is_lazy_note (noted.Lazy n) = Unit {0}

abbrev index_in : Noted → ℕ
index_in (noted.Cell i k) = 0
index_in (noted.Lazy n) = n

-- notes are within the Lazies, and so is a note more
notes_within : (notes new : List Noted) (note : Noted) (bound : ℕ) → new ≡ notes ++ note ∷ []
    → ((k : ℕ) → Contains notes (noted.Lazy k) → k < bound)
    → ((k : ℕ) → note ≡ noted.Lazy k → k < bound)
    → (k : ℕ) → Contains new (noted.Lazy k) → k < bound
notes_within notes new note bound is old one k c =
    elim (Contains-push_cases notes note (noted.Lazy k)
    (subst (λ (l : List Noted). Contains l (noted.Lazy k)) is c)) [
      | inl a ↦ old k a
      | inr e ↦ one k e
    ]

no_lazy_note : (i k bound : ℕ) → (n : ℕ) → noted.Cell i k ≡ noted.Lazy n → n < bound
no_lazy_note i k bound n e = absurd (subst is_lazy_note (sym e) tt)

lazy_note : (index bound : ℕ) → index < bound → (n : ℕ) → noted.Lazy index ≡ noted.Lazy n
    → n < bound
lazy_note index bound lt n e = subst (λ z. z < bound) (ap index_in e) lt

-- a table with names more is longer
longer : {K : Type 0} (name : K → Asked) (es new : List (K × Kept)) (more : List Asked)
    → names_in name new ≡ names_in name es ++ more → length es ≤ length new
longer name es new more is =
    let a = length-map new (λ (e : _ × Kept). name e.0) in
    let b = length-map es (λ (e : _ × Kept). name e.0) in
    let c = ap length is in
    let d = length-append (names_in name es) more in
    omega (arith, a, b, c, d)

named_as_long : {K : Type 0} (name : K → Asked) (es : List (K × Kept)) (n : ℕ) → n ≤ length es
    → n ≤ length (names_in name es)
named_as_long name es n le =
    let a = length-map es (λ (e : _ × Kept). name e.0) in
    omega (arith, a, le)

named_within : {K : Type 0} (name : K → Asked) (es : List (K × Kept)) (n : ℕ) → n < length es
    → n < length (names_in name es)
named_within name es n le =
    let a = length-map es (λ (e : _ × Kept). name e.0) in
    omega (arith, a, le)

-- ---- a call more

abbrev pub asks : Cells → Lazies → ℕ → ℕ → List Noted → List Asked
asks cs ls n m notes = asked_in (names_in cell_name cs) (names_in lazy_name ls) n m notes

-- a store that was asked for one more
pub record Steps (doc : Doc) (old : List Asked) (x : Asked) (cs : Cells) (ls : Lazies) (n m : ℕ)
    (notes : List Noted) : Type 0 where
  pub store : IsStore doc cs ls n m notes
  pub asked : asks cs ls n m notes ≡ old ++ x ∷ []

-- one that is held
held_again : (doc : Doc) (cs : Cells) (ls : Lazies) (n m : ℕ) (notes new : List Noted)
    (note : Noted) (x : Asked) (kept : Kept) → IsStore doc cs ls n m notes
    → Contains (all_entries cs ls) (x, kept) → new ≡ notes ++ note ∷ []
    → noted_name (names_in lazy_name ls) note ≡ Some x
    → ((k : ℕ) → note ≡ noted.Lazy k → k < length ls)
    → Steps doc (asks cs ls n m notes) x cs ls n m new
held_again doc cs ls n m notes new note x kept store at is named within =
    let e = asked_again (names_in cell_name cs) (names_in lazy_name ls) n m notes new note x is
    named in
    let there = contains_map (λ (e : Asked × Kept). e.0) (all_entries cs ls) (x, kept) at in
    record {
      store = record {
        sound = subst (λ (l : List Asked). IsSoundFor doc (all_entries cs ls) l) (sym e)
            (sound_again doc x (all_entries cs ls) (asks cs ls n m notes) store.sound there);
        settled_cells = store.settled_cells;
        settled_lazies = store.settled_lazies;
        noted_lazies = notes_within notes new note (length ls) is store.noted_lazies within;
      };
      asked = e;
    }

pub cell_found : (cs : Cells) (ls : Lazies) (i k : ℕ) (kept : Kept)
    → lookup (same_cell (record { inst = i; slot = k })) cs ≡ Some kept
    → Contains (all_entries cs ls) (cell i k, kept)
cell_found cs ls i k kept is =
    Contains-append_left (entries_in cell_name cs) (entries_in lazy_name ls) (cell i k, kept)
    (entry_found same_cell cell_name cells_same cs (record { inst = i; slot = k }) kept is)

pub lazy_found : (cs : Cells) (ls : Lazies) (key : LazyKey) (kept : Kept)
    → lookup (same_lazy key) ls ≡ Some kept → Contains (all_entries cs ls) (lazy_name key, kept)
lazy_found cs ls key kept is =
    Contains-append_right (entries_in cell_name cs) (entries_in lazy_name ls) (lazy_name key, kept)
    (entry_found same_lazy lazy_name lazies_same ls key kept is)

cell_again : (doc : Doc) (cs : Cells) (ls : Lazies) (n m : ℕ) (notes new : List Noted)
    (i k : ℕ) (kept : Kept) → IsStore doc cs ls n m notes
    → lookup (same_cell (record { inst = i; slot = k })) cs ≡ Some kept
    → new ≡ notes ++ noted.Cell i k ∷ []
    → Steps doc (asks cs ls n m notes) (cell i k) cs ls n m new
cell_again doc cs ls n m notes new i k kept store found is =
    held_again doc cs ls n m notes new (noted.Cell i k) (cell i k) kept store
    (cell_found cs ls i k kept found) is refl (no_lazy_note i k (length ls))

lazy_again : (doc : Doc) (cs : Cells) (ls : Lazies) (n m : ℕ) (notes new : List Noted)
    (key : LazyKey) (index : ℕ) (kept : Kept) → IsStore doc cs ls n m notes
    → lookup (same_lazy key) ls ≡ Some kept → Some index ≡ position (same_lazy key) (keys_of ls)
    → new ≡ notes ++ noted.Lazy index ∷ []
    → Steps doc (asks cs ls n m notes) (lazy_name key) cs ls n m new
lazy_again doc cs ls n m notes new key index kept store found at is =
    let named = name_at same_lazy lazy_name lazies_same ls key index (sym at) in
    let long = length-map ls (λ (e : LazyKey × Kept). lazy_name e.0) in
    let lt = slice_get_within (names_in lazy_name ls) index (lazy_name key) named in
    held_again doc cs ls n m notes new (noted.Lazy index) (lazy_name key) kept store
    (lazy_found cs ls key kept found) is named
    (lazy_note index (length ls) (omega (arith, long, lt)))

-- a cell more
cell_kept : (doc : Doc) (cs more : Cells) (ls : Lazies) (n m : ℕ) (notes new : List Noted)
    (i k : ℕ) (kept : Kept) → IsStore doc cs ls n m notes → IsContent doc (cell i k) kept
    → Contains (used_by_asks doc) (cell i k)
    → ((y : Asked) → Contains (asked_by doc (cell i k)) y → Contains (asks cs ls n m notes) y)
    → more ≡ insert_entry same_cell cs (record { inst = i; slot = k }) kept
    → IsDistinct same_cell (keys_of more) → new ≡ notes ++ noted.Cell i k ∷ []
    → Steps doc (asks cs ls n m notes) (cell i k) more ls n m new
cell_kept doc cs more ls n m notes new i k kept store content used closed is distinct noting =
    let key : CellKey = record { inst = i; slot = k } in
    let x = cell i k in
    let grown = names_grow same_cell cell_name cells_same cs key kept in
    let named : names_in cell_name more ≡ names_in cell_name cs ++ grown.0 =
    ap (names_in cell_name) is ∙ grown.1 in
    let lazies = names_in lazy_name ls in
    let e : asks more ls n m new ≡ asks cs ls n m notes ++ x ∷ [] =
    asked_again (names_in cell_name more) lazies n m notes new (noted.Cell i k) x noting refl
    ∙ ap (λ (l : List Asked). asked_in l lazies n m notes ++ x ∷ []) named
    ∙ ap (λ (l : List Asked). l ++ x ∷ [])
    (asked_cells (names_in cell_name cs) grown.0 lazies n m notes
    (named_as_long cell_name cs n store.settled_cells)) in
    let adds : Adds x kept (entries_in cell_name cs) (entries_in cell_name more) =
    subst (λ (l : Cells). Adds x kept (entries_in cell_name cs) (entries_in cell_name l)) (sym is)
    (adds_entry same_cell cell_name cells_same cs key kept) in
    let once : IsEachOnce (names_of (all_entries more ls)) =
    subst IsEachOnce (sym (all_names more ls))
    (once_joined more ls (each_once same_cell cell_name cells_same cells_told more distinct)
    (once_right (names_in cell_name cs) lazies
    (subst IsEachOnce (all_names cs ls) store.sound.once))) in
    let long = longer cell_name cs more grown.0 named in
    record {
      store = record {
        sound = subst (λ (l : List Asked). IsSoundFor doc (all_entries more ls) l) (sym e)
            (sound_more doc x kept (all_entries cs ls) (all_entries more ls)
            (asks cs ls n m notes) store.sound content used closed
            (adds_left x kept (entries_in cell_name cs) (entries_in cell_name more)
            (entries_in lazy_name ls) adds) once);
        settled_cells = (let le = store.settled_cells in omega (arith, le, long));
        settled_lazies = store.settled_lazies;
        noted_lazies = notes_within notes new (noted.Cell i k) (length ls) noting
            store.noted_lazies (no_lazy_note i k (length ls));
      };
      asked = e;
    }

-- a Lazy more
lazy_kept : (doc : Doc) (cs : Cells) (ls more : Lazies) (n m : ℕ) (notes new : List Noted)
    (key : LazyKey) (index : ℕ) (kept : Kept) → IsStore doc cs ls n m notes
    → IsContent doc (lazy_name key) kept → Contains (used_by_asks doc) (lazy_name key)
    → ((y : Asked) → Contains (asked_by doc (lazy_name key)) y → Contains (asks cs ls n m notes) y)
    → more ≡ insert_entry same_lazy ls key kept → IsDistinct same_lazy (keys_of more)
    → index ≡ position_or_len (same_lazy key) (keys_of ls)
    → new ≡ notes ++ noted.Lazy index ∷ []
    → Steps doc (asks cs ls n m notes) (lazy_name key) cs more n m new
lazy_kept doc cs ls more n m notes new key index kept store content used closed is distinct place
    noting =
    let x = lazy_name key in
    let grown = names_grow same_lazy lazy_name lazies_same ls key kept in
    let named : names_in lazy_name more ≡ names_in lazy_name ls ++ grown.0 =
    ap (names_in lazy_name) is ∙ grown.1 in
    let cells = names_in cell_name cs in
    let at : slice_get (names_in lazy_name more) index ≡ Some x =
    (λ j. slice_get (names_in lazy_name (is j)) (place j))
    ∙ name_inserted same_lazy lazy_name lazies_same ls key kept in
    let counted = length-map ls (λ (e : LazyKey × Kept). lazy_name e.0) in
    let e : asks cs more n m new ≡ asks cs ls n m notes ++ x ∷ [] =
    asked_again cells (names_in lazy_name more) n m notes new (noted.Lazy index) x noting at
    ∙ ap (λ (l : List Asked). asked_in cells l n m notes ++ x ∷ []) named
    ∙ ap (λ (l : List Asked). l ++ x ∷ [])
    (asked_lazies cells (names_in lazy_name ls) grown.0 n m notes
    (named_as_long lazy_name ls m store.settled_lazies)
    (λ k c. named_within lazy_name ls k (store.noted_lazies k c))) in
    let adds : Adds x kept (entries_in lazy_name ls) (entries_in lazy_name more) =
    subst (λ (l : Lazies). Adds x kept (entries_in lazy_name ls) (entries_in lazy_name l)) (sym is)
    (adds_entry same_lazy lazy_name lazies_same ls key kept) in
    let once : IsEachOnce (names_of (all_entries cs more)) =
    subst IsEachOnce (sym (all_names cs more))
    (once_joined cs more
    (once_left cells (names_in lazy_name ls)
    (subst IsEachOnce (all_names cs ls) store.sound.once))
    (each_once same_lazy lazy_name lazies_same lazies_told more distinct)) in
    let long = longer lazy_name ls more grown.0 named in
    let lt = slice_get_within (names_in lazy_name more) index x at in
    let count = length-map more (λ (e : LazyKey × Kept). lazy_name e.0) in
    record {
      store = record {
        sound = subst (λ (l : List Asked). IsSoundFor doc (all_entries cs more) l) (sym e)
            (sound_more doc x kept (all_entries cs ls) (all_entries cs more)
            (asks cs ls n m notes) store.sound content used closed
            (adds_right x kept (entries_in cell_name cs) (entries_in lazy_name ls)
            (entries_in lazy_name more) adds) once);
        settled_cells = store.settled_cells;
        settled_lazies = (let le = store.settled_lazies in omega (arith, le, long));
        noted_lazies = notes_within notes new (noted.Lazy index) (length more) noting
            (λ k c. (let old = store.noted_lazies k c in omega (arith, old, long)))
            (lazy_note index (length more) (omega (arith, lt, count)));
      };
      asked = e;
    }

-- ---- the steps of a store that callers see as t

abbrev pub Seen : Doc → Stored → Asked → Cells → Lazies → ℕ → ℕ → List Noted → Type 0
Seen doc t x cs ls n m notes = Steps doc t.asked x cs ls n m notes

steps_seen : (doc : Doc) (x : Asked) (cs more_cells : Cells) (ls more_lazies : Lazies) (n m : ℕ)
    (notes new : List Noted) (t : Stored) → stored_in cs ls n m notes ≡ t
    → Steps doc (asks cs ls n m notes) x more_cells more_lazies n m new
    → Seen doc t x more_cells more_lazies n m new
steps_seen doc x cs more_cells ls more_lazies n m notes new t is steps =
    subst (λ (s : Stored). Seen doc s x more_cells more_lazies n m new) is steps

closed_before : (doc : Doc) (x : Asked) (cs : Cells) (ls : Lazies) (n m : ℕ) (notes : List Noted)
    (t : Stored) → stored_in cs ls n m notes ≡ t
    → ((y : Asked) → Contains (asked_by doc x) y → Contains t.asked y) → (y : Asked)
    → Contains (asked_by doc x) y → Contains (asks cs ls n m notes) y
closed_before doc x cs ls n m notes t is closed y c =
    subst (λ (s : Stored). Contains s.asked y) (sym is) (closed y c)

pub cell_asked : (doc : Doc) (cs : Cells) (ls : Lazies) (n m : ℕ) (notes new : List Noted)
    (i k : ℕ) (kept copy : Kept) (t : Stored) → stored_in cs ls n m notes ≡ t
    → IsStore doc cs ls n m notes
    → Some kept ≡ lookup (same_cell (record { inst = i; slot = k })) cs → copy ≡ kept
    → new ≡ notes ++ noted.Cell i k ∷ []
    → Seen doc t (cell i k) cs ls n m new × IsContent doc (cell i k) copy
cell_asked doc cs ls n m notes new i k kept copy t is store found same noting =
    let at = sym found ∙ ap (λ (v : Kept). Some v) (sym same) in (
      steps_seen doc (cell i k) cs cs ls ls n m notes new t is
          (cell_again doc cs ls n m notes new i k copy store at noting),
      store.sound.content (cell i k) copy (cell_found cs ls i k copy at),
    )

pub lazy_asked : (doc : Doc) (cs : Cells) (ls : Lazies) (n m : ℕ) (notes new : List Noted)
    (key : LazyKey) (index : ℕ) (kept copy : Kept) (t : Stored) → stored_in cs ls n m notes ≡ t
    → IsStore doc cs ls n m notes → Some kept ≡ lookup (same_lazy key) ls → copy ≡ kept
    → Some index ≡ position (same_lazy key) (keys_of ls)
    → new ≡ notes ++ noted.Lazy index ∷ []
    → Seen doc t (lazy_name key) cs ls n m new × IsContent doc (lazy_name key) copy
lazy_asked doc cs ls n m notes new key index kept copy t is store found same place noting =
    let at = sym found ∙ ap (λ (v : Kept). Some v) (sym same) in (
      steps_seen doc (lazy_name key) cs cs ls ls n m notes new t is
          (lazy_again doc cs ls n m notes new key index copy store at place noting),
      store.sound.content (lazy_name key) copy (lazy_found cs ls key copy at),
    )

pub cell_stored : (doc : Doc) (cs more : Cells) (ls : Lazies) (n m : ℕ)
    (notes room new : List Noted) (i k : ℕ) (kept copy : Kept) (t : Stored)
    → stored_in cs ls n m notes ≡ t → IsStore doc cs ls n m notes
    → IsContent doc (cell i k) kept → Contains (used_by_asks doc) (cell i k)
    → ((y : Asked) → Contains (asked_by doc (cell i k)) y → Contains t.asked y) → copy ≡ kept
    → more ≡ insert_entry same_cell cs (record { inst = i; slot = k }) copy
    → IsDistinct same_cell (keys_of more) → room ≡ notes → new ≡ room ++ noted.Cell i k ∷ []
    → Seen doc t (cell i k) more ls n m new
cell_stored doc cs more ls n m notes room new i k kept copy t is store content used closed same
    entries distinct roomy noting =
    steps_seen doc (cell i k) cs more ls ls n m notes new t is
    (cell_kept doc cs more ls n m notes new i k copy store
    (subst (IsContent doc (cell i k)) (sym same) content) used
    (closed_before doc (cell i k) cs ls n m notes t is closed) entries distinct
    (noting ∙ ap (λ (l : List Noted). l ++ noted.Cell i k ∷ []) roomy))

pub lazy_stored : (doc : Doc) (cs : Cells) (ls more : Lazies) (n m : ℕ)
    (notes room new : List Noted) (key : LazyKey) (index : ℕ) (kept copy : Kept) (t : Stored)
    → stored_in cs ls n m notes ≡ t → IsStore doc cs ls n m notes
    → IsContent doc (lazy_name key) kept → Contains (used_by_asks doc) (lazy_name key)
    → ((y : Asked) → Contains (asked_by doc (lazy_name key)) y → Contains t.asked y)
    → copy ≡ kept → more ≡ insert_entry same_lazy ls key copy
    → IsDistinct same_lazy (keys_of more)
    → index ≡ position_or_len (same_lazy key) (keys_of ls) → room ≡ notes
    → new ≡ room ++ noted.Lazy index ∷ []
    → Seen doc t (lazy_name key) cs more n m new
lazy_stored doc cs ls more n m notes room new key index kept copy t is store content used closed
    same entries distinct place roomy noting =
    steps_seen doc (lazy_name key) cs cs ls more n m notes new t is
    (lazy_kept doc cs ls more n m notes new key index copy store
    (subst (IsContent doc (lazy_name key)) (sym same) content) used
    (closed_before doc (lazy_name key) cs ls n m notes t is closed) entries distinct place
    (noting ∙ ap (λ (l : List Noted). l ++ noted.Lazy index ∷ []) roomy))

-- ---- what callers see

kept_cells : (cs : Cells) → map as_cell (map kept_cell cs) ≡ entries_in cell_name cs
kept_cells [] = refl
kept_cells (e ∷ es) = ap (λ (l : List (Asked × Kept)). (cell_name e.0, e.1) ∷ l) (kept_cells es)

kept_lazies : (ls : Lazies) → map as_lazy (map kept_lazy ls) ≡ entries_in lazy_name ls
kept_lazies [] = refl
kept_lazies (e ∷ es) = ap (λ (l : List (Asked × Kept)). (lazy_name e.0, e.1) ∷ l) (kept_lazies es)

contents_are : (cs : Cells) (ls : Lazies) (n m : ℕ) (notes : List Noted)
    → contents (stored_in cs ls n m notes) ≡ all_entries cs ls
contents_are cs ls n m notes = λ i. kept_cells cs i ++ kept_lazies ls i

pub sound_seen : (doc : Doc) (cs : Cells) (ls : Lazies) (n m : ℕ) (notes : List Noted) (t : Stored)
    → IsStore doc cs ls n m notes → stored_in cs ls n m notes ≡ t → IsSound doc t
sound_seen doc cs ls n m notes t store is =
    subst (IsSound doc) is
    (subst (λ (l : List (Asked × Kept)). IsSoundFor doc l (asks cs ls n m notes))
    (sym (contents_are cs ls n m notes)) store.sound)

all_of : {K : Type 0} (name : K → Asked) (es : List (K × Kept)) (n : ℕ) → n ≡ length es
    → take n (names_in name es) ≡ names_in name es
all_of name es n is =
    let a = length-map es (λ (e : _ × Kept). name e.0) in
    take_all n (names_in name es) (omega (arith, a, is))

settled_asks : (cs : Cells) (ls : Lazies) (n m : ℕ) (notes : List Noted) → n ≡ length cs
    → m ≡ length ls → notes ≡ [] → asks cs ls n m notes ≡ names_of (all_entries cs ls)
settled_asks cs ls n m notes all_cells all_lazies none =
    let a = all_of cell_name cs n all_cells in
    let b = all_of lazy_name ls m all_lazies in
    (λ i. a i ++ b i ++ filter_map (noted_name (names_in lazy_name ls)) (none i))
    ∙ append-nil (names_in cell_name cs ++ names_in lazy_name ls) ∙ sym (all_names cs ls)

pub settled_store : (doc : Doc) (cs : Cells) (ls : Lazies) (n m k l : ℕ) (notes new : List Noted)
    → IsStore doc cs ls n m notes → k ≡ length cs → l ≡ length ls → new ≡ []
    → IsStore doc cs ls k l new
settled_store doc cs ls n m k l notes new store all_cells all_lazies none = record {
  sound = subst (λ (x : List Asked). IsSoundFor doc (all_entries cs ls) x)
      (sym (settled_asks cs ls k l new all_cells all_lazies none))
      (sound_settled doc (all_entries cs ls) (asks cs ls n m notes) store.sound);
  settled_cells = omega (arith, all_cells);
  settled_lazies = omega (arith, all_lazies);
  noted_lazies = λ j c. absurd (none_contained (noted.Lazy j)
      (subst (λ (x : List Noted). Contains x (noted.Lazy j)) none c));
}

pub settled_seen : (cs : Cells) (ls : Lazies) (n m k l : ℕ) (notes new : List Noted) (t : Stored)
    → stored_in cs ls n m notes ≡ t → k ≡ length cs → l ≡ length ls → new ≡ []
    → stored_in cs ls k l new ≡ settled t
settled_seen cs ls n m k l notes new t is all_cells all_lazies none =
    let e = settled_asks cs ls k l new all_cells all_lazies none
    ∙ ap names_of (sym (contents_are cs ls n m notes)) in
    (λ i. record { cells = map kept_cell cs; lazies = map kept_lazy ls; asked = e i })
    ∙ ap settled is

-- ---- look-ups of cells

test_turned : (a b : ℕ) → (a == b) ≡ (b == a)
test_turned a b = by (a == b) (b == a) refl refl
  where
    by : (p q : Bool) → (a == b) ≡ p → (b == a) ≡ q → p ≡ q
    by true true e f = refl
    by false false e f = refl
    by true false e f = sym (eq-eqb b a (sym (eqb-true a b e))) ∙ f
    by false true e f = sym e ∙ eq-eqb a b (sym (eqb-true b a f))

pub looked_up : (cs : Cells) (i k : ℕ)
    → lookup (same_cell (record { inst = i; slot = k })) cs ≡ content_in (map kept_cell cs) i k
looked_up [] i k = refl
looked_up (e ∷ es) i k =
    (λ j. cond (test_turned i e.0.inst j && test_turned k e.0.slot j) (Some e.1)
    (looked_up es i k j))
    ∙ by ((e.0.inst == i) && (e.0.slot == k))
  where
    by : (b : Bool) → cond b (Some e.1) (content_in (map kept_cell es) i k)
        ≡ option_map (λ (c : CellKept). c.2)
        (cond b (Some (kept_cell e)) (find (is_cell i k) (map kept_cell es)))
    by true = refl
    by false = refl

-- ---- what is looked up in vain

cells_only : (x : Asked) (cs : Cells) → is_lazy x → Contains (names_in cell_name cs) x → ⊥
cells_only x [] at c = none_contained x c
cells_only x (e ∷ es) at c =
    elim (contains_cases (cell_name e.0) (names_in cell_name es) x c) [
      | inl same ↦ subst is_lazy (sym same) at
      | inr b ↦ cells_only x es at b
    ]

seen_names : (cs : Cells) (ls : Lazies) (n m : ℕ) (notes : List Noted) (t : Stored)
    → stored_in cs ls n m notes ≡ t → names t ≡ names_in cell_name cs ++ names_in lazy_name ls
seen_names cs ls n m notes t is =
    ap names (sym is) ∙ ap names_of (contents_are cs ls n m notes) ∙ all_names cs ls

no_cell : (cs : Cells) (ls : Lazies) (n m : ℕ) (notes : List Noted) (i k : ℕ) (t : Stored)
    → stored_in cs ls n m notes ≡ t
    → None ≡ lookup (same_cell (record { inst = i; slot = k })) cs → Contains (names t) (cell i k)
    → ⊥
no_cell cs ls n m notes i k t is none c =
    elim (Contains-append_cases (names_in cell_name cs) (names_in lazy_name ls) (cell i k)
    (subst (λ (l : List Asked). Contains l (cell i k)) (seen_names cs ls n m notes t is) c)) [
      | inl a ↦ none_named same_cell cell_name cells_same cells_told cs
          (record { inst = i; slot = k }) (sym none) a
      | inr b ↦ cell_not_lazy i k ls b
    ]

no_lazy : (cs : Cells) (ls : Lazies) (n m : ℕ) (notes : List Noted) (key : LazyKey) (t : Stored)
    → stored_in cs ls n m notes ≡ t → None ≡ lookup (same_lazy key) ls
    → Contains (names t) (lazy_name key) → ⊥
no_lazy cs ls n m notes key t is none c =
    elim (Contains-append_cases (names_in cell_name cs) (names_in lazy_name ls) (lazy_name key)
    (subst (λ (l : List Asked). Contains l (lazy_name key)) (seen_names cs ls n m notes t is) c)) [
      | inl a ↦ cells_only (lazy_name key) cs tt a
      | inr b ↦ none_named same_lazy lazy_name lazies_same lazies_told ls key (sym none) b
    ]

-- what isn't stored wasn't asked for
pub cell_unasked : (doc : Doc) (cs : Cells) (ls : Lazies) (n m : ℕ) (notes : List Noted) (i k : ℕ)
    (t : Stored) → stored_in cs ls n m notes ≡ t → IsStore doc cs ls n m notes
    → None ≡ lookup (same_cell (record { inst = i; slot = k })) cs → Contains t.asked (cell i k) → ⊥
cell_unasked doc cs ls n m notes i k t is store none c =
    no_cell cs ls n m notes i k t is none
    ((sound_seen doc cs ls n m notes t store is).asked_stored (cell i k) c)

pub lazy_unasked : (doc : Doc) (cs : Cells) (ls : Lazies) (n m : ℕ) (notes : List Noted)
    (key : LazyKey) (t : Stored) → stored_in cs ls n m notes ≡ t → IsStore doc cs ls n m notes
    → None ≡ lookup (same_lazy key) ls → Contains t.asked (lazy_name key) → ⊥
lazy_unasked doc cs ls n m notes key t is store none c =
    no_lazy cs ls n m notes key t is none
    ((sound_seen doc cs ls n m notes t store is).asked_stored (lazy_name key) c)
