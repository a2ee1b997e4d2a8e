-- What a table of entries finds once there is one more name, and once all are there.
use Rattle.std.proofs.Common.{◌≡◌, ◌<◌, ◌≤◌, ◌+◌, ℕ, zero, suc, Bool, true, false, cond, List, [], ◌∷◌, ◌++◌, length, get_or, take, map, Option, Some, None, is_some, slice_get, find, nat_lt, if◌then◌else◌, refl, sym, ap, subst, ◌∙◌, true≢false, arith}
use Rattle.std.specs.Bool.{one_answer}
use Rattle.std.specs.List.{position, position_from, position_or_len}
use Rattle.std.specs.Map.{lookup}
use Rattle.std.specs.Option.{option_or, option_and_then, option_map_or}
use Rattle.std.specs.Str.{bytes_eq}
use Rattle.std.proofs.lemmas.Bool.{ltb-false}
use Rattle.std.proofs.lemmas.Iterator.Adapters.{position_from-zero}
use Rattle.std.proofs.lemmas.List.{take_more, take_all, length-take-le}
use Rattle.std.proofs.lemmas.List.Folds.{find_at}
use Rattle.std.proofs.lemmas.Option.{slice_get_past}
use Rattle.std.proofs.lemmas.Slice.Eq.{bytes_eq-Decides}
use Rattle.dg_lex.specs.Bytes.{Bytes}
use Rattle.dg_decl.specs.declared.document.Doc.{Doc}
use Rattle.dg_decl.specs.declared.component.Class.{Class}
use Rattle.dg_decl.specs.declared.item.Item.{Item}
use Rattle.dg_decl.specs.Names.{item_at, member_name}
use Rattle.dg_decl.specs.Components.{component_classes, entries_of}
use Rattle.dg_slots.specs.Sessions.{is_entry_called}
use Rattle.dg_compdep.proofs.LinkLemmas.{class_got, class_lacks}
use Rattle.dg_session.specs.EntryTables.{Table, place_in, Adds, Notes, NotesItem, HasPlaces, KnowsEntries, IsScene}
use Rattle.dg_session.proofs.SceneLemmas.{entries_past}

pub is_none : {A : Type 0} (o : Option A) (b : Bool) → b ≡ is_some o → b ≡ false → o ≡ None
is_none None b is fails = refl
is_none (Some x) b is fails = absurd (true≢false (sym is ∙ fails))

bytes_eq_turned : (a b : Bytes) → bytes_eq a b ≡ bytes_eq b a
bytes_eq_turned a b = one_answer (bytes_eq a b) (bytes_eq b a) (bytes_eq-Decides a b)
    ((λ e. sym ((bytes_eq-Decides b a).0 e)), (λ e. (bytes_eq-Decides b a).1 (sym e)))

-- ---- a map's entries as they are seen, with the bytes of each key

module _ {K : Type 0} (bytes : K → Bytes) where
  abbrev pub seen : List (K × ℕ) → Table
  seen entries = map (λ e. (bytes e.0, e.1)) entries

  pub lookup-seen : (name : Bytes) (entries : List (K × ℕ))
      → lookup (λ k. bytes_eq name (bytes k)) entries ≡ place_in name (seen entries)
  lookup-seen name [] = refl
  lookup-seen name (e ∷ es) = by (bytes_eq name (bytes e.0)) (lookup-seen name es)
    where
      by : (b : Bool) → lookup (λ k. bytes_eq name (bytes k)) es ≡ place_in name (seen es)
          → cond b (Some e.1) (lookup (λ k. bytes_eq name (bytes k)) es)
          ≡ cond b (Some e.1) (place_in name (seen es))
      by true rest = refl
      by false rest = rest

  pub seen-push : (entries : List (K × ℕ)) (e : K × ℕ)
      → seen (entries ++ e ∷ []) ≡ seen entries ++ (bytes e.0, e.1) ∷ []
  seen-push [] e = refl
  seen-push (x ∷ xs) e = ap (λ (t : Table). (bytes x.0, x.1) ∷ t) (seen-push xs e)

-- the row at the end counts where no other has its name
place_in-push : (n name : Bytes) (i : ℕ) (table : Table)
    → place_in n (table ++ (name, i) ∷ [])
    ≡ option_or (place_in n table) (if bytes_eq n name then Some i else None)
place_in-push n name i [] = refl
place_in-push n name i (row ∷ rows) = by (bytes_eq n row.0) (place_in-push n name i rows)
  where
    by : (b : Bool)
        → place_in n (rows ++ (name, i) ∷ [])
        ≡ option_or (place_in n rows) (if bytes_eq n name then Some i else None)
        → cond b (Some row.1) (place_in n (rows ++ (name, i) ∷ []))
        ≡ option_or (cond b (Some row.1) (place_in n rows))
        (if bytes_eq n name then Some i else None)
    by true rest = refl
    by false rest = rest

pub adds_new : (name : Bytes) (i : ℕ) (old new : Table) → new ≡ old ++ (name, i) ∷ []
    → Adds name i old new
adds_new name i old new is = record {
  each = λ n. ap (place_in n) is ∙ place_in-push n name i old
      ∙ ap (λ (b : Bool). option_or (place_in n old) (if b then Some i else None))
      (bytes_eq_turned n name);
}

pub adds_old : (name : Bytes) (i : ℕ) (table : Table) (b : Bool) → b ≡ is_some (place_in name table)
    → b ≡ true → Adds name i table table
adds_old name i table b is holds = by (place_in name table) refl (sym is ∙ holds)
  where
    same : (o : Option ℕ) (k : ℕ) (t : Bool) → (t ≡ true → o ≡ Some k)
        → o ≡ option_or o (if t then Some i else None)
    same None k true there = cc (there refl)
    same None k false there = refl
    same (Some j) k t there = refl

    by : (o : Option ℕ) → place_in name table ≡ o → is_some o ≡ true → Adds name i table table
    by None is there = absurd (true≢false (sym there))
    by (Some k) is there = record {
      each = λ n. same (place_in n table) k (bytes_eq name n)
          (λ e. ap (λ (m : Bytes). place_in m table) (sym ((bytes_eq-Decides name n).0 e)) ∙ is);
    }

-- ---- an entry

or_none : {A : Type 0} (o : Option A) → o ≡ option_or o None
or_none None = refl
or_none (Some x) = refl

pub notes_named : (item : Item) (name : Bytes) (place : ℕ) (old new : Table)
    → Some name ≡ member_name item → Adds name place old new → NotesItem item place old new
notes_named item name place old new is adds = record {
  each = λ n. adds.each n
      ∙ ap (λ (o : Option Bytes). option_or (place_in n old)
      (if option_map_or (λ m. bytes_eq m n) o false then Some place else None)) is;
}

pub notes_nameless : (item : Item) (place : ℕ) (table : Table) → None ≡ member_name item
    → NotesItem item place table table
notes_nameless item place table is = record {
  each = λ n. or_none (place_in n table)
      ∙ ap (λ (o : Option Bytes). option_or (place_in n table)
      (if option_map_or (λ m. bytes_eq m n) o false then Some place else None)) is;
}

pub notes_entry : (doc : Doc) (entry place : ℕ) (item : Item) (old new : Table)
    → Some item ≡ item_at doc entry → NotesItem item place old new → Notes doc entry place old new
notes_entry doc entry place item old new is notes = record {
  each = λ n. notes.each n
      ∙ ap (λ (o : Option Item). option_or (place_in n old)
      (if option_map_or (λ m. bytes_eq m n) (option_and_then member_name o) false
      then Some place else None)) is;
}

pub notes_nothing : (doc : Doc) (entry place : ℕ) (table : Table) → None ≡ item_at doc entry
    → Notes doc entry place table table
notes_nothing doc entry place table is = record {
  each = λ n. or_none (place_in n table)
      ∙ ap (λ (o : Option Item). option_or (place_in n table)
      (if option_map_or (λ m. bytes_eq m n) (option_and_then member_name o) false
      then Some place else None)) is;
}

-- ---- all entries of a class

from_push : (p : ℕ → Bool) (i : ℕ) (xs : List ℕ) (x : ℕ)
    → position_from p i (xs ++ x ∷ [])
    ≡ option_or (position_from p i xs) (if p x then Some (i + length xs) else None)
from_push p i [] x = ap (λ k. cond (p x) (Some k) None) (omega arith)
from_push p i (y ∷ ys) x = by (p y) (from_push p (i + 1) ys x)
  where
    by : (b : Bool)
        → position_from p (i + 1) (ys ++ x ∷ [])
        ≡ option_or (position_from p (i + 1) ys)
        (if p x then Some (i + 1 + length ys) else None)
        → cond b (Some i) (position_from p (i + 1) (ys ++ x ∷ []))
        ≡ option_or (cond b (Some i) (position_from p (i + 1) ys))
        (if p x then Some (i + suc (length ys)) else None)
    by true rest = refl
    by false rest = rest ∙ ap (λ k. option_or (position_from p (i + 1) ys)
        (if p x then Some k else None)) (omega arith)

position_push : (p : ℕ → Bool) (xs : List ℕ) (x k : ℕ) → length xs ≡ k
    → position p (xs ++ x ∷ []) ≡ option_or (position p xs) (if p x then Some k else None)
position_push p xs x k len =
    position_from-zero p (xs ++ x ∷ []) ∙ from_push p 0 xs x
    ∙ ap (λ (o : Option ℕ). option_or o (if p x then Some (0 + length xs) else None))
    (sym (position_from-zero p xs))
    ∙ ap (λ n. option_or (position p xs) (if p x then Some n else None)) (omega (arith, len))

pub places_none : (doc : Doc) (table : Table) → table ≡ [] → HasPlaces doc [] table
places_none doc table empty = record { each = λ n. ap (place_in n) empty }

pub places_more : (doc : Doc) (entries : List ℕ) (k : ℕ) (x : ℕ) (old new : Table)
    → k < length entries → x ≡ get_or entries k 0 → HasPlaces doc (take k entries) old
    → Notes doc x k old new → HasPlaces doc (take (k + 1) entries) new
places_more doc entries k x old new lt at has notes = record {
  each = λ n.
      let p = is_entry_called doc n in
      notes.each n
      ∙ ap (λ (o : Option ℕ). option_or o (if p x then Some k else None)) (has.each n)
      ∙ sym (position_push p (take k entries) x k (length-take-le k entries (omega (arith, lt))))
      ∙ ap (λ y. position p (take k entries ++ y ∷ [])) at
      ∙ ap (position p) (sym (take_more entries k 0 lt));
}

-- ---- all classes

pub knows_none : (doc : Doc) (tables : List Table) → tables ≡ [] → KnowsEntries doc [] tables
knows_none doc tables empty = record {
  count = ap length empty;
  each = λ c n. ap (λ (ts : List Table). option_and_then (place_in n) (slice_get ts c)) empty;
}

abbrev entries_at : List Class → ℕ → List ℕ
entries_at rows c = option_map_or (λ r. r.entries) (slice_get rows c) []

push_each : (doc : Doc) (rows : List Class) (tables : List Table) (row : Class) (table : Table)
    → length tables ≡ length rows
    → ((c : ℕ) (n : Bytes) → option_and_then (place_in n) (slice_get tables c)
    ≡ position (is_entry_called doc n) (entries_at rows c))
    → HasPlaces doc row.entries table → (c : ℕ) (n : Bytes)
    → option_and_then (place_in n) (slice_get (tables ++ table ∷ []) c)
    ≡ position (is_entry_called doc n) (entries_at (rows ++ row ∷ []) c)
push_each doc [] [] row table len each has zero n = has.each n
push_each doc [] [] row table len each has (suc c) n = refl
push_each doc [] (t ∷ ts) row table len each has c n = absurd (omega (arith, len))
push_each doc (r ∷ rs) [] row table len each has c n = absurd (omega (arith, len))
push_each doc (r ∷ rs) (t ∷ ts) row table len each has zero n = each zero n
push_each doc (r ∷ rs) (t ∷ ts) row table len each has (suc c) n =
    push_each doc rs ts row table (omega (arith, len)) (λ d m. each (suc d) m) has c n

pub knows_more : (doc : Doc) (rows : List Class) (k : ℕ) (row : Class) (table : Table)
    (old new : List Table) → k < length rows → row ≡ get_or rows k row
    → KnowsEntries doc (take k rows) old → HasPlaces doc row.entries table
    → new ≡ old ++ table ∷ [] → KnowsEntries doc (take (k + 1) rows) new
knows_more doc rows k row table old new lt at knows has is =
    let front : take (k + 1) rows ≡ take k rows ++ row ∷ [] = take_more rows k row lt
    ∙ ap (λ (r : Class). take k rows ++ r ∷ []) (sym at) in
    subst (λ (rs : List Class). KnowsEntries doc rs new) (sym front)
    (subst (λ (ts : List Table). KnowsEntries doc (take k rows ++ row ∷ []) ts) (sym is)
    (record {
      count = one_longer old (take k rows) table row knows.count;
      each = push_each doc (take k rows) old row table knows.count knows.each has;
    }))
  where
    one_longer : (ts : List Table) (rs : List Class) (t : Table) (r : Class)
        → length ts ≡ length rs → length (ts ++ t ∷ []) ≡ length (rs ++ r ∷ [])
    one_longer [] [] t r len = refl
    one_longer [] (x ∷ xs) t r len = absurd (omega (arith, len))
    one_longer (y ∷ ys) [] t r len = absurd (omega (arith, len))
    one_longer (y ∷ ys) (x ∷ xs) t r len = ap suc (one_longer ys xs t r (omega (arith, len)))

-- ---- what the tables of a document find

entries_are : (doc : Doc) (c : ℕ) → entries_at (component_classes doc) c ≡ entries_of doc c
entries_are doc c = by (slice_get (component_classes doc) c) refl
  where
    by : (o : Option Class) → o ≡ slice_get (component_classes doc) c
        → option_map_or (λ r. r.entries) o [] ≡ entries_of doc c
    by None e = sym (entries_past doc c (class_lacks doc c e))
    by (Some r) e = ap (λ (x : Class). x.entries) (class_got doc c r e)

pub entry_placed : (doc : Doc) (rows : List Class) (tables : List Table) (c : ℕ) (n : Bytes)
    (o : Option ℕ) → IsScene doc rows tables
    → o ≡ option_and_then (place_in n) (slice_get tables c)
    → o ≡ position (is_entry_called doc n) (entries_of doc c)
entry_placed doc rows tables c n o scene is =
    is ∙ scene.entries.each c n
    ∙ ap (λ (rs : List Class). position (is_entry_called doc n) (entries_at rs c)) scene.classes
    ∙ ap (position (is_entry_called doc n)) (entries_are doc c)

-- ---- the first element that passes, by its place

pub found_at : (p : ℕ → Bool) (xs : List ℕ) (k : ℕ) → Some k ≡ position p xs
    → slice_get xs k ≡ find p xs
found_at p xs k is = by (nat_lt (position_or_len p xs) (length xs)) is
  where
    by : (b : Bool) → Some k ≡ cond b (Some (position_or_len p xs)) None
        → slice_get xs k ≡ find p xs
    by true e = ap (slice_get xs) (ap (λ (o : Option ℕ). option_map_or (λ i. i) o k) e)
        ∙ sym (find_at p xs)
    by false e = absurd (true≢false (ap is_some e))

pub found_nowhere : (p : ℕ → Bool) (xs : List ℕ) → None ≡ position p xs → None ≡ find p xs
found_nowhere p xs is = by (nat_lt (position_or_len p xs) (length xs)) refl is
  where
    by : (b : Bool) → nat_lt (position_or_len p xs) (length xs) ≡ b
        → None ≡ cond b (Some (position_or_len p xs)) None → None ≡ find p xs
    by true t e = absurd (true≢false (sym (ap is_some e)))
    by false t e = sym (find_at p xs ∙ slice_get_past xs (position_or_len p xs)
        (ltb-false (position_or_len p xs) (length xs) t))
