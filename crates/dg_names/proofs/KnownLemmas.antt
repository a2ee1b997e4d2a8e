-- What the tables have, once there is one more statement.
use Rattle.std.proofs.Common.{◌≡◌, ℕ, Bool, true, false, List, [], ◌∷◌, Option, Some, None, if◌then◌else◌, refl, sym, ap, ◌∙◌}
use Rattle.std.specs.List.{find, slice_get}
use Rattle.std.specs.Option.{option_map, option_or, option_and_then}
use Rattle.std.specs.Str.{bytes_eq}
use Rattle.std.proofs.lemmas.Slice.Eq.{bytes_eq-Decides}
use Rattle.dg_lex.specs.Bytes.{Bytes, is_among}
use Rattle.dg_hilt.specs.Names.{predefined_names}
use Rattle.dg_hilt.specs.Names as hilt
use Rattle.dg_decl.specs.declared.document.Doc.{Doc}
use Rattle.dg_decl.specs.declared.item.Item.{Item}
use Rattle.dg_decl.specs.Document.{Statement, statements}
use Rattle.dg_decl.specs.Names.{outer_name, is_called, declared}
use Rattle.dg_names.specs.Tables.{Table, index_in}
use Rattle.dg_names.proofs.StatementLemmas.{found_at}
use Rattle.dg_names.specs.Known.{unless_predefined, new_name, first_index, HasFirst, Notes}

-- ---- one statement

or_none : {A : Type 0} (o : Option A) → o ≡ option_or o None
or_none None = refl
or_none (Some x) = refl

-- a name of that kind, as a test
is_it : Bytes → Option Bytes → Bool
is_it n None = false
is_it n (Some m) = bytes_eq m n

-- ---- statements one after another

-- the table and then the statements that are left find what all of them do
pub record FindsOn (name_in : Item → Option Bytes) (ss : List Statement) (table : Table) (left : List Statement) : Type 0 where
  pub each : (n : Bytes) → option_or (index_in n table) (first_index name_in n left)
      ≡ first_index name_in n ss

pub finds_first : (name_in : Item → Option Bytes) (ss : List Statement) (table : Table)
    → table ≡ [] → FindsOn name_in ss table ss
finds_first name_in ss table empty = record {
  each = λ n. ap (λ (t : Table). option_or (index_in n t) (first_index name_in n ss)) empty;
}

pub finds_next : (name_in : Item → Option Bytes) (ss : List Statement) (old new : Table)
    (s : Statement) (left : List Statement) → Notes name_in s old new
    → FindsOn name_in ss old (s ∷ left) → FindsOn name_in ss new left
finds_next name_in ss old new s left notes finds = record {
  each = λ n. ap (λ o. option_or o (first_index name_in n left)) (notes.each n)
      ∙ step (index_in n old) (is_called name_in n s) (find (is_called name_in n) left)
      ∙ finds.each n;
}
  where
    step : (o : Option ℕ) (b : Bool) (rest : Option Statement)
        → option_or (option_or o (if b then Some s.index else None)) (option_map (λ t. t.index) rest)
        ≡ option_or o (option_map (λ t. t.index) (if b then Some s else rest))
    step (Some k) b rest = refl
    step None true rest = refl
    step None false rest = refl

pub finds_all : (name_in : Item → Option Bytes) (ss : List Statement) (table : Table) (left : List Statement)
    → left ≡ [] → FindsOn name_in ss table left → HasFirst name_in ss table
finds_all name_in ss table left none finds = record {
  each = λ n. or_none (index_in n table)
      ∙ ap (λ (xs : List Statement). option_or (index_in n table) (first_index name_in n xs)) (sym none)
      ∙ finds.each n;
}

-- ---- names that are not predefined

find_same : {A : Type 0} (p q : A → Bool) → ((x : A) → p x ≡ q x) → (xs : List A) → find p xs ≡ find q xs
find_same p q same [] = refl
find_same p q same (x ∷ xs) =
    ap (λ (b : Bool). if b then Some x else find p xs) (same x)
    ∙ ap (λ (o : Option _). if q x then Some x else o) (find_same p q same xs)

find_none : {A : Type 0} (p : A → Bool) → ((x : A) → p x ≡ false) → (xs : List A) → find p xs ≡ None
find_none p none [] = refl
find_none p none (x ∷ xs) =
    ap (λ (b : Bool). if b then Some x else find p xs) (none x) ∙ find_none p none xs

-- the two words for this are one
among_same : (n : Bytes) (ns : List Bytes) → hilt.is_among n ns ≡ is_among n ns
unfolding hilt.is_among
among_same n ns = refl

pub is_old_name : (n : Bytes) (b : Bool) → b ≡ hilt.is_among n predefined_names → b ≡ true
    → None ≡ unless_predefined n
unfolding unless_predefined
is_old_name n b is holds =
    ap (λ (c : Bool). if c then None else Some n) (sym holds ∙ is ∙ among_same n predefined_names)

pub is_new_name : (n : Bytes) (b : Bool) → b ≡ hilt.is_among n predefined_names → b ≡ false
    → Some n ≡ unless_predefined n
unfolding unless_predefined
is_new_name n b is fails =
    ap (λ (c : Bool). if c then None else Some n) (sym fails ∙ is ∙ among_same n predefined_names)

-- what a name is called among those that are not predefined
new_is : (n m : Bytes) → is_it n (unless_predefined m)
    ≡ (if is_among n predefined_names then false else bytes_eq m n)
unfolding unless_predefined is_it
new_is n m = by (is_among m predefined_names) refl (bytes_eq m n) refl
  where
    by : (a : Bool) → is_among m predefined_names ≡ a → (b : Bool) → bytes_eq m n ≡ b
        → is_it n (if a then None else Some m) ≡ (if is_among n predefined_names then false else b)
    by true is false same = both (is_among n predefined_names)
      where
        both : (c : Bool) → false ≡ (if c then false else false)
        both true = refl
        both false = refl
    by true is true same =
        ap (λ (c : Bool). if c then false else true)
        (sym is ∙ ap (λ (k : Bytes). is_among k predefined_names) ((bytes_eq-Decides m n).0 same))
    by false is true same = same
        ∙ ap (λ (c : Bool). if c then false else true)
        (sym is ∙ ap (λ (k : Bytes). is_among k predefined_names) ((bytes_eq-Decides m n).0 same))
    by false is false same = same ∙ both (is_among n predefined_names)
      where
        both : (c : Bool) → false ≡ (if c then false else false)
        both true = refl
        both false = refl

new_called : (n : Bytes) (s : Statement) → is_called new_name n s
    ≡ (if is_among n predefined_names then false else is_called outer_name n s)
unfolding is_it
new_called n s = by (outer_name s.item)
  where
    none : (c : Bool) → false ≡ (if c then false else false)
    none true = refl
    none false = refl

    by : (o : Option Bytes) → is_it n (option_and_then unless_predefined o)
        ≡ (if is_among n predefined_names then false else is_it n o)
    by None = none (is_among n predefined_names)
    by (Some m) = new_is n m

pub first_declared : (doc : Doc) (n : Bytes)
    → first_index new_name n (statements doc) ≡ option_map (λ s. s.index) (declared doc n)
unfolding declared
first_declared doc n = by (is_among n predefined_names) refl
  where
    by : (b : Bool) → is_among n predefined_names ≡ b → first_index new_name n (statements doc)
        ≡ option_map (λ s. s.index)
        (if b then None else find (is_called outer_name n) (statements doc))
    by true is = ap (option_map (λ (s : Statement). s.index))
        (find_none (is_called new_name n)
        (λ s. new_called n s ∙ ap (λ (b : Bool). if b then false else is_called outer_name n s) is)
        (statements doc))
    by false is = ap (option_map (λ (s : Statement). s.index))
        (find_same (is_called new_name n) (is_called outer_name n)
        (λ s. new_called n s ∙ ap (λ (b : Bool). if b then false else is_called outer_name n s) is)
        (statements doc))

pub declared_from : (doc : Doc) (n : Bytes) (o : Option ℕ)
    → o ≡ option_map (λ s. s.index) (declared doc n)
    → option_and_then (slice_get (statements doc)) o ≡ declared doc n
unfolding declared
declared_from doc n o is = ap (option_and_then (slice_get (statements doc))) is
    ∙ by (is_among n predefined_names)
  where
    by : (b : Bool) → option_and_then (slice_get (statements doc))
        (option_map (λ s. s.index) (if b then None else find (is_called outer_name n) (statements doc)))
        ≡ (if b then None else find (is_called outer_name n) (statements doc))
    by true = refl
    by false = found_at (is_called outer_name n) doc
