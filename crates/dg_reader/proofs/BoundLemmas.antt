-- A document that was read is of bounded size.
use Rattle.std.proofs.Common.{◌≡◌, ℕ, zero, suc, ◌+◌, ◌<◌, ◌≤◌, ◌^◌, Bool, true, false, List, []}
use Rattle.std.proofs.Common.{◌∷◌, length, take, Option, Some, None, refl, sym, ap, ◌∙◌, arith}
use Rattle.std.specs.Prelude.{if◌then◌else◌, sum_by, slice_index}
use Rattle.std.specs.List.{filter, filter_map, cons_option, count_by}
use Rattle.std.proofs.lemmas.List.Sums.{sum_by-cons}
use Rattle.std.proofs.lemmas.List.{length-take-le}
use Rattle.dg_lex.specs.Bytes.{Bytes}
use Rattle.dg_decl.specs.declared.document.Doc.{Doc}
use Rattle.dg_decl.specs.declared.item.Item.{Item}
use Rattle.dg_decl.specs.declared.item.Item.TheVariants as item
use Rattle.dg_decl.specs.Document.{Statement, statements, statements_from, open_behind}
use Rattle.dg_decl.specs.Meaning.{item_of}
use Rattle.dg_decl.specs.Limits.{is_component_line, component_limit}
use Rattle.dg_decl.specs.Lines.{lines_of}
use Rattle.dg_decl.specs.Reading.{items_of, with_number, numbers_from, line_numbers_of}
use Rattle.dg_decl.specs.Components.{is_component, component_headers, class_count, hilt_count}
use Rattle.dg_decl.specs.Bounds.{IsBounded}
use Rattle.dg_reader.proofs.ReadingLemmas.{HasRead}

-- ---- as many numbers as items, and no more than lines

numbers_first : (o : Option Item) (n : ℕ) (later : List ℕ) (items : List Item)
    → length later ≡ length items → length (with_number o n later) ≡ length (cons_option o items)
numbers_first None n later items same = same
numbers_first (Some x) n later items same = ap suc same

numbers_are : (n : ℕ) (lines : List Bytes) → length (numbers_from n lines) ≡ length (items_of lines)
unfolding items_of
numbers_are n [] = refl
numbers_are n (line ∷ lines) = numbers_first (item_of line) n (numbers_from (n + 1) lines)
    (filter_map item_of lines) (numbers_are (n + 1) lines)

as_many : (lines : List Bytes) → length (line_numbers_of lines) ≡ length (items_of lines)
unfolding line_numbers_of
as_many lines = numbers_are 1 lines

fewer_first : (o : Option Item) (items : List Item) (n : ℕ) → length items ≤ n
    → length (cons_option o items) ≤ suc n
fewer_first None items n le = omega (arith, le)
fewer_first (Some x) items n le = omega (arith, le)

fewer : (lines : List Bytes) → length (items_of lines) ≤ length lines
unfolding items_of
fewer [] = omega arith
fewer (line ∷ lines) = fewer_first (item_of line) (filter_map item_of lines) (length lines) (fewer
    lines)

-- ---- as many headers of components as lines

same_kind : (x : Item) → is_component x ≡ is_component_line x
same_kind (item.QualifierLine n m) = refl
same_kind (item.ScopeLine n) = refl
same_kind (item.Interface n) = refl
same_kind (item.Class i s n ps is) = refl
same_kind (item.Module i n is) = refl
same_kind (item.TestModule i n rs is) = refl
same_kind (item.Component ss n p ms) = refl
same_kind (item.DefineComponent ss n p) = refl
same_kind (item.EntryPoint i n) = refl
same_kind (item.Provides m s n ps t e) = refl
same_kind (item.Binds m s n p t) = refl
same_kind (item.Produces m n ps t b) = refl
same_kind (item.OptionalOf n t) = refl
same_kind (item.Multibinds n t) = refl
same_kind (item.BindsInstance n t) = refl
same_kind (item.DependsOn n) = refl
same_kind (item.Entry n t) = refl
same_kind item.End = refl
same_kind (item.OpenLine n c p xs) = refl
same_kind (item.Link a b) = refl
same_kind (item.AskLine i e ss) = refl

counted_first : (b : Bool) (s : Statement) (ss : List Statement)
    → length (if b then s ∷ ss else ss) ≡ (if b then 1 else 0) + length ss
counted_first true s ss = omega arith
counted_first false s ss = omega arith

headers_are : (doc : Doc) (index : ℕ) (block : Option ℕ) (items : List Item) → length (filter
    (λ s. is_component s.item) (statements_from doc index block items)) ≡ count_by is_component_line
    items
headers_are doc index block [] = refl
headers_are doc index block (x ∷ xs) =
    let later = headers_are doc (suc index) (open_behind block index x) xs in
    counted_first (is_component x) record {
      index = index;
      line = slice_index doc.lines index;
      block
          = block;
      item = x;
    } (filter (λ s. is_component s.item) (statements_from doc (suc index)
    (open_behind block index x) xs))
    ∙ (ap (λ (n : ℕ). (if is_component x then 1 else 0) + n) later
    ∙ (ap (λ (b : Bool). (if b then 1 else 0) + count_by is_component_line xs) (same_kind x)
    ∙ sym (sum_by-cons (λ y. if is_component_line y then 1 else 0) x xs)))

classes_are : (doc : Doc) → class_count doc ≡ hilt_count + count_by is_component_line doc.items
unfolding class_count statements
classes_are doc = ap (λ (n : ℕ). hilt_count + n) (headers_are doc 0 None doc.items)

pub is_bounded : (bytes : Bytes) (number : ℕ) (text : Bytes) (doc : Doc)
    → HasRead bytes number text doc.items doc.lines → number ≤ 4194304 → IsBounded doc
is_bounded bytes number text doc read within =
    let lines = take number (lines_of bytes) in
    let so_many : length lines ≡ number = omega (
      arith,
      length-take-le number (lines_of bytes)
          read.count,
    ) in
    let items : length doc.items ≤ length lines = rw read.items_are (fewer lines) in
    let few : count_by is_component_line doc.items ≤ component_limit = read.few in
    let eight : hilt_count ≡ 8 = refl in
    record {
      lines = rw (read.items_are, read.places_are) (as_many lines);
      items = omega (arith, items, so_many, within);
      classes = rw (classes_are doc) (omega (arith, few, eight));
    }
