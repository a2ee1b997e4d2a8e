-- The canonical text of a document that was read is read back.
use Rattle.std.proofs.Common.{ℕ, suc, ◌≡◌, ◌+◌, ◌-◌, ◌≤◌, ◌<◌, true, ◌==◌, List, [], ◌∷◌, ◌++◌, length, map, None, refl, sym, ap, subst, ◌∙◌, inl, inr, length-append, append_assoc, append-nil, arith}
use Rattle.std.specs.Prelude.{not, nat_le}
use Rattle.std.specs.List.{list_all, list_any, flat_map}
use Rattle.std.proofs.Math.Seq.{take-append_seam, get_or-append_seam}
use Rattle.std.proofs.lemmas.List.Elements.{filter_map-append}
use Rattle.std.proofs.lemmas.Bool.{and_parts, cases_lt, leb-true, false≢true, not-true}
use Rattle.dg_lex.specs.Bytes.{Bytes, line_end, line_limit}
use Rattle.dg_decl.specs.declared.document.Doc.{Doc}
use Rattle.dg_decl.specs.declared.document.LineMeaning.{LineMeaning}
use Rattle.dg_decl.specs.declared.document.LineMeaning.TheVariants.{Bad, Nothing, Says}
use Rattle.dg_decl.specs.declared.item.Item.{Item}
use Rattle.dg_decl.specs.Lines.{lines_of, rest_of, with_end, has_no_end}
use Rattle.dg_decl.specs.Meaning.{meaning_of, item_of}
use Rattle.dg_decl.specs.Blocks.{open_block}
use Rattle.dg_decl.specs.Reading.{items_of, line_numbers_of, may_follow, is_good_meaning, is_good, is_good_at, Reads}
use Rattle.dg_decl.specs.Canonical.{canonical_line, canonical_text}
use Rattle.dg_printer.specs.Laws.{has_short_lines, IsReadBack, ReadsBack}
use Rattle.dg_printer.proofs.BackKinds.{or_true}
use Rattle.dg_printer.proofs.BackWritten.{AllOf}
use Rattle.dg_printer.proofs.BackTokens.{FitItem}
use Rattle.dg_printer.proofs.BackLines.{MeaningFits, meaning_fits, line_no_end, line_says}

-- ---- the lines of a text that is put together from lines

lines_first : (line rest : Bytes) → has_no_end line ≡ true → lines_of (line ++ (line_end ∷ rest))
    ≡ line ∷ lines_of rest
lines_first [] rest none = refl
lines_first (b ∷ line) rest none =
    let parts = and_parts (not (b == line_end)) (has_no_end line) none in
    rw (not-true (b == line_end) parts.0, lines_first line rest parts.1) refl

pub lines_back : (lines : List Bytes) → list_all has_no_end lines ≡ true → lines_of
    (flat_map with_end lines) ≡ lines
lines_back [] none = refl
lines_back (line ∷ lines) none =
    let parts = and_parts (has_no_end line) (list_all has_no_end lines) none in
    rw (
      append_assoc line (line_end ∷ []) (flat_map with_end lines),
      lines_first line
          (flat_map with_end lines) parts.0,
      lines_back lines parts.1,
    ) refl

end_stands : (line rest : Bytes) → list_any (λ c. c == line_end) (line ++ (line_end ∷ rest)) ≡ true
end_stands [] rest = refl
end_stands (b ∷ line) rest = rw (end_stands line rest) (or_true (b == line_end))

rest_first : (line rest : Bytes) → rest_of (line ++ (line_end ∷ rest)) ≡ rest_of rest
rest_first [] rest = refl
rest_first (b ∷ line) rest = rw (end_stands (b ∷ line) rest) (rest_first line rest)

pub rest_back : (lines : List Bytes) → rest_of (flat_map with_end lines) ≡ []
rest_back [] = refl
rest_back (line ∷ lines) =
    rw (
      append_assoc line (line_end ∷ []) (flat_map with_end lines),
      rest_first line
          (flat_map with_end lines),
    ) (rest_back lines)

-- ---- lines, each good behind those before it

abbrev GoodFrom : List Bytes → List Bytes → Type 0
GoodFrom front [] = Unit {0}
GoodFrom front (line ∷ lines) = (is_good line (items_of front) ≡ true) × GoodFrom
    (front ++ (line ∷ [])) lines

good_at_seam : (front : List Bytes) (line : Bytes) (lines : List Bytes) → is_good_at
    (front ++ (line ∷ lines)) (length front + 1) ≡ is_good line (items_of front)
good_at_seam front line lines =
    let before : length front + 1 - 1 ≡ length front = omega arith in
    rw (before, get_or-append_seam front line lines [], take-append_seam front (line ∷ lines)) refl

good_from : (front later all : List Bytes) → all ≡ front ++ later
    → ((n : ℕ) → 1 ≤ n → n ≤ length all → is_good_at all n ≡ true) → GoodFrom front later
good_from front [] all same each = tt
good_from front (line ∷ later) all same each =
    let size : length all ≡ length front + suc (length later) = ap length same ∙ length-append front
    (line ∷ later) in
    let here : is_good_at all (length front + 1) ≡ true = each (length front + 1) (omega arith)
    (omega (arith, size)) in (
      sym (good_at_seam front line later) ∙ sym (ap
          (λ (z : List Bytes). is_good_at z (length front + 1)) same) ∙ here,
      good_from (front ++ (line ∷ [])) later all (same ∙ sym (append_assoc front (line ∷ []) later))
          each,
    )

each_from : (front later all : List Bytes) → all ≡ front ++ later → GoodFrom front later → (n : ℕ)
    → length front < n → n ≤ length all → is_good_at all n ≡ true
each_from front [] all same good n low high =
    let size : length all ≡ length front = ap length same ∙ ap length (append-nil front) in
    absurd (omega (arith, size, low, high))
each_from front (line ∷ later) all same good n low high =
    elim (cases_lt (length front + 1) n) [
      | inl more ↦ (let size : length (front ++ (line ∷ []))
          ≡ length front + 1 = length-append front (line ∷ []) in
          each_from (front ++ (line ∷ [])) later all
          (same ∙ sym (append_assoc front (line ∷ []) later)) good.1 n
          (omega (arith, size, more)) high)
      | inr le ↦ (let here : n ≡ length front + 1 = omega (arith, le, low) in
          rw (here, same) (good_at_seam front line later ∙ good.0))
    ]

-- ---- items, each such as may follow those before it

abbrev FollowFrom : List Item → List Item → Type 0
FollowFrom before [] = Unit {0}
FollowFrom before (x ∷ xs) = (may_follow x before ≡ true) × FollowFrom (before ++ (x ∷ [])) xs

-- items that follow one another and fit
record Follow (before later : List Item) : Type 0 where
  follow : FollowFrom before later
  fit : AllOf FitItem later

abbrev said_by : LineMeaning → List Item
said_by Bad = []
said_by Nothing = []
said_by (Says x) = x ∷ []

one_item : (line : Bytes) (m : LineMeaning) → meaning_of line ≡ m → items_of (line ∷ []) ≡ said_by m
unfolding items_of item_of
one_item line Bad e = rw e refl
one_item line Nothing e = rw e refl
one_item line (Says x) e = rw e refl

items_append : (front later : List Bytes) → items_of (front ++ later) ≡ items_of front
    ++ items_of later
unfolding items_of
items_append front later = filter_map-append item_of front later

more_items : (line : Bytes) (later : List Bytes) (m : LineMeaning) → meaning_of line ≡ m → items_of
    (line ∷ later) ≡ said_by m ++ items_of later
more_items line later m e = items_append (line ∷ []) later ∙ ap
    (λ (xs : List Item). xs ++ items_of later) (one_item line m e)

front_items : (front : List Bytes) (line : Bytes) (m : LineMeaning) → meaning_of line ≡ m → items_of
    (front ++ (line ∷ [])) ≡ items_of front ++ said_by m
front_items front line m e = items_append front (line ∷ []) ∙ ap
    (λ (xs : List Item). items_of front ++ xs) (one_item line m e)

good_means : (line : Bytes) (before : List Item) (m : LineMeaning) → meaning_of line ≡ m
    → is_good line before ≡ is_good_meaning m before
unfolding is_good
good_means line before m e = ap (λ (x : LineMeaning). is_good_meaning x before) e

follow_more : (before later : List Item) (m : LineMeaning) → is_good_meaning m before ≡ true
    → MeaningFits m → Follow (before ++ said_by m) later → Follow before (said_by m ++ later)
follow_more before later Bad good fits f = absurd (false≢true good)
follow_more before later Nothing good fits f = rw (append-nil before) at f
follow_more before later (Says x) good fits f = record
    { follow = (good, f.follow); fit = (fits, f.fit) }

no_items : items_of [] ≡ []
unfolding items_of
no_items = refl

nothing_follows : (before : List Item) → Follow before []
nothing_follows before = record { follow = tt; fit = tt }

follow_of : (front later : List Bytes) → GoodFrom front later → Follow (items_of front)
    (items_of later)
follow_of front [] good = subst (Follow (items_of front)) (sym no_items)
    (nothing_follows (items_of front))
follow_of front (line ∷ later) good =
    let m = meaning_of line in
    let rest : Follow (items_of front ++ said_by (meaning_of line)) (items_of later) = subst
    (λ (xs : List Item). Follow xs (items_of later))
    (front_items front line (meaning_of line) refl)
    (follow_of (front ++ (line ∷ [])) later good.1) in
    subst (Follow (items_of front)) (sym (more_items line later (meaning_of line) refl))
    (follow_more (items_of front) (items_of later) (meaning_of line)
    (sym (good_means line (items_of front) (meaning_of line) refl) ∙ good.0)
    (meaning_fits line) rest)

-- ---- the lines of items

abbrev IsSaid : Item → Type 0
IsSaid x = meaning_of (canonical_line x) ≡ Says x

good_lines : (xs before : List Item) (front : List Bytes) → items_of front ≡ before
    → FollowFrom before xs → AllOf IsSaid xs → GoodFrom front (map canonical_line xs)
good_lines [] before front same follow said = tt
good_lines (x ∷ xs) before front same follow said = (
  good_means (canonical_line x) (items_of front) (Says x) said.0 ∙ ap (may_follow x) same
      ∙ follow.0,
  good_lines xs (before ++ (x ∷ [])) (front ++ (canonical_line x ∷ []))
      (front_items front (canonical_line x) (Says x) said.0 ∙ ap
      (λ (ys : List Item). ys ++ (x ∷ [])) same) follow.1 said.1,
)

items_back : (xs : List Item) → AllOf IsSaid xs → items_of (map canonical_line xs) ≡ xs
items_back [] said = no_items
items_back (x ∷ xs) said = more_items (canonical_line x) (map canonical_line xs) (Says x) said.0
    ∙ ap (λ (ys : List Item). x ∷ ys) (items_back xs said.1)

no_ends : (xs : List Item) → AllOf FitItem xs → list_all has_no_end (map canonical_line xs) ≡ true
no_ends [] fit = refl
no_ends (x ∷ xs) fit = rw (line_no_end x fit.0, no_ends xs fit.1) refl

abbrev AreShort : List Bytes → Type 0
AreShort lines = list_all (λ (line : Bytes). nat_le (length line) line_limit) lines ≡ true

all_said : (xs : List Item) → AllOf FitItem xs → AreShort (map canonical_line xs) → AllOf IsSaid xs
all_said [] fit short = tt
all_said (x ∷ xs) fit short =
    let parts = and_parts (nat_le (length (canonical_line x)) line_limit)
    (list_all (λ (line : Bytes). nat_le (length line) line_limit) (map canonical_line xs)) short
    in (
      line_says x fit.0 (leb-true (length (canonical_line x)) line_limit parts.0),
      all_said xs fit.1
          parts.1,
    )

-- ---- the document

text_lines : (doc : Doc) → AllOf FitItem doc.items → lines_of (canonical_text doc)
    ≡ map canonical_line doc.items
unfolding canonical_text
text_lines doc fit = lines_back (map canonical_line doc.items) (no_ends doc.items fit)

text_rest : (doc : Doc) → rest_of (canonical_text doc) ≡ []
unfolding canonical_text
text_rest doc = rest_back (map canonical_line doc.items)

short_lines : (doc : Doc) → has_short_lines doc ≡ true → AreShort (lines_of (canonical_text doc))
unfolding has_short_lines
short_lines doc short = short

doc_follows : (bytes : Bytes) (doc : Doc) → Reads bytes doc → Follow [] doc.items
doc_follows bytes doc r =
    let f = follow_of [] (lines_of bytes) (good_from [] (lines_of bytes)
    (lines_of bytes) refl r.each) in
    rw r.items (rw no_items at f)

back_at : (doc : Doc) → Follow [] doc.items → open_block doc.items ≡ None → AreShort
    (lines_of (canonical_text doc)) → IsReadBack doc
back_at doc f closed short =
    let lines = text_lines doc f.fit in
    let said : AllOf IsSaid doc.items = all_said doc.items f.fit (rw lines at short) in
    let good : GoodFrom [] (map canonical_line doc.items) = good_lines doc.items [] [] no_items
    f.follow said in
    let items : items_of (lines_of (canonical_text doc)) ≡ doc.items = ap items_of lines
    ∙ items_back doc.items said in
    record {
      again = record { items = doc.items; lines = line_numbers_of (lines_of (canonical_text doc)) };
      reads = record {
        each = λ n low high. each_from [] (map canonical_line doc.items)
            (lines_of (canonical_text doc)) lines good n (omega (arith, low)) high;
        no_rest = text_rest doc;
        closed = ap open_block items ∙ closed;
        items = sym items;
        lines = refl;
      };
      items = refl;
    }

pub back : ReadsBack
back bytes doc r short = back_at doc (doc_follows bytes doc r) (ap open_block r.items ∙ r.closed)
    (short_lines doc short)
