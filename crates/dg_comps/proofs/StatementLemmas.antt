-- Where the statements of a document stand.
use Rattle.std.proofs.Common.{◌≡◌, ◌⊎◌, inl, inr, ℕ, zero, suc, ◌+◌, ◌-◌, ◌<◌, ◌≤◌, Bool, true, false, cond, nat_lt, nat_eq, List, [], ◌∷◌, length, get_or, map, Option, Some, None, option_map, option_and_then, slice_get, filter, position, refl, sym, ap, subst, ◌∙◌, arith}
use Rattle.std.specs.List.{list_any, position_or_len}
use Rattle.std.proofs.lemmas.Option.{none-some, same_Some, slice_get-get_or, slice_get_within}
use Rattle.dg_decl.specs.declared.document.Doc.{Doc}
use Rattle.dg_decl.specs.declared.item.Item.{Item}
use Rattle.dg_decl.specs.Document.{Statement, statements, statements_from, open_behind}
use Rattle.dg_decl.specs.Names.{item_at}
use Rattle.dg_comps.specs.Stands.{Stands}
use Rattle.dg_decl.specs.Components.{hilt_count, is_component, component_headers, header_of, header_item}

-- what holds of each statement
abbrev pub Each : (Statement → Type 0) → List Statement → Type 0
Each P [] = Unit {0}
Each P (s ∷ ss) = P s × Each P ss

each_kept : (P : Statement → Type 0) (b : Bool) (s : Statement) (ss : List Statement) → P s
    → Each P ss → Each P (cond b (s ∷ ss) ss)
each_kept P true s ss here rest = (here, rest)
each_kept P false s ss here rest = rest

pub each_filter : (P : Statement → Type 0) (p : Statement → Bool) (ss : List Statement)
    → Each P ss → Each P (filter p ss)
each_filter P p [] each = tt
each_filter P p (s ∷ ss) each = each_kept P (p s) s (filter p ss) each.0 (each_filter P p ss each.1)

pub each_at : (P : Statement → Type 0) (ss : List Statement) (k : ℕ) (s : Statement) → Each P ss
    → slice_get ss k ≡ Some s → P s
each_at P [] k s each e = absurd (none-some s e)
each_at P (t ∷ ts) zero s each e = subst P (same_Some t s e) each.0
each_at P (t ∷ ts) (suc k) s each e = each_at P ts k s each.1 e

-- the lists from a place on agree
abbrev Behind : {A : Type 0} → List A → ℕ → List A → Type 0
Behind {A} all low rest = (k : ℕ) → slice_get all (low + k) ≡ slice_get rest k

behind_more : {A : Type 0} (all : List A) (low : ℕ) (x : A) (rest : List A)
    → Behind all low (x ∷ rest) → Behind all (suc low) rest
behind_more all low x rest behind k =
    (let next : suc low + k ≡ low + suc k = omega arith in ap (slice_get all) next ∙ behind (suc k))

behind_here : {A : Type 0} (all : List A) (low : ℕ) (x : A) (rest : List A)
    → Behind all low (x ∷ rest) → slice_get all low ≡ Some x
behind_here all low x rest behind =
    (let here : low ≡ low + 0 = omega arith in ap (slice_get all) here ∙ behind 0)

stand_from : (doc : Doc) (index : ℕ) (block : Option ℕ) (items : List Item)
    → Behind doc.items index items
    → Behind (statements doc) index (statements_from doc index block items)
    → Each (Stands doc) (statements_from doc index block items)
stand_from doc index block [] items here = tt
stand_from doc index block (x ∷ xs) items here = (
  record {
    at = behind_here (statements doc) index _ (statements_from doc (suc index)
        (open_behind block index x) xs) here;
    item = behind_here doc.items index x xs items;
  },
  stand_from doc (suc index) (open_behind block index x) xs (behind_more doc.items index x xs items)
      (behind_more (statements doc) index _ (statements_from doc (suc index)
      (open_behind block index x) xs) here),
)

from_start : {A : Type 0} (xs : List A) → Behind xs 0 xs
from_start xs k = (let same : 0 + k ≡ k = omega arith in ap (slice_get xs) same)

same_start : (doc : Doc) → Behind (statements doc) 0 (statements_from doc 0 None doc.items)
unfolding statements
same_start doc = from_start (statements doc)

all_from_start : (doc : Doc) → Each (Stands doc) (statements_from doc 0 None doc.items)
all_from_start doc = stand_from doc 0 None doc.items (from_start doc.items) (same_start doc)

pub all_stand : (doc : Doc) → Each (Stands doc) (statements doc)
unfolding statements
all_stand doc = all_from_start doc

-- ---- headers

header_stands_at : (doc : Doc) (c : ℕ) (h : Statement) (b : Bool)
    → cond b None (slice_get (component_headers doc) (c - hilt_count)) ≡ Some h → Stands doc h
header_stands_at doc c h true e = absurd (none-some h e)
header_stands_at doc c h false e =
    each_at (Stands doc) (component_headers doc) (c - hilt_count) h
    (each_filter (Stands doc) (λ s. is_component s.item) (statements doc) (all_stand doc)) e

pub header_stands : (doc : Doc) (c : ℕ) (h : Statement) → header_of doc c ≡ Some h → Stands doc h
unfolding header_of
header_stands doc c h e = header_stands_at doc c h (nat_lt c hilt_count) e

-- the item of a header by its index
pub header_item_at : (doc : Doc) (c index : ℕ) → Some index
    ≡ option_map (λ h. h.index) (header_of doc c)
    → item_at doc index ≡ header_item doc c
header_item_at doc c index e = from (header_of doc c) refl e
  where
    from : (o : Option Statement) → header_of doc c ≡ o → Some index ≡ option_map (λ h. h.index) o
        → item_at doc index ≡ option_map (λ h. h.item) o
    from None is e = absurd (none-some index (sym e))
    from (Some h) is e = ap (item_at doc) (same_Some index h.index e)
        ∙ (header_stands doc c h is).item

-- what is read from the statements stands at its index
pub read_stands : (doc : Doc) (ss : List Statement) (place : ℕ) (s : Statement)
    → ss ≡ statements doc → place < length ss → s ≡ get_or ss place s → Stands doc s
read_stands doc ss place s same lt at =
    each_at (Stands doc) (statements doc) place s (all_stand doc)
    (ap (λ xs. slice_get xs place) (sym same) ∙ slice_get-get_or ss place s lt ∙ ap Some (sym at))

pub stands_within : (doc : Doc) (s : Statement) → Stands doc s → s.index < length doc.items
stands_within doc s stands = slice_get_within doc.items s.index s.item stands.item
