-- The header of the open block, once there is one more item.
use Rattle.std.proofs.Common.{◌≡◌, ℕ, zero, suc, ◌+◌, ◌≤◌, ◌<◌, Bool, true, false, List, [], ◌∷◌}
use Rattle.std.proofs.Common.{◌++◌, length, Option, Some, None, refl, sym, ap, subst, ◌∙◌, arith}
use Rattle.std.specs.Prelude.{if◌then◌else◌}
use Rattle.std.specs.List.{slice_get}
use Rattle.std.proofs.lemmas.List.{length_push}
use Rattle.std.proofs.lemmas.List.Sums.{fold-append}
use Rattle.dg_decl.specs.declared.item.Item.{Item}
use Rattle.dg_decl.specs.Document.{is_header, is_end, open_behind}
use Rattle.dg_decl.specs.Blocks.{header_behind, open_block}
use Rattle.dg_reader.specs.declared.counts.Counts.{Counts}
use Rattle.dg_reader.specs.Drafts.{header_at, IsBelow, counts_of, IsDraft}

last_of : (items : List Item) (x : Item) → slice_get (items ++ x ∷ []) (length items) ≡ Some x
last_of [] x = refl
last_of (y ∷ ys) x = last_of ys x

earlier_of : (items : List Item) (x : Item) (place : ℕ) → place < length items
    → slice_get (items ++ x ∷ []) place ≡ slice_get items place
earlier_of [] x place lt = absurd (omega arith)
earlier_of (y ∷ ys) x zero lt = refl
earlier_of (y ∷ ys) x (suc place) lt = earlier_of ys x place (omega arith)

pub open_push : (items : List Item) (x : Item) → open_block (items ++ x ∷ []) ≡ header_behind
    (open_block items) x
unfolding open_block
open_push items x = fold-append header_behind None items (x ∷ [])

still_at : (items : List Item) (x : Item) (header : Option ℕ) → IsBelow header (length items)
    → header_at header (items ++ x ∷ []) ≡ header_at header items
still_at items x None below = refl
still_at items x (Some index) below = earlier_of items x index below

still_below : (header : Option ℕ) (n m : ℕ) → n ≤ m → IsBelow header n → IsBelow header m
still_below None n m le below = tt
still_below (Some index) n m le below = (let lt : index < n = below in omega (arith, lt))

behind : (items : List Item) (x : Item) (header : Option ℕ) (opens ends : Bool)
    → IsBelow header (length items)
    → header_at (if opens then Some (length items) else (if ends then None else header)) (items ++ x
    ∷ []) ≡ (if opens then Some x else (if ends then None else header_at header items))
behind items x header true ends below = last_of items x
behind items x header false true below = refl
behind items x header false false below = still_at items x header below

below_behind : (items : List Item) (x : Item) (header : Option ℕ) (opens ends : Bool)
    → IsBelow header (length items)
    → IsBelow (if opens then Some (length items) else (if ends then None else header)) (length
    (items ++ x ∷ []))
below_behind items x header true ends below = omega (arith, length_push items x)
below_behind items x header false true below = tt
below_behind items x header false false below = still_below header (length items) (length (items ++
    x ∷ [])) (omega (arith, length_push items x)) below

pub draft_behind : (items new : List Item) (x : Item) (header after : Option ℕ) (n : ℕ) (counts more
    : Counts) → IsDraft items header counts → new ≡ items ++ x ∷ []
    → n ≡ length items → after ≡ open_behind header n x → more ≡ counts_of (items ++ x ∷ [])
    → IsDraft new after more
draft_behind items new x header after n counts more draft new_is n_is after_is more_is =
    let index_is : after ≡ open_behind header (length items) x = after_is ∙ ap
    (λ (k : ℕ). open_behind header k x) n_is in
    rw (new_is, index_is, more_is) record {
      header_is = behind items x header (is_header x) (is_end x) draft.within
          ∙ ap (λ (h : Option Item). header_behind h x) draft.header_is ∙ sym (open_push items x);
      within = below_behind items x header (is_header x) (is_end x) draft.within;
      counted = refl;
    }

pub no_draft : IsDraft [] None (counts_of [])
unfolding open_block
no_draft = record { header_is = refl; within = tt; counted = refl }
