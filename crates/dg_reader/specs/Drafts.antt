-- What a draft of a document keeps beside its items: the index of the header of the open block, and
-- how many items of each kind there are.
use Rattle.std.specs.Prelude.{◌≡◌, ℕ, ◌<◌, ◌^◌, List, length, slice_get, Option, Some, None}
use Rattle.std.specs.List.{count_by}
use Rattle.dg_decl.specs.declared.item.Item.{Item}
use Rattle.dg_decl.specs.Blocks.{open_block}
use Rattle.dg_decl.specs.Limits.{is_declaration_line, is_component_line, is_open_line, is_link_line}
use Rattle.dg_decl.specs.Limits.{is_ask_line}
use Rattle.dg_reader.specs.declared.counts.Counts.{Counts}

-- the item of this index, where there is an index
abbrev pub header_at : Option ℕ → List Item → Option Item
header_at None items = None
header_at (Some index) items = slice_get items index

-- an index is below this
abbrev pub IsBelow : Option ℕ → ℕ → Type 0
IsBelow None n = Unit {0}
IsBelow (Some index) n = index < n

-- how many of these items are of each kind
abbrev pub counts_of : List Item → Counts
counts_of items = record {
  declarations = count_by is_declaration_line items;
  components = count_by is_component_line items;
  opens = count_by is_open_line items;
  links = count_by is_link_line items;
  asks = count_by is_ask_line items;
}

-- one more fits into each count
pub record AreSmall (counts : Counts) : Type 0 where
  pub declarations : counts.declarations < 2 ^ 63
  pub components : counts.components < 2 ^ 63
  pub opens : counts.opens < 2 ^ 63
  pub links : counts.links < 2 ^ 63
  pub asks : counts.asks < 2 ^ 63

-- the header and the counts are those of these items
pub record IsDraft (items : List Item) (header : Option ℕ) (counts : Counts) : Type 0 where
  pub header_is : header_at header items ≡ open_block items
  pub within : IsBelow header (length items)
  pub counted : counts ≡ counts_of items
