-- The items of a document where they stand: statements.
use Rattle.std.specs.Prelude.{ℕ, suc, Bool, true, false, ◌==◌, if◌then◌else◌, List, [], ◌∷◌, Option, Some, None, slice_index}
use Rattle.std.specs.List.{filter}
use Rattle.dg_decl.specs.declared.document.Doc.{Doc}
use Rattle.dg_decl.specs.declared.item.Item.{Item}
use Rattle.dg_decl.specs.declared.item.Item.TheVariants as item

-- an item with its index, the number of its line, and the index of the header in whose block it
-- stands
pub record Statement : Type 0 where
  pub index : ℕ
  pub line : ℕ
  pub block : Option ℕ
  pub item : Item

-- an item opens a block: it is a header
abbrev pub is_header : Item → Bool
is_header (item.Module install n includes) = true
is_header (item.TestModule install n replaces includes) = true
is_header (item.Component scopes n parent modules) = true
is_header (item.DefineComponent scopes n parent) = true
is_header (item.EntryPoint install n) = true
is_header other = false

abbrev pub is_end : Item → Bool
is_end item.End = true
is_end other = false

-- the header of the block that is open behind an item of this index, where this one was open before
-- it
abbrev pub open_behind : Option ℕ → ℕ → Item → Option ℕ
open_behind block index x = if is_header x then Some index else (if is_end x then None else block)

-- the statements of items from this index on, where this block is open before the first of them
abbrev pub statements_from : Doc → ℕ → Option ℕ → List Item → List Statement
statements_from doc index block [] = []
statements_from doc index block (x ∷ xs) =
    record { index = index; line = slice_index doc.lines index; block = block; item = x }
    ∷ statements_from doc (suc index) (open_behind block index x) xs

-- the statements of a document, in order
unfoldable pub statements : Doc → List Statement
statements doc = statements_from doc 0 None doc.items

-- a statement stands in the block of the header of this index
abbrev pub stands_in : ℕ → Statement → Bool
stands_in header s = is_index header s.block
  where
    is_index : ℕ → Option ℕ → Bool
    is_index n None = false
    is_index n (Some m) = m == n

-- the statements of the block of the header of this index
abbrev pub members : Doc → ℕ → List Statement
members doc header = filter (stands_in header) (statements doc)
