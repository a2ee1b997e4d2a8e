-- Statements at their indices.
use Rattle.std.specs.Prelude.{◌≡◌, Some, slice_get}
use Rattle.dg_decl.specs.declared.document.Doc.{Doc}
use Rattle.dg_decl.specs.Document.{Statement, statements}
use Rattle.dg_decl.specs.Names.{item_at}

-- a statement stands at its index
pub record Stands (doc : Doc) (s : Statement) : Type 0 where
  pub at : slice_get (statements doc) s.index ≡ Some s
  pub item : item_at doc s.index ≡ Some s.item
