-- How large a document is that can be held and numbered.
use Rattle.std.specs.Prelude.{◌≡◌, ◌≤◌, ◌<◌, ◌^◌, length}
use Rattle.dg_decl.specs.declared.document.Doc.{Doc}
use Rattle.dg_decl.specs.Components.{class_count}

-- Each item has its line, there are fewer items than 2^31, and at most 128 component classes, Hilt's
-- eight included. A document that is read from bytes within the limit on bytes is so.
pub record IsBounded (doc : Doc) : Type 0 where
  pub lines : length doc.lines ≡ length doc.items
  pub items : length doc.items < 2 ^ 31
  pub classes : class_count doc ≤ 128
