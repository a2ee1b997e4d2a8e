-- What holds of canonical text: it is read back.
use Rattle.std.specs.Prelude.{◌≡◌, Bool, true, nat_le, length}
use Rattle.std.specs.List.{list_all}
use Rattle.dg_lex.specs.Bytes.{Bytes, line_limit}
use Rattle.dg_decl.specs.declared.document.Doc.{Doc}
use Rattle.dg_decl.specs.Lines.{lines_of}
use Rattle.dg_decl.specs.Reading.{Reads}
use Rattle.dg_decl.specs.Canonical.{canonical_text}

-- no line of the canonical text of a document has more bytes than a line may have
unfoldable pub has_short_lines : Doc → Bool
has_short_lines doc = list_all (λ line. nat_le (length line) line_limit) (lines_of (canonical_text
    doc))

-- the canonical text of a document reads to a document with the same items
pub record IsReadBack (doc : Doc) : Type 0 where
  pub again : Doc
  pub reads : Reads (canonical_text doc) again
  pub items : again.items ≡ doc.items

-- so it is with each document that some bytes read to, where the lines are short enough
abbrev pub ReadsBack : Type 0
ReadsBack = (bytes : Bytes) (doc : Doc) → Reads bytes doc → has_short_lines doc ≡ true
    → IsReadBack doc
