-- Where a violation stands, as it is printed.
use Rattle.std.specs.Prelude.{ℕ, ◌++◌, codes, decimal}
use Rattle.dg_lex.specs.Bytes.{Bytes}

-- the site of a line: `line` and its number
unfoldable pub site_of_line : ℕ → Bytes
site_of_line line = codes "line " ++ decimal line
