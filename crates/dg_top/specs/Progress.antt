-- How far the asks of a document are answered.
use Rattle.std.specs.Prelude.{◌≡◌, ℕ, List, [], ◌++◌, take, Contains}
use Rattle.std.specs.List.{flat_map}
use Rattle.dg_lex.specs.Bytes.{Bytes}
use Rattle.dg_decl.specs.declared.document.Doc.{Doc}
use Rattle.dg_slots.specs.declared.session.Ask.{Ask}
use Rattle.dg_eval.specs.Asks.{numbered_asks, used_by_ask}
use Rattle.dg_eval.specs.Report.{Printed, lines_of}
use Rattle.dg_eval.specs.Runs.{Asked}

-- the first so many asks, with their numbers
abbrev pub first_asks : Doc → ℕ → List (ℕ × Ask)
first_asks doc n = take n (numbered_asks doc)

-- the lines of the replies to the first so many asks, and the objects that appear in them
unfoldable pub first_lines : Doc → ℕ → Printed
first_lines doc n = lines_of doc (first_asks doc n) []

-- this text is the lines of the replies to the asks from one index up to another
abbrev pub AreLinesBetween : Doc → ℕ → ℕ → Bytes → Type 0
AreLinesBetween doc from to text = (first_lines doc to).text ≡ (first_lines doc from).text ++ text

-- the cells and Lazies that the first so many asks use
unfoldable pub used_by_first : Doc → ℕ → List Asked
used_by_first doc n = flat_map (used_by_ask doc) (first_asks doc n)

-- what was asked for is what the first so many asks use
pub record AreAsked (doc : Doc) (n : ℕ) (asked : List Asked) : Type 0 where
  pub used : (x : Asked) → Contains asked x → Contains (used_by_first doc n) x
  pub all : (x : Asked) → Contains (used_by_first doc n) x → Contains asked x
