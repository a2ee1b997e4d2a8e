-- What is printed of a value in which held ones are looked up one by one.
use Rattle.std.specs.Prelude.{ℕ, zero, suc, ◌+◌, List, [], ◌∷◌, map, Option, Some, None}
use Rattle.std.specs.Option.{option_map_or}
use Rattle.dg_decl.specs.declared.document.Doc.{Doc}
use Rattle.dg_lex.specs.Lexemes.{quoted}
use Rattle.dg_value.specs.declared.value.Kept.{Kept}
use Rattle.dg_value.specs.declared.value.Kept.TheOpen.{Kept-F, Value-F}
use Rattle.dg_value.specs.declared.value.Kept.TheVariants as kept
use Rattle.dg_value.specs.declared.value.Value.{Value, fold-Value}
use Rattle.dg_eval.specs.Report.{Printing, as_it_is, text_at, kept_text_at}
use Rattle.dg_report.specs.Held.{Content}
use Rattle.dg_report.specs.Output.{Output, followed}

-- what is printed of a value from what is printed of its parts and of the cells that it holds
abbrev pub shown_at : Doc → (ℕ → ℕ → Printing) → Value-F Printing Printing → Printing
shown_at doc held (Value-F.Held i k) = held i k
shown_at doc held other = text_at doc other

abbrev pub shown_by : Doc → (ℕ → ℕ → Printing) → Value → Printing
shown_by doc held = fold-Value Printing Printing kept_text_at (shown_at doc held)

-- what is printed of what a cell keeps
abbrev pub kept_by : (Value → Printing) → Kept → Printing
kept_by shown (kept.Value v) = shown v
kept_by shown (kept.Failed f) = as_it_is (quoted f.message)

-- what is printed of a value in which each held one is what a cell keeps, through so many cells
unfoldable pub shown : Doc → Content → ℕ → Value → Printing
shown doc content zero = shown_by doc (λ i k. as_it_is [])
shown doc content (suc times) =
    shown_by doc
    (λ i k. option_map_or (kept_by (shown doc content times)) (content i k) (as_it_is []))

-- what is printed of a cell
unfoldable pub cell_shown : Doc → Content → ℕ → ℕ → ℕ → Printing
cell_shown doc content zero i k = as_it_is []
cell_shown doc content (suc times) i k =
    option_map_or (kept_by (shown doc content times)) (content i k) (as_it_is [])

-- a value behind a text, and what a cell keeps
unfoldable pub with_value : Doc → Content → ℕ → Output → Value → Output
with_value doc content times o v = followed o (shown doc content times v)

unfoldable pub with_kept : Doc → Content → ℕ → Output → Kept → Output
with_kept doc content times o k = followed o (kept_by (shown doc content times) k)

unfoldable pub with_cell : Doc → Content → ℕ → ℕ → ℕ → Output → Output
with_cell doc content times i k o = followed o (cell_shown doc content times i k)

-- ---- how much is walked through: values, and those behind the cells that they hold

abbrev pub total : List ℕ → ℕ
total [] = 0
total (w ∷ ws) = suc w + total ws

abbrev pub inside_weight : Option ℕ → ℕ
inside_weight None = 0
inside_weight (Some w) = w

abbrev pub weight_at : (ℕ → ℕ → ℕ) → Value-F ℕ ℕ → ℕ
weight_at held (Value-F.Object class ident fields) = 4 + total fields
weight_at held (Value-F.Held i k) = 2 + held i k
weight_at held (Value-F.Set ws) = 2 + total ws
weight_at held (Value-F.Map es) = 2 + total (map (λ e. e.1) es)
weight_at held (Value-F.Opt o) = 2 + inside_weight o
weight_at held (Value-F.Outcome w) = 2 + w
weight_at held other = 1

abbrev pub kept_weight_at : Kept-F ℕ ℕ → ℕ
kept_weight_at (Kept-F.Value w) = suc w
kept_weight_at (Kept-F.Failed f) = 0

abbrev pub weight_by : (ℕ → ℕ → ℕ) → Value → ℕ
weight_by held = fold-Value ℕ ℕ kept_weight_at (weight_at held)

abbrev pub kept_weight_by : (Value → ℕ) → Kept → ℕ
kept_weight_by weight (kept.Value v) = suc (weight v)
kept_weight_by weight (kept.Failed f) = 0

unfoldable pub weight : Content → ℕ → Value → ℕ
weight content zero = weight_by (λ i k. 0)
weight content (suc times) =
    weight_by (λ i k. option_map_or (kept_weight_by (weight content times)) (content i k) 0)

unfoldable pub cell_weight : Content → ℕ → ℕ → ℕ → ℕ
cell_weight content zero i k = 0
cell_weight content (suc times) i k =
    option_map_or (kept_weight_by (weight content times)) (content i k) 0

unfoldable pub kept_weight : Content → ℕ → Kept → ℕ
kept_weight content times k = kept_weight_by (weight content times) k
