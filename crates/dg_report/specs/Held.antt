-- When an object holds the content of each cell that a reply comes to.
use Rattle.std.specs.Prelude.{◌≡◌, ℕ, suc, List, [], ◌∷◌, ◌++◌, map, Option, Some, IsSome}
use Rattle.std.specs.Option.{option_map_or}
use Rattle.dg_decl.specs.declared.document.Doc.{Doc}
use Rattle.dg_decl.specs.Walks.{IsReached}
use Rattle.dg_value.specs.declared.value.Kept.{Kept}
use Rattle.dg_value.specs.declared.value.Kept.TheOpen.{Kept-F, Value-F}
use Rattle.dg_value.specs.declared.value.Kept.TheVariants as kept
use Rattle.dg_value.specs.declared.value.Reply.{Reply}
use Rattle.dg_value.specs.declared.value.Reply.TheVariants as reply
use Rattle.dg_value.specs.declared.value.Value.{Value, fold-Value}
use Rattle.dg_eval.specs.Meaning.{content_of, enough}
use Rattle.dg_eval.specs.Report.{value_of_run, whole}

-- a cell: its instance and its slot
abbrev pub Cell : Type 0
Cell = ℕ × ℕ

-- the content of the cell of an instance and a slot, where an object holds it
abbrev pub Content : Type 0
Content = ℕ → ℕ → Option Kept

abbrev pub joined : List (List Cell) → List Cell
joined [] = []
joined (cs ∷ more) = cs ++ joined more

abbrev pub cells_at : Value-F (List Cell) (List Cell) → List Cell
cells_at (Value-F.Object class ident fields) = joined fields
cells_at (Value-F.Held i k) = (i, k) ∷ []
cells_at (Value-F.Set vs) = joined vs
cells_at (Value-F.Map es) = joined (map (λ e. e.1) es)
cells_at (Value-F.Opt (Some v)) = v
cells_at (Value-F.Outcome k) = k
cells_at other = []

abbrev pub kept_cells_at : Kept-F (List Cell) (List Cell) → List Cell
kept_cells_at (Kept-F.Value v) = v
kept_cells_at (Kept-F.Failed f) = []

-- the cells whose content is part of a value
unfoldable pub cells_in : Value → List Cell
cells_in = fold-Value (List Cell) (List Cell) kept_cells_at cells_at

-- the cells whose content is part of the content of a cell
abbrev pub cells_behind : Doc → Cell → List Cell
cells_behind doc c = option_map_or cells_in (value_of_run (content_of doc c.0 c.1)) []

-- a value comes to a cell: it is part of the value, or of the content of a cell to which the value
-- comes
abbrev pub ComesTo : Doc → Value → Cell → Type 0
ComesTo doc v = IsReached (cells_behind doc) (cells_in v)

-- an object holds the content of each cell to which a value comes
pub record HoldsAll (doc : Doc) (content : Content) (v : Value) : Type 0 where
  pub held : (i k : ℕ) (w : Value) → ComesTo doc v (i, k)
      → value_of_run (content_of doc i k) ≡ Some w → content i k ≡ Some (kept.Value w)

-- the value of a reply is there through the cells to which it comes, and an object holds them;
-- other replies come to none
abbrev pub HoldsReply : Doc → Content → Reply → Type 0
HoldsReply doc content (reply.Value v) =
    IsSome (whole doc (suc enough) v) × HoldsAll doc content v
HoldsReply doc content other = Unit {0}
