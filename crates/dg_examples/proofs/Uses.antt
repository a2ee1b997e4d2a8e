-- What a cell uses, from its content.
use Rattle.std.proofs.Common.{◌≡◌, ap}
use Rattle.std.specs.Prelude.{ℕ, suc, ◌∷◌}
use Rattle.std.specs.List.{flat_map}
use Rattle.dg_decl.specs.declared.document.Doc.{Doc}
use Rattle.dg_value.specs.declared.value.Value.{Value}
use Rattle.dg_eval.specs.Runs.{Run, cell, asks_of}
use Rattle.dg_eval.specs.Meaning.{content_of}
use Rattle.dg_eval.specs.Asks.{asked_by, used}

pub used_of_cell : (doc : Doc) (d i k : ℕ) (r : Run Value) → content_of doc i k ≡ r
    → used doc (suc d) (cell i k) ≡ cell i k ∷ flat_map (used doc d) (asks_of r)
unfolding used asked_by
used_of_cell doc d i k r e = ap (λ x. cell i k ∷ flat_map (used doc d) (asks_of x)) e
