use Rattle.std.proofs.Common.{◌++◌, ℕ, List, Vec, length, map, refl, ap, sym, ◌∙◌}
use Rattle.std.specs.Global.{Global}
use Rattle.std.proofs.lemmas.Option.{slice_get_read}
use Rattle.dg_exec.specs.Tables.{cell_at}
use Rattle.dg_exec.proofs.CellTables.{row_found}
use Rattle.dg_exec.proofs.cells.add_cells_of.Goals as goal

pub returns-in-Some : goal.returns-in-Some
returns-in-Some c = record {
  exact = c.in_ok-add_cells.ensures.exact
      ∙ ap (λ (l : List ℕ). c.args.cells.now.items ++ map (cell_at c.args.inst) l)
      (c.as_slice.ensures.value ∙ row_found (λ (row : Vec ℕ Global). row.items)
      c.args.plan.now.slots c.args.rows.now c.args.class c.in-Some.row.now c.requires.rows
      (sym (slice_get_read c.args.rows.now (length c.args.rows.now) c.args.class c.in-Some.row.now
      refl c.in-Some.ensures.lookup.3.0 (c.in-Some.ensures.lookup.3.1 c.in-Some.row.now))));
}
