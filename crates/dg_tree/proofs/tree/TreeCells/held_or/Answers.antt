use Rattle.std.proofs.Common.{[], ◌∷◌, Result, Ok, Err, refl, sym, subst}
use Rattle.std.proofs.lemmas.Result.{err_from_is_err_and}
use Rattle.dg_types.specs.declared.memory.NoMemory.{NoMemory}
use Rattle.dg_value.specs.declared.value.Kept.{Kept}
use Rattle.dg_eval.specs.Runs.{cell}
use Rattle.dg_tree.proofs.AnswerLemmas.{Called, looked_none, looked_some, called_again, called_stopped, called_in_vain, called_made, made_closed, stopped_once, held_once, new_once}
use Rattle.dg_tree.proofs.tree.TreeCells.held_or.Goals as goal

pub returns-in_err-kept-in-None : goal.returns-in_err-kept-in-None
returns-in_err-kept-in-None g c =
    let doc = g.D.OfDoc.document in
    let x = cell c.args.inst c.args.slot in
    let start = c.asked_cell.new.self.asked in
    let first = looked_none doc x c.args.self.now.asked start
    c.in_ok-held.field-0 c.in-None.is
    c.in_ok-held.ensures.exact in
    let made = c.requires.gives c.asked_cell.new.self c.build.new.cells
    (Err c.in_err-kept-in-None.field-0.0) refl c.in_err-kept-in-None.ensures in
    let p = err_from_is_err_and c.from_residual-in_err-kept-in-None.result
    c.from_residual-in_err-kept-in-None.ensures.1 in
    record {
      exact = subst (λ (r : Result Kept NoMemory). Called doc x (x ∷ []) c.args.self.now.asked
          c.build.new.cells.asked r) (sym p.1)
          (called_stopped doc x c.args.self.now.asked start c.build.new.cells.asked
          c.in_err-kept-in-None.field-0.0 p.0 first.1 made);
      once = stopped_once x c.args.self.now.asked c.build.new.cells.asked
          c.from_residual-in_err-kept-in-None.result p.0 p.1;
    }

pub keep_cell-requires-clause-closed : goal.keep_cell-requires-clause-closed
keep_cell-requires-clause-closed g c =
    let doc = g.D.OfDoc.document in
    let x = cell c.args.inst c.args.slot in
    let made = c.requires.gives c.asked_cell.new.self c.build.new.cells
    (Ok c.in_ok-kept-in-None.kept) refl c.in_ok-kept-in-None.ensures in
    made_closed doc x c.asked_cell.new.self.asked c.build.new.cells.asked
    c.in_ok-kept-in-None.kept made

pub returns-in_err-keep_cell-in-None : goal.returns-in_err-keep_cell-in-None
returns-in_err-keep_cell-in-None g c =
    let doc = g.D.OfDoc.document in
    let x = cell c.args.inst c.args.slot in
    let start = c.asked_cell.new.self.asked in
    let first = looked_none doc x c.args.self.now.asked start
    c.in_ok-held.field-0 c.in-None.is
    c.in_ok-held.ensures.exact in
    let made = c.requires.gives c.asked_cell.new.self c.build.new.cells
    (Ok c.in_ok-kept-in-None.kept) refl c.in_ok-kept-in-None.ensures in
    let p = err_from_is_err_and c.from_residual-in_err-keep_cell-in-None.result
    c.from_residual-in_err-keep_cell-in-None.ensures.1 in
    record {
      exact = subst (λ (r : Result Kept NoMemory). Called doc x (x ∷ []) c.args.self.now.asked
          c.keep_cell.new.self.asked r) (sym p.1)
          (called_in_vain doc x c.args.self.now.asked start c.build.new.cells.asked
          c.keep_cell.new.self.asked c.in_ok-kept-in-None.kept p.0 first.1 made
          c.in_err-keep_cell-in-None.ensures.kept);
      once = stopped_once x c.args.self.now.asked c.keep_cell.new.self.asked
          c.from_residual-in_err-keep_cell-in-None.result p.0 p.1;
    }

pub returns-in-Some : goal.returns-in-Some
returns-in-Some g c =
    let doc = g.D.OfDoc.document in
    let x = cell c.args.inst c.args.slot in
    let h = looked_some doc x c.args.self.now.asked
    c.asked_cell.new.self.asked c.in_ok-held.field-0
    c.in-Some.held c.in-Some.is c.in_ok-held.ensures.exact in
    record {
      exact = called_again doc x c.args.self.now.asked c.asked_cell.new.self.asked c.in-Some.held
          h.0 h.1;
      once = held_once x c.args.self.now.asked c.asked_cell.new.self.asked c.in-Some.held h.1;
    }

pub returns-in_ok-keep_cell-in-None : goal.returns-in_ok-keep_cell-in-None
returns-in_ok-keep_cell-in-None g c =
    let doc = g.D.OfDoc.document in
    let x = cell c.args.inst c.args.slot in
    let start = c.asked_cell.new.self.asked in
    let first = looked_none doc x c.args.self.now.asked start
    c.in_ok-held.field-0 c.in-None.is
    c.in_ok-held.ensures.exact in
    let made = c.requires.gives c.asked_cell.new.self c.build.new.cells
    (Ok c.in_ok-kept-in-None.kept) refl c.in_ok-kept-in-None.ensures in
    record {
      exact = called_made doc x x c.args.self.now.asked start c.build.new.cells.asked
          c.keep_cell.new.self.asked c.in_ok-kept-in-None.kept first.1 made
          c.in_ok-keep_cell-in-None.ensures.exact refl;
      once = new_once x c.args.self.now.asked c.keep_cell.new.self.asked c.in_ok-kept-in-None.kept
          first.0;
    }
