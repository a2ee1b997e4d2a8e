use Rattle.std.proofs.Common.{◌≡◌, ◌∙◌, ◌||◌, length, get_or, slice_index_or, false, ap, sym, arith}
use Rattle.std.specs.List.{list_any}
use Rattle.dg_decl.specs.Document.{Statement, statements}
use Rattle.dg_decl.specs.Names.{module_named}
use Rattle.dg_decl.specs.Components.{is_number, replaces_in}
use Rattle.dg_comps.proofs.ModuleLemmas.{marks_step, knows_replaced, replaced_begins, replaces_it}
use Rattle.dg_comps.proofs.modules.replaced.Goals as goal

pub loop-statement-init : goal.loop-statement-init
loop-statement-init c =
    replaced_begins c.args.names.now c.in_ok-marks.marks.items (length c.statements.result.now)
    (c.in_ok-marks.ensures.items_if_clones_equal (λ y k. k)) (ap length c.statements.ensures.exact)

pub loop-statement-preserved : goal.loop-statement-preserved
loop-statement-preserved c =
    let doc = c.args.names.now in
    let place = c.loop-statement.statement-index in
    let s = c.statement-item.result in
    let same = c.statements-statement-items.ensures.exact in
    let item = ap (λ (x : Statement). x.item) c.statement.view_is in
    marks_step (replaces_it doc) (λ m. false) (length doc.items) (statements doc) place s
    c.loop-statement.marks.items c.mark_replaced.new.marks.items c.loop-statement.invariant
    (omega (arith, ap length same, c.loop-statement-test.true))
    (ap (λ xs. get_or xs place s) (sym same) ∙ sym c.statement-item.is)
    (omega (arith, c.mark_replaced.ensures.len))
    (λ m small. c.mark_replaced.ensures.exact m (omega arith)
    ∙ ap (λ x. slice_index_or c.loop-statement.marks.items m false
    || list_any (λ n. is_number m (module_named doc n)) (replaces_in x)) item)

pub returns : goal.returns
returns c = record {
  exact = knows_replaced c.args.names.now c.loop-statement.statement-index
      c.loop-statement.marks.items c.loop-statement.invariant
      (omega (
        arith,
        ap length c.statements-statement-items.ensures.exact,
        c.loop-statement-test.false,
      ));
}
