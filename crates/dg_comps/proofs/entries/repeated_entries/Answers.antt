use Rattle.std.proofs.Common.{◌≡◌, ◌∙◌, length, get_or, ap, sym, arith}
use Rattle.dg_decl.specs.Document.{statements}
use Rattle.dg_comps.proofs.EntryLemmas.{entries_begin, entries_step, entries_end}
use Rattle.dg_comps.proofs.entries.repeated_entries.Goals as goal

pub loop-statement-init : goal.loop-statement-init
loop-statement-init c =
    entries_begin c.args.names.now c.new-seen.result c.new-repeated.result.items
    c.new-seen.ensures.exact c.new-repeated.ensures.items

pub loop-statement-preserved : goal.loop-statement-preserved
loop-statement-preserved c =
    let doc = c.args.names.now in
    let place = c.loop-statement.statement-index in
    let s = c.statement-item.result in
    let same = c.statements-statement-items.ensures.exact in
    entries_step doc place s c.in_ok-note_entry.field-0 c.loop-statement.seen c.note_entry.new.seen
    c.loop-statement.repeated.items c.push.new.self.items c.loop-statement.invariant
    (omega (arith, ap length same, c.loop-statement-test.true))
    (ap (λ xs. get_or xs place s) (sym same) ∙ sym c.statement-item.is)
    c.in_ok-note_entry.ensures.exact c.in_ok-note_entry.ensures.noted c.in_ok-push.ensures.items

pub returns : goal.returns
returns c = record {
  exact = entries_end c.args.names.now c.loop-statement.statement-index c.loop-statement.seen
      c.loop-statement.repeated.items c.loop-statement.invariant
      (omega (
        arith,
        ap length c.statements-statement-items.ensures.exact,
        c.loop-statement-test.false,
      ));
}
