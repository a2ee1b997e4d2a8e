use Rattle.std.proofs.Common.{ℕ, List, subst}
use Rattle.dg_session.specs.EntryTables.{HasPlaces}
use Rattle.dg_session.proofs.EntryTableLemmas.{knows_more}
use Rattle.dg_session.proofs.entry_table.tables_of.Goals as goal

pub loop-class-preserved : goal.loop-class-preserved
loop-class-preserved c =
    let names = c.args.names.now in
    let table = c.in_ok-table_of.field-0 in
    knows_more names c.args.classes.now c.loop-class.class-index c.class-item.result table
    c.loop-class.tables.items c.push.new.self.items
    c.loop-class-test.true c.class-item.is c.loop-class.invariant
    (subst (λ (entries : List ℕ). HasPlaces names entries table) c.as_slice.ensures
    c.in_ok-table_of.ensures.exact)
    c.in_ok-push.ensures.items
