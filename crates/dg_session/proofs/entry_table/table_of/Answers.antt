use Rattle.std.proofs.Common.{get_or, refl}
use Rattle.dg_session.proofs.EntryTableLemmas.{places_more}
use Rattle.dg_session.proofs.entry_table.table_of.Goals as goal

pub loop-place-preserved : goal.loop-place-preserved
loop-place-preserved c =
    let entries = c.args.entries.now in
    let k = c.loop-place.place in
    places_more c.args.names.now entries k (get_or entries k 0) c.loop-place.table c.note.new.table
    c.loop-place-test.true refl c.loop-place.invariant c.in_ok-note.ensures.exact
