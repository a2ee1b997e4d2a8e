use Rattle.std.proofs.Common.{take}
use Rattle.dg_session.specs.EntryTables.{HasPlaces}
use Rattle.dg_session.proofs.entry_table.table_of.Given as goal

abbrev pub invariant-loop-place : goal.invariant-loop-place
invariant-loop-place l = HasPlaces l.names (take l.place l.entries) l.table
