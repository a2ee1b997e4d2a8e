use Rattle.std.proofs.Common.{take}
use Rattle.dg_session.specs.EntryTables.{KnowsEntries}
use Rattle.dg_session.proofs.entry_table.tables_of.Given as goal

abbrev pub invariant-loop-class : goal.invariant-loop-class
invariant-loop-class l = KnowsEntries l.names (take l.class-index l.classes) l.tables.items
