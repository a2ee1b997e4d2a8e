use Rattle.dg_comps.proofs.EntryLemmas.{EntriesSoFar}
use Rattle.dg_comps.proofs.entries.repeated_entries.Given as goal

abbrev pub invariant-loop-statement : goal.invariant-loop-statement
invariant-loop-statement l =
    EntriesSoFar l.names l.statement-index l.seen l.repeated.items
