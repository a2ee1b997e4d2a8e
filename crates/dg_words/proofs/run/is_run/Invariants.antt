use Rattle.std.proofs.Common.{map, string_bytes, length}
use Rattle.dg_words.proofs.RunLemmas.{Seen}
use Rattle.dg_words.proofs.run.is_run.Given as goal

abbrev pub invariant-loop-left : goal.invariant-loop-left
invariant-loop-left l = Seen (map string_bytes l.fn.words) (map string_bytes l.left) l.workers l.generate

abbrev pub decreases-loop-left : goal.decreases-loop-left
decreases-loop-left l = length (map string_bytes l.left)
