use Rattle.std.proofs.Common.{◌≡◌, ◌+◌, ◌-◌, ◌≤◌, length, drop, false}
use Rattle.dg_lex.specs.Tokens.{quoted_len}
use Rattle.dg_lex.proofs.extent.quoted_len.Given as goal

abbrev pub invariant-loop-end : goal.invariant-loop-end
invariant-loop-end l = (l.end + quoted_len l.escaped (drop l.end l.z) ≡ quoted_len false l.z) × (l.end ≤ length l.z)

abbrev pub decreases-loop-end : goal.decreases-loop-end
decreases-loop-end l = length l.z - l.end
