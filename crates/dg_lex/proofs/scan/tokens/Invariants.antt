use Rattle.std.proofs.Common.{◌≡◌, ◌≤◌, ◌-◌, length, drop}
use Rattle.dg_lex.specs.Tokens.{tokens_from}
use Rattle.dg_lex.proofs.TokenLemmas.{joined}
use Rattle.dg_lex.proofs.scan.tokens.Given as goal

abbrev pub invariant-loop-at : goal.invariant-loop-at
invariant-loop-at l = (joined l.found.items (tokens_from 0 l.at (drop l.at l.line)) ≡ tokens_from 0 0 l.line) × (l.at ≤ length l.line)

abbrev pub decreases-loop-at : goal.decreases-loop-at
decreases-loop-at l = length l.line - l.at
