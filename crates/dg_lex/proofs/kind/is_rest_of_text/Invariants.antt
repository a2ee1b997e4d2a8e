use Rattle.std.proofs.Common.{◌≡◌, length, false}
use Rattle.dg_lex.specs.Tokens.{is_rest_of_text}
use Rattle.dg_lex.proofs.kind.is_rest_of_text.Given as goal

abbrev pub invariant-loop-rest : goal.invariant-loop-rest
invariant-loop-rest l = is_rest_of_text l.escaped l.rest ≡ is_rest_of_text false l.z

abbrev pub decreases-loop-rest : goal.decreases-loop-rest
decreases-loop-rest l = length l.rest
