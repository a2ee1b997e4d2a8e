use Rattle.std.proofs.Common.{◌≡◌, ◌++◌, false, drop}
use Rattle.dg_lex.specs.Lexemes as spec
use Rattle.dg_lex.proofs.text.unescaped.Given as goal

-- what was kept so far, and what is still kept
abbrev pub invariant-loop-b : goal.invariant-loop-b
invariant-loop-b l = l.value.items ++ spec.unescaped l.escaped (drop l.b-index l.inner) ≡ spec.unescaped false l.inner
