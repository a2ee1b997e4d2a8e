use Rattle.std.proofs.Common.{◌≡◌, take, flat_map}
use Rattle.dg_decl.specs.Stages.Session.{session_at}
use Rattle.dg_session.proofs.rules.broken_lines.Given as goal

abbrev pub invariant-loop-s : goal.invariant-loop-s
invariant-loop-s l = l.broken.items ≡ flat_map (session_at l.scene) (take l.s-index l.s-items)
