use Rattle.std.proofs.Common.{◌≡◌, vec_len}
use Rattle.dg_steal.specs.Known.{AreNew}
use Rattle.dg_steal.proofs.making.hands.Given as goal

abbrev pub invariant-loop-worker : goal.invariant-loop-worker
invariant-loop-worker l = (vec_len l.hands ≡ l._worker) × AreNew l.hands.items
