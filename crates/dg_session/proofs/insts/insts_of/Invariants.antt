use Rattle.std.proofs.Common.{◌≡◌, take}
use Rattle.std.specs.List.{filter_map}
use Rattle.dg_slots.specs.Sessions.{inst_of}
use Rattle.dg_session.proofs.insts.insts_of.Given as goal

abbrev pub invariant-loop-s : goal.invariant-loop-s
invariant-loop-s l = l.list ≡ filter_map (inst_of l.scene) (take l.s-index l.s-items)
