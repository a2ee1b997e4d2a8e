use Rattle.std.proofs.Common.{◌≡◌, take}
use Rattle.std.specs.List.{filter_map}
use Rattle.dg_slots.specs.Sessions.{ask_of}
use Rattle.dg_session.proofs.asks.asks_of.Given as goal

abbrev pub invariant-loop-s : goal.invariant-loop-s
invariant-loop-s l = l.list ≡ filter_map (ask_of l.scene) (take l.s-index l.s-items)
