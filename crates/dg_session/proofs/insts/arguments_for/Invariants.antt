use Rattle.std.proofs.Common.{◌≡◌, take}
use Rattle.std.specs.List.{filter_map}
use Rattle.dg_slots.specs.Sessions.{argument_for}
use Rattle.dg_session.proofs.insts.arguments_for.Given as goal

abbrev pub invariant-loop-bound : goal.invariant-loop-bound
invariant-loop-bound l =
    l.list ≡ filter_map (argument_for l.numbers l.args) (take l.bound-index l.bounds)
