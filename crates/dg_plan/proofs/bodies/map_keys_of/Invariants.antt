use Rattle.std.proofs.Common.{◌≡◌, take, filter_map}
use Rattle.dg_decl.specs.Stages.Bindings.{map_key_of}
use Rattle.dg_plan.proofs.bodies.map_keys_of.Given as goal

abbrev pub invariant-loop-o : goal.invariant-loop-o
invariant-loop-o l = l.keys.items ≡ filter_map (map_key_of l.doc) (take l.o-index l.owned)
