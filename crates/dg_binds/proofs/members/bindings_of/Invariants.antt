use Rattle.std.proofs.Common.{◌≡◌, take}
use Rattle.std.specs.List.{filter_map}
use Rattle.dg_decl.specs.Lookup.{binding_of}
use Rattle.dg_binds.proofs.members.bindings_of.Given as goal

abbrev pub invariant-loop-statement : goal.invariant-loop-statement
invariant-loop-statement l = l.found.items ≡ filter_map binding_of (take l.statement-index l.statements)
