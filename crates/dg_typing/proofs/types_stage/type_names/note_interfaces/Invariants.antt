use Rattle.std.proofs.Common.{take}
use Rattle.dg_typing.specs.TypesListed.{AddsListings}
use Rattle.dg_typing.proofs.types_stage.type_names.note_interfaces.Given as goal

abbrev pub invariant-loop-interface : goal.invariant-loop-interface
invariant-loop-interface l =
    AddsListings l.class (take l.interface-index l.interfaces) l.fn.listed.keys l.listed.keys
