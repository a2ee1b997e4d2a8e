use Rattle.std.proofs.Common.{take}
use Rattle.dg_typing.specs.TypesListed.{HasListings}
use Rattle.dg_typing.proofs.types_stage.type_names.listed_by.Given as goal

abbrev pub invariant-loop-place : goal.invariant-loop-place
invariant-loop-place l = HasListings (take l.place l.items) l.listed.keys
