-- Which requests are evaluated before the one that makes them.
use Rattle.std.specs.Prelude.{Bool, true, false}
use Rattle.dg_types.specs.declared.key.Mode.{Mode}
use Rattle.dg_types.specs.declared.key.Mode.TheVariants as mode

-- an edge of this mode is a direct one
abbrev pub is_direct : Mode → Bool
is_direct mode.Instance = true
is_direct mode.Produced = true
is_direct other = false
