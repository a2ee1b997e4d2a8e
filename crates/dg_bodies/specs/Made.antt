-- Values that are handed on once what else there is to do is done.
use Rattle.std.specs.Prelude.{Result, Ok, Err}
use Rattle.dg_types.specs.declared.memory.NoMemory.{NoMemory}
use Rattle.dg_value.specs.declared.value.Value.{Value}
use Rattle.dg_requests.specs.declared.stop.Stop.{Stop}
use Rattle.dg_requests.specs.declared.stop.Stop.TheVariants as stop

-- a value and that of a result, unless it is a stop
abbrev pub pair_with : Value → Result Value Stop → Result (Value × Value) Stop
pair_with v (Ok w) = Ok (v, w)
pair_with v (Err e) = Err e

-- a value, unless memory lacked for what was counted behind it
abbrev pub when_counted : {A : Type 0} → A → Result (Unit {0}) NoMemory → Result A Stop
when_counted v (Ok u) = Ok v
when_counted v (Err e) = Err stop.NoMemory
