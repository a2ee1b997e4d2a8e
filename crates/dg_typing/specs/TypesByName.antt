-- What a call by the name of a parameter gives, by the type of the parameter.
use Rattle.std.specs.Prelude.{Option, option_map}
use Rattle.dg_types.specs.declared.shape.Shape.{Shape}
use Rattle.dg_types.specs.declared.shape.Shape.TheVariants as shape
use Rattle.dg_types.specs.Requests.{Layer}
use Rattle.dg_decl.specs.declared.expression.ParamCall.{ParamCall}
use Rattle.dg_decl.specs.declared.expression.ParamCall.TheVariants as by_name
use Rattle.dg_decl.specs.Typing.{got_at, produced_at, values_at}

abbrev pub given_by : ParamCall → Layer → Option Shape
given_by by_name.Get t = got_at t
given_by by_name.Value t = produced_at t
given_by by_name.Values t = values_at t
given_by by_name.Failure t = option_map (λ b. shape.Text) (produced_at t)
