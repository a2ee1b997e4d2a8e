use Rattle.std.proofs.lemmas.Bool.Decides.{same_from_decides}
use Rattle.dg_types.specs.Equality.{same_shape}
use Rattle.dg_types.proofs.ShapeEquality.{shape_decides}
use Rattle.dg_types.proofs.shape.Shape.is.Goals as goal

pub returns-clause-test : goal.returns-clause-test
returns-clause-test c =
    let a = c.args.self.now in
    let b = c.args.other.now in
    same_from_decides c.is_one.result (same_shape a b) c.is_one.ensures.exact (shape_decides a b)
