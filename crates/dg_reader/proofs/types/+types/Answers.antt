use Rattle.std.proofs.Common.{arith}
use Rattle.dg_reader.proofs.TypeSteps.{type_none, type_step}
use Rattle.dg_reader.proofs.types.+types.Goals as goal

pub type_within-returns-then-depth-eq0 : goal.type_within-returns-then-depth-eq0
type_within-returns-then-depth-eq0 t c =
    record { exact = type_none c.args.depth c.args.tokens.now c.if-depth-eq0.true }

pub type_within-returns : goal.type_within-returns
type_within-returns t c =
    record {
      exact = type_step c.args.depth c.args.tokens.now c.type_over.new.tokens c.type_over.result
          (omega (arith, c.if-depth-eq0.false)) c.type_over.ensures.exact;
    }
