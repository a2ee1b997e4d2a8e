use Rattle.std.proofs.Common.{Some, None}
use Rattle.dg_edges.proofs.NumberLemmas.{number_is}
use Rattle.dg_plan.proofs.numbers.Numbers.number_of.Goals as goal

pub returns-in-Some : goal.returns-in-Some
returns-in-Some c = record {
  exact = number_is c.args.self.now c.self.inside.nodes.keys c.args.node.now
      (Some c.in-Some.index) c.self.view_is c.in-Some.ensures.index;
}

pub returns-in-None : goal.returns-in-None
returns-in-None c = record {
  exact = number_is c.args.self.now c.self.inside.nodes.keys c.args.node.now None c.self.view_is
      c.in-None.ensures.index;
}
