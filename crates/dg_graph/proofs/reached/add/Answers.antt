use Rattle.dg_graph.proofs.GrowthLemmas.{grows_by_one}
use Rattle.dg_graph.proofs.reached.add.Goals as goal

pub returns : goal.returns
returns c = record {
  exact = grows_by_one c.args.found.now.keys c.insert.new.self.keys c.args.node
      c.in_ok-insert.ensures.keys;
}
