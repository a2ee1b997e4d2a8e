use Rattle.std.proofs.Common.{Option, option_to_list, subst, sym, ◌∙◌}
use Rattle.std.specs.Prelude.{OnOk}
use Rattle.dg_decl.specs.declared.graph.Node.{Node}
use Rattle.dg_graph.specs.Growth.{Grows}
use Rattle.dg_graph.proofs.GrowthLemmas.{grows_none}
use Rattle.dg_graph.proofs.reached.add_target.Goals as goal

pub returns-in-Some : goal.returns-in-Some
returns-in-Some c = record {
  exact = subst
      (λ (o : Option Node). OnOk c.add.result
      (Grows (option_to_list o) c.args.found.now.keys c.add.new.found.keys))
      (sym c.in-Some.is ∙ c.in_ok-node.ensures.exact) c.add.ensures.exact;
}

pub returns-in-None : goal.returns-in-None
returns-in-None c = record {
  exact = subst
      (λ (o : Option Node). Grows (option_to_list o) c.args.found.now.keys c.args.found.now.keys)
      (sym c.in-None.is ∙ c.in_ok-node.ensures.exact) (grows_none c.args.found.now.keys);
}
