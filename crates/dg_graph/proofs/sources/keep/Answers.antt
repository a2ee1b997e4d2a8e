use Rattle.dg_graph.proofs.KeptLemmas.{on_ok, keeps_one}
use Rattle.dg_graph.proofs.sources.keep.Goals as goal

pub returns : goal.returns
returns c = record {
  exact = on_ok c.push_if.result
      (keeps_one c.args.found.now.keys c.args.class c.args.kind c.is_found-listed.result
      c.args.nodes.now.items c.push_if.new.nodes.items c.is_found-listed.ensures.exact)
      c.push_if.ensures.exact;
}
