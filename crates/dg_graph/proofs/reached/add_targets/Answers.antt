use Rattle.std.proofs.Common.{◌+◌, take, filter_map, option_to_list}
use Rattle.dg_decl.specs.Graph as graph
use Rattle.dg_graph.proofs.GrowthLemmas.{grows_none, grows_on, filter_map_more}
use Rattle.dg_graph.proofs.reached.add_targets.Goals as goal

pub loop-dependency-init : goal.loop-dependency-init
loop-dependency-init c = grows_none c.args.found.now.keys

pub loop-dependency-preserved : goal.loop-dependency-preserved
loop-dependency-preserved c =
    let ds = c.args.needed.now in
    let i = c.loop-dependency.dependency-index in
    let d = c.dependency-item.result in
    grows_on (filter_map graph.target (take i ds)) (option_to_list (graph.target d))
    (filter_map graph.target (take (i + 1) ds)) c.args.found.now.keys c.loop-dependency.found.keys
    c.add_target.new.found.keys
    (filter_map_more graph.target ds i d c.loop-dependency-test.true c.dependency-item.is)
    c.loop-dependency.invariant c.in_ok-add_target.ensures.exact
