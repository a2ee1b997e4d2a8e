use Rattle.std.proofs.Common.{ℕ, ◌+◌, [], ◌∷◌, take, get_or}
use Rattle.dg_decl.specs.declared.graph.NodeKind.TheVariants as node
use Rattle.dg_decl.specs.Graph.{node_of}
use Rattle.dg_graph.specs.Reached.{entries_as_nodes}
use Rattle.dg_graph.proofs.GrowthLemmas.{grows_none, grows_on, map_take_more}
use Rattle.dg_graph.proofs.reached.add_entries.Goals as goal

pub loop-entry-init : goal.loop-entry-init
loop-entry-init c = grows_none c.args.found.now.keys

pub loop-entry-preserved : goal.loop-entry-preserved
loop-entry-preserved c =
    let es = c.args.entries.now in
    let class = c.args.class in
    let i = c.loop-entry.entry-index in
    let e = get_or es i 0 in
    grows_on (entries_as_nodes class (take i es)) (node_of class (node.EntryOf e) ∷ [])
    (entries_as_nodes class (take (i + 1) es)) c.args.found.now.keys c.loop-entry.found.keys
    c.add.new.found.keys
    (map_take_more (λ (i : ℕ). node_of class (node.EntryOf i)) es i 0 c.loop-entry-test.true)
    c.loop-entry.invariant c.in_ok-add.ensures.exact
