use Rattle.std.proofs.Common.{◌≤◌, List, length, filter_map, ap, subst, ◌∙◌, arith}
use Rattle.dg_decl.specs.declared.graph.Node.{Node}
use Rattle.dg_decl.specs.Graph.{target}
use Rattle.dg_decl.proofs.MemberLemmas.{in_got}
use Rattle.dg_resolve.proofs.QueryLemmas.{count_is, few_classes}
use Rattle.dg_graph.specs.Growth.{Grows}
use Rattle.dg_graph.specs.Reached.{first_entries}
use Rattle.dg_graph.proofs.GrowthLemmas.{nothing_in}
use Rattle.dg_graph.proofs.ReachedLemmas.{class_small, all_entries, walk_begins, walk_goes_on, walk_ends}
use Rattle.dg_graph.proofs.reached.reachable.Goals as goal

pub add_all_entries-requires : goal.add_all_entries-requires
add_all_entries-requires c =
    few_classes c.args.dependencies.now c.as_slice.result.now c.doc-doc.ensures.bounded
    (c.as_slice.ensures ∙ c.tree.ensures.exact)

pub loop-place-init : goal.loop-place-init
loop-place-init c =
    let doc = c.args.dependencies.now in
    let classes = c.as_slice.result.now in
    let are = c.as_slice.ensures ∙ c.tree.ensures.exact in
    let roots = first_entries classes (length classes) in
    let found = c.add_all_entries.new.found.keys in
    walk_begins doc roots found (all_entries doc classes are (count_is doc classes are))
    (subst (λ (old : List Node). Grows roots old found) (nothing_in c.new-found.result.keys
    c.new-found.ensures.len)
    c.in_ok-add_all_entries.ensures.exact)

pub of_node-requires : goal.of_node-requires
of_node-requires c =
    let m = c.index.result.now in
    record {
      class = class_small c.args.dependencies.now m
          (c.loop-place.invariant.sound m (in_got c.loop-place.found.keys c.loop-place.place m
          c.index.ensures));
    }

pub loop-place-preserved : goal.loop-place-preserved
loop-place-preserved c =
    let needed = c.as_slice-in-loop-place.result.now in
    walk_goes_on c.args.dependencies.now c.loop-place.found.keys c.add_targets.new.found.keys
    (filter_map target needed) c.loop-place.place c.index.result.now c.loop-place.invariant
    c.index.ensures
    (ap (filter_map target) (c.as_slice-in-loop-place.ensures.value ∙ c.in_ok-needed.ensures.exact))
    c.in_ok-add_targets.ensures.exact

pub returns : goal.returns
returns c =
    let done : length c.loop-place.found.keys ≤ c.loop-place.place = omega
    (arith, c.len.ensures.len) in
    record {
      exact = walk_ends c.args.dependencies.now c.loop-place.found.keys c.loop-place.place
          c.loop-place.invariant done;
    }
