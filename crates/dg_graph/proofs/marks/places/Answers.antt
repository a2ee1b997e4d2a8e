use Rattle.std.proofs.Common.{◌≡◌, ◌<◌, ◌≤◌, List, length, get_or, take, sym, subst}
use Rattle.std.proofs.lemmas.List.{take_all}
use Rattle.dg_decl.specs.declared.graph.Node.{Node}
use Rattle.dg_graph.specs.Vacant.{AreTaken}
use Rattle.dg_graph.proofs.MarkLemmas.{taken_none, taken_more}
use Rattle.dg_graph.proofs.ReachedLemmas.{class_small}
use Rattle.dg_graph.proofs.marks.places.Goals as goal

pub note_node-requires : goal.note_node-requires
note_node-requires c =
    let i = c.loop-node.node-index in
    let n = c.node-item.result in
    let all = c.as_slice-node-items.ensures.keys in
    record {
      class = class_small c.args.lookups.now n
          ((c.requires.found.each n).0 (
            i,
            subst (λ (ks : List Node). i < length ks) all c.loop-node-test.true,
            sym (subst (λ (ks : List Node). n ≡ get_or ks i n) all c.node-item.is),
          ));
    }

pub loop-node-init : goal.loop-node-init
loop-node-init c = taken_none c.args.lookups.now c.in_ok-taken.taken.items

pub loop-node-preserved : goal.loop-node-preserved
loop-node-preserved c =
    let keys = c.args.found.now.keys in
    let i = c.loop-node.node-index in
    let n = c.node-item.result in
    let all = c.as_slice-node-items.ensures.keys in
    taken_more c.args.lookups.now keys i n c.loop-node.taken.items c.note_node.new.taken.items
    (subst (λ (ks : List Node). i < length ks) all c.loop-node-test.true)
    (subst (λ (ks : List Node). n ≡ get_or ks i n) all c.node-item.is)
    c.loop-node.invariant c.note_node.ensures.exact

pub returns : goal.returns
returns c =
    let keys = c.args.found.now.keys in
    let i = c.loop-node.node-index in
    let done : length keys ≤ i = subst (λ (ks : List Node). length ks ≤ i)
    c.as_slice-node-items.ensures.keys c.loop-node-test.false in
    record {
      exact = subst (λ (ns : List Node). AreTaken c.args.lookups.now ns c.loop-node.taken.items)
          (take_all i keys done) c.loop-node.invariant;
    }
