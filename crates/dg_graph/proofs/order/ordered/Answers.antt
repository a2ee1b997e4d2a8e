use Rattle.std.proofs.Common.{ℕ, ◌≡◌, ◌<◌, ◌++◌, List, flat_map, sym, ap, subst, ◌∙◌, arith}
use Rattle.std.specs.List.{range_with_len}
use Rattle.dg_decl.specs.declared.document.Doc.{Doc}
use Rattle.dg_decl.specs.declared.graph.Node.{Node}
use Rattle.dg_decl.specs.Components.{class_count}
use Rattle.dg_decl.specs.Graph.{kinds_of}
use Rattle.dg_resolve.proofs.ListLemmas.{up_more}
use Rattle.dg_graph.specs.Kept.{kept}
use Rattle.dg_graph.specs.Reached.{AreReached}
use Rattle.dg_graph.specs.Vacant.{Rows, AreTaken}
use Rattle.dg_graph.proofs.PassLemmas.{all_nodes}
use Rattle.dg_graph.proofs.order.ordered.Goals as goal

pub loop-class-init : goal.loop-class-init
loop-class-init c = c.new-nodes.ensures.items

pub places-requires : goal.places-requires
places-requires c = record {
  found = subst (λ (d : Doc). AreReached d c.args.found.now.keys)
      (sym c.lookups-lookups.ensures.exact) c.requires.found;
}

pub keep_class-requires : goal.keep_class-requires
keep_class-requires c =
    let same = c.in_ok-names.ensures.exact ∙ c.doc.ensures.exact in
    record {
      class = subst (λ (n : ℕ). c.loop-class.class < n)
          (c.class_count-class-end.ensures.exact ∙ ap class_count same) c.loop-class-test.true;
      names = same;
      lookups = c.lookups-lookups.ensures.exact;
      found = c.requires.found;
      taken = subst (λ (d : Doc). AreTaken d c.args.found.now.keys c.as_slice.result.now)
          c.lookups-lookups.ensures.exact
          (subst (λ (r : Rows). AreTaken c.lookups-lookups.result.now c.args.found.now.keys r)
          (sym c.as_slice.ensures.value) c.in_ok-taken.ensures.exact);
    }

pub loop-class-preserved : goal.loop-class-preserved
loop-class-preserved c =
    let doc = c.args.dependencies.now in
    let found = c.args.found.now.keys in
    let class = c.loop-class.class in
    c.in_ok-keep_class.ensures.exact
    ∙ ap (λ (l : List Node). l ++ kept found class (kinds_of doc class)) c.loop-class.invariant
    ∙ up_more (λ (x : ℕ). kept found x (kinds_of doc x)) class

pub returns : goal.returns
returns c =
    let doc = c.args.dependencies.now in
    let found = c.args.found.now.keys in
    let same = c.in_ok-names.ensures.exact ∙ c.doc.ensures.exact in
    let count : c.class_count-class-end.result ≡ class_count doc =
    c.class_count-class-end.ensures.exact ∙ ap class_count same in
    let done : c.loop-class.class ≡ class_count doc =
    omega (arith, c.loop-class-test.false, c.loop-class.auto.class-end, count) in
    record {
      exact = c.loop-class.invariant
          ∙ ap (λ (n : ℕ). flat_map (λ x. kept found x (kinds_of doc x)) (range_with_len 0 n)) done
          ∙ all_nodes doc found c.requires.found;
    }
