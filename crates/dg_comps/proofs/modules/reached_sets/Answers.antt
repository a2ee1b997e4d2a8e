use Rattle.std.proofs.Common.{◌≡◌, ◌∙◌, ◌<◌, length, slice_index_or, false, ap, sym, arith}
use Rattle.dg_num.proofs.Rows.{row_at_read}
use Rattle.dg_decl.specs.Components.{class_count}
use Rattle.dg_comps.proofs.ModuleLemmas.{graph_is_sound, seeds_are_nodes, reached_marks, reached_begins, reached_step}
use Rattle.dg_comps.proofs.modules.reached_sets.Goals as goal

pub loop-class-init : goal.loop-class-init
loop-class-init c =
    reached_begins c.args.names.now c.in_ok-sets.sets.items (length c.statements.result.now)
    (c.in_ok-sets.ensures.items_if_clones_equal (λ y k. k)) (ap length c.statements.ensures.exact)

pub seeds-requires-clause-annotated : goal.seeds-requires-clause-annotated
seeds-requires-clause-annotated c =
    let len = c.requires.annotated.len in
    let within : c.loop-class.class < length c.args.annotated.now = omega arith in
    let small : c.loop-class.class < class_count c.args.names.now = omega (arith, len) in
    c.deref.ensures.value
    ∙ sym (row_at_read c.args.annotated.now c.loop-class.class c.index-annotated-class.result within
    c.index-annotated-class.is)
    ∙ c.requires.annotated.each c.loop-class.class small

pub reached-requires-clause-graph : goal.reached-requires-clause-graph
reached-requires-clause-graph c =
    graph_is_sound c.args.names.now c.in_ok-graph.graph c.requires.bounded
    c.in_ok-graph.ensures.exact

pub reached-requires-clause-seeds : goal.reached-requires-clause-seeds
reached-requires-clause-seeds c =
    seeds_are_nodes c.args.names.now c.in_ok-graph.graph c.loop-class.class
    c.deref-in-loop-class.result.now c.in_ok-graph.ensures.exact
    (c.deref-in-loop-class.ensures.value ∙ c.in_ok-seeds.ensures.exact)

pub loop-class-preserved : goal.loop-class-preserved
loop-class-preserved c =
    reached_step c.args.names.now c.loop-class.class c.deref-in-loop-class-2.result.now
    c.loop-class.sets.items c.add_class.new.sets.items c.loop-class.invariant
    (λ m lt. ap (λ bs. slice_index_or bs m false) c.deref-in-loop-class-2.ensures.value
    ∙ reached_marks c.args.names.now c.in_ok-graph.graph c.loop-class.class
    c.deref-in-loop-class.result.now c.in_ok-marks.marks.items c.in_ok-graph.ensures.exact
    (c.deref-in-loop-class.ensures.value ∙ c.in_ok-seeds.ensures.exact) c.in_ok-marks.ensures.exact
    m lt)
    (omega (arith, c.add_class.ensures.len))
    (λ m other lt. c.add_class.ensures.exact m other (omega arith))
