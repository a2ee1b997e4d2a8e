use Rattle.std.proofs.Common.{◌≡◌, ◌≤◌, ◌<◌, length, subst, sym, ap, ◌∙◌, arith}
use Rattle.dg_decl.specs.Components.{class_count}
use Rattle.dg_comps.proofs.ParentLemmas.{AllWithinTable, table_length, table_within, set_by_table, one_more_set}
use Rattle.dg_comps.proofs.parents.ancestor_sets.Goals as goal

pub above-requires-clause-few : goal.above-requires-clause-few
above-requires-clause-few c =
    let len = ap length (c.deref.ensures.value ∙ c.in_ok-parents.ensures.exact)
    ∙ table_length c.args.names.now in
    omega (arith, len, c.requires.few)

pub above-requires-clause-within : goal.above-requires-clause-within
above-requires-clause-within c =
    subst AllWithinTable (sym (c.deref.ensures.value ∙ c.in_ok-parents.ensures.exact))
    (table_within c.args.names.now)

pub above-requires-clause-class : goal.above-requires-clause-class
above-requires-clause-class c =
    let len = ap length (c.deref.ensures.value ∙ c.in_ok-parents.ensures.exact)
    ∙ table_length c.args.names.now in
    omega (arith, len, c.loop-class-test.true, c.class_count-class-end.ensures.exact)

pub loop-class-preserved : goal.loop-class-preserved
loop-class-preserved c =
    let count = c.class_count-class-end.ensures.exact in
    let lt : c.loop-class.class < class_count c.args.names.now = omega (arith, count) in
    one_more_set c.args.names.now c.loop-class.sets.items c.push.new.self.items c.loop-class.class
    c.above.result c.loop-class.invariant
    c.in_ok-push.ensures.items
    (set_by_table c.args.names.now c.deref.result.now c.loop-class.class c.above.result
    (c.deref.ensures.value ∙ c.in_ok-parents.ensures.exact) lt c.above.ensures.exact)
