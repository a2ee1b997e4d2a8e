use Rattle.std.proofs.Common.{◌≡◌, ◌∙◌, ◌<◌, ◌∷◌, [], ◌++◌, List, map, ap, sym, arith}
use Rattle.std.specs.List.{range_with_len}
use Rattle.std.proofs.lemmas.List.FromFn.{map-range_with_len_more}
use Rattle.dg_decl.specs.declared.component.Class.{Class}
use Rattle.dg_decl.specs.Components.{class_count, class_of_number, is_entry_of}
use Rattle.dg_comps.specs.Rows.{is_member, is_installed_at}
use Rattle.dg_comps.proofs.RowLemmas.{row_read, rows_installed, rows_entries}
use Rattle.dg_comps.proofs.classes.component_classes.Goals as goal

pub class_of_number-requires-clause-members : goal.class_of_number-requires-clause-members
class_of_number-requires-clause-members c =
    let count = c.class_count-class-end.ensures.exact in
    let lt : c.loop-class.class < class_count c.args.names.now = omega (arith, count) in
    row_read (is_member c.args.names.now) c.args.names.now (class_count c.args.names.now)
    c.loop-class.class c.in_ok-members.members.items c.index.result.now c.deref.result.now
    c.in_ok-members.ensures.exact lt c.index.ensures c.deref.ensures.value

pub class_of_number-requires-clause-modules : goal.class_of_number-requires-clause-modules
class_of_number-requires-clause-modules c =
    let count = c.class_count-class-end.ensures.exact in
    let lt : c.loop-class.class < class_count c.args.names.now = omega (arith, count) in
    row_read (is_installed_at c.args.names.now) c.args.names.now (class_count c.args.names.now)
    c.loop-class.class c.in_ok-modules.modules.items c.index-in-loop-class.result.now
    c.deref-in-loop-class.result.now c.in_ok-modules.ensures.exact lt
    c.index-in-loop-class.ensures c.deref-in-loop-class.ensures.value
    ∙ rows_installed c.args.names.now c.loop-class.class

pub class_of_number-requires-clause-entries : goal.class_of_number-requires-clause-entries
class_of_number-requires-clause-entries c =
    let count = c.class_count-class-end.ensures.exact in
    let lt : c.loop-class.class < class_count c.args.names.now = omega (arith, count) in
    row_read (is_entry_of c.args.names.now) c.args.names.now (class_count c.args.names.now)
    c.loop-class.class c.in_ok-entries.entries.items c.index-in-loop-class-2.result.now
    c.deref-in-loop-class-2.result.now c.in_ok-entries.ensures.exact lt
    c.index-in-loop-class-2.ensures c.deref-in-loop-class-2.ensures.value
    ∙ rows_entries c.args.names.now c.loop-class.class

pub loop-class-preserved : goal.loop-class-preserved
loop-class-preserved c =
    c.in_ok-push.ensures.ok
    ∙ ap (λ (cs : List Class). cs ++ c.in_ok-found.found ∷ []) c.loop-class.invariant
    ∙ ap (λ (x : Class). map (class_of_number c.args.names.now)
    (range_with_len 0 c.loop-class.class)
    ++ x ∷ []) c.in_ok-found.ensures.exact
    ∙ sym (map-range_with_len_more (class_of_number c.args.names.now) 0 c.loop-class.class
    c.loop-class.class (omega arith))
