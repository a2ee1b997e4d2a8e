use Rattle.std.proofs.Common.{◌≡◌, List, OnOk, sym, ap, subst, ◌∙◌, arith, map, option_map}
use Rattle.dg_types.specs.declared.key.MapKeyVal.{MapKeyVal}
use Rattle.dg_value.specs.declared.value.Value.{Value}
use Rattle.dg_eval.specs.Report.{value_fields}
use Rattle.dg_report.specs.Output.{Output, with_fields}
use Rattle.dg_report.specs.Shown.{with_value, total, weight, kept_weight, inside_weight}
use Rattle.dg_report.proofs.OutputLemmas.{object_entered, object_named}
use Rattle.dg_report.proofs.ShownLemmas.{cell_unread, cell_empty, cell_read, weight_read, member_less, weight-Object, weight-Held, weight-Set, weight-Map, weight-Opt, weight-Outcome, weight-kept}
use Rattle.dg_report.proofs.values.+values.Goals as goal

-- ---- cells

pub push_cell-returns-then-left-eq0-clause-exact : goal.push_cell-returns-then-left-eq0-clause-exact
push_cell-returns-then-left-eq0-clause-exact g t c =
    cell_unread c.args.names.now (g.C.Contents.content c.args.cells.now) c.args.left c.args.inst
    c.args.slot c.args.out.now c.if-left-eq0.true

pub push_cell-returns-in-None-clause-exact : goal.push_cell-returns-in-None-clause-exact
push_cell-returns-in-None-clause-exact g t c =
    cell_empty c.args.names.now (g.C.Contents.content c.args.cells.now) c.args.left c.args.inst
    c.args.slot c.args.out.now (sym c.in-None.ensures.exact)

pub push_cell-returns-in-Some-clause-exact : goal.push_cell-returns-in-Some-clause-exact
push_cell-returns-in-Some-clause-exact g t c =
    subst (λ (x : Output). OnOk c.push_kept.result (c.push_kept.new.out ≡ x))
    (cell_read c.args.names.now (g.C.Contents.content c.args.cells.now) c.args.left c.args.inst
    c.args.slot c.args.out.now c.in-Some.kept.now c.if-left-eq0.false (sym c.in-Some.ensures.exact))
    c.push_kept.ensures.exact

pub push_cell-push_kept-requires : goal.push_cell-push_kept-requires
push_cell-push_kept-requires g t c κs within =
    let same = weight_read (g.C.Contents.content c.args.cells.now) c.args.left c.args.inst
    c.args.slot c.in-Some.kept.now c.if-left-eq0.false (sym c.in-Some.ensures.exact) in
    (omega (arith, same), within)

pub push_kept-push_value-requires : goal.push_kept-push_value-requires
push_kept-push_value-requires g t c κs within =
    let same = ap (kept_weight (g.C.Contents.content c.args.cells.now) c.args.left) c.in-Value.is
    ∙ weight-kept (g.C.Contents.content c.args.cells.now) c.args.left c.in-Value.value in
    (omega (arith, same), within)

-- ---- members

pub push_fields-push_value-requires : goal.push_fields-push_value-requires
push_fields-push_value-requires g t c κs within =
    let less = member_less (weight (g.C.Contents.content c.args.cells.now) c.args.left)
    c.args.fields.now c.loop-index.index c.index-fields-index.result c.loop-index-test.true
    c.index-fields-index.is in
    (omega (arith, less), within)

pub push_set-push_value-requires : goal.push_set-push_value-requires
push_set-push_value-requires g t c κs within =
    let less = member_less (weight (g.C.Contents.content c.args.cells.now) c.args.left)
    c.args.elements.now c.loop-index.index c.index-elements-index.result c.loop-index-test.true
    c.index-elements-index.is in
    (omega (arith, less), within)

pub push_map-push_value-requires : goal.push_map-push_value-requires
push_map-push_value-requires g t c κs within =
    let less = member_less (λ e. weight (g.C.Contents.content c.args.cells.now) c.args.left e.1)
    c.args.entries.now c.loop-index.index c.index-entries-index.result c.loop-index-test.true
    c.index-entries-index.is in
    (omega (arith, less), within)

-- ---- objects

pub push_object-returns-in_ok-push-4-clause-exact : goal.push_object-returns-in_ok-push-4-clause-exact
push_object-returns-in_ok-push-4-clause-exact g t c =
    object_entered c.args.names.now (λ o. with_fields (with_value c.args.names.now
    (g.C.Contents.content c.args.cells.now) c.args.left) (value_fields c.args.names.now c.args.class)
    0 o c.args.fields.now) c.args.class c.args.ident.now c.name.result.now c.args.out.now
    c.push.new.self c.push-2.new.self c.push_number.new.self c.push-then-branch.new.self
    c.push_fields.new.out c.push-then-branch-2.new.self c.in_ok-push_number.field-0
    c.name.ensures.exact c.in_ok-push.ensures.exact c.in_ok-push-2.ensures.exact
    c.in_ok-push_number.ensures.exact c.in_ok-push_number.ensures.is_new c.if-branch.true
    c.in_ok-push-3.ensures.exact c.in_ok-push_fields.ensures.exact c.in_ok-push-4.ensures.exact

pub push_object-returns-else-branch-clause-exact : goal.push_object-returns-else-branch-clause-exact
push_object-returns-else-branch-clause-exact g t c =
    object_named c.args.names.now (λ o. with_fields (with_value c.args.names.now
    (g.C.Contents.content c.args.cells.now) c.args.left) (value_fields c.args.names.now c.args.class)
    0 o c.args.fields.now) c.args.class c.args.ident.now c.name.result.now c.args.out.now
    c.push.new.self c.push-2.new.self c.push_number.new.self c.in_ok-push_number.field-0
    c.name.ensures.exact c.in_ok-push.ensures.exact c.in_ok-push-2.ensures.exact
    c.in_ok-push_number.ensures.exact c.in_ok-push_number.ensures.is_new c.if-branch.false

-- ---- forms

pub push_value-push_cell-requires : goal.push_value-push_cell-requires
push_value-push_cell-requires g t c κs within =
    let same = ap (weight (g.C.Contents.content c.args.cells.now) c.args.left) c.in-Held.is
    ∙ weight-Held (g.C.Contents.content c.args.cells.now) c.args.left c.in-Held.inst c.in-Held.slot in
    (omega (arith, same), within)

pub push_value-push_inside-requires : goal.push_value-push_inside-requires
push_value-push_inside-requires g t c κs within =
    let same = ap (weight (g.C.Contents.content c.args.cells.now) c.args.left) c.in-Opt.is
    ∙ weight-Opt (g.C.Contents.content c.args.cells.now) c.args.left c.in-Opt.inside in
    (omega (arith, same), within)

pub push_inside-push_value-requires : goal.push_inside-push_value-requires
push_inside-push_value-requires g t c κs within =
    let f : _ = weight (g.C.Contents.content c.args.cells.now) c.args.left in
    let same = ap (λ x. inside_weight (option_map f x)) c.in-Some.is in
    let here = ap f c.get.ensures.exact in
    (omega (arith, same, here), within)

pub push_value-push_object-requires : goal.push_value-push_object-requires
push_value-push_object-requires g t c κs within =
    let same = ap (weight (g.C.Contents.content c.args.cells.now) c.args.left) c.in-Object.is
    ∙ weight-Object (g.C.Contents.content c.args.cells.now) c.args.left c.in-Object.class
    c.in-Object.ident c.in-Object.fields in
    let here = ap (λ (xs : List Value). total (map (weight (g.C.Contents.content c.args.cells.now) c.args.left) xs))
    (c.as_slice-in-Object.ensures ∙ c.get-in-Object.ensures.exact) in
    (omega (arith, same, here), within)

pub push_value-push_set-requires : goal.push_value-push_set-requires
push_value-push_set-requires g t c κs within =
    let same = ap (weight (g.C.Contents.content c.args.cells.now) c.args.left) c.in-Set.is
    ∙ weight-Set (g.C.Contents.content c.args.cells.now) c.args.left c.in-Set.elements in
    let here = ap (λ (xs : List Value). total (map (weight (g.C.Contents.content c.args.cells.now) c.args.left) xs))
    (c.as_slice-in-Set.ensures ∙ c.get-in-Set.ensures.exact) in
    (omega (arith, same, here), within)

pub push_value-push_map-requires : goal.push_value-push_map-requires
push_value-push_map-requires g t c κs within =
    let same = ap (weight (g.C.Contents.content c.args.cells.now) c.args.left) c.in-Map.is
    ∙ weight-Map (g.C.Contents.content c.args.cells.now) c.args.left c.in-Map.entries in
    let here = ap (λ (xs : List (MapKeyVal × Value)). total (map (λ e. weight (g.C.Contents.content c.args.cells.now) c.args.left e.1) xs))
    (c.as_slice-in-Map.ensures ∙ c.get-in-Map.ensures.exact) in
    (omega (arith, same, here), within)

pub push_value-push_kept-requires : goal.push_value-push_kept-requires
push_value-push_kept-requires g t c κs within =
    let same = ap (weight (g.C.Contents.content c.args.cells.now) c.args.left) c.in-Outcome.is
    ∙ weight-Outcome (g.C.Contents.content c.args.cells.now) c.args.left c.in-Outcome.kept in
    let here = ap (kept_weight (g.C.Contents.content c.args.cells.now) c.args.left)
    c.get-in-Outcome.ensures.exact in
    (omega (arith, same, here), within)
