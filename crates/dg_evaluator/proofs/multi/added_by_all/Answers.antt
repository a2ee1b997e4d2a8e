use Rattle.std.proofs.Common.{◌≡◌, false, get_or, sym, arith}
use Rattle.std.proofs.lemmas.Option.{slice_get-get_or}
use Rattle.std.proofs.lemmas.Result.{err_from_is_err_and}
use Rattle.dg_eval.specs.Meaning.{look, eval, added_by}
use Rattle.dg_evaluator.specs.Sets.{form_of}
use Rattle.dg_evaluator.proofs.RestLemmas.{left_first, left_next, left_stops, left_lacks}
use Rattle.dg_evaluator.proofs.SetLemmas.{adding_next, adding_step, adding_stops, adding_ends}
use Rattle.dg_evaluator.proofs.multi.added_by_all.Goals as goal

pub returns-in_default-clause-ran : goal.returns-in_default-clause-ran
returns-in_default-clause-ran g c =
    let s = g.S.InScope.scope in
    adding_stops s _ (form_of c.args.of_outcomes) (look (eval s.doc c.args.depth) c.args.depth)
    c.loop-index.all c.args.flags.now c.args.values.now c.loop-index.index _ _
    c.in_default.ensures c.loop-index.invariant.rest

pub added-requires-clause-can : goal.added-requires-clause-can
added-requires-clause-can g c =
    let s = g.S.InScope.scope in
    let l = look (eval s.doc c.args.depth) c.args.depth in
    let flag = get_or c.args.flags.now c.loop-index.index false in
    left_first s _ (added_by (form_of c.args.of_outcomes) l flag c.in-Some.value.now) _ _ _
    (adding_next s _ (form_of c.args.of_outcomes) l c.loop-index.all c.args.flags.now
    c.args.values.now c.loop-index.index flag c.in-Some.value.now _ _
    (slice_get-get_or c.args.flags.now c.loop-index.index false c.loop-index-test.true)
    (sym c.in-Some.ensures) c.loop-index.invariant.rest)

pub returns-in_err-more-clause-ran : goal.returns-in_err-more-clause-ran
returns-in_err-more-clause-ran g c =
    let s = g.S.InScope.scope in
    let l = look (eval s.doc c.args.depth) c.args.depth in
    let flag = get_or c.args.flags.now c.loop-index.index false in
    let p = err_from_is_err_and c.from_residual.result c.from_residual.ensures.1 in
    let same : p.0 ≡ c.in_err-more.field-0.0 = (let e = p.2 in cc) in
    left_stops s _ (added_by (form_of c.args.of_outcomes) l flag c.in-Some.value.now) _ _ _ _ _
    p.0 c.from_residual.result
    (adding_next s _ (form_of c.args.of_outcomes) l c.loop-index.all c.args.flags.now
    c.args.values.now c.loop-index.index flag c.in-Some.value.now _ _
    (slice_get-get_or c.args.flags.now c.loop-index.index false c.loop-index-test.true)
    (sym c.in-Some.ensures) c.loop-index.invariant.rest) c.in_err-more.ensures.ran p.1 same

pub returns-in_err-append-clause-ran : goal.returns-in_err-append-clause-ran
returns-in_err-append-clause-ran g c =
    let s = g.S.InScope.scope in
    let l = look (eval s.doc c.args.depth) c.args.depth in
    let flag = get_or c.args.flags.now c.loop-index.index false in
    let p = err_from_is_err_and c.from_residual-in_err-append.result
    c.from_residual-in_err-append.ensures.1 in
    left_lacks s _ _ _ _ p.0 c.from_residual-in_err-append.result
    (left_next s _ (added_by (form_of c.args.of_outcomes) l flag c.in-Some.value.now) _ _ _ _
    c.in_ok-more.more
    (adding_next s _ (form_of c.args.of_outcomes) l c.loop-index.all c.args.flags.now
    c.args.values.now c.loop-index.index flag c.in-Some.value.now _ _
    (slice_get-get_or c.args.flags.now c.loop-index.index false c.loop-index-test.true)
    (sym c.in-Some.ensures) c.loop-index.invariant.rest) c.in_ok-more.ensures.ran) p.1 p.2

pub loop-index-preserved : goal.loop-index-preserved
loop-index-preserved g c =
    let s = g.S.InScope.scope in
    let l = look (eval s.doc c.args.depth) c.args.depth in
    let flag = get_or c.args.flags.now c.loop-index.index false in
    record {
      rest = adding_step s _ (form_of c.args.of_outcomes) l c.loop-index.all _ c.args.flags.now
          c.args.values.now c.loop-index.index flag c.in-Some.value.now c.in_ok-more.more _ _ _
          (slice_get-get_or c.args.flags.now c.loop-index.index false c.loop-index-test.true)
          (sym c.in-Some.ensures) c.loop-index.invariant.rest c.in_ok-more.ensures.ran
          c.in_ok-append.ensures;
      same = c.added.ensures.same;
    }

pub returns-clause-ran : goal.returns-clause-ran
returns-clause-ran g c =
    let s = g.S.InScope.scope in
    adding_ends s _ (form_of c.args.of_outcomes) (look (eval s.doc c.args.depth) c.args.depth)
    c.loop-index.all c.args.flags.now c.args.values.now c.loop-index.index _ _
    (omega (arith, c.loop-index-test.false)) c.loop-index.invariant.rest
