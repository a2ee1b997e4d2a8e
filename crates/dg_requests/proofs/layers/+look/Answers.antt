use Rattle.std.proofs.Common.{◌≡◌, rules, arith, sym}
use Rattle.std.proofs.lemmas.Result.{err_from_is_err_and}
use Rattle.dg_eval.specs.Meaning.{eval}
use Rattle.dg_requests.proofs.LayerLemmas.{look_deep, look_can, look_stopped, look_then, look_here}
use Rattle.dg_requests.proofs.layers.+look.Goals as goal

pub returns-in_err-behind-in-Some-clause-ran : goal.returns-in_err-behind-in-Some-clause-ran
returns-in_err-behind-in-Some-clause-ran g t c =
    let f = eval g.S.InScope.scope.doc c.args.depth in
    let p = err_from_is_err_and c.from_residual.result c.from_residual.ensures.1 in
    let same : p.0 ≡ c.in_err-behind-in-Some.field-0.0 = (let e = p.2 in cc) in
    look_stopped g.S.InScope.scope f _ _ (c.in-Some.inst, c.in-Some.slot) _ _ _ p.0 _
    c.in-Some.ensures.exact c.requires.can c.in_err-behind-in-Some.ensures.ran p.1 same

pub look-requires : goal.look-requires
look-requires g t c κs within =
    let f = eval g.S.InScope.scope.doc c.args.depth in
    let deep = look_deep g.S.InScope.scope f c.args.times c.args.value
    (c.in-Some.inst, c.in-Some.slot) (sym c.in-Some.ensures.exact) c.requires.can in (
      omega (arith, deep, c.decreases),
      (
        search rules,
        (
          search rules,
          (
            search rules,
            (
              c.requires.below,
              (
                c.requires.deep,
                (
                  c.requires.closed,
                  (
                    c.content.ensures.same,
                    look_can g.S.InScope.scope f c.args.times c.args.value (c.in-Some.inst, c.in-Some.slot) _ _ _
                        c.in-Some.ensures.exact c.requires.can c.in_ok-behind-in-Some.ensures.ran,
                  ),
                ),
              ),
            ),
          ),
        ),
      ),
    )

pub returns-in-None-clause-ran : goal.returns-in-None-clause-ran
returns-in-None-clause-ran g t c =
    look_here g.S.InScope.scope (eval g.S.InScope.scope.doc c.args.depth) _ _ _
    c.in-None.ensures.exact

pub returns-in_ok-behind-in-Some-clause-ran : goal.returns-in_ok-behind-in-Some-clause-ran
returns-in_ok-behind-in-Some-clause-ran g t c =
    let f = eval g.S.InScope.scope.doc c.args.depth in
    look_then g.S.InScope.scope f c.args.times c.args.value (c.in-Some.inst, c.in-Some.slot) _ _ _
    _ _ c.in-Some.ensures.exact c.requires.can c.in_ok-behind-in-Some.ensures.ran
    c.look.ensures.ran
