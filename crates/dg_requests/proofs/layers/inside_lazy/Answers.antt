use Rattle.std.proofs.Common.{ap, ◌∙◌}
use Rattle.dg_eval.specs.Runs.{lazy}
use Rattle.dg_eval.specs.Meaning.{lazy_content, eval}
use Rattle.dg_requests.proofs.LayerLemmas.{may_over, can_make_lazy, lazy_asked}
use Rattle.dg_requests.proofs.layers.inside_lazy.Goals as goal

pub lazy-requires-clause-may : goal.lazy-requires-clause-may
lazy-requires-clause-may g c =
    may_over g.S.InScope.scope _ (lazy c.args.inst c.args.slot c.args.place.now)
    (lazy_content g.S.InScope.scope.doc (eval g.S.InScope.scope.doc c.args.depth) c.args.inst
    c.args.slot c.args.place.now) c.requires.same c.requires.can

pub lazy-requires-clause-can : goal.lazy-requires-clause-can
lazy-requires-clause-can g c = λ s e p at. (
  c.requires.fit,
  (
    c.requires.below,
    (
      c.requires.deep,
      (
        ap g.C.Cells.scope at ∙ e ∙ c.requires.same,
        can_make_lazy g.S.InScope.scope c.args.depth c.args.inst c.args.slot c.args.place.now
            c.requires.deep c.requires.fit.closed c.requires.can,
      ),
    ),
  ),
)

pub returns : goal.returns
returns g c = record {
  ran = lazy_asked g.S.InScope.scope _ _ c.args.depth c.args.inst c.args.slot c.args.place.now
      _ _ _ _ c.requires.deep c.requires.same c.requires.can c.lazy.ensures.exact
      c.from_kept.ensures.exact;
  same = c.lazy.ensures.exact.same ∙ c.requires.same;
}
