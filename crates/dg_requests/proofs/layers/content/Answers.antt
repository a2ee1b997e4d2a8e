use Rattle.std.proofs.Common.{ap, ◌∙◌}
use Rattle.dg_requests.proofs.LayerLemmas.{may_over, can_make_cell, cell_asked}
use Rattle.dg_requests.proofs.layers.content.Goals as goal

pub kept-requires-clause-may : goal.kept-requires-clause-may
kept-requires-clause-may g c =
    may_over g.S.InScope.scope _ _ _ c.requires.same c.requires.can

pub kept-requires-clause-can : goal.kept-requires-clause-can
kept-requires-clause-can g c = λ s e p at. (
  c.requires.below,
  (
    c.requires.deep,
    (
      ap g.C.Cells.scope at ∙ e ∙ c.requires.same,
      can_make_cell g.S.InScope.scope _ _ _ c.requires.deep c.requires.closed c.requires.can,
    ),
  ),
)

pub returns : goal.returns
returns g c = record {
  ran = cell_asked g.S.InScope.scope _ _ _ _ _ _ _ _ _ c.requires.deep c.requires.same
      c.requires.can c.kept.ensures.exact c.from_kept.ensures.exact;
  same = c.kept.ensures.exact.same ∙ c.requires.same;
}
