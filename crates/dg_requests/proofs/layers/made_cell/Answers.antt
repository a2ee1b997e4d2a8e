use Rattle.dg_requests.proofs.LayerLemmas.{can_at, ran_at, cell_answers}
use Rattle.dg_requests.proofs.layers.made_cell.Goals as goal

pub eval-requires : goal.eval-requires
eval-requires g c =
    c.requires.below.callable _ _ _ _ c.requires.same
    (can_at g.S.InScope.scope _ _ _ _ c.at_root-place.ensures.exact c.requires.can)

pub returns : goal.returns
returns g c =
    let can = can_at g.S.InScope.scope _ _ _ _ c.at_root-place.ensures.exact c.requires.can in
    let made = c.requires.below.ran _ _ _ _ _ _ c.requires.same can c.eval.ensures in
    record {
      exact = cell_answers g.S.InScope.scope _ _ _ _ _ _ _ _ _ c.requires.deep c.requires.same
          made.1 c.requires.can c.to_keep.ensures.exact
          (ran_at g.S.InScope.scope _ _ _ _ _ _ _ c.at_root-place.ensures.exact made.0);
    }
