use Rattle.dg_requests.proofs.LayerLemmas.{lazy_answers}
use Rattle.dg_requests.proofs.layers.made_lazy.Goals as goal

pub returns : goal.returns
returns g c = record {
  exact = lazy_answers g.S.InScope.scope _ _ c.args.depth c.args.inst c.args.slot
      c.args.place.now _ _ _ _ c.requires.deep c.requires.same c.lazy_content.ensures.same
      c.requires.can c.to_keep.ensures.exact c.lazy_content.ensures.ran;
}
