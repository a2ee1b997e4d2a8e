use Rattle.std.proofs.Common.{◌∙◌}
use Rattle.dg_rules.proofs.SizeLemmas.{stage_is}
use Rattle.dg_rules.proofs.sizes_stage.sizes.Goals as goal

pub returns : goal.returns
returns c = record {
  exact = stage_is c.args.d.now c.in_ok-sites.sites _ c.new-broken.result.items
      c.sizes_among.new.broken.items c.in_ok-sizes_among.ensures.exact
      c.new-broken.ensures.items c.in_ok-sites.ensures.exact
      (c.as_slice.ensures ∙ c.requires.nodes);
}
