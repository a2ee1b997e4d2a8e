use Rattle.std.proofs.Common.{◌≡◌, ◌++◌, codes, ◌∙◌}
use Rattle.dg_types.specs.declared.shape.Shape.TheVariants as shape
use Rattle.dg_types.specs.Texts.{shape_text}
use Rattle.dg_types.specs.Requests.{shape_of_base}
use Rattle.dg_types.proofs.ShapeLemmas.{shape_text-Provider, shape_text-Lazy, wrapped}
use Rattle.dg_types.proofs.print.push_held.Goals as goal

pub returns-in_ok-push-in-ProviderLazy : goal.returns-in_ok-push-in-ProviderLazy
returns-in_ok-push-in-ProviderLazy c =
    let x = shape_text (shape.Lazy (shape_of_base c.args.base.now)) in
    let inside = shape_text-Lazy (shape_of_base c.args.base.now) in
    let written : c.push.new.self.items ≡ ((c.args.out.now.items ++ codes "Provider<") ++ x) ++ codes ">" =
    cc (c.in_ok-extend_from_slice-in-ProviderLazy.ensures.items, c.in_ok-push_applied-in-ProviderLazy.ensures.exact, c.in_ok-push-in-ProviderLazy.ensures.items) in
    record { exact = rw (c.in-ProviderLazy.is, shape_text-Provider) (written ∙ wrapped c.args.out.now.items (codes "Provider<") x) }
