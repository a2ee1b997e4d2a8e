use Rattle.std.proofs.Common.{ap, ◌∙◌}
use Rattle.dg_eval.specs.Report.{seen_at}
use Rattle.dg_report.specs.Output.{Output}
use Rattle.dg_report.proofs.PlaceLemmas.{place_found}
use Rattle.dg_report.proofs.output.Output.place_of.Goals as goal

pub returns-clause-exact : goal.returns-clause-exact
returns-clause-exact c =
    place_found c.self.inside.places.keys c.args.ident.now c.get_index_of.result
    c.get_index_of.ensures.index
    ∙ ap (λ (o : Output). seen_at c.args.ident.now o.seen) c.self.view_is
