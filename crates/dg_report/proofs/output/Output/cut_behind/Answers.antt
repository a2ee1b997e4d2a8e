use Rattle.std.proofs.Common.{ap, take, codes, ◌++◌, ◌∙◌, arith}
use Rattle.dg_report.proofs.PlaceLemmas.{cut_made}
use Rattle.dg_report.proofs.output.Output.cut_behind.Goals as goal

pub returns-in_ok-extend_from_slice-clause-exact : goal.returns-in_ok-extend_from_slice-clause-exact
returns-in_ok-extend_from_slice-clause-exact c =
    cut_made c.self.inside.text.items c.extend_from_slice.new.self.items
    c.self.inside.places.keys (take c.self.inside.before c.self.inside.places.keys) c.args.start
    c.self.inside.limit c.args.self.now c.self.view_is c.requires.within (omega arith)
    (c.in_ok-extend_from_slice.ensures.items ∙ ap (λ x. x ++ codes "..") c.truncate.ensures.items)
