use Rattle.dg_report.proofs.PlaceLemmas.{one_more}
use Rattle.dg_report.proofs.output.add_new.Goals as goal

pub returns-clause-exact : goal.returns-clause-exact
returns-clause-exact c =
    one_more c.args.places.now.keys c.insert.new.self.keys c.args.ident c.requires.new
    c.in_ok-insert.ensures.keys
