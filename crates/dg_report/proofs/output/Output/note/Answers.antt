use Rattle.dg_report.proofs.PlaceLemmas.{noted_made, number_made}
use Rattle.dg_report.proofs.output.Output.note.Goals as goal

pub returns-clause-exact : goal.returns-clause-exact
returns-clause-exact c =
    noted_made c.self.inside.text.items c.self.inside.places.keys c.add_new.new.places.keys
    c.self.inside.before c.self.inside.limit c.args.ident c.args.self.now c.self.view_is
    c.self.invariant c.in_ok-add_new.ensures.exact

pub returns-clause-number : goal.returns-clause-number
returns-clause-number c =
    number_made c.self.inside.text.items c.self.inside.places.keys c.add_new.new.places.keys
    c.self.inside.before c.len.result c.self.inside.limit c.args.ident c.args.self.now
    c.self.view_is c.len.ensures.len c.in_ok-add_new.ensures.exact
