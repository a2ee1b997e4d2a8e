use Rattle.std.proofs.Common.{take, arith}
use Rattle.dg_report.proofs.TakenLemmas.{text_taken}
use Rattle.dg_report.proofs.output.Output.push.Goals as goal

pub returns-clause-exact : goal.returns-clause-exact
returns-clause-exact c =
    text_taken c.self.inside.text.items c.keep_within.new.text.items c.args.bytes.now
    c.self.inside.places.keys (take c.self.inside.before c.self.inside.places.keys)
    c.self.inside.limit c.args.self.now c.self.view_is
    (c.keep_within.ensures.exact c.self.inside.text.items c.args.bytes.now (omega arith)
    c.in_ok-extend_from_slice.ensures.items)
