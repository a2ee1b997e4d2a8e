use Rattle.std.proofs.Common.{take, arith}
use Rattle.dg_lex.specs.Lexemes.{quoted}
use Rattle.dg_types.specs.Texts.{quoted as spelled}
use Rattle.dg_report.proofs.TakenLemmas.{text_taken}
use Rattle.dg_report.proofs.output.Output.push_quoted.Goals as goal

pub returns-clause-exact : goal.returns-clause-exact
unfolding quoted spelled
returns-clause-exact c =
    text_taken c.self.inside.text.items c.keep_within.new.text.items (quoted c.args.text.now)
    c.self.inside.places.keys (take c.self.inside.before c.self.inside.places.keys)
    c.self.inside.limit c.args.self.now c.self.view_is
    (c.keep_within.ensures.exact c.self.inside.text.items (quoted c.args.text.now) (omega arith)
    c.in_ok-push_quoted.ensures.exact)
