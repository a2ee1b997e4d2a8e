use Rattle.std.proofs.Common.{take, arith}
use Rattle.dg_types.specs.Texts.{map_key_text}
use Rattle.dg_report.proofs.TakenLemmas.{text_taken}
use Rattle.dg_report.proofs.output.Output.push_key.Goals as goal

pub returns-clause-exact : goal.returns-clause-exact
returns-clause-exact c =
    text_taken c.self.inside.text.items c.keep_within.new.text.items (map_key_text c.args.key.now)
    c.self.inside.places.keys (take c.self.inside.before c.self.inside.places.keys)
    c.self.inside.limit c.args.self.now c.self.view_is
    (c.keep_within.ensures.exact c.self.inside.text.items (map_key_text c.args.key.now)
    (omega arith) c.in_ok-push_map_key_text.ensures.exact)
