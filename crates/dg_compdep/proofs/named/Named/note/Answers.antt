use Rattle.std.proofs.Common.{◌∙◌}
use Rattle.dg_compdep.proofs.NamedLemmas as lemmas
use Rattle.dg_compdep.proofs.named.Named.note.Goals as goal

pub returns-clause-exact : goal.returns-clause-exact
returns-clause-exact c =
    lemmas.not_not _ _ c.in_ok-is_new.ensures.added
    ∙ lemmas.has c.in_ok-pair.pair c.self.inside.pairs.keys c.args.class c.args.name.now
    c.args.self.now
    c.in_ok-pair.ensures.class c.in_ok-pair.ensures.name c.self.view_is

pub returns-clause-noted : goal.returns-clause-noted
returns-clause-noted c =
    lemmas.noted c.in_ok-pair.pair c.self.inside.pairs.keys c.insert_full.new.self.keys
    c.args.class c.args.name.now
    c.args.self.now c.in_ok-is_new.ensures.keys c.in_ok-pair.ensures.class
    c.in_ok-pair.ensures.name c.self.view_is
