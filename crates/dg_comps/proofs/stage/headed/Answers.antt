use Rattle.dg_comps.proofs.TableLemmas.{headed_below}
use Rattle.dg_comps.proofs.stage.headed.Goals as goal

pub returns-clause-within : goal.returns-clause-within
returns-clause-within c =
    headed_below c.args.names.now c.statement.inside.index c.number_of_header.result
    c.number_of_header.ensures.exact
