use Rattle.dg_comps.proofs.TableLemmas.{carriers_begin}
use Rattle.dg_comps.proofs.scopes.carriers.Goals as goal

pub loop-class-init : goal.loop-class-init
loop-class-init c = carriers_begin c.args.names.now c.new-table.result c.new-table.ensures.exact
