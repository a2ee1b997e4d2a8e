use Rattle.std.proofs.Common.{◌≡◌, ◌<◌, length, ap, arith}
use Rattle.dg_comps.proofs.StatementLemmas.{read_stands, stands_within}
use Rattle.dg_comps.proofs.modules.installed.Goals as goal

pub push_installed_at-requires-clause-index : goal.push_installed_at-requires-clause-index
push_installed_at-requires-clause-index c =
    let stands = read_stands c.args.names.now c.statements-statement-items.result.now
    c.loop-statement.statement-index c.statement-item.result
    c.statements-statement-items.ensures.exact (omega arith) c.statement-item.is in
    let within = stands_within c.args.names.now c.statement-item.result stands in
    omega (arith, within, c.requires.reached.len)
