use Rattle.std.proofs.Common.{◌≡◌, ◌++◌, drop, map, length}
use Rattle.dg_decl.specs.declared.document.Doc.{Doc}
use Rattle.dg_requests.specs.Contexts.{IsContextOf}
use Rattle.dg_exec.specs.Jobs.{needed_by_ask}
use Rattle.dg_exec.specs.Numbers.{IsTable}
use Rattle.dg_exec.proofs.jobs.needed_by_asks.Given as goal

abbrev pub invariant-loop-ask : goal.invariant-loop-ask
invariant-loop-ask l =
    (doc : Doc) → IsContextOf doc l.plan l.world → IsTable doc (length l.session.asks) l.table.keys
    → map (λ row. row.items) l.rows.items ++ map (needed_by_ask doc) (drop l.ask-index l.ask-items)
    ≡ map (needed_by_ask doc) l.session.asks
