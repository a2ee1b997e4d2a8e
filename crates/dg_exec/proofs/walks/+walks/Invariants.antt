use Rattle.std.proofs.Common.{◌≡◌, ◌+◌, ◌*◌, suc, take, flat_map, Some}
use Rattle.dg_decl.specs.declared.document.Doc.{Doc}
use Rattle.dg_decl.specs.declared.graph.Node.{Node}
use Rattle.dg_decl.specs.Graph.{deps}
use Rattle.dg_eval.specs.Meaning.{node_in, enough}
use Rattle.dg_requests.specs.Contexts.{IsContextOf, WalksAreShort}
use Rattle.dg_exec.specs.Jobs.{reached, reached_by}
use Rattle.dg_exec.specs.Walks.{Walked}
use Rattle.dg_exec.proofs.walks.+walks.Given as goal

-- what the inputs so far lead to is found
abbrev pub invariant-reach-loop-input : goal.invariant-reach-loop-input
invariant-reach-loop-input l =
    (doc : Doc) → IsContextOf doc l.plan l.world → (n : Node) → node_in doc l.inst l.slot ≡ Some n
    → WalksAreShort doc (suc l.depth) n
    → Walked doc (flat_map (reached_by doc (reached doc enough) l.inst n)
    (take l.input-index (deps doc n))) l.fn.found.keys l.fn.done.keys l.found.keys l.done.keys

abbrev pub decreases-follow : goal.decreases-follow
decreases-follow l = 3 * l.depth

abbrev pub decreases-enter : goal.decreases-enter
decreases-enter l = 3 * l.depth + 1

abbrev pub decreases-reach : goal.decreases-reach
decreases-reach l = 3 * l.depth + 2
