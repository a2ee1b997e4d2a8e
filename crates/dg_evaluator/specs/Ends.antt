-- Where the evaluation of a slot ends: in a value, or in the cell of a producer.
use Rattle.std.specs.Prelude.{◌≡◌, ℕ, Option, Result, Ok, Err, option_map}
use Rattle.std.specs.Option.{option_map_or}
use Rattle.dg_decl.specs.declared.document.Doc.{Doc}
use Rattle.dg_decl.specs.declared.binding.BindRef.TheVariants as binding
use Rattle.dg_decl.specs.declared.graph.Node.{Node}
use Rattle.dg_decl.specs.declared.graph.NodeKind.{NodeKind}
use Rattle.dg_decl.specs.declared.graph.NodeKind.TheVariants as node
use Rattle.dg_value.specs.declared.place.Place.{Place}
use Rattle.dg_value.specs.declared.value.Failure.{Failure}
use Rattle.dg_value.specs.declared.value.Kept.TheVariants as kept
use Rattle.dg_value.specs.declared.value.Value.{Value}
use Rattle.dg_eval.specs.Runs.{Run, gives, and_then, all, mistyped}
use Rattle.dg_eval.specs.Operations.{or_mistyped, only_of}
use Rattle.dg_eval.specs.Bodies.{End, value_end, producer_end}
use Rattle.dg_eval.specs.Meaning.{Eval, node_in, member_end, given, eval_node, eval, of_end}
use Rattle.dg_evaluator.specs.declared.outcome.Outcome.{Outcome}
use Rattle.dg_evaluator.specs.declared.outcome.Outcome.TheVariants as outcome

-- where a node ends: a module member may end in the cell of a producer
abbrev pub end_of_node : Doc → Eval → ℕ → ℕ → ℕ → Node → Place → Run End
end_of_node doc below depth i k n q = of_kind n.kind
  where
    of_kind : NodeKind → Run End
    of_kind (node.Bound (binding.Member m)) = member_end doc below depth i k n q m
    of_kind other = and_then (eval_node doc below depth i k n q) (λ v. gives (value_end v))

-- where a slot ends in an instance at a place, over the evaluation at the depth below
abbrev pub end_over : Doc → Eval → ℕ → ℕ → ℕ → Place → Run End
end_over doc below depth i k q =
    option_map_or (λ n. end_of_node doc below depth i k n q) (node_in doc i k) mistyped

-- what the one request of a slot is given, over the evaluation at the depth below
abbrev pub only_over : Doc → Eval → ℕ → ℕ → Place → Run Value
only_over doc below i k q =
    option_map_or (λ n. and_then (all (given doc below i n q)) (λ vs. or_mistyped (only_of vs)))
    (node_in doc i k) mistyped

-- where a slot ends in an instance at a place, at a depth that is enough: `eval` is this, and then
-- the content of the cell of the producer
unfoldable pub end_of_slot : Doc → ℕ → ℕ → Place → Run End
end_of_slot doc i k q = end_over doc (eval doc 127) 127 i k q

-- Evaluation ends, and gives the value at the end; the content of a producer's cell is asked for.
abbrev pub EvaluationEnds : Type 0
EvaluationEnds =
    (doc : Doc) (i k : ℕ) (q : Place)
    → eval doc 128 i k q ≡ and_then (end_of_slot doc i k q) (of_end (eval doc 127))

-- an end, or a failure, as what becomes of a slot
abbrev pub as_outcome : Result End Failure → Outcome
as_outcome (Ok (value_end v)) = outcome.Kept (kept.Value v)
as_outcome (Ok (producer_end i k)) = outcome.Forward i k
as_outcome (Err f) = outcome.Kept (kept.Failed f)

-- what becomes of a run
abbrev pub outcome_of : Run End → Option Outcome
outcome_of run = option_map (λ p. as_outcome p.0) run
