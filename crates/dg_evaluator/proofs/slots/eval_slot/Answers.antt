use Rattle.dg_eval.specs.Runs.{asks_of}
use Rattle.dg_requests.specs.Results.{ends}
use Rattle.dg_evaluator.specs.Ends.{end_of_slot}
use Rattle.dg_evaluator.proofs.ReplyLemmas.{outcome_exact, outcome_asked}
use Rattle.dg_evaluator.proofs.slots.eval_slot.Goals as goal

pub returns : goal.returns
returns g c =
    let s = g.C.Cells.scope c.args.cells.now in
    record {
      exact = outcome_exact (end_of_slot s.doc c.args.inst c.args.slot c.args.place.now)
          (ends c.whole_end.result) c.to_outcome.result c.to_outcome.ensures.exact
          c.whole_end.ensures.ran.gave;
      asked = outcome_asked s.doc
          (asks_of (end_of_slot s.doc c.args.inst c.args.slot c.args.place.now)) _ _
          (ends c.whole_end.result) c.to_outcome.result c.to_outcome.ensures.exact
          c.whole_end.ensures.ran.asked;
      same = c.whole_end.ensures.same;
    }
