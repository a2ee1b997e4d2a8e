use Rattle.dg_eval.specs.Runs.{asks_of}
use Rattle.dg_eval.specs.Asks.{run_of_ask}
use Rattle.dg_evaluator.specs.Answers.{reaches}
use Rattle.dg_evaluator.proofs.ReplyLemmas.{reply_exact, reply_asked}
use Rattle.dg_evaluator.proofs.asks.eval_ask.Goals as goal

pub returns : goal.returns
returns g c =
    let s = g.C.Cells.scope c.args.cells.now in
    record {
      exact = reply_exact s.doc c.args.number c.args.ask.now (reaches c.whole_ask.result)
          c.to_reply.result c.to_reply.ensures.exact c.whole_ask.ensures.ran.gave;
      asked = reply_asked s.doc (asks_of (run_of_ask s.doc c.args.number c.args.ask.now)) _ _
          (reaches c.whole_ask.result) c.to_reply.result c.to_reply.ensures.exact
          c.whole_ask.ensures.ran.asked;
      same = c.whole_ask.ensures.same;
    }
