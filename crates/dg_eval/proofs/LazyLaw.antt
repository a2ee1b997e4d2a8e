-- Each Lazy that an accepted document gives stands at its place.
use Rattle.dg_eval.specs.Laws.{LazyPlaces}
use Rattle.dg_eval.proofs.AcceptedDepth.{stages_of_accepted}
use Rattle.dg_eval.proofs.CallLemmas.{calls_are_edges}
use Rattle.dg_eval.proofs.StandLemmas.{eval_stands, give_stands, content_stands, lazy_content_stands, one_lazy}
use Rattle.dg_eval.proofs.AskLemmas.{ask_stands}

pub lazy_places : LazyPlaces
lazy_places doc accepted =
    let none = stages_of_accepted doc accepted in
    let ok = calls_are_edges doc none in
    record {
      evaluated = eval_stands doc none ok;
      given = give_stands doc none ok;
      contents = content_stands doc none ok;
      lazies = lazy_content_stands doc none ok;
      asks = ask_stands doc none ok;
      once = one_lazy doc;
    }
