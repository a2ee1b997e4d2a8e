use Rattle.dg_eval.proofs.LazyLaw.{lazy_places}
use Rattle.dg_eval.proofs.laws.lazy_places.Goals as goal

pub returns : goal.returns
returns c = record { exact = lazy_places }
