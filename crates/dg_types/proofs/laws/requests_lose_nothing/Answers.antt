use Rattle.dg_types.proofs.WrittenBack.{written_back}
use Rattle.dg_types.proofs.laws.requests_lose_nothing.Goals as goal

pub returns : goal.returns
returns c = record { law = written_back }
