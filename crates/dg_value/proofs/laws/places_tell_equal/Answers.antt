use Rattle.dg_value.proofs.PlaceLemmas.{places_tell_equal}
use Rattle.dg_value.proofs.laws.places_tell_equal.Goals as goal

pub returns : goal.returns
returns c = record { law = places_tell_equal }
