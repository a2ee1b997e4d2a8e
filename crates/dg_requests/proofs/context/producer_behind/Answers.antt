use Rattle.dg_requests.proofs.Behind.{no_entry_short}
use Rattle.dg_requests.proofs.context.producer_behind.Goals as goal

pub returns : goal.returns
returns c = record {
  exact = λ doc of n is no_entry bound. c.producer_within.ensures.exact doc of n is
      (no_entry_short doc of.accepted c.args.inst c.args.slot n is no_entry) bound;
}
