use Rattle.dg_reader.proofs.DraftLemmas.{no_draft}
use Rattle.dg_reader.proofs.draft.Draft.new.Goals as goal

pub invariant_of-result : goal.invariant_of-result
invariant_of-result c = rw (c.new.ensures.items, c.none.ensures.exact) no_draft
