use Rattle.std.proofs.Common.{◌≡◌, length}
use Rattle.dg_decl.specs.Readers as readers
use Rattle.dg_reader.proofs.ListLemmas.{with_front}
use Rattle.dg_reader.proofs.parts.at_names.Given as goal

-- what was read so far and what is still read are all
abbrev pub invariant-loop-alloc : goal.invariant-loop-alloc
invariant-loop-alloc l = with_front l.found (readers.at_names l.tokens) ≡ readers.at_names
    l.fn.tokens

abbrev pub decreases-loop-alloc : goal.decreases-loop-alloc
decreases-loop-alloc l = length l.tokens
