use Rattle.std.proofs.Common.{◌≡◌, ◌-◌}
use Rattle.dg_decl.specs.Readers as readers
use Rattle.dg_decl.specs.Forms as forms
use Rattle.dg_reader.proofs.ListLemmas.{with_front}
use Rattle.dg_reader.proofs.session.ask_steps.Given as goal

-- what was read so far and what is still read are all
abbrev pub invariant-loop-turn : goal.invariant-loop-turn
invariant-loop-turn l =
    with_front l.found (forms.ask_steps (readers.list_limit - l._turn) l.tokens)
    ≡ forms.ask_steps readers.list_limit l.fn.tokens
