use Rattle.std.proofs.Common.{◌≡◌, ◌-◌}
use Rattle.dg_lex.specs.Bytes.{line_limit}
use Rattle.dg_decl.specs.Readers as readers
use Rattle.dg_reader.proofs.ListLemmas.{with_front}
use Rattle.dg_reader.proofs.parts.name_list.Given as goal

-- what was read so far and what is still read are the whole list
abbrev pub invariant-loop-turn : goal.invariant-loop-turn
invariant-loop-turn l =
    with_front l.found (readers.list_of readers.name (line_limit - l._turn) l.tokens)
    ≡ readers.list_of readers.name line_limit l.fn.tokens
