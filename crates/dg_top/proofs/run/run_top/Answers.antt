use Rattle.std.specs.Prelude.{map, string_bytes}
use Rattle.dg_top.specs.declared.command.Command.TheVariants.{Run}
use Rattle.dg_top.proofs.OutputLemmas.{any_words}
use Rattle.dg_top.proofs.run.run_top.Goals as goal

pub returns-clause-bad_words : goal.returns-clause-bad_words
returns-clause-bad_words g c =
    let exactly = c.perform.ensures.bad_words in
    (λ same none. exactly.0 same Run none, λ some. exactly.1 (any_words (map string_bytes c.args.words.now) some))
