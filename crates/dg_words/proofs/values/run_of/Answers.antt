use Rattle.std.specs.Str.Parse.{ParsesUnsigned, ExplainsUnsignedError, HasUnsignedDigitsIfOk}
use Rattle.dg_words.proofs.ValueLemmas.{finds_run, values_are}
use Rattle.dg_words.proofs.values.run_of.Goals as goal

pub found-requires : goal.found-requires
found-requires c = (finds_run _ c.requires.0 c.requires.1).gives.taken

pub returns : goal.returns
returns c = record {
  exact = values_are (λ t x. ParsesUnsigned 32 10 t x × ExplainsUnsignedError 10 t x × HasUnsignedDigitsIfOk t x) (λ t x given. given.0) _ c.in_ok-matches.matches
      c.get_one.result c.get_one-2.result c.unwrap_or.result c.requires c.in_ok-matches.ensures.exact
      c.get_one.ensures.none c.get_one.ensures.value c.get_one-2.ensures.none c.get_one-2.ensures.value c.unwrap_or.ensures;
}
