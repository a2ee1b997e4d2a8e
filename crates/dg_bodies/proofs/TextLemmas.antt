-- Some values that are texts, one behind the other.
use Rattle.std.proofs.Common.{List, ◌++◌, Option, option_map}
use Rattle.dg_lex.specs.Bytes.{Bytes}
use Rattle.dg_value.specs.declared.value.Value.{Value}
use Rattle.dg_eval.specs.Operations.{all_in, text_in, joined}

-- bytes, and then the texts that some values are
abbrev pub behind : Bytes → List Value → Option Bytes
behind bytes vs = option_map (λ ts. bytes ++ joined ts) (all_in text_in vs)
