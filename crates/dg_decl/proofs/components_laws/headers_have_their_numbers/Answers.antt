use Rattle.dg_decl.proofs.HeaderLemmas.{headers_have_their_numbers}
use Rattle.dg_decl.proofs.components_laws.headers_have_their_numbers.Goals as goal

pub returns : goal.returns
returns c = record { exact = headers_have_their_numbers }
