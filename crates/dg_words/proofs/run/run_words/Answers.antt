use Rattle.std.proofs.Common.{◌≡◌, true, rules}
use Rattle.std.proofs.lemmas.Result.{err_from_is_err_and}
use Rattle.dg_words.specs.declared.fault.WordFault.TheVariants.{BadWords, NoMemory}
use Rattle.dg_words.proofs.ResultLemmas.{not_refused}
use Rattle.dg_words.proofs.run.run_words.Goals as goal

pub returns-in_err-run_of-clause-cause : goal.returns-in_err-run_of-clause-cause
returns-in_err-run_of-clause-cause c =
    let lacked = err_from_is_err_and c.from_residual.result c.from_residual.ensures.1 in
    let good : c.is_run.result ≡ true = search rules in
    not_refused _ c.from_residual.result BadWords lacked.0 lacked.1 (λ same. let bad : NoMemory ≡ BadWords = cc (same, lacked.2) in cc) (c.is_run.ensures.exact.0 good)
