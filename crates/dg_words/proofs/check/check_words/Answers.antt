use Rattle.dg_words.proofs.ResultLemmas.{refused_exactly}
use Rattle.dg_words.proofs.check.check_words.Goals as goal

pub returns-clause-cause : goal.returns-clause-cause
returns-clause-cause c = refused_exactly _ c.read_check.result c.ok_or.result _ c.read_check.ensures.exact c.ok_or.ensures.value
