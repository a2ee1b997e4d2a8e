use Rattle.std.proofs.Common.{Vec, ℕ, arith}
use Rattle.std.specs.Vec.{vec_len}
use Rattle.std.specs.Global.{Global}
use Rattle.std.proofs.lemmas.Result.{IfOk-weaker}
use Rattle.dg_exec.proofs.JobLemmas.{inside}
use Rattle.dg_exec.proofs.jobs.jobs_of.Goals as goal

pub returns : goal.returns
returns c = record {
  exact = IfOk-weaker c.jobs_over.result _ _ (λ jobs h doc accepted p s l.
      h doc (record {
        accepted = accepted;
        of_plan = p;
        of_world = c.in_ok-world.ensures.exact doc s l;
      }) s) c.jobs_over.ensures.exact;
  small = c.jobs_over.ensures.small;
  in_range = IfOk-weaker c.jobs_over.result _ _ (λ jobs h doc accepted p s l.
      inside (λ (row : Vec ℕ Global). row.items) doc jobs.inputs.items
      (vec_len jobs.inputs) (omega arith) (h doc (record {
        accepted = accepted;
        of_plan = p;
        of_world = c.in_ok-world.ensures.exact doc s l;
      }) s).0) c.jobs_over.ensures.exact;
}
