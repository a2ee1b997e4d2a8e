use Rattle.std.proofs.Common.{◌≡◌, ◌+◌, ◌<◌, Some, None, length, get_or, set, ap, ◌∙◌, subst, inl, inr, arith}
use Rattle.std.proofs.lemmas.Bool.{ne_eqb, eq-eqb}
use Rattle.std.proofs.lemmas.List.Elements.{Contains-get_or}
use Rattle.std.proofs.lemmas.List.{get_or_read}
use Rattle.dg_jobs.specs.Board.{tables, HasEnd, passed_of, one_if}
use Rattle.dg_jobs.specs.Jobs.{inputs_of, Needs}
use Rattle.dg_jobs.specs.Piles.{choice_at}
use Rattle.dg_jobs.proofs.Handing.{Filed}
use Rattle.dg_jobs.proofs.RowLaws.{inputs_read}
use Rattle.dg_jobs.proofs.board.Board.file.Goals as goal

pub returns-then-passed-row : goal.returns-then-passed-row
returns-then-passed-row c =
    let t = tables c.args.self.now in
    let job = c.args.job in
    let row : c.as_slice-row.result.now ≡ inputs_of t.inputs job = c.as_slice-row.ensures.value ∙ inputs_read c.args.self.now.inputs.items job c.index.result.now (omega (arith, c.requires.job, c.requires.for_inputs, c.args.self.now.inputs.ok.0)) c.index.ensures in
    let from = c.next_missing-passed.result in
    let pile = get_or (inputs_of t.inputs job) from 0 in
    let read : c.index-2.result.now ≡ passed_of t.passed job = get_or_read t.passed job c.index-2.result.now (omega (arith, c.requires.job, c.requires.for_passed, c.args.self.now.passed.ok.0)) c.index-2.ensures 0 in
    let lt : from < length (inputs_of t.inputs job) = omega (arith, c.if-passed-row.true, ap length row) in
    let needs : Needs t.inputs job pile = Contains-get_or (inputs_of t.inputs job) from 0 lt in
    let in_range : pile < length t.phases = omega (arith, c.requires.in_range from 0 lt, c.requires.for_ends, c.requires.for_phases, c.args.self.now.phases.ok.0) in
    let ends : c.deref.result.now ≡ t.ends = c.deref.ensures.value in
    record {
      exact = Filed t job pile from c.push.new.self t.ready
          (c.push.ensures.exact ∙ ap (λ xs. set t.places job (Some (get_or xs from 0))) row)
          (omega (arith, ap one_if (ne_eqb pile (length t.phases) (λ e. absurd (omega (arith, in_range, e))))))
          (λ index late early. subst (λ xs. HasEnd t.ends (get_or xs index 0)) row (subst (λ es. HasEnd es (get_or c.as_slice-row.result.now index 0)) ends (c.next_missing-passed.ensures.before index (omega (arith, late, read)) early)))
          (inr (needs, subst (λ xs. choice_at t.ends (get_or xs from 0) ≡ None) row (subst (λ es. choice_at es (get_or c.as_slice-row.result.now from 0) ≡ None) ends (c.next_missing-passed.ensures.«open» c.if-passed-row.true))));
    }

pub returns-else-passed-row : goal.returns-else-passed-row
returns-else-passed-row c =
    let t = tables c.args.self.now in
    let job = c.args.job in
    let row : c.as_slice-row.result.now ≡ inputs_of t.inputs job = c.as_slice-row.ensures.value ∙ inputs_read c.args.self.now.inputs.items job c.index.result.now (omega (arith, c.requires.job, c.requires.for_inputs, c.args.self.now.inputs.ok.0)) c.index.ensures in
    let from = c.next_missing-passed.result in
    let read : c.index-2.result.now ≡ passed_of t.passed job = get_or_read t.passed job c.index-2.result.now (omega (arith, c.requires.job, c.requires.for_passed, c.args.self.now.passed.ok.0)) c.index-2.ensures 0 in
    let ends : c.deref.result.now ≡ t.ends = c.deref.ensures.value in
    let pile : c.len.result ≡ length t.phases = c.len.ensures ∙ c.args.self.now.phases.ok.0 in
    let all : from ≡ length (inputs_of t.inputs job) = omega (arith, c.if-passed-row.false, c.next_missing-passed.ensures.bound, ap length row) in
    record {
      exact = Filed t job c.len.result from c.push-else-passed-row.new.self (t.ready + 1)
          c.push-else-passed-row.ensures.exact
          (omega (arith, ap one_if (eq-eqb c.len.result (length t.phases) pile)))
          (λ index late early. subst (λ xs. HasEnd t.ends (get_or xs index 0)) row (subst (λ es. HasEnd es (get_or c.as_slice-row.result.now index 0)) ends (c.next_missing-passed.ensures.before index (omega (arith, late, read)) early)))
          (inl (pile, all));
    }
