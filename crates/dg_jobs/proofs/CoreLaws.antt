use Rattle.std.proofs.Common.{◌≡◌, ◌≢◌, ◌<◌, ◌⊎◌, ◌↔◌, ℕ, zero, suc, Option, Some, None, Bor, List, MatchOption, length, set, refl, sym, ap, ◌∙◌, subst, inr, ⊎_elim}
use Rattle.std.proofs.lemmas.Bool.{cases_eq}
use Rattle.std.proofs.lemmas.List.{get_or-set_same, get_or-set_other}
use Rattle.std.specs.Option.{option_copied}
use Rattle.dg_jobs.specs.declared.phase.Phase.{Phase}
use Rattle.dg_jobs.specs.declared.phase.Phase.TheVariants.{Asleep, Wanted, Out, Waits, Done}
use Rattle.dg_jobs.specs.Jobs.{phase_of, result_at, EndsAt, Follows, Reaches, Wakes}
use Rattle.dg_jobs.proofs.BoardLaws.{is_job}

-- only jobs that are done have a result, where one more is done
pub done_more : {R : Type 0} (phases phases' : List Phase) (results : List (Option R)) (job : ℕ) (result : R) → phase_of phases job ≡ Out → phases' ≡ set phases job Done → ((k : ℕ) (r : R) → result_at results k ≡ Some r → phase_of phases k ≡ Done) → (k : ℕ) (r : R) → result_at (set results job (Some result)) k ≡ Some r → phase_of phases' k ≡ Done
done_more phases phases' results job result out is only k r has =
    ⊎_elim
    (λ (e : job ≡ k). ap (λ xs. phase_of xs k) is ∙ subst (λ x. phase_of (set phases job Done) x ≡ Done) e (get_or-set_same phases job Done Asleep (is_job phases job (λ e. absurd (cc)))))
    (λ (ne : job ≡ k → ⊥). ap (λ xs. phase_of xs k) is ∙ get_or-set_other phases job k Done Asleep (λ e. ne (sym e)) ∙ only k r (sym (get_or-set_other results job k (Some result) None (λ e. ne (sym e))) ∙ has))
    (cases_eq job k)

-- the same where a job waits on another, which is demanded
pub done_still : {R : Type 0} (inputs : List (List ℕ)) (phases phases' : List Phase) (results : List (Option R)) (job other : ℕ) → phase_of phases job ≡ Out → Wakes inputs other (set phases job (Waits other)) phases' → ((k : ℕ) (r : R) → result_at results k ≡ Some r → phase_of phases k ≡ Done) → (k : ℕ) (r : R) → result_at results k ≡ Some r → phase_of phases' k ≡ Done
done_still inputs phases phases' results job other out w only k r has =
    let done : phase_of phases k ≡ Done = only k r has in
    let elsewhere : k ≡ job → ⊥ = λ e. absurd (let h : phase_of phases k ≡ Out = ap (λ x. phase_of phases x) e ∙ out in cc) in
    let before : phase_of (set phases job (Waits other)) k ≡ Done = get_or-set_other phases job k (Waits other) Asleep elsewhere ∙ done in
    ⊎_elim (λ (same : phase_of phases' k ≡ phase_of (set phases job (Waits other)) k). same ∙ before) (λ (more : Reaches inputs other k × (phase_of (set phases job (Waits other)) k ≡ Asleep) × (phase_of phases' k ≡ Wanted)). absurd (let h = more.1 in cc)) (w.each k)

-- a result that isn't there
no_result : {R : Type 0} (o : Option R) → ((r : R) → o ≡ Some r → ⊥) → o ≡ None
no_result None h = refl
no_result (Some r) h = absurd (h r refl)

-- when a release has nothing to hand out
pub release_cause : {R : Type 0} (phases : List Phase) (results : List (Option R)) (job : ℕ) (o : Option R) → ((k : ℕ) (r : R) → result_at results k ≡ Some r → phase_of phases k ≡ Done) → o ≡ result_at results job → ((o ≡ None) ↔ ((phase_of phases job ≢ Done) ⊎ (result_at results job ≡ None)))
release_cause phases results job o only is = (
  λ none. inr (sym is ∙ none),
  λ cause. ⊎_elim (λ (isnt : phase_of phases job ≢ Done). is ∙ no_result (result_at results job) (λ r e. isnt (only job r e))) (λ (none : result_at results job ≡ None). is ∙ none) cause,
)

-- the result that is found is that of the job's end
pub result_found : {R : Type 0} (phases : List Phase) (results : List (Option R)) (job last : ℕ) (o : Option (Bor R)) → EndsAt phases job last → ((other : ℕ) → EndsAt phases job other → Some last ≡ Some other) → option_copied o ≡ result_at results last → MatchOption o ((other : ℕ) → EndsAt phases job other → result_at results other ≡ None) (λ found. (other : ℕ) × EndsAt phases job other × (result_at results other ≡ Some found.now))
result_found phases results job last None ends only is = λ other ends'. (let e : last ≡ other = (let h = only other ends' in cc) in ap (λ x. result_at results x) (sym e) ∙ sym is)
result_found phases results job last (Some found) ends only is = (last, ends, sym is)

-- the end of a job is one
pub last_is_job : (phases : List Phase) (job last : ℕ) → EndsAt phases job last → last < length phases
last_is_job phases job last ends = by_steps ends.0 job ends.1
  where
    by_steps : (steps job : ℕ) → Follows phases steps job last → last < length phases
    by_steps zero job f = let done : phase_of phases last ≡ Done = subst (λ x. phase_of phases x ≡ Done) f.0 f.1 in is_job phases last (λ e. absurd (cc))
    by_steps (suc steps) job f = by_steps steps f.0 f.2
