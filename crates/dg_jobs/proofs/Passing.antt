use Rattle.std.proofs.Common.{◌≡◌, ◌≢◌, ◌+◌, ◌<◌, ◌⊎◌, ℕ, suc, Option, Some, None, List, length, set, count_by, is_some, refl, sym, ap, ◌∙◌, subst, inl, inr, ⊎_elim, arith}
use Rattle.std.proofs.lemmas.Bool.{ne_eqb}
use Rattle.std.proofs.lemmas.List.{get_or-set_same}
use Rattle.dg_jobs.specs.declared.phase.Phase.{Phase}
use Rattle.dg_jobs.specs.declared.phase.Phase.TheVariants.{Wanted, Waits, Done}
use Rattle.dg_jobs.specs.Board.{Tables, Stands, Passes_on, Ended, Passed_on, Fits, HasEnd, IsFiled, NoneOn, MovesPiles, WaitsOnJob, end_by, is_on, noted, one_if}
use Rattle.dg_jobs.specs.Jobs.{inputs_of, phase_of, EndsAt, Needs}
use Rattle.dg_jobs.specs.Piles.{choice_at}
use Rattle.dg_jobs.proofs.Counts.{count_by-set, count_by-lt, is_on-same, is_on-other}
use Rattle.dg_jobs.proofs.BoardLaws.{changed, Fits-drop, Fits-place, Fits-pop, Fits-note, Fits-emptied}
use Rattle.dg_jobs.proofs.Filing.{not_none, Fits-file, NoneOn-set, NoneOn-file, on_ends, on_other, place_within}
use Rattle.dg_jobs.proofs.Handing.{NoneOn-count, ready_lt}

-- while the pile of a job is emptied
pub record Passing (t₀ : Tables) (job : ℕ) (t : Tables) : Type 0 where
  pub fits : Fits t job (length t.phases)
  pub noted : HasEnd t.ends job
  pub none_woken : NoneOn t (length t.phases + 2)
  pub moves : MovesPiles t₀ t
  pub is_job : job < length t.phases

pub Passing-start : (t : Tables) (job : ℕ) → Fits t job (length t.phases) → HasEnd t.ends job → NoneOn t (length t.phases + 2) → job < length t.phases → Passing t job t
Passing-start t job fits noted none lt = record { fits = fits; noted = noted; none_woken = none; moves = record { inputs = refl; phases = refl; ends = refl; out = refl; finished = refl }; is_job = lt }

-- what is said of a job that was taken from that pile
pub record IsPassed (t : Tables) (job other : ℕ) (places : List (Option ℕ)) : Type 0 where
  pub fits : Fits (changed t t.phases t.ends t.passed places t.ready t.out t.finished) job other
  pub within : other < length t.phases
  pub places_is : places ≡ set t.places other None
  pub is_open : choice_at t.ends other ≡ None
  pub free : choice_at places other ≡ None
  pub kind : (phase_of t.phases other ≡ Wanted) ⊎ (phase_of t.phases other ≡ Waits job)
  pub room : t.ready < length t.phases
  pub fewer : count_by (is_on job) places + 1 ≡ count_by (is_on job) t.places

pub passed : (t₀ t : Tables) (job other : ℕ) (places : List (Option ℕ)) → Passing t₀ job t → choice_at t.places other ≡ Some job → places ≡ set t.places other None → IsPassed t job other places
passed t₀ t job other places p on is =
    let n = length t.phases in
    let lt : other < n = omega (arith, place_within t.places other job on, p.fits.for_places) in
    let stands = on_other t job other job (p.fits.stands other lt (λ e. absurd (omega (arith, lt, e)))) on p.is_job in
    let fits = Fits-pop t job other job places t.ready p.fits on is (omega (arith, ap one_if (ne_eqb job n (λ e. absurd (omega (arith, p.is_job, e)))))) in
    let free : choice_at places other ≡ None = ap (λ xs. choice_at xs other) is ∙ get_or-set_same t.places other None None (omega (arith, lt, p.fits.for_places)) in
    record {
      fits = fits;
      within = lt;
      places_is = is;
      is_open = stands.0;
      free = free;
      kind = stands.1;
      room = ready_lt (changed t t.phases t.ends t.passed places t.ready t.out t.finished) job other other fits lt free;
      fewer = omega (arith, ap (λ xs. count_by (is_on job) xs) is, count_by-set (is_on job) t.places other None None (omega (arith, lt, p.fits.for_places)), ap (λ x. one_if (is_on job x)) on, ap one_if (is_on-same job job refl));
    }

-- a wanted one is filed
pub Passing-file : (t₀ t t' : Tables) (job other : ℕ) (places : List (Option ℕ)) → Passing t₀ job t → IsPassed t job other places → phase_of t.phases other ≡ Wanted → IsFiled (changed t t.phases t.ends t.passed places t.ready t.out t.finished) other t' → Passing t₀ job t' × (count_by (is_on job) t'.places < count_by (is_on job) t.places)
Passing-file t₀ t t' job other places p q wanted filed =
    let t1 = changed t t.phases t.ends t.passed places t.ready t.out t.finished in
    let n = length t.phases in
    let phases : t'.phases ≡ t.phases = ap (λ x. x.phases) filed.is in
    let ends : t'.ends ≡ t.ends = ap (λ x. x.ends) filed.is in
    let elsewhere : filed.pile ≡ job → ⊥ = λ e. ⊎_elim (λ (w : (filed.pile ≡ n) × (filed.from ≡ length (inputs_of t.inputs other))). absurd (omega (arith, p.is_job, w.0, e))) (λ (w : Needs t.inputs other filed.pile × (choice_at t.ends filed.pile ≡ None)). not_none (choice_at t.ends job) p.noted.0 (ap (λ x. choice_at t.ends x) (sym e) ∙ w.1) p.noted.1) filed.where_to in (
      record {
        fits = Fits-file t1 t' job other q.fits q.within wanted q.is_open q.free filed;
        noted = (p.noted.0, ap (λ xs. choice_at xs job) ends ∙ p.noted.1);
        none_woken = NoneOn-count t' (n + 2) (length t'.phases + 2) (omega (arith, ap length phases)) (NoneOn-file t1 t' other (n + 2) filed (λ input needs. q.fits.in_range other input needs) (omega arith) (subst (λ xs. (x : ℕ) → choice_at xs x ≢ Some (n + 2)) (sym q.places_is) (NoneOn-set t.places other None (n + 2) p.none_woken (λ e. absurd (cc)))));
        moves = record { inputs = ap (λ x. x.inputs) filed.is ∙ p.moves.inputs; phases = phases ∙ p.moves.phases; ends = ends ∙ p.moves.ends; out = ap (λ x. x.out) filed.is ∙ p.moves.out; finished = ap (λ x. x.finished) filed.is ∙ p.moves.finished };
        is_job = omega (arith, p.is_job, ap length phases);
      },
      omega (arith, q.fewer, ap (λ x. count_by (is_on job) x.places) filed.is, count_by-set (is_on job) places other (Some filed.pile) None (omega (arith, q.within, q.fits.for_places)), ap (λ x. one_if (is_on job x)) q.free, ap one_if (is_on-other job filed.pile elsewhere)),
    )

-- one that waits is put on the pile of jobs that end
pub Passing-push : (t₀ t : Tables) (job other : ℕ) (places places' : List (Option ℕ)) → Passing t₀ job t → IsPassed t job other places → phase_of t.phases other ≢ Wanted → places' ≡ set places other (Some (length t.phases + 1)) → Passing t₀ job (changed t t.phases t.ends t.passed places' t.ready t.out t.finished) × (count_by (is_on job) places' < count_by (is_on job) t.places)
Passing-push t₀ t job other places places' p q isnt is =
    let n = length t.phases in
    let t1 = changed t t.phases t.ends t.passed places t.ready t.out t.finished in
    let t2 = changed t t.phases t.ends t.passed places' t.ready t.out t.finished in
    let waits : phase_of t.phases other ≡ Waits job = ⊎_elim (λ (w : phase_of t.phases other ≡ Wanted). absurd (isnt w)) (λ (w : phase_of t.phases other ≡ Waits job). w) q.kind in
    let within : other < length places = omega (arith, q.within, q.fits.for_places) in
    let on : choice_at places' other ≡ Some (n + 1) = ap (λ xs. choice_at xs other) is ∙ get_or-set_same places other (Some (n + 1)) None within in
    let held : Fits t2 job other = Fits-place t1 job other (Some (n + 1)) places' t.ready q.fits q.within is (omega (arith, ap (λ x. one_if (is_on n x)) q.free, ap one_if (is_on-other n (n + 1) (λ e. absurd (omega arith))))) in
    let here : Stands t2 job other = Passes_on job waits q.is_open on p.is_job p.noted in (
      record {
        fits = Fits-drop t2 job other held here;
        noted = p.noted;
        none_woken = subst (λ xs. (x : ℕ) → choice_at xs x ≢ Some (n + 2)) (sym is) (NoneOn-set places other (Some (n + 1)) (n + 2) (subst (λ xs. (x : ℕ) → choice_at xs x ≢ Some (n + 2)) (sym q.places_is) (NoneOn-set t.places other None (n + 2) p.none_woken (λ e. absurd (cc)))) (λ e. let f : n + 1 ≡ n + 2 = cc in absurd (omega (arith, f))));
        moves = record { inputs = p.moves.inputs; phases = p.moves.phases; ends = p.moves.ends; out = p.moves.out; finished = p.moves.finished };
        is_job = p.is_job;
      },
      omega (arith, q.fewer, ap (λ xs. count_by (is_on job) xs) is, count_by-set (is_on job) places other (Some (n + 1)) None within, ap (λ x. one_if (is_on job x)) q.free, ap one_if (is_on-other job (n + 1) (λ e. absurd (omega (arith, p.is_job, e))))),
    )

pub Passing-end : (t₀ t : Tables) (job : ℕ) (places : List (Option ℕ)) → Passing t₀ job t → places ≡ t.places → NoneOn t job → Fits (changed t t.phases t.ends t.passed places t.ready t.out t.finished) (length t.phases) (length t.phases)
Passing-end t₀ t job places p is none = subst (λ xs. Fits (changed t t.phases t.ends t.passed xs t.ready t.out t.finished) (length t.phases) (length t.phases)) (sym is) (Fits-emptied t job p.fits none)

-- while the ends that are left to note are noted
pub record Settling (t₀ t : Tables) : Type 0 where
  pub fits : Fits t (length t.phases) (length t.phases)
  pub none_woken : NoneOn t (length t.phases + 2)
  pub inputs : t.inputs ≡ t₀.inputs
  pub phases : t.phases ≡ t₀.phases

-- what is said of a job whose end is to be noted
pub record IsNoted (t : Tables) (job : ℕ) (places : List (Option ℕ)) : Type 0 where
  pub is_job : job < length t.phases
  pub waits : WaitsOnJob (length t.ends) (phase_of t.phases job)
  pub room : t.finished < length t.phases
  pub fits : Fits (noted (changed t t.phases t.ends t.passed places t.ready t.out t.finished) job) job (length t.phases)
  pub has_end : HasEnd (set t.ends job (end_by t.ends job (phase_of t.phases job))) job
  pub none_woken : NoneOn (noted (changed t t.phases t.ends t.passed places t.ready t.out t.finished) job) (length t.phases + 2)

-- the end of the job is that of the one that it waits on, or the job itself
ends_by : (t : Tables) (current hand job : ℕ) → Fits t current hand → (phase_of t.phases job ≡ Done) ⊎ ((other : ℕ) × (phase_of t.phases job ≡ Waits other) × (other < length t.phases) × HasEnd t.ends other) → (last : ℕ) × (end_by t.ends job (phase_of t.phases job) ≡ Some last) × EndsAt t.phases job last
ends_by t current hand job f kind =
    ⊎_elim
    (λ (d : phase_of t.phases job ≡ Done). (job, ap (λ x. end_by t.ends job x) d, (0, (refl, d))))
    (λ (w : (other : ℕ) × (phase_of t.phases job ≡ Waits other) × (other < length t.phases) × HasEnd t.ends other).
    let ends = f.lasts w.0 w.3.0 w.3.1 in
    (w.3.0, ap (λ x. end_by t.ends job x) w.1 ∙ w.3.1, (suc ends.0, (w.0, w.1, ends.1))))
    kind

waits_by : (count : ℕ) (phase : Phase) → (phase ≡ Done) ⊎ ((other : ℕ) × (phase ≡ Waits other) × (other < count)) → WaitsOnJob count phase
waits_by count phase kind = ⊎_elim (λ (d : phase ≡ Done). subst (λ x. WaitsOnJob count x) (sym d) tt) (λ (w : (other : ℕ) × (phase ≡ Waits other) × (other < count)). subst (λ x. WaitsOnJob count x) (sym w.1) w.2) kind

pub to_note : (t₀ t : Tables) (job : ℕ) (places : List (Option ℕ)) → Settling t₀ t → choice_at t.places job ≡ Some (length t.phases + 1) → places ≡ set t.places job None → IsNoted t job places
to_note t₀ t job places s on is =
    let n = length t.phases in
    let lt : job < n = omega (arith, place_within t.places job (n + 1) on, s.fits.for_places) in
    let stands = on_ends t n job (s.fits.stands job lt (λ e. absurd (omega (arith, lt, e)))) on in
    let t1 = changed t t.phases t.ends t.passed places t.ready t.out t.finished in
    let fits : Fits t1 n job = Fits-pop t n job (n + 1) places t.ready s.fits on is (omega (arith, ap one_if (ne_eqb (n + 1) n (λ e. absurd (omega arith))))) in
    let last = ends_by t1 n job job fits stands.1 in
    let ends = set t.ends job (end_by t.ends job (phase_of t.phases job)) in
    let ends_is : ends ≡ set t.ends job (Some last.0) = ap (λ x. set t.ends job x) last.1 in
    let t2 = changed t t.phases ends t.passed places t.ready t.out (t.finished + 1) in
    let held : Fits t2 job job = Fits-note t1 job last.0 ends (t.finished + 1) fits lt stands.0 last.2 ends_is refl in
    let noted_end : HasEnd ends job = (last.0, ap (λ xs. choice_at xs job) ends_is ∙ get_or-set_same t.ends job (Some last.0) None (omega (arith, lt, s.fits.for_ends))) in
    let free : choice_at places job ≡ None = ap (λ xs. choice_at xs job) is ∙ get_or-set_same t.places job None None (omega (arith, lt, s.fits.for_places)) in
    let here : Stands t2 job job = ⊎_elim (λ (d : phase_of t.phases job ≡ Done). Ended d noted_end free) (λ (w : (other : ℕ) × (phase_of t.phases job ≡ Waits other) × (other < length t.phases) × HasEnd t.ends other). Passed_on w.0 w.1 noted_end free) stands.1 in
    record {
      is_job = lt;
      waits = waits_by (length t.ends) (phase_of t.phases job) (⊎_elim (λ (d : phase_of t.phases job ≡ Done). inl d) (λ (w : (other : ℕ) × (phase_of t.phases job ≡ Waits other) × (other < length t.phases) × HasEnd t.ends other). inr (w.0, w.1, omega (arith, w.2, s.fits.for_ends))) stands.1);
      room = omega (arith, s.fits.finished, s.fits.for_ends, count_by-lt is_some t.ends job (Some 0) None (omega (arith, lt, s.fits.for_ends)) (ap (λ x. is_some x) stands.0) refl);
      fits = Fits-drop t2 job job held here;
      has_end = noted_end;
      none_woken = subst (λ xs. (x : ℕ) → choice_at xs x ≢ Some (n + 2)) (sym is) (NoneOn-set t.places job None (n + 2) s.none_woken (λ e. absurd (cc)));
    }
