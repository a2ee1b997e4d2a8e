use Rattle.std.proofs.Common.{◌≡◌, ◌≢◌, ◌+◌, ◌<◌, ◌≤◌, ◌⊎◌, ◌∷◌, [], ℕ, zero, suc, true, false, Option, Some, None, List, length, get_or, set, count_by, is_some, Contains, refl, sym, ap, ◌∙◌, subst, inl, inr, ⊎_elim, arith}
use Rattle.std.proofs.lemmas.Bool.{cases_eq, cases_lt, ne_eqb}
use Rattle.std.proofs.lemmas.List.{get_or_past, get_or-set_same, get_or-set_other, length-set}
use Rattle.dg_jobs.specs.declared.phase.Phase.{Phase}
use Rattle.dg_jobs.specs.declared.phase.Phase.TheVariants.{Asleep, Wanted, Out}
use Rattle.dg_jobs.specs.Board.{Tables, Woken, Fits, IsCalm, IsFiled, NoneOn, WakesRow, is_asleep, is_on, one_if}
use Rattle.dg_jobs.specs.Jobs.{inputs_of, phase_of, Needs, Reaches, Wakes, Walk}
use Rattle.dg_jobs.specs.Piles.{choice_at}
use Rattle.dg_jobs.proofs.Counts.{count_by-set, is_on-same, is_on-other}
use Rattle.dg_jobs.proofs.BoardLaws.{changed, is_job, EndsAt-keeps, Stands-frame, Fits-pop}
use Rattle.dg_jobs.proofs.Filing.{same_some, Fits-file, NoneOn-set, NoneOn-file, on_woken, when_asleep, place_within}
use Rattle.dg_jobs.proofs.Handing.{Fits-current, NoneOn-count}

-- a walk, and one input more
pub Reaches-more : (inputs : List (List ℕ)) (job other next : ℕ) → Reaches inputs job other → Needs inputs other next → Reaches inputs job next
Reaches-more inputs job other next reaches needs = (suc reaches.0, more reaches.0 job reaches.1)
  where
    more : (steps : ℕ) (job : ℕ) → Walk inputs steps job other → Walk inputs (suc steps) job next
    more zero job e = (next, subst (λ x. Needs inputs x next) (sym e) needs, refl)
    more (suc steps) job w = (w.0, w.1, more steps w.0 w.2)

-- what a wake of a row does to one phase or place
pub stays_awake : (row : List ℕ) (phases : List Phase) (places : List (Option ℕ)) (phases' : List Phase) (places' : List (Option ℕ)) (job : ℕ) → WakesRow row phases places phases' places' → phase_of phases job ≢ Asleep → phase_of phases' job ≢ Asleep
stays_awake row phases places phases' places' job w awake asleep = ⊎_elim (λ (same : (phase_of phases' job ≡ phase_of phases job) × (choice_at places' job ≡ choice_at places job)). awake (sym same.0 ∙ asleep)) (λ (more : Contains row job × (phase_of phases job ≡ Asleep) × (phase_of phases' job ≡ Wanted) × (choice_at places' job ≡ Some (length phases + 2))). absurd (let h = more.2 in cc)) (w.each job)

-- the tables fit after a row was woken
pub Fits-wake : (t : Tables) (hand : ℕ) (row : List ℕ) (phases : List Phase) (places : List (Option ℕ)) → Fits t (length t.phases) hand → WakesRow row t.phases t.places phases places → Fits (changed t phases t.ends t.passed places t.ready t.out t.finished) (length phases) hand
Fits-wake t hand row phases places f w =
    let n = length t.phases in
    Fits-current (changed t phases t.ends t.passed places t.ready t.out t.finished) n (length phases) hand (sym w.count) (record {
      small = omega (arith, f.small, w.count);
      for_inputs = f.for_inputs ∙ sym w.count;
      for_ends = f.for_ends ∙ sym w.count;
      for_passed = f.for_passed ∙ sym w.count;
      for_places = w.count_places ∙ f.for_places ∙ sym w.count;
      in_range = λ a b needs. omega (arith, f.in_range a b needs, w.count);
      stands = λ other lt ne.
          let within : other < n = omega (arith, lt, w.count) in
          ⊎_elim
          (λ (same : (phase_of phases other ≡ phase_of t.phases other) × (choice_at places other ≡ choice_at t.places other)). Stands-frame t phases t.ends t.passed places t.ready t.out t.finished n n other w.count same.0 refl same.1 (λ input h. h) (λ input _ _ o. o) (f.stands other within ne))
          (λ (more : Contains row other × (phase_of t.phases other ≡ Asleep) × (phase_of phases other ≡ Wanted) × (choice_at places other ≡ Some (n + 2))). Woken more.2 (when_asleep t n other (f.stands other within ne) more.1).0 (more.3 ∙ ap (λ x. Some (x + 2)) (sym w.count)))
          (w.each other);
      lasts = λ a last e. EndsAt-keeps t.phases phases (λ j done. ⊎_elim (λ (same : (phase_of phases j ≡ phase_of t.phases j) × (choice_at places j ≡ choice_at t.places j)). same.0 ∙ done) (λ (more : Contains row j × (phase_of t.phases j ≡ Asleep) × (phase_of phases j ≡ Wanted) × (choice_at places j ≡ Some (n + 2))). absurd (let h = more.1 in cc)) (w.each j)) (λ j o waits. ⊎_elim (λ (same : (phase_of phases j ≡ phase_of t.phases j) × (choice_at places j ≡ choice_at t.places j)). same.0 ∙ waits) (λ (more : Contains row j × (phase_of t.phases j ≡ Asleep) × (phase_of phases j ≡ Wanted) × (choice_at places j ≡ Some (n + 2))). absurd (let h = more.1 in cc)) (w.each j)) a last (f.lasts a last e);
      passed = f.passed;
      ready = ap (λ x. count_by (is_on x) places) w.count ∙ w.ready ∙ f.ready;
      out = w.out ∙ f.out;
      finished = f.finished;
    })

-- a wake puts jobs on the pile of woken jobs alone
pub NoneOn-wake : (t : Tables) (row : List ℕ) (phases : List Phase) (places : List (Option ℕ)) (pile : ℕ) → WakesRow row t.phases t.places phases places → pile < length t.phases + 2 → NoneOn t pile → (other : ℕ) → choice_at places other ≢ Some pile
NoneOn-wake t row phases places pile w lt none other on = ⊎_elim (λ (same : (phase_of phases other ≡ phase_of t.phases other) × (choice_at places other ≡ choice_at t.places other)). none other (sym same.1 ∙ on)) (λ (more : Contains row other × (phase_of t.phases other ≡ Asleep) × (phase_of phases other ≡ Wanted) × (choice_at places other ≡ Some (length t.phases + 2))). absurd (omega (arith, lt, same_some (choice_at places other) (length t.phases + 2) pile more.3 on))) (w.each other)

-- while jobs that were woken are left to file
pub record Demanding (t₀ : Tables) (job : ℕ) (t : Tables) : Type 0 where
  pub fits : Fits t (length t.phases) (length t.phases)
  pub none_ends : NoneOn t (length t.phases + 1)
  pub inputs : t.inputs ≡ t₀.inputs
  pub count : length t.phases ≡ length t₀.phases
  pub each : (other : ℕ) → (phase_of t.phases other ≡ phase_of t₀.phases other) ⊎ (Reaches t.inputs job other × (phase_of t₀.phases other ≡ Asleep) × (phase_of t.phases other ≡ Wanted))
  pub root : phase_of t.phases job ≢ Asleep
  pub awake : (a input : ℕ) → phase_of t.phases a ≢ Asleep → Needs t.inputs a input → (phase_of t.phases input ≢ Asleep) ⊎ (choice_at t.places a ≡ Some (length t.phases + 2))
  pub reached : (a : ℕ) → choice_at t.places a ≡ Some (length t.phases + 2) → Reaches t.inputs job a

-- the job itself was woken
pub Demanding-start : (t : Tables) (job : ℕ) (phases : List Phase) (places : List (Option ℕ)) → IsCalm t → WakesRow (job ∷ []) t.phases t.places phases places → Demanding t job (changed t phases t.ends t.passed places t.ready t.out t.finished)
Demanding-start t job phases places calm w =
    let n = length t.phases in
    let only : (other : ℕ) → Contains (job ∷ []) other → job ≡ other = λ other has. (let e : has.0 ≡ 0 = omega (arith, has.1) in sym (ap (λ x. get_or (job ∷ []) x other) e) ∙ has.2) in
    record {
      fits = subst (λ x. Fits (changed t phases t.ends t.passed places t.ready t.out t.finished) (length phases) x) (sym w.count) (Fits-wake t n (job ∷ []) phases places calm.fits w);
      none_ends = NoneOn-wake t (job ∷ []) phases places (length phases + 1) w (omega (arith, w.count)) (NoneOn-count t (n + 1) (length phases + 1) (omega (arith, w.count)) calm.none_ends);
      inputs = refl;
      count = w.count;
      each = λ other. ⊎_elim (λ (same : (phase_of phases other ≡ phase_of t.phases other) × (choice_at places other ≡ choice_at t.places other)). inl same.0) (λ (more : Contains (job ∷ []) other × (phase_of t.phases other ≡ Asleep) × (phase_of phases other ≡ Wanted) × (choice_at places other ≡ Some (n + 2))). inr ((0, only other more.0), more.1, more.2)) (w.each other);
      root = w.woken job (0, omega arith, refl);
      awake = λ a input awake_a needs. ⊎_elim (λ (same : (phase_of phases a ≡ phase_of t.phases a) × (choice_at places a ≡ choice_at t.places a)). inl (stays_awake (job ∷ []) t.phases t.places phases places input w (calm.awake a input (λ e. awake_a (same.0 ∙ e)) needs))) (λ (more : Contains (job ∷ []) a × (phase_of t.phases a ≡ Asleep) × (phase_of phases a ≡ Wanted) × (choice_at places a ≡ Some (n + 2))). inr (more.3 ∙ ap (λ x. Some (x + 2)) (sym w.count))) (w.each a);
      reached = λ a on. ⊎_elim (λ (same : (phase_of phases a ≡ phase_of t.phases a) × (choice_at places a ≡ choice_at t.places a)). absurd (calm.none_woken a (sym same.1 ∙ on ∙ ap (λ x. Some (x + 2)) w.count))) (λ (more : Contains (job ∷ []) a × (phase_of t.phases a ≡ Asleep) × (phase_of phases a ≡ Wanted) × (choice_at places a ≡ Some (n + 2))). (0, only a more.0)) (w.each a);
    }

-- what is said of a woken job that was taken from its pile
pub record IsTakenUp (t : Tables) (job : ℕ) (places : List (Option ℕ)) : Type 0 where
  pub fits : Fits (changed t t.phases t.ends t.passed places t.ready t.out t.finished) (length t.phases) job
  pub within : job < length t.phases
  pub wanted : phase_of t.phases job ≡ Wanted
  pub is_open : choice_at t.ends job ≡ None
  pub free : choice_at places job ≡ None
  pub places_is : places ≡ set t.places job None
  pub when_asleep : (other : ℕ) → phase_of t.phases other ≡ Asleep → choice_at places other ≡ None

pub taken_up : (t₀ t : Tables) (root job : ℕ) (places : List (Option ℕ)) → Demanding t₀ root t → choice_at t.places job ≡ Some (length t.phases + 2) → places ≡ set t.places job None → IsTakenUp t job places
taken_up t₀ t root job places d on is =
    let n = length t.phases in
    let lt : job < n = omega (arith, place_within t.places job (n + 2) on, d.fits.for_places) in
    let stands = on_woken t n job (d.fits.stands job lt (λ e. absurd (omega (arith, lt, e)))) on in
    let free : choice_at places job ≡ None = ap (λ xs. choice_at xs job) is ∙ get_or-set_same t.places job None None (omega (arith, lt, d.fits.for_places)) in
    record {
      fits = Fits-pop t n job (n + 2) places t.ready d.fits on is (omega (arith, ap one_if (ne_eqb (n + 2) n (λ e. absurd (omega arith)))));
      within = lt;
      wanted = stands.0;
      is_open = stands.1;
      free = free;
      places_is = is;
      when_asleep = λ other asleep.
          ⊎_elim
          (λ (e : job ≡ other). subst (λ x. choice_at places x ≡ None) e free)
          (λ (ne : job ≡ other → ⊥).
          let same = ap (λ xs. choice_at xs other) is ∙ get_or-set_other t.places job other None None (λ e. ne (sym e)) in
          ⊎_elim (λ (lt : other < n). same ∙ (when_asleep t n other (d.fits.stands other lt (λ e. absurd (omega (arith, lt, e)))) asleep).1) (λ (past : n ≤ other). same ∙ get_or_past t.places other None (omega (arith, past, d.fits.for_places))) (cases_lt other n))
          (cases_eq job other);
    }

-- what is left to do: jobs to wake, and woken jobs to file
pub left_of : Tables → ℕ
left_of t = count_by is_asleep t.phases + count_by (is_on (length t.phases + 2)) t.places

-- a woken job is filed, after its inputs were woken
pub record IsStep (t₀ : Tables) (root : ℕ) (t t' : Tables) : Type 0 where
  pub next : Demanding t₀ root t'
  pub less : count_by is_asleep t'.phases + count_by (is_on (length t'.phases + 2)) t'.places < count_by is_asleep t.phases + count_by (is_on (length t.phases + 2)) t.places

pub Demanding-step : (t₀ t t' : Tables) (root job : ℕ) (places : List (Option ℕ)) (phases' : List Phase) (places' : List (Option ℕ)) → Demanding t₀ root t → choice_at t.places job ≡ Some (length t.phases + 2) → IsTakenUp t job places → WakesRow (inputs_of t.inputs job) t.phases places phases' places' → IsFiled (changed t phases' t.ends t.passed places' t.ready t.out t.finished) job t' → IsStep t₀ root t t'
Demanding-step t₀ t t' root job places phases' places' d on q w filed =
    let n = length t.phases in
    let row = inputs_of t.inputs job in
    let t1 = changed t t.phases t.ends t.passed places t.ready t.out t.finished in
    let t2 = changed t phases' t.ends t.passed places' t.ready t.out t.finished in
    let fits2 : Fits t2 (length phases') job = Fits-wake t1 job row phases' places' q.fits w in
    let at_job : (phase_of phases' job ≡ Wanted) × (choice_at places' job ≡ None) = ⊎_elim (λ (same : (phase_of phases' job ≡ phase_of t.phases job) × (choice_at places' job ≡ choice_at places job)). (same.0 ∙ q.wanted, same.1 ∙ q.free)) (λ (more : Contains row job × (phase_of t.phases job ≡ Asleep) × (phase_of phases' job ≡ Wanted) × (choice_at places' job ≡ Some (n + 2))). absurd (let h = more.1 in let k = q.wanted in cc)) (w.each job) in
    let lt2 : job < length phases' = omega (arith, q.within, w.count) in
    let fits3 : Fits t' (length phases') (length t'.phases) = Fits-file t2 t' (length phases') job fits2 lt2 at_job.0 q.is_open at_job.1 filed in
    let phases_is : t'.phases ≡ phases' = ap (λ x. x.phases) filed.is in
    let inputs_is : t'.inputs ≡ t.inputs = ap (λ x. x.inputs) filed.is in
    let places_is : t'.places ≡ set places' job (Some filed.pile) = ap (λ x. x.places) filed.is in
    let count : length t'.phases ≡ n = ap length phases_is ∙ w.count in
    let low : filed.pile < n + 1 = ⊎_elim (λ (a : (filed.pile ≡ length phases') × (filed.from ≡ length row)). omega (arith, a.0, w.count)) (λ (a : Needs t.inputs job filed.pile × (choice_at t.ends filed.pile ≡ None)). omega (arith, fits2.in_range job filed.pile a.0, w.count)) filed.where_to in
    let other_place : (a : ℕ) → (job ≡ a → ⊥) → choice_at t'.places a ≡ choice_at places' a = λ a ne. ap (λ xs. choice_at xs a) places_is ∙ get_or-set_other places' job a (Some filed.pile) None (λ e. ne (sym e)) in
    let job_place : choice_at t'.places job ≡ Some filed.pile = ap (λ xs. choice_at xs job) places_is ∙ get_or-set_same places' job (Some filed.pile) None (omega (arith, lt2, fits2.for_places)) in
    let first_place : (a : ℕ) → (job ≡ a → ⊥) → choice_at places a ≡ choice_at t.places a = λ a ne. ap (λ xs. choice_at xs a) q.places_is ∙ get_or-set_other t.places job a None None (λ e. ne (sym e)) in
    let reached_job : Reaches t.inputs root job = d.reached job on in
    let none1 : NoneOn t1 (n + 1) = subst (λ (xs : List (Option ℕ)). (x : ℕ) → choice_at xs x ≢ Some (n + 1)) (sym q.places_is) (NoneOn-set t.places job None (n + 1) d.none_ends (λ e. absurd (cc))) in
    let none2 : NoneOn t2 (n + 1) = NoneOn-wake t1 row phases' places' (n + 1) w (omega arith) none1 in
    let none3 : NoneOn t' (n + 1) = NoneOn-file t2 t' job (n + 1) filed (λ input needs. fits2.in_range job input needs) (omega (arith, w.count)) none2 in
    let was_asleep : (a : ℕ) → phase_of t.phases a ≡ Asleep → phase_of t₀.phases a ≡ Asleep = λ a e. ⊎_elim (λ (same : phase_of t.phases a ≡ phase_of t₀.phases a). sym same ∙ e) (λ (more : Reaches t.inputs root a × (phase_of t₀.phases a ≡ Asleep) × (phase_of t.phases a ≡ Wanted)). more.1) (d.each a) in
    let phase_is : (a : ℕ) → phase_of t'.phases a ≡ phase_of phases' a = λ a. ap (λ xs. phase_of xs a) phases_is in
    let awake' : (a : ℕ) → phase_of t.phases a ≢ Asleep → phase_of t'.phases a ≢ Asleep = λ a h e. stays_awake row t.phases places phases' places' a w h (sym (phase_is a) ∙ e) in
    let reaches' : (a : ℕ) → Reaches t.inputs root a → Reaches t'.inputs root a = λ a h. subst (λ x. Reaches x root a) (sym inputs_is) h in
    let next : Demanding t₀ root t' = record {
      fits = Fits-current t' (length phases') (length t'.phases) (length t'.phases) (ap length (sym phases_is)) fits3;
      none_ends = NoneOn-count t' (n + 1) (length t'.phases + 1) (omega (arith, count)) none3;
      inputs = inputs_is ∙ d.inputs;
      count = count ∙ d.count;
      each = λ a.
          ⊎_elim
          (λ (same : (phase_of phases' a ≡ phase_of t.phases a) × (choice_at places' a ≡ choice_at places a)).
          ⊎_elim (λ (before : phase_of t.phases a ≡ phase_of t₀.phases a). inl (phase_is a ∙ same.0 ∙ before)) (λ (more : Reaches t.inputs root a × (phase_of t₀.phases a ≡ Asleep) × (phase_of t.phases a ≡ Wanted)). inr (reaches' a more.0, more.1, phase_is a ∙ same.0 ∙ more.2)) (d.each a))
          (λ (more : Contains row a × (phase_of t.phases a ≡ Asleep) × (phase_of phases' a ≡ Wanted) × (choice_at places' a ≡ Some (n + 2))). inr (reaches' a (Reaches-more t.inputs root job a reached_job more.0), was_asleep a more.1, phase_is a ∙ more.2))
          (w.each a);
      root = awake' root d.root;
      awake = λ a input awake_a needs'.
          let needs : Needs t.inputs a input = subst (λ x. Needs x a input) inputs_is needs' in
          ⊎_elim
          (λ (e : job ≡ a).
          let needs_job : Needs t.inputs job input = subst (λ x. Needs t.inputs x input) (sym e) needs in
          inl (λ asleep. w.woken input needs_job (sym (phase_is input) ∙ asleep)))
          (λ (ne : job ≡ a → ⊥).
          ⊎_elim
          (λ (same : (phase_of phases' a ≡ phase_of t.phases a) × (choice_at places' a ≡ choice_at places a)).
          ⊎_elim
          (λ (h : phase_of t.phases input ≢ Asleep). inl (awake' input h))
          (λ (h : choice_at t.places a ≡ Some (n + 2)). inr (other_place a ne ∙ same.1 ∙ first_place a ne ∙ h ∙ ap (λ x. Some (x + 2)) (sym count)))
          (d.awake a input (λ asleep. awake_a (phase_is a ∙ same.0 ∙ asleep)) needs))
          (λ (more : Contains row a × (phase_of t.phases a ≡ Asleep) × (phase_of phases' a ≡ Wanted) × (choice_at places' a ≡ Some (n + 2))). inr (other_place a ne ∙ more.3 ∙ ap (λ x. Some (x + 2)) (sym count)))
          (w.each a))
          (cases_eq job a);
      reached = λ a on'.
          ⊎_elim
          (λ (e : job ≡ a).
          let here : choice_at t'.places job ≡ Some (length t'.phases + 2) = subst (λ x. choice_at t'.places x ≡ Some (length t'.phases + 2)) (sym e) on' in
          absurd (let f : filed.pile ≡ length t'.phases + 2 = same_some (choice_at t'.places job) filed.pile (length t'.phases + 2) job_place here in omega (arith, low, f, count)))
          (λ (ne : job ≡ a → ⊥).
          ⊎_elim
          (λ (same : (phase_of phases' a ≡ phase_of t.phases a) × (choice_at places' a ≡ choice_at places a)). reaches' a (d.reached a (sym (first_place a ne) ∙ sym same.1 ∙ sym (other_place a ne) ∙ on' ∙ ap (λ x. Some (x + 2)) count)))
          (λ (more : Contains row a × (phase_of t.phases a ≡ Asleep) × (phase_of phases' a ≡ Wanted) × (choice_at places' a ≡ Some (n + 2))). reaches' a (Reaches-more t.inputs root job a reached_job more.0))
          (w.each a))
          (cases_eq job a);
    } in
    let popped : count_by (is_on (n + 2)) places + 1 ≡ count_by (is_on (n + 2)) t.places = omega (arith, ap (λ xs. count_by (is_on (n + 2)) xs) q.places_is, count_by-set (is_on (n + 2)) t.places job None None (omega (arith, q.within, d.fits.for_places)), ap (λ x. one_if (is_on (n + 2) x)) on, ap one_if (is_on-same (n + 2) (n + 2) refl)) in
    let filed_count : count_by (is_on (n + 2)) (set places' job (Some filed.pile)) ≡ count_by (is_on (n + 2)) places' = omega (arith, count_by-set (is_on (n + 2)) places' job (Some filed.pile) None (omega (arith, lt2, fits2.for_places)), ap (λ x. one_if (is_on (n + 2) x)) at_job.1, ap one_if (is_on-other (n + 2) filed.pile (λ e. absurd (omega (arith, low, e))))) in
    record {
      next = next;
      less = omega (arith, popped, filed_count, w.left, ap (λ xs. count_by is_asleep xs) phases_is, ap (λ x. count_by (is_on (x + 2)) t'.places) count, ap (λ xs. count_by (is_on (n + 2)) xs) places_is);
    }

-- where none is left to file, all that the walks lead to is awake
pub Demanding-end : (t₀ t : Tables) (job : ℕ) → Demanding t₀ job t → NoneOn t (length t.phases + 2) → IsCalm t × Wakes t₀.inputs job t₀.phases t.phases
Demanding-end t₀ t job d none =
    let awake : (a input : ℕ) → phase_of t.phases a ≢ Asleep → Needs t.inputs a input → phase_of t.phases input ≢ Asleep = λ a input awake_a needs. ⊎_elim (λ (h : phase_of t.phases input ≢ Asleep). h) (λ (on : choice_at t.places a ≡ Some (length t.phases + 2)). absurd (none a on)) (d.awake a input awake_a needs) in (
      record { fits = d.fits; none_ends = d.none_ends; none_woken = none; awake = awake },
      record {
        count = d.count;
        each = λ other. ⊎_elim (λ (same : phase_of t.phases other ≡ phase_of t₀.phases other). inl same) (λ (more : Reaches t.inputs job other × (phase_of t₀.phases other ≡ Asleep) × (phase_of t.phases other ≡ Wanted)). inr (subst (λ x. Reaches x job other) d.inputs more.0, more.1, more.2)) (d.each other);
        woken = λ other reaches. along t awake reaches.0 job other d.root (subst (λ x. Walk x reaches.0 job other) (sym d.inputs) reaches.1);
      },
    )
  where
    along : (t : Tables) → ((a input : ℕ) → phase_of t.phases a ≢ Asleep → Needs t.inputs a input → phase_of t.phases input ≢ Asleep) → (steps a other : ℕ) → phase_of t.phases a ≢ Asleep → Walk t.inputs steps a other → phase_of t.phases other ≢ Asleep
    along t awake zero a other h e = subst (λ x. phase_of t.phases x ≢ Asleep) e h
    along t awake (suc steps) a other h w = along t awake steps w.0 other (awake a w.0 h w.1) w.2

-- a job that isn't asleep may change between two such phases before a demand as after it
pub Wakes-set : (inputs : List (List ℕ)) (root job : ℕ) (phase : Phase) (before after : List Phase) → phase ≢ Asleep → phase_of before job ≢ Asleep → Wakes inputs root before after → Wakes inputs root (set before job phase) (set after job phase)
Wakes-set inputs root job phase before after awake was w =
    let lt : job < length before = is_job before job was in
    let same_at : phase_of (set after job phase) job ≡ phase_of (set before job phase) job = get_or-set_same after job phase Asleep (omega (arith, lt, w.count)) ∙ sym (get_or-set_same before job phase Asleep lt) in
    record {
      count = length-set after job phase ∙ w.count ∙ sym (length-set before job phase);
      each = λ other.
          ⊎_elim
          (λ (e : job ≡ other). inl (subst (λ x. phase_of (set after job phase) x ≡ phase_of (set before job phase) x) e same_at))
          (λ (ne : job ≡ other → ⊥).
          let a = get_or-set_other after job other phase Asleep (λ e. ne (sym e)) in
          let b = get_or-set_other before job other phase Asleep (λ e. ne (sym e)) in
          ⊎_elim (λ (same : phase_of after other ≡ phase_of before other). inl (a ∙ same ∙ sym b)) (λ (more : Reaches inputs root other × (phase_of before other ≡ Asleep) × (phase_of after other ≡ Wanted)). inr (more.0, b ∙ more.1, a ∙ more.2)) (w.each other))
          (cases_eq job other);
      woken = λ other reaches asleep.
          ⊎_elim
          (λ (e : job ≡ other). awake (sym (get_or-set_same after job phase Asleep (omega (arith, lt, w.count))) ∙ ap (λ x. phase_of (set after job phase) x) e ∙ asleep))
          (λ (ne : job ≡ other → ⊥). w.woken other reaches (sym (get_or-set_other after job other phase Asleep (λ e. ne (sym e))) ∙ asleep))
          (cases_eq job other);
    }

-- jobs that are asleep are on no pile
pub free_when_asleep : (t : Tables) → IsCalm t → (other : ℕ) → phase_of t.phases other ≡ Asleep → choice_at t.places other ≡ None
free_when_asleep t calm other asleep =
    let n = length t.phases in
    ⊎_elim (λ (lt : other < n). (when_asleep t n other (calm.fits.stands other lt (λ e. absurd (omega (arith, lt, e)))) asleep).1) (λ (past : n ≤ other). get_or_past t.places other None (omega (arith, past, calm.fits.for_places))) (cases_lt other n)

-- a demand leaves a job that is handed out as it is
pub still_out : (inputs : List (List ℕ)) (root : ℕ) (before after : List Phase) (job : ℕ) → Wakes inputs root before after → phase_of before job ≡ Out → phase_of after job ≡ Out
still_out inputs root before after job w out = ⊎_elim (λ (same : phase_of after job ≡ phase_of before job). same ∙ out) (λ (more : Reaches inputs root job × (phase_of before job ≡ Asleep) × (phase_of after job ≡ Wanted)). absurd (let h = more.1 in cc)) (w.each job)

pub some_end : (o : Option ℕ) → is_some o ≡ true → (last : ℕ) × (o ≡ Some last)
some_end None h = absurd (cc)
some_end (Some last) h = (last, refl)

pub no_end : (o : Option ℕ) → is_some o ≡ false → o ≡ None
no_end None h = refl
no_end (Some last) h = absurd (cc)
