use Rattle.std.proofs.Common.{◌≡◌, ◌≢◌, ◌+◌, ◌^◌, ◌<◌, ℕ, Option, Some, None, List, [], ◌∷◌, length, set, replicate, refl, sym, ◌∙◌, subst, inl, inr, ⊎_elim, arith}
use Rattle.std.proofs.lemmas.Bool.{cases_eq, cases_lt}
use Rattle.std.proofs.lemmas.List.{get_or_past, get_or-replicate, get_or-set_same, get_or-set_other, length-replicate, length-set}
use Rattle.dg_jobs.specs.Piles.{choice_at, IsIn, IsPile, HasPile, AreStacked}

-- something stands within the list
pub some_within : (choices : List (Option ℕ)) (index value : ℕ) → choice_at choices index ≡ Some value → index < length choices
some_within choices index value e =
    ⊎_elim
    (λ (lt : index < length choices). lt)
    (λ past. let none : choice_at choices index ≡ None = get_or_past choices index None past in cc)
    (cases_lt index (length choices))

-- a job in a pile is said to be on it
IsPile-member : (place below : List (Option ℕ)) (pile : ℕ) (top : Option ℕ) (jobs : List ℕ) (job : ℕ) → IsPile place below pile top jobs → IsIn jobs job → choice_at place job ≡ Some pile
IsPile-member place below pile top [] job is_pile among = absurd among
IsPile-member place below pile top (first ∷ jobs) job is_pile among =
    ⊎_elim
    (λ (e : first ≡ job). let P : ℕ → Type 0 = λ x. choice_at place x ≡ Some pile in subst P e is_pile.1)
    (λ rest. IsPile-member place below pile (choice_at below first) jobs job is_pile.3 rest)
    among

-- what is said of a job that isn't in the pile may change
IsPile-frame : (place below : List (Option ℕ)) (pile : ℕ) (top : Option ℕ) (jobs : List ℕ) (job : ℕ) (p b : Option ℕ) → (IsIn jobs job → ⊥) → IsPile place below pile top jobs → IsPile (set place job p) (set below job b) pile top jobs
IsPile-frame place below pile top [] job p b out is_pile = is_pile
IsPile-frame place below pile top (first ∷ jobs) job p b out is_pile =
    let other : first ≡ job → ⊥ = λ e. out (inl e) in
    let P : Option ℕ → Type 0 = λ t. IsPile (set place job p) (set below job b) pile t jobs in (
      is_pile.0,
      get_or-set_other place job first p None other ∙ is_pile.1,
      is_pile.2,
      subst P (sym (get_or-set_other below job first b None other)) (IsPile-frame place below pile (choice_at below first) jobs job p b (λ among. out (inr among)) is_pile.3),
    )

HasPile-frame : (place below : List (Option ℕ)) (pile : ℕ) (top : Option ℕ) (job : ℕ) (p b : Option ℕ) → choice_at place job ≢ Some pile → p ≢ Some pile → job < length place → HasPile place below pile top → HasPile (set place job p) (set below job b) pile top
HasPile-frame place below pile top job p b off stays_off lt has = record {
  jobs = has.jobs;
  is_pile = IsPile-frame place below pile top has.jobs job p b (λ among. off (IsPile-member place below pile top has.jobs job has.is_pile among)) has.is_pile;
  all = λ other is.
      ⊎_elim
      (λ (e : other ≡ job).
      let Q : ℕ → Type 0 = λ x. choice_at (set place job p) x ≡ Some pile in
      absurd (stays_off (sym (get_or-set_same place job p None lt) ∙ subst Q e is)))
      (λ ne. has.all other (sym (get_or-set_other place job other p None ne) ∙ is))
      (cases_eq other job);
}

HasPile-push : (place below : List (Option ℕ)) (pile : ℕ) (top : Option ℕ) (job : ℕ) → choice_at place job ≡ None → job < length place → length below ≡ length place → HasPile place below pile top → HasPile (set place job (Some pile)) (set below job top) pile (Some job)
HasPile-push place below pile top job off lt same has =
    let out : IsIn has.jobs job → ⊥ = λ among. let on = IsPile-member place below pile top has.jobs job has.is_pile among in cc in
    let P : Option ℕ → Type 0 = λ t. IsPile (set place job (Some pile)) (set below job top) pile t has.jobs in
    record {
      jobs = job ∷ has.jobs;
      is_pile = (
        refl,
        get_or-set_same place job (Some pile) None lt,
        out,
        subst P (sym (get_or-set_same below job top None (omega (arith, same, lt)))) (IsPile-frame place below pile top has.jobs job (Some pile) top out has.is_pile),
      );
      all = λ other is.
          ⊎_elim
          (λ (e : job ≡ other). inl e)
          (λ ne. inr (has.all other (sym (get_or-set_other place job other (Some pile) None (λ e. ne (sym e))) ∙ is)))
          (cases_eq job other);
    }

pub AreStacked-push : (place below top : List (Option ℕ)) (pile job : ℕ) → AreStacked place below top → pile < length place + 3 → job < length place → choice_at place job ≡ None → AreStacked (set place job (Some pile)) (set below job (choice_at top pile)) (set top pile (Some job))
AreStacked-push place below top pile job s in_tops lt off = record {
  small = omega (arith, length-set place job (Some pile), s.small);
  belows = length-set below job (choice_at top pile) ∙ s.belows ∙ sym (length-set place job (Some pile));
  tops = omega (arith, length-set top pile (Some job), length-set place job (Some pile), s.tops);
  each = λ q.
      let Q : ℕ → Option ℕ → Type 0 = λ x t. HasPile (set place job (Some pile)) (set below job (choice_at top pile)) x t in
      ⊎_elim
      (λ (e : pile ≡ q).
      let R : ℕ → Type 0 = λ x. Q x (choice_at (set top pile (Some job)) x) in
      subst R e (subst (Q pile) (sym (get_or-set_same top pile (Some job) None (omega (arith, s.tops, in_tops)))) (HasPile-push place below pile (choice_at top pile) job off lt s.belows (s.each pile))))
      (λ (ne : pile ≡ q → ⊥).
      let off_q : choice_at place job ≢ Some q = λ e. cc in
      let off_p : Some pile ≢ Some q = λ e. ne (cc) in
      subst (Q q) (sym (get_or-set_other top pile q (Some job) None (λ e. ne (sym e)))) (HasPile-frame place below q (choice_at top q) job (Some pile) (choice_at top pile) off_q off_p lt (s.each q)))
      (cases_eq pile q);
}

-- the top of a pile is on it
pub top_is_on : (place below top : List (Option ℕ)) (pile job : ℕ) → AreStacked place below top → choice_at top pile ≡ Some job → choice_at place job ≡ Some pile
top_is_on place below top pile job s is = on (choice_at top pile) is (s.each pile).jobs (s.each pile).is_pile
  where
    on : (t : Option ℕ) → t ≡ Some job → (jobs : List ℕ) → IsPile place below pile t jobs → choice_at place job ≡ Some pile
    on t is [] is_pile = cc
    on t is (first ∷ jobs) is_pile =
        let e : first ≡ job = cc in
        let P : ℕ → Type 0 = λ x. choice_at place x ≡ Some pile in
        subst P e is_pile.1

-- nothing is on a pile that has no top
pub none_is_on : (place below top : List (Option ℕ)) (pile : ℕ) → AreStacked place below top → choice_at top pile ≡ None → (job : ℕ) → choice_at place job ≢ Some pile
none_is_on place below top pile s is = λ job on. absurd (off (choice_at top pile) is (s.each pile).jobs (s.each pile).is_pile job ((s.each pile).all job on))
  where
    off : (t : Option ℕ) → t ≡ None → (jobs : List ℕ) → IsPile place below pile t jobs → (job : ℕ) → IsIn jobs job → ⊥
    off t is [] is_pile job among = among
    off t is (first ∷ jobs) is_pile job among = let e = is_pile.0 in cc

HasPile-pop : (place below : List (Option ℕ)) (pile : ℕ) (top : Option ℕ) (job : ℕ) (jobs : List ℕ) → top ≡ Some job → job < length place → IsPile place below pile top jobs → ((other : ℕ) → choice_at place other ≡ Some pile → IsIn jobs other) → HasPile (set place job None) (set below job None) pile (choice_at below job)
HasPile-pop place below pile top job [] is lt is_pile all = absurd (let e = is_pile in cc)
HasPile-pop place below pile top job (first ∷ jobs) is lt is_pile all =
    let same : first ≡ job = let e = is_pile.0 in cc in
    let P : ℕ → Type 0 = λ x. (IsIn jobs x → ⊥) × IsPile place below pile (choice_at below x) jobs in
    let at_job : P job = subst P same (is_pile.2, is_pile.3) in
    record {
      jobs = jobs;
      is_pile = IsPile-frame place below pile (choice_at below job) jobs job None None at_job.0 at_job.1;
      all = λ other on.
          ⊎_elim
          (λ (e : job ≡ other).
          let Q : ℕ → Type 0 = λ x. choice_at (set place job None) x ≡ Some pile in
          let here : choice_at (set place job None) job ≡ Some pile = subst Q (sym e) on in
          let none : choice_at (set place job None) job ≡ None = get_or-set_same place job None None lt in
          absurd (cc))
          (λ (ne : job ≡ other → ⊥).
          ⊎_elim
          (λ (e : first ≡ other). absurd (ne (sym same ∙ e)))
          (λ (among : IsIn jobs other). among)
          (all other (sym (get_or-set_other place job other None None (λ e. ne (sym e))) ∙ on)))
          (cases_eq job other);
    }

pub AreStacked-pop : (place below top : List (Option ℕ)) (pile job : ℕ) → AreStacked place below top → choice_at top pile ≡ Some job → AreStacked (set place job None) (set below job None) (set top pile (choice_at below job))
AreStacked-pop place below top pile job s is =
    let on = top_is_on place below top pile job s is in
    let lt = some_within place job pile on in
    record {
      small = omega (arith, length-set place job None, s.small);
      belows = length-set below job None ∙ s.belows ∙ sym (length-set place job None);
      tops = omega (arith, length-set top pile (choice_at below job), length-set place job None, s.tops);
      each = λ q.
          let Q : ℕ → Option ℕ → Type 0 = λ x t. HasPile (set place job None) (set below job None) x t in
          ⊎_elim
          (λ (e : pile ≡ q).
          let R : ℕ → Type 0 = λ x. Q x (choice_at (set top pile (choice_at below job)) x) in
          subst R e (subst (Q pile) (sym (get_or-set_same top pile (choice_at below job) None (some_within top pile job is))) (HasPile-pop place below pile (choice_at top pile) job (s.each pile).jobs is lt (s.each pile).is_pile (s.each pile).all)))
          (λ (ne : pile ≡ q → ⊥).
          let off_q : choice_at place job ≢ Some q = λ e. ne (cc) in
          let off_none : None ≢ Some q = λ e. cc in
          subst (Q q) (sym (get_or-set_other top pile q (choice_at below job) None (λ e. ne (sym e)))) (HasPile-frame place below q (choice_at top q) job None None off_q off_none lt (s.each q)))
          (cases_eq pile q);
    }

-- at first there is nothing on any pile
pub AreStacked-new : (count : ℕ) → count < 2 ^ 32 → AreStacked (replicate count None) (replicate count None) (replicate (count + 3) None)
AreStacked-new count small = record {
  small = omega (arith, length-replicate {A = Option ℕ} count None, small);
  belows = refl;
  tops = omega (arith, length-replicate {A = Option ℕ} count None, length-replicate {A = Option ℕ} (count + 3) None);
  each = λ pile. record {
    jobs = [];
    is_pile = nothing (count + 3) pile;
    all = λ job is. let none = nothing count job in cc;
  };
}
  where
    nothing : (n i : ℕ) → choice_at (replicate n None) i ≡ None
    nothing n i = ⊎_elim (λ (lt : i < n). get_or-replicate n i None None lt) (λ past. get_or_past (replicate n None) i None (omega (arith, length-replicate {A = Option ℕ} n None, past))) (cases_lt i n)
