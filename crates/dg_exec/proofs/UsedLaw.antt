-- Each cell of a document is in the set that its jobs use.
use Rattle.std.proofs.Common.{◌≡◌, ◌⊎◌, inl, inr, ℕ, zero, suc, ◌≤◌, Bool, true, false, cond, List, [], ◌∷◌, ◌++◌, flat_map, filter_map, slice_get, Contains, Some, refl, sym, ap, subst, arith}
use Rattle.std.specs.List.{enumerate_from}
use Rattle.std.proofs.lemmas.List.Elements.{Contains-append_left}
use Rattle.std.proofs.lemmas.Option.{none-some, same_Some, slice_get_within}
use Rattle.dg_decl.specs.declared.document.Doc.{Doc}
use Rattle.dg_decl.specs.Diagnostics.{IsAccepted}
use Rattle.dg_decl.proofs.MemberLemmas.{none_in, in_front, first_or_rest, in_filter_map, in_flat_map, out_map, out_filter_map, out_flat_map}
use Rattle.dg_decl.proofs.NodeWalks.{in_rest}
use Rattle.dg_jobs.specs.Faithful.{IsUsed}
use Rattle.dg_slots.specs.declared.session.Ask.{Ask}
use Rattle.dg_slots.specs.Sessions.{asks_of}
use Rattle.dg_eval.specs.Runs as runs
use Rattle.dg_eval.specs.Runs.{Asked, cell, lazy}
use Rattle.dg_eval.specs.Asks.{CellName, run_of_ask, asked_by, used, used_by_ask, as_cell, enough_used, numbered_asks, cells_of, cells}
use Rattle.dg_eval.proofs.BodyResults.{each_in}
use Rattle.dg_exec.specs.Jobs.{is_producer_at}
use Rattle.dg_exec.specs.Meanings.{Job, ask_job, cell_job, job_at, asked_by_job, is_producer_asked, used_without, scoped_used, meanings_of}
use Rattle.dg_exec.proofs.FitLemmas.{named, out_each_once, out_numbered, job_place, job_is_cell, job_is_ask}
use Rattle.dg_exec.proofs.FitNeeds.{uses_are, inputs_used, end_used}
use Rattle.dg_exec.proofs.FitRecord.{CellsAreUsed}
use Rattle.dg_exec.proofs.UsedSlots.{Used, AskFits, JobUsed, ask_is_used, cell_is_used}
use Rattle.dg_exec.proofs.UsedAsks.{contents_ask, ask_asks}

-- ---- what is asked for without passing a producer

-- the first is asked for, or what it asks for comes to it
abbrev Behind : Doc → ℕ → Asked → Asked → Type 0
Behind doc d x z =
    (x ≡ z) ⊎ ((y : Asked) × Contains (asked_by doc x) y × Contains (used_without doc d y) z)

out_without : (doc : Doc) (d : ℕ) (x z : Asked) → Contains (used_without doc (suc d) x) z
    → (is_producer_asked doc x ≡ false) × Behind doc d x z
unfolding used_without
out_without doc d x z h = by_test (is_producer_asked doc x) h
  where
    by_test : (b : Bool)
        → Contains (cond b [] (x ∷ flat_map (used_without doc d) (asked_by doc x))) z
        → (b ≡ false) × Behind doc d x z
    by_test true h = absurd (none_in z h)
    by_test false h = (
      refl,
      elim (first_or_rest z x (flat_map (used_without doc d) (asked_by doc x)) h) [
        | inl e ↦ inl e
        | inr r ↦ inr (out_flat_map (used_without doc d) (asked_by doc x) z r)
      ],
    )

in_without : (doc : Doc) (d : ℕ) (x z : Asked) → is_producer_asked doc x ≡ false
    → Behind doc d x z → Contains (used_without doc (suc d) x) z
unfolding used_without
in_without doc d x z e h =
    let P : List Asked → Type 0 = λ ys. Contains ys z in
    subst P (sym (ap (λ (b : Bool). cond b [] (x ∷ flat_map (used_without doc d) (asked_by doc x)))
    e)) (elim h [
      | inl same ↦ subst (Contains (x ∷ flat_map (used_without doc d) (asked_by doc x))) same
          (in_front x (flat_map (used_without doc d) (asked_by doc x)))
      | inr r ↦ in_rest z x (flat_map (used_without doc d) (asked_by doc x)) (in_flat_map
          (used_without doc d) (asked_by doc x) r.0 z r.1 r.2)
    ])

none_without : (doc : Doc) (x z : Asked) → Contains (used_without doc 0 x) z → ⊥
unfolding used_without
none_without doc x z h = none_in z h

-- and through more
without_more : (doc : Doc) (d e : ℕ) (x z : Asked) → d ≤ e → Contains (used_without doc d x) z
    → Contains (used_without doc e x) z
without_more doc zero e x z le h = absurd (none_without doc x z h)
without_more doc (suc d) zero x z le h = absurd (omega (arith, le))
without_more doc (suc d) (suc e) x z le h =
    let o = out_without doc d x z h in
    in_without doc e x z o.0 (elim o.1 [
      | inl same ↦ inl same
      | inr r ↦ inr (r.0, r.1, without_more doc d e r.0 z (omega (arith, le)) r.2)
    ])

-- ---- from job to job

-- what is asked for behind this without passing a producer is so behind the job
abbrev Covers : Doc → Job → ℕ → Asked → Type 0
Covers doc j d x =
    (z : Asked) → Contains (used_without doc d x) z
    → Contains (flat_map (used_without doc enough_used) (asked_by_job doc j)) z

scoped_is_used : (doc : Doc) (d job i k : ℕ) (j : Job) → job_at doc job ≡ Some j
    → JobUsed doc job → Covers doc j (suc d) (cell i k) → is_producer_at doc k ≡ false
    → IsUsed (meanings_of doc) (named i k)
scoped_is_used doc d job i k j at used_job covers plain =
    let there = covers (cell i k) (in_without doc d (cell i k) (cell i k) plain (inl refl)) in
    let scoped : Contains (scoped_used doc j) (named i k) =
    in_filter_map as_cell (flat_map (used_without doc enough_used) (asked_by_job doc j)) (cell i k)
    (named i k) there refl in
    let P : List CellName → Type 0 = λ cs. Contains cs (named i k) in
    used_job (named i k) (subst P (sym (uses_are doc job j at)) (Contains-append_left
    (scoped_used doc j) (inputs_used doc job ++ end_used doc j) (named i k) scoped))

here_is_used : (doc : Doc) (d job : ℕ) (j : Job) (x : Asked) (c : CellName)
    → job_at doc job ≡ Some j → JobUsed doc job → Covers doc j (suc d) x → AskFits doc x
    → as_cell x ≡ Some c → IsUsed (meanings_of doc) c
here_is_used doc d job j (lazy i k p) c at used_job covers fits e = absurd (none-some c e)
here_is_used doc d job j (cell i k) c at used_job covers fits e =
    let P : CellName → Type 0 = IsUsed (meanings_of doc) in
    subst P (same_Some (named i k) c e) (by_test (is_producer_at doc k) refl)
  where
    by_test : (b : Bool) → is_producer_at doc k ≡ b → IsUsed (meanings_of doc) (named i k)
    by_test true is = (fits.used is).0
    by_test false is = scoped_is_used doc d job i k j at used_job covers is

-- the job behind which what is asked for next is covered
record NextJob (doc : Doc) (d : ℕ) (y : Asked) : Type 0 where
  job : ℕ
  which : Job
  is_job : job_at doc job ≡ Some which
  used : JobUsed doc job
  covers : Covers doc which d y

same_job : (doc : Doc) (d job : ℕ) (j : Job) (x y : Asked) → job_at doc job ≡ Some j
    → JobUsed doc job → Covers doc j (suc d) x → is_producer_asked doc x ≡ false
    → Contains (asked_by doc x) y → NextJob doc d y
same_job doc d job j x y at used_job covers plain c = record {
  job = job;
  which = j;
  is_job = at;
  used = used_job;
  covers = λ z h. covers z (in_without doc d x z plain (inr (y, c, h)));
}

next_job : (doc : Doc) (d job : ℕ) (j : Job) (x y : Asked) → d ≤ 256 → job_at doc job ≡ Some j
    → JobUsed doc job → Covers doc j (suc d) x → AskFits doc x → Contains (asked_by doc x) y
    → NextJob doc d y
next_job doc d job j (lazy i k p) y le at used_job covers fits c =
    same_job doc d job j (lazy i k p) y at used_job covers refl c
next_job doc d job j (cell i k) y le at used_job covers fits c =
    by_test (is_producer_at doc k) refl
  where
    of_producer : Used doc (named i k) → NextJob doc d y
    of_producer u = record {
      job = u.1.0;
      which = cell_job (named i k);
      is_job = job_is_cell doc (named i k) u.1.0 (job_place doc (named i k) u.1.0 u.1.1);
      used = cell_is_used doc (named i k) u.1.0 u.0 u.1.1;
      covers = λ z h. in_flat_map (used_without doc enough_used) (asked_by doc (cell i k)) y z c
          (without_more doc d 256 y z le h);
    }

    by_test : (b : Bool) → is_producer_at doc k ≡ b → NextJob doc d y
    by_test true is = of_producer (fits.used is)
    by_test false is = same_job doc d job j (cell i k) y at used_job covers is c

abbrev Follows : Doc → ℕ → Asked → Asked → Type 0
Follows doc d x y =
    (x ≡ y) ⊎ ((z : Asked) × Contains (asked_by doc x) z × Contains (used doc d z) y)

out_used : (doc : Doc) (d : ℕ) (x y : Asked) → Contains (used doc (suc d) x) y
    → Follows doc d x y
unfolding used
out_used doc d x y h =
    elim (first_or_rest y x (flat_map (used doc d) (asked_by doc x)) h) [
      | inl e ↦ inl e
      | inr r ↦ inr (out_flat_map (used doc d) (asked_by doc x) y r)
    ]

none_used : (doc : Doc) (x y : Asked) → Contains (used doc 0 x) y → ⊥
unfolding used
none_used doc x y h = none_in y h

all_used : (doc : Doc) → IsAccepted doc → (d job : ℕ) (j : Job) (x y : Asked) (c : CellName)
    → d ≤ 256 → job_at doc job ≡ Some j → JobUsed doc job → Covers doc j d x → AskFits doc x
    → Contains (used doc d x) y → as_cell y ≡ Some c → IsUsed (meanings_of doc) c
all_used doc accepted zero job j x y c le at used_job covers fits h e =
    absurd (none_used doc x y h)
all_used doc accepted (suc d) job j x y c le at used_job covers fits h e =
    elim (out_used doc d x y h) [
      | inl same ↦ (let P : Asked → Type 0 = λ z. as_cell z ≡ Some c in
          here_is_used doc d job j x c at used_job covers fits (subst P (sym same) e))
      | inr r ↦ (let n = next_job doc d job j x r.0 (omega (arith, le)) at used_job covers fits r.1
          in
          let next : AskFits doc r.0 =
          each_in (AskFits doc) (asked_by doc x) r.0 (contents_ask doc accepted x fits) r.1 in
          all_used doc accepted d n.job n.which r.0 y c (omega (arith, le)) n.is_job n.used n.covers
          next r.2 e)
    ]

-- ---- asks

used_of_ask : (doc : Doc) → IsAccepted doc → (job : ℕ) (a : Ask) (y : Asked) (c : CellName)
    → slice_get (asks_of doc) job ≡ Some a → Contains (used_by_ask doc (suc job, a)) y
    → as_cell y ≡ Some c → IsUsed (meanings_of doc) c
used_of_ask doc accepted job a y c is h e =
    let x = out_flat_map (used doc enough_used) (runs.asks_of (run_of_ask doc (suc job) a)) y h in
    let fits : AskFits doc x.0 =
    each_in (AskFits doc) (runs.asks_of (run_of_ask doc (suc job) a)) x.0
    (ask_asks doc accepted job (suc job) a is) x.1 in
    all_used doc accepted 256 job (ask_job (suc job) a) x.0 y c (omega arith)
    (job_is_ask doc job a is) (ask_is_used doc job (slice_get_within (asks_of doc) job a is))
    (λ z g. in_flat_map (used_without doc enough_used)
    (runs.asks_of (run_of_ask doc (suc job) a)) x.0 z x.1 g) fits x.2 e

pub cells_are_used : CellsAreUsed
unfolding cells cells_of
cells_are_used doc accepted c h =
    let o = out_filter_map as_cell (flat_map (used_by_ask doc) (numbered_asks doc)) c
    (out_each_once (filter_map as_cell (flat_map (used_by_ask doc) (numbered_asks doc))) c h) in
    let p = out_flat_map (used_by_ask doc) (numbered_asks doc) o.0 o.1 in
    let q = out_map (λ (p : ℕ × Ask). (suc p.0, p.1)) (enumerate_from 0 (asks_of doc)) p.0 p.1 in
    let P : ℕ × Ask → Type 0 = λ r. Contains (used_by_ask doc r) o.0 in
    used_of_ask doc accepted q.0.0 q.0.1 o.0 c (out_numbered (asks_of doc) q.0.0 q.0.1 q.1)
    (subst P (sym q.2) p.2) o.2
