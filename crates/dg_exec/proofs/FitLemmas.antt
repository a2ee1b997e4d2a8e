-- The cells of producers, the jobs that make their contents, and the jobs that a job needs.
use Rattle.std.proofs.Common.{◌≡◌, ◌⊎◌, inl, inr, ℕ, zero, suc, ◌+◌, ◌-◌, ◌<◌, ◌≤◌, ◌==◌, nat_lt, Bool, true, false, cond, List, [], ◌∷◌, ◌++◌, length, get_or, map, filter, filter_map, position, slice_get, Contains, Option, Some, None, option_map, unwrap_or, refl, sym, ap, subst, ◌∙◌, arith}
use Rattle.std.specs.Prelude.{not}
use Rattle.std.specs.List.{enumerate_from}
use Rattle.std.proofs.lemmas.Bool.{eqb-true, eq-eqb, le-ltb, lt-ltb, cases_lt}
use Rattle.std.proofs.lemmas.List.{length-map, length-append, get_or_append_left, get_or-append-add}
use Rattle.std.proofs.lemmas.List.Quantifiers.{position-Some}
use Rattle.std.proofs.lemmas.Option.{none-some, same_Some, slice_get-get_or, slice_get_within, slice_get_past, slice_get-map, get_or_from_slice_get, unwrap_or-slice_get}
use Rattle.dg_decl.specs.declared.document.Doc.{Doc}
use Rattle.dg_decl.specs.declared.graph.Node.{Node}
use Rattle.dg_decl.specs.Graph.{nodes}
use Rattle.dg_decl.specs.Sizes.{is_producer}
use Rattle.dg_decl.proofs.MemberLemmas.{none_in, in_front, first_or_rest, in_filter, out_filter, in_filter_map, out_filter_map, in_flat_map, out_flat_map, out_option_map, in_got}
use Rattle.dg_decl.proofs.NodeEquality.{first_so, second_so, both_so}
use Rattle.dg_decl.proofs.NodeWalks.{Decides, in_rest}
use Rattle.dg_decl.proofs.OnceLemmas.{Once, once_flat_map, once_filter_map, once_numbered, numbers_tell}
use Rattle.dg_slots.specs.declared.session.Ask.{Ask}
use Rattle.dg_slots.specs.declared.session.Inst.{Inst}
use Rattle.dg_slots.specs.Sessions.{insts_of, asks_of}
use Rattle.dg_eval.specs.World.{inst_at, class_of_inst}
use Rattle.dg_eval.specs.Meaning.{node_at, enough}
use Rattle.dg_eval.specs.Asks.{CellName, same_cell, each_once}
use Rattle.dg_eval.proofs.InputLists.{has_place}
use Rattle.dg_eval.proofs.PlaceLemmas.{numbered_in}
use Rattle.dg_exec.specs.Jobs.{is_producer_of, producer_cell, producer_cells, job_of_cell, reached, needed, needed_by_ask, needed_by_cell, inputs_of_jobs}
use Rattle.dg_exec.specs.Meanings.{ask_job, cell_job, job_at, cell_of_job}
use Rattle.dg_jobs.specs.Jobs.{inputs_of}

-- ---- cells by their names

abbrev pub named : ℕ → ℕ → CellName
named i k = record { inst = i; slot = k }

named_same : (i k j l : ℕ) → i ≡ j → k ≡ l → named i k ≡ named j l
named_same i k j l e f = ap (λ (n : ℕ). named n k) e ∙ ap (named j) f

pub cells_tell : Decides same_cell
cells_tell a b = (
  λ e. named_same a.inst a.slot b.inst b.slot
      (eqb-true a.inst b.inst (first_so (a.inst == b.inst) (a.slot == b.slot) e))
      (eqb-true a.slot b.slot (second_so (a.inst == b.inst) (a.slot == b.slot) e)),
  λ e. both_so (a.inst == b.inst) (a.slot == b.slot)
      (eq-eqb a.inst b.inst (ap (λ (c : CellName). c.inst) e))
      (eq-eqb a.slot b.slot (ap (λ (c : CellName). c.slot) e)),
)

pub in_each_once : (cs : List CellName) (x : CellName) → Contains cs x → Contains (each_once cs) x
in_each_once [] x h = absurd (none_in x h)
in_each_once (c ∷ cs) x h =
    elim (first_or_rest x c cs h) [
      | inl e ↦ subst (Contains (each_once (c ∷ cs))) e (in_front c (filter (λ d. not (same_cell c
          d)) (each_once cs)))
      | inr r ↦ of_test (same_cell c x) refl (in_each_once cs x r)
    ]
  where
    of_test : (b : Bool) → same_cell c x ≡ b → Contains (each_once cs) x
        → Contains (each_once (c ∷ cs)) x
    of_test true e r = subst (Contains (each_once (c ∷ cs))) ((cells_tell c x).0 e) (in_front c
        (filter (λ d. not (same_cell c d)) (each_once cs)))
    of_test false e r = in_rest x c (filter (λ d. not (same_cell c d)) (each_once cs)) (in_filter (λ
        d. not (same_cell c d)) (each_once cs) x r (ap not e))

pub out_each_once : (cs : List CellName) (x : CellName) → Contains (each_once cs) x → Contains cs x
out_each_once [] x h = absurd (none_in x h)
out_each_once (c ∷ cs) x h =
    elim (first_or_rest x c (filter (λ d. not (same_cell c d)) (each_once cs)) h) [
      | inl e ↦ subst (Contains (c ∷ cs)) e (in_front c cs)
      | inr r ↦ in_rest x c cs (out_each_once cs x (out_filter (λ d. not (same_cell c d)) (each_once
          cs) x r).0)
    ]

-- ---- elements with their numbers

pub out_numbered : {A : Type 0} (xs : List A) (m : ℕ) (x : A)
    → Contains (enumerate_from 0 xs) (m, x) → slice_get xs m ≡ Some x
out_numbered {A} xs m x c =
    let o = numbered_in 0 xs m x c in
    let same : o.0 ≡ m = omega (arith, o.1) in
    let P : ℕ → Type 0 = λ j. slice_get xs j ≡ Some x in
    subst P same o.2

numbered_from : {A : Type 0} (k : ℕ) (xs : List A) (j : ℕ) (x : A) → slice_get xs j ≡ Some x
    → Contains (enumerate_from k xs) (k + j, x)
numbered_from k [] j x e = absurd (none-some x e)
numbered_from {A} k (y ∷ ys) zero x e =
    let n : k ≡ k + 0 = omega arith in
    let P : ℕ × A → Type 0 = λ p. Contains ((k, y) ∷ enumerate_from (k + 1) ys) p in
    subst P (λ i. (n i, same_Some y x e i)) (in_front (k, y) (enumerate_from (k + 1) ys))
numbered_from {A} k (y ∷ ys) (suc j) x e =
    let n : (k + 1) + j ≡ k + suc j = omega arith in
    let P : ℕ → Type 0 = λ m. Contains ((k, y) ∷ enumerate_from (k + 1) ys) (m, x) in
    subst P n (in_rest ((k + 1) + j, x) (k, y) (enumerate_from (k + 1) ys)
    (numbered_from (k + 1) ys j x e))

pub in_numbered : {A : Type 0} (xs : List A) (m : ℕ) (x : A) → slice_get xs m ≡ Some x
    → Contains (enumerate_from 0 xs) (m, x)
in_numbered xs m x e =
    let n : 0 + m ≡ m = omega arith in
    let P : ℕ → Type 0 = λ j. Contains (enumerate_from 0 xs) (j, x) in
    subst P n (numbered_from 0 xs m x e)

-- in a list without doubles an element stands at one place
pub one_place : {A : Type 0} (xs : List A) (i j : ℕ) (x : A) → Once xs → slice_get xs i ≡ Some x
    → slice_get xs j ≡ Some x → i ≡ j
one_place [] i j x once e f = absurd (none-some x e)
one_place (y ∷ ys) zero zero x once e f = refl
one_place {A} (y ∷ ys) zero (suc j) x once e f =
    let P : A → Type 0 = λ z. Contains ys z in
    absurd (once.0 (subst P (sym (same_Some y x e)) (in_got ys j x f)))
one_place {A} (y ∷ ys) (suc i) zero x once e f =
    let P : A → Type 0 = λ z. Contains ys z in
    absurd (once.0 (subst P (sym (same_Some y x f)) (in_got ys i x e)))
one_place (y ∷ ys) (suc i) (suc j) x once e f =
    ap (λ (n : ℕ). suc n) (one_place ys i j x once.1 e f)

-- ---- the cells of producers

-- the slot of a producer, in an instance of its class
pub record IsProducerCell (doc : Doc) (c : CellName) : Type 0 where
  pub node : Node
  pub is_node : node_at doc c.slot ≡ Some node
  pub class : class_of_inst doc c.inst ≡ Some node.class
  pub produces : is_producer doc node ≡ true

-- the name of the cell of a producer
producer_named : (doc : Doc) (i : ℕ × Inst) (k : ℕ × Node) (c : CellName)
    → producer_cell doc i k ≡ Some c
    → (is_producer_of doc i.1.class k.1 ≡ true) × (named i.0 k.0 ≡ c)
producer_named doc i k c e = by_test (is_producer_of doc i.1.class k.1) e
  where
    by_test : (b : Bool) → cond b (Some (named i.0 k.0)) None ≡ Some c
        → (b ≡ true) × (named i.0 k.0 ≡ c)
    by_test true h = (refl, same_Some (named i.0 k.0) c h)
    by_test false h = absurd (none-some c h)

pub out_producers : (doc : Doc) (c : CellName) → Contains (producer_cells doc) c
    → IsProducerCell doc c
unfolding producer_cells
out_producers doc c h =
    let o = out_flat_map (λ i. filter_map (producer_cell doc i) (enumerate_from 0 (nodes doc)))
    (enumerate_from 0 (insts_of doc)) c h in
    let p = out_filter_map (producer_cell doc o.0) (enumerate_from 0 (nodes doc)) c o.2 in
    let n = producer_named doc o.0 p.0 c p.2 in
    let inst : o.0.0 ≡ c.inst = ap (λ (c : CellName). c.inst) n.1 in
    let slot : p.0.0 ≡ c.slot = ap (λ (c : CellName). c.slot) n.1 in
    let i : inst_at doc o.0.0 ≡ Some o.0.1 = out_numbered (insts_of doc) o.0.0 o.0.1 o.1 in
    let class : p.0.1.class ≡ o.0.1.class =
    eqb-true p.0.1.class o.0.1.class (first_so (p.0.1.class == o.0.1.class) (is_producer doc p.0.1)
    n.0) in
    record {
      node = p.0.1;
      is_node = ap (node_at doc) (sym slot) ∙ out_numbered (nodes doc) p.0.0 p.0.1 p.1;
      class = ap (class_of_inst doc) (sym inst) ∙ (ap (option_map (λ (x : Inst). x.class)) i
          ∙ ap Some (sym class));
      produces = second_so (p.0.1.class == o.0.1.class) (is_producer doc p.0.1) n.0;
    }

pub in_producers : (doc : Doc) (c : CellName) → IsProducerCell doc c
    → Contains (producer_cells doc) c
unfolding producer_cells
in_producers doc c h =
    let x = out_option_map (λ (x : Inst). x.class) (inst_at doc c.inst) h.node.class h.class in
    let is : is_producer_of doc x.0.class h.node ≡ true =
    both_so (h.node.class == x.0.class) (is_producer doc h.node)
    (eq-eqb h.node.class x.0.class (sym x.2)) h.produces in
    let made : producer_cell doc (c.inst, x.0) (c.slot, h.node) ≡ Some (named c.inst c.slot) =
    ap (λ (b : Bool). cond b (Some (named c.inst c.slot)) None) is in
    in_flat_map (λ i. filter_map (producer_cell doc i) (enumerate_from 0 (nodes doc)))
    (enumerate_from 0 (insts_of doc)) (c.inst, x.0) (named c.inst c.slot)
    (in_numbered (insts_of doc) c.inst x.0 x.1)
    (in_filter_map (producer_cell doc (c.inst, x.0)) (enumerate_from 0 (nodes doc))
    (c.slot, h.node) (named c.inst c.slot) (in_numbered (nodes doc) c.slot h.node h.is_node) made)

-- each stands once in the list
pub once_producers : (doc : Doc) → Once (producer_cells doc)
unfolding producer_cells
once_producers doc =
    once_flat_map (λ i. filter_map (producer_cell doc i) (enumerate_from 0 (nodes doc)))
    (enumerate_from 0 (insts_of doc)) (once_numbered 0 (insts_of doc))
    (λ i c. once_filter_map (producer_cell doc i) (enumerate_from 0 (nodes doc))
    (once_numbered 0 (nodes doc))
    (λ k l y a b e f. numbers_tell 0 (nodes doc) k l a b
    (ap (λ (c : CellName). c.slot) ((producer_named doc i k y e).1
    ∙ sym (producer_named doc i l y f).1))))
    (λ i j y a b h g. (let p = out_filter_map (producer_cell doc i) (enumerate_from 0 (nodes doc)) y
    h in
    let q = out_filter_map (producer_cell doc j) (enumerate_from 0 (nodes doc)) y g in
    numbers_tell 0 (insts_of doc) i j a b
    (ap (λ (c : CellName). c.inst) ((producer_named doc i p.0 y p.2).1
    ∙ sym (producer_named doc j q.0 y q.2).1))))

-- ---- jobs by number

-- the job of the cell of a producer
pub record IsJobOf (doc : Doc) (c : CellName) (job : ℕ) : Type 0 where
  pub place : ℕ
  pub is_cell : slice_get (producer_cells doc) place ≡ Some c
  pub number : length (asks_of doc) + place ≡ job

place_of : (cs : List CellName) (c : CellName) (p : ℕ) → position (same_cell c) cs ≡ Some p
    → slice_get cs p ≡ Some c
place_of cs c p e =
    let at = position-Some (same_cell c) cs p c e in
    slice_get-get_or cs p c at.0 ∙ ap Some (sym ((cells_tell c (get_or cs p c)).0 at.1))

found_at : (cs : List CellName) (c : CellName) (p : ℕ) → Once cs → slice_get cs p ≡ Some c
    → position (same_cell c) cs ≡ Some p
found_at cs c p once e =
    let w = has_place (same_cell c) cs c (in_got cs p c e) ((cells_tell c c).1 refl) in
    w.1 ∙ ap Some (one_place cs w.0 p c once (place_of cs c w.0 w.1) e)

pub job_place : (doc : Doc) (c : CellName) (job : ℕ) → job_of_cell doc c ≡ Some job
    → IsJobOf doc c job
unfolding job_of_cell
job_place doc c job e =
    let o = out_option_map (λ (p : ℕ). length (asks_of doc) + p)
    (position (same_cell c) (producer_cells doc)) job e in
    record { place = o.0; is_cell = place_of (producer_cells doc) c o.0 o.1; number = o.2 }

pub place_job : (doc : Doc) (c : CellName) (job : ℕ) → IsJobOf doc c job
    → job_of_cell doc c ≡ Some job
unfolding job_of_cell
place_job doc c job h =
    ap (option_map (λ (p : ℕ). length (asks_of doc) + p))
    (found_at (producer_cells doc) c h.place (once_producers doc) h.is_cell)
    ∙ ap Some h.number

-- a producer's cell has a job
pub producer_job : (doc : Doc) (c : CellName) → IsProducerCell doc c
    → (job : ℕ) × (job_of_cell doc c ≡ Some job)
producer_job doc c h =
    let among = in_producers doc c h in
    let at = slice_get-get_or (producer_cells doc) among.0 c among.1 ∙ ap Some among.2 in (
      length (asks_of doc) + among.0,
      place_job doc c (length (asks_of doc) + among.0)
          (record { place = among.0; is_cell = at; number = refl }),
    )

-- what has a job is a producer's cell
pub job_producer : (doc : Doc) (c : CellName) (job : ℕ) → job_of_cell doc c ≡ Some job
    → IsProducerCell doc c
job_producer doc c job e =
    let h = job_place doc c job e in
    out_producers doc c (in_got (producer_cells doc) h.place c h.is_cell)

cell_job_at : (doc : Doc) (p : ℕ) (c : CellName) → slice_get (producer_cells doc) p ≡ Some c
    → job_at doc (length (asks_of doc) + p) ≡ Some (cell_job c)
cell_job_at doc p c e =
    let past : nat_lt (length (asks_of doc) + p) (length (asks_of doc)) ≡ false =
    le-ltb (length (asks_of doc) + p) (length (asks_of doc)) (omega arith) in
    let back : (length (asks_of doc) + p) - length (asks_of doc) ≡ p = omega arith in
    ap (λ (b : Bool). cond b (option_map (ask_job (suc (length (asks_of doc) + p)))
    (slice_get (asks_of doc) (length (asks_of doc) + p)))
    (option_map cell_job (slice_get (producer_cells doc)
    ((length (asks_of doc) + p) - length (asks_of doc))))) past
    ∙ (ap (λ (m : ℕ). option_map cell_job (slice_get (producer_cells doc) m)) back
    ∙ ap (option_map cell_job) e)

pub job_is_cell : (doc : Doc) (c : CellName) (job : ℕ) → IsJobOf doc c job
    → job_at doc job ≡ Some (cell_job c)
job_is_cell doc c job h =
    let P : ℕ → Type 0 = λ j. job_at doc j ≡ Some (cell_job c) in
    subst P h.number (cell_job_at doc h.place c h.is_cell)

-- the job of an ask
pub job_is_ask : (doc : Doc) (job : ℕ) (a : Ask) → slice_get (asks_of doc) job ≡ Some a
    → job_at doc job ≡ Some (ask_job (suc job) a)
job_is_ask doc job a e =
    let below : nat_lt job (length (asks_of doc)) ≡ true =
    lt-ltb job (length (asks_of doc)) (slice_get_within (asks_of doc) job a e) in
    ap (λ (b : Bool). cond b (option_map (ask_job (suc job)) (slice_get (asks_of doc) job))
    (option_map cell_job (slice_get (producer_cells doc) (job - length (asks_of doc))))) below
    ∙ ap (option_map (ask_job (suc job))) e

pub some_at : {A : Type 0} (xs : List A) (k : ℕ) → k < length xs
    → (x : A) × (slice_get xs k ≡ Some x)
some_at [] k lt = absurd (omega arith)
some_at (x ∷ xs) zero lt = (x, refl)
some_at (x ∷ xs) (suc k) lt = some_at xs k (omega (arith, lt))

-- what a job is: an ask or the cell of a producer
pub job_cases : (doc : Doc) (job : ℕ)
    → job < length (asks_of doc) + length (producer_cells doc)
    → ((a : Ask) × (slice_get (asks_of doc) job ≡ Some a)) ⊎ ((c : CellName) × IsJobOf doc c job)
job_cases doc job lt =
    elim (cases_lt job (length (asks_of doc))) [
      | inl below ↦ inl (some_at (asks_of doc) job below)
      | inr past ↦ (let o = some_at (producer_cells doc) (job - length (asks_of doc)) (omega (
        arith,
        lt,
        past,
      )) in
          inr (
            o.0,
            record {
              place = job - length (asks_of doc);
              is_cell = o.1;
              number = omega (arith, past);
            },
          ))
    ]

-- ---- the cell of a job

pub cell_at : (doc : Doc) (job : ℕ) (c : CellName) → job_at doc job ≡ Some (cell_job c)
    → cell_of_job doc job ≡ Some c
cell_at doc job c e = rw e refl

no_cell_at : (doc : Doc) (job number : ℕ) (a : Ask) → job_at doc job ≡ Some (ask_job number a)
    → cell_of_job doc job ≡ None
no_cell_at doc job number a e = rw e refl

-- the cell of the job of a cell is this one
pub cell_is : (doc : Doc) (c : CellName) (job : ℕ) → job_of_cell doc c ≡ Some job
    → cell_of_job doc job ≡ Some c
cell_is doc c job e = cell_at doc job c (job_is_cell doc c job (job_place doc c job e))

-- and a cell of a job has this job
pub job_is : (doc : Doc) (c : CellName) (job : ℕ)
    → job < length (asks_of doc) + length (producer_cells doc) → cell_of_job doc job ≡ Some c
    → job_of_cell doc c ≡ Some job
job_is doc c job lt e =
    elim (job_cases doc job lt) [
      | inl a ↦ absurd (none-some c (sym (no_cell_at doc job (suc job) a.0 (job_is_ask doc job a.0
          a.1)) ∙ e))
      | inr d ↦ (let same : d.0 ≡ c = same_Some d.0 c (sym (cell_at doc job d.0 (job_is_cell doc d.0
          job d.1)) ∙ e) in
          let P : CellName → Type 0 = λ x. job_of_cell doc x ≡ Some job in
          subst P same (place_job doc d.0 job d.1))
    ]

-- ---- the jobs that a job needs

pub inputs_count : (doc : Doc)
    → length (inputs_of_jobs doc) ≡ length (asks_of doc) + length (producer_cells doc)
unfolding inputs_of_jobs
inputs_count doc =
    let both : length (map (needed_by_ask doc) (asks_of doc) ++ map (needed_by_cell doc)
    (producer_cells doc)) ≡ length (map (needed_by_ask doc) (asks_of doc))
    + length (map (needed_by_cell doc) (producer_cells doc)) =
    length-append (map (needed_by_ask doc) (asks_of doc))
    (map (needed_by_cell doc) (producer_cells doc)) in
    let a : length (map (needed_by_ask doc) (asks_of doc)) ≡ length (asks_of doc) =
    length-map (asks_of doc) (needed_by_ask doc) in
    let c : length (map (needed_by_cell doc) (producer_cells doc)) ≡ length (producer_cells doc) =
    length-map (producer_cells doc) (needed_by_cell doc) in
    both ∙ (λ i. a i + c i)

pub ask_inputs : (doc : Doc) (job : ℕ) (a : Ask) → slice_get (asks_of doc) job ≡ Some a
    → inputs_of (inputs_of_jobs doc) job ≡ needed_by_ask doc a
unfolding inputs_of_jobs
ask_inputs doc job a e =
    let count : length (map (needed_by_ask doc) (asks_of doc)) ≡ length (asks_of doc) =
    length-map (asks_of doc) (needed_by_ask doc) in
    let lt : job < length (asks_of doc) = slice_get_within (asks_of doc) job a e in
    get_or_append_left (map (needed_by_ask doc) (asks_of doc)) (map (needed_by_cell doc)
    (producer_cells doc)) [] job (omega (arith, count, lt))
    ∙ get_or_from_slice_get (map (needed_by_ask doc) (asks_of doc)) job (needed_by_ask doc a) []
    (slice_get-map (needed_by_ask doc) (asks_of doc) job ∙ ap (option_map (needed_by_ask doc)) e)

pub cell_inputs : (doc : Doc) (job : ℕ) (c : CellName) → IsJobOf doc c job
    → inputs_of (inputs_of_jobs doc) job ≡ needed_by_cell doc c
unfolding inputs_of_jobs
cell_inputs doc job c h =
    let count : length (map (needed_by_ask doc) (asks_of doc)) ≡ length (asks_of doc) =
    length-map (asks_of doc) (needed_by_ask doc) in
    let at : job ≡ length (map (needed_by_ask doc) (asks_of doc)) + h.place =
    sym h.number ∙ ap (λ (m : ℕ). m + h.place) (sym count) in
    ap (inputs_of (map (needed_by_ask doc) (asks_of doc) ++ map (needed_by_cell doc) (producer_cells
    doc))) at
    ∙ (get_or-append-add (map (needed_by_ask doc) (asks_of doc)) (map (needed_by_cell doc)
    (producer_cells doc)) h.place []
    ∙ get_or_from_slice_get (map (needed_by_cell doc) (producer_cells doc)) h.place
    (needed_by_cell doc c) []
    (slice_get-map (needed_by_cell doc) (producer_cells doc) h.place
    ∙ ap (option_map (needed_by_cell doc)) h.is_cell))

-- a number past the last job needs nothing
pub no_inputs : (doc : Doc) (job : ℕ) → length (inputs_of_jobs doc) ≤ job
    → inputs_of (inputs_of_jobs doc) job ≡ []
no_inputs doc job past =
    sym (unwrap_or-slice_get (inputs_of_jobs doc) job []) ∙ ap (λ (o : Option (List ℕ)). unwrap_or o
    []) (slice_get_past (inputs_of_jobs doc) job past)

-- a job that a node needs is that of a cell that is reached from it
pub out_needed : (doc : Doc) (i : ℕ) (n : Node) (job : ℕ) → Contains (needed doc i n) job
    → (c : CellName) × Contains (reached doc enough i n) c × (job_of_cell doc c ≡ Some job)
out_needed doc i n job h =
    let o = out_filter_map (job_of_cell doc) (each_once (reached doc enough i n)) job h in
    (o.0, out_each_once (reached doc enough i n) o.0 o.1, o.2)

pub in_needed : (doc : Doc) (i : ℕ) (n : Node) (c : CellName) (job : ℕ)
    → Contains (reached doc enough i n) c → job_of_cell doc c ≡ Some job
    → Contains (needed doc i n) job
in_needed doc i n c job h e =
    in_filter_map (job_of_cell doc) (each_once (reached doc enough i n)) c job
    (in_each_once (reached doc enough i n) c h) e
