use Rattle.std.proofs.Common.{◌≡◌, ◌+◌, ◌<◌, ◌≤◌, ◌↔◌, ◌++◌, ◌∷◌, [], ℕ, Bool, true, false, not}
use Rattle.std.proofs.Common.{cond, List, length, get_or, set, replicate, take, All, Contains}
use Rattle.std.proofs.Common.{count_by, refl, sym, ap, ◌∙◌, subst, ⊎_elim, arith}
use Rattle.std.proofs.lemmas.Bool.{cases_eq, cases_lt, false≢true}
use Rattle.std.proofs.lemmas.List.{append-nil, get_or-replicate, length-replicate}
use Rattle.std.proofs.lemmas.List.{get_or_append_left, get_or_push, get_or_past, append_assoc}
use Rattle.std.proofs.lemmas.List.{length-set, length_push, get_or-set_same, get_or-set_other}
use Rattle.std.proofs.lemmas.List.Elements.{All-more, All-push, All-weaker, Contains-append_left}
use Rattle.std.proofs.lemmas.List.Elements.{Contains-get_or, Contains-push, Contains-push_cases}
use Rattle.std.proofs.lemmas.List.Sums.{sum_by-set}
use Rattle.dg_num.specs.Walks.{IsTrueAt}

-- a mark that is set stays set when another is set
pub IsTrueAt-set : (marks : List Bool) (node v : ℕ) → node < length marks → IsTrueAt marks v
    → IsTrueAt (set marks node true) v
IsTrueAt-set marks node v lt marked =
    ⊎_elim
    (λ (e : v ≡ node). let P : ℕ → Type 0 = λ x. IsTrueAt (set marks node true) x in
    subst P (sym e) (get_or-set_same marks node true false lt))
    (λ (ne : v ≡ node → ⊥). get_or-set_other marks node v true false ne ∙ marked)
    (cases_eq v node)

-- what is marked is a node
pub marked_within : (marks : List Bool) (node : ℕ) → IsTrueAt marks node → node < length marks
marked_within marks node marked = ⊎_elim (λ (lt : node < length marks). lt)
    (λ (past : length marks ≤ node). absurd (false≢true
    (sym (get_or_past marks node false past) ∙ marked))) (cases_lt node (length marks))

-- the marks and the queue have the same nodes after one more
pub marked-push : (marks : List Bool) (queue : List ℕ) (node : ℕ) → node < length marks
    → ((v : ℕ) → IsTrueAt marks v ↔ Contains queue v) → (v : ℕ)
    → IsTrueAt (set marks node true) v ↔ Contains (queue ++ node ∷ []) v
marked-push marks queue node lt same v = (
  λ marked.
      ⊎_elim
      (λ (e : v ≡ node). let P : ℕ → Type 0 = λ x. Contains (queue ++ node ∷ []) x in
      subst P (sym e) (Contains-push queue node))
      (λ (ne : v ≡ node → ⊥). Contains-append_left queue (node ∷ []) v
      ((same v).0 (sym (get_or-set_other marks node v true false ne) ∙ marked)))
      (cases_eq v node),
  λ has.
      ⊎_elim
      (λ (old : Contains queue v). IsTrueAt-set marks node v lt ((same v).1 old))
      (λ (e : node ≡ v). let P : ℕ → Type 0 = λ x. IsTrueAt (set marks node true) x in
      subst P e (get_or-set_same marks node true false lt))
      (Contains-push_cases queue node v has),
)

-- one mark more is one node without a mark less
pub count_by-mark : (marks : List Bool) (node : ℕ) → node < length marks
    → get_or marks node false ≡ false → count_by not (set marks node true) + 1 ≡ count_by not marks
count_by-mark marks node lt was =
    let e : count_by not (set marks node true) + cond (not (get_or marks node false)) 1 0
    ≡ count_by not marks + cond (not true) 1 0 =
    sum_by-set (λ b. cond (not b) 1 0) marks node true false lt in
    let e' : count_by not (set marks node true) + cond (not false) 1 0 ≡ count_by not marks + 0 =
    subst (λ (b : Bool). count_by not (set marks node true) + cond (not b) 1 0
    ≡ count_by not marks + 0) was e in
    omega (arith, e')

-- the first `i` nodes of a row are marked, and those that were not before stand at the end of the
-- queue
pub record Marking (marks₀ : List Bool) (queue₀ row : List ℕ) (marks : List Bool) (queue : List ℕ)
    (i : ℕ) : Type 0 where
  pub len : length marks ≡ length marks₀
  pub marked : (v : ℕ) → IsTrueAt marks v ↔ Contains queue v
  pub kept : (v : ℕ) → IsTrueAt marks₀ v → IsTrueAt marks v
  pub added : (added : List ℕ) × (queue ≡ queue₀ ++ added) × All (Contains row) added
      × All (λ v. IsTrueAt marks₀ v → ⊥) added
  pub all : All (IsTrueAt marks) (take i row)
  pub count : count_by not marks + length queue ≡ count_by not marks₀ + length queue₀

pub Marking-none : (marks : List Bool) (queue row : List ℕ)
    → ((v : ℕ) → IsTrueAt marks v ↔ Contains queue v) → Marking marks queue row marks queue 0
Marking-none marks queue row same = record {
  len = refl;
  marked = same;
  kept = λ v h. h;
  added = (
    [],
    sym (append-nil queue),
    λ k d h. absurd (omega arith),
    λ k d h. absurd (omega arith),
  );
  all = λ k d h. absurd (omega arith);
  count = refl;
}

pub Marking-push : (marks₀ : List Bool) (queue₀ row : List ℕ) (marks : List Bool) (queue : List ℕ)
    (marks' : List Bool) (queue' : List ℕ) (i : ℕ) → Marking marks₀ queue₀ row marks queue i
    → i < length row → get_or row i 0 < length marks → get_or marks (get_or row i 0) false ≡ false
    → marks' ≡ set marks (get_or row i 0) true → queue' ≡ queue ++ get_or row i 0 ∷ []
    → Marking marks₀ queue₀ row marks' queue' (i + 1)
Marking-push marks₀ queue₀ row marks queue marks' queue' i m lt in-marks was marks-is queue-is =
    let node = get_or row i 0 in
    let P : List Bool → List ℕ → Type 0 = λ ms qs. Marking marks₀ queue₀ row ms qs (i + 1) in
    let made : P (set marks node true) (queue ++ node ∷ []) = record {
      len = length-set marks node true ∙ m.len;
      marked = marked-push marks queue node in-marks m.marked;
      kept = λ v h. IsTrueAt-set marks node v in-marks (m.kept v h);
      added = (
        m.added.0 ++ node ∷ [],
        ap (λ xs. xs ++ node ∷ []) m.added.1 ∙ append_assoc queue₀ m.added.0 (node ∷ []),
        All-push (Contains row) m.added.0 node m.added.2 (Contains-get_or row i 0 lt),
        All-push (λ v. IsTrueAt marks₀ v → ⊥) m.added.0 node m.added.3
            (λ h. false≢true (sym was ∙ m.kept node h)),
      );
      all = All-more (IsTrueAt (set marks node true)) row i 0 lt
          (All-weaker (IsTrueAt marks) (IsTrueAt (set marks node true))
          (λ v h. IsTrueAt-set marks node v in-marks h) (take i row) m.all)
          (get_or-set_same marks node true false in-marks);
      count = omega (arith, m.count, count_by-mark marks node in-marks was, length_push queue node);
    } in
    subst (λ ms. P ms queue') (sym marks-is) (subst (λ qs. P (set marks node true) qs)
    (sym queue-is) made)

pub Marking-skip : (marks₀ : List Bool) (queue₀ row : List ℕ) (marks : List Bool) (queue : List ℕ)
    (i : ℕ) → Marking marks₀ queue₀ row marks queue i → i < length row
    → get_or marks (get_or row i 0) false ≡ true → Marking marks₀ queue₀ row marks queue (i + 1)
Marking-skip marks₀ queue₀ row marks queue i m lt was = record {
  len = m.len;
  marked = m.marked;
  kept = m.kept;
  added = m.added;
  all = All-more (IsTrueAt marks) row i 0 lt m.all was;
  count = m.count;
}

-- one more mark that tells whether the next node has the property
pub marks_exact-push : (P : ℕ → Type 0) (marks marks' : List Bool) (i : ℕ) (mark : Bool)
    → length marks ≡ i → marks' ≡ marks ++ mark ∷ []
    → ((node : ℕ) → node < i → IsTrueAt marks node ↔ P node) → ((mark ≡ true) ↔ P i) → (node : ℕ)
    → node < i + 1 → IsTrueAt marks' node ↔ P node
marks_exact-push P marks marks' i mark len is exact here node lt =
    let Q : ℕ → Type 0 = λ x. IsTrueAt marks' x ↔ P x in
    ⊎_elim
    (λ (before : node < i).
    let same : get_or marks' node false ≡ get_or marks node false =
    ap (λ xs. get_or xs node false) is ∙ get_or_append_left marks (mark ∷ []) false node
    (omega arith) in
    let old = exact node before in
    (λ yes. old.0 (sym same ∙ yes), λ p. same ∙ old.1 p))
    (λ (at : i ≤ node).
    let e : i ≡ node = omega arith in
    let last : get_or marks' i false ≡ mark =
    ap (λ xs. get_or xs i false) is ∙ get_or_push marks mark false i len in
    let made : Q i = (λ yes. here.0 (sym last ∙ yes), λ p. last ∙ here.1 p) in
    subst Q e made)
    (cases_lt node i)

-- none of the marks is set at first
pub marks_none : (n v : ℕ) → get_or (replicate n false) v false ≡ false
marks_none n v = ⊎_elim (λ (lt : v < n). get_or-replicate n v false false lt)
    (λ (past : n ≤ v). get_or_past (replicate n false) v false
    (omega (arith, length-replicate {A = Bool} n false))) (cases_lt v n)
