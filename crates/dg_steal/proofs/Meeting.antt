-- A hand that is made meets those that are there, one after another.
use Rattle.std.proofs.Common.{◌≡◌, ◌≢◌, ◌⊎◌, inl, inr, ℕ, zero, suc, ◌+◌, ◌-◌, ◌<◌, ◌≤◌, List, [], ◌∷◌, ◌++◌, length, Some, slice_get, set, sym, refl, ap, ◌∙◌, subst, ⊎_elim, arith, eqb, true, false, take, drop}
use Rattle.std.proofs.lemmas.Bool.{cases_lt}
use Rattle.std.proofs.lemmas.Bool.Decides.{nat_tests, eqb_tells}
use Rattle.std.proofs.lemmas.List.{length-set, length-append}
use Rattle.std.proofs.lemmas.Option.{slice_get_within, get_or_from_slice_get, slice_get-get_or}
use lib.Seq.{take-append_seam}
use Rattle.dg_steal.specs.declared.tally.Tally.{Tally}
use Rattle.dg_steal.specs.Rule.{owner, other, opening}
use Rattle.dg_steal.specs.Known.{Owned, Reached, Known, owning, reaching, known, index_of, reached, IsNew, AreNew, Meet}

module _ {A : Type 0} where
  get_front : (xs : List A) (x : A) (k : ℕ) → k < length xs → slice_get (xs ++ x ∷ []) k ≡ slice_get xs k
  get_front [] x k below = absurd (omega arith)
  get_front (y ∷ ys) x zero below = refl
  get_front (y ∷ ys) x (suc k) below = get_front ys x k (omega arith)

  get_last : (xs : List A) (x : A) (k : ℕ) → k ≡ length xs → slice_get (xs ++ x ∷ []) k ≡ Some x
  get_last [] x zero at = refl
  get_last [] x (suc k) at = absurd (omega arith)
  get_last (y ∷ ys) x zero at = absurd (omega arith)
  get_last (y ∷ ys) x (suc k) at = get_last ys x k (omega arith)

  get_cases : (xs : List A) (x y : A) (k : ℕ) → slice_get (xs ++ x ∷ []) k ≡ Some y → ((k < length xs) × (slice_get xs k ≡ Some y)) ⊎ ((k ≡ length xs) × (x ≡ y))
  get_cases [] x y zero e = inr (refl, cc)
  get_cases [] x y (suc k) e = absurd (cc)
  get_cases (z ∷ zs) x y zero e = inl (omega arith, e)
  get_cases (z ∷ zs) x y (suc k) e = ⊎_elim (λ (h : (k < length zs) × (slice_get zs k ≡ Some y)). inl (let b : k < length zs = h.0 in omega arith, h.1))
      (λ (h : (k ≡ length zs) × (x ≡ y)). inr (ap suc h.0, h.1)) (get_cases zs x y k e)

  get_set_same : (xs : List A) (k : ℕ) (x : A) → k < length xs → slice_get (set xs k x) k ≡ Some x
  get_set_same [] k x below = absurd (omega arith)
  get_set_same (y ∷ ys) zero x below = refl
  get_set_same (y ∷ ys) (suc k) x below = get_set_same ys k x (omega arith)

  get_set_other : (xs : List A) (i k : ℕ) (x : A) → k ≢ i → slice_get (set xs i x) k ≡ slice_get xs k
  get_set_other [] i k x apart = refl
  get_set_other (y ∷ ys) zero zero x apart = absurd (apart refl)
  get_set_other (y ∷ ys) zero (suc k) x apart = refl
  get_set_other (y ∷ ys) (suc i) zero x apart = refl
  get_set_other (y ∷ ys) (suc i) (suc k) x apart = get_set_other ys i k x (λ e. apart (ap suc e))

  -- the element that is there
  get_there : (xs : List A) (k : ℕ) → k < length xs → (x : A) × (slice_get xs k ≡ Some x)
  get_there [] k below = absurd (omega arith)
  get_there (x ∷ xs) zero below = (x, refl)
  get_there (x ∷ xs) (suc k) below = get_there xs k (omega arith)

-- the hand of the worker k and the new one have met: mine is the way to the new deque, theirs that of the new one
pub record Met (deque : ℕ × ℕ) (k : ℕ) (h : Known) (now : List Known) (others : List Reached) : Type 0 where
  pub mine : Reached
  pub theirs : Reached
  pub hand : slice_get now k ≡ Some (known h.worker (owning h.own.deque (opening h.own.tally)) (h.others ++ mine ∷ []))
  pub mine_deque : mine.deque ≡ deque
  pub mine_tally : mine.tally ≡ other (k + 1)
  pub way : slice_get others k ≡ Some theirs
  pub theirs_deque : theirs.deque ≡ h.own.deque
  pub theirs_tally : theirs.tally ≡ other h.own.tally.passes

-- the new hand has met the first i of the hands
pub record Meeting (old : List Known) (deque : ℕ × ℕ) (i : ℕ) (now : List Known) (own : Owned) (others : List Reached) : Type 0 where
  pub count : length now ≡ length old
  pub made : length others ≡ i
  pub own_is : own ≡ owning deque (owner (i + 1))
  pub rest : (k : ℕ) → i ≤ k → slice_get now k ≡ slice_get old k
  pub met : (k : ℕ) (h : Known) → k < i → slice_get old k ≡ Some h → Met deque k h now others

some_same : (h g : Known) → Some h ≡ Some g → h ≡ g
some_same h g e = cc

here_or_below : (k i : ℕ) → k < i + 1 → (k ≡ i) ⊎ (k < i)
here_or_below k i below = ⊎_elim (λ (h : (eqb k i ≡ true) × (k ≡ i)). inl h.1) (λ (h : (eqb k i ≡ false) × (k ≢ i)). let n = h.1 in inr (omega arith)) (eqb_tells k i)

pub starts : (old : List Known) (own : Owned) → own.tally ≡ owner 1 → Meeting old own.deque 0 old own []
starts old own new = record {
  count = refl;
  made = refl;
  own_is = ap (owning own.deque) new;
  rest = λ k at. refl;
  met = λ k h below at. absurd (omega arith);
}

met_hand : (h h' : Known) (mine : Reached) → h'.worker ≡ h.worker → h'.own ≡ owning h.own.deque (opening h.own.tally) → h'.others ≡ h.others ++ mine ∷ []
    → h' ≡ known h.worker (owning h.own.deque (opening h.own.tally)) (h.others ++ mine ∷ [])
met_hand h h' mine worker own others = λ i. known (worker i) (own i) (others i)

pub goes_on : (old : List Known) (deque : ℕ × ℕ) (i : ℕ) (now : List Known) (own : Owned) (others : List Reached) (h h' : Known) (own' : Owned) (theirs : Reached)
    → Meeting old deque i now own others → slice_get now i ≡ Some h → Meet h own h' own' theirs → Meeting old deque (i + 1) (set now i h') own' (others ++ theirs ∷ [])
goes_on old deque i now own others h h' own' theirs m at meet =
    let inside : i < length now = slice_get_within now i h at in
    record {
      count = length-set now i h' ∙ m.count;
      made = length-append others (theirs ∷ []) ∙ ap (λ n. n + 1) m.made;
      own_is = meet.0 ∙ ap (λ (o : Owned). owning o.deque (opening o.tally)) m.own_is;
      rest = λ k past. get_set_other now i k h' (λ e. omega arith) ∙ m.rest k (omega arith);
      met = λ k g below was. ⊎_elim
          (λ (e : k ≡ i). let same : h ≡ g = some_same h g (sym at ∙ ap (slice_get now) (sym e) ∙ m.rest k (omega arith) ∙ was) in
          record {
            mine = meet.5.0;
            theirs = theirs;
            hand = rw (e, ← same) (get_set_same now i h' inside ∙ ap Some (met_hand h h' meet.5.0 meet.3 meet.4 meet.5.3));
            mine_deque = meet.5.1 ∙ ap (λ (o : Owned). o.deque) m.own_is;
            mine_tally = meet.5.2 ∙ ap (λ (o : Owned). other o.tally.passes) m.own_is ∙ ap (λ n. other (n + 1)) (sym e);
            way = get_last others theirs k (e ∙ sym m.made);
            theirs_deque = meet.1 ∙ ap (λ (x : Known). x.own.deque) same;
            theirs_tally = meet.2 ∙ ap (λ (x : Known). other x.own.tally.passes) same;
          })
          (λ (lt : k < i). let b = m.met k g lt was in
          record {
            mine = b.mine;
            theirs = b.theirs;
            hand = get_set_other now i k h' (λ e. omega arith) ∙ b.hand;
            mine_deque = b.mine_deque;
            mine_tally = b.mine_tally;
            way = get_front others theirs k (let n : length others ≡ i = m.made in omega arith) ∙ b.way;
            theirs_deque = b.theirs_deque;
            theirs_tally = b.theirs_tally;
          })
          (here_or_below k i below);
    }

index_below : (worker from : ℕ) → from < worker → index_of worker from ≡ from
index_below worker from below = grind (arith, nat_tests)

index_above : (worker from : ℕ) → worker ≤ from → index_of worker from ≡ from - 1
index_above worker from above = grind (arith, nat_tests)

index_inside : (worker from ways : ℕ) → worker ≤ ways → from ≤ ways → from ≢ worker → index_of worker from < ways
index_inside worker from ways one two apart =
    ⊎_elim (λ (h : from < worker). rw (index_below worker from h) (omega arith)) (λ (h : worker ≤ from). rw (index_above worker from h) (omega arith)) (cases_lt from worker)

-- a way more at the end leaves the others where they are
reached_front : (h : Known) (o : Owned) (mine : Reached) (from : ℕ) → index_of h.worker from < length h.others → reached from (known h.worker o (h.others ++ mine ∷ [])) ≡ reached from h
reached_front h o mine from below =
    let none = reaching (0, 0) (other 0) 0 in
    get_or_from_slice_get (h.others ++ mine ∷ []) (index_of h.worker from) (reached from h) none
    (get_front h.others mine (index_of h.worker from) below ∙ slice_get-get_or h.others (index_of h.worker from) none below)

reached_last : (h : Known) (o : Owned) (mine : Reached) (from : ℕ) → index_of h.worker from ≡ length h.others → reached from (known h.worker o (h.others ++ mine ∷ [])) ≡ mine
reached_last h o mine from at =
    get_or_from_slice_get (h.others ++ mine ∷ []) (index_of h.worker from) mine (reaching (0, 0) (other 0) 0) (get_last h.others mine (index_of h.worker from) at)

-- the hand of the worker k after it has met the new one
abbrev after : Known → Reached → Known
after g mine = known g.worker (owning g.own.deque (opening g.own.tally)) (g.others ++ mine ∷ [])

abbrev newest : Owned → List Reached → Known
newest own others = known (length others) own others

module _ (old : List Known) (deque : ℕ × ℕ) (now : List Known) (own : Owned) (others : List Reached) (m : Meeting old deque (length old) now own others) (new : AreNew old) where
  abbrev all : List Known
  all = now ++ newest own others ∷ []

  longer : length all ≡ length old + 1
  longer = length-append now (newest own others ∷ []) ∙ ap (λ n. n + 1) m.count

  -- a hand that was there, as it is now
  there_now : (from : ℕ) (o : Known) → from < length now → slice_get now from ≡ Some o
      → (f : Known) × (slice_get old from ≡ Some f) × Met deque from f now others × (o.own.deque ≡ f.own.deque)
  there_now from o below at =
      let count = m.count in
      let f = get_there old from (omega arith) in
      let b = m.met from f.0 (omega arith) f.1 in
      (f.0, f.1, b, ap (λ (x : Known). x.own.deque) (some_same o (after f.0 b.mine) (sym at ∙ b.hand)))

  earlier : (worker : ℕ) (g : Known) → slice_get old worker ≡ Some g → (b : Met deque worker g now others) → IsNew all worker (after g b.mine)
  earlier worker g at b =
      let n = new worker g at in
      let within = slice_get_within old worker g at in
      let is = n.0 in
      let ways = n.2 in (
        is,
        ap opening n.1 ∙ ap owner (sym longer),
        ap (λ k. k + 1) (length-append g.others (b.mine ∷ []) ∙ ways) ∙ sym longer,
        λ from o found apart. ⊎_elim
            (λ (h : (from < length now) × (slice_get now from ≡ Some o)).
            let f = there_now from o h.0 h.1 in
            let inside = slice_get_within old from f.0 f.1 in
            let way = n.3 from f.0 f.1 apart in
            let near : index_of g.worker from < length g.others = rw is (index_inside worker from (length g.others) (omega arith) (omega arith) apart) in
            let same = reached_front g (owning g.own.deque (opening g.own.tally)) b.mine from near in
            (ap (λ (r : Reached). r.deque) same ∙ way.0 ∙ sym f.3, ap (λ (r : Reached). r.tally) same ∙ way.1))
            (λ (h : (from ≡ length now) × (newest own others ≡ o)).
            let count = m.count in
            let last = h.0 in
            let far : index_of g.worker from ≡ length g.others = rw is (index_above worker from (omega arith) ∙ omega arith) in
            let same = reached_last g (owning g.own.deque (opening g.own.tally)) b.mine from far in (
              ap (λ (r : Reached). r.deque) same ∙ b.mine_deque ∙ sym (ap (λ (o : Owned). o.deque) m.own_is) ∙ ap (λ (x : Known). x.own.deque) h.1,
              ap (λ (r : Reached). r.tally) same ∙ b.mine_tally ∙ ap (λ k. other (k + 1)) (sym (index_below from worker (omega arith))),
            ))
            (get_cases now (newest own others) o from found),
      )

  last : IsNew all (length others) (newest own others)
  last =
      let made = m.made in (
        refl,
        ap (λ (o : Owned). o.tally) m.own_is ∙ ap owner (sym longer),
        ap (λ k. k + 1) made ∙ sym longer,
        λ from o found apart. ⊎_elim
            (λ (h : (from < length now) × (slice_get now from ≡ Some o)).
            let count = m.count in
            let below = h.0 in
            let f = there_now from o h.0 h.1 in
            let b = f.2 in
            let here : index_of (length others) from ≡ from = index_below (length others) from (omega arith) in
            let same : reached from (newest own others) ≡ b.theirs = get_or_from_slice_get others (index_of (length others) from) b.theirs (reaching (0, 0) (other 0) 0) (ap (slice_get others) here ∙ b.way) in (
              ap (λ (r : Reached). r.deque) same ∙ b.theirs_deque ∙ sym f.3,
              ap (λ (r : Reached). r.tally) same ∙ b.theirs_tally ∙ ap (λ (t : Tally). other t.passes) (new from f.0 f.1).1 ∙ ap other (let p = index_above from (length others) (omega arith) in omega arith),
            ))
            (λ (h : (from ≡ length now) × (newest own others ≡ o)). let count = m.count in let at = h.0 in absurd (apart (omega arith)))
            (get_cases now (newest own others) o from found),
      )

  pub ends : AreNew all
  ends worker h at = ⊎_elim
      (λ (e : (worker < length now) × (slice_get now worker ≡ Some h)).
      let count = m.count in
      let below = e.0 in
      let g = get_there old worker (omega arith) in
      let b = m.met worker g.0 (omega arith) g.1 in
      subst (λ (x : Known). IsNew all worker x) (some_same (after g.0 b.mine) h (sym b.hand ∙ e.1)) (earlier worker g.0 g.1 b))
      (λ (e : (worker ≡ length now) × (newest own others ≡ h)).
      let count = m.count in
      let made = m.made in
      let at : length others ≡ worker = (let k = e.0 in omega arith) in
      subst (λ (y : ℕ × Known). IsNew all y.0 y.1) (λ i. (at i, e.1 i)) last)
      (get_cases now (newest own others) h worker at)

-- a list that was lent whole
whole : (xs ys : List Known) (n : ℕ) → n ≡ length xs → take n (xs ++ drop (length xs) ys) ≡ xs
whole xs ys n long = ap (λ k. take k (xs ++ drop (length xs) ys)) long ∙ take-append_seam xs (drop (length xs) ys)

pub finishes : (old : List Known) (deque : ℕ × ℕ) (i len n : ℕ) (now : List Known) (own : Owned) (others : List Reached) (next : Known)
    → Meeting old deque i now own others → i ≡ length old → AreNew old → len ≡ length now → n ≡ length others → next ≡ known n own others → AreNew (take len (now ++ drop (length now) old) ++ next ∷ [])
finishes old deque i len n now own others next m full new long count is =
    rw (whole now old len long, is, count) (ends old deque now own others (subst (λ k. Meeting old deque k now own others) full m) new)
