-- The walk of parents from a class that meets no cycle ends within as many steps as there are
-- classes.
use Rattle.std.proofs.Common.{◌≡◌, inl, inr, IsTrue, ℕ, zero, suc, ◌<◌, ◌≤◌, Bool, true, false, not, nat_eq, List, [], ◌∷◌, Contains, Option, Some, None, option_to_list, refl, sym, ap, subst, ◌∙◌, arith}
use Rattle.std.specs.List.{list_any}
use Rattle.std.proofs.lemmas.Bool.{false≢true, or_cases, or_left, or_right}
use Rattle.dg_decl.specs.declared.document.Doc.{Doc}
use Rattle.dg_decl.specs.Walks.{IsReached, root, step}
use Rattle.dg_decl.specs.Components.{class_count, parent_of, walk, ancestors, chain, is_own_ancestor, parents, AncestorsAreWalks, IsChain, at_root, under, has_root, ChainsAreWhole}
use Rattle.dg_decl.proofs.WalkLemmas.{any_from, any_is, is_any, walked, at_once, reached_beyond, walked_reaches, reaches_walked, reaches_sooner, count_below, at_most_all, counts_one, grows, LeadsBelow}
use Rattle.dg_decl.proofs.NumberBounds.{below_of_each, each_option}
use Rattle.dg_decl.proofs.ComponentLemmas.{parent_below}

-- ---- a walk by a function in place of lists

abbrev as_list : (ℕ → Option ℕ) → ℕ → List ℕ
as_list next m = option_to_list (next m)

it : (n : ℕ) → Contains (n ∷ []) n
it n = (0, omega arith, refl)

walk_has : (next : ℕ → Option ℕ) (k : ℕ) (o : Option ℕ) (n : ℕ)
    → walked (as_list next) k (option_to_list o) n ≡ true
    → list_any (nat_eq n) (walk next (suc k) o) ≡ true
walk_has next zero None n h = absurd (false≢true h)
walk_has next zero (Some r) n h = h
walk_has next (suc k) None n h = absurd (false≢true h)
walk_has next (suc k) (Some r) n h =
    elim (or_cases (list_any (nat_eq n) (r ∷ [])) _ h) [
      | inl e ↦ elim (or_cases (nat_eq n r) false e) [
        | inl same ↦ or_left (nat_eq n r) _ same
        | inr never ↦ absurd (false≢true never)
      ]
      | inr e ↦ elim (or_cases (walked (as_list next) k (as_list next r) n) false e) [
        | inl later ↦ or_right (nat_eq n r) _ (walk_has next k (next r) n later)
        | inr never ↦ absurd (false≢true never)
      ]
    ]

-- ---- parents

parents_below : (doc : Doc) → LeadsBelow (parents doc) (class_count doc)
parents_below doc m n c =
    below_of_each (class_count doc) (parents doc m) n
    (each_option (class_count doc) (parent_of doc m) (λ p e. parent_below doc m p e)) c

-- no class to which a walk of parents leads from a class is its own ancestor
abbrev MeetsNoCycle : Doc → ℕ → Type 0
MeetsNoCycle doc c = (x : ℕ) → IsReached (parents doc) (c ∷ []) x → IsReached (parents doc)
    (parents doc x) x → ⊥

-- a class is an ancestor of another
abbrev is_above : Doc → ℕ → ℕ → Bool
is_above doc c n = walked (parents doc) (class_count doc) (parents doc c) n

nothing_reached : (next : ℕ → List ℕ) (n : ℕ) → IsReached next [] n → ⊥
nothing_reached next n (root m c) = (let lt : c.0 < 0 = c.1 in omega arith)
nothing_reached next n (step m o w h) = nothing_reached next m w

walks_back : (doc : Doc) (bound : ℕ) (o : Option ℕ) (x : ℕ) → LeadsBelow (parents doc) bound
    → ((p : ℕ) → o ≡ Some p → p < bound) → IsReached (parents doc) (option_to_list o) x
    → list_any (nat_eq x) (walk (parent_of doc) bound o) ≡ true
walks_back doc bound None x below small w = absurd (nothing_reached (parents doc) x w)
walks_back doc zero (Some r) x below small w = absurd (let lt : r < 0 = small r refl in omega arith)
walks_back doc (suc k) (Some r) x below small w =
    walk_has (parent_of doc) k (Some r) x (reaches_sooner (parents doc) k below r x
    (small r refl) w)

walk_leads : (doc : Doc) (k : ℕ) (o : Option ℕ) (x : ℕ)
    → list_any (nat_eq x) (walk (parent_of doc) k o) ≡ true
    → IsReached (parents doc) (option_to_list o) x
walk_leads doc zero o x h = absurd (false≢true h)
walk_leads doc (suc k) None x h = absurd (false≢true h)
walk_leads doc (suc k) (Some r) x h =
    elim (or_cases (nat_eq x r) _ h) [
      | inl same ↦ root x (any_is (r ∷ []) x (or_left (nat_eq x r) false same))
      | inr later ↦ reached_beyond (parents doc) (r ∷ []) r x (it r) (walk_leads doc k
          (parent_of doc r) x later)
    ]

pub ancestors_are_walks : AncestorsAreWalks
unfolding ancestors
ancestors_are_walks doc c a =
    let up = walk (parent_of doc) (class_count doc) (parent_of doc c) in (
      λ among. walk_leads doc (class_count doc) (parent_of doc c) a (is_any up a among),
      λ w. any_is up a (walks_back doc (class_count doc) (parent_of doc c) a (parents_below doc)
          (λ p e. parent_below doc c p e) w),
    )

own_ancestor : (doc : Doc) (x : ℕ) → IsReached (parents doc) (parents doc x) x
    → is_own_ancestor doc x ≡ true
unfolding is_own_ancestor ancestors
own_ancestor doc x w =
    walks_back doc (class_count doc) (parent_of doc x) x (parents_below doc)
    (λ p e. parent_below doc x p e) w

in_chain : (doc : Doc) (c x : ℕ) → IsReached (parents doc) (c ∷ []) x → Contains (chain doc c) x
unfolding chain ancestors
in_chain doc c x w =
    any_is (walk (parent_of doc) (suc (class_count doc)) (Some c)) x (walk_has (parent_of doc)
    (class_count doc) (Some c) x (reaches_walked (parents doc) (class_count doc)
    (parents_below doc) (c ∷ []) x w))

meets_no_cycle : (doc : Doc) (c : ℕ) → IsTrue (has_root doc c) → MeetsNoCycle doc c
meets_no_cycle doc c h x reached back =
    let found = any_from (is_own_ancestor doc) (chain doc c) x (in_chain doc c x reached)
    (own_ancestor doc x back) in
    false≢true (sym (ap not found) ∙ h)

-- ---- the chain

above_of : (doc : Doc) (c p n : ℕ) → parent_of doc c ≡ Some p → is_above doc p n ≡ true
    → is_above doc c n ≡ true
above_of doc c p n e h =
    let among : Contains (parents doc c) p = subst (λ o. Contains (option_to_list o) p) (sym e)
    (it p) in
    reaches_walked (parents doc) (class_count doc) (parents_below doc) (parents doc c) n
    (reached_beyond (parents doc) (parents doc c) p n among (walked_reaches (parents doc)
    (class_count doc) (parents doc p) n h))

is_its_parent : (doc : Doc) (c p : ℕ) → parent_of doc c ≡ Some p → is_above doc c p ≡ true
is_its_parent doc c p e =
    at_once (parents doc) (class_count doc) (parents doc c) p (subst (λ o. Contains
    (option_to_list o) p) (sym e) (it p))

reached_up : (doc : Doc) (c p x : ℕ) → parent_of doc c ≡ Some p
    → IsReached (parents doc) (p ∷ []) x → IsReached (parents doc) (c ∷ []) x
reached_up doc c p x e w =
    reached_beyond (parents doc) (c ∷ []) c x (it c) (subst (λ o. IsReached (parents doc)
    (option_to_list o) x) (sym e) w)

-- a class has fewer ancestors than those that stand below it
fewer_above : (doc : Doc) (c p : ℕ) → parent_of doc c ≡ Some p → MeetsNoCycle doc c
    → count_below (is_above doc p) (class_count doc) < count_below (is_above doc c)
    (class_count doc)
fewer_above doc c p e free =
    elim (grows (is_above doc p) (is_above doc c) (class_count doc)
    (λ n lt h. above_of doc c p n e h)) [
      | inl same ↦ absurd (free p (reached_up doc c p p e (root p (it p)))
          (walked_reaches (parents doc) (class_count doc) (parents doc p) p (same p
          (parent_below doc c p e) (is_its_parent doc c p e))))
      | inr fewer ↦ fewer
    ]

chain_at : (doc : Doc) (k c : ℕ) (o : Option ℕ) → parent_of doc c ≡ o
    → count_below (is_above doc c) (class_count doc) ≤ k → MeetsNoCycle doc c
    → IsChain doc c (c ∷ walk (parent_of doc) k o)
chain_at doc zero c None e few free = at_root c e
chain_at doc (suc k) c None e few free = at_root c e
chain_at doc zero c (Some p) e few free =
    absurd (let one : 1 ≤ count_below (is_above doc c) (class_count doc) = counts_one
    (is_above doc c) (class_count doc) p (parent_below doc c p e) (is_its_parent doc c p e)
    in omega arith)
chain_at doc (suc k) c (Some p) e few free =
    under c p (p ∷ walk (parent_of doc) k (parent_of doc p)) e
    (chain_at doc k p (parent_of doc p) refl
    (let fewer = fewer_above doc c p e free in omega arith)
    (λ x w back. free x (reached_up doc c p x e w) back))

pub chains_are_whole : ChainsAreWhole
unfolding chain ancestors
chains_are_whole doc c h =
    chain_at doc (class_count doc) c (parent_of doc c) refl (at_most_all (is_above doc c)
    (class_count doc)) (meets_no_cycle doc c h)
