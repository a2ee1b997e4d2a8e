-- Tables: how what is seen of a map changes.
use Rattle.std.proofs.Common.{◌≡◌, ℕ, zero, suc, ◌+◌, ◌≤◌, length, drop, slice_get, Bool, true, false, cond, List, [], ◌∷◌, ◌++◌, map, Option, Some, None, unwrap_or, if◌then◌else◌, Decides, refl, sym, ap, ◌∙◌, true≢false, arith}
use Rattle.std.specs.Map.{lookup}
use Rattle.std.specs.Option.{option_map}
use Rattle.std.proofs.lemmas.List.{append-nil}
use Rattle.dg_resolve.specs.Tables.{under, Adds}

-- two tests that are true together are equal
pub one_test : (a b : Bool) → (a ≡ true → b ≡ true) → (b ≡ true → a ≡ true) → a ≡ b
one_test true true f g = refl
one_test true false f g = absurd (true≢false (sym (f refl)))
one_test false true f g = absurd (true≢false (sym (g refl)))
one_test false false f g = refl

-- ---- a search from front to end

module _ {K X : Type 0} (test : K → Bool) where
  at_place : (entries : List (K × X)) (p : ℕ) (e : K × X) → Some e ≡ slice_get entries p
      → drop p entries ≡ e ∷ drop (suc p) entries
  at_place [] p e is = cc
  at_place (x ∷ xs) zero e is = cc
  at_place (x ∷ xs) (suc p) e is = at_place xs p e is

  pub found_here : (entries : List (K × X)) (p : ℕ) (e : K × X) → lookup test (drop p entries) ≡ lookup test entries
      → Some e ≡ slice_get entries p → test e.0 ≡ true → lookup test entries ≡ Some e.1
  found_here entries p e same is here =
      sym same ∙ ap (lookup test) (at_place entries p e is)
      ∙ ap (λ (b : Bool). cond b (Some e.1) (lookup test (drop (suc p) entries))) here

  pub found_later : (entries : List (K × X)) (p : ℕ) (e : K × X) → lookup test (drop p entries) ≡ lookup test entries
      → Some e ≡ slice_get entries p → test e.0 ≡ false → lookup test (drop (p + 1) entries) ≡ lookup test entries
  found_later entries p e same is other =
      let next : p + 1 ≡ suc p = omega arith in
      ap (λ (n : ℕ). lookup test (drop n entries)) next
      ∙ sym (ap (lookup test) (at_place entries p e is)
      ∙ ap (λ (b : Bool). cond b (Some e.1) (lookup test (drop (suc p) entries))) other)
      ∙ same

  none_left : (entries : List (K × X)) (p : ℕ) → length entries ≤ p → drop p entries ≡ []
  none_left [] zero le = refl
  none_left [] (suc p) le = refl
  none_left (x ∷ xs) zero le = absurd (omega arith)
  none_left (x ∷ xs) (suc p) le = none_left xs p (omega arith)

  pub found_nowhere : (entries : List (K × X)) (p : ℕ) → lookup test (drop p entries) ≡ lookup test entries
      → length entries ≤ p → lookup test entries ≡ None
  found_nowhere entries p same le = sym same ∙ ap (lookup test) (none_left entries p le)

  none_at : (entries : List (K × X)) (p : ℕ) → None ≡ slice_get entries p → drop p entries ≡ []
  none_at [] zero is = refl
  none_at [] (suc p) is = refl
  none_at (x ∷ xs) zero is = cc
  none_at (x ∷ xs) (suc p) is = none_at xs p is

  -- no entry stands at the place
  pub found_past : (entries : List (K × X)) (p : ℕ) → lookup test (drop p entries) ≡ lookup test entries
      → None ≡ slice_get entries p → lookup test entries ≡ None
  found_past entries p same is = sym same ∙ ap (lookup test) (none_at entries p is)

-- ---- what is seen of a map

module _ {K X V : Type 0} (same : K → K → Bool) (decides : (a b : K) → Decides (same a b) (a ≡ b)) (value : X → List V) where
  -- a map's entries as they are seen
  abbrev pub rows : List (K × X) → List (K × List V)
  rows entries = map (λ e. (e.0, value e.1)) entries

  pub lookup-rows : (test : K → Bool) (entries : List (K × X))
      → option_map value (lookup test entries) ≡ lookup test (rows entries)
  lookup-rows test [] = refl
  lookup-rows test (e ∷ es) = by (test e.0) (lookup-rows test es)
    where
      by : (b : Bool) → option_map value (lookup test es) ≡ lookup test (rows es)
          → option_map value (cond b (Some e.1) (lookup test es))
          ≡ cond b (Some (value e.1)) (lookup test (rows es))
      by true rest = refl
      by false rest = rest

  pub symmetric : (q r : K) → same q r ≡ same r q
  symmetric q r =
      one_test (same q r) (same r q) (λ e. (decides r q).1 (sym ((decides q r).0 e)))
      (λ e. (decides q r).1 (sym ((decides r q).0 e)))

  -- The map has this value at the key, and at each other key what it had; so one more stands under
  -- the key, where the value is what stood there with it behind.
  pub adds : (key : K) (o : V) (old new : List (K × X)) (x : X)
      → ((q : K) → lookup (same q) new ≡ cond (same key q) (Some x) (lookup (same q) old))
      → value x ≡ under same key (rows old) ++ o ∷ []
      → Adds same key o (rows old) (rows new)
  adds key o old new x updates is = record { each = λ q. at q (same q key) refl }
    where
      got : (q : K) (b : Bool) → same q key ≡ b
          → lookup (same q) (rows new) ≡ option_map value (cond b (Some x) (lookup (same q) old))
      got q b e =
          sym (lookup-rows (same q) new) ∙ ap (option_map value) (updates q)
          ∙ ap (λ (t : Bool). option_map value (cond t (Some x) (lookup (same q) old))) (symmetric key q ∙ e)

      at : (q : K) (b : Bool) → same q key ≡ b
          → under same q (rows new) ≡ under same q (rows old) ++ (if b then o ∷ [] else [])
      at q true e =
          ap (λ (w : Option (List V)). unwrap_or w []) (got q true e) ∙ is
          ∙ ap (λ (k : K). under same k (rows old) ++ o ∷ []) (sym ((decides q key).0 e))
      at q false e =
          ap (λ (w : Option (List V)). unwrap_or w []) (got q false e ∙ lookup-rows (same q) old)
          ∙ sym (append-nil (under same q (rows old)))

  -- what stands under a key is the value of the map
  pub stands : (q : K) (entries : List (K × X)) (o : Option X) → o ≡ lookup (same q) entries
      → unwrap_or (option_map value o) [] ≡ under same q (rows entries)
  stands q entries o e =
      ap (λ (w : Option X). unwrap_or (option_map value w) []) e
      ∙ ap (λ (w : Option (List V)). unwrap_or w []) (lookup-rows (same q) entries)

  -- the same where the key is new, and a copy of it goes in
  pub adds_new : (key copy : K) (o : V) (old mid new : List (K × X)) (x : X) → copy ≡ key → mid ≡ old
      → ((q : K) → lookup (same q) new ≡ cond (same copy q) (Some x) (lookup (same q) mid))
      → None ≡ lookup (same key) old → value x ≡ o ∷ []
      → Adds same key o (rows old) (rows new)
  adds_new key copy o old mid new x as_key as_old updates absent is =
      adds key o old new x
      (λ q. updates q
      ∙ ap (λ (k : K). cond (same k q) (Some x) (lookup (same q) mid)) as_key
      ∙ ap (λ (m : List (K × X)). cond (same key q) (Some x) (lookup (same q) m)) as_old)
      (is ∙ ap (λ (l : List V). l ++ o ∷ []) (stands key old None absent))
