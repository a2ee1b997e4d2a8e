-- What is found in the tables is what the definitions of look-ups say.
use Rattle.std.proofs.Common.{◌≡◌, ◌≢◌, ◌-◌, ℕ, zero, suc, ◌<◌, ◌≤◌, ◌^◌, ◌==◌, Bool, true, false, cond, not, ◌&&◌, ◌||◌, List, [], ◌∷◌, ◌++◌, length, map, reverse, filter, flat_map, slice_get, Contains, Option, Some, None, option_map, option_and_then, unwrap_or, if◌then◌else◌, refl, sym, ap, subst, ◌∙◌, arith}
use Rattle.std.specs.List.{list_any, range_with_len, find as find_first}
use Rattle.std.specs.Option.{option_map_or}
use Rattle.std.proofs.lemmas.List.{reverse-reverse}
use Rattle.std.proofs.lemmas.List.FromFn.{length-map-range_with_len}
use Rattle.std.proofs.lemmas.Bool.{true≢false, false≢true}
use Rattle.dg_lex.specs.Bytes.{Bytes, is_among}
use Rattle.dg_types.specs.declared.key.Core.{Core}
use Rattle.dg_types.specs.declared.key.Core.TheVariants as core
use Rattle.dg_types.specs.declared.key.Key.{Key}
use Rattle.dg_types.specs.declared.shape.Qualifier.{Qualifier}
use Rattle.dg_decl.specs.declared.document.Doc.{Doc}
use Rattle.dg_decl.specs.declared.binding.Bind.{Bind}
use Rattle.dg_decl.specs.declared.binding.BindRef.TheVariants as ref
use Rattle.dg_decl.specs.declared.binding.Owned.{Owned}
use Rattle.dg_decl.specs.declared.binding.Found.{Found}
use Rattle.dg_decl.specs.declared.binding.Found.TheVariants as found
use Rattle.dg_decl.specs.declared.component.Class.{Class}
use Rattle.dg_decl.specs.Bounds.{IsBounded}
use Rattle.dg_decl.specs.Components.{class_count, class_of_number, component_classes, parent_of, walk, ancestors, chain, root_first, scopes_of, carries}
use Rattle.dg_decl.specs.Graph.{first_statement}
use Rattle.dg_decl.specs.Lookup.{owned, acts_in, acts_in_chain, bindings, explicit, explicit_in_chain, contributions, opens_in, found_among, find_without_explicit, find}
use Rattle.dg_decl.proofs.ComponentLemmas.{parent_below}
use Rattle.dg_decl.proofs.MemberLemmas.{in_front, out_reverse, in_reverse}
use Rattle.dg_decl.proofs.NodeCandidates.{above_small, chain_small}
use Rattle.dg_decl.proofs.NodeWalks.{any_found, any_from, in_rest}
use Rattle.dg_resolve.specs.declared.members.Wanted.{Wanted}
use Rattle.dg_resolve.specs.declared.members.Wanted.TheVariants as wanted
use Rattle.dg_resolve.specs.Chains.{parent_at, root_first_in}
use Rattle.dg_resolve.specs.Keys.{is_optional, opening_key}
use Rattle.dg_resolve.specs.Known.{in_chain, is_empty, has, member_of, first_item, scopes_at, carrier, found_in, contributions_to, HaveMembers, HaveExplicit, HaveChains}
use Rattle.dg_resolve.specs.Members.{takes}
use Rattle.dg_resolve.specs.Tables.{Rows, of_class}
use Rattle.dg_resolve.proofs.ListLemmas.{flat_map_same, any_same, at_range}
use Rattle.dg_resolve.proofs.TableLemmas.{one_test}

-- ---- chains

pub walk_one : (next : ℕ → Option ℕ) (steps : ℕ) (at : Option ℕ) (c : ℕ) → at ≡ Some c → steps ≢ 0
    → walk next steps at ≡ c ∷ walk next (steps - 1) (next c)
walk_one next zero at c is some = absurd (some refl)
walk_one next (suc steps) at c is some =
    ap (walk next (suc steps)) is
    ∙ ap (λ (n : ℕ). c ∷ walk next n (next c)) (omega arith)

walk_same : (f g : ℕ → Option ℕ) (n : ℕ) → ((c : ℕ) → c < n → f c ≡ g c)
    → ((c p : ℕ) → g c ≡ Some p → p < n) → (steps : ℕ) (o : Option ℕ)
    → ((p : ℕ) → o ≡ Some p → p < n) → walk f steps o ≡ walk g steps o
walk_same f g n same small zero o within = refl
walk_same f g n same small (suc steps) None within = refl
walk_same f g n same small (suc steps) (Some c) within =
    ap (λ (o : Option ℕ). c ∷ walk f steps o) (same c (within c refl))
    ∙ ap (λ (l : List ℕ). c ∷ l) (walk_same f g n same small steps (g c) (λ p e. small c p e))

pub parent_is : (doc : Doc) (classes : List Class) (c : ℕ) → classes ≡ component_classes doc
    → c < class_count doc → parent_at classes c ≡ parent_of doc c
unfolding component_classes
parent_is doc classes c e lt =
    ap (λ (l : List Class). parent_at l c) e
    ∙ ap (λ (o : Option Class). option_and_then (λ x. x.parent) o) (at_range (class_of_number doc) (class_count doc) c lt)

pub count_is : (doc : Doc) (classes : List Class) → classes ≡ component_classes doc
    → length classes ≡ class_count doc
unfolding component_classes
count_is doc classes e = ap length e ∙ length-map-range_with_len (class_of_number doc) 0 (class_count doc)

pub chain_is : (doc : Doc) (classes : List Class) (c : ℕ) → classes ≡ component_classes doc
    → c < class_count doc → root_first_in classes c ≡ root_first doc c
unfolding root_first_in chain ancestors
chain_is doc classes c e lt =
    ap (λ (n : ℕ). reverse (c ∷ walk (parent_at classes) n (parent_at classes c))) (count_is doc classes e)
    ∙ ap (λ (o : Option ℕ). reverse (c ∷ walk (parent_at classes) (class_count doc) o)) (parent_is doc classes c e lt)
    ∙ ap (λ (l : List ℕ). reverse (c ∷ l)) (walk_same (parent_at classes) (parent_of doc) (class_count doc)
    (λ x h. parent_is doc classes x e h) (λ x p h. parent_below doc x p h) (class_count doc) (parent_of doc c)
    (λ p h. parent_below doc c p h))

pub chains_are : (doc : Doc) (classes : List Class) (chains : List (List ℕ)) → classes ≡ component_classes doc
    → chains ≡ map (root_first_in classes) (range_with_len 0 (length classes)) → HaveChains doc chains
chains_are doc classes chains e is = record {
  each = λ c lt.
      ap (λ (l : List (List ℕ)). unwrap_or (slice_get l c) []) is
      ∙ ap (λ (o : Option (List ℕ)). unwrap_or o []) (at_range (root_first_in classes) (length classes) c (rw (count_is doc classes e) lt))
      ∙ chain_is doc classes c e lt;
}

pub chain_in : {X : Type 0} (items : X → List ℕ) (chains : List X) (c : ℕ)
    → option_map_or items (slice_get chains c) [] ≡ unwrap_or (slice_get (map items chains) c) []
chain_in items [] c = refl
chain_in items (x ∷ xs) zero = refl
chain_in items (x ∷ xs) (suc c) = chain_in items xs c

pub few_classes : (doc : Doc) (classes : List Class) → IsBounded doc → classes ≡ component_classes doc
    → length classes < 2 ^ 32
few_classes doc classes bounded e =
    let few : class_count doc ≤ 128 = bounded.classes in
    let same : length classes ≡ class_count doc = count_is doc classes e in
    omega arith

-- ---- along a chain

pub explicit_found : (doc : Doc) (tables : List Rows) (c : ℕ) (k : Key) → HaveExplicit doc tables
    → c < class_count doc → in_chain tables k (root_first doc c) ≡ explicit_in_chain doc c k
unfolding explicit_in_chain
explicit_found doc tables c k have lt =
    flat_map_same (λ o. of_class o k tables) (λ o. explicit doc o k) (root_first doc c)
    (λ o h. have.each o k (above_small doc c o lt h))

pub contributions_found : (doc : Doc) (tables : List Rows) (c : ℕ) (k : Key)
    → HaveMembers doc wanted.Contribution tables → c < class_count doc
    → in_chain tables k (root_first doc c) ≡ contributions_to doc c k
contributions_found doc tables c k have lt =
    flat_map_same (λ o. of_class o k tables)
    (λ o. map (λ b. owned o (ref.Member b.item)) (filter (acts_in doc o (takes wanted.Contribution) k) (bindings doc)))
    (root_first doc c)
    (λ o h. have.each o k (above_small doc c o lt h))

any_reverse : {X : Type 0} (p : X → Bool) (xs : List X) → list_any p (reverse xs) ≡ list_any p xs
any_reverse p xs =
    one_test (list_any p (reverse xs)) (list_any p xs)
    (λ e. (let f = any_found p (reverse xs) e in any_from p xs f.at (out_reverse xs f.at f.among) f.passes))
    (λ e. (let f = any_found p xs e in any_from p (reverse xs) f.at (in_reverse xs f.at f.among) f.passes))

some_pass : (f : Bind → Owned) (p : Bind → Bool) (bs : List Bind)
    → not (is_empty (map f (filter p bs))) ≡ list_any p bs
some_pass f p [] = refl
some_pass f p (b ∷ bs) = by (p b) (some_pass f p bs)
  where
    by : (t : Bool) → not (is_empty (map f (filter p bs))) ≡ list_any p bs
        → not (is_empty (map f (cond t (b ∷ filter p bs) (filter p bs)))) ≡ (t || list_any p bs)
    by true e = refl
    by false e = e

pub acts_found : (doc : Doc) (w : Wanted) (tables : List Rows) (c : ℕ) (k : Key)
    → HaveMembers doc w tables → c < class_count doc
    → list_any (has tables k) (root_first doc c) ≡ acts_in_chain doc c (takes w) k
acts_found doc w tables c k have lt =
    any_same (has tables k) (λ o. list_any (acts_in doc o (takes w) k) (bindings doc)) (root_first doc c)
    (λ o h. ap (λ (l : List Owned). not (is_empty l)) (have.each o k (above_small doc c o lt h))
    ∙ some_pass (λ b. owned o (ref.Member b.item)) (acts_in doc o (takes w) k) (bindings doc))
    ∙ any_reverse (λ o. list_any (acts_in doc o (takes w) k) (bindings doc)) (chain doc c)

-- ---- first statements

heads : (g : ℕ → List Bind) (chain : List ℕ)
    → option_and_then (λ o. member_of o.binding) (slice_get (flat_map (λ o. map (λ b. owned o (ref.Member b.item)) (g o)) chain) 0)
    ≡ option_map (λ b. b.item) (slice_get (flat_map g chain) 0)
heads g [] = refl
heads g (c ∷ cs) = by (g c) (heads g cs)
  where
    by : (bs : List Bind)
        → option_and_then (λ o. member_of o.binding) (slice_get (flat_map (λ o. map (λ b. owned o (ref.Member b.item)) (g o)) cs) 0)
        ≡ option_map (λ b. b.item) (slice_get (flat_map g cs) 0)
        → option_and_then (λ o. member_of o.binding) (slice_get (map (λ b. owned c (ref.Member b.item)) bs ++ flat_map (λ o. map (λ b. owned o (ref.Member b.item)) (g o)) cs) 0)
        ≡ option_map (λ b. b.item) (slice_get (bs ++ flat_map g cs) 0)
    by [] e = e
    by (b ∷ bs) e = refl

first_found : (doc : Doc) (w : Wanted) (tables : List Rows) (c : ℕ) (k : Key) → HaveMembers doc w tables
    → c < class_count doc
    → first_item tables k (root_first doc c)
    ≡ option_map (λ b. b.item) (slice_get (flat_map (λ o. filter (acts_in doc o (takes w) k) (bindings doc)) (root_first doc c)) 0)
first_found doc w tables c k have lt =
    ap (λ (l : List Owned). option_and_then (λ o. member_of o.binding) (slice_get l 0))
    (flat_map_same (λ o. of_class o k tables)
    (λ o. map (λ b. owned o (ref.Member b.item)) (filter (acts_in doc o (takes w) k) (bindings doc)))
    (root_first doc c)
    (λ o h. have.each o k (above_small doc c o lt h)))
    ∙ heads (λ o. filter (acts_in doc o (takes w) k) (bindings doc)) (root_first doc c)

-- the table in which the first statement of a key is looked for
abbrev pub table_of : Bool → List Rows → List Rows → List Rows
table_of b optionals openings = cond b optionals openings

first_of_core : (doc : Doc) (optionals openings : List Rows) (c : ℕ) (q : Option Qualifier) (x : Core)
    → HaveMembers doc wanted.Optional optionals → HaveMembers doc wanted.Opening openings
    → c < class_count doc
    → first_item (table_of (is_optional x) optionals openings) (opening_key (record { qualifier = q; core = x })) (root_first doc c)
    ≡ first_statement doc c (record { qualifier = q; core = x })
first_of_core doc optionals openings c q (core.One b) has_optionals has_openings lt =
    first_found doc wanted.Opening openings c _ has_openings lt
first_of_core doc optionals openings c q (core.Set b i) has_optionals has_openings lt =
    first_found doc wanted.Opening openings c _ has_openings lt
first_of_core doc optionals openings c q (core.Map m b i) has_optionals has_openings lt =
    first_found doc wanted.Opening openings c _ has_openings lt
first_of_core doc optionals openings c q (core.Optional b i) has_optionals has_openings lt =
    first_found doc wanted.Optional optionals c _ has_optionals lt

pub first_is : (doc : Doc) (optionals openings : List Rows) (c : ℕ) (k : Key)
    → HaveMembers doc wanted.Optional optionals → HaveMembers doc wanted.Opening openings
    → c < class_count doc
    → first_item (table_of (is_optional k.core) optionals openings) (opening_key k) (root_first doc c)
    ≡ first_statement doc c k
first_is doc optionals openings c k = first_of_core doc optionals openings c k.qualifier k.core

-- ---- contributions

pub contributions_are : (doc : Doc) (c : ℕ) (k : Key) → is_optional k.core ≡ false
    → contributions_to doc c (opening_key k) ≡ contributions doc c k
unfolding contributions
contributions_are doc c k e = by k.qualifier k.core e
  where
    by : (q : Option Qualifier) (x : Core) → is_optional x ≡ false
        → contributions_to doc c (opening_key (record { qualifier = q; core = x }))
        ≡ contributions doc c (record { qualifier = q; core = x })
    by q (core.One b) e = refl
    by q (core.Set b i) e = refl
    by q (core.Map m b i) e = refl
    by q (core.Optional b i) e = absurd (true≢false e)

pub contributions_of_optional : (doc : Doc) (c : ℕ) (k : Key) → is_optional k.core ≡ true
    → contributions_to doc c k ≡ contributions doc c k
unfolding contributions
contributions_of_optional doc c k e = by k.qualifier k.core e
  where
    by : (q : Option Qualifier) (x : Core) → is_optional x ≡ true
        → contributions_to doc c (record { qualifier = q; core = x })
        ≡ contributions doc c (record { qualifier = q; core = x })
    by q (core.One b) e = absurd (false≢true e)
    by q (core.Set b i) e = absurd (false≢true e)
    by q (core.Map m b i) e = absurd (false≢true e)
    by q (core.Optional b i) e = refl

-- ---- scopes

scopes_are : (doc : Doc) (classes : List Class) (c : ℕ) → classes ≡ component_classes doc
    → c < class_count doc → scopes_at classes c ≡ scopes_of doc c
unfolding component_classes
scopes_are doc classes c e lt =
    ap (λ (l : List Class). scopes_at l c) e
    ∙ ap (λ (o : Option Class). option_map_or (λ x. x.scopes) o []) (at_range (class_of_number doc) (class_count doc) c lt)

find_same : (p q : ℕ → Bool) (xs : List ℕ) → ((x : ℕ) → Contains xs x → p x ≡ q x)
    → find_first p xs ≡ find_first q xs
find_same p q [] e = refl
find_same p q (x ∷ xs) e =
    ap (λ (b : Bool). cond b (Some x) (find_first p xs)) (e x (in_front x xs))
    ∙ ap (λ (o : Option ℕ). cond (q x) (Some x) o) (find_same p q xs (λ y c. e y (in_rest y x xs c)))

pub carrier_is : (doc : Doc) (classes : List Class) (c : ℕ) (scope : Bytes) → classes ≡ component_classes doc
    → c < class_count doc
    → carrier classes scope (root_first doc c) ≡ find_first (carries doc scope) (chain doc c)
carrier_is doc classes c scope e lt =
    ap (λ (l : List ℕ). find_first (λ o. is_among scope (scopes_at classes o)) l) (reverse-reverse (chain doc c))
    ∙ find_same (λ o. is_among scope (scopes_at classes o)) (carries doc scope) (chain doc c)
    (λ o h. ap (is_among scope) (scopes_are doc classes o e (chain_small doc c o lt h)))

-- ---- what is found

pub found_is : (os : List Owned) (otherwise : Found) → unwrap_or (found_in os) otherwise ≡ found_among os otherwise
found_is [] otherwise = refl
found_is (o ∷ []) otherwise = refl
found_is (o ∷ p ∷ os) otherwise = refl
