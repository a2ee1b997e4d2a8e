-- Lists of found nodes of a class, part by part.
use Rattle.std.proofs.Common.{◌≡◌, ℕ, Bool, true, false, List, [], ◌∷◌, ◌++◌, map, filter, ◌&&◌, if◌then◌else◌, append_assoc, refl, sym, ap, ◌∙◌}
use Rattle.std.specs.Prelude.{Result, Ok, Err, OnOk}
use Rattle.std.proofs.lemmas.List.{append-nil, map-append}
use Rattle.std.proofs.lemmas.List.Elements.{filter-append}
use Rattle.dg_decl.specs.declared.graph.Node.{Node}
use Rattle.dg_decl.specs.declared.graph.NodeKind.{NodeKind}
use Rattle.dg_decl.specs.Graph.{node_of}
use Rattle.dg_types.specs.declared.key.Key.{Key}
use Rattle.dg_types.specs.declared.key.Inner.{Inner}
use Rattle.dg_decl.specs.declared.binding.BindKind.{BindKind}
use Rattle.dg_decl.specs.declared.document.Doc.{Doc}
use Rattle.dg_graph.specs.Kept.{is_among, kept, stands_at, has_group, group, group_at}

pub kept_none : (found : List Node) (c : ℕ) → kept found c [] ≡ []
unfolding kept
kept_none found c = refl

pub kept_both : (found : List Node) (c : ℕ) (ks ls : List NodeKind)
    → kept found c (ks ++ ls) ≡ kept found c ks ++ kept found c ls
unfolding kept
kept_both found c ks ls =
    ap (filter (is_among found)) (map-append (node_of c) ks ls)
    ∙ filter-append (is_among found) (map (node_of c) ks) (map (node_of c) ls)

kept_one : (found : List Node) (c : ℕ) (k : NodeKind) (b : Bool) → is_among found (node_of c k) ≡ b
    → kept found c (k ∷ []) ≡ (if b then node_of c k ∷ [] else [])
unfolding kept
kept_one found c k b e = ap (λ (t : Bool). if t then node_of c k ∷ [] else []) e

pub adds_none : (found : List Node) (c : ℕ) (old : List Node) → old ++ kept found c [] ≡ old
adds_none found c old = ap (λ (l : List Node). old ++ l) (kept_none found c) ∙ append-nil old

pub two_more : (found : List Node) (c : ℕ) (old : List Node) (ks ls : List NodeKind)
    → (old ++ kept found c ks) ++ kept found c ls ≡ old ++ kept found c (ks ++ ls)
two_more found c old ks ls =
    append_assoc old (kept found c ks) (kept found c ls)
    ∙ ap (λ (l : List Node). old ++ l) (sym (kept_both found c ks ls))

pub goes_on : (found : List Node) (c : ℕ) (old mid new : List Node) (ks ls all : List NodeKind)
    → all ≡ ks ++ ls → mid ≡ old ++ kept found c ks → new ≡ mid ++ kept found c ls
    → new ≡ old ++ kept found c all
goes_on found c old mid new ks ls all are first second =
    second ∙ ap (λ (l : List Node). l ++ kept found c ls) first ∙ two_more found c old ks ls
    ∙ ap (λ (l : List NodeKind). old ++ kept found c l) (sym are)

-- ---- a node that is found, and one that isn't

pub on_ok : {V E : Type 0} {P Q : Type 0} (r : Result V E) → (P → Q) → OnOk r P → OnOk r Q
on_ok (Ok x) f h = f h
on_ok (Err e) f h = tt

pub keeps_one : (found : List Node) (c : ℕ) (k : NodeKind) (b : Bool) (old new : List Node)
    → b ≡ is_among found (node_of c k) → new ≡ old ++ (if b then node_of c k ∷ [] else [])
    → new ≡ old ++ kept found c (k ∷ [])
keeps_one found c k b old new is added =
    added ∙ ap (λ (l : List Node). old ++ l) (sym (kept_one found c k b (sym is)))

-- ---- a set, map or optional

pub keeps_group : (doc : Doc) (found : List Node) (c index : ℕ) (does : BindKind) (key : Key)
    (j : Inner)
    (has b : Bool) (old new : List Node) → has ≡ has_group does key.core j → has ≡ true
    → b ≡ (is_among found (node_of c (group does key j)) && stands_at doc c index
    (group does key j))
    → new ≡ old ++ (if b then node_of c (group does key j) ∷ [] else [])
    → new ≡ old ++ kept found c (group_at doc c index does key j)
unfolding group_at
keeps_group doc found c index does key j has b old new is so listed added =
    added ∙ ap (λ (l : List Node). old ++ l) (ap (λ (t : Bool). if t then node_of c
    (group does key j) ∷ [] else []) listed ∙ same ∙ sym there)
  where
    g : NodeKind
    g = group does key j

    there : kept found c (if has_group does key.core j then (if stands_at doc c index g then g ∷ []
        else []) else [])
        ≡ kept found c (if stands_at doc c index g then g ∷ [] else [])
    there = ap (λ (t : Bool). kept found c (if t then (if stands_at doc c index g then g ∷ [] else
        []) else [])) (sym is ∙ so)

    at : (s : Bool) → (if is_among found (node_of c g) && s then node_of c g ∷ [] else [])
        ≡ kept found c (if s then g ∷ [] else [])
    at true = both (is_among found (node_of c g)) ∙ sym (kept_one found c g
        (is_among found (node_of c g)) refl)
      where
        both : (t : Bool) → (if t && true then node_of c g ∷ [] else []) ≡
            (if t then node_of c g ∷ [] else [])
        both true = refl
        both false = refl
    at false = neither (is_among found (node_of c g)) ∙ sym (kept_none found c)
      where
        neither : (t : Bool) → (if t && false then node_of c g ∷ [] else []) ≡ []
        neither true = refl
        neither false = refl

    same : (if is_among found (node_of c g) && stands_at doc c index g then node_of c g ∷ [] else
        [])
        ≡ kept found c (if stands_at doc c index g then g ∷ [] else [])
    same = at (stands_at doc c index g)

pub no_group : (doc : Doc) (found : List Node) (c index : ℕ) (does : BindKind) (key : Key)
    (j : Inner)
    (has : Bool) (old : List Node) → has ≡ has_group does key.core j → has ≡ false
    → old ≡ old ++ kept found c (group_at doc c index does key j)
unfolding group_at
no_group doc found c index does key j has old is so =
    sym (adds_none found c old)
    ∙ ap (λ (t : Bool). old ++ kept found c (if t then (if stands_at doc c index
    (group does key j) then group does key j ∷ [] else []) else []))
    (sym (sym is ∙ so))

-- five parts, one after another
pub five_more : (found : List Node) (c : ℕ) (n0 n1 n2 n3 n4 n5 : List Node)
    (ks ls ms os ps : List NodeKind)
    → n1 ≡ n0 ++ kept found c ks → n2 ≡ n1 ++ kept found c ls → n3 ≡ n2 ++ kept found c ms
    → n4 ≡ n3 ++ kept found c os → n5 ≡ n4 ++ kept found c ps
    → n5 ≡ n0 ++ kept found c (ks ++ (ls ++ (ms ++ (os ++ ps))))
five_more found c n0 n1 n2 n3 n4 n5 ks ls ms os ps a b d e f =
    goes_on found c n0 n1 n5 ks (ls ++ (ms ++ (os ++ ps))) _ refl a
    (goes_on found c n1 n2 n5 ls (ms ++ (os ++ ps)) _ refl b
    (goes_on found c n2 n3 n5 ms (os ++ ps) _ refl d
    (goes_on found c n3 n4 n5 os ps _ refl e f)))
