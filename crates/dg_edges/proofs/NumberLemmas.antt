-- Nodes that all differ keep their places in a set, and have the same numbers there.
use Rattle.std.proofs.Common.{◌≡◌, ℕ, zero, suc, ◌+◌, ◌<◌, Bool, true, false, List, [], ◌∷◌, ◌++◌, length, get_or, take, position, Option, if◌then◌else◌, refl, sym, ap, ◌∙◌, arith}
use Rattle.std.specs.List.{IsDistinct, list_any, AllByRecursion}
use Rattle.std.proofs.lemmas.Bool.{false≢true}
use Rattle.std.proofs.lemmas.List.{take_more}
use Rattle.indexmap.specs.IndexSet.{insert_key}
use Rattle.dg_decl.specs.contracts.graph.NodePartialEq.TheImpl as of_nodes
use Rattle.dg_decl.specs.declared.graph.Node.{Node}
use Rattle.dg_decl.specs.Graph.{same_node, number_of}
use Rattle.dg_decl.proofs.NodeEquality.{node_decides}
use Rattle.dg_edges.specs.Numbered.{same}
use Rattle.dg_edges.proofs.DerivedEquality.{same_decides}

bools : (a b : Bool) → (a ≡ true → b ≡ true) → (b ≡ true → a ≡ true) → a ≡ b
bools true true f g = refl
bools false false f g = refl
bools true false f g = sym (f refl)
bools false true f g = g refl

-- the two tests of equality of nodes agree
tests_agree : (m n : Node) → same m n ≡ same_node m n
tests_agree m n =
    bools (same m n) (same_node m n)
    (λ h. (node_decides m n).1 ((same_decides m n).0 h))
    (λ h. (same_decides m n).1 ((node_decides m n).0 h))

pub number_is : (ns keys : List Node) (n : Node) (o : Option ℕ) → keys ≡ ns
    → o ≡ position (of_nodes.ghosts.eq n) keys → o ≡ number_of ns n
unfolding same
number_is ns keys n o here e =
    e ∙ (λ i. position (λ (m : Node). tests_agree n m i) keys)
    ∙ ap (λ (xs : List Node). number_of xs n) here

-- ---- a set of nodes that all differ

apart : (x y : Node) (xs : List Node) (i : ℕ) → AllByRecursion (λ z. same_node x z ≡ false) xs
    → i < length xs → y ≡ get_or xs i y → same_node x y ≡ false
apart x y [] i h lt is = absurd (omega arith)
apart x y (z ∷ zs) zero h lt is = ap (same_node x) is ∙ h.0
apart x y (z ∷ zs) (suc i) h lt is = apart x y zs i h.1 (omega arith) is

new_here : (xs : List Node) (i : ℕ) (x : Node) → IsDistinct same_node xs → i < length xs
    → x ≡ get_or xs i x → list_any (same x) (take i xs) ≡ false
unfolding IsDistinct
new_here [] i x h lt is = absurd (omega arith)
new_here (y ∷ ys) zero x h lt is = refl
new_here (y ∷ ys) (suc i) x h lt is =
    rw (tests_agree x y, turned x y (apart y x ys i h.0 (omega arith) is)) (new_here ys i x h.1
    (omega arith) is)
  where
    turned : (m n : Node) → same_node n m ≡ false → same_node m n ≡ false
    turned m n e =
        bools (same_node m n) false
        (λ t. sym e ∙ (node_decides n m).1 (sym ((node_decides m n).0 t)))
        (λ t. absurd (false≢true t))

pub one_more : (xs : List Node) (i : ℕ) (x : Node) (old new : List Node)
    → IsDistinct same_node xs → i < length xs → x ≡ get_or xs i x → old ≡ take i xs
    → new ≡ insert_key same old x → new ≡ take (i + 1) xs
one_more xs i x old new once lt is before e =
    e ∙ ap (λ (ks : List Node). insert_key same ks x) before
    ∙ ap (λ (b : Bool). if b then take i xs else take i xs ++ x ∷ []) (new_here xs i x once lt is)
    ∙ ap (λ (y : Node). take i xs ++ y ∷ []) is ∙ sym (take_more xs i x lt)
