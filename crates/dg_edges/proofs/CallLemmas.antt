-- The edges of calls, one after another.
use Rattle.std.proofs.Common.{◌≡◌, ◌++◌, ◌∷◌, [], ◌+◌, ◌<◌, ℕ, List, map, take, get_or, length, append_assoc, ap, sym, ◌∙◌}
use Rattle.std.proofs.lemmas.List.{append-nil, take_more}
use Rattle.std.proofs.lemmas.List.Elements.{filter_map-append}
use Rattle.dg_lex.specs.Bytes.{Bytes}
use Rattle.dg_decl.specs.declared.graph.Node.{Node}
use Rattle.dg_decl.specs.declared.graph.Edge.{Edge}
use Rattle.dg_decl.specs.Bodies.{all_of}
use Rattle.dg_decl.specs.Graph.{Dependency}
use Rattle.dg_edges.specs.Numbered.{called, called_by}

pub adds_none : (ns : List Node) (ds : List Dependency) (old : List Edge)
    → old ++ called_by ns ds [] ≡ old
unfolding called_by
adds_none ns ds old = append-nil old

called_two : (ns : List Node) (ds : List Dependency) (xs ys : List Bytes)
    → called_by ns ds (xs ++ ys) ≡ called_by ns ds xs ++ called_by ns ds ys
unfolding called_by
called_two ns ds xs ys = filter_map-append (called ns ds) xs ys

pub two_more : (ns : List Node) (ds : List Dependency) (old : List Edge) (xs ys : List Bytes)
    → (old ++ called_by ns ds xs) ++ called_by ns ds ys ≡ old ++ called_by ns ds (xs ++ ys)
two_more ns ds old xs ys =
    append_assoc old (called_by ns ds xs) (called_by ns ds ys)
    ∙ ap (λ (es : List Edge). old ++ es) (sym (called_two ns ds xs ys))

pub ruleset steps = (adds_none, two_more)

all_push : {A : Type 0} (f : A → List Bytes) (xs : List A) (x : A)
    → all_of (map f (xs ++ x ∷ [])) ≡ all_of (map f xs) ++ f x
all_push f [] x = append-nil (f x)
all_push f (y ∷ ys) x = ap (λ (t : List Bytes). f y ++ t) (all_push f ys x)
    ∙ sym (append_assoc (f y) (all_of (map f ys)) (f x))

all_more : {A : Type 0} (f : A → List Bytes) (xs : List A) (i : ℕ) (x : A) → i < length xs
    → x ≡ get_or xs i x → all_of (map f (take (i + 1) xs)) ≡ all_of (map f (take i xs)) ++ f x
all_more {A} f xs i x lt is =
    ap (λ (ys : List A). all_of (map f ys)) (take_more xs i x lt)
    ∙ ap (λ (y : A). all_of (map f (take i xs ++ y ∷ []))) (sym is)
    ∙ all_push f (take i xs) x

-- the edges of the calls in one more of these
pub goes_on : {A : Type 0} (ns : List Node) (ds : List Dependency) (f : A → List Bytes)
    (xs : List A) (i : ℕ) (x : A) (old mid new : List Edge) → i < length xs → x ≡ get_or xs i x
    → mid ≡ old ++ called_by ns ds (all_of (map f (take i xs)))
    → new ≡ mid ++ called_by ns ds (f x)
    → new ≡ old ++ called_by ns ds (all_of (map f (take (i + 1) xs)))
goes_on ns ds f xs i x old mid new lt is first second =
    second ∙ ap (λ (es : List Edge). es ++ called_by ns ds (f x)) first
    ∙ two_more ns ds old (all_of (map f (take i xs))) (f x)
    ∙ ap (λ (ys : List Bytes). old ++ called_by ns ds ys) (sym (all_more f xs i x lt is))
