-- Types, their uses and parameters are read back from their tokens.
use Rattle.std.proofs.Common.{ℕ, zero, suc, ◌≡◌, ◌≤◌, true, false, ◌&&◌, List, [], ◌∷◌, ◌++◌, Some, refl, sym, ap, subst, ◌∙◌, append_assoc, arith}
use Rattle.std.specs.Prelude.{◌||◌, not, max, codes}
use Rattle.std.specs.Str.{bytes_eq}
use Rattle.std.proofs.lemmas.Bool.{and_parts, or_parts, not-true}
use Rattle.dg_types.specs.declared.shape.Shape.{Shape, roll-Shape}
use Rattle.dg_types.specs.declared.shape.Shape.TheVariants as shape
use Rattle.dg_types.specs.declared.shape.Shape.TheOpen.{Shape-F}
use Rattle.dg_types.specs.declared.shape.Shape.TheFolds.{ind-Shape, map-Shape}
use Rattle.dg_lex.specs.declared.token.TokenKind.TheVariants as kind
use Rattle.dg_lex.specs.Bytes.{Bytes, is_among}
use Rattle.dg_lex.specs.Tokens.{is_name}
use Rattle.dg_lex.specs.Lexemes.{Lexeme}
use Rattle.dg_decl.specs.Readers.{Reader, ◌>>=◌, pure, comes, taken, eaten, spelled}
use Rattle.dg_decl.specs.TypeForms.{shape_named, constructed, type_over, type_within}
use Rattle.dg_decl.specs.Written.{name_token, sign_token, constructor_of, WrittenType, written_type}
use Rattle.dg_decl.proofs.WrittenEquations.{written_type-Text, written_type-Int, written_type-Named, written_type-Set, written_type-Map, written_type-Optional, written_type-Provider, written_type-Lazy, written_type-Producer, written_type-Produced}

-- no `<` comes next
abbrev pub NoParts : List Lexeme → Type 0
NoParts rest = comes kind.Sign (codes "<") rest ≡ false

-- a type is read back wherever it may nest so deep
abbrev pub IsReadBack : Shape → Type 0
IsReadBack s = (written_type s).fits ≡ true → (d : ℕ) → (written_type s).depth ≤ d → (rest : List Lexeme) → NoParts rest → type_within d ((written_type s).tokens ++ rest) ≡ Some (s, rest)

named_over : (inner : Reader Shape) (n : Bytes) (rest : List Lexeme) → NoParts rest → type_over inner (name_token n ∷ rest) ≡ Some (shape_named n, rest)
unfolding type_over spelled eaten
named_over inner n rest none = rw none refl

within_over : (d : ℕ) (n : Bytes) (s : Shape) (rest : List Lexeme) → 1 ≤ d → shape_named n ≡ s → NoParts rest → type_within d (name_token n ∷ rest) ≡ Some (s, rest)
unfolding type_within
within_over zero n s rest le is none = absurd (omega arith)
within_over (suc d) n s rest le is none = named_over (type_within d) n rest none ∙ ap (λ (t : Shape). Some (t, rest)) is

text_back : IsReadBack shape.Text
text_back fits d le rest none = rw written_type-Text (within_over d (codes "Text") shape.Text rest (rw written_type-Text at le) refl none)

int_back : IsReadBack shape.Int
int_back fits d le rest none = rw written_type-Int (within_over d (codes "Int") shape.Int rest (rw written_type-Int at le) refl none)

other_name : (n : Bytes) → not (is_among n (codes "Text" ∷ codes "Int" ∷ [])) ≡ true → shape_named n ≡ shape.Named n
other_name n other =
    let outer = or_parts (bytes_eq n (codes "Text")) (bytes_eq n (codes "Int") || false) (not-true _ other) in
    rw (outer.0, (or_parts (bytes_eq n (codes "Int")) false outer.1).0) refl

named_back : (n : Bytes) → IsReadBack (shape.Named n)
named_back n fits d le rest none =
    rw (written_type-Named n)
    (within_over d n (shape.Named n) rest (rw (written_type-Named n) at le)
    (other_name n (and_parts (is_name n) (not (is_among n (codes "Text" ∷ codes "Int" ∷ []))) (rw (written_type-Named n) at fits)).1) none)

abbrev close_parts : Lexeme
close_parts = sign_token (codes ">")

parts_over : (n : Bytes) (made : Shape) (inner : Reader Shape) (parts rest : List Lexeme) → constructed inner n (parts ++ (close_parts ∷ rest)) ≡ Some (made, close_parts ∷ rest) → type_over inner (constructor_of n parts ++ rest) ≡ Some (made, rest)
unfolding type_over spelled eaten comes taken
parts_over n made inner parts rest is = rw (append_assoc parts (close_parts ∷ []) rest, is) refl

-- one part within a constructor of this name
one_back : (n : Bytes) (make : Shape → Shape) (t : Shape) (w : WrittenType) → ((inner : Reader Shape) (ls : List Lexeme) → constructed inner n ls ≡ (inner >>= (λ s. pure (make s))) ls) → w ≡ written_type t → IsReadBack t → w.fits ≡ true → (d : ℕ) → suc w.depth ≤ d → (rest : List Lexeme) → type_within d (constructor_of n w.tokens ++ rest) ≡ Some (make t, rest)
unfolding type_within comes
one_back n make t w is same back fits zero le rest = absurd (omega arith)
one_back n make t w is same back fits (suc d) le rest =
    let part : type_within d ((written_type t).tokens ++ (close_parts ∷ rest)) ≡ Some (t, close_parts ∷ rest) = back (rw same at fits) d (rw same at (let below : w.depth ≤ d = omega (arith, le) in below)) (close_parts ∷ rest) refl in
    parts_over n (make t) (type_within d) w.tokens rest (rw same (is (type_within d) ((written_type t).tokens ++ (close_parts ∷ rest)) ∙ rw part refl))

set_back : (t : Shape) → IsReadBack t → IsReadBack (shape.Set t)
unfolding constructed
set_back t back fits d le rest none = rw (written_type-Set t) (one_back (codes "Set") (λ s. shape.Set s) t (written_type t) (λ inner ls. refl) refl back (rw (written_type-Set t) at fits) d (rw (written_type-Set t) at le) rest)

optional_back : (t : Shape) → IsReadBack t → IsReadBack (shape.Optional t)
unfolding constructed
optional_back t back fits d le rest none = rw (written_type-Optional t) (one_back (codes "Optional") (λ s. shape.Optional s) t (written_type t) (λ inner ls. refl) refl back (rw (written_type-Optional t) at fits) d (rw (written_type-Optional t) at le) rest)

provider_back : (t : Shape) → IsReadBack t → IsReadBack (shape.Provider t)
unfolding constructed
provider_back t back fits d le rest none = rw (written_type-Provider t) (one_back (codes "Provider") (λ s. shape.Provider s) t (written_type t) (λ inner ls. refl) refl back (rw (written_type-Provider t) at fits) d (rw (written_type-Provider t) at le) rest)

lazy_back : (t : Shape) → IsReadBack t → IsReadBack (shape.Lazy t)
unfolding constructed
lazy_back t back fits d le rest none = rw (written_type-Lazy t) (one_back (codes "Lazy") (λ s. shape.Lazy s) t (written_type t) (λ inner ls. refl) refl back (rw (written_type-Lazy t) at fits) d (rw (written_type-Lazy t) at le) rest)

producer_back : (t : Shape) → IsReadBack t → IsReadBack (shape.Producer t)
unfolding constructed
producer_back t back fits d le rest none = rw (written_type-Producer t) (one_back (codes "Producer") (λ s. shape.Producer s) t (written_type t) (λ inner ls. refl) refl back (rw (written_type-Producer t) at fits) d (rw (written_type-Producer t) at le) rest)

produced_back : (t : Shape) → IsReadBack t → IsReadBack (shape.Produced t)
unfolding constructed
produced_back t back fits d le rest none = rw (written_type-Produced t) (one_back (codes "Produced") (λ s. shape.Produced s) t (written_type t) (λ inner ls. refl) refl back (rw (written_type-Produced t) at fits) d (rw (written_type-Produced t) at le) rest)

abbrev comma : Lexeme
comma = sign_token (codes ",")

two_parts : (inner : Reader Shape) (k v : Shape) (ks vs rest : List Lexeme) → inner (ks ++ (comma ∷ (vs ++ rest))) ≡ Some (k, comma ∷ (vs ++ rest)) → inner (vs ++ rest) ≡ Some (v, rest) → constructed inner (codes "Map") ((ks ++ (comma ∷ vs)) ++ rest) ≡ Some (shape.Map k v, rest)
unfolding constructed taken comes
two_parts inner k v ks vs rest key value = rw (append_assoc ks (comma ∷ vs) rest, key, value) refl

map_within : (k v : Shape) (x y : WrittenType) → x ≡ written_type k → y ≡ written_type v → IsReadBack k → IsReadBack v → (x.fits && y.fits) ≡ true → (d : ℕ) → suc (max x.depth y.depth) ≤ d → (rest : List Lexeme) → type_within d (constructor_of (codes "Map") (x.tokens ++ (comma ∷ y.tokens)) ++ rest) ≡ Some (shape.Map k v, rest)
unfolding type_within comes
map_within k v x y sx sy bk bv fits zero le rest = absurd (omega arith)
map_within k v x y sx sy bk bv fits (suc d) le rest =
    let both = and_parts x.fits y.fits fits in
    let dx : x.depth ≤ d = omega (arith, le) in
    let dy : y.depth ≤ d = omega (arith, le) in
    let key : type_within d (x.tokens ++ (comma ∷ (y.tokens ++ (close_parts ∷ rest)))) ≡ Some (k, comma ∷ (y.tokens ++ (close_parts ∷ rest))) = subst (λ (w : WrittenType). type_within d (w.tokens ++ (comma ∷ (y.tokens ++ (close_parts ∷ rest)))) ≡ Some (k, comma ∷ (y.tokens ++ (close_parts ∷ rest)))) (sym sx) (bk (rw sx at both.0) d (rw sx at dx) (comma ∷ (y.tokens ++ (close_parts ∷ rest))) refl) in
    let value : type_within d (y.tokens ++ (close_parts ∷ rest)) ≡ Some (v, close_parts ∷ rest) = subst (λ (w : WrittenType). type_within d (w.tokens ++ (close_parts ∷ rest)) ≡ Some (v, close_parts ∷ rest)) (sym sy) (bv (rw sy at both.1) d (rw sy at dy) (close_parts ∷ rest) refl) in
    parts_over (codes "Map") (shape.Map k v) (type_within d) (x.tokens ++ (comma ∷ y.tokens)) rest (two_parts (type_within d) k v x.tokens y.tokens (close_parts ∷ rest) key value)

map_back : (k v : Shape) → IsReadBack k → IsReadBack v → IsReadBack (shape.Map k v)
map_back k v bk bv fits d le rest none =
    rw (written_type-Map k v) (map_within k v (written_type k) (written_type v) refl refl bk bv (rw (written_type-Map k v) at fits) d (rw (written_type-Map k v) at le) rest)

abbrev Part : Type 0
Part = (s : Shape) × IsReadBack s

abbrev bare : Shape-F Part → Shape-F Shape
bare y = map-Shape Part Shape (λ e. e.0) y

layer_back : (y : Shape-F Part) → IsReadBack (roll-Shape (bare y))
layer_back Shape-F.Text = subst IsReadBack (sym shape.rolls-Text) text_back
layer_back Shape-F.Int = subst IsReadBack (sym shape.rolls-Int) int_back
layer_back (Shape-F.Named n) = subst IsReadBack (sym (shape.rolls-Named n)) (named_back n)
layer_back (Shape-F.Set t) = subst IsReadBack (sym (shape.rolls-Set t.0)) (set_back t.0 t.1)
layer_back (Shape-F.Map k v) = subst IsReadBack (sym (shape.rolls-Map k.0 v.0)) (map_back k.0 v.0 k.1 v.1)
layer_back (Shape-F.Optional t) = subst IsReadBack (sym (shape.rolls-Optional t.0)) (optional_back t.0 t.1)
layer_back (Shape-F.Provider t) = subst IsReadBack (sym (shape.rolls-Provider t.0)) (provider_back t.0 t.1)
layer_back (Shape-F.Lazy t) = subst IsReadBack (sym (shape.rolls-Lazy t.0)) (lazy_back t.0 t.1)
layer_back (Shape-F.Producer t) = subst IsReadBack (sym (shape.rolls-Producer t.0)) (producer_back t.0 t.1)
layer_back (Shape-F.Produced t) = subst IsReadBack (sym (shape.rolls-Produced t.0)) (produced_back t.0 t.1)

pub type_back : (s : Shape) → IsReadBack s
type_back = ind-Shape IsReadBack (λ x y is. subst (λ (z : Shape-F Shape). IsReadBack (roll-Shape z)) is (layer_back y))
