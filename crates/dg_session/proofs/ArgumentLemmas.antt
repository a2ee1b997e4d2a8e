-- The names of arguments, and the first argument that is bad.
use Rattle.std.proofs.Common.{◌≡◌, ℕ, zero, suc, ◌+◌, ◌<◌, Bool, true, false, not, ◌&&◌, ◌||◌, List, [], ◌∷◌, ◌++◌, length, get_or, take, drop, if◌then◌else◌, refl, sym, ap, ◌∙◌, arith, add-one}
use Rattle.std.specs.List.{list_any}
use Rattle.std.specs.Str.{bytes_eq}
use Rattle.std.proofs.lemmas.List.Folds.{list_any-append}
use Rattle.dg_lex.specs.Bytes.{Bytes, is_among}
use Rattle.dg_decl.specs.declared.document.Doc.{Doc}
use Rattle.dg_decl.specs.declared.component.Bound.{Bound}
use Rattle.dg_decl.specs.declared.item.OpenArg.{OpenArg}
use Rattle.dg_decl.specs.Stages.Session.{fits_bound, bad_given}
use Rattle.dg_session.specs.Arguments.{names_of}

pub has_name : (n : Bytes) (args : List OpenArg)
    → list_any (λ a. bytes_eq n a.name) args ≡ is_among n (names_of args)
has_name n [] = refl
has_name n (a ∷ args) = ap (λ b. bytes_eq n a.name || b) (has_name n args)

-- which arguments are bad rests on which names came earlier, and not on their order
bad_same : (doc : Doc) (bounds : List Bound) (xs ys : List Bytes) (args : List OpenArg)
    → ((n : Bytes) → is_among n xs ≡ is_among n ys)
    → bad_given doc bounds xs args ≡ bad_given doc bounds ys args
bad_same doc bounds xs ys [] same = refl
bad_same doc bounds xs ys (a ∷ args) same =
    ap (λ b. (if fits_bound doc bounds a && not b then [] else a.name ∷ []) ++ bad_given doc bounds
    (a.name ∷ xs) args) (same a.name)
    ∙ ap (λ t. (if fits_bound doc bounds a && not (is_among a.name ys) then [] else a.name ∷ [])
    ++ t) (bad_same doc bounds (a.name ∷ xs) (a.name ∷ ys) args (λ n. ap (λ b. bytes_eq n a.name
    || b) (same n)))

or_turned : (a b : Bool) → (a || b) ≡ (b || (a || false))
or_turned true true = refl
or_turned true false = refl
or_turned false true = refl
or_turned false false = refl

names_more : (args : List OpenArg) (i : ℕ) (a : OpenArg) → i < length args → get_or args i a ≡ a
    → names_of (take (suc i) args) ≡ names_of (take i args) ++ a.name ∷ []
names_more [] i a lt e = absurd (omega arith)
names_more (x ∷ xs) zero a lt e = ap (λ (y : OpenArg). y.name ∷ []) e
names_more (x ∷ xs) (suc i) a lt e =
    ap (λ (ns : List Bytes). x.name ∷ ns) (names_more xs i a (omega arith) e)

left_from : (args : List OpenArg) (i : ℕ) (a : OpenArg) → i < length args → get_or args i a ≡ a
    → drop i args ≡ a ∷ drop (suc i) args
left_from [] i a lt e = absurd (omega arith)
left_from (x ∷ xs) zero a lt e = ap (λ (y : OpenArg). y ∷ xs) e
left_from (x ∷ xs) (suc i) a lt e = left_from xs i a (omega arith) e

-- behind a good argument
pub bad_step : (doc : Doc) (bounds : List Bound) (args : List OpenArg) (i : ℕ) (a : OpenArg)
    → i < length args → get_or args i a ≡ a
    → (fits_bound doc bounds a && not (is_among a.name (names_of (take i args)))) ≡ true
    → bad_given doc bounds (names_of (take (i + 1) args)) (drop (i + 1) args)
    ≡ bad_given doc bounds (names_of (take i args)) (drop i args)
bad_step doc bounds args i a lt e good =
    let before = names_of (take i args) in
    let rest = drop (suc i) args in
    rw add-one (sym (ap (bad_given doc bounds before) (left_from args i a lt e)
    ∙ ap (λ b. (if b then [] else a.name ∷ []) ++ bad_given doc bounds (a.name ∷ before) rest) good
    ∙ bad_same doc bounds (a.name ∷ before) (before ++ a.name ∷ []) rest
    (λ n. or_turned (bytes_eq n a.name) (is_among n before)
    ∙ sym (list_any-append (bytes_eq n) before (a.name ∷ [])))
    ∙ ap (λ (ns : List Bytes). bad_given doc bounds ns rest) (sym (names_more args i a lt e))))
