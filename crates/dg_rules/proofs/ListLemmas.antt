-- Lists that are made of others.
use Rattle.std.proofs.Common.{◌≡◌, ℕ, zero, suc, ◌+◌, ◌<◌, ◌≤◌, Bool, true, false, cond, ◌||◌, List, [], ◌∷◌, ◌++◌, length, get_or, map, take, drop, filter, filter_map, flat_map, slice_get, Option, Some, None, option_to_list, unwrap_or, Result, Ok, Err, OnOk, append_assoc, refl, sym, ap, ◌∙◌, arith, add-one}
use Rattle.std.specs.List.{cons_option, list_any}
use Rattle.std.specs.Option.{option_map_or}
use Rattle.std.proofs.lemmas.Option.{unwrap_or-slice_get}

given : {B : Type 0} (o : Option B) (ys : List B) → cons_option o ys ≡ option_to_list o ++ ys
given None ys = refl
given (Some y) ys = refl

pub as_flat : {A B : Type 0} (f : A → Option B) (g : A → List B)
    → ((x : A) → option_to_list (f x) ≡ g x) → (xs : List A) → filter_map f xs ≡ flat_map g xs
as_flat f g same [] = refl
as_flat f g same (x ∷ xs) =
    given (f x) (filter_map f xs) ∙ ap (λ l. l ++ filter_map f xs) (same x)
    ∙ ap (λ l. g x ++ l) (as_flat f g same xs)

-- what stands at a place of a list, in its image
pub read_there : {A : Type 0} (p : A → Bool) (xs : List A) (i : ℕ) (x : A) → i < length xs
    → get_or xs i x ≡ x → get_or (map p xs) i false ≡ p x
read_there p [] i x lt e = absurd (omega arith)
read_there p (y ∷ ys) zero x lt e = ap p e
read_there p (y ∷ ys) (suc i) x lt e = read_there p ys i x (omega arith) e

-- nothing stands there
pub none_there : (xs : List Bool) (i : ℕ) → None ≡ slice_get xs i → false ≡ get_or xs i false
none_there xs i e = ap (λ o. unwrap_or o false) e ∙ unwrap_or-slice_get xs i false

or_given : {B : Type 0} (p : B → Bool) (o : Option B) (ys : List B)
    → list_any p (cons_option o ys) ≡ (option_map_or p o false || list_any p ys)
or_given p None ys = refl
or_given p (Some y) ys = refl

-- one of what is given holds
pub any_given : {A B : Type 0} (p : B → Bool) (f : A → Option B) (xs : List A)
    → list_any (λ b. b) (map (λ x. option_map_or p (f x) false) xs) ≡ list_any p (filter_map f xs)
any_given p f [] = refl
any_given p f (x ∷ xs) =
    ap (λ b. option_map_or p (f x) false || b) (any_given p f xs)
    ∙ sym (or_given p (f x) (filter_map f xs))

-- the first that is left
pub left_first : {A : Type 0} (xs : List A) (k : ℕ) (y : A) (ys : List A) → drop k xs ≡ y ∷ ys
    → slice_get xs k ≡ Some y
left_first [] zero y ys e = absurd (cc)
left_first [] (suc k) y ys e = absurd (cc)
left_first (x ∷ xs) zero y ys e = cc
left_first (x ∷ xs) (suc k) y ys e = left_first xs k y ys e

rest_left : {A : Type 0} (xs : List A) (k : ℕ) (y : A) (ys : List A) → drop k xs ≡ y ∷ ys
    → drop (suc k) xs ≡ ys
rest_left [] zero y ys e = absurd (cc)
rest_left [] (suc k) y ys e = absurd (cc)
rest_left (x ∷ xs) zero y ys e = cc
rest_left (x ∷ xs) (suc k) y ys e = rest_left xs k y ys e

pub left_rest : {A : Type 0} (xs : List A) (k : ℕ) (y : A) (ys : List A) → drop k xs ≡ y ∷ ys
    → drop (k + 1) xs ≡ ys
left_rest xs k y ys e = rw add-one (rest_left xs k y ys e)

split_suc : {A : Type 0} (xs : List A) (i : ℕ) (x : A) → i < length xs → get_or xs i x ≡ x
    → drop i xs ≡ x ∷ drop (suc i) xs
split_suc [] i x lt e = absurd (omega arith)
split_suc (y ∷ ys) zero x lt e = ap (λ z. z ∷ ys) e
split_suc (y ∷ ys) (suc i) x lt e = split_suc ys i x (omega arith) e

-- what stands at a place is the first that is left there
pub split_there : {A : Type 0} (xs : List A) (i : ℕ) (x : A) → i < length xs → get_or xs i x ≡ x
    → drop i xs ≡ x ∷ drop (i + 1) xs
split_there xs i x lt e = rw add-one (split_suc xs i x lt e)

take_suc : {A : Type 0} (xs : List A) (i : ℕ) (x : A) → i < length xs → get_or xs i x ≡ x
    → take (suc i) xs ≡ take i xs ++ x ∷ []
take_suc [] i x lt e = absurd (omega arith)
take_suc (y ∷ ys) zero x lt e = ap (λ z. z ∷ []) e
take_suc (y ∷ ys) (suc i) x lt e = ap (λ zs. y ∷ zs) (take_suc ys i x (omega arith) e)

pub take_there : {A : Type 0} (xs : List A) (i : ℕ) (x : A) → i < length xs → get_or xs i x ≡ x
    → take (i + 1) xs ≡ take i xs ++ x ∷ []
take_there xs i x lt e = rw add-one (take_suc xs i x lt e)

-- a filter is a `flat_map`
pub filtered : {A B : Type 0} (p : A → Bool) (f : A → B) (xs : List A)
    → map f (filter p xs) ≡ flat_map (λ x. cond (p x) (f x ∷ []) []) xs
filtered p f [] = refl
filtered {A} {B} p f (x ∷ xs) = by (p x) ∙ ap (λ l. cond (p x) (f x ∷ []) [] ++ l) (filtered p f xs)
  where
    by : (b : Bool) → map f (cond b (x ∷ filter p xs) (filter p xs))
        ≡ cond b (f x ∷ []) [] ++ map f (filter p xs)
    by true = refl
    by false = refl

-- a list up to its end, or past it, is the whole
take_past : {A : Type 0} (xs : List A) (i : ℕ) → length xs ≤ i → take i xs ≡ xs
take_past [] zero le = refl
take_past [] (suc i) le = refl
take_past (x ∷ xs) zero le = absurd (omega arith)
take_past (x ∷ xs) (suc i) le = ap (λ ys. x ∷ ys) (take_past xs i (omega arith))

-- what a loop over a whole list has appended
pub appended : {A B : Type 0} (f : A → List B) (xs : List A) (i : ℕ) (old new all : List B)
    → new ≡ old ++ flat_map f (take i xs) → length xs ≤ i → flat_map f xs ≡ all → new ≡ old ++ all
appended f xs i old new all is le whole =
    is ∙ ap (λ ys. old ++ ys) (ap (flat_map f) (take_past xs i le) ∙ whole)

-- what follows from what holds after an `Ok`
pub on_ok : {V E P Q : Type 0} (r : Result V E) → OnOk r P → (P → Q) → OnOk r Q
on_ok (Ok x) p f = f p
on_ok (Err e) p f = tt

-- one list behind another, nine times
pub nine : {A : Type 0} (l0 l1 l2 l3 l4 l5 l6 l7 l8 l9 a b c d e f g h i : List A)
    → l1 ≡ l0 ++ a → l2 ≡ l1 ++ b → l3 ≡ l2 ++ c → l4 ≡ l3 ++ d → l5 ≡ l4 ++ e → l6 ≡ l5 ++ f
    → l7 ≡ l6 ++ g → l8 ≡ l7 ++ h → l9 ≡ l8 ++ i
    → l9 ≡ l0 ++ (a ++ (b ++ (c ++ (d ++ (e ++ (f ++ (g ++ (h ++ i))))))))
nine l0 l1 l2 l3 l4 l5 l6 l7 l8 l9 a b c d e f g h i q1 q2 q3 q4 q5 q6 q7 q8 q9 =
    q9
    ∙ ap (λ l. l ++ i) q8 ∙ append_assoc l7 h i
    ∙ ap (λ l. l ++ (h ++ i)) q7 ∙ append_assoc l6 g (h ++ i)
    ∙ ap (λ l. l ++ (g ++ (h ++ i))) q6 ∙ append_assoc l5 f (g ++ (h ++ i))
    ∙ ap (λ l. l ++ (f ++ (g ++ (h ++ i)))) q5 ∙ append_assoc l4 e (f ++ (g ++ (h ++ i)))
    ∙ ap (λ l. l ++ (e ++ (f ++ (g ++ (h ++ i))))) q4
    ∙ append_assoc l3 d (e ++ (f ++ (g ++ (h ++ i))))
    ∙ ap (λ l. l ++ (d ++ (e ++ (f ++ (g ++ (h ++ i)))))) q3
    ∙ append_assoc l2 c (d ++ (e ++ (f ++ (g ++ (h ++ i)))))
    ∙ ap (λ l. l ++ (c ++ (d ++ (e ++ (f ++ (g ++ (h ++ i))))))) q2
    ∙ append_assoc l1 b (c ++ (d ++ (e ++ (f ++ (g ++ (h ++ i))))))
    ∙ ap (λ l. l ++ (b ++ (c ++ (d ++ (e ++ (f ++ (g ++ (h ++ i)))))))) q1
    ∙ append_assoc l0 a (b ++ (c ++ (d ++ (e ++ (f ++ (g ++ (h ++ i)))))))
