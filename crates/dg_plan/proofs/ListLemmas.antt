-- One member more of a list that a loop goes over.
use Rattle.std.proofs.Common.{◌≡◌, ℕ, zero, suc, ◌+◌, ◌<◌, ◌≤◌, List, [], ◌∷◌, ◌++◌, length, get_or, map, take, filter_map, flat_map, Option, Some, None, option_map, option_to_list, append_assoc, refl, sym, ap, ◌∙◌, arith}
use Rattle.std.specs.List.{cons_option, range_with_len}
use Rattle.std.specs.Option.{option_map_or}
use Rattle.std.proofs.lemmas.List.{append-nil, take_more, map-append}
use Rattle.std.proofs.lemmas.List.Elements.{filter_map-append}
use Rattle.dg_lex.specs.Bytes.{Bytes}
use Rattle.dg_plan.specs.Counted.{texts_from}

-- ---- a list that is gone through

take_past : {A : Type 0} (xs : List A) (i : ℕ) → length xs ≤ i → take i xs ≡ xs
take_past [] zero le = refl
take_past [] (suc i) le = refl
take_past (x ∷ xs) zero le = absurd (omega arith)
take_past (x ∷ xs) (suc i) le = ap (λ (ys : List _). x ∷ ys) (take_past xs i (omega arith))

length_take : {A : Type 0} (xs : List A) (i : ℕ) → i < length xs → length (take i xs) ≡ i
length_take [] i lt = absurd (omega arith)
length_take (x ∷ xs) zero lt = refl
length_take (x ∷ xs) (suc i) lt = ap suc (length_take xs i (omega arith))

one_more : {A : Type 0} (xs : List A) (i : ℕ) (x : A) → i < length xs → x ≡ get_or xs i x
    → take (i + 1) xs ≡ take i xs ++ x ∷ []
one_more {A} xs i x lt is =
    take_more xs i x lt ∙ ap (λ (y : A). take i xs ++ y ∷ []) (sym is)

-- ---- what each member gives

pub map_more : {A B : Type 0} (f : A → B) (xs : List A) (i : ℕ) (x : A) (old new : List B) (y : B)
    → i < length xs → x ≡ get_or xs i x → old ≡ map f (take i xs) → y ≡ f x → new ≡ old ++ y ∷ []
    → new ≡ map f (take (i + 1) xs)
map_more {A} {B} f xs i x old new y lt is before one e =
    e ∙ ap (λ (ys : List B). ys ++ y ∷ []) before
    ∙ ap (λ (z : B). map f (take i xs) ++ z ∷ []) one
    ∙ sym (map-append f (take i xs) (x ∷ [])) ∙ ap (map f) (sym (one_more xs i x lt is))

pub map_end : {A B : Type 0} (f : A → B) (xs ys : List A) (i : ℕ) (all : List B) → xs ≡ ys
    → length xs ≤ i → all ≡ map f (take i xs) → all ≡ map f ys
map_end f xs ys i all e past is = is ∙ ap (map f) (take_past xs i past ∙ e)

cons_is : {A : Type 0} (o : Option A) → cons_option o [] ≡ option_to_list o
cons_is None = refl
cons_is (Some x) = refl

pub filter_more : {A B : Type 0} (f : A → Option B) (xs : List A) (i : ℕ) (x : A) (old new : List B)
    (o : Option B) → i < length xs → x ≡ get_or xs i x → old ≡ filter_map f (take i xs) → o ≡ f x
    → new ≡ old ++ option_to_list o → new ≡ filter_map f (take (i + 1) xs)
filter_more {A} {B} f xs i x old new o lt is before one e =
    e ∙ ap (λ (ys : List B). ys ++ option_to_list o) before
    ∙ ap (λ (p : Option B). filter_map f (take i xs) ++ option_to_list p) one
    ∙ ap (λ (ys : List B). filter_map f (take i xs) ++ ys) (sym (cons_is (f x)))
    ∙ sym (filter_map-append f (take i xs) (x ∷ []))
    ∙ ap (filter_map f) (sym (one_more xs i x lt is))

-- the same, where the member is read with a default
pub filter_more_at : {A B : Type 0} (f : A → Option B) (xs : List A) (i : ℕ) (d : A)
    (old new : List B) (o : Option B) → i < length xs → old ≡ filter_map f (take i xs)
    → o ≡ f (get_or xs i d) → new ≡ old ++ option_to_list o → new ≡ filter_map f (take (i + 1) xs)
filter_more_at {A} {B} f xs i d old new o lt before one e =
    e ∙ ap (λ (ys : List B). ys ++ option_to_list o) before
    ∙ ap (λ (p : Option B). filter_map f (take i xs) ++ option_to_list p) one
    ∙ ap (λ (ys : List B). filter_map f (take i xs) ++ ys) (sym (cons_is (f (get_or xs i d))))
    ∙ sym (filter_map-append f (take i xs) (get_or xs i d ∷ []))
    ∙ ap (filter_map f) (sym (take_more xs i d lt))

-- ---- two functions that agree on the numbers of a range

range_same_from : {B : Type 0} (f g : ℕ → B) (k n : ℕ)
    → ((c : ℕ) → k ≤ c → c < k + n → f c ≡ g c)
    → map f (range_with_len k n) ≡ map g (range_with_len k n)
range_same_from f g k zero h = refl
range_same_from f g k (suc n) h =
    λ i. h k (omega arith) (omega arith) i
    ∷ range_same_from f g (k + 1) n (λ c a b. h c (omega arith) (omega arith)) i

pub range_same : {B : Type 0} (f g : ℕ → B) (n : ℕ) → ((c : ℕ) → c < n → f c ≡ g c)
    → map f (range_with_len 0 n) ≡ map g (range_with_len 0 n)
range_same f g n h = range_same_from f g 0 n (λ c a b. h c (omega arith))

-- ---- the texts of members with their places

texts_push : {A : Type 0} (f : ℕ → A → Bytes) (k : ℕ) (xs : List A) (x : A)
    → texts_from f k (xs ++ x ∷ []) ≡ texts_from f k xs ++ f (k + length xs) x
unfolding texts_from
texts_push f k [] x =
    append-nil (f k x) ∙ ap (λ (n : ℕ). f n x) (omega arith)
texts_push f k (y ∷ ys) x =
    let place : k + 1 + length ys ≡ k + suc (length ys) = omega arith in
    ap (λ (rest : Bytes). f k y ++ rest) (texts_push f (k + 1) ys x)
    ∙ sym (append_assoc (f k y) (texts_from f (k + 1) ys) (f (k + 1 + length ys) x))
    ∙ ap (λ (n : ℕ). texts_from f k (y ∷ ys) ++ f n x) place

pub texts_none : {A : Type 0} (f : ℕ → A → Bytes) (old : Bytes) → old ≡ old ++ texts_from f 0 []
unfolding texts_from
texts_none f old = sym (append-nil old)

pub texts_more : {A : Type 0} (f : ℕ → A → Bytes) (xs : List A) (i : ℕ) (x : A)
    (old mid new : Bytes) → i < length xs → x ≡ get_or xs i x
    → mid ≡ old ++ texts_from f 0 (take i xs) → new ≡ mid ++ f i x
    → new ≡ old ++ texts_from f 0 (take (i + 1) xs)
texts_more {A} f xs i x old mid new lt is before e =
    let place : i ≡ 0 + length (take i xs) = omega (arith, length_take xs i lt) in
    e ∙ ap (λ (t : Bytes). t ++ f i x) before
    ∙ append_assoc old (texts_from f 0 (take i xs)) (f i x)
    ∙ ap (λ (n : ℕ). old ++ (texts_from f 0 (take i xs) ++ f n x)) place
    ∙ ap (λ (t : Bytes). old ++ t) (sym (texts_push f 0 (take i xs) x))
    ∙ ap (λ (ys : List A). old ++ texts_from f 0 ys) (sym (one_more xs i x lt is))

pub texts_end : {A : Type 0} (f : ℕ → A → Bytes) (xs : List A) (i : ℕ) (old new : Bytes)
    → length xs ≤ i → new ≡ old ++ texts_from f 0 (take i xs) → new ≡ old ++ texts_from f 0 xs
texts_end {A} f xs i old new past is =
    is ∙ ap (λ (ys : List A). old ++ texts_from f 0 ys) (take_past xs i past)

-- ---- texts of what some members have

pub joined : {A B : Type 0} (g : A → Option B) (t : A → B → Bytes) (xs : List A)
    → flat_map (λ x. option_map_or (t x) (g x) []) xs
    ≡ flat_map (λ b. b) (filter_map (λ x. option_map (t x) (g x)) xs)
joined g t [] = refl
joined {A} {B} g t (x ∷ xs) = by (g x) (joined g t xs)
  where
    by : (o : Option B) → flat_map (λ x. option_map_or (t x) (g x) []) xs
        ≡ flat_map (λ b. b) (filter_map (λ x. option_map (t x) (g x)) xs)
        → option_map_or (t x) o [] ++ flat_map (λ x. option_map_or (t x) (g x) []) xs
        ≡ flat_map (λ b. b)
        (cons_option (option_map (t x) o) (filter_map (λ x. option_map (t x) (g x)) xs))
    by None rest = rest
    by (Some b) rest = ap (λ (r : Bytes). t x b ++ r) rest
