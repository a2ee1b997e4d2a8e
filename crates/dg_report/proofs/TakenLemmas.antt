-- Texts behind others, as far as they don't go beyond a limit.
use Rattle.std.proofs.Common.{◌≡◌, ◌≤◌, ℕ, zero, suc, ◌+◌, ◌-◌, Bool, true, false, nat_lt, if◌then◌else◌, max, List, [], ◌∷◌, ◌++◌, length, take, Option, Some, None, codes, refl, sym, ap, ◌∙◌, append-nil, append_assoc, length-append, arith}
use Rattle.std.proofs.lemmas.Bool.{lt-ltb, ltb-true, ltb-false}
use Rattle.std.proofs.lemmas.List.{length-take-le}
use Rattle.std.proofs.Math.Seq.{take-append-add}
use Rattle.dg_lex.specs.Bytes.{Bytes}
use Rattle.dg_value.specs.declared.place.Place.{Place}
use Rattle.dg_report.specs.Output.{Output, taken, with_text}

take_none : (n : ℕ) → ◌≡◌ {A = Bytes} (take n []) []
take_none zero = refl
take_none (suc n) = refl

pub taken_none : (limit : Option ℕ) (front : Bytes) → taken limit front [] ≡ front
unfolding taken
taken_none None front = append-nil front
taken_none (Some limit) front =
    ap (λ (t : Bytes). front ++ t) (take_none (limit - length front)) ∙ append-nil front

-- ---- one behind another

-- so much is left behind what is taken of a text
room_left : (n : ℕ) (a : Bytes) → n - length (take n a) ≡ n - length a
room_left zero a = omega arith
room_left (suc n) [] = refl
room_left (suc n) (x ∷ a) =
    let more = room_left n a in
    omega (arith, more)

take_both : (n : ℕ) (a b : Bytes) → take n a ++ take (n - length a) b ≡ take n (a ++ b)
take_both zero a b =
    let none : zero - length a ≡ zero = omega arith in
    ap (λ (k : ℕ). take k b) none
take_both (suc n) [] b =
    let all : suc n - zero ≡ suc n = omega arith in
    ap (λ (k : ℕ). take k b) all
take_both (suc n) (x ∷ a) b =
    let less : suc n - suc (length a) ≡ n - length a = omega arith in
    ap (λ (k : ℕ). x ∷ (take n a ++ take k b)) less
    ∙ ap (λ (t : Bytes). x ∷ t) (take_both n a b)

pub taken_both : (limit : Option ℕ) (front a b : Bytes)
    → taken limit (taken limit front a) b ≡ taken limit front (a ++ b)
unfolding taken
taken_both None front a b = append_assoc front a b
taken_both (Some limit) front a b =
    let room : ℕ = limit - length front in
    let joined = length-append front (take room a) in
    let left = room_left room a in
    let same : limit - length (front ++ take room a) ≡ room - length a =
    omega (arith, joined, left) in
    ap (λ (k : ℕ). (front ++ take room a) ++ take k b) same
    ∙ append_assoc front (take room a) (take (room - length a) b)
    ∙ ap (λ (t : Bytes). front ++ t) (take_both room a b)

-- ---- what was appended is taken

pub all_taken : (front t text : Bytes) → text ≡ front ++ t → text ≡ taken None front t
unfolding taken
all_taken front t text is = is

pub some_taken : (limit start : ℕ) (front t old new : Bytes) → start ≡ length front
    → old ≡ front ++ t → new ≡ take (max limit start) old → new ≡ taken (Some limit) front t
unfolding taken
some_taken limit start front t old new at is cuts =
    let sum : max limit start ≡ length front + (limit - length front) = omega (arith, at) in
    cuts ∙ (λ i. take (sum i) (is i)) ∙ take-append-add front t (limit - length front)

pub text_taken : (text new t : Bytes) (seen before : List Place) (limit : Option ℕ) (o : Output)
    → record { text = text; seen = seen; before = before; limit = limit } ≡ o
    → new ≡ taken limit text t
    → record { text = new; seen = seen; before = before; limit = limit } ≡ with_text o t
unfolding with_text
text_taken text new t seen before limit o is e =
    (λ i. record { text = e i; seen = seen; before = before; limit = limit })
    ∙ ap (λ (x : Output). with_text x t) is

-- ---- a text that is too long is cut the same

take_less : (n : ℕ) (t : Bytes) → take n (take (suc n) t) ≡ take n t
take_less zero t = refl
take_less (suc n) [] = refl
take_less (suc n) (x ∷ t) = ap (λ (l : Bytes). x ∷ l) (take_less n t)

take_whole : (n : ℕ) (t : Bytes) → length t ≤ n → take n t ≡ t
take_whole zero [] le = refl
take_whole zero (x ∷ t) le = absurd (omega (arith, le))
take_whole (suc n) [] le = refl
take_whole (suc n) (x ∷ t) le = ap (λ (l : Bytes). x ∷ l) (take_whole n t (omega (arith, le)))

pub cut_taken : (n : ℕ) (t : Bytes)
    → (if nat_lt n (length (take (suc n) t)) then take n (take (suc n) t) ++ codes ".."
    else take (suc n) t)
    ≡ (if nat_lt n (length t) then take n t ++ codes ".." else t)
cut_taken n t = by (nat_lt n (length t)) refl
  where
    cut_by : Bytes → Bool → Bytes
    cut_by l b = if b then take n l ++ codes ".." else l

    by : (b : Bool) → nat_lt n (length t) ≡ b
        → cut_by (take (suc n) t) (nat_lt n (length (take (suc n) t)))
        ≡ cut_by t (nat_lt n (length t))
    by true e =
        let lt = ltb-true n (length t) e in
        let long : length (take (suc n) t) ≡ suc n = length-take-le (suc n) t (omega (arith, lt)) in
        let over : nat_lt n (length (take (suc n) t)) ≡ true =
        lt-ltb n (length (take (suc n) t)) (omega (arith, long)) in
        ap (cut_by (take (suc n) t)) over
        ∙ ap (λ (l : Bytes). l ++ codes "..") (take_less n t)
        ∙ ap (cut_by t) (sym e)
    by false e =
        let le = ltb-false n (length t) e in
        let whole : take (suc n) t ≡ t = take_whole (suc n) t (omega (arith, le)) in
        ap (λ (l : Bytes). cut_by l (nat_lt n (length l))) whole
