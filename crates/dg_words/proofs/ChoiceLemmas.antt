-- With which option words begin.
use Rattle.std.proofs.Common.{◌≡◌, ◌≢◌, ℕ, ◌<◌, List, [], ◌∷◌, ◌++◌, length, get_or, Some, None, true, inl, inr, refl, sym, ap, ◌∙◌, arith, length-append, lit<}
use Rattle.std.specs.Prelude.{not, ◌==◌, codes}
use Rattle.std.specs.List.{list_all}
use Rattle.std.specs.Borrow.{Bor}
use Rattle.std.proofs.lemmas.Bool.{false≢true}
use Rattle.std.proofs.lemmas.List.Folds.{list_all_at}
use Rattle.std.proofs.lemmas.Str.Pattern.{IsSplitOnceResult, split_after, split_parts}
use Rattle.std.proofs.Math.Seq.{get_or-append_seam}
use Rattle.dg_words.specs.Words.{Bytes, Choice, Workers, Generate, IsOption, BeginsWith}

-- ---- names have no `=`

-- no byte of the list is `=`
abbrev pub HasNone : Bytes → Type 0
HasNone z = (i : ℕ) → i < length z → get_or z i 0 ≢ 61

none_in : (z : Bytes) → list_all (λ b. not (b == 61)) z ≡ true → HasNone z
none_in z all i within is = false≢true (sym (list_all_at (λ b. not (b == 61)) z i 0 within (rw is refl)) ∙ all)

pub none_in_name : (choice : Choice) (name value : Bytes) → IsOption choice name value → HasNone name
none_in_name (Workers n) name value is = rw is.0 (none_in (codes "--workers") refl)
none_in_name (Generate n) name value is = rw is.0 (none_in (codes "--generate") refl)

pub one_in : (word a b : Bytes) → word ≡ a ++ 61 ∷ b → HasNone word → ⊥
one_in word a b is none = none (length a) (rw is (omega (arith, length-append a (61 ∷ b)))) (rw is (get_or-append_seam a 61 b 0))

-- ---- words that begin with an option

pub one_word : (choice : Choice) (words more : List Bytes) (word name value : Bytes) → words ≡ word ∷ more → word ≡ name ++ 61 ∷ value → IsOption choice name value → BeginsWith words choice more
one_word choice words more word name value at is option = record {
  front = word ∷ [];
  spelled = (name, value, option, inr (ap (λ (w : Bytes). w ∷ []) is));
  whole = at;
}

pub two_words : (choice : Choice) (words more rest : List Bytes) (name value : Bytes) → words ≡ name ∷ more → more ≡ value ∷ rest → IsOption choice name value → BeginsWith words choice rest
two_words choice words more rest name value at next option = record {
  front = name ∷ value ∷ [];
  spelled = (name, value, option, inl refl);
  whole = at ∙ ap (λ (w : List Bytes). name ∷ w) next;
}

-- ---- words that don't

pub none_at_end : (words : List Bytes) → words ≡ [] → (choice : Choice) (rest : List Bytes) → BeginsWith words choice rest → ⊥
none_at_end words at choice rest begins =
    elim begins.spelled.3 [
      | inl two ↦ (let bad : [] ≡ begins.spelled.0 ∷ begins.spelled.1 ∷ rest = sym at ∙ begins.whole ∙ ap (λ (f : List Bytes). f ++ rest) two in cc)
      | inr one ↦ (let bad : [] ≡ (begins.spelled.0 ++ 61 ∷ begins.spelled.1) ∷ rest = sym at ∙ begins.whole ∙ ap (λ (f : List Bytes). f ++ rest) one in cc)
    ]

pub none_with_equals : (words more : List Bytes) (word : Bytes) (a b : Bor Bytes) → words ≡ word ∷ more
    → IsSplitOnceResult 61 word (Some (a, b)) → ((choice : Choice) → IsOption choice a.now b.now → ⊥)
    → (choice : Choice) (rest : List Bytes) → BeginsWith words choice rest → ⊥
none_with_equals words more word a b at split refused choice rest begins =
    let name = begins.spelled.0 in
    let value = begins.spelled.1 in
    let option = begins.spelled.2 in
    let plain = none_in_name choice name value option in
    elim begins.spelled.3 [
      | inl two ↦
          (let all : word ∷ more ≡ name ∷ value ∷ rest = sym at ∙ begins.whole ∙ ap (λ (f : List Bytes). f ++ rest) two in
          let same : word ≡ name = cc in
          one_in name a.now b.now (sym same ∙ (split_parts 61 word (Some (a, b)) split (lit< tt)).0) plain)
      | inr one ↦
          (let all : word ∷ more ≡ (name ++ 61 ∷ value) ∷ rest = sym at ∙ begins.whole ∙ ap (λ (f : List Bytes). f ++ rest) one in
          let same : word ≡ name ++ 61 ∷ value = cc in
          let parts = split_after 61 word name value (Some (a, b)) split (lit< tt) same plain in
          refused choice (rw (parts.0, parts.1) option))
    ]

pub none_alone : (words more : List Bytes) (word : Bytes) → words ≡ word ∷ more → more ≡ []
    → IsSplitOnceResult 61 word None
    → (choice : Choice) (rest : List Bytes) → BeginsWith words choice rest → ⊥
none_alone words more word at last split choice rest begins =
    let name = begins.spelled.0 in
    let value = begins.spelled.1 in
    elim begins.spelled.3 [
      | inl two ↦
          (let all : word ∷ [] ≡ name ∷ value ∷ rest = ap (λ (m : List Bytes). word ∷ m) (sym last) ∙ sym at ∙ begins.whole ∙ ap (λ (f : List Bytes). f ++ rest) two in
          cc)
      | inr one ↦
          (let all : word ∷ more ≡ (name ++ 61 ∷ value) ∷ rest = sym at ∙ begins.whole ∙ ap (λ (f : List Bytes). f ++ rest) one in
          let same : word ≡ name ++ 61 ∷ value = cc in
          one_in word name value same (split_parts 61 word None split (lit< tt)))
    ]

pub none_in_two : (words more after : List Bytes) (word next : Bytes) → words ≡ word ∷ more → more ≡ next ∷ after
    → IsSplitOnceResult 61 word None → ((choice : Choice) → IsOption choice word next → ⊥)
    → (choice : Choice) (rest : List Bytes) → BeginsWith words choice rest → ⊥
none_in_two words more after word next at then split refused choice rest begins =
    let name = begins.spelled.0 in
    let value = begins.spelled.1 in
    let option = begins.spelled.2 in
    elim begins.spelled.3 [
      | inl two ↦
          (let all : word ∷ next ∷ after ≡ name ∷ value ∷ rest = ap (λ (m : List Bytes). word ∷ m) (sym then) ∙ sym at ∙ begins.whole ∙ ap (λ (f : List Bytes). f ++ rest) two in
          let same_name : word ≡ name = cc in
          let same_value : next ≡ value = cc in
          refused choice (rw (same_name, same_value) option))
      | inr one ↦
          (let all : word ∷ more ≡ (name ++ 61 ∷ value) ∷ rest = sym at ∙ begins.whole ∙ ap (λ (f : List Bytes). f ++ rest) one in
          let same : word ≡ name ++ 61 ∷ value = cc in
          one_in word name value same (split_parts 61 word None split (lit< tt)))
    ]
