-- What mentions break, part by part.
use Rattle.std.proofs.Common.{◌≡◌, ◌++◌, ◌∷◌, [], ◌+◌, ◌<◌, ℕ, suc, List, Bool, true, false, not, map, take, length, get_or, if◌then◌else◌, append_assoc, refl, ap, sym, ◌∙◌, arith}
use Rattle.std.specs.Prelude.{Result, Ok, Err, OnOk}
use Rattle.std.specs.List.{filter, flat_map}
use Rattle.std.proofs.lemmas.List.{map-append, append-nil}
use Rattle.std.proofs.lemmas.List.Elements.{filter-append}
use Rattle.std.proofs.Math.Seq.{take-suc}
use Rattle.dg_decl.specs.declared.document.Doc.{Doc}
use Rattle.dg_decl.specs.declared.violation.Rule.TheVariants as rule
use Rattle.dg_decl.specs.declared.violation.Violation.{Violation}
use Rattle.dg_decl.specs.Document.{Statement}
use Rattle.dg_decl.specs.Names.{params_of}
use Rattle.dg_decl.specs.Stages.Components.{at_line}
use Rattle.dg_decl.specs.Stages.Names.{Mention, is_known, joined}
use Rattle.dg_typing.specs.NamesJudged.{judged}

pub judged_none : (doc : Doc) (s : Statement) → judged doc s [] ≡ []
unfolding judged
judged_none doc s = refl

pub judged_two : (doc : Doc) (s : Statement) (xs ys : List Mention)
    → judged doc s (xs ++ ys) ≡ judged doc s xs ++ judged doc s ys
unfolding judged
judged_two doc s xs ys =
    ap (map (λ (m : Mention). at_line rule.UnknownName s m.name))
    (filter-append (λ (m : Mention). not (is_known doc (params_of s.item) m.wanted m.name)) xs ys)
    ∙ map-append (λ (m : Mention). at_line rule.UnknownName s m.name)
    (filter (λ m. not (is_known doc (params_of s.item) m.wanted m.name)) xs)
    (filter (λ m. not (is_known doc (params_of s.item) m.wanted m.name)) ys)

-- one mention that has its declaration, or has none
pub judged_one : (doc : Doc) (s : Statement) (m : Mention) (b : Bool)
    → is_known doc (params_of s.item) m.wanted m.name ≡ b
    → judged doc s (m ∷ []) ≡ (if b then [] else at_line rule.UnknownName s m.name ∷ [])
unfolding judged
judged_one doc s m b is =
    ap (λ (t : Bool). map (λ (k : Mention). at_line rule.UnknownName s k.name)
    (if not t then m ∷ [] else [])) is
    ∙ by b
  where
    by : (t : Bool) → map (λ k. at_line rule.UnknownName s k.name) (if not t then m ∷ [] else [])
        ≡ (if t then [] else at_line rule.UnknownName s m.name ∷ [])
    by true = refl
    by false = refl

-- a mention that stands for what it wants, and one that doesn't
pub keeps_known : (doc : Doc) (s : Statement) (m : Mention) (b : Bool) (old : List Violation)
    → is_known doc (params_of s.item) m.wanted m.name ≡ b → b ≡ true
    → old ≡ old ++ judged doc s (m ∷ [])
keeps_known doc s m b old is known =
    sym (append-nil old)
    ∙ ap (λ (vs : List Violation). old ++ vs) (sym (judged_one doc s m true (is ∙ known)))

pub adds_unknown : {V E : Type 0} (r : Result V E) (doc : Doc) (s : Statement) (m : Mention)
    (b : Bool) (old new : List Violation)
    → is_known doc (params_of s.item) m.wanted m.name ≡ b → b ≡ false
    → OnOk r (new ≡ old ++ at_line rule.UnknownName s m.name ∷ [])
    → OnOk r (new ≡ old ++ judged doc s (m ∷ []))
adds_unknown (Ok x) doc s m b old new is unknown added =
    added ∙ ap (λ (vs : List Violation). old ++ vs) (sym (judged_one doc s m false (is ∙ unknown)))
adds_unknown (Err e) doc s m b old new is unknown added = tt

-- ---- one after another

pub adds_none : (doc : Doc) (s : Statement) (old : List Violation) → old ++ judged doc s [] ≡ old
adds_none doc s old =
    ap (λ (vs : List Violation). old ++ vs) (judged_none doc s) ∙ append-nil old

pub two_more : (doc : Doc) (s : Statement) (old : List Violation) (xs ys : List Mention)
    → (old ++ judged doc s xs) ++ judged doc s ys ≡ old ++ judged doc s (xs ++ ys)
two_more doc s old xs ys = append_assoc old (judged doc s xs) (judged doc s ys)
    ∙ ap (λ (vs : List Violation). old ++ vs) (sym (judged_two doc s xs ys))

pub goes_on : (doc : Doc) (s : Statement) (old mid new : List Violation) (xs ys zs : List Mention)
    → zs ≡ xs ++ ys → mid ≡ old ++ judged doc s xs → new ≡ mid ++ judged doc s ys
    → new ≡ old ++ judged doc s zs
goes_on doc s old mid new xs ys zs are first second =
    second ∙ ap (λ (vs : List Violation). vs ++ judged doc s ys) first
    ∙ append_assoc old (judged doc s xs) (judged doc s ys)
    ∙ ap (λ (vs : List Violation). old ++ vs) (sym (judged_two doc s xs ys))
    ∙ ap (λ (ms : List Mention). old ++ judged doc s ms) (sym are)

-- a list of mentions of a list of things, once there is one more thing
one_more : {A : Type 0} (F : List A → List Mention) (f : A → List Mention)
    → ((xs : List A) (x : A) → F (xs ++ x ∷ []) ≡ F xs ++ f x)
    → (xs : List A) (i : ℕ) (x : A) → i < length xs → x ≡ get_or xs i x
    → F (take (i + 1) xs) ≡ F (take i xs) ++ f x
one_more {A = A} F f push xs i x lt is =
    let next : i + 1 ≡ suc i = omega arith in
    ap (λ (k : ℕ). F (take k xs)) next ∙ ap F (take-suc xs i x lt)
    ∙ ap (λ (y : A). F (take i xs ++ y ∷ [])) (sym is) ∙ push (take i xs) x

flat_push : {A : Type 0} (f : A → List Mention) (xs : List A) (x : A)
    → flat_map f (xs ++ x ∷ []) ≡ flat_map f xs ++ f x
flat_push f [] x = append-nil (f x)
flat_push f (y ∷ ys) x = ap (λ (t : List Mention). f y ++ t) (flat_push f ys x)
    ∙ sym (append_assoc (f y) (flat_map f ys) (f x))

map_push : {A : Type 0} (f : A → Mention) (xs : List A) (x : A)
    → map f (xs ++ x ∷ []) ≡ map f xs ++ f x ∷ []
map_push f [] x = refl
map_push f (y ∷ ys) x = ap (λ (t : List Mention). f y ∷ t) (map_push f ys x)

joined_push : {A : Type 0} (f : A → List Mention) (xs : List A) (x : A)
    → joined (map f (xs ++ x ∷ [])) ≡ joined (map f xs) ++ f x
joined_push f [] x = append-nil (f x)
joined_push f (y ∷ ys) x = ap (λ (t : List Mention). f y ++ t) (joined_push f ys x)
    ∙ sym (append_assoc (f y) (joined (map f ys)) (f x))

pub each_more : {A : Type 0} (f : A → Mention) (xs : List A) (i : ℕ) (x : A) → i < length xs
    → x ≡ get_or xs i x → map f (take (i + 1) xs) ≡ map f (take i xs) ++ f x ∷ []
each_more f xs i x lt is = one_more (map f) (λ y. f y ∷ []) (map_push f) xs i x lt is

pub flat_more : {A : Type 0} (f : A → List Mention) (xs : List A) (i : ℕ) (x : A)
    → i < length xs → x ≡ get_or xs i x
    → flat_map f (take (i + 1) xs) ≡ flat_map f (take i xs) ++ f x
flat_more f xs i x lt is = one_more (flat_map f) f (flat_push f) xs i x lt is

pub joined_more : {A : Type 0} (f : A → List Mention) (xs : List A) (i : ℕ) (x : A)
    → i < length xs → x ≡ get_or xs i x
    → joined (map f (take (i + 1) xs)) ≡ joined (map f (take i xs)) ++ f x
joined_more f xs i x lt is = one_more (λ ys. joined (map f ys)) f (joined_push f) xs i x lt is
