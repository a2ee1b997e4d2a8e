-- What may be run, and what was run, of a run that is made of others.
use Rattle.std.proofs.Common.{◌≡◌, List, [], ◌++◌, Option, Some, None, Result, Ok, Err, Contains, inl, inr, sym, ap, subst, ◌∙◌, append_assoc, append-nil, arith}
use Rattle.std.proofs.lemmas.List.Elements.{Contains-append_left, Contains-append_right, Contains-append_cases}
use Rattle.dg_decl.specs.declared.document.Doc.{Doc}
use Rattle.dg_value.specs.declared.value.Failure.{Failure}
use Rattle.dg_eval.specs.Runs.{Asked, Run, before, and_then, both, asks_of}
use Rattle.dg_requests.specs.declared.stop.Stop.{Stop}
use Rattle.dg_requests.specs.declared.stop.Stop.TheVariants as stop
use Rattle.dg_requests.specs.Scopes.{Scope, AllUsed, Exactly, Told}
use Rattle.dg_requests.specs.Results.{MayAsk, CanRun, Gave, Ran}

-- ---- questions

pub may_front : (s : Scope) (xs ys : List Asked) → MayAsk s (xs ++ ys) → MayAsk s xs
may_front s xs ys h x c = h x (Contains-append_left xs ys x c)

pub may_back : (s : Scope) (xs ys : List Asked) → MayAsk s (xs ++ ys) → MayAsk s ys
may_back s xs ys h x c = h x (Contains-append_right xs ys x c)

-- what is used by some is used by these and others
pub used_front : (doc : Doc) (xs ys more : List Asked) → AllUsed doc xs more
    → AllUsed doc (xs ++ ys) more
used_front doc xs ys more h y c =
    let k = h y c in
    (k.0, Contains-append_left xs ys k.0 k.1, k.2)

used_back : (doc : Doc) (xs ys more : List Asked) → AllUsed doc ys more
    → AllUsed doc (xs ++ ys) more
used_back doc xs ys more h y c =
    let k = h y c in
    (k.0, Contains-append_right xs ys k.0 k.1, k.2)

pub used_join : (doc : Doc) (xs ys m n : List Asked) → AllUsed doc xs m → AllUsed doc ys n
    → AllUsed doc (xs ++ ys) (m ++ n)
used_join doc xs ys m n h k y c =
    elim (Contains-append_cases m n y c) [
      | inl a ↦ used_front doc xs ys m h y a
      | inr b ↦ used_back doc xs ys n k y b
    ]

pub exactly_join : (doc : Doc) (xs ys m n : List Asked) → Exactly doc xs m → Exactly doc ys n
    → Exactly doc (xs ++ ys) (m ++ n)
exactly_join doc xs ys m n h k = record {
  used = used_join doc xs ys m n h.used k.used;
  each = λ x c. elim (Contains-append_cases xs ys x c) [
    | inl a ↦ Contains-append_left m n x (h.each x a)
    | inr b ↦ Contains-append_right m n x (k.each x b)
  ];
}

pub told_join : (P Q R : List Asked → Type 0) (x y z : Option (List Asked)) → ((m n : List Asked)
    → P m → Q n → R (m ++ n)) → Told x y P → Told y z Q → Told x z R
told_join P Q R None y z f h k = tt
told_join P Q R (Some x) None z f h k = absurd h
told_join P Q R (Some x) (Some y) None f h k = absurd k
told_join P Q R (Some x) (Some y) (Some z) f h k =
    (h.0 ++ k.0, k.1 ∙ ap (λ w. w ++ k.0) h.1 ∙ append_assoc x h.0 k.0, f h.0 k.0 h.2 k.2)

pub told_weaker : (P R : List Asked → Type 0) (x y : Option (List Asked))
    → ((m : List Asked) → P m → R m) → Told x y P → Told x y R
told_weaker P R None y f h = tt
told_weaker P R (Some x) None f h = absurd h
told_weaker P R (Some x) (Some y) f h = (h.0, h.1, f h.0 h.2)

-- ---- what may be run

pub can_as : {A : Type 0} (s : Scope) (q r : Run A) → q ≡ r → CanRun s q → CanRun s r
can_as {A} s q r e h = subst (λ (x : Run A). CanRun s x) e h

pub can_first : {A B : Type 0} (s : Scope) (r : Run A) (next : A → Run B)
    → CanRun s (and_then r next) → CanRun s r
can_first s None next h = absurd h.may
can_first {A} {B} s (Some (Ok a, asks)) next h = at (next a) h
  where
    at : (n : Run B) → CanRun s (before asks n) → CanRun {A = A} s (Some (Ok a, asks))
    at None h = absurd h.may
    at (Some (r, more)) h = record { may = may_front s asks more h.may }
can_first s (Some (Err f, asks)) next h = record { may = h.may }

pub can_rest : {A B : Type 0} (s : Scope) (r : Run A) (next : A → Run B) (a : A)
    → CanRun s (and_then r next) → Gave r (Ok a) → CanRun s (next a)
can_rest s None next a h g = absurd h.may
can_rest {A} {B} s (Some (Ok b, asks)) next a h g =
    let same : b ≡ a = cc in
    subst (λ (x : A). CanRun s (next x)) same (at (next b) h)
  where
    at : (n : Run B) → CanRun s (before asks n) → CanRun s n
    at None h = absurd h.may
    at (Some (r, more)) h = record { may = may_back s asks more h.may }
can_rest s (Some (Err f, asks)) next a h g = cc

pub can_both_first : {A : Type 0} (s : Scope) (r : Run A) (rs : Run (List A))
    → CanRun s (both r rs) → CanRun s r
can_both_first s None rs h = absurd h.may
can_both_first s (Some r) None h = absurd h.may
can_both_first s (Some (r, asks)) (Some (rs, more)) h = record { may = may_front s asks more h.may }

pub can_both_rest : {A : Type 0} (s : Scope) (r : Run A) (rs : Run (List A))
    → CanRun s (both r rs) → CanRun s rs
can_both_rest s None rs h = absurd h.may
can_both_rest s (Some r) None h = absurd h.may
can_both_rest s (Some (r, asks)) (Some (rs, more)) h = record { may = may_back s asks more h.may }

-- ---- what was run

pub ran_as : {A : Type 0} (s : Scope) (q r : Run A) (x y : Option (List Asked))
    → (result : Result A Stop)
    → q ≡ r → Ran s q x y result → Ran s r x y result
ran_as {A} s q r x y result e h = subst (λ (z : Run A). Ran s z x y result) e h

pub none_asked : (x : Asked) → Contains [] x → ⊥
none_asked x c = absurd (omega (arith, c.1))

none_used : (doc : Doc) → AllUsed doc [] []
none_used doc y c = absurd (none_asked y c)

exactly_none : (doc : Doc) → Exactly doc [] []
exactly_none doc = record { used = none_used doc; each = λ x c. absurd (none_asked x c) }

told_same : (P : List Asked → Type 0) (x : Option (List Asked)) → P [] → Told x x P
told_same P None h = tt
told_same P (Some x) h = ([], sym (append-nil x), h)

-- a call that asks for nothing
pub ran_plain : {A : Type 0} (s : Scope) (r : Run A) (x : Option (List Asked))
    → (result : Result A Stop)
    → asks_of r ≡ [] → Gave r result → Ran s r x x result
ran_plain s None x (Ok a) e g = cc
ran_plain s None x (Err (stop.Failed f)) e g = cc
ran_plain s None x (Err stop.NoMemory) e g =
    record { gave = tt; asked = told_same _ x (none_used s.doc) }
ran_plain s (Some (r, asks)) x (Ok a) e g =
    let P : List Asked → Type 0 = λ l. Exactly s.doc l [] in
    record { gave = g; asked = told_same _ x (subst P (sym e) (exactly_none s.doc)) }
ran_plain s (Some (r, asks)) x (Err (stop.Failed f)) e g =
    let P : List Asked → Type 0 = λ l. Exactly s.doc l [] in
    record { gave = g; asked = told_same _ x (subst P (sym e) (exactly_none s.doc)) }
ran_plain s (Some (r, asks)) x (Err stop.NoMemory) e g =
    let P : List Asked → Type 0 = λ l. AllUsed s.doc l [] in
    record { gave = tt; asked = told_same _ x (subst P (sym e) (none_used s.doc)) }

-- a stop of the first is that of the whole
pub ran_stops : {A B : Type 0} (s : Scope) (r : Run A) (next : A
    → Run B) (e : Stop) (x y : Option (List Asked))
    → CanRun s (and_then r next) → Ran s r x y (Err e) → Ran s (and_then r next) x y (Err e)
ran_stops s None next e x y c h = absurd c.may
ran_stops {A} {B} s (Some (Err f, asks)) next (stop.Failed g) x y c h =
    let e = h.gave in
    let same : f ≡ g = cc in
    let err : Failure → Option (Result B Failure) = λ w. Some (Err w) in
    record { gave = ap err same; asked = h.asked }
ran_stops s (Some (Err f, asks)) next stop.NoMemory x y c h = record { gave = tt; asked = h.asked }
ran_stops s (Some (Ok a, asks)) next (stop.Failed g) x y c h = (let e = h.gave in cc)
ran_stops {A} {B} s (Some (Ok a, asks)) next stop.NoMemory x y c h = at (next a) c
  where
    at : (n : Run B) → CanRun s (before asks n) → Ran s (before asks n) x y (Err stop.NoMemory)
    at None c = absurd c.may
    at (Some (r, more)) c = record {
      gave = tt;
      asked = told_weaker _ _ x y (λ m k. used_front s.doc asks more m k) h.asked;
    }

-- the second after the first
pub ran_then : {A B : Type 0} (s : Scope) (r : Run A) (next : A
    → Run B) (a : A) (x y z : Option (List Asked)) (result : Result B Stop)
    → CanRun s (and_then r next) → Ran s r x y (Ok a) → Ran s (next a) y z result
    → Ran s (and_then r next) x z result
ran_then s None next a x y z result c h k = absurd c.may
ran_then s (Some (Err f, asks)) next a x y z result c h k = (let e = h.gave in cc)
ran_then {A} {B} s (Some (Ok b, asks)) next a x y z result c h k =
    let e = h.gave in
    let same : a ≡ b = cc in
    at (next b) result c (subst (λ (w : A). Ran s (next w) y z result) same k)
  where
    at : (n : Run B) (result : Result B Stop) → CanRun s (before asks n) → Ran s n y z result
        → Ran s (before asks n) x z result
    at None result c k = absurd c.may
    at (Some (r, more)) (Ok v) c k = record {
      gave = k.gave;
      asked = told_join _ _ _ x y z (exactly_join s.doc asks more) h.asked k.asked;
    }
    at (Some (r, more)) (Err (stop.Failed f)) c k = record {
      gave = k.gave;
      asked = told_join _ _ _ x y z (exactly_join s.doc asks more) h.asked k.asked;
    }
    at (Some (r, more)) (Err stop.NoMemory) c k = record {
      gave = tt;
      asked = told_join _ _ _ x y z (λ m n p q. used_join s.doc asks more m n p.used q) h.asked
          k.asked;
    }

used_none : (doc : Doc) (xs : List Asked) → AllUsed doc xs []
used_none doc xs y c = absurd (none_asked y c)

-- a call that memory lacks for before it asks
pub ran_nothing : {A : Type 0} (s : Scope) (r : Run A) (x : Option (List Asked))
    → Ran s r x x (Err stop.NoMemory)
ran_nothing s r x = record {
  gave = tt;
  asked = told_same (AllUsed s.doc (asks_of r)) x (used_none s.doc (asks_of r));
}
