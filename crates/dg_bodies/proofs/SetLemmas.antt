-- A set of values by looks at each of them once.
use Rattle.std.proofs.Common.{◌≡◌, Bool, true, false, cond, List, [], ◌∷◌, ◌++◌, map, Option, Some, None, Result, Ok, Err, option_map, Contains, inl, inr, ◌⊎◌, ◌||◌, refl, sym, ap, subst, ◌∙◌, ◌<◌, length, append-nil, arith}
use Rattle.std.proofs.lemmas.List.Elements.{Contains-append_left, Contains-append_right, Contains-append_cases}
use Rattle.dg_value.specs.declared.value.Failure.{Failure}
use Rattle.dg_value.specs.declared.value.Value.{Value}
use Rattle.dg_value.specs.declared.value.Value.TheVariants as value
use Rattle.dg_value.specs.Same.{same_element}
use Rattle.dg_eval.specs.Runs.{Asked, Run, gives, before, and_then, in_order, asks_of}
use Rattle.dg_eval.specs.Bodies.{has_same, with_elements, set_of}
use Rattle.dg_requests.specs.declared.stop.Stop.{Stop}
use Rattle.dg_requests.specs.declared.stop.Stop.TheVariants as stop
use Rattle.dg_requests.specs.Scopes.{Scope, AllUsed, Exactly, Told}
use Rattle.dg_decl.specs.declared.document.Doc.{Doc}
use Rattle.dg_requests.specs.Results.{CanRun, Ran}
use Rattle.dg_requests.proofs.RanLemmas.{ran_plain, ran_then, ran_stops, can_first}
use Rattle.dg_bodies.specs.Elements.{as_looked_at, is_among, kept_of}
use Rattle.dg_bodies.proofs.RunLists.{before_before, then_then, gives_then}

-- ---- runs that ask for the same

none_asked : (x : Asked) → Contains [] x → ⊥
none_asked x c = absurd (omega (arith, c.1))

-- each of these is one of those
pub record Within (xs ys : List Asked) : Type 0 where
  pub each : (x : Asked) → Contains xs x → Contains ys x

-- Two runs give the same and ask for the same, but for what was asked for before.
pub record Alike {A : Type 0} (known : List Asked) (q r : Run A) : Type 0 where
  pub value : option_map (λ p. p.0) q ≡ option_map (λ p. p.0) r
  pub fore : (x : Asked) → Contains (asks_of q) x → Contains (asks_of r) x ⊎ Contains known x
  pub back : (x : Asked) → Contains (asks_of r) x → Contains (asks_of q) x

alike_same : {A : Type 0} (known : List Asked) (q r : Run A) → q ≡ r → Alike known q r
alike_same {A} known q r e =
    subst (λ (u : Run A). Alike known q u) e
    (record { value = refl; fore = λ x c. inl c; back = λ x c. c })

-- one step more of both
alike_step : {A : Type 0} (known front asked : List Asked) (q r : Run A)
    → Alike (asked ++ known) q r → Within front (asked ++ known) → Within asked front
    → Alike known (before front q) (before asked r)
alike_step known front asked None None a w v =
    record { value = refl; fore = λ x c. absurd (none_asked x c); back = λ x c. absurd (none_asked x c) }
alike_step known front asked None (Some r) a w v = (let e = a.value in cc)
alike_step known front asked (Some q) None a w v = (let e = a.value in cc)
alike_step known front asked (Some (p, xs)) (Some (r, ys)) a w v = record {
  value = a.value;
  fore = λ x c. elim (Contains-append_cases front xs x c) [
    | inl h ↦ of_known x (w.each x h)
    | inr h ↦ elim (a.fore x h) [
      | inl k ↦ inl (Contains-append_right asked ys x k)
      | inr k ↦ of_known x k
    ]
  ];
  back = λ x c. elim (Contains-append_cases asked ys x c) [
    | inl h ↦ Contains-append_left front xs x (v.each x h)
    | inr h ↦ Contains-append_right front xs x (a.back x h)
  ];
}
  where
    of_known : (x : Asked) → Contains (asked ++ known) x
        → Contains (asked ++ ys) x ⊎ Contains known x
    of_known x c = elim (Contains-append_cases asked known x c) [
      | inl h ↦ inl (Contains-append_left asked ys x h)
      | inr h ↦ inr h
    ]

-- ---- elements whose contents are known

abbrev Known : (Value → Run Value) → List Asked → List Value → List Value → Type 0
Known look known [] [] = Unit {0}
Known look known (e ∷ es) (b ∷ bs) =
    ((z : List Asked) × (look e ≡ Some (Ok b, z)) × Within z known) × Known look known es bs
Known look known [] (b ∷ bs) = ⊥
Known look known (e ∷ es) [] = ⊥

within_more : (x y z : List Asked) → Within x y → Within x (z ++ y)
within_more x y z w = record { each = λ a c. Contains-append_right z y a (w.each a c) }

within_front : (x y : List Asked) → Within x (x ++ y)
within_front x y = record { each = λ a c. Contains-append_left x y a c }

known_more : (look : Value → Run Value) (known more : List Asked) (es bs : List Value)
    → Known look known es bs → Known look (more ++ known) es bs
known_more look known more [] [] h = tt
known_more look known more (e ∷ es) (b ∷ bs) h =
    ((h.0.0, h.0.1, within_more h.0.0 known more h.0.2), known_more look known more es bs h.1)
known_more look known more [] (b ∷ bs) h = absurd h
known_more look known more (e ∷ es) [] h = absurd h

known_push : (look : Value → Run Value) (known asked : List Asked) (es bs : List Value)
    (v a : Value) → Known look known es bs → look v ≡ Some (Ok a, asked) → Within asked known
    → Known look known (es ++ v ∷ []) (bs ++ a ∷ [])
known_push look known asked [] [] v a h is w = ((asked, is, w), tt)
known_push look known asked (e ∷ es) (b ∷ bs) v a h is w =
    (h.0, known_push look known asked es bs v a h.1 is w)
known_push look known asked [] (b ∷ bs) v a h is w = absurd h
known_push look known asked (e ∷ es) [] v a h is w = absurd h

-- ---- a comparison with them

abbrev IsThere : List Value → Type 0
IsThere [] = ⊥
IsThere (e ∷ es) = Unit {0}

record Compared (es : List Value) (r : Run Bool) (found : Bool) (asked known : List Asked)
    : Type 0 where
  pub asks : List Asked
  pub is : r ≡ Some (Ok found, asks)
  pub only : Within asks (asked ++ known)
  pub first : IsThere es → Within asked asks

none_within : (xs : List Asked) → Within [] xs
none_within xs = record { each = λ x c. absurd (none_asked x c) }

within_back : (z x y : List Asked) → Within z y → Within z (x ++ y)
within_back z x y w = record { each = λ a c. Contains-append_right x y a (w.each a c) }

within_join : (x y z : List Asked) → Within x z → Within y z → Within (x ++ y) z
within_join x y z v w = record {
  each = λ a c. elim (Contains-append_cases x y a c) [
    | inl h ↦ v.each a h
    | inr h ↦ w.each a h
  ];
}

compare : (look : Value → Run Value) (known asked : List Asked) (v a : Value)
    (es bs : List Value) → look v ≡ Some (Ok a, asked) → Known look known es bs
    → Compared es (has_same look v es) (is_among a bs) asked known
compare look known asked v a [] [] is h =
    record { asks = []; is = refl; only = none_within (asked ++ known); first = λ t. absurd t }
compare look known asked v a (e ∷ es) (b ∷ bs) is h =
    let rest = compare look known asked v a es bs is h.1 in
    let opened : has_same look v (e ∷ es)
    ≡ before asked (before h.0.0
    (cond (same_element a b) (gives true) (has_same look v es))) =
    (λ i. and_then (is i) (λ x. and_then (h.0.1 i) (λ y.
    cond (same_element x y) (gives true) (has_same look v es)))) in
    subst (λ (r : Run Bool). Compared (e ∷ es) r (is_among a (b ∷ bs)) asked known) (sym opened)
    (by_test (same_element a b) (is_among a bs) h.0.0 h.0.2 (has_same look v es) rest)
  where
    by_test : (d found : Bool) (z : List Asked) → Within z known → (r : Run Bool)
        → Compared es r found asked known
        → Compared (e ∷ es) (before asked (before z (cond d (gives true) r))) (d || found) asked
        known
    by_test true found z w r rest = record {
      asks = asked ++ (z ++ []);
      is = refl;
      only = within_join asked (z ++ []) (asked ++ known) (within_front asked known)
          (within_join z [] (asked ++ known) (within_back z asked known w)
          (none_within (asked ++ known)));
      first = λ t. within_front asked (z ++ []);
    }
    by_test false found z w r rest = record {
      asks = asked ++ (z ++ rest.asks);
      is = ap (λ (q : Run Bool). before asked (before z q)) rest.is;
      only = within_join asked (z ++ rest.asks) (asked ++ known) (within_front asked known)
          (within_join z rest.asks (asked ++ known) (within_back z asked known w) rest.only);
      first = λ t. within_front asked (z ++ rest.asks);
    }
compare look known asked v a [] (b ∷ bs) is h = absurd h
compare look known asked v a (e ∷ es) [] is h = absurd h

-- ---- values after these

-- what comes of the contents behind some values
abbrev kept_run : List Value → List Value → List Value → List Value → Run (List Value)
kept_run es bs ws contents = gives (kept_of es bs ws contents)

pub order_then : {A B : Type 0} (x : Run A) (xs : List (Run A)) (next : List A → Run B)
    → and_then (in_order (x ∷ xs)) next
    ≡ and_then x (λ a. and_then (in_order xs) (λ more. next (a ∷ more)))
order_then {A} {B} x xs next =
    let more : A → List A → Run (List A) = λ a vs. gives (a ∷ vs) in
    then_then x (λ a. and_then (in_order xs) (more a)) next
    ∙ (λ i. and_then x (λ a. (then_then (in_order xs) (more a) next
    ∙ (λ j. and_then (in_order xs) (λ vs. gives_then (a ∷ vs) next j))) i))

abbrev Collects : (Value → Run Value) → List Asked → Value → List Value → Value → List Value
    → List Value → Type 0
Collects look known e es b bs ws =
    Alike known (with_elements look (e ∷ es) ws)
    (and_then (in_order (map look ws)) (kept_run (e ∷ es) (b ∷ bs) ws))

-- what a comparison found, as what goes on
abbrev go_on : (Value → Run Value) → List Value → Value → List Value → Bool → Run (List Value)
go_on look es w ws has = with_elements look (cond has es (es ++ w ∷ [])) ws

goes_on : (look : Value → Run Value) (es : List Value) (w : Value) (ws : List Value)
    → with_elements look es (w ∷ ws) ≡ and_then (has_same look w es) (go_on look es w ws)
goes_on look es w ws =
    then_then (has_same look w es) (λ has. gives (cond has es (es ++ w ∷ [])))
    (λ more. with_elements look more ws)
    ∙ (λ i. and_then (has_same look w es) (λ has.
    gives_then (cond has es (es ++ w ∷ [])) (λ more. with_elements look more ws) i))

collects : (look : Value → Run Value) (known : List Asked) (ws : List Value) (e : Value)
    (es : List Value) (b : Value) (bs : List Value) → Known look known (e ∷ es) (b ∷ bs)
    → Collects look known e es b bs ws
collects look known [] e es b bs h = alike_same known _ _ refl
collects look known (w ∷ ws) e es b bs h =
    let left = goes_on look (e ∷ es) w ws in
    let right = order_then (look w) (map look ws) (kept_run (e ∷ es) (b ∷ bs) (w ∷ ws)) in
    subst (λ (q : Run (List Value)). Alike known q (and_then (in_order (map look (w ∷ ws)))
    (kept_run (e ∷ es) (b ∷ bs) (w ∷ ws)))) (sym left)
    (subst (λ (r : Run (List Value)). Alike known
    (and_then (has_same look w (e ∷ es)) (go_on look (e ∷ es) w ws)) r) (sym right)
    (by_look (λ asked es2 bs2 k. collects look (asked ++ known) ws e es2 b bs2 k) (look w) refl))
  where
    rest_of : Value → Run (List Value)
    rest_of a =
        and_then (in_order (map look ws)) (λ more. kept_run (e ∷ es) (b ∷ bs) (w ∷ ws) (a ∷ more))

    by_found : (a : Value) (asked : List Asked) → look w ≡ Some (Ok a, asked) → (found : Bool)
        → ((es2 bs2 : List Value) → Known look (asked ++ known) (e ∷ es2) (b ∷ bs2)
        → Collects look (asked ++ known) e es2 b bs2 ws)
        → Alike (asked ++ known) (go_on look (e ∷ es) w ws found)
        (and_then (in_order (map look ws)) (λ more. gives (cond found
        (kept_of (e ∷ es) (b ∷ bs) ws more)
        (kept_of (e ∷ es ++ w ∷ []) (b ∷ bs ++ a ∷ []) ws more))))
    by_found a asked is true go = go es bs (known_more look known asked (e ∷ es) (b ∷ bs) h)
    by_found a asked is false go =
        go (es ++ w ∷ []) (bs ++ a ∷ [])
        (known_push look (asked ++ known) asked (e ∷ es) (b ∷ bs) w a
        (known_more look known asked (e ∷ es) (b ∷ bs) h) is (within_front asked known))

    opened : (o : Run Value) → look w ≡ o
        → and_then (has_same look w (e ∷ es)) (go_on look (e ∷ es) w ws)
        ≡ and_then (and_then o (λ x. and_then (look e) (λ y.
        cond (same_element x y) (gives true) (has_same look w es))))
        (go_on look (e ∷ es) w ws)
    opened o is = λ i. and_then (and_then (is i) (λ x. and_then (look e) (λ y.
        cond (same_element x y) (gives true) (has_same look w es)))) (go_on look (e ∷ es) w ws)

    by_look : ((asked : List Asked) (es2 bs2 : List Value)
        → Known look (asked ++ known) (e ∷ es2) (b ∷ bs2)
        → Collects look (asked ++ known) e es2 b bs2 ws) → (o : Run Value) → look w ≡ o
        → Alike known (and_then (has_same look w (e ∷ es)) (go_on look (e ∷ es) w ws))
        (and_then o rest_of)
    by_look go None is = alike_same known _ _ (opened None is)
    by_look go (Some (Err f, asked)) is = alike_same known _ _ (opened (Some (Err f, asked)) is)
    by_look go (Some (Ok a, asked)) is =
        let compared = compare look known asked w a (e ∷ es) (b ∷ bs) is h in
        subst (λ (q : Run Bool). Alike known (and_then q (go_on look (e ∷ es) w ws))
        (before asked (rest_of a))) (sym compared.is)
        (alike_step known compared.asks asked _ _
        (by_found a asked is (is_among a (b ∷ bs)) (go asked)) compared.only (compared.first tt))

-- ---- a set of two values and more

-- the set of some values by the contents behind them, in the order in which they are looked at
abbrev pub set_from : List Value → List Value → Run Value
set_from vs contents = gives (value.Set (kept_of [] [] vs (as_looked_at contents)))

abbrev elements_from : List Value → List Value → Run (List Value)
elements_from vs contents = gives (kept_of [] [] vs (as_looked_at contents))

alike_then : {A B : Type 0} (known : List Asked) (f : A → B) (q r : Run A) → Alike known q r
    → Alike known (and_then q (λ a. gives (f a))) (and_then r (λ a. gives (f a)))
alike_then known f None None a =
    record { value = refl; fore = λ x c. inl c; back = λ x c. c }
alike_then known f None (Some r) a = (let e = a.value in cc)
alike_then known f (Some q) None a = (let e = a.value in cc)
alike_then {A} {B} known f (Some (p, xs)) (Some (r, ys)) a =
    at p r (λ i. at_some (a.value i))
  where
    at_some : Option (Result A Failure) → Result A Failure
    at_some None = p
    at_some (Some u) = u

    plain : List Asked → Result A Failure → Run B
    plain l u = and_then (Some (u, l)) (λ a. gives (f a))

    asks : (l : List Asked) (u : Result A Failure) (x : Asked) → Contains (asks_of (plain l u)) x
        → Contains l x
    asks l (Ok u) x c = subst (λ (m : List Asked). Contains m x) (append-nil l) c
    asks l (Err e) x c = c

    asked : (l : List Asked) (u : Result A Failure) (x : Asked) → Contains l x
        → Contains (asks_of (plain l u)) x
    asked l (Ok u) x c = subst (λ (m : List Asked). Contains m x) (sym (append-nil l)) c
    asked l (Err e) x c = c

    result : (l m : List Asked) (u : Result A Failure)
        → option_map (λ p. p.0) (plain l u) ≡ option_map (λ p. p.0) (plain m u)
    result l m (Ok u) = refl
    result l m (Err e) = refl

    at : (p r : Result A Failure) → p ≡ r → Alike known (plain xs p) (plain ys r)
    at p r same = record {
      value = result xs ys p ∙ ap (λ u. option_map (λ p. p.0) (plain ys u)) same;
      fore = λ x c. elim (a.fore x (asks xs p x c)) [
        | inl h ↦ inl (asked ys r x h)
        | inr h ↦ inr h
      ];
      back = λ x c. asked xs p x (a.back x (asks ys r x c));
    }

two_looked : (look : Value → Run Value) (v w : Value) (vs : List Value)
    → Alike [] (with_elements look [] (v ∷ w ∷ vs))
    (and_then (in_order (map look (w ∷ v ∷ vs))) (elements_from (v ∷ w ∷ vs)))
two_looked look v w vs =
    let right = order_then (look w) (map look (v ∷ vs)) (elements_from (v ∷ w ∷ vs))
    ∙ (λ i. and_then (look w) (λ a.
    order_then (look v) (map look vs) (λ more. elements_from (v ∷ w ∷ vs) (a ∷ more)) i)) in
    subst (λ (r : Run (List Value)). Alike [] (with_elements look [] (v ∷ w ∷ vs)) r) (sym right)
    (subst (λ (q : Run (List Value)). Alike [] q
    (and_then (look w) (λ a. and_then (look v) (rest_of a)))) (sym left)
    (by_looks (look w) refl (look v) refl))
  where
    rest_of : Value → Value → Run (List Value)
    rest_of a b =
        and_then (in_order (map look vs)) (λ more. elements_from (v ∷ w ∷ vs) (a ∷ b ∷ more))

    left : with_elements look [] (v ∷ w ∷ vs)
        ≡ and_then (has_same look w (v ∷ [])) (go_on look (v ∷ []) w vs)
    left = gives_then (v ∷ []) (λ more. with_elements look more (w ∷ vs)) ∙ goes_on look (v ∷ []) w vs

    compared_by : Run Value → Run Value → Run (List Value)
    compared_by o u =
        and_then (and_then o (λ a. and_then u (λ b.
        cond (same_element a b) (gives true) (gives false)))) (go_on look (v ∷ []) w vs)

    opened : (o u : Run Value) → look w ≡ o → look v ≡ u
        → and_then (has_same look w (v ∷ [])) (go_on look (v ∷ []) w vs) ≡ compared_by o u
    opened o u e f = λ i. compared_by (e i) (f i)

    by_found : (a b : Value) (x z : List Asked) → look w ≡ Some (Ok a, x)
        → look v ≡ Some (Ok b, z) → (found : Bool)
        → Alike (x ++ z) (go_on look (v ∷ []) w vs found)
        (and_then (in_order (map look vs)) (λ more. gives (cond found
        (kept_of (v ∷ []) (b ∷ []) vs more) (kept_of (v ∷ w ∷ []) (b ∷ a ∷ []) vs more))))
    by_found a b x z e f true =
        collects look (x ++ z) vs v [] b []
        ((z, f, within_back z x z (record { each = λ y c. c })), tt)
    by_found a b x z e f false =
        collects look (x ++ z) vs v (w ∷ []) b (a ∷ [])
        ((z, f, within_back z x z (record { each = λ y c. c })), ((x, e, within_front x z), tt))

    found_in : (d : Bool) (x z : List Asked)
        → and_then (before x (before z (cond d (gives true) (gives false))))
        (go_on look (v ∷ []) w vs)
        ≡ before (x ++ (z ++ [])) (go_on look (v ∷ []) w vs (d || false))
    found_in true x z = refl
    found_in false x z = refl

    by_looks : (o : Run Value) → look w ≡ o → (u : Run Value) → look v ≡ u
        → Alike [] (and_then (has_same look w (v ∷ [])) (go_on look (v ∷ []) w vs))
        (and_then o (λ a. and_then u (rest_of a)))
    by_looks None e u f = alike_same [] _ _ (opened None u e f)
    by_looks (Some (Err g, x)) e u f = alike_same [] _ _ (opened (Some (Err g, x)) u e f)
    by_looks (Some (Ok a, x)) e None f = alike_same [] _ _ (opened (Some (Ok a, x)) None e f)
    by_looks (Some (Ok a, x)) e (Some (Err g, z)) f =
        alike_same [] _ _ (opened (Some (Ok a, x)) (Some (Err g, z)) e f)
    by_looks (Some (Ok a, x)) e (Some (Ok b, z)) f =
        let here = opened (Some (Ok a, x)) (Some (Ok b, z)) e f
        ∙ found_in (same_element a b) x z in
        subst (λ (q : Run (List Value)). Alike [] q (before x (before z (rest_of a b)))) (sym here)
        (subst (λ (r : Run (List Value)). Alike []
        (before (x ++ (z ++ [])) (go_on look (v ∷ []) w vs (same_element a b || false))) r)
        (sym (before_before x z (rest_of a b)))
        (alike_step [] (x ++ (z ++ [])) (x ++ z) _ _
        (subst (λ (l : List Asked). Alike l (go_on look (v ∷ []) w vs (same_element a b || false))
        (rest_of a b)) (sym (append-nil (x ++ z)))
        (by_found a b x z e f (same_element a b || false)))
        (asked_within x z) (within_asked x z)))
      where
        asked_within : (x z : List Asked) → Within (x ++ (z ++ [])) ((x ++ z) ++ [])
        asked_within x z = record {
          each = λ y c. subst (λ (l : List Asked). Contains l y)
              (ap (λ (l : List Asked). x ++ l) (append-nil z) ∙ sym (append-nil (x ++ z))) c;
        }

        within_asked : (x z : List Asked) → Within (x ++ z) (x ++ (z ++ []))
        within_asked x z = record {
          each = λ y c. subst (λ (l : List Asked). Contains (x ++ l) y) (sym (append-nil z)) c;
        }

set_alike : (look : Value → Run Value) (vs : List Value) → 1 < length vs
    → Alike [] (set_of look vs)
    (and_then (in_order (map look (as_looked_at vs))) (set_from vs))
set_alike look [] h = absurd (omega arith)
set_alike look (v ∷ []) h = absurd (omega arith)
set_alike look (v ∷ w ∷ vs) h =
    let looks = in_order (map look (w ∷ v ∷ vs)) in
    let made : List Value → Run Value = λ es. gives (value.Set es) in
    let same : and_then (and_then looks (elements_from (v ∷ w ∷ vs))) made
    ≡ and_then looks (set_from (v ∷ w ∷ vs)) =
    then_then looks (elements_from (v ∷ w ∷ vs)) made
    ∙ (λ i. and_then looks (λ cs.
    gives_then (kept_of [] [] (v ∷ w ∷ vs) (as_looked_at cs)) made i)) in
    subst (λ (r : Run Value). Alike [] (set_of look (v ∷ w ∷ vs)) r) same
    (alike_then [] (λ es. value.Set es) _ _ (two_looked look v w vs))

-- ---- what is made of alike runs

told_weaker : (P R : List Asked → Type 0) (x y : Option (List Asked))
    → ((m : List Asked) → P m → R m) → Told x y P → Told x y R
told_weaker P R None y f h = tt
told_weaker P R (Some x) None f h = absurd h
told_weaker P R (Some x) (Some y) f h = (h.0, h.1, f h.0 h.2)

alike_used : {A : Type 0} (doc : Doc) (q r : Run A) → Alike [] q r → (more : List Asked)
    → AllUsed doc (asks_of r) more → AllUsed doc (asks_of q) more
alike_used doc q r a more h y c = (let k = h y c in (k.0, a.back k.0 k.1, k.2))

alike_exactly : {A : Type 0} (doc : Doc) (q r : Run A) → Alike [] q r → (more : List Asked)
    → Exactly doc (asks_of r) more → Exactly doc (asks_of q) more
alike_exactly doc q r a more h = record {
  used = alike_used doc q r a more h.used;
  each = λ x c. elim (a.fore x c) [
    | inl k ↦ h.each x k
    | inr k ↦ absurd (none_asked x k)
  ];
}

alike_ran : {A : Type 0} (s : Scope) (q r : Run A) (x y : Option (List Asked))
    → (result : Result A Stop) → Alike [] q r → Ran s r x y result → Ran s q x y result
alike_ran s q r x y (Ok v) a h = record {
  gave = a.value ∙ h.gave;
  asked = told_weaker _ _ x y (alike_exactly s.doc q r a) h.asked;
}
alike_ran s q r x y (Err (stop.Failed f)) a h = record {
  gave = a.value ∙ h.gave;
  asked = told_weaker _ _ x y (alike_exactly s.doc q r a) h.asked;
}
alike_ran s q r x y (Err stop.NoMemory) a h = record {
  gave = tt;
  asked = told_weaker _ _ x y (alike_used s.doc q r a) h.asked;
}

alike_can : {A : Type 0} (s : Scope) (q r : Run A) → Alike [] q r → CanRun s q → CanRun s r
alike_can s None r a h = absurd h.may
alike_can s (Some q) None a h = (let e = a.value in cc)
alike_can s (Some (q, xs)) (Some (r, ys)) a h =
    record { may = λ x c. h.may x (a.back x c) }

-- ---- the set of some values

pub set_can : (s : Scope) (look : Value → Run Value) (vs order : List Value) → 1 < length vs
    → order ≡ as_looked_at vs → CanRun s (set_of look vs) → CanRun s (in_order (map look order))
set_can s look vs order two is h =
    let all = in_order (map look (as_looked_at vs)) in
    subst (λ (l : List Value). CanRun s (in_order (map look l))) (sym is)
    (can_first s all (set_from vs)
    (alike_can s (set_of look vs) (and_then all (set_from vs)) (set_alike look vs two) h))

pub set_ran : (s : Scope) (look : Value → Run Value) (vs order cs : List Value)
    (x y : Option (List Asked)) (result : Result Value Stop) → 1 < length vs
    → order ≡ as_looked_at vs → CanRun s (set_of look vs)
    → Ran s (in_order (map look order)) x y (Ok cs)
    → Ran s (set_from vs cs) y y result → Ran s (set_of look vs) x y result
set_ran s look vs order cs x y result two is h looks rest =
    let all = in_order (map look (as_looked_at vs)) in
    let alike = set_alike look vs two in
    alike_ran s (set_of look vs) (and_then all (set_from vs)) x y result alike
    (ran_then s all (set_from vs) cs x y y result
    (alike_can s (set_of look vs) (and_then all (set_from vs)) alike h)
    (subst (λ (l : List Value). Ran s (in_order (map look l)) x y (Ok cs)) is looks) rest)

pub set_stops : (s : Scope) (look : Value → Run Value) (vs order : List Value)
    (x y : Option (List Asked)) (e : Stop) → 1 < length vs
    → order ≡ as_looked_at vs → CanRun s (set_of look vs)
    → Ran s (in_order (map look order)) x y (Err e) → Ran s (set_of look vs) x y (Err e)
set_stops s look vs order x y e two is h looks =
    let all = in_order (map look (as_looked_at vs)) in
    let alike = set_alike look vs two in
    alike_ran s (set_of look vs) (and_then all (set_from vs)) x y (Err e) alike
    (ran_stops s all (set_from vs) e x y
    (alike_can s (set_of look vs) (and_then all (set_from vs)) alike h)
    (subst (λ (l : List Value). Ran s (in_order (map look l)) x y (Err e)) is looks))

-- one value is looked at by nothing
pub set_short : (s : Scope) (look : Value → Run Value) (vs : List Value) (x : Option (List Asked))
    (v : Value) → length vs < 2 → v ≡ value.Set vs → Ran s (set_of look vs) x x (Ok v)
set_short s look vs x v h is =
    subst (λ (w : Value). Ran s (set_of look vs) x x (Ok w)) (sym is) (short vs h)
  where
    short : (vs : List Value) → length vs < 2 → Ran s (set_of look vs) x x (Ok (value.Set vs))
    short [] h = ran_plain s _ x _ refl refl
    short (v ∷ []) h = ran_plain s _ x _ refl refl
    short (v ∷ w ∷ vs) h = absurd (omega arith)

pub set_made : (s : Scope) (vs cs : List Value) (x : Option (List Asked)) (v : Value)
    → v ≡ value.Set (kept_of [] [] vs (as_looked_at cs)) → Ran s (set_from vs cs) x x (Ok v)
set_made s vs cs x v is =
    subst (λ (w : Value). Ran s (set_from vs cs) x x (Ok w)) (sym is)
    (ran_plain s (set_from vs cs) x _ refl refl)
