-- In a body that has its type no `Producer` stands as a value: its run is the same where the
-- parameters of such types are hidden.
use Rattle.std.proofs.Common.{◌≡◌, ◌⊎◌, inl, inr, ℕ, suc, ◌+◌, Bool, true, false, cond, is_some, ◌&&◌, List, [], ◌∷◌, length, map, Option, Some, None, refl, sym, ap, subst, ◌∙◌}
use Rattle.std.specs.List.{list_all}
use Rattle.std.specs.Option.{option_map_or}
use Rattle.std.proofs.lemmas.Bool.{false≢true, or_cases}
use Rattle.std.proofs.lemmas.Option.{none-some, same_Some}
use Rattle.dg_lex.specs.Bytes.{Bytes}
use Rattle.dg_types.specs.declared.shape.Shape.{Shape, out-Shape}
use Rattle.dg_types.specs.declared.shape.Shape.TheVariants as shape
use Rattle.dg_types.specs.declared.shape.Shape.TheOpen.{Shape-F}
use Rattle.dg_types.specs.declared.shape.Shape.TheViews.{out-roll-Shape}
use Rattle.dg_types.specs.Equality.{same_shape}
use Rattle.dg_types.specs.Requests.{Layer, base_at, base_of}
use Rattle.dg_types.proofs.ShapeEquality.{shape_decides}
use Rattle.dg_decl.specs.declared.document.Doc.{Doc}
use Rattle.dg_decl.specs.declared.item.Param.{Param}
use Rattle.dg_decl.specs.declared.expression.CallName.{CallName}
use Rattle.dg_decl.specs.declared.expression.CallName.TheVariants as call
use Rattle.dg_decl.specs.declared.expression.ParamCall.{ParamCall}
use Rattle.dg_decl.specs.declared.expression.ParamCall.TheVariants as by_name
use Rattle.dg_decl.specs.declared.expression.Expr.{Expr}
use Rattle.dg_decl.specs.declared.expression.Cond.{Cond}
use Rattle.dg_decl.specs.declared.expression.Cond.TheOpen.{Cond-F, Expr-F}
use Rattle.dg_decl.specs.declared.expression.Cond.TheViews.{roll-Cond, roll-Expr}
use Rattle.dg_decl.specs.declared.expression.Cond.TheFolds.{ind-Cond, ind-Expr, map-Cond, map-Expr, fold-roll-Cond, fold-roll-Expr}
use Rattle.dg_decl.specs.declared.expression.Tree.{Tree}
use Rattle.dg_decl.specs.declared.expression.Tree.TheOpen.{Tree-F}
use Rattle.dg_decl.specs.declared.expression.Tree.TheViews.{roll-Tree}
use Rattle.dg_decl.specs.declared.expression.Tree.TheFolds.{ind-Tree, map-Tree, fold-roll-Tree}
use Rattle.dg_decl.specs.Names.{fields_of}
use Rattle.dg_decl.specs.Typing.{is_assignable, implements, type_of_param, type_of_field, as_base, got_at, produced_at, element_at, inside_at, values_at, is_optional_at, has_size_at, part, if_so, Typed, giving, checking, arguments_check, one_checks, one_has_size, members_check, typed_call, type_by_name, is_typed_at, typed_at, typed, is_typed_condition, tree_checks_at, tree_checks}
use Rattle.dg_decl.proofs.MemberLemmas.{out_and_then, out_option_map}
use Rattle.dg_decl.proofs.NodeEquality.{first_so, second_so}
use Rattle.dg_slots.specs.declared.body.NExpr.{NExpr}
use Rattle.dg_slots.specs.declared.body.NExpr.TheVariants as nexpr
use Rattle.dg_slots.specs.declared.body.NCond.{NCond}
use Rattle.dg_slots.specs.declared.body.NCond.TheVariants as ncond
use Rattle.dg_slots.specs.declared.body.NCond.TheOpen.{NCond-F, NExpr-F}
use Rattle.dg_slots.specs.declared.body.NCond.TheViews.{roll-NCond, roll-NExpr}
use Rattle.dg_slots.specs.declared.body.NCond.TheFolds.{map-NCond, map-NExpr, fold-roll-NCond, fold-roll-NExpr}
use Rattle.dg_slots.specs.declared.body.NTree.{NTree}
use Rattle.dg_slots.specs.declared.body.NTree.TheVariants as ntree
use Rattle.dg_slots.specs.declared.body.NTree.TheOpen.{NTree-F}
use Rattle.dg_slots.specs.declared.body.NTree.TheViews.{roll-NTree}
use Rattle.dg_slots.specs.declared.body.NTree.TheFolds.{map-NTree, fold-roll-NTree}
use Rattle.dg_slots.specs.Numbered.{param_number, Numbered, exprs, numbered_cond_at, numbered_at, numbered, numbered_expr, numbered_cond, numbered_tree_at, numbered_tree}
use Rattle.dg_value.specs.declared.place.PlaceStep.TheVariants as step
use Rattle.dg_value.specs.declared.value.Value.{Value}
use Rattle.dg_value.specs.declared.value.Value.TheVariants as value
use Rattle.dg_value.specs.Places.{then_step}
use Rattle.dg_eval.specs.Runs.{Run, gives, and_then, in_order, mistyped}
use Rattle.dg_eval.specs.Operations.{field_in, value_in, failure_in, is_ok_in, has_in, inside_in}
use Rattle.dg_eval.specs.Bodies.{End, value_end, Around, Part, runs_of, of_two, of_all, values_in, called_with, by_param, inside_or, cond_at, chosen, expr_at, expr_part, cond_part, tree_at, tree_part}
use Rattle.dg_eval.proofs.RunResults.{Each}

-- what a body sees, where these parameters are neither read nor called by `get`
abbrev pub hidden : (ℕ → Bool) → Around → Around
hidden h s = record {
  origin = s.origin;
  place = s.place;
  param = λ p. cond (h p) mistyped (s.param p);
  got = λ p q. cond (h p) mistyped (s.got p q);
  awaited = s.awaited;
  look = s.look;
}

-- the run of a part is the same with them hidden
abbrev pub Same : (ℕ → Bool) → {A : Type 0} → Part A → Type 0
Same h p = (s : Around) (n c : ℕ) → p.run s n c ≡ p.run (hidden h s) n c

-- ---- types

-- a type other than `Producer<..>`
abbrev pub NoProducer : Layer → Type 0
NoProducer (Shape-F.Producer t) = ⊥
NoProducer other = Unit {0}

-- parameters of such types aren't hidden
abbrev pub Shows : (ℕ → Bool) → List Param → Type 0
Shows h params =
    (p : Bytes) (t : Shape) → type_of_param params p ≡ Some t → NoProducer (out-Shape t)
    → h (param_number params p) ≡ false

-- an expression is of such a type: it gives one, or checks against one
abbrev IsTyped : Typed → Type 0
IsTyped x =
    ((t : Shape) × (x.gives ≡ Some t) × NoProducer (out-Shape t))
    ⊎ ((t : Shape) × (x.checks t ≡ true) × NoProducer (out-Shape t))

implements_no : (doc : Doc) (l m : Layer) → implements doc l m ≡ true → NoProducer l
implements_no doc (Shape-F.Producer t) m e = false≢true e
implements_no doc other m e = tt

assignable_no : (doc : Doc) (t w : Shape) → is_assignable doc t w ≡ true
    → NoProducer (out-Shape w) → NoProducer (out-Shape t)
unfolding is_assignable
assignable_no doc t w e fine =
    elim (or_cases (same_shape t w) (implements doc (out-Shape t) (out-Shape w)) e) [
      | inl same ↦ (let P : Shape → Type 0 = λ s. NoProducer (out-Shape s) in
          subst P (sym ((shape_decides t w).0 same)) fine)
      | inr other ↦ implements_no doc (out-Shape t) (out-Shape w) other
    ]

assignable_some : (doc : Doc) (o : Option Shape) (w : Shape)
    → option_map_or (λ t. is_assignable doc t w) o false ≡ true → NoProducer (out-Shape w)
    → (t : Shape) × (o ≡ Some t) × NoProducer (out-Shape t)
assignable_some doc None w e fine = absurd (false≢true e)
assignable_some doc (Some t) w e fine = (t, refl, assignable_no doc t w e fine)

-- an expression that gives a type by itself
given_type : (doc : Doc) (o : Option Shape) → IsTyped (giving doc o)
    → (t : Shape) × (o ≡ Some t) × NoProducer (out-Shape t)
given_type doc o (inl g) = g
given_type doc o (inr c) = assignable_some doc o c.0 c.1 c.2

if_so_holds : (b : Bool) (s t : Shape) → if_so b s ≡ Some t → b ≡ true
if_so_holds true s t e = refl
if_so_holds false s t e = absurd (none-some t e)

-- a layer that has a part is no `Producer`
abbrev HasPart : (Layer → Option Shape) → Type 0
HasPart at = (l : Layer) (t : Shape) → at l ≡ Some t → NoProducer l

got_part : HasPart got_at
got_part (Shape-F.Producer s) t e = none-some t e
got_part other t e = tt

produced_part : HasPart produced_at
produced_part (Shape-F.Producer s) t e = none-some t e
produced_part other t e = tt

values_part : HasPart values_at
values_part (Shape-F.Producer s) t e = none-some t e
values_part other t e = tt

inside_part : HasPart inside_at
inside_part (Shape-F.Producer s) t e = none-some t e
inside_part other t e = tt

optional_no : (l : Layer) → is_optional_at l ≡ true → NoProducer l
optional_no (Shape-F.Producer s) e = false≢true e
optional_no other e = tt

optional_given : (o : Option Shape) → option_map_or (λ t. is_optional_at (out-Shape t)) o false
    ≡ true → (t : Shape) × (o ≡ Some t) × NoProducer (out-Shape t)
optional_given None e = absurd (false≢true e)
optional_given (Some t) e = (t, refl, optional_no (out-Shape t) e)

-- a parameter of whose type a part is known isn't hidden
part_shows : (h : ℕ → Bool) (params : List Param) → Shows h params → (at : Layer → Option Shape)
    → HasPart at → (p : Bytes) (t : Shape) → part at (type_of_param params p) ≡ Some t
    → h (param_number params p) ≡ false
part_shows h params shows at has p t e =
    let o = out_and_then (λ t. at (out-Shape t)) (type_of_param params p) t e in
    shows p o.0 o.1 (has (out-Shape o.0) t o.2)

some_given : {A : Type 0} (o : Option A) → is_some o ≡ true
    → (x : A) × (o ≡ Some x)
some_given None e = absurd (false≢true e)
some_given (Some x) e = (x, refl)

-- ---- runs

shown : (h : ℕ → Bool) (k : ℕ) {A : Type 0} (x : Run A) → h k ≡ false
    → x ≡ cond (h k) mistyped x
shown h k {A} x e = sym (ap (λ (b : Bool). cond b (mistyped {A = A}) x) e)

abbrev AllSame : (ℕ → Bool) → List (Part Value) → Type 0
AllSame h ps = Each (Same h) ps

runs_same : (h : ℕ → Bool) (ps : List (Part Value)) → AllSame h ps → (s : Around) (n c : ℕ)
    → runs_of ps s n c ≡ runs_of ps (hidden h s) n c
runs_same h [] all s n c = refl
runs_same h (p ∷ ps) all s n c =
    let first = all.0 s n c in
    let rest = runs_same h ps all.1 s (n + p.news) (c + length p.called) in
    λ i. first i ∷ rest i

two_same : (h : ℕ → Bool) {B : Type 0} (a b : Part Value)
    → (next : Around → Value → Value → Run B)
    → ((s : Around) (v w : Value) → next s v w ≡ next (hidden h s) v w)
    → Same h a → Same h b → Same h (of_two a b next)
two_same h a b next made ga gb s n c =
    let first = ga s n c in
    let second = gb s (n + a.news) (c + length a.called) in
    λ i. and_then (and_then (first i) s.look) (λ v. and_then (and_then (second i) s.look)
    (λ w. made s v w i))

chosen_same : (h : ℕ → Bool) {A : Type 0} (b : Part Bool) (x y : Part A) → Same h b → Same h x
    → Same h y → Same h (chosen b x y)
chosen_same h b x y gb gx gy s n c =
    let e = gb s n c in
    let f = gx s (n + b.news) (c + length b.called) in
    let g = gy s ((n + b.news) + x.news) ((c + length b.called) + length x.called) in
    λ i. and_then (e i) (λ holds. cond holds (f i) (g i))

called_same : (h : ℕ → Bool) (f : CallName) (s : Around) (vs : List Value)
    → called_with f s vs ≡ called_with f (hidden h s) vs
called_same h call.Cat s vs = refl
called_same h call.TextOf s vs = refl
called_same h call.Size s vs = refl
called_same h call.SetOf s vs = refl
called_same h call.Fail s vs = refl

args_same : (h : ℕ → Bool) (f : CallName) (ps : List (Part Value)) → AllSame h ps
    → Same h (of_all ps (called_with f))
args_same h f ps all s n c =
    let e = runs_same h ps all s n c in
    λ i. and_then (in_order (e i)) (λ vs. called_same h f s vs i)

new_same : (h : ℕ → Bool) (class : ℕ) (ps : List (Part Value)) → AllSame h ps
    → Same h (expr_at (NExpr-F.New class ps))
new_same h class ps all s n c =
    ap (λ (rs : List (Run Value)). and_then (in_order rs)
    (λ vs. gives (value.Object class (then_step s.place (step.New (suc n))) vs)))
    (runs_same h ps all s (suc n) c)

field_same : (h : ℕ → Bool) (p : Part Value) (k : ℕ) → Same h p
    → Same h (expr_at (NExpr-F.Field p k))
field_same h p k g s n c =
    ap (λ (r : Run Value). and_then (and_then r s.look) (field_in k)) (g s n c)

param_same : (h : ℕ → Bool) {A : Type 0} (k : ℕ) (s : Around) (f : Value → Run A) → h k ≡ false
    → and_then (s.param k) f ≡ and_then ((hidden h s).param k) f
param_same h k s f e = ap (λ (r : Run Value). and_then r f) (shown h k (s.param k) e)

or_else_same : (h : ℕ → Bool) (k : ℕ) (p : Part Value) → h k ≡ false → Same h p
    → Same h (expr_at (NExpr-F.OrElse k p))
or_else_same h k p e g s n c =
    let first = shown h k (s.param k) e in
    let other = g s n c in
    λ i. and_then (first i) (λ v. inside_or (inside_in v) (other i))

by_name_same : (h : ℕ → Bool) (params : List Param) → Shows h params → (f : ParamCall) (p : Bytes)
    → (t : Shape) → type_by_name params f p ≡ Some t
    → Same h (by_param f (param_number params p))
by_name_same h params shows by_name.Get p t e s n c =
    shown h (param_number params p) (s.got (param_number params p)
    (then_step s.place (step.Call (suc c)))) (part_shows h params shows got_at got_part p t e)
by_name_same h params shows by_name.Value p t e s n c =
    param_same h (param_number params p) s value_in
    (part_shows h params shows produced_at produced_part p t e)
by_name_same h params shows by_name.Values p t e s n c =
    param_same h (param_number params p) s (values_in s.look)
    (part_shows h params shows values_at values_part p t e)
by_name_same h params shows by_name.Failure p t e s n c =
    let o = out_option_map (λ (b : Shape). shape.Text) (part produced_at (type_of_param params p)) t
    e in
    param_same h (param_number params p) s failure_in
    (part_shows h params shows produced_at produced_part p o.0 o.1)

-- ---- parts of expressions and conditions

abbrev ExprSame : Doc → List Param → (ℕ → Bool) → Expr → Type 0
ExprSame doc params h e =
    IsTyped (typed doc params e) → Same h (expr_part (numbered_expr doc params e))

abbrev CondSame : Doc → List Param → (ℕ → Bool) → Cond → Type 0
CondSame doc params h c =
    is_typed_condition doc params c ≡ true → Same h (cond_part (numbered_cond doc params c))

abbrev CondPart : Doc → List Param → (ℕ → Bool) → Type 0
CondPart doc params h = (c : Cond) × CondSame doc params h c

abbrev ExprPart : Doc → List Param → (ℕ → Bool) → Type 0
ExprPart doc params h = (e : Expr) × ExprSame doc params h e

abbrev typeds : (doc : Doc) (params : List Param) (h : ℕ → Bool) → List (ExprPart doc params h)
    → List Typed
typeds doc params h xs = map (typed doc params) (map (λ e. e.0) xs)

abbrev numbereds : (doc : Doc) (params : List Param) (h : ℕ → Bool)
    → List (ExprPart doc params h) → List NExpr
numbereds doc params h xs = exprs (map (numbered doc params) (map (λ e. e.0) xs))

abbrev parts_of : (doc : Doc) (params : List Param) (h : ℕ → Bool)
    → List (ExprPart doc params h) → List (Part Value)
parts_of doc params h xs = map expr_part (numbereds doc params h xs)

-- a field of a class has such a type
abbrev pub FieldsFit : Doc → Type 0
FieldsFit doc =
    (class : Bytes) (fields : List Param) → fields_of doc class ≡ Some fields
    → Each (λ p. NoProducer (out-Shape p.shape.shape)) fields

arguments_same : (doc : Doc) (params : List Param) (h : ℕ → Bool)
    → (xs : List (ExprPart doc params h)) (ps : List Param)
    → Each (λ p. NoProducer (out-Shape p.shape.shape)) ps
    → arguments_check (typeds doc params h xs) ps ≡ true
    → AllSame h (parts_of doc params h xs)
arguments_same doc params h [] ps fit e = tt
arguments_same doc params h (x ∷ xs) [] fit e = absurd (false≢true e)
arguments_same doc params h (x ∷ xs) (p ∷ ps) fit e = (
  x.1 (inr (p.shape.shape, first_so _ _ e, fit.0)),
  arguments_same doc params h xs ps fit.1 (second_so _ _ e),
)

fields_same : (doc : Doc) (params : List Param) (h : ℕ → Bool)
    → (xs : List (ExprPart doc params h)) (o : Option (List Param))
    → ((ps : List Param) → o ≡ Some ps → Each (λ p. NoProducer (out-Shape p.shape.shape)) ps)
    → option_map_or (arguments_check (typeds doc params h xs)) o false ≡ true
    → AllSame h (parts_of doc params h xs)
fields_same doc params h xs None fit e = absurd (false≢true e)
fields_same doc params h xs (Some ps) fit e = arguments_same doc params h xs ps (fit ps refl) e

all_same : (doc : Doc) (params : List Param) (h : ℕ → Bool) (xs : List (ExprPart doc params h))
    → (t : Shape) → NoProducer (out-Shape t)
    → list_all (λ x. x.checks t) (typeds doc params h xs) ≡ true
    → AllSame h (parts_of doc params h xs)
all_same doc params h [] t fine e = tt
all_same doc params h (x ∷ xs) t fine e =
    (x.1 (inr (t, first_so _ _ e, fine)), all_same doc params h xs t fine (second_so _ _ e))

one_same : (doc : Doc) (params : List Param) (h : ℕ → Bool) (xs : List (ExprPart doc params h))
    → (t : Shape) → NoProducer (out-Shape t) → one_checks (typeds doc params h xs) t ≡ true
    → AllSame h (parts_of doc params h xs)
one_same doc params h [] t fine e = absurd (false≢true e)
one_same doc params h (x ∷ []) t fine e = (x.1 (inr (t, e, fine)), tt)
one_same doc params h (x ∷ (y ∷ xs)) t fine e = absurd (false≢true e)

size_no : (l : Layer) → has_size_at l ≡ true → NoProducer l
size_no (Shape-F.Producer t) e = false≢true e
size_no other e = tt

size_given : (o : Option Shape) → option_map_or (λ t. has_size_at (out-Shape t)) o false ≡ true
    → (t : Shape) × (o ≡ Some t) × NoProducer (out-Shape t)
size_given None e = absurd (false≢true e)
size_given (Some t) e = (t, refl, size_no (out-Shape t) e)

size_same : (doc : Doc) (params : List Param) (h : ℕ → Bool) (xs : List (ExprPart doc params h))
    → one_has_size (typeds doc params h xs) ≡ true → AllSame h (parts_of doc params h xs)
size_same doc params h [] e = absurd (false≢true e)
size_same doc params h (x ∷ []) e = (x.1 (inl (size_given (typed doc params x.0).gives e)), tt)
size_same doc params h (x ∷ (y ∷ xs)) e = absurd (false≢true e)

is_some_base : (l : Layer) → is_some (base_at l) ≡ true → NoProducer l
is_some_base (Shape-F.Producer t) e = false≢true e
is_some_base other e = tt

if_base : (b : Bool) (t u : Shape) → cond b (Some t) None ≡ Some u → (b ≡ true) × (t ≡ u)
if_base true t u e = (refl, same_Some t u e)
if_base false t u e = absurd (none-some u e)

-- a base type is no `Producer`
as_base_no : (t b : Shape) → as_base t ≡ Some b → NoProducer (out-Shape b)
unfolding base_of
as_base_no t b e =
    let o = if_base (is_some (base_at (out-Shape t))) t b e in
    let P : Shape → Type 0 = λ s. NoProducer (out-Shape s) in
    subst P o.1 (is_some_base (out-Shape t) o.0)

element_base : (l : Layer) (b : Shape) → element_at l ≡ Some b → NoProducer (out-Shape b)
element_base (Shape-F.Set t) b e = as_base_no t b e
element_base other b e = absurd (none-some b e)

inside_base : (l : Layer) (b : Shape) → inside_at l ≡ Some b → NoProducer (out-Shape b)
inside_base (Shape-F.Optional t) b e = as_base_no t b e
inside_base other b e = absurd (none-some b e)

members_same : (doc : Doc) (params : List Param) (h : ℕ → Bool)
    → (xs : List (ExprPart doc params h)) (o : Option Shape)
    → ((t : Shape) → o ≡ Some t → NoProducer (out-Shape t))
    → members_check (typeds doc params h xs) o ≡ true → AllSame h (parts_of doc params h xs)
members_same doc params h xs None fine e = absurd (false≢true e)
members_same doc params h xs (Some t) fine e = all_same doc params h xs t (fine t refl) e

-- an expression that has no type by itself
checked_with : (f : Shape → Bool) → IsTyped (checking f)
    → (t : Shape) × (f t ≡ true) × NoProducer (out-Shape t)
checked_with f (inl g) = absurd (none-some g.0 g.1)
checked_with f (inr c) = c

pub text_no : NoProducer (out-Shape shape.Text)
text_no =
    let P : Layer → Type 0 = NoProducer in
    subst P (sym (ap out-Shape (sym shape.rolls-Text) ∙ out-roll-Shape Shape-F.Text)) tt

int_no : NoProducer (out-Shape shape.Int)
int_no =
    let P : Layer → Type 0 = NoProducer in
    subst P (sym (ap out-Shape (sym shape.rolls-Int) ∙ out-roll-Shape Shape-F.Int)) tt

call_all_same : (doc : Doc) (params : List Param) (h : ℕ → Bool) (f : CallName)
    → (xs : List (ExprPart doc params h)) → IsTyped (typed_call doc f (typeds doc params h xs))
    → AllSame h (parts_of doc params h xs)
call_all_same doc params h call.Cat xs is =
    let g = given_type doc _ is in
    all_same doc params h xs shape.Text text_no (if_so_holds _ shape.Text g.0 g.1)
call_all_same doc params h call.TextOf xs is =
    let g = given_type doc _ is in
    one_same doc params h xs shape.Int int_no (if_so_holds _ shape.Text g.0 g.1)
call_all_same doc params h call.Size xs is =
    let g = given_type doc _ is in
    size_same doc params h xs (if_so_holds _ shape.Int g.0 g.1)
call_all_same doc params h call.SetOf xs is =
    let c = checked_with _ is in
    members_same doc params h xs _ (λ t e. element_base (out-Shape c.0) t e) c.1
call_all_same doc params h call.Fail xs is =
    let c = checked_with _ is in one_same doc params h xs shape.Text text_no c.1

-- ---- what a form comes to

abbrev layer : NExpr-F NCond NExpr → Part Value
layer z = expr_at (map-NExpr NCond NExpr (Part Bool) (Part Value) cond_part expr_part z)

abbrev cond_layer : NCond-F NCond NExpr → Part Bool
cond_layer z = cond_at (map-NCond NCond NExpr (Part Bool) (Part Value) cond_part expr_part z)

abbrev tree_layer : NTree-F NTree → Part End
tree_layer z = tree_at (map-NTree NTree (Part End) tree_part z)

part_rolled : (z : NExpr-F NCond NExpr) → expr_part (roll-NExpr z) ≡ layer z
unfolding cond_part expr_part
part_rolled z = fold-roll-NExpr (Part Bool) (Part Value) cond_at expr_at z

cond_rolled : (z : NCond-F NCond NExpr) → cond_part (roll-NCond z) ≡ cond_layer z
unfolding cond_part expr_part
cond_rolled z = fold-roll-NCond (Part Bool) (Part Value) cond_at expr_at z

tree_rolled : (z : NTree-F NTree) → tree_part (roll-NTree z) ≡ tree_layer z
unfolding tree_part
tree_rolled z = fold-roll-NTree (Part End) tree_at z

same_at : (h : ℕ → Bool) (e : NExpr) (z : NExpr-F NCond NExpr) → roll-NExpr z ≡ e
    → Same h (layer z) → Same h (expr_part e)
same_at h e z is g =
    let P : Part Value → Type 0 = λ p. Same h p in
    subst P (sym (ap expr_part (sym is) ∙ part_rolled z)) g

cond_same_at : (h : ℕ → Bool) (c : NCond) (z : NCond-F NCond NExpr) → roll-NCond z ≡ c
    → Same h (cond_layer z) → Same h (cond_part c)
cond_same_at h c z is g =
    let P : Part Bool → Type 0 = λ p. Same h p in
    subst P (sym (ap cond_part (sym is) ∙ cond_rolled z)) g

tree_same_at : (h : ℕ → Bool) (t : NTree) (z : NTree-F NTree) → roll-NTree z ≡ t
    → Same h (tree_layer z) → Same h (tree_part t)
tree_same_at h t z is g =
    let P : Part End → Type 0 = λ p. Same h p in
    subst P (sym (ap tree_part (sym is) ∙ tree_rolled z)) g

-- ---- by induction over expressions and conditions

abbrev cond_parts : (doc : Doc) (params : List Param) (h : ℕ → Bool)
    → Cond-F (CondPart doc params h) (ExprPart doc params h) → Cond-F Cond Expr
cond_parts doc params h =
    map-Cond (CondPart doc params h) (ExprPart doc params h) Cond Expr (λ c. c.0) (λ e. e.0)

abbrev expr_parts : (doc : Doc) (params : List Param) (h : ℕ → Bool)
    → Expr-F (CondPart doc params h) (ExprPart doc params h) → Expr-F Cond Expr
expr_parts doc params h =
    map-Expr (CondPart doc params h) (ExprPart doc params h) Cond Expr (λ c. c.0) (λ e. e.0)

abbrev typed_cond_parts : Doc → List Param → Cond-F Cond Expr → Bool
typed_cond_parts doc params z =
    is_typed_at doc params (map-Cond Cond Expr Bool Typed (is_typed_condition doc params)
    (typed doc params) z)

abbrev typed_parts : Doc → List Param → Expr-F Cond Expr → Typed
typed_parts doc params z =
    typed_at doc params (map-Expr Cond Expr Bool Typed (is_typed_condition doc params)
    (typed doc params) z)

abbrev numbered_layer : Doc → List Param → Expr-F Cond Expr → Numbered
numbered_layer doc params z =
    numbered_at doc params (map-Expr Cond Expr NCond Numbered (numbered_cond doc params)
    (numbered doc params) z)

abbrev numbered_cond_layer : Doc → List Param → Cond-F Cond Expr → NCond
numbered_cond_layer doc params z =
    numbered_cond_at params (map-Cond Cond Expr NCond Numbered (numbered_cond doc params)
    (numbered doc params) z)

equal_same : (doc : Doc) (params : List Param) (h : ℕ → Bool) (a b : ExprPart doc params h)
    → (t : Shape) → NoProducer (out-Shape t)
    → ((typed doc params a.0).checks t && (typed doc params b.0).checks t) ≡ true
    → Same h (expr_part (numbered_expr doc params a.0))
    × Same h (expr_part (numbered_expr doc params b.0))
equal_same doc params h a b t fine e =
    (a.1 (inr (t, first_so _ _ e, fine)), b.1 (inr (t, second_so _ _ e, fine)))

cond_at_same : (doc : Doc) (params : List Param) (h : ℕ → Bool) → Shows h params
    → (y : Cond-F (CondPart doc params h) (ExprPart doc params h))
    → typed_cond_parts doc params (cond_parts doc params h y) ≡ true
    → Same h (cond_part (numbered_cond_layer doc params (cond_parts doc params h y)))
cond_at_same doc params h shows (Cond-F.Equal a b) e =
    let both : Same h (expr_part (numbered_expr doc params a.0))
    × Same h (expr_part (numbered_expr doc params b.0)) =
    elim (or_cases _ _ e) [
      | inl t ↦ equal_same doc params h a b shape.Text text_no t
      | inr n ↦ equal_same doc params h a b shape.Int int_no n
    ] in
    cond_same_at h _ (NCond-F.Equal (numbered_expr doc params a.0) (numbered_expr doc params b.0))
    (ncond.rolls-Equal _ _)
    (two_same h (expr_part (numbered_expr doc params a.0))
    (expr_part (numbered_expr doc params b.0)) _ (λ s v w. refl) both.0 both.1)
cond_at_same doc params h shows (Cond-F.Less a b) e =
    let both = equal_same doc params h a b shape.Int int_no e in
    cond_same_at h _ (NCond-F.Less (numbered_expr doc params a.0) (numbered_expr doc params b.0))
    (ncond.rolls-Less _ _)
    (two_same h (expr_part (numbered_expr doc params a.0))
    (expr_part (numbered_expr doc params b.0)) _ (λ s v w. refl) both.0 both.1)
cond_at_same doc params h shows (Cond-F.Has p) e =
    let o = optional_given (type_of_param params p) e in
    cond_same_at h _ (NCond-F.Has (param_number params p)) (ncond.rolls-Has _)
    (λ s n c. param_same h (param_number params p) s has_in (shows p o.0 o.1 o.2))
cond_at_same doc params h shows (Cond-F.IsOk p) e =
    let o = some_given (part produced_at (type_of_param params p)) e in
    cond_same_at h _ (NCond-F.IsOk (param_number params p)) (ncond.rolls-IsOk _)
    (λ s n c. param_same h (param_number params p) s is_ok_in
    (part_shows h params shows produced_at produced_part p o.0 o.1))

if_same : (doc : Doc) (params : List Param) (h : ℕ → Bool) (c : CondPart doc params h)
    → (a b : ExprPart doc params h) (w : Shape) → NoProducer (out-Shape w)
    → (is_typed_condition doc params c.0 && (typed doc params a.0).checks w
    && (typed doc params b.0).checks w) ≡ true
    → Same h (chosen (cond_part (numbered_cond doc params c.0))
    (expr_part (numbered_expr doc params a.0)) (expr_part (numbered_expr doc params b.0)))
if_same doc params h c a b w fine e =
    let front = first_so (is_typed_condition doc params c.0 && (typed doc params a.0).checks w)
    ((typed doc params b.0).checks w) e in
    let last = second_so (is_typed_condition doc params c.0 && (typed doc params a.0).checks w)
    ((typed doc params b.0).checks w) e in
    chosen_same h (cond_part (numbered_cond doc params c.0))
    (expr_part (numbered_expr doc params a.0)) (expr_part (numbered_expr doc params b.0))
    (c.1 (first_so (is_typed_condition doc params c.0) ((typed doc params a.0).checks w) front))
    (a.1 (inr (
      w,
      second_so (is_typed_condition doc params c.0) ((typed doc params a.0).checks w)
          front,
      fine,
    ))) (b.1 (inr (w, last, fine)))

field_class : (doc : Doc) (field : Bytes) (l : Layer) (t : Shape)
    → type_of_field doc l field ≡ Some t → NoProducer l
field_class doc field (Shape-F.Producer s) t e = none-some t e
field_class doc field other t e = tt

expr_at_same : (doc : Doc) (params : List Param) (h : ℕ → Bool) → FieldsFit doc → Shows h params
    → (y : Expr-F (CondPart doc params h) (ExprPart doc params h))
    → IsTyped (typed_parts doc params (expr_parts doc params h y))
    → Same h (expr_part (numbered_layer doc params (expr_parts doc params h y)).expr)
expr_at_same doc params h fit shows (Expr-F.Text t) is =
    same_at h _ (NExpr-F.Text t) (nexpr.rolls-Text t) (λ s n c. refl)
expr_at_same doc params h fit shows (Expr-F.Int n) is =
    same_at h _ (NExpr-F.Int n) (nexpr.rolls-Int n) (λ s n c. refl)
expr_at_same doc params h fit shows (Expr-F.Param p) is =
    let g = given_type doc (type_of_param params p) is in
    same_at h _ (NExpr-F.Param (param_number params p)) (nexpr.rolls-Param _)
    (λ s n c. shown h (param_number params p) (s.param (param_number params p))
    (shows p g.0 g.1 g.2))
expr_at_same doc params h fit shows (Expr-F.New class args) is =
    let g = given_type doc _ is in
    same_at h _ (NExpr-F.New _ (numbereds doc params h args)) (nexpr.rolls-New _ _)
    (new_same h _ (parts_of doc params h args)
    (fields_same doc params h args (fields_of doc class) (λ ps e. fit class ps e)
    (if_so_holds _ (shape.Named class) g.0 g.1)))
expr_at_same doc params h fit shows (Expr-F.Field a field) is =
    let g = given_type doc _ is in
    let o = out_and_then _ (typed doc params a.0).gives g.0 g.1 in
    same_at h _ (NExpr-F.Field (numbered_expr doc params a.0) _) (nexpr.rolls-Field _ _)
    (field_same h (expr_part (numbered_expr doc params a.0)) _
    (a.1 (inl (o.0, o.1, field_class doc field (out-Shape o.0) g.0 o.2))))
expr_at_same doc params h fit shows (Expr-F.Sum a b) is =
    let g = given_type doc _ is in
    let both = equal_same doc params h a b shape.Int int_no (if_so_holds _ shape.Int g.0 g.1) in
    same_at h _ (NExpr-F.Sum (numbered_expr doc params a.0) (numbered_expr doc params b.0))
    (nexpr.rolls-Sum _ _)
    (two_same h (expr_part (numbered_expr doc params a.0))
    (expr_part (numbered_expr doc params b.0)) _ (λ s v w. refl) both.0 both.1)
expr_at_same doc params h fit shows (Expr-F.If c a b) is =
    let w = checked_with _ is in
    same_at h _ (NExpr-F.If (numbered_cond doc params c.0) (numbered_expr doc params a.0)
    (numbered_expr doc params b.0)) (nexpr.rolls-If _ _ _)
    (if_same doc params h c a b w.0 w.2 w.1)
expr_at_same doc params h fit shows (Expr-F.Call f args) is =
    same_at h _ (NExpr-F.Call f (numbereds doc params h args)) (nexpr.rolls-Call _ _)
    (args_same h f (parts_of doc params h args) (call_all_same doc params h f args is))
expr_at_same doc params h fit shows (Expr-F.ByName f p) is =
    let g = given_type doc (type_by_name params f p) is in
    same_at h _ (NExpr-F.ByName f (param_number params p)) (nexpr.rolls-ByName _ _)
    (by_name_same h params shows f p g.0 g.1)
expr_at_same doc params h fit shows (Expr-F.OrElse p a) is =
    let g = given_type doc _ is in
    let o = out_and_then (λ b. if_so ((typed doc params a.0).checks b) b)
    (part inside_at (type_of_param params p)) g.0 g.1 in
    let q = out_and_then (λ t. inside_at (out-Shape t)) (type_of_param params p) o.0 o.1 in
    same_at h _ (NExpr-F.OrElse (param_number params p) (numbered_expr doc params a.0))
    (nexpr.rolls-OrElse _ _)
    (or_else_same h (param_number params p) (expr_part (numbered_expr doc params a.0))
    (part_shows h params shows inside_at inside_part p o.0 o.1)
    (a.1 (inr (o.0, if_so_holds _ o.0 g.0 o.2, inside_base (out-Shape q.0) o.0 q.2))))

numbered_rolled : (doc : Doc) (params : List Param) (z : Expr-F Cond Expr)
    → numbered doc params (roll-Expr z) ≡ numbered_layer doc params z
unfolding numbered numbered_cond
numbered_rolled doc params z =
    fold-roll-Expr NCond Numbered (numbered_cond_at params) (numbered_at doc params) z

numbered_cond_rolled : (doc : Doc) (params : List Param) (z : Cond-F Cond Expr)
    → numbered_cond doc params (roll-Cond z) ≡ numbered_cond_layer doc params z
unfolding numbered numbered_cond
numbered_cond_rolled doc params z =
    fold-roll-Cond NCond Numbered (numbered_cond_at params) (numbered_at doc params) z

typed_rolled : (doc : Doc) (params : List Param) (z : Expr-F Cond Expr)
    → typed doc params (roll-Expr z) ≡ typed_parts doc params z
unfolding is_typed_condition typed
typed_rolled doc params z =
    fold-roll-Expr Bool Typed (is_typed_at doc params) (typed_at doc params) z

typed_cond_rolled : (doc : Doc) (params : List Param) (z : Cond-F Cond Expr)
    → is_typed_condition doc params (roll-Cond z) ≡ typed_cond_parts doc params z
unfolding is_typed_condition typed
typed_cond_rolled doc params z =
    fold-roll-Cond Bool Typed (is_typed_at doc params) (typed_at doc params) z

cond_same_rolled : (doc : Doc) (params : List Param) (h : ℕ → Bool) → Shows h params
    → (y : Cond-F (CondPart doc params h) (ExprPart doc params h))
    → CondSame doc params h (roll-Cond (cond_parts doc params h y))
cond_same_rolled doc params h shows y e =
    let P : NCond → Type 0 = λ c. Same h (cond_part c) in
    subst P (sym (numbered_cond_rolled doc params (cond_parts doc params h y)))
    (cond_at_same doc params h shows y
    (sym (typed_cond_rolled doc params (cond_parts doc params h y)) ∙ e))

expr_same_rolled : (doc : Doc) (params : List Param) (h : ℕ → Bool) → FieldsFit doc
    → Shows h params → (y : Expr-F (CondPart doc params h) (ExprPart doc params h))
    → ExprSame doc params h (roll-Expr (expr_parts doc params h y))
expr_same_rolled doc params h fit shows y is =
    let P : Numbered → Type 0 = λ x. Same h (expr_part x.expr) in
    let Q : Typed → Type 0 = IsTyped in
    subst P (sym (numbered_rolled doc params (expr_parts doc params h y)))
    (expr_at_same doc params h fit shows y
    (subst Q (typed_rolled doc params (expr_parts doc params h y)) is))

expr_same : (doc : Doc) (params : List Param) (h : ℕ → Bool) → FieldsFit doc → Shows h params
    → (e : Expr) → ExprSame doc params h e
expr_same doc params h fit shows =
    ind-Expr (CondSame doc params h) (ExprSame doc params h)
    (λ x y is. subst (λ (z : Cond-F Cond Expr). CondSame doc params h (roll-Cond z)) is
    (cond_same_rolled doc params h shows y))
    (λ x y is. subst (λ (z : Expr-F Cond Expr). ExprSame doc params h (roll-Expr z)) is
    (expr_same_rolled doc params h fit shows y))

cond_same : (doc : Doc) (params : List Param) (h : ℕ → Bool) → FieldsFit doc → Shows h params
    → (c : Cond) → CondSame doc params h c
cond_same doc params h fit shows =
    ind-Cond (CondSame doc params h) (ExprSame doc params h)
    (λ x y is. subst (λ (z : Cond-F Cond Expr). CondSame doc params h (roll-Cond z)) is
    (cond_same_rolled doc params h shows y))
    (λ x y is. subst (λ (z : Expr-F Cond Expr). ExprSame doc params h (roll-Expr z)) is
    (expr_same_rolled doc params h fit shows y))

-- ---- trees

leaf_same : (h : ℕ → Bool) (e : NExpr) → Same h (expr_part e)
    → Same h (tree_at (NTree-F.Leaf e))
leaf_same h e g s n c =
    ap (λ (r : Run Value). and_then r (λ v. gives (value_end v))) (g s n c)

-- the body of a `provides` line
pub leaf_runs_same : (doc : Doc) (params : List Param) (h : ℕ → Bool) → FieldsFit doc
    → Shows h params → (e : Expr) (w : Shape) → NoProducer (out-Shape w)
    → (typed doc params e).checks w ≡ true
    → Same h (tree_part (ntree.Leaf (numbered_expr doc params e)))
leaf_runs_same doc params h fit shows e w fine is =
    tree_same_at h _ (NTree-F.Leaf (numbered_expr doc params e)) (ntree.rolls-Leaf _)
    (leaf_same h (numbered_expr doc params e)
    (expr_same doc params h fit shows e (inr (w, is, fine))))

abbrev TreeSame : Doc → List Param → (ℕ → Bool) → Tree → Type 0
TreeSame doc params h t =
    (w : Shape) → NoProducer (out-Shape w) → tree_checks doc params t w ≡ true
    → Same h (tree_part (numbered_tree doc params t))

abbrev TreePart : Doc → List Param → (ℕ → Bool) → Type 0
TreePart doc params h = (t : Tree) × TreeSame doc params h t

abbrev tree_parts : (doc : Doc) (params : List Param) (h : ℕ → Bool)
    → Tree-F (TreePart doc params h) → Tree-F Tree
tree_parts doc params h = map-Tree (TreePart doc params h) Tree (λ t. t.0)

tree_at_same : (doc : Doc) (params : List Param) (h : ℕ → Bool) → FieldsFit doc → Shows h params
    → (y : Tree-F (TreePart doc params h)) (w : Shape) → NoProducer (out-Shape w)
    → tree_checks_at doc params (map-Tree Tree (Shape → Bool) (tree_checks doc params)
    (tree_parts doc params h y)) w ≡ true
    → Same h (tree_part (numbered_tree_at doc params (map-Tree Tree NTree (numbered_tree doc params)
    (tree_parts doc params h y))))
tree_at_same doc params h fit shows (Tree-F.Leaf e) w fine is =
    leaf_runs_same doc params h fit shows e w fine is
tree_at_same doc params h fit shows (Tree-F.Await p) w fine is =
    tree_same_at h _ (NTree-F.Await (param_number params p)) (ntree.rolls-Await _)
    (λ s n c. refl)
tree_at_same doc params h fit shows (Tree-F.If c a b) w fine is =
    let front = first_so (is_typed_condition doc params c && tree_checks doc params a.0 w)
    (tree_checks doc params b.0 w) is in
    let last = second_so (is_typed_condition doc params c && tree_checks doc params a.0 w)
    (tree_checks doc params b.0 w) is in
    tree_same_at h _ (NTree-F.If (numbered_cond doc params c) (numbered_tree doc params a.0)
    (numbered_tree doc params b.0)) (ntree.rolls-If _ _ _)
    (chosen_same h (cond_part (numbered_cond doc params c))
    (tree_part (numbered_tree doc params a.0)) (tree_part (numbered_tree doc params b.0))
    (cond_same doc params h fit shows c
    (first_so (is_typed_condition doc params c) (tree_checks doc params a.0 w) front))
    (a.1 w fine (second_so (is_typed_condition doc params c) (tree_checks doc params a.0 w) front))
    (b.1 w fine last))

tree_numbered_rolled : (doc : Doc) (params : List Param) (z : Tree-F Tree)
    → numbered_tree doc params (roll-Tree z)
    ≡ numbered_tree_at doc params (map-Tree Tree NTree (numbered_tree doc params) z)
unfolding numbered_tree
tree_numbered_rolled doc params z = fold-roll-Tree NTree (numbered_tree_at doc params) z

tree_typed_rolled : (doc : Doc) (params : List Param) (z : Tree-F Tree)
    → tree_checks doc params (roll-Tree z)
    ≡ tree_checks_at doc params (map-Tree Tree (Shape → Bool) (tree_checks doc params) z)
unfolding tree_checks
tree_typed_rolled doc params z = fold-roll-Tree (Shape → Bool) (tree_checks_at doc params) z

tree_same_rolled : (doc : Doc) (params : List Param) (h : ℕ → Bool) → FieldsFit doc
    → Shows h params → (y : Tree-F (TreePart doc params h))
    → TreeSame doc params h (roll-Tree (tree_parts doc params h y))
tree_same_rolled doc params h fit shows y w fine is =
    let P : NTree → Type 0 = λ t. Same h (tree_part t) in
    subst P (sym (tree_numbered_rolled doc params (tree_parts doc params h y)))
    (tree_at_same doc params h fit shows y w fine
    (sym (ap (λ (f : Shape → Bool). f w) (tree_typed_rolled doc params (tree_parts doc params h y)))
    ∙ is))

-- the body of a `produces` line
pub tree_runs_same : (doc : Doc) (params : List Param) (h : ℕ → Bool) → FieldsFit doc
    → Shows h params → (t : Tree) (w : Shape) → NoProducer (out-Shape w)
    → tree_checks doc params t w ≡ true → Same h (tree_part (numbered_tree doc params t))
tree_runs_same doc params h fit shows =
    ind-Tree (TreeSame doc params h)
    (λ x y is. subst (λ (z : Tree-F Tree). TreeSame doc params h (roll-Tree z)) is
    (tree_same_rolled doc params h fit shows y))
