-- What a body calls by `get` and `await` has a type that gives a way to a value, where the body has
-- its type.
use Rattle.std.proofs.Common.{◌≡◌, ◌⊎◌, inl, inr, Bool, true, false, ◌&&◌, List, [], ◌∷◌, ◌++◌, map, Option, Some, None, refl, sym, ap, subst, ◌∙◌}
use Rattle.std.specs.List.{list_all}
use Rattle.std.specs.Option.{option_map_or}
use Rattle.std.proofs.lemmas.Bool.{false≢true, or_cases}
use Rattle.std.proofs.lemmas.Option.{none-some}
use Rattle.dg_lex.specs.Bytes.{Bytes}
use Rattle.dg_types.specs.declared.shape.Shape.{Shape, out-Shape}
use Rattle.dg_types.specs.declared.shape.Shape.TheVariants as shape
use Rattle.dg_types.specs.declared.shape.Shape.TheOpen.{Shape-F}
use Rattle.dg_types.specs.Requests.{Layer}
use Rattle.dg_decl.specs.declared.document.Doc.{Doc}
use Rattle.dg_decl.specs.declared.item.Param.{Param}
use Rattle.dg_decl.specs.declared.expression.CallName.{CallName}
use Rattle.dg_decl.specs.declared.expression.CallName.TheVariants as call
use Rattle.dg_decl.specs.declared.expression.ParamCall.{ParamCall}
use Rattle.dg_decl.specs.declared.expression.ParamCall.TheVariants as by_name
use Rattle.dg_decl.specs.declared.expression.Expr.{Expr}
use Rattle.dg_decl.specs.declared.expression.Cond.{Cond}
use Rattle.dg_decl.specs.declared.expression.Cond.TheOpen.{Cond-F, Expr-F}
use Rattle.dg_decl.specs.declared.expression.Cond.TheViews.{roll-Cond, roll-Expr}
use Rattle.dg_decl.specs.declared.expression.Cond.TheFolds.{ind-Cond, ind-Expr, map-Cond, map-Expr, fold-roll-Cond, fold-roll-Expr}
use Rattle.dg_decl.specs.declared.expression.Tree.{Tree}
use Rattle.dg_decl.specs.declared.expression.Tree.TheOpen.{Tree-F}
use Rattle.dg_decl.specs.declared.expression.Tree.TheViews.{roll-Tree}
use Rattle.dg_decl.specs.declared.expression.Tree.TheFolds.{ind-Tree, map-Tree, fold-roll-Tree}
use Rattle.dg_decl.specs.Bodies.{cond_calls_at, called_by_name, all_of, expr_calls_at, calls_of_expr, calls_of_cond, tree_calls_at, calls_of_tree}
use Rattle.dg_decl.specs.Names.{fields_of}
use Rattle.dg_decl.specs.Typing.{is_assignable, type_of_param, got_at, awaited_at, inside_at, has_size_at, part, if_so, Typed, giving, checking, arguments_check, one_checks, one_has_size, members_check, typed_call, type_by_name, is_typed_at, typed_at, typed, is_typed_condition, tree_checks_at, tree_checks}
use Rattle.dg_decl.proofs.MemberLemmas.{out_and_then}
use Rattle.dg_decl.proofs.NodeEquality.{first_so, second_so}
use Rattle.dg_eval.proofs.RunResults.{Each, each_append}

-- a type of ways to values
abbrev pub IsWay : Layer → Type 0
IsWay (Shape-F.Provider t) = Unit {0}
IsWay (Shape-F.Lazy t) = Unit {0}
IsWay (Shape-F.Producer t) = Unit {0}
IsWay other = ⊥

-- a parameter of this name has such a type
abbrev pub HasWay : List Param → Bytes → Type 0
HasWay params n = (t : Shape) × (type_of_param params n ≡ Some t) × IsWay (out-Shape t)

-- an expression is of its type: it gives one, or checks against one
abbrev IsTyped : Typed → Type 0
IsTyped x = ((t : Shape) × (x.gives ≡ Some t)) ⊎ ((t : Shape) × (x.checks t ≡ true))

-- where an expression is of its type, what it calls are ways
abbrev pub CallsWays : Doc → List Param → Expr → Type 0
CallsWays doc params e = IsTyped (typed doc params e) → Each (HasWay params) (calls_of_expr e)

abbrev pub CondCallsWays : Doc → List Param → Cond → Type 0
CondCallsWays doc params c =
    is_typed_condition doc params c ≡ true → Each (HasWay params) (calls_of_cond c)

assignable_some : (doc : Doc) (o : Option Shape) (w : Shape)
    → option_map_or (λ t. is_assignable doc t w) o false ≡ true → (t : Shape) × (o ≡ Some t)
assignable_some doc None w e = absurd (false≢true e)
assignable_some doc (Some t) w e = (t, refl)

-- an expression that gives a type by itself
given_type : (doc : Doc) (o : Option Shape) → IsTyped (giving doc o) → (t : Shape) × (o ≡ Some t)
given_type doc o (inl g) = g
given_type doc o (inr c) = assignable_some doc o c.0 c.1

if_so_holds : (b : Bool) (s t : Shape) → if_so b s ≡ Some t → b ≡ true
if_so_holds true s t e = refl
if_so_holds false s t e = absurd (none-some t e)

got_way : (l : Layer) (t : Shape) → got_at l ≡ Some t → IsWay l
got_way (Shape-F.Provider s) t e = tt
got_way (Shape-F.Lazy s) t e = tt
got_way other t e = absurd (none-some t e)

awaited_way : (l : Layer) (t : Shape) → awaited_at l ≡ Some t → IsWay l
awaited_way (Shape-F.Producer s) t e = tt
awaited_way other t e = absurd (none-some t e)

part_way : (at : Layer → Option Shape) → ((l : Layer) (t : Shape) → at l ≡ Some t → IsWay l)
    → (params : List Param) (n : Bytes) (t : Shape) → part at (type_of_param params n) ≡ Some t
    → HasWay params n
part_way at way params n t e =
    let o = out_and_then (λ t. at (out-Shape t)) (type_of_param params n) t e in
    (o.0, o.1, way (out-Shape o.0) t o.2)

-- ---- parts

abbrev CondPart : Doc → List Param → Type 0
CondPart doc params = (c : Cond) × CondCallsWays doc params c

abbrev ExprPart : Doc → List Param → Type 0
ExprPart doc params = (e : Expr) × CallsWays doc params e

abbrev exprs : (doc : Doc) (params : List Param) → List (ExprPart doc params) → List Expr
exprs doc params xs = map (λ e. e.0) xs

abbrev typeds : (doc : Doc) (params : List Param) → List (ExprPart doc params) → List Typed
typeds doc params xs = map (typed doc params) (exprs doc params xs)

abbrev calls : (doc : Doc) (params : List Param) → List (ExprPart doc params) → List Bytes
calls doc params xs = all_of (map calls_of_expr (exprs doc params xs))

checks_ways : (doc : Doc) (params : List Param) (x : ExprPart doc params) (t : Shape)
    → (typed doc params x.0).checks t ≡ true → Each (HasWay params) (calls_of_expr x.0)
checks_ways doc params x t e = x.1 (inr (t, e))

arguments_ways : (doc : Doc) (params : List Param) (xs : List (ExprPart doc params))
    → (ps : List Param) → arguments_check (typeds doc params xs) ps ≡ true
    → Each (HasWay params) (calls doc params xs)
arguments_ways doc params [] ps e = tt
arguments_ways doc params (x ∷ xs) [] e = absurd (false≢true e)
arguments_ways doc params (x ∷ xs) (p ∷ ps) e =
    each_append (HasWay params) (calls_of_expr x.0) (calls doc params xs)
    (checks_ways doc params x p.shape.shape (first_so _ _ e))
    (arguments_ways doc params xs ps (second_so _ _ e))

fields_ways : (doc : Doc) (params : List Param) (xs : List (ExprPart doc params))
    → (o : Option (List Param)) → option_map_or (arguments_check (typeds doc params xs)) o false
    ≡ true → Each (HasWay params) (calls doc params xs)
fields_ways doc params xs None e = absurd (false≢true e)
fields_ways doc params xs (Some ps) e = arguments_ways doc params xs ps e

all_ways : (doc : Doc) (params : List Param) (xs : List (ExprPart doc params)) (t : Shape)
    → list_all (λ x. x.checks t) (typeds doc params xs) ≡ true
    → Each (HasWay params) (calls doc params xs)
all_ways doc params [] t e = tt
all_ways doc params (x ∷ xs) t e =
    each_append (HasWay params) (calls_of_expr x.0) (calls doc params xs)
    (checks_ways doc params x t (first_so _ _ e)) (all_ways doc params xs t (second_so _ _ e))

one_ways : (doc : Doc) (params : List Param) (xs : List (ExprPart doc params)) (t : Shape)
    → one_checks (typeds doc params xs) t ≡ true → Each (HasWay params) (calls doc params xs)
one_ways doc params [] t e = absurd (false≢true e)
one_ways doc params (x ∷ []) t e =
    each_append (HasWay params) (calls_of_expr x.0) [] (checks_ways doc params x t e) tt
one_ways doc params (x ∷ (y ∷ xs)) t e = absurd (false≢true e)

size_given : (o : Option Shape) → option_map_or (λ t. has_size_at (out-Shape t)) o false ≡ true
    → (t : Shape) × (o ≡ Some t)
size_given None e = absurd (false≢true e)
size_given (Some t) e = (t, refl)

size_ways : (doc : Doc) (params : List Param) (xs : List (ExprPart doc params))
    → one_has_size (typeds doc params xs) ≡ true → Each (HasWay params) (calls doc params xs)
size_ways doc params [] e = absurd (false≢true e)
size_ways doc params (x ∷ []) e =
    each_append (HasWay params) (calls_of_expr x.0) []
    (x.1 (inl (size_given (typed doc params x.0).gives e))) tt
size_ways doc params (x ∷ (y ∷ xs)) e = absurd (false≢true e)

members_ways : (doc : Doc) (params : List Param) (xs : List (ExprPart doc params))
    → (o : Option Shape) → members_check (typeds doc params xs) o ≡ true
    → Each (HasWay params) (calls doc params xs)
members_ways doc params xs None e = absurd (false≢true e)
members_ways doc params xs (Some t) e = all_ways doc params xs t e

-- an expression that has no type by itself
checked_with : (f : Shape → Bool) → IsTyped (checking f) → (t : Shape) × (f t ≡ true)
checked_with f (inl g) = absurd (none-some g.0 g.1)
checked_with f (inr c) = c

call_ways : (doc : Doc) (params : List Param) (f : CallName) (xs : List (ExprPart doc params))
    → IsTyped (typed_call doc f (typeds doc params xs)) → Each (HasWay params) (calls doc params xs)
call_ways doc params call.Cat xs h =
    let g = given_type doc _ h in
    all_ways doc params xs shape.Text (if_so_holds _ shape.Text g.0 g.1)
call_ways doc params call.TextOf xs h =
    let g = given_type doc _ h in
    one_ways doc params xs shape.Int (if_so_holds _ shape.Text g.0 g.1)
call_ways doc params call.Size xs h =
    let g = given_type doc _ h in size_ways doc params xs (if_so_holds _ shape.Int g.0 g.1)
call_ways doc params call.SetOf xs h =
    let c = checked_with _ h in members_ways doc params xs _ c.1
call_ways doc params call.Fail xs h =
    let c = checked_with _ h in one_ways doc params xs shape.Text c.1

by_name_ways : (doc : Doc) (params : List Param) (f : ParamCall) (p : Bytes)
    → IsTyped (giving doc (type_by_name params f p)) → Each (HasWay params) (called_by_name f p)
by_name_ways doc params by_name.Get p h =
    let g = given_type doc (type_by_name params by_name.Get p) h in
    (part_way got_at got_way params p g.0 g.1, tt)
by_name_ways doc params by_name.Value p h = tt
by_name_ways doc params by_name.Values p h = tt
by_name_ways doc params by_name.Failure p h = tt

both_ways : (doc : Doc) (params : List Param) (a b : ExprPart doc params) (s t : Shape)
    → ((typed doc params a.0).checks s && (typed doc params b.0).checks t) ≡ true
    → Each (HasWay params) (calls_of_expr a.0 ++ calls_of_expr b.0)
both_ways doc params a b s t e =
    each_append (HasWay params) (calls_of_expr a.0) (calls_of_expr b.0)
    (checks_ways doc params a s (first_so _ _ e)) (checks_ways doc params b t (second_so _ _ e))

if_ways_at : (doc : Doc) (params : List Param) (c : CondPart doc params)
    → (a b : ExprPart doc params) (w : Shape)
    → (is_typed_condition doc params c.0 && (typed doc params a.0).checks w
    && (typed doc params b.0).checks w) ≡ true
    → Each (HasWay params) (calls_of_cond c.0 ++ (calls_of_expr a.0 ++ calls_of_expr b.0))
if_ways_at doc params c a b w e =
    let front = first_so (is_typed_condition doc params c.0 && (typed doc params a.0).checks w)
    ((typed doc params b.0).checks w) e in
    let last = second_so (is_typed_condition doc params c.0 && (typed doc params a.0).checks w)
    ((typed doc params b.0).checks w) e in
    each_append (HasWay params) (calls_of_cond c.0) (calls_of_expr a.0 ++ calls_of_expr b.0)
    (c.1 (first_so (is_typed_condition doc params c.0) ((typed doc params a.0).checks w) front))
    (each_append (HasWay params) (calls_of_expr a.0) (calls_of_expr b.0)
    (checks_ways doc params a w
    (second_so (is_typed_condition doc params c.0) ((typed doc params a.0).checks w) front))
    (checks_ways doc params b w last))

if_ways : (doc : Doc) (params : List Param) (c : CondPart doc params)
    → (a b : ExprPart doc params)
    → IsTyped (checking (λ w. is_typed_condition doc params c.0 && (typed doc params a.0).checks w
    && (typed doc params b.0).checks w))
    → Each (HasWay params) (calls_of_cond c.0 ++ (calls_of_expr a.0 ++ calls_of_expr b.0))
if_ways doc params c a b (inl g) = absurd (none-some g.0 g.1)
if_ways doc params c a b (inr w) = if_ways_at doc params c a b w.0 w.1

-- ---- by induction

abbrev cond_parts : (doc : Doc) (params : List Param)
    → Cond-F (CondPart doc params) (ExprPart doc params) → Cond-F Cond Expr
cond_parts doc params =
    map-Cond (CondPart doc params) (ExprPart doc params) Cond Expr (λ c. c.0) (λ e. e.0)

abbrev expr_parts : (doc : Doc) (params : List Param)
    → Expr-F (CondPart doc params) (ExprPart doc params) → Expr-F Cond Expr
expr_parts doc params =
    map-Expr (CondPart doc params) (ExprPart doc params) Cond Expr (λ c. c.0) (λ e. e.0)

abbrev typed_cond_parts : Doc → List Param → Cond-F Cond Expr → Bool
typed_cond_parts doc params z =
    is_typed_at doc params (map-Cond Cond Expr Bool Typed (is_typed_condition doc params)
    (typed doc params) z)

abbrev typed_parts : Doc → List Param → Expr-F Cond Expr → Typed
typed_parts doc params z =
    typed_at doc params (map-Expr Cond Expr Bool Typed (is_typed_condition doc params)
    (typed doc params) z)

abbrev cond_calls_parts : Cond-F Cond Expr → List Bytes
cond_calls_parts z =
    cond_calls_at (map-Cond Cond Expr (List Bytes) (List Bytes) calls_of_cond calls_of_expr z)

abbrev calls_parts : Expr-F Cond Expr → List Bytes
calls_parts z =
    expr_calls_at (map-Expr Cond Expr (List Bytes) (List Bytes) calls_of_cond calls_of_expr z)

cond_ways_at : (doc : Doc) (params : List Param)
    → (y : Cond-F (CondPart doc params) (ExprPart doc params))
    → typed_cond_parts doc params (cond_parts doc params y) ≡ true
    → Each (HasWay params) (cond_calls_parts (cond_parts doc params y))
cond_ways_at doc params (Cond-F.Equal a b) e =
    elim (or_cases _ _ e) [
      | inl t ↦ both_ways doc params a b shape.Text shape.Text t
      | inr n ↦ both_ways doc params a b shape.Int shape.Int n
    ]
cond_ways_at doc params (Cond-F.Less a b) e = both_ways doc params a b shape.Int shape.Int e
cond_ways_at doc params (Cond-F.Has p) e = tt
cond_ways_at doc params (Cond-F.IsOk p) e = tt

expr_ways_at : (doc : Doc) (params : List Param)
    → (y : Expr-F (CondPart doc params) (ExprPart doc params))
    → IsTyped (typed_parts doc params (expr_parts doc params y))
    → Each (HasWay params) (calls_parts (expr_parts doc params y))
expr_ways_at doc params (Expr-F.Text t) h = tt
expr_ways_at doc params (Expr-F.Int n) h = tt
expr_ways_at doc params (Expr-F.Param p) h = tt
expr_ways_at doc params (Expr-F.New class args) h =
    let g = given_type doc _ h in
    fields_ways doc params args (fields_of doc class) (if_so_holds _ (shape.Named class) g.0 g.1)
expr_ways_at doc params (Expr-F.Field a field) h =
    let g = given_type doc _ h in
    let o = out_and_then _ (typed doc params a.0).gives g.0 g.1 in
    a.1 (inl (o.0, o.1))
expr_ways_at doc params (Expr-F.Sum a b) h =
    let g = given_type doc _ h in
    both_ways doc params a b shape.Int shape.Int (if_so_holds _ shape.Int g.0 g.1)
expr_ways_at doc params (Expr-F.If c a b) h = if_ways doc params c a b h
expr_ways_at doc params (Expr-F.Call f args) h = call_ways doc params f args h
expr_ways_at doc params (Expr-F.ByName f p) h = by_name_ways doc params f p h
expr_ways_at doc params (Expr-F.OrElse p a) h =
    let g = given_type doc _ h in
    let o = out_and_then (λ b. if_so ((typed doc params a.0).checks b) b)
    (part inside_at (type_of_param params p)) g.0 g.1 in
    checks_ways doc params a o.0 (if_so_holds _ o.0 g.0 o.2)

cond_ways_rolled : (doc : Doc) (params : List Param)
    → (y : Cond-F (CondPart doc params) (ExprPart doc params))
    → CondCallsWays doc params (roll-Cond (cond_parts doc params y))
unfolding is_typed_condition typed
cond_ways_rolled doc params y e =
    let P : List Bytes → Type 0 = Each (HasWay params) in
    let z : Cond-F Cond Expr = cond_parts doc params y in
    subst P (sym (fold-roll-Cond (List Bytes) (List Bytes) cond_calls_at expr_calls_at (cond_parts
    doc params y)))
    (cond_ways_at doc params y (sym (fold-roll-Cond Bool Typed (is_typed_at doc params)
    (typed_at doc params) (cond_parts doc params y)) ∙ e))

expr_ways_rolled : (doc : Doc) (params : List Param)
    → (y : Expr-F (CondPart doc params) (ExprPart doc params))
    → CallsWays doc params (roll-Expr (expr_parts doc params y))
unfolding is_typed_condition typed
expr_ways_rolled doc params y h =
    let P : List Bytes → Type 0 = Each (HasWay params) in
    let Q : Typed → Type 0 = IsTyped in
    subst P (sym (fold-roll-Expr (List Bytes) (List Bytes) cond_calls_at expr_calls_at (expr_parts
    doc params y)))
    (expr_ways_at doc params y (subst Q (fold-roll-Expr Bool Typed (is_typed_at doc params)
    (typed_at doc params) (expr_parts doc params y)) h))

pub expr_ways : (doc : Doc) (params : List Param) (e : Expr) → CallsWays doc params e
expr_ways doc params = ind-Expr (CondCallsWays doc params) (CallsWays doc params)
    (λ x y is. subst (λ (z : Cond-F Cond Expr). CondCallsWays doc params (roll-Cond z)) is
    (cond_ways_rolled doc params y))
    (λ x y is. subst (λ (z : Expr-F Cond Expr). CallsWays doc params (roll-Expr z)) is
    (expr_ways_rolled doc params y))

pub cond_ways : (doc : Doc) (params : List Param) (c : Cond) → CondCallsWays doc params c
cond_ways doc params = ind-Cond (CondCallsWays doc params) (CallsWays doc params)
    (λ x y is. subst (λ (z : Cond-F Cond Expr). CondCallsWays doc params (roll-Cond z)) is
    (cond_ways_rolled doc params y))
    (λ x y is. subst (λ (z : Expr-F Cond Expr). CallsWays doc params (roll-Expr z)) is
    (expr_ways_rolled doc params y))

-- ---- trees

abbrev pub TreeCallsWays : Doc → List Param → Tree → Type 0
TreeCallsWays doc params t =
    (w : Shape) → tree_checks doc params t w ≡ true → Each (HasWay params) (calls_of_tree t)

abbrev TreePart : Doc → List Param → Type 0
TreePart doc params = (t : Tree) × TreeCallsWays doc params t

abbrev tree_parts : (doc : Doc) (params : List Param) → Tree-F (TreePart doc params) → Tree-F Tree
tree_parts doc params = map-Tree (TreePart doc params) Tree (λ t. t.0)

tree_ways_at : (doc : Doc) (params : List Param) (y : Tree-F (TreePart doc params)) (w : Shape)
    → tree_checks_at doc params (map-Tree Tree (Shape → Bool) (tree_checks doc params) (tree_parts
    doc params y)) w ≡ true
    → Each (HasWay params) (tree_calls_at (map-Tree Tree (List Bytes) calls_of_tree (tree_parts doc
    params y)))
tree_ways_at doc params (Tree-F.Leaf e) w h = expr_ways doc params e (inr (w, h))
tree_ways_at doc params (Tree-F.Await p) w h =
    let o = assignable_some doc (part awaited_at (type_of_param params p)) w h in
    (part_way awaited_at awaited_way params p o.0 o.1, tt)
tree_ways_at doc params (Tree-F.If c a b) w h =
    let front = first_so (is_typed_condition doc params c && tree_checks doc params a.0 w)
    (tree_checks doc params b.0 w) h in
    let last = second_so (is_typed_condition doc params c && tree_checks doc params a.0 w)
    (tree_checks doc params b.0 w) h in
    each_append (HasWay params) (calls_of_cond c) (calls_of_tree a.0 ++ calls_of_tree b.0)
    (cond_ways doc params c
    (first_so (is_typed_condition doc params c) (tree_checks doc params a.0 w) front))
    (each_append (HasWay params) (calls_of_tree a.0) (calls_of_tree b.0)
    (a.1 w (second_so (is_typed_condition doc params c) (tree_checks doc params a.0 w) front))
    (b.1 w last))

tree_ways_rolled : (doc : Doc) (params : List Param) (y : Tree-F (TreePart doc params))
    → TreeCallsWays doc params (roll-Tree (tree_parts doc params y))
unfolding tree_checks
tree_ways_rolled doc params y w h =
    let P : List Bytes → Type 0 = Each (HasWay params) in
    subst P (sym (fold-roll-Tree (List Bytes) tree_calls_at (tree_parts doc params y)))
    (tree_ways_at doc params y w (sym (ap (λ (f : Shape → Bool). f w) (fold-roll-Tree (Shape → Bool)
    (tree_checks_at doc params) (tree_parts doc params y))) ∙ h))

pub tree_ways : (doc : Doc) (params : List Param) (t : Tree) → TreeCallsWays doc params t
tree_ways doc params = ind-Tree (TreeCallsWays doc params)
    (λ x y is. subst (λ (z : Tree-F Tree). TreeCallsWays doc params (roll-Tree z)) is
    (tree_ways_rolled doc params y))
