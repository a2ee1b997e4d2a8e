-- What a fold over a type, an expression, a condition or a tree gives at each of their forms, from
-- what it gives at the parts.
use Rattle.std.proofs.Common.{◌≡◌, List, map, sym, ap, ◌∙◌}
use Rattle.std.specs.Prelude.{ℤ}
use Rattle.dg_types.specs.declared.shape.Shape.{Shape, fold-Shape}
use Rattle.dg_types.specs.declared.shape.Shape.TheVariants as shape
use Rattle.dg_types.specs.declared.shape.Shape.TheOpen.{Shape-F}
use Rattle.dg_types.specs.declared.shape.Shape.TheFolds.{fold-roll-Shape}
use Rattle.dg_lex.specs.Bytes.{Bytes}
use Rattle.dg_decl.specs.declared.expression.CallName.{CallName}
use Rattle.dg_decl.specs.declared.expression.ParamCall.{ParamCall}
use Rattle.dg_decl.specs.declared.expression.Expr.{Expr, fold-Expr}
use Rattle.dg_decl.specs.declared.expression.Expr.TheVariants as expr
use Rattle.dg_decl.specs.declared.expression.Cond.{Cond, fold-Cond}
use Rattle.dg_decl.specs.declared.expression.Cond.TheVariants as cond
use Rattle.dg_decl.specs.declared.expression.Tree.{Tree, fold-Tree}
use Rattle.dg_decl.specs.declared.expression.Tree.TheVariants as tree
use Rattle.dg_decl.specs.declared.expression.Cond.TheOpen.{Cond-F, Expr-F}
use Rattle.dg_decl.specs.declared.expression.Cond.TheFolds.{fold-roll-Cond, fold-roll-Expr}
use Rattle.dg_decl.specs.declared.expression.Tree.TheOpen.{Tree-F}
use Rattle.dg_decl.specs.declared.expression.Tree.TheFolds.{fold-roll-Tree}
use Rattle.dg_decl.specs.Typing.{Typed}

-- ---- types

pub shape-Text : {A : Type 0} (f : Shape-F A → A) → fold-Shape A f shape.Text
    ≡ f Shape-F.Text
shape-Text {A = A} f =
    ap (fold-Shape A f) (sym shape.rolls-Text)
    ∙ fold-roll-Shape A f Shape-F.Text

pub shape-Int : {A : Type 0} (f : Shape-F A → A) → fold-Shape A f shape.Int
    ≡ f Shape-F.Int
shape-Int {A = A} f =
    ap (fold-Shape A f) (sym shape.rolls-Int)
    ∙ fold-roll-Shape A f Shape-F.Int

pub shape-Named : {A : Type 0} (f : Shape-F A → A) (n : Bytes) → fold-Shape A f (shape.Named n)
    ≡ f (Shape-F.Named n)
shape-Named {A = A} f n =
    ap (fold-Shape A f) (sym (shape.rolls-Named n))
    ∙ fold-roll-Shape A f (Shape-F.Named n)

pub shape-Set : {A : Type 0} (f : Shape-F A → A) (t : Shape) → fold-Shape A f (shape.Set t)
    ≡ f (Shape-F.Set (fold-Shape A f t))
shape-Set {A = A} f t =
    ap (fold-Shape A f) (sym (shape.rolls-Set t))
    ∙ fold-roll-Shape A f (Shape-F.Set t)

pub shape-Map : {A : Type 0} (f : Shape-F A → A) (k : Shape) (t : Shape)
    → fold-Shape A f (shape.Map k t)
    ≡ f (Shape-F.Map (fold-Shape A f k) (fold-Shape A f t))
shape-Map {A = A} f k t =
    ap (fold-Shape A f) (sym (shape.rolls-Map k t))
    ∙ fold-roll-Shape A f (Shape-F.Map k t)

pub shape-Optional : {A : Type 0} (f : Shape-F A → A) (t : Shape)
    → fold-Shape A f (shape.Optional t)
    ≡ f (Shape-F.Optional (fold-Shape A f t))
shape-Optional {A = A} f t =
    ap (fold-Shape A f) (sym (shape.rolls-Optional t))
    ∙ fold-roll-Shape A f (Shape-F.Optional t)

pub shape-Provider : {A : Type 0} (f : Shape-F A → A) (t : Shape)
    → fold-Shape A f (shape.Provider t)
    ≡ f (Shape-F.Provider (fold-Shape A f t))
shape-Provider {A = A} f t =
    ap (fold-Shape A f) (sym (shape.rolls-Provider t))
    ∙ fold-roll-Shape A f (Shape-F.Provider t)

pub shape-Lazy : {A : Type 0} (f : Shape-F A → A) (t : Shape) → fold-Shape A f (shape.Lazy t)
    ≡ f (Shape-F.Lazy (fold-Shape A f t))
shape-Lazy {A = A} f t =
    ap (fold-Shape A f) (sym (shape.rolls-Lazy t))
    ∙ fold-roll-Shape A f (Shape-F.Lazy t)

pub shape-Producer : {A : Type 0} (f : Shape-F A → A) (t : Shape)
    → fold-Shape A f (shape.Producer t)
    ≡ f (Shape-F.Producer (fold-Shape A f t))
shape-Producer {A = A} f t =
    ap (fold-Shape A f) (sym (shape.rolls-Producer t))
    ∙ fold-roll-Shape A f (Shape-F.Producer t)

pub shape-Produced : {A : Type 0} (f : Shape-F A → A) (t : Shape)
    → fold-Shape A f (shape.Produced t)
    ≡ f (Shape-F.Produced (fold-Shape A f t))
shape-Produced {A = A} f t =
    ap (fold-Shape A f) (sym (shape.rolls-Produced t))
    ∙ fold-roll-Shape A f (Shape-F.Produced t)

-- ---- expressions and conditions

pub expr-Text : {C E : Type 0} (f : Cond-F C E → C) (g : Expr-F C E → E) (t : Bytes)
    → fold-Expr C E f g (expr.Text t)
    ≡ g (Expr-F.Text t)
expr-Text {C = C} {E = E} f g t =
    ap (fold-Expr C E f g) (sym (expr.rolls-Text t))
    ∙ fold-roll-Expr C E f g (Expr-F.Text t)

pub expr-Int : {C E : Type 0} (f : Cond-F C E → C) (g : Expr-F C E → E) (n : ℤ)
    → fold-Expr C E f g (expr.Int n)
    ≡ g (Expr-F.Int n)
expr-Int {C = C} {E = E} f g n =
    ap (fold-Expr C E f g) (sym (expr.rolls-Int n))
    ∙ fold-roll-Expr C E f g (Expr-F.Int n)

pub expr-Param : {C E : Type 0} (f : Cond-F C E → C) (g : Expr-F C E → E) (p : Bytes)
    → fold-Expr C E f g (expr.Param p)
    ≡ g (Expr-F.Param p)
expr-Param {C = C} {E = E} f g p =
    ap (fold-Expr C E f g) (sym (expr.rolls-Param p))
    ∙ fold-roll-Expr C E f g (Expr-F.Param p)

pub expr-New : {C E : Type 0} (f : Cond-F C E → C) (g : Expr-F C E
    → E) (c : Bytes) (xs : List Expr) → fold-Expr C E f g (expr.New c xs)
    ≡ g (Expr-F.New c (map (fold-Expr C E f g) xs))
expr-New {C = C} {E = E} f g c xs =
    ap (fold-Expr C E f g) (sym (expr.rolls-New c xs))
    ∙ fold-roll-Expr C E f g (Expr-F.New c xs)

pub expr-Field : {C E : Type 0} (f : Cond-F C E → C) (g : Expr-F C E → E) (e : Expr) (n : Bytes)
    → fold-Expr C E f g (expr.Field e n)
    ≡ g (Expr-F.Field (fold-Expr C E f g e) n)
expr-Field {C = C} {E = E} f g e n =
    ap (fold-Expr C E f g) (sym (expr.rolls-Field e n))
    ∙ fold-roll-Expr C E f g (Expr-F.Field e n)

pub expr-Sum : {C E : Type 0} (f : Cond-F C E → C) (g : Expr-F C E → E) (a : Expr) (b : Expr)
    → fold-Expr C E f g (expr.Sum a b)
    ≡ g (Expr-F.Sum (fold-Expr C E f g a) (fold-Expr C E f g b))
expr-Sum {C = C} {E = E} f g a b =
    ap (fold-Expr C E f g) (sym (expr.rolls-Sum a b))
    ∙ fold-roll-Expr C E f g (Expr-F.Sum a b)

pub expr-If : {C E : Type 0} (f : Cond-F C E → C) (g : Expr-F C E
    → E) (c : Cond) (a : Expr) (b : Expr) → fold-Expr C E f g (expr.If c a b)
    ≡ g (Expr-F.If (fold-Cond C E f g c) (fold-Expr C E f g a) (fold-Expr C E f g b))
expr-If {C = C} {E = E} f g c a b =
    ap (fold-Expr C E f g) (sym (expr.rolls-If c a b))
    ∙ fold-roll-Expr C E f g (Expr-F.If c a b)

pub expr-Call : {C E : Type 0} (f : Cond-F C E → C) (g : Expr-F C E
    → E) (h : CallName) (xs : List Expr) → fold-Expr C E f g (expr.Call h xs)
    ≡ g (Expr-F.Call h (map (fold-Expr C E f g) xs))
expr-Call {C = C} {E = E} f g h xs =
    ap (fold-Expr C E f g) (sym (expr.rolls-Call h xs))
    ∙ fold-roll-Expr C E f g (Expr-F.Call h xs)

pub expr-ByName : {C E : Type 0} (f : Cond-F C E → C) (g : Expr-F C E
    → E) (h : ParamCall) (p : Bytes) → fold-Expr C E f g (expr.ByName h p)
    ≡ g (Expr-F.ByName h p)
expr-ByName {C = C} {E = E} f g h p =
    ap (fold-Expr C E f g) (sym (expr.rolls-ByName h p))
    ∙ fold-roll-Expr C E f g (Expr-F.ByName h p)

pub expr-OrElse : {C E : Type 0} (f : Cond-F C E → C) (g : Expr-F C E → E) (p : Bytes) (e : Expr)
    → fold-Expr C E f g (expr.OrElse p e)
    ≡ g (Expr-F.OrElse p (fold-Expr C E f g e))
expr-OrElse {C = C} {E = E} f g p e =
    ap (fold-Expr C E f g) (sym (expr.rolls-OrElse p e))
    ∙ fold-roll-Expr C E f g (Expr-F.OrElse p e)

pub cond-Equal : {C E : Type 0} (f : Cond-F C E → C) (g : Expr-F C E → E) (a : Expr) (b : Expr)
    → fold-Cond C E f g (cond.Equal a b)
    ≡ f (Cond-F.Equal (fold-Expr C E f g a) (fold-Expr C E f g b))
cond-Equal {C = C} {E = E} f g a b =
    ap (fold-Cond C E f g) (sym (cond.rolls-Equal a b))
    ∙ fold-roll-Cond C E f g (Cond-F.Equal a b)

pub cond-Less : {C E : Type 0} (f : Cond-F C E → C) (g : Expr-F C E → E) (a : Expr) (b : Expr)
    → fold-Cond C E f g (cond.Less a b)
    ≡ f (Cond-F.Less (fold-Expr C E f g a) (fold-Expr C E f g b))
cond-Less {C = C} {E = E} f g a b =
    ap (fold-Cond C E f g) (sym (cond.rolls-Less a b))
    ∙ fold-roll-Cond C E f g (Cond-F.Less a b)

pub cond-Has : {C E : Type 0} (f : Cond-F C E → C) (g : Expr-F C E → E) (p : Bytes)
    → fold-Cond C E f g (cond.Has p)
    ≡ f (Cond-F.Has p)
cond-Has {C = C} {E = E} f g p =
    ap (fold-Cond C E f g) (sym (cond.rolls-Has p))
    ∙ fold-roll-Cond C E f g (Cond-F.Has p)

pub cond-IsOk : {C E : Type 0} (f : Cond-F C E → C) (g : Expr-F C E → E) (p : Bytes)
    → fold-Cond C E f g (cond.IsOk p)
    ≡ f (Cond-F.IsOk p)
cond-IsOk {C = C} {E = E} f g p =
    ap (fold-Cond C E f g) (sym (cond.rolls-IsOk p))
    ∙ fold-roll-Cond C E f g (Cond-F.IsOk p)

-- ---- trees

pub tree-Leaf : {A : Type 0} (f : Tree-F A → A) (e : Expr) → fold-Tree A f (tree.Leaf e)
    ≡ f (Tree-F.Leaf e)
tree-Leaf {A = A} f e =
    ap (fold-Tree A f) (sym (tree.rolls-Leaf e))
    ∙ fold-roll-Tree A f (Tree-F.Leaf e)

pub tree-Await : {A : Type 0} (f : Tree-F A → A) (p : Bytes) → fold-Tree A f (tree.Await p)
    ≡ f (Tree-F.Await p)
tree-Await {A = A} f p =
    ap (fold-Tree A f) (sym (tree.rolls-Await p))
    ∙ fold-roll-Tree A f (Tree-F.Await p)

pub tree-If : {A : Type 0} (f : Tree-F A → A) (c : Cond) (a : Tree) (b : Tree)
    → fold-Tree A f (tree.If c a b)
    ≡ f (Tree-F.If c (fold-Tree A f a) (fold-Tree A f b))
tree-If {A = A} f c a b =
    ap (fold-Tree A f) (sym (tree.rolls-If c a b))
    ∙ fold-roll-Tree A f (Tree-F.If c a b)

-- ---- the same of folds that give functions, at an argument

pub shape_at-Text : {A B : Type 0} (f : Shape-F (A → B) → A → B) (x : A)
    → fold-Shape (A → B) f shape.Text x
    ≡ f Shape-F.Text x
shape_at-Text {A = A} {B = B} f x = ap (λ h. h x) (shape-Text f)

pub shape_at-Int : {A B : Type 0} (f : Shape-F (A → B) → A → B) (x : A)
    → fold-Shape (A → B) f shape.Int x
    ≡ f Shape-F.Int x
shape_at-Int {A = A} {B = B} f x = ap (λ h. h x) (shape-Int f)

pub shape_at-Named : {A B : Type 0} (f : Shape-F (A → B) → A → B) (n : Bytes) (x : A)
    → fold-Shape (A → B) f (shape.Named n) x
    ≡ f (Shape-F.Named n) x
shape_at-Named {A = A} {B = B} f n x = ap (λ h. h x) (shape-Named f n)

pub shape_at-Set : {A B : Type 0} (f : Shape-F (A → B) → A → B) (t : Shape) (x : A)
    → fold-Shape (A → B) f (shape.Set t) x
    ≡ f (Shape-F.Set (fold-Shape (A → B) f t)) x
shape_at-Set {A = A} {B = B} f t x = ap (λ h. h x) (shape-Set f t)

pub shape_at-Map : {A B : Type 0} (f : Shape-F (A → B) → A → B) (k : Shape) (t : Shape) (x : A)
    → fold-Shape (A → B) f (shape.Map k t) x
    ≡ f (Shape-F.Map (fold-Shape (A → B) f k) (fold-Shape (A → B) f t)) x
shape_at-Map {A = A} {B = B} f k t x = ap (λ h. h x) (shape-Map f k t)

pub shape_at-Optional : {A B : Type 0} (f : Shape-F (A → B) → A → B) (t : Shape) (x : A)
    → fold-Shape (A → B) f (shape.Optional t) x
    ≡ f (Shape-F.Optional (fold-Shape (A → B) f t)) x
shape_at-Optional {A = A} {B = B} f t x = ap (λ h. h x) (shape-Optional f t)

pub shape_at-Provider : {A B : Type 0} (f : Shape-F (A → B) → A → B) (t : Shape) (x : A)
    → fold-Shape (A → B) f (shape.Provider t) x
    ≡ f (Shape-F.Provider (fold-Shape (A → B) f t)) x
shape_at-Provider {A = A} {B = B} f t x = ap (λ h. h x) (shape-Provider f t)

pub shape_at-Lazy : {A B : Type 0} (f : Shape-F (A → B) → A → B) (t : Shape) (x : A)
    → fold-Shape (A → B) f (shape.Lazy t) x
    ≡ f (Shape-F.Lazy (fold-Shape (A → B) f t)) x
shape_at-Lazy {A = A} {B = B} f t x = ap (λ h. h x) (shape-Lazy f t)

pub shape_at-Producer : {A B : Type 0} (f : Shape-F (A → B) → A → B) (t : Shape) (x : A)
    → fold-Shape (A → B) f (shape.Producer t) x
    ≡ f (Shape-F.Producer (fold-Shape (A → B) f t)) x
shape_at-Producer {A = A} {B = B} f t x = ap (λ h. h x) (shape-Producer f t)

pub shape_at-Produced : {A B : Type 0} (f : Shape-F (A → B) → A → B) (t : Shape) (x : A)
    → fold-Shape (A → B) f (shape.Produced t) x
    ≡ f (Shape-F.Produced (fold-Shape (A → B) f t)) x
shape_at-Produced {A = A} {B = B} f t x = ap (λ h. h x) (shape-Produced f t)

pub tree_at-Leaf : {A B : Type 0} (f : Tree-F (A → B) → A → B) (e : Expr) (x : A)
    → fold-Tree (A → B) f (tree.Leaf e) x
    ≡ f (Tree-F.Leaf e) x
tree_at-Leaf {A = A} {B = B} f e x = ap (λ h. h x) (tree-Leaf f e)

pub tree_at-Await : {A B : Type 0} (f : Tree-F (A → B) → A → B) (p : Bytes) (x : A)
    → fold-Tree (A → B) f (tree.Await p) x
    ≡ f (Tree-F.Await p) x
tree_at-Await {A = A} {B = B} f p x = ap (λ h. h x) (tree-Await f p)

pub tree_at-If : {A B : Type 0} (f : Tree-F (A → B) → A
    → B) (c : Cond) (a : Tree) (b : Tree) (x : A)
    → fold-Tree (A → B) f (tree.If c a b) x
    ≡ f (Tree-F.If c (fold-Tree (A → B) f a) (fold-Tree (A → B) f b)) x
tree_at-If {A = A} {B = B} f c a b x = ap (λ h. h x) (tree-If f c a b)

-- ---- the same of what typing says of an expression

pub gives-Text : {C : Type 0} (f : Cond-F C Typed → C) (g : Expr-F C Typed → Typed) (t : Bytes)
    → (fold-Expr C Typed f g (expr.Text t)).gives
    ≡ (g (Expr-F.Text t)).gives
gives-Text {C = C} f g t = ap (λ t. t.gives) (expr-Text f g t)

pub gives-Int : {C : Type 0} (f : Cond-F C Typed → C) (g : Expr-F C Typed → Typed) (n : ℤ)
    → (fold-Expr C Typed f g (expr.Int n)).gives
    ≡ (g (Expr-F.Int n)).gives
gives-Int {C = C} f g n = ap (λ t. t.gives) (expr-Int f g n)

pub gives-Param : {C : Type 0} (f : Cond-F C Typed → C) (g : Expr-F C Typed → Typed) (p : Bytes)
    → (fold-Expr C Typed f g (expr.Param p)).gives
    ≡ (g (Expr-F.Param p)).gives
gives-Param {C = C} f g p = ap (λ t. t.gives) (expr-Param f g p)

pub gives-New : {C : Type 0} (f : Cond-F C Typed → C) (g : Expr-F C Typed
    → Typed) (c : Bytes) (xs : List Expr)
    → (fold-Expr C Typed f g (expr.New c xs)).gives
    ≡ (g (Expr-F.New c (map (fold-Expr C Typed f g) xs))).gives
gives-New {C = C} f g c xs = ap (λ t. t.gives) (expr-New f g c xs)

pub gives-Field : {C : Type 0} (f : Cond-F C Typed → C) (g : Expr-F C Typed
    → Typed) (e : Expr) (n : Bytes)
    → (fold-Expr C Typed f g (expr.Field e n)).gives
    ≡ (g (Expr-F.Field (fold-Expr C Typed f g e) n)).gives
gives-Field {C = C} f g e n = ap (λ t. t.gives) (expr-Field f g e n)

pub gives-Sum : {C : Type 0} (f : Cond-F C Typed → C) (g : Expr-F C Typed
    → Typed) (a : Expr) (b : Expr)
    → (fold-Expr C Typed f g (expr.Sum a b)).gives
    ≡ (g (Expr-F.Sum (fold-Expr C Typed f g a) (fold-Expr C Typed f g b))).gives
gives-Sum {C = C} f g a b = ap (λ t. t.gives) (expr-Sum f g a b)

pub gives-If : {C : Type 0} (f : Cond-F C Typed → C) (g : Expr-F C Typed
    → Typed) (c : Cond) (a : Expr) (b : Expr)
    → (fold-Expr C Typed f g (expr.If c a b)).gives
    ≡ (g (Expr-F.If (fold-Cond C Typed f g c) (fold-Expr C Typed f g a)
    (fold-Expr C Typed f g b))).gives
gives-If {C = C} f g c a b = ap (λ t. t.gives) (expr-If f g c a b)

pub gives-Call : {C : Type 0} (f : Cond-F C Typed → C) (g : Expr-F C Typed
    → Typed) (h : CallName) (xs : List Expr)
    → (fold-Expr C Typed f g (expr.Call h xs)).gives
    ≡ (g (Expr-F.Call h (map (fold-Expr C Typed f g) xs))).gives
gives-Call {C = C} f g h xs = ap (λ t. t.gives) (expr-Call f g h xs)

pub gives-ByName : {C : Type 0} (f : Cond-F C Typed → C) (g : Expr-F C Typed
    → Typed) (h : ParamCall) (p : Bytes)
    → (fold-Expr C Typed f g (expr.ByName h p)).gives
    ≡ (g (Expr-F.ByName h p)).gives
gives-ByName {C = C} f g h p = ap (λ t. t.gives) (expr-ByName f g h p)

pub gives-OrElse : {C : Type 0} (f : Cond-F C Typed → C) (g : Expr-F C Typed
    → Typed) (p : Bytes) (e : Expr)
    → (fold-Expr C Typed f g (expr.OrElse p e)).gives
    ≡ (g (Expr-F.OrElse p (fold-Expr C Typed f g e))).gives
gives-OrElse {C = C} f g p e = ap (λ t. t.gives) (expr-OrElse f g p e)

pub checks-Text : {C : Type 0} (f : Cond-F C Typed → C) (g : Expr-F C Typed
    → Typed) (t : Bytes) (w : Shape)
    → (fold-Expr C Typed f g (expr.Text t)).checks w
    ≡ (g (Expr-F.Text t)).checks w
checks-Text {C = C} f g t w = ap (λ t. t.checks w) (expr-Text f g t)

pub checks-Int : {C : Type 0} (f : Cond-F C Typed → C) (g : Expr-F C Typed
    → Typed) (n : ℤ) (w : Shape)
    → (fold-Expr C Typed f g (expr.Int n)).checks w
    ≡ (g (Expr-F.Int n)).checks w
checks-Int {C = C} f g n w = ap (λ t. t.checks w) (expr-Int f g n)

pub checks-Param : {C : Type 0} (f : Cond-F C Typed → C) (g : Expr-F C Typed
    → Typed) (p : Bytes) (w : Shape)
    → (fold-Expr C Typed f g (expr.Param p)).checks w
    ≡ (g (Expr-F.Param p)).checks w
checks-Param {C = C} f g p w = ap (λ t. t.checks w) (expr-Param f g p)

pub checks-New : {C : Type 0} (f : Cond-F C Typed → C) (g : Expr-F C Typed
    → Typed) (c : Bytes) (xs : List Expr) (w : Shape)
    → (fold-Expr C Typed f g (expr.New c xs)).checks w
    ≡ (g (Expr-F.New c (map (fold-Expr C Typed f g) xs))).checks w
checks-New {C = C} f g c xs w = ap (λ t. t.checks w) (expr-New f g c xs)

pub checks-Field : {C : Type 0} (f : Cond-F C Typed → C) (g : Expr-F C Typed
    → Typed) (e : Expr) (n : Bytes) (w : Shape)
    → (fold-Expr C Typed f g (expr.Field e n)).checks w
    ≡ (g (Expr-F.Field (fold-Expr C Typed f g e) n)).checks w
checks-Field {C = C} f g e n w = ap (λ t. t.checks w) (expr-Field f g e n)

pub checks-Sum : {C : Type 0} (f : Cond-F C Typed → C) (g : Expr-F C Typed
    → Typed) (a : Expr) (b : Expr) (w : Shape)
    → (fold-Expr C Typed f g (expr.Sum a b)).checks w
    ≡ (g (Expr-F.Sum (fold-Expr C Typed f g a) (fold-Expr C Typed f g b))).checks w
checks-Sum {C = C} f g a b w = ap (λ t. t.checks w) (expr-Sum f g a b)

pub checks-If : {C : Type 0} (f : Cond-F C Typed → C) (g : Expr-F C Typed
    → Typed) (c : Cond) (a : Expr) (b : Expr) (w : Shape)
    → (fold-Expr C Typed f g (expr.If c a b)).checks w
    ≡ (g (Expr-F.If (fold-Cond C Typed f g c) (fold-Expr C Typed f g a)
    (fold-Expr C Typed f g b))).checks w
checks-If {C = C} f g c a b w = ap (λ t. t.checks w) (expr-If f g c a b)

pub checks-Call : {C : Type 0} (f : Cond-F C Typed → C) (g : Expr-F C Typed
    → Typed) (h : CallName) (xs : List Expr) (w : Shape)
    → (fold-Expr C Typed f g (expr.Call h xs)).checks w
    ≡ (g (Expr-F.Call h (map (fold-Expr C Typed f g) xs))).checks w
checks-Call {C = C} f g h xs w = ap (λ t. t.checks w) (expr-Call f g h xs)

pub checks-ByName : {C : Type 0} (f : Cond-F C Typed → C) (g : Expr-F C Typed
    → Typed) (h : ParamCall) (p : Bytes) (w : Shape)
    → (fold-Expr C Typed f g (expr.ByName h p)).checks w
    ≡ (g (Expr-F.ByName h p)).checks w
checks-ByName {C = C} f g h p w = ap (λ t. t.checks w) (expr-ByName f g h p)

pub checks-OrElse : {C : Type 0} (f : Cond-F C Typed → C) (g : Expr-F C Typed
    → Typed) (p : Bytes) (e : Expr) (w : Shape)
    → (fold-Expr C Typed f g (expr.OrElse p e)).checks w
    ≡ (g (Expr-F.OrElse p (fold-Expr C Typed f g e))).checks w
checks-OrElse {C = C} f g p e w = ap (λ t. t.checks w) (expr-OrElse f g p e)

pub ruleset folds = (
  shape-Text,
  shape-Int,
  shape-Named,
  shape-Set,
  shape-Map,
  shape-Optional,
  shape-Provider,
  shape-Lazy,
  shape-Producer,
  shape-Produced,
  expr-Text,
  expr-Int,
  expr-Param,
  expr-New,
  expr-Field,
  expr-Sum,
  expr-If,
  expr-Call,
  expr-ByName,
  expr-OrElse,
  cond-Equal,
  cond-Less,
  cond-Has,
  cond-IsOk,
  tree-Leaf,
  tree-Await,
  tree-If,
  shape_at-Text,
  shape_at-Int,
  shape_at-Named,
  shape_at-Set,
  shape_at-Map,
  shape_at-Optional,
  shape_at-Provider,
  shape_at-Lazy,
  shape_at-Producer,
  shape_at-Produced,
  tree_at-Leaf,
  tree_at-Await,
  tree_at-If,
  gives-Text,
  gives-Int,
  gives-Param,
  gives-New,
  gives-Field,
  gives-Sum,
  gives-If,
  gives-Call,
  gives-ByName,
  gives-OrElse,
  checks-Text,
  checks-Int,
  checks-Param,
  checks-New,
  checks-Field,
  checks-Sum,
  checks-If,
  checks-Call,
  checks-ByName,
  checks-OrElse,
)
