-- Expressions and trees that were read have names, literals and lists such as the grammar has.
use Rattle.std.proofs.Common.{ℕ, zero, suc, ◌≡◌, ◌≤◌, true, List, [], ◌∷◌, length, refl, arith}
use Rattle.std.specs.Prelude.{nat_le, nat_lt, codes}
use Rattle.std.specs.Str.{bytes_eq}
use Rattle.std.proofs.lemmas.Bool.{leb-true, lt-ltb}
use Rattle.std.proofs.lemmas.List.{length-map}
use Rattle.dg_lex.specs.declared.token.TokenKind.TheVariants as kind
use Rattle.dg_lex.specs.Bytes.{Bytes, line_limit}
use Rattle.dg_decl.specs.declared.expression.CallName.{CallName}
use Rattle.dg_decl.specs.declared.expression.CallName.TheVariants as call
use Rattle.dg_decl.specs.declared.expression.ParamCall.{ParamCall}
use Rattle.dg_decl.specs.declared.expression.ParamCall.TheVariants as by
use Rattle.dg_decl.specs.declared.expression.Expr.{Expr}
use Rattle.dg_decl.specs.declared.expression.Expr.TheVariants as expr
use Rattle.dg_decl.specs.declared.expression.Cond.{Cond}
use Rattle.dg_decl.specs.declared.expression.Cond.TheVariants as cond
use Rattle.dg_decl.specs.declared.expression.Tree.{Tree}
use Rattle.dg_decl.specs.declared.expression.Tree.TheVariants as tree
use Rattle.dg_decl.specs.Readers.{Reader, ◌>>◌, pure, comes, comes_kind, name, enclosed, list_limit}
use Rattle.dg_decl.specs.ExpressionForms.{nesting, tree_nesting, nesting_limit, nested, text_constant, integer_constant, object, constant_over, constant_within, constant, call_name, param_call_name, call_of_one, call_by_name, or_else, call_of, function, named_as, named, atom, row_of, fields, prim, added, sum, comes_call, has, is_ok, comparison, condition, choice, whole, expression_within, expression, body, awaited, leaf, tree_choice, tree_over, tree_within, tree_body}
use Rattle.dg_decl.specs.Written.{written, written_condition, written_tree, count_fits}
use Rattle.dg_decl.proofs.WrittenEquations as eq
use Rattle.dg_printer.proofs.BackWritten.{AllOf}
use Rattle.dg_printer.proofs.BackForms.{IsConstantOver, of_text, of_integer, of_object, ConstantAt, list_fit, fits_at}
use Rattle.dg_printer.proofs.BackTokens.{IsName}
use Rattle.dg_printer.proofs.BackKeeps.{Keeps, bind, given, no_reading, choose, choose_by, by_test, weaker, name_keeps, text_keeps, integer_keeps, eaten_keeps, behind, enclosed_keeps, some_keeps, members_keep}

abbrev pub Fits : Expr → Type 0
Fits e = (written e).fits ≡ true

abbrev pub FitsCondition : Cond → Type 0
FitsCondition c = (written_condition c).fits ≡ true

abbrev pub FitsTree : Tree → Type 0
FitsTree t = (written_tree t).fits ≡ true

-- what is read behind another
pub then_keeps : {A B : Type 0} {P : A → Type 0} {Q : B → Type 0} {r : Reader A} {s : Reader B}
    → Keeps P r → Keeps Q s → Keeps Q (r >> s)
then_keeps {s = s} kr ks = bind (λ a. s) kr (λ a p. ks)

-- ---- constants

text_constant_keeps : (P : Expr → Type 0) → Keeps (IsConstantOver P) text_constant
unfolding text_constant
text_constant_keeps P = bind _ text_keeps (λ t plain. given (expr.Text t) (of_text t refl plain))

integer_constant_keeps : (P : Expr → Type 0) → Keeps (IsConstantOver P) integer_constant
unfolding integer_constant
integer_constant_keeps P = bind _ integer_keeps
    (λ n within. given (expr.Int n) (of_integer n refl within))

object_keeps : (P : Expr → Type 0) (r : Reader Expr) → Keeps P r → Keeps (IsConstantOver P)
    (object r)
unfolding object
object_keeps P r k = behind kind.Word (codes "new")
    (bind _ name_keeps (λ c is. bind _ (members_keep P r k)
    (λ xs u. given (expr.New c xs) (of_object c xs refl is u.short u.all))))

constant_over_keeps : (P : Expr → Type 0) (r : Reader Expr) → Keeps P r → Keeps (IsConstantOver P)
    (constant_over r)
unfolding constant_over
constant_over_keeps P r k =
    by_test (comes_kind kind.Text) text_constant _ (text_constant_keeps P)
    (by_test (comes_kind kind.Integer) integer_constant (object r) (integer_constant_keeps P)
    (object_keeps P r k))

constant_within_keeps : (d : ℕ) → Keeps (ConstantAt d) (constant_within d)
unfolding constant_within ConstantAt
constant_within_keeps zero = no_reading (λ e. ⊥)
constant_within_keeps (suc d) = constant_over_keeps (ConstantAt d) (constant_within d)
    (constant_within_keeps d)

pub constant_keeps : Keeps (ConstantAt nesting_limit) constant
unfolding constant
constant_keeps = constant_within_keeps nesting_limit

-- ---- expressions

constant_fit : (e : Expr) → IsConstantOver Fits e → Fits e
constant_fit e c = fits_at Fits (λ x f. f) e c

call_fit : (f : CallName) (es : List Expr) → AllOf Fits es → length es ≤ list_limit → count_fits f
    (length es) ≡ true → Fits (expr.Call f es)
call_fit f es all short count = rw (
  eq.written-Call f es,
  list_fit es all short,
  length-map es
      written,
  count,
) refl

one_short : (e : Expr) → length (e ∷ []) ≤ list_limit
one_short e = omega arith

call_of_one_keeps : (f : CallName) (r : Reader Expr) → count_fits f 1 ≡ true → Keeps Fits r
    → Keeps Fits (call_of_one f r)
unfolding call_of_one
call_of_one_keeps f r count k = bind _ (enclosed_keeps r k)
    (λ e fit. given (expr.Call f (e ∷ [])) (call_fit f (e ∷ []) (fit, tt) (one_short e) count))

by_name_fit : (f : ParamCall) (p : Bytes) → IsName p → Fits (expr.ByName f p)
by_name_fit f p is = rw (eq.written-ByName f p) is

call_by_name_keeps : (f : ParamCall) → Keeps Fits (call_by_name f)
unfolding call_by_name
call_by_name_keeps f = bind _ (enclosed_keeps name name_keeps)
    (λ p is. given (expr.ByName f p) (by_name_fit f p is))

or_else_fit : (p : Bytes) (e : Expr) → IsName p → Fits e → Fits (expr.OrElse p e)
or_else_fit p e is fit = rw (eq.written-OrElse p e, is, fit) refl

or_else_keeps : (r : Reader Expr) → Keeps Fits r → Keeps Fits (or_else r)
unfolding or_else
or_else_keeps r k = behind kind.Sign (codes "(")
    (bind _ name_keeps (λ p is. behind kind.Sign (codes ",")
    (bind _ k (λ e fit. behind kind.Sign (codes ")")
    (given (expr.OrElse p e) (or_else_fit p e is fit))))))

some_count : (es : List Expr) → 1 ≤ length es → nat_lt 0 (length es) ≡ true
some_count es some = lt-ltb 0 (length es) some

call_of_keeps : (r : Reader Expr) (n : Bytes) → Keeps Fits r → Keeps Fits (call_of r n)
unfolding call_of
call_of_keeps r n k =
    choose (bytes_eq n (call_name call.Cat)) _ _
    (bind _ (some_keeps Fits r k) (λ xs l. given (expr.Call call.Cat xs)
    (call_fit call.Cat xs l.all l.short (some_count xs l.some))))
    (choose (bytes_eq n (call_name call.TextOf)) _ _ (call_of_one_keeps call.TextOf r refl k)
    (choose (bytes_eq n (call_name call.Size)) _ _ (call_of_one_keeps call.Size r refl k)
    (choose (bytes_eq n (call_name call.SetOf)) _ _
    (bind _ (members_keep Fits r k) (λ xs u. given (expr.Call call.SetOf xs)
    (call_fit call.SetOf xs u.all u.short refl)))
    (choose (bytes_eq n (call_name call.Fail)) _ _ (call_of_one_keeps call.Fail r refl k)
    (no_reading Fits)))))

function_keeps : (r : Reader Expr) (n : Bytes) → Keeps Fits r → Keeps Fits (function r n)
unfolding function
function_keeps r n k =
    choose (bytes_eq n (param_call_name by.Get)) _ _ (call_by_name_keeps by.Get)
    (choose (bytes_eq n (param_call_name by.Value)) _ _ (call_by_name_keeps by.Value)
    (choose (bytes_eq n (param_call_name by.Values)) _ _ (call_by_name_keeps by.Values)
    (choose (bytes_eq n (param_call_name by.Failure)) _ _ (call_by_name_keeps by.Failure)
    (choose (bytes_eq n (codes "orElse")) _ _ (or_else_keeps r k) (call_of_keeps r n k)))))

param_fit : (n : Bytes) → IsName n → Fits (expr.Param n)
param_fit n is = rw (eq.written-Param n) is

named_as_keeps : (r : Reader Expr) (n : Bytes) → IsName n → Keeps Fits r → Keeps Fits (named_as r n)
unfolding named_as
named_as_keeps r n is k = by_test (comes kind.Sign (codes "(")) (function r n) (pure (expr.Param n))
    (function_keeps r n k) (given (expr.Param n) (param_fit n is))

named_keeps : (r : Reader Expr) → Keeps Fits r → Keeps Fits (named r)
unfolding named
named_keeps r k = bind (named_as r) name_keeps (λ n is. named_as_keeps r n is k)

atom_keeps : (r : Reader Expr) → Keeps Fits r → Keeps Fits (atom r)
unfolding atom
atom_keeps r k =
    by_test (comes_kind kind.Text) text_constant _ (weaker constant_fit (text_constant_keeps Fits))
    (by_test (comes_kind kind.Integer) integer_constant _
    (weaker constant_fit (integer_constant_keeps Fits))
    (by_test (comes kind.Word (codes "new")) (object r) _
    (weaker constant_fit (object_keeps Fits r k))
    (by_test (comes kind.Sign (codes "(")) (enclosed r) (named r) (enclosed_keeps r k)
    (named_keeps r k))))

row_keeps : {A : Type 0} (P : A → Type 0) (before : Bytes) (part : Reader A)
    (join : Expr → A → Expr) → Keeps P part → ((e : Expr) (a : A) → Fits e → P a → Fits (join e a))
    → (n : ℕ) (e : Expr) → Fits e → Keeps Fits (row_of before part join n e)
unfolding row_of
row_keeps P before part join k joins zero e fit = given e fit
row_keeps P before part join k joins (suc n) e fit =
    bind _ (eaten_keeps kind.Sign before) (λ more any. choose more _ _
    (bind _ k (λ x p. row_keeps P before part join k joins n (join e x) (joins e x fit p)))
    (given e fit))

field_fit : (e : Expr) (f : Bytes) → Fits e → IsName f → Fits (expr.Field e f)
field_fit e f fit is = rw (eq.written-Field e f, fit, is) refl

fields_keep : (n : ℕ) (e : Expr) → Fits e → Keeps Fits (fields n e)
unfolding fields
fields_keep n e fit = row_keeps IsName (codes ".") name
    (λ e f. expr.Field e f) name_keeps field_fit n e fit

prim_keeps : (r : Reader Expr) → Keeps Fits r → Keeps Fits (prim r)
unfolding prim
prim_keeps r k = bind (fields nesting_limit) (atom_keeps r k)
    (λ e fit. fields_keep nesting_limit e fit)

sum_fit : (a b : Expr) → Fits a → Fits b → Fits (expr.Sum a b)
sum_fit a b fa fb = rw (eq.written-Sum a b, fa, fb) refl

added_keeps : (r : Reader Expr) (n : ℕ) (e : Expr) → Keeps Fits r → Fits e → Keeps Fits
    (added r n e)
unfolding added
added_keeps r n e k fit = row_keeps Fits (codes "+") (prim r) (λ a b. expr.Sum a b)
    (prim_keeps r k) sum_fit n e fit

sum_keeps : (r : Reader Expr) → Keeps Fits r → Keeps Fits (sum r)
unfolding sum
sum_keeps r k = bind (added r nesting_limit) (prim_keeps r k)
    (λ e fit. added_keeps r nesting_limit e k fit)

has_fit : (p : Bytes) → IsName p → FitsCondition (cond.Has p)
has_fit p is = rw (eq.written-Has p) is

is_ok_fit : (p : Bytes) → IsName p → FitsCondition (cond.IsOk p)
is_ok_fit p is = rw (eq.written-IsOk p) is

has_keeps : Keeps FitsCondition has
unfolding has
has_keeps = bind _ (behind kind.Name (codes "has") (enclosed_keeps name name_keeps))
    (λ p is. given (cond.Has p) (has_fit p is))

is_ok_keeps : Keeps FitsCondition is_ok
unfolding is_ok
is_ok_keeps = bind _ (behind kind.Name (codes "ok") (enclosed_keeps name name_keeps))
    (λ p is. given (cond.IsOk p) (is_ok_fit p is))

equal_fit : (a b : Expr) → Fits a → Fits b → FitsCondition (cond.Equal a b)
equal_fit a b fa fb = rw (eq.written-Equal a b, fa, fb) refl

less_fit : (a b : Expr) → Fits a → Fits b → FitsCondition (cond.Less a b)
less_fit a b fa fb = rw (eq.written-Less a b, fa, fb) refl

comparison_keeps : (r : Reader Expr) → Keeps Fits r → Keeps FitsCondition (comparison r)
unfolding comparison
comparison_keeps r k =
    bind _ (sum_keeps r k) (λ a fa. bind _ (eaten_keeps kind.Sign (codes "=="))
    (λ equal any. choose equal _ _
    (bind _ (sum_keeps r k) (λ b fb. given (cond.Equal a b) (equal_fit a b fa fb)))
    (bind _ (behind kind.Sign (codes "<") (sum_keeps r k))
    (λ b fb. given (cond.Less a b) (less_fit a b fa fb)))))

condition_keeps : (r : Reader Expr) → Keeps Fits r → Keeps FitsCondition (condition r)
unfolding condition
condition_keeps r k = by_test (comes_call (codes "has")) has _ has_keeps
    (by_test (comes_call (codes "ok")) is_ok (comparison r) is_ok_keeps (comparison_keeps r k))

if_fit : (c : Cond) (a b : Expr) → FitsCondition c → Fits a → Fits b → Fits (expr.If c a b)
if_fit c a b fc fa fb = rw (eq.written-If c a b, fc, fa, fb) refl

choice_keeps : (r : Reader Expr) → Keeps Fits r → Keeps Fits (choice r)
unfolding choice
choice_keeps r k =
    behind kind.Word (codes "if") (bind _ (condition_keeps r k)
    (λ c fc. behind kind.Word (codes "then") (bind _ k
    (λ a fa. behind kind.Word (codes "else") (bind _ k
    (λ b fb. given (expr.If c a b) (if_fit c a b fc fa fb)))))))

whole_keeps : (r : Reader Expr) → Keeps Fits r → Keeps Fits (whole r)
unfolding whole
whole_keeps r k = by_test (comes kind.Word (codes "if")) (choice r) (sum r) (choice_keeps r k)
    (sum_keeps r k)

within_keeps : (d : ℕ) → Keeps Fits (expression_within d)
unfolding expression_within
within_keeps zero = no_reading Fits
within_keeps (suc d) = whole_keeps (expression_within d) (within_keeps d)

pub expression_keeps : Keeps Fits expression
unfolding expression
expression_keeps = within_keeps line_limit

-- what was read nests no deeper than the limit
pub record Nested {A : Type 0} (P : A → Type 0) (depth : A → ℕ) (a : A) : Type 0 where
  pub fits : P a
  pub nests : depth a ≤ nesting_limit

nested_keeps : {A : Type 0} (P : A → Type 0) (depth : A → ℕ) (r : Reader A) → Keeps P r → Keeps
    (Nested P depth) (nested depth r)
unfolding nested
nested_keeps P depth r k =
    bind _ k (λ x p. choose_by (nat_le (depth x) nesting_limit) _ _
    (λ e. given x record { fits = p; nests = leb-true (depth x) nesting_limit e })
    (λ e. no_reading (Nested P depth)))

pub body_keeps : Keeps (Nested Fits nesting) body
unfolding body
body_keeps = nested_keeps Fits nesting expression expression_keeps

-- ---- trees

await_fit : (p : Bytes) → IsName p → FitsTree (tree.Await p)
await_fit p is = rw (eq.written_tree-Await p) is

awaited_keeps : Keeps FitsTree awaited
unfolding awaited
awaited_keeps = bind _ (behind kind.Word (codes "await") name_keeps)
    (λ p is. given (tree.Await p) (await_fit p is))

leaf_fit : (e : Expr) → Fits e → FitsTree (tree.Leaf e)
leaf_fit e fit = rw (eq.written_tree-Leaf e) fit

leaf_keeps : Keeps FitsTree leaf
unfolding leaf
leaf_keeps = bind _ (sum_keeps expression expression_keeps)
    (λ e fit. given (tree.Leaf e) (leaf_fit e fit))

tree_if_fit : (c : Cond) (a b : Tree) → FitsCondition c → FitsTree a → FitsTree b → FitsTree
    (tree.If c a b)
tree_if_fit c a b fc fa fb = rw (eq.written_tree-If c a b, fc, fa, fb) refl

tree_choice_keeps : (r : Reader Tree) → Keeps FitsTree r → Keeps FitsTree (tree_choice r)
unfolding tree_choice
tree_choice_keeps r k =
    behind kind.Word (codes "if") (bind _ (condition_keeps expression expression_keeps)
    (λ c fc. behind kind.Word (codes "then") (bind _ k
    (λ a fa. behind kind.Word (codes "else") (bind _ k
    (λ b fb. given (tree.If c a b) (tree_if_fit c a b fc fa fb)))))))

tree_over_keeps : (r : Reader Tree) → Keeps FitsTree r → Keeps FitsTree (tree_over r)
unfolding tree_over
tree_over_keeps r k = by_test (comes kind.Word (codes "if")) (tree_choice r) _
    (tree_choice_keeps r k) (by_test (comes kind.Word (codes "await")) awaited leaf awaited_keeps
    leaf_keeps)

tree_within_keeps : (d : ℕ) → Keeps FitsTree (tree_within d)
unfolding tree_within
tree_within_keeps zero = no_reading FitsTree
tree_within_keeps (suc d) = tree_over_keeps (tree_within d) (tree_within_keeps d)

pub tree_body_keeps : Keeps (Nested FitsTree tree_nesting) tree_body
unfolding tree_body
tree_body_keeps = nested_keeps FitsTree tree_nesting (tree_within nesting_limit)
    (tree_within_keeps nesting_limit)
