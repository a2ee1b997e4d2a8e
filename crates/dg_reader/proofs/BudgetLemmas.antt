-- A reader with a budget reads what the form says, or what the form says is nothing or nests deeper
-- than the budget.
use Rattle.std.proofs.Common.{◌≡◌, ℕ, zero, suc, ◌+◌, ◌-◌, ◌<◌, ◌≤◌, Bool, true, false, ◌&&◌, List}
use Rattle.std.proofs.Common.{[], ◌∷◌, map, max, Option, Some, None, Result, Ok, Err, refl, sym, ap}
use Rattle.std.proofs.Common.{subst, ◌∙◌, arith}
use Rattle.std.specs.Prelude.{if◌then◌else◌, fold, codes, nat_le}
use Rattle.std.specs.Str.{bytes_eq}
use denote.Enum.Bare.{sameb}
use Rattle.std.proofs.lemmas.Bool.{leb-false, leb-true, false≢true}
use Rattle.dg_lex.specs.contracts.token.TokenKind.{the_type}
use Rattle.dg_lex.specs.declared.token.TokenKind.{TokenKind}
use Rattle.dg_lex.specs.declared.token.TokenKind.TheVariants as kind
use Rattle.dg_lex.specs.Bytes.{Bytes, line_limit}
use Rattle.dg_lex.specs.Lexemes.{Lexeme}
use Rattle.dg_decl.specs.declared.expression.CallName.{CallName}
use Rattle.dg_decl.specs.declared.expression.CallName.TheVariants as call
use Rattle.dg_decl.specs.declared.expression.ParamCall.TheVariants as by
use Rattle.dg_decl.specs.declared.expression.Expr.{Expr}
use Rattle.dg_decl.specs.declared.expression.Expr.TheVariants as expr
use Rattle.dg_decl.specs.declared.expression.Cond.{Cond}
use Rattle.dg_decl.specs.declared.expression.Cond.TheVariants as cond
use Rattle.dg_decl.specs.declared.expression.Tree.{Tree}
use Rattle.dg_decl.specs.declared.expression.Tree.TheVariants as tree
use Rattle.dg_decl.specs.Readers.{Reader, then_reads, pure, taken, comes, comes_kind, is_spelled}
use Rattle.dg_decl.specs.Readers.{is_of_kind, eaten, enclosed, list_of, in_parentheses}
use Rattle.dg_decl.specs.Readers.{some_in_parentheses, name, list_limit}
use Rattle.dg_decl.specs.ExpressionForms.{nesting, condition_nesting, tree_nesting, greatest}
use Rattle.dg_decl.specs.ExpressionForms.{nesting_limit, object, or_else, call_of_one, call_by_name}
use Rattle.dg_decl.specs.ExpressionForms.{call_of, call_name, param_call_name, function, named_as}
use Rattle.dg_decl.specs.ExpressionForms.{named, atom, fields, row_of, prim, added, sum, comparison}
use Rattle.dg_decl.specs.ExpressionForms.{condition, choice, whole, expression_within, expression}
use Rattle.dg_decl.specs.ExpressionForms.{awaited, leaf, tree_choice, tree_over, tree_within}
use Rattle.dg_decl.specs.ExpressionForms.{nested, body, tree_body, has, is_ok, text_constant}
use Rattle.dg_decl.specs.ExpressionForms.{integer_constant, comes_call}
use Rattle.dg_decl.proofs.WrittenEquations as eq
use Rattle.dg_reader.specs.declared.fault.FormFault.{FormFault}
use Rattle.dg_reader.specs.declared.fault.FormFault.TheVariants as fault
use Rattle.dg_reader.specs.Gives.{Gives}
use Rattle.dg_reader.specs.Budgets.{Family, plain_atom, atom_to, prim_to, added_to, sum_to}
use Rattle.dg_reader.specs.Budgets.{comparison_to, condition_to, choice_to, whole_to, expression_to}
use Rattle.dg_reader.specs.Budgets.{of_tree, leaf_to, tree_choice_to, tree_over_to, tree_to}
use Rattle.dg_reader.proofs.NestingLemmas.{nests}

abbrev pub Read : Type 0 → Type 0
Read A = Option (A × List Lexeme)

-- what is read is nothing, or deeper than so much
abbrev pub Over : {A : Type 0} → (A → ℕ) → ℕ → Read A → Type 0
Over depth b None = Unit {0}
Over depth b (Some p) = b < depth p.0

-- the first is the second, or it is nothing and the second is too deep
abbrev pub Within : {A : Type 0} → (A → ℕ) → ℕ → Read A → Read A → Type 0
Within depth b None read = Over depth b read
Within depth b (Some p) read = read ≡ Some p

-- ---- chains

same : {A : Type 0} (depth : A → ℕ) (b : ℕ) (read : Read A) → Within depth b read read
same depth b None = tt
same depth b (Some p) = refl

over_any : {A B : Type 0} (depth : B → ℕ) (b : ℕ) (read : Read A) (f : A → Reader B)
    → ((x : A) (ls : List Lexeme) → Over depth b (f x ls)) → Over depth b (then_reads read f)
over_any depth b None f all = tt
over_any depth b (Some p) f all = all p.0 p.1

over_then : {A B : Type 0} (da : A → ℕ) (db : B → ℕ) (a b : ℕ) (read : Read A) (f : A → Reader B)
    → Over da a read → ((x : A) (ls : List Lexeme) → a < da x → Over db b (f x ls))
    → Over db b (then_reads read f)
over_then da db a b None f over all = tt
over_then da db a b (Some p) f over all = all p.0 p.1 over

within_any : {A B : Type 0} (depth : B → ℕ) (b : ℕ) (read : Read A) (f g : A → Reader B)
    → ((x : A) (ls : List Lexeme) → Within depth b (f x ls) (g x ls))
    → Within depth b (then_reads read f) (then_reads read g)
within_any depth b None f g all = tt
within_any depth b (Some p) f g all = all p.0 p.1

within_then : {A B : Type 0} (da : A → ℕ) (db : B → ℕ) (a b : ℕ) (tried read : Read A) (f g : A
    → Reader B) → Within da a tried read
    → ((x : A) (ls : List Lexeme) → Within db b (f x ls) (g x ls)) → ((x : A) (ls : List Lexeme)
    → a < da x → Over db b (g x ls))
    → Within db b (then_reads tried f) (then_reads read g)
within_then da db a b None read f g within all over = over_then da db a b read g within over
within_then da db a b (Some p) read f g within all over = rw within (all p.0 p.1)

within_if : {A : Type 0} (depth : A → ℕ) (b : ℕ) (c : Bool) (t r t' r' : Read A)
    → Within depth b t r → Within depth b t' r' → Within depth b (if c then t else t') (if c then r
    else r')
within_if depth b true t r t' r' first second = first
within_if depth b false t r t' r' first second = second

within_case : {A : Type 0} (depth : A → ℕ) (b : ℕ) (c : Bool) (t r t' r' : Reader A) (ls : List
    Lexeme) → Within depth b (t ls) (r ls) → Within depth b (t' ls) (r' ls)
    → Within depth b ((if c then t else t') ls) ((if c then r else r') ls)
within_case depth b true t r t' r' ls first second = first
within_case depth b false t r t' r' ls first second = second

over_case : {A : Type 0} (depth : A → ℕ) (b : ℕ) (c : Bool) (r r' : Reader A) (ls : List Lexeme)
    → Over depth b (r ls) → Over depth b (r' ls) → Over depth b ((if c then r else r') ls)
over_case depth b true r r' ls first second = first
over_case depth b false r r' ls first second = second

-- ---- lists

-- the deepest of these
abbrev deepest : List Expr → ℕ
deepest [] = 0
deepest (e ∷ es) = max (nesting e) (deepest es)

fold_deepest : (a : ℕ) (es : List Expr) → max a (deepest es) ≤ fold max a (map nesting es)
fold_deepest a [] = omega arith
fold_deepest a (e ∷ es) = (let more = fold_deepest (max a (nesting e)) es in omega (arith, more))

deepest_within : (es : List Expr) → deepest es ≤ greatest (map nesting es)
deepest_within es = (let all = fold_deepest 0 es in omega (arith, all))

-- one of the readers is another with this budget
abbrev pub IsTried : ℕ → Reader Expr → Reader Expr → Type 0
IsTried b inner e = (ls : List Lexeme) → Within nesting b (inner ls) (e ls)

list_within : (b : ℕ) (inner e : Reader Expr) → IsTried b inner e → (n : ℕ) (ls : List Lexeme)
    → Within deepest b (list_of inner n ls) (list_of e n ls)
unfolding list_of
list_within b inner e tried zero ls = tt
list_within b inner e tried (suc n) ls =
    within_then nesting deepest b b (inner ls) (e ls) _ _ (tried ls)
    (λ x ls. within_any deepest b (eaten kind.Sign (codes ",") ls) _ _
    (λ more ls. within_case deepest b more _ _ _ _ ls
    (within_then deepest deepest b b (list_of inner n ls) (list_of e n ls) _ _ (list_within
    b inner e tried n ls)
    (λ xs ls. refl) (λ xs ls lt. omega (arith, lt)))
    refl))
    (λ x ls lt. over_any deepest b (eaten kind.Sign (codes ",") ls) _
    (λ more ls. over_case deepest b more _ _ ls
    (over_any deepest b (list_of e n ls) _ (λ xs ls. omega (arith, lt)))
    (omega (arith, lt))))

-- ---- parts in parentheses

enclosed_within : {A : Type 0} (depth : A → ℕ) (b : ℕ) (tried e : Reader A) → ((ls : List Lexeme)
    → Within depth b (tried ls) (e ls)) → (ls : List Lexeme)
    → Within depth b (enclosed tried ls) (enclosed e ls)
unfolding enclosed
enclosed_within depth b tried e within ls =
    within_any depth b (taken kind.Sign (codes "(") ls) _ _
    (λ u ls. within_then depth depth b b (tried ls) (e ls) _ _ (within ls)
    (λ x ls. same depth b _)
    (λ x ls lt. over_any depth b (taken kind.Sign (codes ")") ls) _ (λ u ls. lt)))

some_within : (b : ℕ) (inner e : Reader Expr) → IsTried b inner e → (ls : List Lexeme)
    → Within deepest b (some_in_parentheses inner ls) (some_in_parentheses e ls)
unfolding some_in_parentheses
some_within b inner e tried ls = enclosed_within deepest b (list_of inner list_limit) (list_of e
    list_limit) (list_within b inner e tried list_limit) ls

parentheses_within : (b : ℕ) (inner e : Reader Expr) → IsTried b inner e → (ls : List Lexeme)
    → Within deepest b (in_parentheses inner ls) (in_parentheses e ls)
unfolding in_parentheses
parentheses_within b inner e tried ls =
    within_any deepest b (taken kind.Sign (codes "(") ls) _ _
    (λ u ls. within_any deepest b (eaten kind.Sign (codes ")") ls) _ _
    (λ none ls. within_case deepest b none _ _ _ _ ls
    refl
    (within_then deepest deepest b b (list_of inner list_limit ls) (list_of e list_limit ls)
    _ _ (list_within b inner e tried list_limit ls)
    (λ xs ls. same deepest b _)
    (λ xs ls lt. over_any deepest b (taken kind.Sign (codes ")") ls) _ (λ u ls. lt)))))

-- ---- forms with expressions in them

new_over : (b : ℕ) (c : Bytes) (xs : List Expr) → b < deepest xs → suc b < nesting (expr.New c xs)
new_over b c xs lt = (let le = deepest_within xs in rw (eq.nesting-New c xs) (omega (arith, le)))

call_over : (b : ℕ) (f : CallName) (xs : List Expr) → b < deepest xs
    → suc b < nesting (expr.Call f xs)
call_over b f xs lt = (let le = deepest_within xs in rw (eq.nesting-Call f xs) (omega (arith, le)))

object_within : (b : ℕ) (inner e : Reader Expr) → IsTried b inner e
    → IsTried (suc b) (object inner) (object e)
unfolding object
object_within b inner e tried ls =
    within_any nesting (suc b) (taken kind.Word (codes "new") ls) _ _
    (λ u ls. within_any nesting (suc b) (name ls) _ _
    (λ c ls. within_then deepest nesting b (suc b) (in_parentheses inner ls) (in_parentheses e
    ls) _ _ (parentheses_within b inner e tried ls)
    (λ xs ls. refl)
    (λ xs ls lt. new_over b c xs lt)))

one_within : (b : ℕ) (f : CallName) (inner e : Reader Expr) → IsTried b inner e
    → IsTried (suc b) (call_of_one f inner) (call_of_one f e)
unfolding call_of_one
one_within b f inner e tried ls =
    within_then nesting nesting b (suc b) (enclosed inner ls) (enclosed e ls) _ _ (enclosed_within
    nesting b inner e tried ls)
    (λ x ls. refl)
    (λ x ls lt. call_over b f (x ∷ []) (omega (arith, lt)))

or_else_within : (b : ℕ) (inner e : Reader Expr) → IsTried b inner e
    → IsTried (suc b) (or_else inner) (or_else e)
unfolding or_else
or_else_within b inner e tried ls =
    within_any nesting (suc b) (taken kind.Sign (codes "(") ls) _ _
    (λ u ls. within_any nesting (suc b) (name ls) _ _
    (λ p ls. within_any nesting (suc b) (taken kind.Sign (codes ",") ls) _ _
    (λ u ls. within_then nesting nesting b (suc b) (inner ls) (e ls) _ _ (tried ls)
    (λ x ls. same nesting (suc b) _)
    (λ x ls lt. over_any nesting (suc b) (taken kind.Sign (codes ")") ls) _
    (λ u ls. rw (eq.nesting-OrElse p x) (omega (arith, lt)))))))

call_of_within : (b : ℕ) (inner e : Reader Expr) → IsTried b inner e → (n : Bytes)
    → IsTried (suc b) (call_of inner n) (call_of e n)
unfolding call_of
call_of_within b inner e tried n ls =
    within_case nesting (suc b) (bytes_eq n (call_name call.Cat)) _ _ _ _ ls
    (within_then deepest nesting b (suc b) (some_in_parentheses inner ls) (some_in_parentheses e
    ls) _ _ (some_within b inner e tried ls)
    (λ xs ls. refl) (λ xs ls lt. call_over b call.Cat xs lt))
    (within_case nesting (suc b) (bytes_eq n (call_name call.TextOf)) _ _ _ _ ls (one_within b
    call.TextOf inner e tried ls)
    (within_case nesting (suc b) (bytes_eq n (call_name call.Size)) _ _ _ _ ls (one_within b
    call.Size inner e tried ls)
    (within_case nesting (suc b) (bytes_eq n (call_name call.SetOf)) _ _ _ _ ls
    (within_then deepest nesting b (suc b) (in_parentheses inner ls) (in_parentheses e ls) _ _
    (parentheses_within b inner e tried ls)
    (λ xs ls. refl) (λ xs ls lt. call_over b call.SetOf xs lt))
    (within_case nesting (suc b) (bytes_eq n (call_name call.Fail)) _ _ _ _ ls (one_within b
    call.Fail inner e tried ls)
    tt))))

function_within : (b : ℕ) (inner e : Reader Expr) → IsTried b inner e → (n : Bytes)
    → IsTried (suc b) (function inner n) (function e n)
unfolding function
function_within b inner e tried n ls =
    within_case nesting (suc b) (bytes_eq n (param_call_name by.Get)) _ _ _ _ ls (same nesting (suc
    b) _)
    (within_case nesting (suc b) (bytes_eq n (param_call_name by.Value)) _ _ _ _ ls (same nesting
    (suc b) _)
    (within_case nesting (suc b) (bytes_eq n (param_call_name by.Values)) _ _ _ _ ls (same nesting
    (suc b) _)
    (within_case nesting (suc b) (bytes_eq n (param_call_name by.Failure)) _ _ _ _ ls (same nesting
    (suc b) _)
    (within_case nesting (suc b) (bytes_eq n (codes "orElse")) _ _ _ _ ls (or_else_within b inner e
    tried ls)
    (call_of_within b inner e tried n ls)))))

named_within : (b : ℕ) (inner e : Reader Expr) → IsTried b inner e
    → IsTried (suc b) (named inner) (named e)
unfolding named named_as
named_within b inner e tried ls =
    within_any nesting (suc b) (name ls) _ _
    (λ n ls. within_if nesting (suc b) (comes kind.Sign (codes "(") ls) _ _ _ _ (function_within b
    inner e tried n ls) refl)

-- ---- atoms

not_sign : (k other : TokenKind) → sameb the_type k kind.Sign ≡ true
    → sameb the_type other kind.Sign ≡ false → sameb the_type k other ≡ false
not_sign kind.Sign kind.Name is other = refl
not_sign kind.Sign kind.Word is other = refl
not_sign kind.Sign kind.AtName is other = refl
not_sign kind.Sign kind.Integer is other = refl
not_sign kind.Sign kind.Text is other = refl
not_sign kind.Sign kind.Sign is other = absurd cc
not_sign kind.Name other is same = absurd cc
not_sign kind.Word other is same = absurd cc
not_sign kind.AtName other is same = absurd cc
not_sign kind.Integer other is same = absurd cc
not_sign kind.Text other is same = absurd cc

first_of : (a b : Bool) → (a && b) ≡ true → a ≡ true
first_of true b both = refl
first_of false b both = both

pub no_kind : (z : Bytes) (other : TokenKind) (ls : List Lexeme) → comes kind.Sign z ls ≡ true
    → sameb the_type other kind.Sign ≡ false → comes_kind other ls ≡ false
unfolding comes comes_kind
no_kind z other [] is differs = refl
no_kind z other (l ∷ ls) is differs = not_sign l.kind other (first_of (sameb the_type l.kind
    kind.Sign) (bytes_eq l.spelling z) is) differs

no_other : (a b : Bool) → a ≡ false → (a && b) ≡ false
no_other false b is = refl
no_other true b is = absurd cc

pub no_word : (z w : Bytes) (ls : List Lexeme) → comes kind.Sign z ls ≡ true
    → comes kind.Word w ls ≡ false
unfolding comes
no_word z w [] is = refl
no_word z w (l ∷ ls) is = no_other (sameb the_type l.kind kind.Word) (bytes_eq l.spelling w)
    (not_sign l.kind kind.Word (first_of (sameb the_type l.kind kind.Sign) (bytes_eq l.spelling z)
    is) refl)

abbrev opens_next : List Lexeme → Bool
opens_next ls = comes kind.Sign (codes "(") ls

-- an atom in parentheses, or another
atom_behind : (opens : Bool) (inner : Reader Expr) (ls : List Lexeme) → opens_next ls ≡ opens
    → atom inner ls ≡ (if opens then enclosed inner ls else plain_atom inner ls)
unfolding atom plain_atom
atom_behind true inner ls is = rw (
  no_kind (codes "(") kind.Text ls is refl,
  no_kind (codes "(")
      kind.Integer ls is refl,
  no_word (codes "(") (codes "new") ls is,
  is,
) refl
atom_behind false inner ls is = rw is refl

atom_parts : (inner : Reader Expr) (ls : List Lexeme)
    → atom inner ls ≡ (if opens_next ls then enclosed inner ls else plain_atom inner ls)
atom_parts inner ls = atom_behind (opens_next ls) inner ls refl

plain_within : (b : ℕ) (inner e : Reader Expr) → IsTried b inner e
    → IsTried (suc b) (plain_atom inner) (plain_atom e)
unfolding plain_atom
plain_within b inner e tried ls =
    within_if nesting (suc b) (comes_kind kind.Text ls) _ _ _ _ (same nesting (suc b) _)
    (within_if nesting (suc b) (comes_kind kind.Integer ls) _ _ _ _ (same nesting (suc b) _)
    (within_if nesting (suc b) (comes kind.Word (codes "new") ls) _ _ _ _ (object_within b inner e
    tried ls) (named_within b inner e tried ls)))

less : {A : Type 0} (depth : A → ℕ) (b c : ℕ) (tried read : Read A) → b ≤ c
    → Within depth c tried read → Within depth b tried read
less depth b c (Some p) read le within = within
less depth b c None None le within = tt
less depth b c None (Some p) le within = (let lt : c < depth p.0 = within in omega (arith, lt))

-- each reader of the family is the other reader with its budget
abbrev pub IsFamily : Family → Reader Expr → Type 0
IsFamily inner e = (b : ℕ) → IsTried b (inner b) e

atom_within : (inner : Family) (e : Reader Expr) → IsFamily inner e → (b : ℕ)
    → IsTried b (atom_to inner b) (atom e)
unfolding atom_to
atom_within inner e family b ls =
    rw (atom_parts e ls) (within_if nesting b (opens_next ls) _ _ _ _
    (enclosed_within nesting b (inner b) e (family b) ls)
    (less nesting b (suc (b - 1)) _ _ (omega arith) (plain_within (b - 1) (inner (b - 1)) e
    (family (b - 1)) ls)))

-- ---- rows

row_over : {A : Type 0} (before : Bytes) (part : Reader A) (join : Expr → A → Expr)
    → ((e : Expr) (x : A) → nesting e ≤ nesting (join e x))
    → (b n : ℕ) (e : Expr) (ls : List Lexeme) → b < nesting e
    → Over nesting b (row_of before part join n e ls)
unfolding row_of
row_over before part join grows b zero e ls lt = lt
row_over before part join grows b (suc n) e ls lt =
    over_any nesting b (eaten kind.Sign before ls) _
    (λ more ls. over_case nesting b more _ _ ls
    (over_any nesting b (part ls) _ (λ x ls. row_over before part join grows b n (join e x) ls
    (let le = grows e x in omega (arith, lt, le))))
    lt)

row_within : {A : Type 0} (before : Bytes) (tried part : Reader A) (join : Expr → A
    → Expr) (depth : A → ℕ) (a b : ℕ)
    → ((e : Expr) (x : A) → nesting e ≤ nesting (join e x)) → ((e : Expr) (x : A) → a < depth x
    → b < nesting (join e x))
    → ((ls : List Lexeme) → Within depth a (tried ls) (part ls))
    → (n : ℕ) (e : Expr) (ls : List Lexeme) → Within nesting b (row_of before tried join n e ls)
    (row_of before part join n e ls)
unfolding row_of
row_within before tried part join depth a b grows deep within zero e ls = refl
row_within before tried part join depth a b grows deep within (suc n) e ls =
    within_any nesting b (eaten kind.Sign before ls) _ _
    (λ more ls. within_case nesting b more _ _ _ _ ls
    (within_then depth nesting a b (tried ls) (part ls) _ _ (within ls)
    (λ x ls. row_within before tried part join depth a b grows deep within n (join e x) ls)
    (λ x ls lt. row_over before part join grows b n (join e x) ls (deep e x lt)))
    refl)

field_grows : (e : Expr) (f : Bytes) → nesting e ≤ nesting (expr.Field e f)
field_grows e f = rw (eq.nesting-Field e f) (omega arith)

sum_grows : (e x : Expr) → nesting e ≤ nesting (expr.Sum e x)
sum_grows e x = rw (eq.nesting-Sum e x) (omega arith)

fields_over : (b n : ℕ) (e : Expr) (ls : List Lexeme) → b < nesting e
    → Over nesting b (fields n e ls)
unfolding fields
fields_over b n e ls lt = row_over (codes ".") name (λ e f. expr.Field e f) field_grows b n e ls lt

prim_within : (inner : Family) (e : Reader Expr) → IsFamily inner e → (b : ℕ)
    → IsTried b (prim_to inner b) (prim e)
unfolding prim_to prim
prim_within inner e family b ls =
    within_then nesting nesting b b (atom_to inner b ls) (atom e ls) _ _ (atom_within inner e family
    b ls)
    (λ x ls. same nesting b _)
    (λ x ls lt. fields_over b nesting_limit x ls lt)

added_within : (inner : Family) (e : Reader Expr) → IsFamily inner e
    → (b n : ℕ) (x : Expr) (ls : List Lexeme) → Within nesting b (added_to inner b n x ls) (added e
    n x ls)
unfolding added_to added
added_within inner e family b n x ls =
    row_within (codes "+") (prim_to inner (b - 1)) (prim e)
    (λ a b. expr.Sum a b) nesting (b - 1) b sum_grows
    (λ y z lt. rw (eq.nesting-Sum y z) (omega (arith, lt)))
    (prim_within inner e family (b - 1)) n x ls

added_over : (e : Reader Expr) (b n : ℕ) (x : Expr) (ls : List Lexeme) → b < nesting x
    → Over nesting b (added e n x ls)
unfolding added
added_over e b n x ls lt = row_over (codes "+") (prim e) (λ a b. expr.Sum a b) sum_grows b n x ls lt

sum_within : (inner : Family) (e : Reader Expr) → IsFamily inner e → (b : ℕ)
    → IsTried b (sum_to inner b) (sum e)
unfolding sum_to sum
sum_within inner e family b ls =
    within_then nesting nesting b b (prim_to inner b ls) (prim e ls) _ _ (prim_within inner e family
    b ls)
    (λ x ls. added_within inner e family b nesting_limit x ls)
    (λ x ls lt. added_over e b nesting_limit x ls lt)

-- ---- conditions and choices

equal_over : (a b : ℕ) (x y : Expr) → b ≤ suc a → (a < nesting x)
    → b < condition_nesting (cond.Equal x y)
equal_over a b x y le lt = rw (eq.nesting-Equal x y) (omega (arith, le, lt))

-- what is read behind a `<`
abbrev less_than : Reader Expr → Reader Expr
less_than part = λ ls. then_reads (taken kind.Sign (codes "<") ls) (λ u. part)

comparison_within : (inner : Family) (e : Reader Expr) → IsFamily inner e → (a b : ℕ) → b ≤ suc a
    → (ls : List Lexeme) → Within condition_nesting b (comparison_to inner a ls) (comparison e ls)
unfolding comparison_to comparison
comparison_within inner e family a b le ls =
    within_then nesting condition_nesting a b (sum_to inner a ls) (sum e ls) _ _ (sum_within inner e
    family a ls)
    (λ x ls. within_any condition_nesting b (eaten kind.Sign (codes "==") ls) _ _
    (λ equal ls. within_case condition_nesting b equal _ _ _ _ ls
    (within_then nesting condition_nesting a b (sum_to inner a ls) (sum e ls) _ _
    (sum_within inner e family a ls)
    (λ y ls. refl)
    (λ y ls lt. rw (eq.nesting-Equal x y) (omega (arith, le, lt))))
    (within_then nesting condition_nesting a b (less_than (sum_to inner a) ls) (less_than
    (sum e) ls) _ _
    (within_any nesting a (taken kind.Sign (codes "<") ls) _ _
    (λ u ls. sum_within inner e family a ls))
    (λ y ls. refl)
    (λ y ls lt. rw (eq.nesting-Less x y) (omega (arith, le, lt))))))
    (λ x ls lt. over_any condition_nesting b (eaten kind.Sign (codes "==") ls) _
    (λ equal ls. over_case condition_nesting b equal _ _ ls
    (over_any condition_nesting b (sum e ls) _
    (λ y ls. rw (eq.nesting-Equal x y) (omega (arith, le, lt))))
    (over_any condition_nesting b (less_than (sum e) ls) _
    (λ y ls. rw (eq.nesting-Less x y) (omega (arith, le, lt))))))

condition_within : (inner : Family) (e : Reader Expr) → IsFamily inner e
    → (b : ℕ) (ls : List Lexeme) → Within condition_nesting b (condition_to inner b ls) (condition e
    ls)
unfolding condition_to condition
condition_within inner e family b ls =
    within_if condition_nesting b (comes_call (codes "has") ls) _ _ _ _ (same condition_nesting b _)
    (within_if condition_nesting b (comes_call (codes "ok") ls) _ _ _ _ (same condition_nesting b _)
    (comparison_within inner e family (b - 1) b (omega arith) ls))

choice_within : (inner : Family) (e : Reader Expr) → IsFamily inner e → (b : ℕ)
    → IsTried (suc b) (choice_to inner b) (choice e)
unfolding choice_to choice
choice_within inner e family b ls =
    within_any nesting (suc b) (taken kind.Word (codes "if") ls) _ _
    (λ u ls. within_then condition_nesting nesting b (suc b) (condition_to inner b ls) (condition e
    ls) _ _ (condition_within inner e family b ls)
    (λ c ls. within_any nesting (suc b) (taken kind.Word (codes "then") ls) _ _
    (λ u ls. within_then nesting nesting b (suc b) (inner b ls) (e ls) _ _ (family b ls)
    (λ x ls. within_any nesting (suc b) (taken kind.Word (codes "else") ls) _ _
    (λ u ls. within_then nesting nesting b (suc b) (inner b ls) (e ls) _ _ (family b
    ls)
    (λ y ls. refl)
    (λ y ls lt. rw (eq.nesting-If c x y) (omega (arith, lt)))))
    (λ x ls lt. over_any nesting (suc b) (taken kind.Word (codes "else") ls) _
    (λ u ls. over_any nesting (suc b) (e ls) _
    (λ y ls. rw (eq.nesting-If c x y) (omega (arith, lt)))))))
    (λ c ls lt. over_any nesting (suc b) (taken kind.Word (codes "then") ls) _
    (λ u ls. over_any nesting (suc b) (e ls) _
    (λ x ls. over_any nesting (suc b) (taken kind.Word (codes "else") ls) _
    (λ u ls. over_any nesting (suc b) (e ls) _
    (λ y ls. rw (eq.nesting-If c x y) (omega (arith, lt))))))))

whole_within : (inner : Family) (e : Reader Expr) → IsFamily inner e → (b : ℕ)
    → IsTried b (whole_to inner b) (whole e)
unfolding whole_to whole
whole_within inner e family b ls =
    within_if nesting b (comes kind.Word (codes "if") ls) _ _ _ _
    (less nesting b (suc (b - 1)) _ _ (omega arith) (choice_within inner e family (b - 1) ls))
    (sum_within inner e family b ls)

-- nothing nests 0 deep
over_zero : (read : Read Expr) → Over nesting 0 read
over_zero None = tt
over_zero (Some p) = nests p.0

pub expression_within_budget : (depth : ℕ) → IsFamily (expression_to depth) (expression_within
    depth)
unfolding expression_to expression_within
expression_within_budget zero b ls = tt
expression_within_budget (suc depth) zero ls = over_zero (whole (expression_within depth) ls)
expression_within_budget (suc depth) (suc b) ls = whole_within (expression_to depth)
    (expression_within depth) (expression_within_budget depth) (suc b) ls

-- ---- trees

tree_family : IsFamily of_tree expression
unfolding expression
tree_family b ls = expression_within_budget line_limit b ls

leaf_within : (ls : List Lexeme) → Within tree_nesting nesting_limit (leaf_to ls) (leaf ls)
unfolding leaf_to leaf
leaf_within ls =
    within_then nesting tree_nesting nesting_limit nesting_limit (sum_to of_tree nesting_limit ls)
    (sum expression ls) _ _ (sum_within of_tree expression tree_family nesting_limit ls)
    (λ x ls. refl)
    (λ x ls lt. rw (eq.tree_nesting-Leaf x) lt)

tree_choice_within : (inner t : Reader Tree) → ((ls : List Lexeme)
    → Within tree_nesting nesting_limit (inner ls) (t ls)) → (ls : List Lexeme)
    → Within tree_nesting nesting_limit (tree_choice_to inner ls) (tree_choice t ls)
unfolding tree_choice_to tree_choice
tree_choice_within inner t tried ls =
    within_any tree_nesting nesting_limit (taken kind.Word (codes "if") ls) _ _
    (λ u ls. within_then condition_nesting tree_nesting nesting_limit nesting_limit (condition_to
    of_tree nesting_limit ls) (condition expression ls) _ _ (condition_within of_tree expression
    tree_family nesting_limit ls)
    (λ c ls. within_any tree_nesting nesting_limit (taken kind.Word (codes "then") ls) _ _
    (λ u ls. within_then tree_nesting tree_nesting nesting_limit nesting_limit (inner ls) (t
    ls) _ _ (tried ls)
    (λ x ls. within_any tree_nesting nesting_limit (taken kind.Word (codes "else") ls) _
    _
    (λ u ls. within_then tree_nesting tree_nesting nesting_limit nesting_limit
    (inner ls) (t ls) _ _ (tried ls)
    (λ y ls. refl)
    (λ y ls lt. rw (eq.tree_nesting-If c x y) (omega (arith, lt)))))
    (λ x ls lt. over_any tree_nesting nesting_limit (taken kind.Word (codes "else") ls)
    _ (λ u ls. over_any tree_nesting nesting_limit (t ls) _
    (λ y ls. rw (eq.tree_nesting-If c x y) (omega (arith, lt)))))))
    (λ c ls lt. over_any tree_nesting nesting_limit (taken kind.Word (codes "then") ls) _
    (λ u ls. over_any tree_nesting nesting_limit (t ls) _
    (λ x ls. over_any tree_nesting nesting_limit (taken kind.Word (codes "else") ls) _
    (λ u ls. over_any tree_nesting nesting_limit (t ls) _
    (λ y ls. rw (eq.tree_nesting-If c x y) (omega (arith, lt))))))))

tree_within_budget : (depth : ℕ) (ls : List Lexeme)
    → Within tree_nesting nesting_limit (tree_to depth ls) (tree_within depth ls)
unfolding tree_to tree_within tree_over_to tree_over
tree_within_budget zero ls = tt
tree_within_budget (suc depth) ls =
    within_if tree_nesting nesting_limit (comes kind.Word (codes "if") ls) _ _ _ _
    (tree_choice_within (tree_to depth) (tree_within depth) (tree_within_budget depth) ls)
    (within_if tree_nesting nesting_limit (comes kind.Word (codes "await") ls) _ _ _ _ (same
    tree_nesting nesting_limit _) (leaf_within ls))

-- ---- bodies

too_deep : (n : ℕ) → nesting_limit < n → nat_le n nesting_limit ≡ false
too_deep n lt = grind (arith, leb-true)

nested_none : {A : Type 0} (depth : A → ℕ) (form : Reader A) (ls : List Lexeme)
    → Over depth nesting_limit (form ls) → nested depth form ls ≡ None
unfolding nested
nested_none depth form ls over = from (form ls) over
  where
    from : (read : Read _) → Over depth nesting_limit read → then_reads read
        (λ x. if nat_le (depth x) nesting_limit then pure x else (λ ls. None)) ≡ None
    from None over = refl
    from (Some p) over = rw (too_deep (depth p.0) over) refl

nested_some : {A : Type 0} (depth : A → ℕ) (form : Reader A) (ls rest : List Lexeme) (x : A) (fits :
    Bool) → form ls ≡ Some (x, rest) → fits ≡ nat_le (depth x) nesting_limit
    → nested depth form ls ≡ (if fits then Some (x, rest) else None)
unfolding nested
nested_some depth form ls rest x true read is = rw (read, sym is) refl
nested_some depth form ls rest x false read is = rw (read, sym is) refl

body_none : (ls : List Lexeme) → expression_to line_limit nesting_limit ls ≡ None → body ls ≡ None
unfolding body expression
body_none ls none =
    let within = expression_within_budget line_limit nesting_limit ls in
    nested_none nesting (expression_within line_limit) ls (subst
    (λ (tried : Read Expr). Within nesting nesting_limit tried (expression_within line_limit
    ls)) none within)

body_is : (ls rest : List Lexeme) (e : Expr) (fits : Bool)
    → expression_to line_limit nesting_limit ls ≡ Some (e, rest)
    → fits ≡ nat_le (nesting e) nesting_limit → body ls ≡ (if fits then Some (e, rest) else None)
unfolding body expression
body_is ls rest e fits read is =
    let within = expression_within_budget line_limit nesting_limit ls in
    nested_some nesting (expression_within line_limit) ls rest e fits (subst
    (λ (tried : Read Expr). Within nesting nesting_limit tried (expression_within line_limit
    ls)) read within) is

tree_body_none : (ls : List Lexeme) → tree_to nesting_limit ls ≡ None → tree_body ls ≡ None
unfolding tree_body
tree_body_none ls none =
    let within = tree_within_budget nesting_limit ls in
    nested_none tree_nesting (tree_within nesting_limit) ls (subst
    (λ (tried : Read Tree). Within tree_nesting nesting_limit tried (tree_within nesting_limit
    ls)) none within)

tree_body_is : (ls rest : List Lexeme) (t : Tree) (fits : Bool)
    → tree_to nesting_limit ls ≡ Some (t, rest) → fits ≡ nat_le (tree_nesting t) nesting_limit
    → tree_body ls ≡ (if fits then Some (t, rest) else None)
unfolding tree_body
tree_body_is ls rest t fits read is =
    let within = tree_within_budget nesting_limit ls in
    nested_some tree_nesting (tree_within nesting_limit) ls rest t fits (subst
    (λ (tried : Read Tree). Within tree_nesting nesting_limit tried (tree_within nesting_limit
    ls)) read within) is

pub body_fails : (ls left new : List Lexeme) (e : FormFault)
    → Gives (expression_to line_limit nesting_limit ls) (Err e) left → Gives (body ls) (Err e) new
body_fails ls left new fault.NoMemory refused = tt
body_fails ls left new fault.NoForm refused = body_none ls refused

pub body_fits : (ls rest : List Lexeme) (x : Expr) → expression_to line_limit nesting_limit ls ≡
    Some (x, rest) → nat_le (nesting x) nesting_limit ≡ true → body ls ≡ Some (x, rest)
body_fits ls rest x read fits = body_is ls rest x true read (sym fits)

pub body_is_too_deep : (ls rest : List Lexeme) (x : Expr)
    → expression_to line_limit nesting_limit ls ≡ Some (x, rest)
    → nat_le (nesting x) nesting_limit ≡ false → body ls ≡ None
body_is_too_deep ls rest x read deep = body_is ls rest x false read (sym deep)

pub tree_body_fails : (ls left new : List Lexeme) (e : FormFault)
    → Gives (tree_to nesting_limit ls) (Err e) left → Gives (tree_body ls) (Err e) new
tree_body_fails ls left new fault.NoMemory refused = tt
tree_body_fails ls left new fault.NoForm refused = tree_body_none ls refused

pub tree_body_fits : (ls rest : List Lexeme) (x : Tree) → tree_to nesting_limit ls ≡ Some (x, rest)
    → nat_le (tree_nesting x) nesting_limit ≡ true → tree_body ls ≡ Some (x, rest)
tree_body_fits ls rest x read fits = tree_body_is ls rest x true read (sym fits)

pub tree_body_is_too_deep : (ls rest : List Lexeme) (x : Tree)
    → tree_to nesting_limit ls ≡ Some (x, rest) → nat_le (tree_nesting x) nesting_limit ≡ false
    → tree_body ls ≡ None
tree_body_is_too_deep ls rest x read deep = tree_body_is ls rest x false read (sym deep)
