-- Lists of expressions, objects and functions are read back from their tokens.
use Rattle.std.proofs.Common.{ℕ, zero, suc, ◌≡◌, ◌≤◌, true, false, ◌&&◌, ◌==◌, List, [], ◌∷◌, ◌++◌, length, map, max, Some, refl, append_assoc, arith}
use Rattle.std.specs.Prelude.{codes, nat_lt, fold}
use Rattle.std.proofs.lemmas.Bool.{eqb-true, false≢true}
use Rattle.dg_lex.specs.declared.token.TokenKind.TheVariants as kind
use Rattle.dg_lex.specs.Bytes.{Bytes}
use Rattle.dg_lex.specs.Tokens.{is_name}
use Rattle.dg_lex.specs.Lexemes.{Lexeme}
use Rattle.dg_decl.specs.declared.expression.CallName.{CallName}
use Rattle.dg_decl.specs.declared.expression.CallName.TheVariants as call
use Rattle.dg_decl.specs.declared.expression.ParamCall.{ParamCall}
use Rattle.dg_decl.specs.declared.expression.ParamCall.TheVariants as by
use Rattle.dg_decl.specs.declared.expression.Expr.{Expr}
use Rattle.dg_decl.specs.declared.expression.Expr.TheVariants as expr
use Rattle.dg_decl.specs.declared.expression.Cond.TheOpen.{Expr-F}
use Rattle.dg_decl.specs.Readers.{Reader, comes, comes_kind, taken, eaten, spelled, enclosed, list_of, some_in_parentheses, in_parentheses, list_limit}
use Rattle.dg_decl.specs.ExpressionForms.{nesting, nesting_limit, greatest, object, named, named_as, function, call_of, call_of_one, call_by_name, call_name, param_call_name, or_else, atom, comes_call, expression_within}
use Rattle.dg_decl.specs.Written.{Written, in_parens, name_token, word_token, sign_token, written, expression_written, separated, more_separated, list_tokens, list_depth, list_fits, count_fits}
use Rattle.dg_decl.proofs.ExpressionsBack.{NoSign, Ends, IsRead, reads_whole, atom_read, close_ends, enclosed_back, within_one}

-- ---- the greatest of numbers

abbrev pub AllAtMost : ℕ → List ℕ → Type 0
AllAtMost d [] = Unit {0}
AllAtMost d (n ∷ ns) = (n ≤ d) × AllAtMost d ns

fold_within : (a d : ℕ) (ns : List ℕ) → fold max a ns ≤ d → (a ≤ d) × AllAtMost d ns
fold_within a d [] le = (le, tt)
fold_within a d (n ∷ ns) le =
    let more = fold_within (max a n) d ns le in
    let both : max a n ≤ d = more.0 in
    (omega (arith, both), (omega (arith, both), more.1))

pub greatest_within : (d : ℕ) (ns : List ℕ) → greatest ns ≤ d → AllAtMost d ns
greatest_within d ns le = (fold_within 0 d ns le).1

-- ---- lists

-- each is read
abbrev pub AllRead : List Expr → Type 0
AllRead [] = Unit {0}
AllRead (e ∷ es) = IsRead (written e) (nesting e) e × AllRead es

-- each nests no deeper, as it is written
abbrev pub DepthsWithin : ℕ → List Expr → Type 0
DepthsWithin d [] = Unit {0}
DepthsWithin d (e ∷ es) = ((written e).depth ≤ d) × DepthsWithin d es

depths_of : (d : ℕ) (es : List Expr) → AllAtMost d (map (λ x. x.depth) (map written es)) → DepthsWithin d es
depths_of d [] all = tt
depths_of d (e ∷ es) all = (all.0, depths_of d es all.1)

abbrev comma : Lexeme
comma = sign_token (codes ",")

abbrev close_paren : Lexeme
close_paren = sign_token (codes ")")

comma_ends : (rest : List Lexeme) → Ends (comma ∷ rest)
unfolding comes
comma_ends rest = record { stops = record { call = refl; field = refl }; sum = refl }

-- the tokens of members with commas between
abbrev pub listed : List Expr → List Lexeme
listed es = separated comma (map (λ x. x.tokens) (map written es))

last_member : (r : Reader Expr) (e : Expr) (k : ℕ) (ls rest : List Lexeme) → r ls ≡ Some (e, close_paren ∷ rest) → list_of r (suc k) ls ≡ Some (e ∷ [], close_paren ∷ rest)
unfolding list_of eaten comes
last_member r e k ls rest is = rw is refl

next_member : (r : Reader Expr) (e : Expr) (es : List Expr) (k : ℕ) (ls more rest : List Lexeme) → r ls ≡ Some (e, comma ∷ more) → list_of r k more ≡ Some (es, rest) → list_of r (suc k) ls ≡ Some (e ∷ es, rest)
unfolding list_of eaten comes
next_member r e es k ls more rest is later = rw (is, later) refl

members_read : (d : ℕ) (e : Expr) (es : List Expr) (k : ℕ) (rest : List Lexeme) → IsRead (written e) (nesting e) e → AllRead es → (written e).depth ≤ d → DepthsWithin d es → length (e ∷ es) ≤ k → list_of (expression_within d) k (listed (e ∷ es) ++ (close_paren ∷ rest)) ≡ Some (e ∷ es, close_paren ∷ rest)
members_read d e es zero rest r all le depths short = absurd (omega (arith, short))
members_read d e [] (suc k) rest r all le depths short =
    rw (append_assoc (written e).tokens [] (close_paren ∷ rest))
    (last_member (expression_within d) e k ((written e).tokens ++ (close_paren ∷ rest)) rest (reads_whole (written e) (nesting e) e r d le (close_paren ∷ rest) (close_ends rest)))
members_read d e (f ∷ es) (suc k) rest r all le depths short =
    let later : List Lexeme = listed (f ∷ es) ++ (close_paren ∷ rest) in
    rw (append_assoc (written e).tokens (comma ∷ listed (f ∷ es)) (close_paren ∷ rest))
    (next_member (expression_within d) e (f ∷ es) k ((written e).tokens ++ (comma ∷ later)) later (close_paren ∷ rest)
    (reads_whole (written e) (nesting e) e r d le (comma ∷ later) (comma_ends later))
    (members_read d f es k rest all.0 all.1 depths.0 depths.1 (omega (arith, short))))

some_back : (d : ℕ) (e : Expr) (es : List Expr) (rest : List Lexeme) → AllRead (e ∷ es) → DepthsWithin d (e ∷ es) → length (e ∷ es) ≤ list_limit → some_in_parentheses (expression_within d) (in_parens (listed (e ∷ es)) ++ rest) ≡ Some (e ∷ es, rest)
unfolding some_in_parentheses enclosed taken comes
some_back d e es rest all depths short =
    rw (append_assoc (listed (e ∷ es)) (close_paren ∷ []) rest, members_read d e es list_limit rest all.0 all.1 depths.0 depths.1 short) refl

none_back : (d : ℕ) (rest : List Lexeme) → in_parentheses (expression_within d) (in_parens [] ++ rest) ≡ Some ([], rest)
unfolding in_parentheses taken eaten comes
none_back d rest = refl

first_paren : (rest : List Lexeme) → comes kind.Sign (codes "(") (sign_token (codes "(") ∷ rest) ≡ true
unfolding comes
first_paren rest = refl

first_close_paren : (rest : List Lexeme) → comes kind.Sign (codes ")") (close_paren ∷ rest) ≡ true
unfolding comes
first_close_paren rest = refl

members_in : (r : Reader Expr) (es : List Expr) (tokens rest : List Lexeme) → NoSign (codes ")") (tokens ++ (close_paren ∷ rest)) → list_of r list_limit (tokens ++ (close_paren ∷ rest)) ≡ Some (es, close_paren ∷ rest) → in_parentheses r (in_parens tokens ++ rest) ≡ Some (es, rest)
unfolding in_parentheses taken eaten
members_in r es tokens rest no_close is = rw (first_paren ((tokens ++ (close_paren ∷ [])) ++ rest), append_assoc tokens (close_paren ∷ []) rest, no_close, is, first_close_paren rest) refl

pub list_back : (d : ℕ) (es : List Expr) (rest : List Lexeme) → AllRead es → DepthsWithin d es → length es ≤ list_limit → in_parentheses (expression_within d) (in_parens (listed es) ++ rest) ≡ Some (es, rest)
list_back d [] rest all depths short = none_back d rest
list_back d (e ∷ es) rest all depths short =
    members_in (expression_within d) (e ∷ es) (listed (e ∷ es)) rest
    (rw (append_assoc (written e).tokens (more_separated comma (map (λ x. x.tokens) (map written es))) (close_paren ∷ rest))
    (all.0.facts.no_close (more_separated comma (map (λ x. x.tokens) (map written es)) ++ (close_paren ∷ rest))))
    (members_read d e es list_limit rest all.0 all.1 depths.0 depths.1 short)

-- ---- objects and functions

object_atom : (d : ℕ) (c : Bytes) (es : List Expr) (tokens rest : List Lexeme) → in_parentheses (expression_within d) (tokens ++ rest) ≡ Some (es, rest) → atom (expression_within d) (word_token (codes "new") ∷ (name_token c ∷ (tokens ++ rest))) ≡ Some (expr.New c es, rest)
unfolding atom object comes comes_kind taken spelled
object_atom d c es tokens rest is = rw is refl

part_depths : (d : ℕ) (es : List Expr) → suc (list_depth (map written es)) ≤ suc d → DepthsWithin d es
part_depths d es le = depths_of d es (greatest_within d (map (λ x. x.depth) (map written es)) (omega (arith, le)))

pub object_read : (c : Bytes) (es : List Expr) (n : ℕ) → AllRead es → length es ≤ list_limit → suc n ≤ nesting_limit → IsRead (expression_written (Expr-F.New c (map written es))) (suc n) (expr.New c es)
unfolding comes comes_call
object_read c es n all short within =
    atom_read (word_token (codes "new") ∷ (name_token c ∷ list_tokens (map written es))) (suc (list_depth (map written es))) (suc n) (is_name c && list_fits (map written es)) (expr.New c es)
    record { some = omega arith; fields = omega arith; added = omega arith; within = within; no_close = λ rest. refl; no_has = λ rest call. refl; no_ok = λ rest call. refl }
    (λ rest. (refl, refl))
    (λ d le rest call. object_atom d c es (list_tokens (map written es)) rest (list_back d es rest all (part_depths d es le) short))

cat_atom : (d : ℕ) (es : List Expr) (tokens rest : List Lexeme) → some_in_parentheses (expression_within d) (in_parens tokens ++ rest) ≡ Some (es, rest) → atom (expression_within d) (name_token (codes "cat") ∷ (in_parens tokens ++ rest)) ≡ Some (expr.Call call.Cat es, rest)
unfolding atom named named_as function call_of comes comes_kind spelled
cat_atom d es tokens rest is = rw is refl

set_atom : (d : ℕ) (es : List Expr) (tokens rest : List Lexeme) → in_parentheses (expression_within d) (in_parens tokens ++ rest) ≡ Some (es, rest) → atom (expression_within d) (name_token (codes "set") ∷ (in_parens tokens ++ rest)) ≡ Some (expr.Call call.SetOf es, rest)
unfolding atom named named_as function call_of comes comes_kind spelled
set_atom d es tokens rest is = rw is refl

text_of_atom : (d : ℕ) (e : Expr) (tokens rest : List Lexeme) → enclosed (expression_within d) (in_parens tokens ++ rest) ≡ Some (e, rest) → atom (expression_within d) (name_token (codes "text") ∷ (in_parens tokens ++ rest)) ≡ Some (expr.Call call.TextOf (e ∷ []), rest)
unfolding atom named named_as function call_of call_of_one comes comes_kind spelled
text_of_atom d e tokens rest is = rw is refl

size_atom : (d : ℕ) (e : Expr) (tokens rest : List Lexeme) → enclosed (expression_within d) (in_parens tokens ++ rest) ≡ Some (e, rest) → atom (expression_within d) (name_token (codes "size") ∷ (in_parens tokens ++ rest)) ≡ Some (expr.Call call.Size (e ∷ []), rest)
unfolding atom named named_as function call_of call_of_one comes comes_kind spelled
size_atom d e tokens rest is = rw is refl

fail_atom : (d : ℕ) (e : Expr) (tokens rest : List Lexeme) → enclosed (expression_within d) (in_parens tokens ++ rest) ≡ Some (e, rest) → atom (expression_within d) (name_token (codes "fail") ∷ (in_parens tokens ++ rest)) ≡ Some (expr.Call call.Fail (e ∷ []), rest)
unfolding atom named named_as function call_of call_of_one comes comes_kind spelled
fail_atom d e tokens rest is = rw is refl

one_back : (d : ℕ) (e : Expr) (rest : List Lexeme) → AllRead (e ∷ []) → DepthsWithin d (e ∷ []) → enclosed (expression_within d) (in_parens (listed (e ∷ [])) ++ rest) ≡ Some (e, rest)
one_back d e rest all depths =
    enclosed_back (expression_within d) e (listed (e ∷ [])) rest
    (rw (append_assoc (written e).tokens [] (close_paren ∷ rest)) (reads_whole (written e) (nesting e) e all.0 d depths.0 (close_paren ∷ rest) (close_ends rest)))

-- the one argument of a function that takes one
abbrev pub OneAtom : CallName → Type 0
OneAtom f = (d : ℕ) (e : Expr) (tokens rest : List Lexeme) → enclosed (expression_within d) (in_parens tokens ++ rest) ≡ Some (e, rest) → atom (expression_within d) (name_token (call_name f) ∷ (in_parens tokens ++ rest)) ≡ Some (expr.Call f (e ∷ []), rest)

one_call : (f : CallName) → OneAtom f → (d : ℕ) (es : List Expr) (rest : List Lexeme) → (length es == 1) ≡ true → AllRead es → DepthsWithin d es → atom (expression_within d) (name_token (call_name f) ∷ (list_tokens (map written es) ++ rest)) ≡ Some (expr.Call f es, rest)
one_call f is d [] rest one all depths = absurd (false≢true one)
one_call f is d (e ∷ []) rest one all depths = is d e (listed (e ∷ [])) rest (one_back d e rest all depths)
one_call f is d (e ∷ g ∷ es) rest one all depths = absurd (let h = eqb-true (length (e ∷ g ∷ es)) 1 one in omega (arith, h))

cat_call : (d : ℕ) (es : List Expr) (rest : List Lexeme) → nat_lt 0 (length es) ≡ true → AllRead es → DepthsWithin d es → length es ≤ list_limit → atom (expression_within d) (name_token (codes "cat") ∷ (list_tokens (map written es) ++ rest)) ≡ Some (expr.Call call.Cat es, rest)
cat_call d [] rest some all depths short = absurd (false≢true some)
cat_call d (e ∷ es) rest some all depths short = cat_atom d (e ∷ es) (listed (e ∷ es)) rest (some_back d e es rest all depths short)

call_atom : (f : CallName) (d : ℕ) (es : List Expr) (rest : List Lexeme) → count_fits f (length es) ≡ true → AllRead es → DepthsWithin d es → length es ≤ list_limit → atom (expression_within d) (name_token (call_name f) ∷ (list_tokens (map written es) ++ rest)) ≡ Some (expr.Call f es, rest)
call_atom call.Cat d es rest count all depths short = cat_call d es rest count all depths short
call_atom call.TextOf d es rest count all depths short = one_call call.TextOf text_of_atom d es rest count all depths
call_atom call.Size d es rest count all depths short = one_call call.Size size_atom d es rest count all depths
call_atom call.SetOf d es rest count all depths short = set_atom d es (listed es) rest (list_back d es rest all depths short)
call_atom call.Fail d es rest count all depths short = one_call call.Fail fail_atom d es rest count all depths

no_has_call : (f : CallName) (rest : List Lexeme) → comes_call (codes "has") (name_token (call_name f) ∷ rest) ≡ false
unfolding comes_call comes
no_has_call call.Cat rest = refl
no_has_call call.TextOf rest = refl
no_has_call call.Size rest = refl
no_has_call call.SetOf rest = refl
no_has_call call.Fail rest = refl

no_ok_call : (f : CallName) (rest : List Lexeme) → comes_call (codes "ok") (name_token (call_name f) ∷ rest) ≡ false
unfolding comes_call comes
no_ok_call call.Cat rest = refl
no_ok_call call.TextOf rest = refl
no_ok_call call.Size rest = refl
no_ok_call call.SetOf rest = refl
no_ok_call call.Fail rest = refl

pub call_read : (f : CallName) (es : List Expr) (n : ℕ) → AllRead es → length es ≤ list_limit → count_fits f (length es) ≡ true → suc n ≤ nesting_limit → IsRead (expression_written (Expr-F.Call f (map written es))) (suc n) (expr.Call f es)
unfolding comes
call_read f es n all short count within =
    atom_read (name_token (call_name f) ∷ list_tokens (map written es)) (suc (list_depth (map written es))) (suc n) (list_fits (map written es) && count_fits f (length (map written es))) (expr.Call f es)
    record { some = omega arith; fields = omega arith; added = omega arith; within = within; no_close = λ rest. refl; no_has = λ rest call. no_has_call f (list_tokens (map written es) ++ rest); no_ok = λ rest call. no_ok_call f (list_tokens (map written es) ++ rest) }
    (λ rest. (refl, refl))
    (λ d le rest call. call_atom f d es rest count all (part_depths d es le) short)

by_name_atom : (f : ParamCall) (d : ℕ) (p : Bytes) (rest : List Lexeme) → atom (expression_within d) (name_token (param_call_name f) ∷ (in_parens (name_token p ∷ []) ++ rest)) ≡ Some (expr.ByName f p, rest)
unfolding atom named named_as function call_by_name enclosed taken comes comes_kind spelled
by_name_atom by.Get d p rest = refl
by_name_atom by.Value d p rest = refl
by_name_atom by.Values d p rest = refl
by_name_atom by.Failure d p rest = refl

no_has_by_name : (f : ParamCall) (rest : List Lexeme) → comes_call (codes "has") (name_token (param_call_name f) ∷ rest) ≡ false
unfolding comes_call comes
no_has_by_name by.Get rest = refl
no_has_by_name by.Value rest = refl
no_has_by_name by.Values rest = refl
no_has_by_name by.Failure rest = refl

no_ok_by_name : (f : ParamCall) (rest : List Lexeme) → comes_call (codes "ok") (name_token (param_call_name f) ∷ rest) ≡ false
unfolding comes_call comes
no_ok_by_name by.Get rest = refl
no_ok_by_name by.Value rest = refl
no_ok_by_name by.Values rest = refl
no_ok_by_name by.Failure rest = refl

pub by_name_read : (f : ParamCall) (p : Bytes) → IsRead (expression_written (Expr-F.ByName f p)) 1 (expr.ByName f p)
unfolding comes
by_name_read f p =
    atom_read (name_token (param_call_name f) ∷ in_parens (name_token p ∷ [])) 1 1 (is_name p) (expr.ByName f p)
    record { some = omega arith; fields = omega arith; added = omega arith; within = within_one; no_close = λ rest. refl; no_has = λ rest call. no_has_by_name f (in_parens (name_token p ∷ []) ++ rest); no_ok = λ rest call. no_ok_by_name f (in_parens (name_token p ∷ []) ++ rest) }
    (λ rest. (refl, refl))
    (λ d le rest call. by_name_atom f d p rest)

or_else_atom : (d : ℕ) (p : Bytes) (e : Expr) (tokens rest : List Lexeme) → expression_within d (tokens ++ (close_paren ∷ rest)) ≡ Some (e, close_paren ∷ rest) → atom (expression_within d) (name_token (codes "orElse") ∷ (in_parens (name_token p ∷ (comma ∷ tokens)) ++ rest)) ≡ Some (expr.OrElse p e, rest)
unfolding atom named named_as function or_else taken comes comes_kind spelled
or_else_atom d p e tokens rest is = rw (append_assoc tokens (close_paren ∷ []) rest, is) refl

pub or_else_read : (p : Bytes) (s : Written) (n : ℕ) (e : Expr) → IsRead s n e → suc n ≤ nesting_limit → IsRead (expression_written (Expr-F.OrElse p s)) (suc n) (expr.OrElse p e)
unfolding comes comes_call
or_else_read p s n e r within =
    atom_read (name_token (codes "orElse") ∷ in_parens (name_token p ∷ (comma ∷ s.tokens))) (suc s.depth) (suc n) (is_name p && s.fits) (expr.OrElse p e)
    record { some = omega arith; fields = omega arith; added = omega arith; within = within; no_close = λ rest. refl; no_has = λ rest call. refl; no_ok = λ rest call. refl }
    (λ rest. (refl, refl))
    (λ d le rest call. (let below : s.depth ≤ d = omega (arith, le) in or_else_atom d p e s.tokens rest (reads_whole s n e r d below (close_paren ∷ rest) (close_ends rest))))
