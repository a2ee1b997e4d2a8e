-- Expressions are read back from their tokens: each form, from what holds of its parts.
use Rattle.std.proofs.Common.{ℕ, zero, suc, ◌≡◌, ◌+◌, ◌-◌, ◌≤◌, ◌<◌, Bool, true, false, ◌&&◌, List, [], ◌∷◌, ◌++◌, max, Some, refl, sym, ap, ◌∙◌, append_assoc, arith}
use Rattle.std.specs.Prelude.{codes, ℤ}
use Rattle.std.specs.List.{list_all}
use Rattle.dg_lex.specs.declared.token.TokenKind.TheVariants as kind
use Rattle.dg_lex.specs.Bytes.{Bytes, is_plain}
use Rattle.dg_lex.specs.Tokens.{is_name}
use Rattle.dg_lex.specs.Lexemes.{Lexeme}
use Rattle.dg_lex.specs.LexLaws.{is_in_range}
use Rattle.dg_lex.proofs.TextLemmas.{quoted_back}
use Rattle.dg_lex.proofs.DecimalLemmas.{decimals}
use Rattle.dg_decl.specs.declared.expression.Expr.{Expr}
use Rattle.dg_decl.specs.declared.expression.Expr.TheVariants as expr
use Rattle.dg_decl.specs.declared.expression.Cond.{Cond}
use Rattle.dg_decl.specs.declared.expression.Cond.TheVariants as cond
use Rattle.dg_decl.specs.declared.expression.Cond.TheOpen.{Cond-F, Expr-F}
use Rattle.dg_decl.specs.Readers.{Reader, comes, comes_kind, taken, eaten, spelled, text, integer, enclosed}
use Rattle.dg_decl.specs.ExpressionForms.{nesting_limit, text_constant, integer_constant, named, named_as, atom, row_of, fields, prim, added, sum, comes_call, has, is_ok, comparison, condition, choice, whole, expression_within}
use Rattle.dg_decl.specs.Written.{Level, Prim, Chain, Whole, Written, WrittenCondition, atom_of, parens, tight_at, loose_at, tight, loose, in_parens, name_token, word_token, sign_token, text_token, integer_token, expression_written, condition_written, if_tokens}

-- ---- what may not follow

abbrev pub NoSign : Bytes → List Lexeme → Type 0
NoSign s rest = comes kind.Sign s rest ≡ false

-- no `(` comes next, as it would behind the name of a function
abbrev pub NoCall : List Lexeme → Type 0
NoCall rest = NoSign (codes "(") rest

-- nor a field of an expression
pub record Stops (rest : List Lexeme) : Type 0 where
  pub call : NoCall rest
  pub field : NoSign (codes ".") rest

-- nor a further part of a sum
pub record Ends (rest : List Lexeme) : Type 0 where
  pub stops : Stops rest
  pub sum : NoSign (codes "+") rest

-- ---- rows

field_goes : (n : ℕ) (e : Expr) (f : Bytes) (rest : List Lexeme) → fields (suc n) e (sign_token (codes ".") ∷ (name_token f ∷ rest)) ≡ fields n (expr.Field e f) rest
unfolding fields row_of eaten comes spelled
field_goes n e f rest = refl

field_ends : (n : ℕ) (e : Expr) (rest : List Lexeme) → NoSign (codes ".") rest → fields n e rest ≡ Some (e, rest)
unfolding fields row_of eaten
field_ends zero e rest none = refl
field_ends (suc n) e rest none = rw none refl

added_goes : (d n : ℕ) (a b : Expr) (ls rest : List Lexeme) → prim (expression_within d) ls ≡ Some (b, rest) → added (expression_within d) (suc n) a (sign_token (codes "+") ∷ ls) ≡ added (expression_within d) n (expr.Sum a b) rest
unfolding added row_of eaten comes
added_goes d n a b ls rest is = rw is refl

added_ends : (d n : ℕ) (e : Expr) (rest : List Lexeme) → NoSign (codes "+") rest → added (expression_within d) n e rest ≡ Some (e, rest)
unfolding added row_of eaten
added_ends d zero e rest none = refl
added_ends d (suc n) e rest none = rw none refl

-- ---- what is claimed of an expression as it is written, by its level

abbrev pub IsPrim : Written → Expr → Type 0
IsPrim s e = (d : ℕ) → s.depth ≤ suc d → (k : ℕ) → nesting_limit ≡ s.fields + k → (rest : List Lexeme) → NoCall rest → prim (expression_within d) (s.tokens ++ rest) ≡ fields k e rest

abbrev pub IsChain : Written → Expr → Type 0
IsChain s e = (d : ℕ) → s.depth ≤ suc d → (k : ℕ) → nesting_limit ≡ s.added + k → (rest : List Lexeme) → Stops rest → sum (expression_within d) (s.tokens ++ rest) ≡ added (expression_within d) k e rest

abbrev pub IsWhole : Written → Expr → Type 0
IsWhole s e = (d : ℕ) → s.depth ≤ d → (rest : List Lexeme) → Ends rest → expression_within d (s.tokens ++ rest) ≡ Some (e, rest)

abbrev pub AtLevel : Level → Written → Expr → Type 0
AtLevel Prim s e = IsPrim s e
AtLevel Chain s e = IsChain s e
AtLevel Whole s e = IsWhole s e

-- what its first tokens are not, and how long its rows are where it nests so deep
pub record Facts (s : Written) (n : ℕ) : Type 0 where
  pub some : 1 ≤ s.depth
  pub fields : s.fields < n
  pub added : s.added < n
  pub within : n ≤ nesting_limit
  pub no_close : (rest : List Lexeme) → NoSign (codes ")") (s.tokens ++ rest)
  pub no_has : (rest : List Lexeme) → NoCall rest → comes_call (codes "has") (s.tokens ++ rest) ≡ false
  pub no_ok : (rest : List Lexeme) → NoCall rest → comes_call (codes "ok") (s.tokens ++ rest) ≡ false

-- it begins with no `if` and no `await`
abbrev pub NoChoice : Written → Type 0
NoChoice s = (rest : List Lexeme) → (comes kind.Word (codes "if") (s.tokens ++ rest) ≡ false) × (comes kind.Word (codes "await") (s.tokens ++ rest) ≡ false)

pub record IsRead (s : Written) (n : ℕ) (e : Expr) : Type 0 where
  pub facts : Facts s n
  pub choice : (s.level ≡ Whole → ⊥) → NoChoice s
  pub alone : s.level ≡ Prim → s.added ≡ 0
  pub at : AtLevel s.level s e

-- ---- from one level to the next

prim_chain : (s : Written) (n : ℕ) (e : Expr) → Facts s n → s.added ≡ 0 → IsPrim s e → IsChain s e
unfolding sum
prim_chain s n e facts alone is d le k size rest stops =
    let low = facts.fields in
    let high = facts.within in
    let row : nesting_limit ≡ s.fields + (nesting_limit - s.fields) = omega (arith, low, high) in
    let same : k ≡ nesting_limit = omega (arith, size, alone) in
    let read : prim (expression_within d) (s.tokens ++ rest) ≡ Some (e, rest) = is d le (nesting_limit - s.fields) row rest stops.call ∙ field_ends (nesting_limit - s.fields) e rest stops.field in
    rw (read, same) refl

chain_whole : (s : Written) (n : ℕ) (e : Expr) → Facts s n → NoChoice s → IsChain s e → IsWhole s e
unfolding expression_within whole
chain_whole s n e facts plain is zero le rest ends = (let some = facts.some in absurd (omega (arith, some, le)))
chain_whole s n e facts plain is (suc d) le rest ends =
    let low = facts.added in
    let high = facts.within in
    let row : nesting_limit ≡ s.added + (nesting_limit - s.added) = omega (arith, low, high) in
    rw (plain rest).0 (is d le (nesting_limit - s.added) row rest ends.stops ∙ added_ends d (nesting_limit - s.added) e rest ends.sum)

whole_at : (s : Written) (n : ℕ) (e : Expr) (l : Level) → s.level ≡ l → IsRead s n e → AtLevel l s e → IsWhole s e
whole_at s n e Prim is r at = chain_whole s n e r.facts (r.choice (λ same. absurd (let c : Prim ≡ Whole = sym is ∙ same in cc))) (prim_chain s n e r.facts (r.alone is) at)
whole_at s n e Chain is r at = chain_whole s n e r.facts (r.choice (λ same. absurd (let c : Chain ≡ Whole = sym is ∙ same in cc))) at
whole_at s n e Whole is r at = at

-- each expression is read as a whole one
pub reads_whole : (s : Written) (n : ℕ) (e : Expr) → IsRead s n e → IsWhole s e
reads_whole s n e r = whole_at s n e s.level refl r r.at

-- ---- parentheses

abbrev close_paren : Lexeme
close_paren = sign_token (codes ")")

pub close_ends : (rest : List Lexeme) → Ends (close_paren ∷ rest)
unfolding comes
close_ends rest = record { stops = record { call = refl; field = refl }; sum = refl }

pub enclosed_back : (r : Reader Expr) (e : Expr) (tokens rest : List Lexeme) → r (tokens ++ (close_paren ∷ rest)) ≡ Some (e, close_paren ∷ rest) → enclosed r (in_parens tokens ++ rest) ≡ Some (e, rest)
unfolding enclosed taken comes
enclosed_back r e tokens rest is = rw (append_assoc tokens (close_paren ∷ []) rest, is) refl

paren_atom : (d : ℕ) (e : Expr) (tokens rest : List Lexeme) → enclosed (expression_within d) (in_parens tokens ++ rest) ≡ Some (e, rest) → atom (expression_within d) (in_parens tokens ++ rest) ≡ Some (e, rest)
unfolding atom comes comes_kind
paren_atom d e tokens rest is = is

-- an atom is read, and then the fields behind it
atom_prim : (d : ℕ) (e : Expr) (ls rest : List Lexeme) (k : ℕ) → nesting_limit ≡ 0 + k → atom (expression_within d) ls ≡ Some (e, rest) → prim (expression_within d) ls ≡ fields k e rest
unfolding prim
atom_prim d e ls rest k size is =
    let same : k ≡ nesting_limit = omega (arith, size) in
    rw (is, same) refl

parens_prim : (s : Written) (n : ℕ) (e : Expr) → IsRead s n e → IsPrim (parens s) e
parens_prim s n e r d le k size rest call =
    let below : s.depth ≤ d = omega (arith, le) in
    atom_prim d e (in_parens s.tokens ++ rest) rest k size
    (paren_atom d e s.tokens rest (enclosed_back (expression_within d) e s.tokens rest (reads_whole s n e r d below (close_paren ∷ rest) (close_ends rest))))

parens_facts : (s : Written) (n : ℕ) → Facts s n → Facts (parens s) n
unfolding comes comes_call
parens_facts s n facts = (let low = facts.fields in record {
  some = omega arith;
  fields = omega (arith, low);
  added = omega (arith, low);
  within = facts.within;
  no_close = λ rest. refl;
  no_has = λ rest call. refl;
  no_ok = λ rest call. refl;
})

parens_plain : (s : Written) → NoChoice (parens s)
unfolding comes
parens_plain s rest = (refl, refl)

-- an expression that is read as a part that needs no parentheses
pub record IsTight (s : Written) (n : ℕ) (e : Expr) : Type 0 where
  pub facts : Facts s n
  pub choice : NoChoice s
  pub alone : s.added ≡ 0
  pub prim : IsPrim s e

parens_tight : (s : Written) (n : ℕ) (e : Expr) → IsRead s n e → IsTight (parens s) n e
parens_tight s n e r = record { facts = parens_facts s n r.facts; choice = parens_plain s; alone = refl; prim = parens_prim s n e r }

tight_level : (s : Written) (n : ℕ) (e : Expr) (l : Level) → s.level ≡ l → IsRead s n e → AtLevel l s e → IsTight (tight_at l s) n e
tight_level s n e Prim is r at = record { facts = r.facts; choice = r.choice (λ same. absurd (let c : Prim ≡ Whole = sym is ∙ same in cc)); alone = r.alone is; prim = at }
tight_level s n e Chain is r at = parens_tight s n e r
tight_level s n e Whole is r at = parens_tight s n e r

pub reads_tight : (s : Written) (n : ℕ) (e : Expr) → IsRead s n e → IsTight (tight s) n e
reads_tight s n e r = tight_level s n e s.level refl r r.at

-- an expression that is read as a sum
pub record IsLoose (s : Written) (n : ℕ) (e : Expr) : Type 0 where
  pub facts : Facts s n
  pub choice : NoChoice s
  pub chain : IsChain s e

parens_loose : (s : Written) (n : ℕ) (e : Expr) → IsRead s n e → IsLoose (parens s) n e
parens_loose s n e r = record { facts = parens_facts s n r.facts; choice = parens_plain s; chain = prim_chain (parens s) n e (parens_facts s n r.facts) refl (parens_prim s n e r) }

loose_level : (s : Written) (n : ℕ) (e : Expr) (l : Level) → s.level ≡ l → IsRead s n e → AtLevel l s e → IsLoose (loose_at l s) n e
loose_level s n e Prim is r at = record { facts = r.facts; choice = r.choice (λ same. absurd (let c : Prim ≡ Whole = sym is ∙ same in cc)); chain = prim_chain s n e r.facts (r.alone is) at }
loose_level s n e Chain is r at = record { facts = r.facts; choice = r.choice (λ same. absurd (let c : Chain ≡ Whole = sym is ∙ same in cc)); chain = at }
loose_level s n e Whole is r at = parens_loose s n e r

pub reads_loose : (s : Written) (n : ℕ) (e : Expr) → IsRead s n e → IsLoose (loose s) n e
reads_loose s n e r = loose_level s n e s.level refl r r.at

-- ---- leaves

-- an atom of these tokens, with no part
leaf_read : (s : Written) (n : ℕ) (e : Expr) → s.level ≡ Prim → s.fields ≡ 0 → s.added ≡ 0 → Facts s n → NoChoice s → IsPrim s e → AtLevel s.level s e
leaf_read s n e level f a facts plain is = rw level is

pub atom_read : (tokens : List Lexeme) (depth n : ℕ) (fits : Bool) (e : Expr) → Facts (atom_of tokens depth fits) n → NoChoice (atom_of tokens depth fits) → ((d : ℕ) → depth ≤ suc d → (rest : List Lexeme) → NoCall rest → atom (expression_within d) (tokens ++ rest) ≡ Some (e, rest)) → IsRead (atom_of tokens depth fits) n e
atom_read tokens depth n fits e facts plain is = record {
  facts = facts;
  choice = λ level. plain;
  alone = λ level. refl;
  at = λ d le k size rest call. atom_prim d e (tokens ++ rest) rest k size (is d le rest call);
}

text_atom : (d : ℕ) (t : Bytes) (rest : List Lexeme) → atom (expression_within d) (text_token t ∷ rest) ≡ Some (expr.Text t, rest)
unfolding atom comes_kind text_constant text spelled
text_atom d t rest = ap (λ (z : Bytes). Some (expr.Text z, rest)) (quoted_back.value t)

integer_atom : (d : ℕ) (n : ℤ) (rest : List Lexeme) → is_in_range n ≡ true → atom (expression_within d) (integer_token n ∷ rest) ≡ Some (expr.Int n, rest)
unfolding atom comes_kind integer_constant integer spelled
integer_atom d n rest within = rw (decimals.token n within) (ap (λ (z : ℤ). Some (expr.Int z, rest)) (decimals.value n within))

param_atom : (d : ℕ) (p : Bytes) (rest : List Lexeme) → NoCall rest → atom (expression_within d) (name_token p ∷ rest) ≡ Some (expr.Param p, rest)
unfolding atom comes_kind comes named named_as spelled
param_atom d p rest call = rw call refl

pub within_one : 1 ≤ nesting_limit
within_one = omega arith

pub text_read : (t : Bytes) → IsRead (expression_written (Expr-F.Text t)) 1 (expr.Text t)
unfolding comes comes_call
text_read t =
    atom_read (text_token t ∷ []) 1 1 (list_all is_plain t) (expr.Text t)
    record { some = omega arith; fields = omega arith; added = omega arith; within = within_one; no_close = λ rest. refl; no_has = λ rest call. refl; no_ok = λ rest call. refl }
    (λ rest. (refl, refl)) (λ d le rest call. text_atom d t rest)

pub integer_read : (n : ℤ) → is_in_range n ≡ true → IsRead (expression_written (Expr-F.Int n)) 1 (expr.Int n)
unfolding comes comes_call
integer_read n within =
    atom_read (integer_token n ∷ []) 1 1 (is_in_range n) (expr.Int n)
    record { some = omega arith; fields = omega arith; added = omega arith; within = within_one; no_close = λ rest. refl; no_has = λ rest call. refl; no_ok = λ rest call. refl }
    (λ rest. (refl, refl)) (λ d le rest call. integer_atom d n rest within)

no_named_call : (w p : Bytes) (rest : List Lexeme) → NoCall rest → comes_call w (name_token p ∷ rest) ≡ false
unfolding comes_call
no_named_call w p rest call = rw call (and_false (comes kind.Name w (name_token p ∷ rest)))
  where
    and_false : (v : Bool) → (v && false) ≡ false
    and_false true = refl
    and_false false = refl

pub param_read : (p : Bytes) → IsRead (expression_written (Expr-F.Param p)) 1 (expr.Param p)
unfolding comes
param_read p =
    atom_read (name_token p ∷ []) 1 1 (is_name p) (expr.Param p)
    record { some = omega arith; fields = omega arith; added = omega arith; within = within_one; no_close = λ rest. refl; no_has = λ rest call. no_named_call (codes "has") p rest call; no_ok = λ rest call. no_named_call (codes "ok") p rest call }
    (λ rest. (refl, refl)) (λ d le rest call. param_atom d p rest call)

-- ---- fields and sums

dot_no_call : (rest : List Lexeme) → NoCall (sign_token (codes ".") ∷ rest)
unfolding comes
dot_no_call rest = refl

plus_stops : (rest : List Lexeme) → Stops (sign_token (codes "+") ∷ rest)
unfolding comes
plus_stops rest = record { call = refl; field = refl }

-- what holds of the first tokens holds of them before others
first_close : (s : List Lexeme) (more rest : List Lexeme) → NoSign (codes ")") (s ++ (more ++ rest)) → NoSign (codes ")") ((s ++ more) ++ rest)
first_close s more rest is = rw (append_assoc s more rest) is

first_call : (w : Bytes) (s more rest : List Lexeme) → comes_call w (s ++ (more ++ rest)) ≡ false → comes_call w ((s ++ more) ++ rest) ≡ false
first_call w s more rest is = rw (append_assoc s more rest) is

field_prim : (t : Written) (n : ℕ) (e : Expr) (f : Bytes) (fits : Bool) → IsTight t n e → IsPrim (record { level = Prim; tokens = t.tokens ++ (sign_token (codes ".") ∷ (name_token f ∷ [])); depth = t.depth; fields = suc t.fields; added = 0; fits = fits }) (expr.Field e f)
field_prim t n e f fits r d le k size rest call =
    let row : nesting_limit ≡ t.fields + suc k = omega (arith, size) in
    rw (append_assoc t.tokens (sign_token (codes ".") ∷ (name_token f ∷ [])) rest)
    (r.prim d le (suc k) row (sign_token (codes ".") ∷ (name_token f ∷ rest)) (dot_no_call (name_token f ∷ rest)) ∙ field_goes k e f rest)

pub field_read : (s : Written) (n : ℕ) (e : Expr) (f : Bytes) → IsRead s n e → suc n ≤ nesting_limit → IsRead (expression_written (Expr-F.Field s f)) (suc n) (expr.Field e f)
field_read s n e f r within =
    let t = reads_tight s n e r in
    let low = t.facts.fields in
    let more : List Lexeme = sign_token (codes ".") ∷ (name_token f ∷ []) in
    record {
      facts = record {
        some = t.facts.some;
        fields = omega (arith, low);
        added = omega arith;
        within = within;
        no_close = λ rest. first_close (tight s).tokens more rest (t.facts.no_close (more ++ rest));
        no_has = λ rest call. first_call (codes "has") (tight s).tokens more rest (t.facts.no_has (more ++ rest) (dot_no_call (name_token f ∷ rest)));
        no_ok = λ rest call. first_call (codes "ok") (tight s).tokens more rest (t.facts.no_ok (more ++ rest) (dot_no_call (name_token f ∷ rest)));
      };
      choice = λ level rest. rw (append_assoc (tight s).tokens more rest) (t.choice (more ++ rest));
      alone = λ level. refl;
      at = field_prim (tight s) n e f (s.fits && is_name f) t;
    }

sum_chain : (x y : Written) (m n : ℕ) (a b : Expr) (fits : Bool) → IsLoose x m a → IsTight y n b → IsChain (record { level = Chain; tokens = x.tokens ++ (sign_token (codes "+") ∷ y.tokens); depth = max x.depth y.depth; fields = 0; added = suc x.added; fits = fits }) (expr.Sum a b)
sum_chain x y m n a b fits rx ry d le k size rest stops =
    let row : nesting_limit ≡ x.added + suc k = omega (arith, size) in
    let dx : x.depth ≤ suc d = omega (arith, le) in
    let dy : y.depth ≤ suc d = omega (arith, le) in
    let low = ry.facts.fields in
    let high = ry.facts.within in
    let ends : nesting_limit ≡ y.fields + (nesting_limit - y.fields) = omega (arith, low, high) in
    let right : prim (expression_within d) (y.tokens ++ rest) ≡ Some (b, rest) = ry.prim d dy (nesting_limit - y.fields) ends rest stops.call ∙ field_ends (nesting_limit - y.fields) b rest stops.field in
    rw (append_assoc x.tokens (sign_token (codes "+") ∷ y.tokens) rest)
    (rx.chain d dx (suc k) row (sign_token (codes "+") ∷ (y.tokens ++ rest)) (plus_stops (y.tokens ++ rest)) ∙ added_goes d k a b (y.tokens ++ rest) rest right)

plus_no_call : (rest : List Lexeme) → NoCall (sign_token (codes "+") ∷ rest)
unfolding comes
plus_no_call rest = refl

pub sum_read : (s t : Written) (m n : ℕ) (a b : Expr) → IsRead s m a → IsRead t n b → suc (max m n) ≤ nesting_limit → IsRead (expression_written (Expr-F.Sum s t)) (suc (max m n)) (expr.Sum a b)
sum_read s t m n a b rs rt within =
    let x = reads_loose s m a rs in
    let y = reads_tight t n b rt in
    let some = x.facts.some in
    let low = x.facts.added in
    let more : List Lexeme = sign_token (codes "+") ∷ (tight t).tokens in
    record {
      facts = record {
        some = omega (arith, some);
        fields = omega arith;
        added = omega (arith, low);
        within = within;
        no_close = λ rest. first_close (loose s).tokens more rest (x.facts.no_close (more ++ rest));
        no_has = λ rest call. first_call (codes "has") (loose s).tokens more rest (x.facts.no_has (more ++ rest) (plus_no_call ((tight t).tokens ++ rest)));
        no_ok = λ rest call. first_call (codes "ok") (loose s).tokens more rest (x.facts.no_ok (more ++ rest) (plus_no_call ((tight t).tokens ++ rest)));
      };
      choice = λ level rest. rw (append_assoc (loose s).tokens more rest) (x.choice (more ++ rest));
      alone = λ level. absurd (let c : Chain ≡ Prim = level in cc);
      at = sum_chain (loose s) (tight t) m n a b (s.fits && t.fits) x y;
    }

-- ---- conditions and choices

-- a condition is read back wherever it may nest so deep
abbrev pub IsConditionRead : WrittenCondition → Cond → Type 0
IsConditionRead w c = (d : ℕ) → w.depth ≤ suc d → (rest : List Lexeme) → Ends rest → condition (expression_within d) (w.tokens ++ rest) ≡ Some (c, rest)

pub chain_sum : (s : Written) (n : ℕ) (e : Expr) → IsLoose s n e → (d : ℕ) → s.depth ≤ suc d → (rest : List Lexeme) → Ends rest → sum (expression_within d) (s.tokens ++ rest) ≡ Some (e, rest)
chain_sum s n e r d le rest ends =
    let low = r.facts.added in
    let high = r.facts.within in
    let row : nesting_limit ≡ s.added + (nesting_limit - s.added) = omega (arith, low, high) in
    r.chain d le (nesting_limit - s.added) row rest ends.stops ∙ added_ends d (nesting_limit - s.added) e rest ends.sum

equal_ends : (rest : List Lexeme) → Ends (sign_token (codes "==") ∷ rest)
unfolding comes
equal_ends rest = record { stops = record { call = refl; field = refl }; sum = refl }

less_ends : (rest : List Lexeme) → Ends (sign_token (codes "<") ∷ rest)
unfolding comes
less_ends rest = record { stops = record { call = refl; field = refl }; sum = refl }

comparison_first : (d : ℕ) (ls : List Lexeme) → comes_call (codes "has") ls ≡ false → comes_call (codes "ok") ls ≡ false → condition (expression_within d) ls ≡ comparison (expression_within d) ls
unfolding condition
comparison_first d ls has ok = rw (has, ok) refl

equal_read_of : (d : ℕ) (a b : Expr) (xs ys rest : List Lexeme) → sum (expression_within d) (xs ++ (sign_token (codes "==") ∷ (ys ++ rest))) ≡ Some (a, sign_token (codes "==") ∷ (ys ++ rest)) → sum (expression_within d) (ys ++ rest) ≡ Some (b, rest) → comparison (expression_within d) (xs ++ (sign_token (codes "==") ∷ (ys ++ rest))) ≡ Some (cond.Equal a b, rest)
unfolding comparison eaten comes
equal_read_of d a b xs ys rest left right = rw (left, right) refl

less_read_of : (d : ℕ) (a b : Expr) (xs ys rest : List Lexeme) → sum (expression_within d) (xs ++ (sign_token (codes "<") ∷ (ys ++ rest))) ≡ Some (a, sign_token (codes "<") ∷ (ys ++ rest)) → sum (expression_within d) (ys ++ rest) ≡ Some (b, rest) → comparison (expression_within d) (xs ++ (sign_token (codes "<") ∷ (ys ++ rest))) ≡ Some (cond.Less a b, rest)
unfolding comparison eaten taken comes
less_read_of d a b xs ys rest left right = rw (left, right) refl

pub equal_read : (s t : Written) (m n : ℕ) (a b : Expr) → IsRead s m a → IsRead t n b → IsConditionRead (condition_written (Cond-F.Equal s t)) (cond.Equal a b)
equal_read s t m n a b rs rt d le rest ends =
    let x = reads_loose s m a rs in
    let y = reads_loose t n b rt in
    let xs = (loose s).tokens in
    let ys = (loose t).tokens in
    let sign = sign_token (codes "==") in
    let dx : (loose s).depth ≤ suc d = omega (arith, le) in
    let dy : (loose t).depth ≤ suc d = omega (arith, le) in
    rw (append_assoc xs (sign ∷ ys) rest)
    (comparison_first d (xs ++ (sign ∷ (ys ++ rest))) (x.facts.no_has (sign ∷ (ys ++ rest)) (equal_ends (ys ++ rest)).stops.call) (x.facts.no_ok (sign ∷ (ys ++ rest)) (equal_ends (ys ++ rest)).stops.call)
    ∙ equal_read_of d a b xs ys rest (chain_sum (loose s) m a x d dx (sign ∷ (ys ++ rest)) (equal_ends (ys ++ rest))) (chain_sum (loose t) n b y d dy rest ends))

pub less_read : (s t : Written) (m n : ℕ) (a b : Expr) → IsRead s m a → IsRead t n b → IsConditionRead (condition_written (Cond-F.Less s t)) (cond.Less a b)
less_read s t m n a b rs rt d le rest ends =
    let x = reads_loose s m a rs in
    let y = reads_loose t n b rt in
    let xs = (loose s).tokens in
    let ys = (loose t).tokens in
    let sign = sign_token (codes "<") in
    let dx : (loose s).depth ≤ suc d = omega (arith, le) in
    let dy : (loose t).depth ≤ suc d = omega (arith, le) in
    rw (append_assoc xs (sign ∷ ys) rest)
    (comparison_first d (xs ++ (sign ∷ (ys ++ rest))) (x.facts.no_has (sign ∷ (ys ++ rest)) (less_ends (ys ++ rest)).stops.call) (x.facts.no_ok (sign ∷ (ys ++ rest)) (less_ends (ys ++ rest)).stops.call)
    ∙ less_read_of d a b xs ys rest (chain_sum (loose s) m a x d dx (sign ∷ (ys ++ rest)) (less_ends (ys ++ rest))) (chain_sum (loose t) n b y d dy rest ends))

pub has_read : (p : Bytes) → IsConditionRead (condition_written (Cond-F.Has p)) (cond.Has p)
unfolding condition comes_call comes has taken enclosed spelled
has_read p d le rest ends = refl

pub is_ok_read : (p : Bytes) → IsConditionRead (condition_written (Cond-F.IsOk p)) (cond.IsOk p)
unfolding condition comes_call comes is_ok taken enclosed spelled
is_ok_read p d le rest ends = refl

pub then_ends : (rest : List Lexeme) → Ends (word_token (codes "then") ∷ rest)
unfolding comes
then_ends rest = record { stops = record { call = refl; field = refl }; sum = refl }

pub else_ends : (rest : List Lexeme) → Ends (word_token (codes "else") ∷ rest)
unfolding comes
else_ends rest = record { stops = record { call = refl; field = refl }; sum = refl }

choice_of : (d : ℕ) (c : Cond) (a b : Expr) (cs xs ys rest : List Lexeme) → condition (expression_within d) (cs ++ (word_token (codes "then") ∷ (xs ++ (word_token (codes "else") ∷ (ys ++ rest))))) ≡ Some (c, word_token (codes "then") ∷ (xs ++ (word_token (codes "else") ∷ (ys ++ rest)))) → expression_within d (xs ++ (word_token (codes "else") ∷ (ys ++ rest))) ≡ Some (a, word_token (codes "else") ∷ (ys ++ rest)) → expression_within d (ys ++ rest) ≡ Some (b, rest) → expression_within (suc d) (word_token (codes "if") ∷ (cs ++ (word_token (codes "then") ∷ (xs ++ (word_token (codes "else") ∷ (ys ++ rest)))))) ≡ Some (expr.If c a b, rest)
unfolding expression_within whole choice taken comes
choice_of d c a b cs xs ys rest first second third = rw (first, second, third) refl

pub if_apart : (w : WrittenCondition) (xs ys rest : List Lexeme) → if_tokens w xs ys ++ rest ≡ word_token (codes "if") ∷ (w.tokens ++ (word_token (codes "then") ∷ (xs ++ (word_token (codes "else") ∷ (ys ++ rest)))))
if_apart w xs ys rest = rw (append_assoc w.tokens (word_token (codes "then") ∷ (xs ++ (word_token (codes "else") ∷ ys))) rest, append_assoc xs (word_token (codes "else") ∷ ys) rest) refl

if_whole : (w : WrittenCondition) (s t : Written) (m n : ℕ) (c : Cond) (a b : Expr) → IsConditionRead w c → IsRead s m a → IsRead t n b → (d : ℕ) → suc (max w.depth (max s.depth t.depth)) ≤ d → (rest : List Lexeme) → Ends rest → expression_within d (if_tokens w s.tokens t.tokens ++ rest) ≡ Some (expr.If c a b, rest)
if_whole w s t m n c a b rc rs rt zero le rest ends = absurd (omega (arith, le))
if_whole w s t m n c a b rc rs rt (suc d) le rest ends =
    let dc : w.depth ≤ suc d = omega (arith, le) in
    let dx : s.depth ≤ d = omega (arith, le) in
    let dy : t.depth ≤ d = omega (arith, le) in
    let later : List Lexeme = word_token (codes "else") ∷ (t.tokens ++ rest) in
    rw (if_apart w s.tokens t.tokens rest)
    (choice_of d c a b w.tokens s.tokens t.tokens rest
    (rc d dc (word_token (codes "then") ∷ (s.tokens ++ later)) (then_ends (s.tokens ++ later)))
    (reads_whole s m a rs d dx later (else_ends (t.tokens ++ rest)))
    (reads_whole t n b rt d dy rest ends))

pub if_read : (w : WrittenCondition) (s t : Written) (k m n : ℕ) (c : Cond) (a b : Expr) → IsConditionRead w c → IsRead s m a → IsRead t n b → suc (max k (max m n)) ≤ nesting_limit → IsRead (expression_written (Expr-F.If w s t)) (suc (max k (max m n))) (expr.If c a b)
unfolding comes comes_call
if_read w s t k m n c a b rc rs rt within = record {
  facts = record {
    some = omega arith;
    fields = omega arith;
    added = omega arith;
    within = within;
    no_close = λ rest. refl;
    no_has = λ rest call. refl;
    no_ok = λ rest call. refl;
  };
  choice = λ level. absurd (level refl);
  alone = λ level. refl;
  at = if_whole w s t m n c a b rc rs rt;
}
