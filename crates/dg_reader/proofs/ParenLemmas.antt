-- An operand in parentheses is read from the innermost of them outwards.
use Rattle.std.proofs.Common.{◌≡◌, ℕ, zero, suc, ◌+◌, ◌-◌, ◌<◌, ◌≤◌, Bool, true, false, List, []}
use Rattle.std.proofs.Common.{◌∷◌, drop, length, Option, Some, None, Result, Ok, Err, refl, sym, ap}
use Rattle.std.proofs.Common.{subst, ◌∙◌, arith}
use Rattle.std.specs.Prelude.{if◌then◌else◌, codes}
use Rattle.std.specs.List.{prefix_len}
use Rattle.dg_lex.specs.declared.token.TokenKind.TheVariants as kind
use Rattle.dg_lex.specs.Lexemes.{Lexeme}
use Rattle.dg_decl.specs.declared.expression.Expr.{Expr}
use Rattle.dg_decl.specs.Readers.{Reader, then_reads, pure, comes, is_spelled, taken, enclosed}
use Rattle.dg_decl.specs.ExpressionForms.{fields, nesting_limit}
use Rattle.dg_reader.specs.declared.fault.FormFault.{FormFault}
use Rattle.dg_reader.specs.declared.fault.FormFault.TheVariants as fault
use Rattle.dg_reader.specs.Gives.{Gives}
use Rattle.dg_reader.specs.Budgets.{Family, plain_atom, plain_prim, atom_to, prim_to, added_to}
use Rattle.dg_reader.specs.Budgets.{sum_to, closing, closed_to, around_to, whole_to, expression_to}
use Rattle.dg_reader.proofs.BudgetLemmas.{no_word}

abbrev pub is_open : Lexeme → Bool
is_open l = is_spelled kind.Sign (codes "(") l

abbrev pub Read : Type 0
Read = Option (Expr × List Lexeme)

-- so many `(` come next at least
abbrev pub Opens : ℕ → List Lexeme → Type 0
Opens zero ls = Unit {0}
Opens (suc n) [] = ⊥
Opens (suc n) (l ∷ ls) = (is_open l ≡ true) × Opens n ls

first_open : (n : ℕ) (l : Lexeme) (ls : List Lexeme) → suc n ≤ prefix_len is_open (l ∷ ls)
    → is_open l ≡ true
first_open n l ls le = from (is_open l) refl
  where
    from : (b : Bool) → is_open l ≡ b → is_open l ≡ true
    from true is = is
    from false is = absurd (let more : suc n ≤ 0 = rw is at le in omega (arith, more))

fewer : (n : ℕ) (l : Lexeme) (ls : List Lexeme) → is_open l ≡ true
    → suc n ≤ prefix_len is_open (l ∷ ls) → n ≤ prefix_len is_open ls
fewer n l ls is le = (let more : suc n ≤ 1 + prefix_len is_open ls = rw is at le in omega (
  arith,
  more,
))

pub opens_of : (n : ℕ) (ls : List Lexeme) → n ≤ prefix_len is_open ls → Opens n ls
opens_of zero ls le = tt
opens_of (suc n) [] le = absurd (omega arith)
opens_of (suc n) (l ∷ ls) le =
    let first = first_open n l ls le in
    (first, opens_of n ls (fewer n l ls first le))

first_opens : (n : ℕ) (ls : List Lexeme) → Opens (suc n) ls → comes kind.Sign (codes "(") ls ≡ true
unfolding comes
first_opens n [] opens = absurd opens
first_opens n (l ∷ ls) opens = opens.0

later_open : (n : ℕ) (ls : List Lexeme) → Opens (suc n) ls → Opens n (drop 1 ls)
later_open n [] opens = absurd opens
later_open n (l ∷ ls) opens = opens.1

pub none_opens : (ls : List Lexeme) → prefix_len is_open ls ≡ 0
    → comes kind.Sign (codes "(") ls ≡ false
unfolding comes
none_opens [] none = refl
none_opens (l ∷ ls) none = from (is_open l) refl
  where
    from : (b : Bool) → is_open l ≡ b → is_open l ≡ false
    from false is = is
    from true is = absurd (let more : 1 + prefix_len is_open ls ≡ 0 = rw is at none in omega (
      arith,
      more,
    ))

-- ---- one operand

chained : {A B C : Type 0} (read : Option (A × List Lexeme)) (f : A → Reader B) (g : B → Reader C)
    → then_reads (then_reads read f) g ≡ then_reads read (λ x ls. then_reads (f x ls) g)
chained None f g = refl
chained (Some p) f g = refl

-- without parentheses
pub no_parens : (inner : Family) (b : ℕ) (ls : List Lexeme) → prefix_len is_open ls ≡ 0
    → prim_to inner b ls ≡ plain_prim (inner (b - 1)) ls
unfolding prim_to atom_to plain_prim
no_parens inner b ls none = rw (none_opens ls none) refl

alike : {A B : Type 0} (read : Option (A × List Lexeme)) (f g : A → Reader B)
    → ((x : A) (ls : List Lexeme) → f x ls ≡ g x ls) → then_reads read f ≡ then_reads read g
alike None f g same = refl
alike (Some p) f g same = same p.0 p.1

-- the `)` behind an expression
abbrev close_paren : Expr → Reader Expr
close_paren x = λ ls. then_reads (taken kind.Sign (codes ")") ls) (λ u. pure x)

parens_read : (read : Read) → then_reads (then_reads read close_paren) (fields nesting_limit) ≡
    then_reads read (λ x ls. then_reads (taken kind.Sign (codes ")") ls)
    (λ u. fields nesting_limit x))
parens_read read =
    chained read close_paren (fields nesting_limit)
    ∙ alike read (λ x ls. then_reads (close_paren x ls) (fields nesting_limit))
    (λ x ls. then_reads (taken kind.Sign (codes ")") ls) (λ u. fields nesting_limit x))
    (λ x ls. chained (taken kind.Sign (codes ")") ls) (λ u. pure x) (fields nesting_limit))

opened : (part : Reader Expr) (ls : List Lexeme) → comes kind.Sign (codes "(") ls ≡ true
    → enclosed part ls ≡ then_reads (part (drop 1 ls)) close_paren
unfolding enclosed taken
opened part ls some = rw some refl

pub plain_prim_gives : (inner : Family) (b less : ℕ) (ls left : List Lexeme) (answer : Result Expr
    FormFault) → prefix_len is_open ls ≡ 0 → less ≡ b - 1
    → Gives (plain_prim (inner less) ls) answer left → Gives (prim_to inner b ls) answer left
plain_prim_gives inner b less ls left answer none is gives =
    subst (λ (read : Read). Gives read answer left) (ap (λ (k : ℕ). plain_prim (inner k) ls) is
    ∙ sym (no_parens inner b ls none)) gives

-- in parentheses
in_parens : (inner : Family) (b : ℕ) (ls : List Lexeme) → comes kind.Sign (codes "(") ls ≡ true
    → prim_to inner b ls ≡ closed_to inner b (drop 1 ls)
unfolding prim_to atom_to closed_to closing
in_parens inner b ls some = rw (some, opened (inner b) ls some) (parens_read (inner b (drop 1 ls)))

-- an expression that begins with `(` is a sum
closed_sum : (depth b : ℕ) (ls : List Lexeme) → comes kind.Sign (codes "(") ls ≡ true
    → closed_to (expression_to (suc depth)) (suc b) ls ≡ then_reads (prim_to (expression_to depth)
    (suc b) ls) (around_to (expression_to depth) (suc b))
unfolding closed_to expression_to whole_to sum_to around_to closing
closed_sum depth b ls first = rw (no_word (codes "(") (codes "if") ls first) (chained (prim_to
    (expression_to depth) (suc b) ls) _ _)

-- where two `(` come next, the operand is another with something around it
in_two_parens : (depth b : ℕ) (ls : List Lexeme) → 0 < b → comes kind.Sign (codes "(") ls ≡ true
    → comes kind.Sign (codes "(") (drop 1 ls) ≡ true
    → prim_to (expression_to (suc depth)) b ls ≡ then_reads (prim_to (expression_to depth) b (drop 1
    ls)) (around_to (expression_to depth) b)
in_two_parens depth zero ls some first second = absurd (omega arith)
in_two_parens depth (suc b) ls some first second = in_parens (expression_to (suc depth)) (suc b) ls
    first ∙ closed_sum depth b (drop 1 ls) second

two_open : (n : ℕ) (ls : List Lexeme) → Opens (suc (suc n)) ls
    → (comes kind.Sign (codes "(") ls ≡ true) × (comes kind.Sign (codes "(") (drop 1 ls) ≡ true)
two_open n ls opens = (
  first_opens (suc n) ls opens,
  first_opens n (drop 1 ls) (later_open (suc n)
      ls opens),
)

-- the operand behind n of these `(`, where another stands in front of it, and what stands around it
one_outwards : (depth b n : ℕ) (ls : List Lexeme) → 0 < b → Opens (suc (suc n)) ls
    → prim_to (expression_to (suc depth)) b (drop n ls) ≡ then_reads (prim_to (expression_to depth)
    b (drop (suc n) ls)) (around_to (expression_to depth) b)
one_outwards depth b zero ls some opens = (let two = two_open zero ls opens in in_two_parens depth b
    ls some two.0 two.1)
one_outwards depth b (suc n) [] some opens = absurd opens
one_outwards depth b (suc n) (l ∷ ls) some opens = one_outwards depth b n ls some opens.1

-- where nothing is read behind n of them, nothing is read
none_outwards : (depth b n : ℕ) (ls : List Lexeme) → 0 < b → Opens (suc n) ls
    → prim_to (expression_to depth) b (drop n ls) ≡ None
    → prim_to (expression_to (depth + n)) b ls ≡ None
none_outwards depth b zero ls some opens none = (let same : depth + 0 ≡ depth = omega arith in rw
    same none)
none_outwards depth b (suc n) [] some opens none = absurd opens
none_outwards depth b (suc n) (l ∷ ls) some opens none =
    let deeper : prim_to (expression_to (depth + n)) b ls ≡ None = none_outwards depth b n ls some
    opens.1 none in
    let one : depth + suc n ≡ suc (depth + n) = omega arith in
    let two = two_open n (l ∷ ls) opens in
    rw one (in_two_parens (depth + n) b (l ∷ ls) some two.0 two.1 ∙ rw deeper refl)

innermost : (inner : Family) (b n : ℕ) (ls : List Lexeme) → Opens (suc n) ls
    → prim_to inner b (drop n ls) ≡ closed_to inner b (drop (suc n) ls)
innermost inner b zero ls opens = in_parens inner b ls (first_opens zero ls opens)
innermost inner b (suc n) [] opens = absurd opens
innermost inner b (suc n) (l ∷ ls) opens = innermost inner b n ls opens.1

-- ---- the turns of the loop

-- the operand at this level was read, behind the `(` of the levels above it
pub record IsAt (depth b level : ℕ) (ls : List Lexeme) (e : Expr) (left : List Lexeme) : Type 0
  where
    pub read : prim_to (expression_to level) b (drop (depth - level) ls) ≡ Some (e, left)
    pub within : level ≤ depth

none_at : (depth b level opens : ℕ) (ls : List Lexeme) → 0 < b → opens ≡ prefix_len is_open ls
    → depth < level + opens → level ≤ depth
    → prim_to (expression_to level) b (drop (depth - level) ls) ≡ None
    → prim_to (expression_to depth) b ls ≡ None
none_at depth b level opens ls some count few le none =
    let sum : level + (depth - level) ≡ depth = omega arith in
    let so_many : suc (depth - level) ≤ prefix_len is_open ls = omega (arith, count, few) in
    subst (λ (d : ℕ). prim_to (expression_to d) b ls ≡ None) sum (none_outwards level b (depth -
    level) ls some (opens_of (suc (depth - level)) ls so_many) none)

first_at : (depth b opens level : ℕ) (ls : List Lexeme) → 0 < opens → opens ≡ prefix_len is_open ls
    → opens ≤ depth → level ≡ depth - (opens - 1)
    → prim_to (expression_to level) b (drop (depth - level) ls) ≡ closed_to (expression_to level) b
    (drop opens ls)
first_at depth b opens level ls some count within is =
    let n : depth - level ≡ opens - 1 = omega (arith, is, within, some) in
    let next : suc (opens - 1) ≡ opens = omega (arith, some) in
    let so_many : suc (opens - 1) ≤ prefix_len is_open ls = omega (arith, count, some) in
    rw n (innermost (expression_to level) b (opens - 1) ls (opens_of (suc (opens - 1)) ls so_many)
    ∙ ap (λ (k : ℕ). closed_to (expression_to level) b (drop k ls)) next)

next_at : (depth b opens level : ℕ) (ls : List Lexeme) (e : Expr) (left : List Lexeme) → 0 < b
    → opens ≡ prefix_len is_open ls → depth < level + opens → level < depth
    → IsAt depth b level ls e left
    → prim_to (expression_to (level + 1)) b (drop (depth - (level + 1)) ls) ≡ around_to
    (expression_to level) b e left
next_at depth b opens level ls e left some count few lt at =
    let next : suc (depth - (level + 1)) ≡ depth - level = omega (arith, lt) in
    let one : level + 1 ≡ suc level = omega arith in
    let so_many : suc (suc (depth - (level + 1))) ≤ prefix_len is_open ls = omega (
      arith,
      count,
      few,
      lt,
    ) in
    let outwards = one_outwards level b (depth - (level + 1)) ls some (opens_of (suc (suc (depth -
    (level + 1)))) ls so_many) in
    let here : prim_to (expression_to level) b (drop (suc (depth - (level + 1))) ls) ≡ Some (
      e,
      left,
    ) =
    subst (λ (k : ℕ). prim_to (expression_to level) b (drop k ls) ≡ Some (e, left)) (sym next)
    at.read in
    ap (λ (k : ℕ). prim_to (expression_to k) b (drop (depth - (level + 1)) ls)) one ∙ outwards
    ∙ rw here refl

pub begins_at : (depth b opens level : ℕ) (ls at : List Lexeme) (e : Expr) (left : List Lexeme)
    → 0 < opens → opens ≡ prefix_len is_open ls → opens ≤ depth → level ≡ depth - (opens - 1)
    → at ≡ drop opens ls
    → closed_to (expression_to level) b at ≡ Some (e, left) → IsAt depth b level ls e left
begins_at depth b opens level ls at e left some count within is at_is read = record {
  read = first_at depth b opens level ls some count within is ∙ (ap
      (λ (xs : List Lexeme). closed_to (expression_to level) b xs) (sym at_is) ∙ read);
  within = omega (arith, is);
}

pub begins_not : (depth b opens level : ℕ) (ls at left new : List Lexeme) (f : FormFault) → 0 < b
    → 0 < opens → opens ≡ prefix_len is_open ls → opens ≤ depth → level ≡ depth - (opens - 1)
    → at ≡ drop opens ls
    → Gives (closed_to (expression_to level) b at) (Err f) left
    → Gives (prim_to (expression_to depth) b ls) (Err f) new
begins_not depth b opens level ls at left new fault.NoMemory budget some count within is at_is
    refused = tt
begins_not depth b opens level ls at left new fault.NoForm budget some count within is at_is refused
    =
    none_at depth b level opens ls budget count (omega (arith, is, some)) (omega (arith, is))
    (first_at depth b opens level ls some count within is ∙ rw (← at_is) refused)

pub goes_outwards : (depth b opens level : ℕ) (ls : List Lexeme) (e x : Expr) (left new : List
    Lexeme) → 0 < b → opens ≡ prefix_len is_open ls → depth < level + opens → level < depth
    → IsAt depth b level ls e left
    → around_to (expression_to level) b e left ≡ Some (x, new) → IsAt depth b (level + 1) ls x new
goes_outwards depth b opens level ls e x left new some count few lt at read = record {
  read = next_at depth b opens level ls e left some count few lt at ∙ read;
  within = omega (arith, lt);
}

pub fails_outwards : (depth b opens level : ℕ) (ls : List Lexeme) (e : Expr) (left behind new : List
    Lexeme) (f : FormFault) → 0 < b → opens ≡ prefix_len is_open ls → depth < level + opens
    → level < depth → IsAt depth b level ls e left
    → Gives (around_to (expression_to level) b e left) (Err f) behind
    → Gives (prim_to (expression_to depth) b ls) (Err f) new
fails_outwards depth b opens level ls e left behind new fault.NoMemory some count few lt at refused
    = tt
fails_outwards depth b opens level ls e left behind new fault.NoForm some count few lt at refused =
    none_at depth b (level + 1) opens ls some count (omega (arith, few)) (omega (arith, lt))
    (next_at depth b opens level ls e left some count few lt at ∙ refused)

pub ends_at : (depth b level : ℕ) (ls : List Lexeme) (e : Expr) (left : List Lexeme) → depth ≤ level
    → IsAt depth b level ls e left → prim_to (expression_to depth) b ls ≡ Some (e, left)
ends_at depth b level ls e left le at =
    let le' : level ≤ depth = at.within in
    let same : level ≡ depth = omega (arith, le, le') in
    let none : depth - level ≡ 0 = omega (arith, le) in
    let read : prim_to (expression_to level) b ls ≡ Some (e, left) = subst
    (λ (k : ℕ). prim_to (expression_to level) b (drop k ls) ≡ Some (e, left)) none at.read in
    subst (λ (d : ℕ). prim_to (expression_to d) b ls ≡ Some (e, left)) same read

-- ---- what is refused at once

no_expression : (b : ℕ) (ls : List Lexeme) → closed_to (expression_to 0) b ls ≡ None
unfolding closed_to expression_to
no_expression b ls = refl

no_budget : (depth : ℕ) (ls : List Lexeme) → closed_to (expression_to depth) 0 ls ≡ None
unfolding closed_to expression_to
no_budget zero ls = refl
no_budget (suc depth) ls = refl

-- more `(` than may stand around one another
pub too_many_opens : (depth b opens : ℕ) (ls : List Lexeme) → opens ≡ prefix_len is_open ls
    → depth < opens → prim_to (expression_to depth) b ls ≡ None
too_many_opens depth zero opens ls count lt =
    in_parens (expression_to depth) 0 ls (first_opens depth ls (opens_of (suc depth) ls (omega
    (arith, count, lt)))) ∙ no_budget depth (drop 1 ls)
too_many_opens depth (suc b) opens ls count lt =
    let some = opens_of (suc depth) ls (omega (arith, count, lt)) in
    let none : prim_to (expression_to 0) (suc b) (drop depth ls) ≡ None = innermost (expression_to
    0) (suc b) depth ls some ∙ no_expression (suc b) (drop (suc depth) ls) in
    let all : 0 + depth ≡ depth = omega arith in
    subst (λ (d : ℕ). prim_to (expression_to d) (suc b) ls ≡ None) all (none_outwards 0 (suc b)
    depth ls (omega arith) some none)

pub no_budget_left : (depth b opens : ℕ) (ls : List Lexeme) → opens ≡ prefix_len is_open ls
    → 0 < opens → b ≡ 0 → prim_to (expression_to depth) b ls ≡ None
no_budget_left depth zero opens ls count some none =
    in_parens (expression_to depth) 0 ls (first_opens 0 ls (opens_of 1 ls (omega (
      arith,
      count,
      some,
    )))) ∙ no_budget depth (drop 1 ls)
no_budget_left depth (suc b) opens ls count some none = absurd (omega arith)

-- ---- expressions by how many may stand around one another

pub no_depth : (depth b : ℕ) (ls : List Lexeme) → depth ≡ 0 → expression_to depth b ls ≡ None
unfolding expression_to
no_depth zero b ls none = refl
no_depth (suc depth) b ls none = absurd (omega arith)

pub no_budget_within : (depth b : ℕ) (ls : List Lexeme) → b ≡ 0 → expression_to depth b ls ≡ None
unfolding expression_to
no_budget_within zero b ls none = refl
no_budget_within (suc depth) zero ls none = refl
no_budget_within (suc depth) (suc b) ls none = absurd (omega arith)

pub expression_step : (depth b : ℕ) (ls left : List Lexeme) (answer : Result Expr FormFault)
    → 0 < depth → 0 < b
    → Gives (whole_to (expression_to (depth - 1)) b ls) answer left
    → Gives (expression_to depth b ls) answer left
unfolding expression_to
expression_step zero b ls left answer some budget gives = absurd (omega arith)
expression_step (suc depth) zero ls left answer some budget gives = absurd (omega arith)
expression_step (suc depth) (suc b) ls left answer some budget gives =
    let one : suc depth - 1 ≡ depth = omega arith in
    subst (λ (d : ℕ). Gives (whole_to (expression_to d) (suc b) ls) answer left) one gives
