-- Bodies of members and trees of producers are read back.
use Rattle.std.proofs.Common.{ℕ, zero, suc, ◌≡◌, ◌≤◌, true, ◌&&◌, List, ◌∷◌, ◌++◌, max, Some, refl, sym, subst, append_assoc, arith}
use Rattle.std.specs.Prelude.{codes}
use Rattle.std.proofs.lemmas.Bool.{and_parts, le-leb}
use Rattle.dg_lex.specs.Bytes.{Bytes, line_limit}
use Rattle.dg_lex.specs.Lexemes.{Lexeme}
use Rattle.dg_decl.specs.declared.expression.Expr.{Expr}
use Rattle.dg_decl.specs.declared.expression.Cond.{Cond}
use Rattle.dg_decl.specs.declared.expression.Tree.{Tree}
use Rattle.dg_decl.specs.declared.expression.Tree.TheVariants as tree
use Rattle.dg_decl.specs.declared.expression.Tree.TheOpen.{Tree-F}
use Rattle.dg_decl.specs.declared.expression.Tree.TheViews.{roll-Tree}
use Rattle.dg_decl.specs.declared.expression.Tree.TheFolds.{ind-Tree, map-Tree}
use Rattle.dg_decl.specs.Readers.{comes, taken, spelled}
use Rattle.dg_decl.specs.ExpressionForms.{nesting, condition_nesting, tree_nesting, nesting_limit, nested, condition, expression, expression_within, body, awaited, leaf, tree_choice, tree_over, tree_within, tree_body}
use Rattle.dg_decl.specs.Written.{Written, loose, if_tokens, name_token, word_token, written, written_condition, written_tree}
use Rattle.dg_decl.proofs.WrittenEquations as eq
use Rattle.dg_decl.proofs.ExpressionsBack.{Ends, NoChoice, reads_whole, reads_loose, chain_sum, then_ends, else_ends}
use Rattle.dg_decl.proofs.AllBack.{expression_back, condition_back}
use Rattle.dg_decl.proofs.DepthLemmas.{loose_depth, expression_shallow, condition_shallow}

pub body_back : (e : Expr) → (written e).fits ≡ true → nesting e ≤ nesting_limit → (rest : List Lexeme) → Ends rest → body ((written e).tokens ++ rest) ≡ Some (e, rest)
unfolding body nested expression
body_back e fits nests rest ends =
    let shallow = expression_shallow e in
    let depth : (written e).depth ≤ line_limit = omega (arith, shallow, nests) in
    let read : expression_within line_limit ((written e).tokens ++ rest) ≡ Some (e, rest) = reads_whole (written e) (nesting e) e (expression_back e fits nests) line_limit depth rest ends in
    rw (read, le-leb (nesting e) nesting_limit nests) refl

-- a tree is read back wherever it may stand so deep
abbrev pub IsTreeBack : Tree → Type 0
IsTreeBack t = (written_tree t).fits ≡ true → tree_nesting t ≤ nesting_limit → (d : ℕ) → (written_tree t).depth ≤ d → (rest : List Lexeme) → Ends rest → tree_within d ((written_tree t).tokens ++ rest) ≡ Some (t, rest)

leaf_sum : (e : Expr) → (written e).fits ≡ true → nesting e ≤ nesting_limit → (rest : List Lexeme) → Ends rest → leaf ((loose (written e)).tokens ++ rest) ≡ Some (tree.Leaf e, rest)
unfolding leaf expression
leaf_sum e fits nests rest ends =
    let shallow = expression_shallow e in
    let more = loose_depth (written e) in
    let depth : (loose (written e)).depth ≤ suc line_limit = omega (arith, shallow, more, nests) in
    rw (chain_sum (loose (written e)) (nesting e) e (reads_loose (written e) (nesting e) e (expression_back e fits nests)) line_limit depth rest ends) refl

leaf_over : (d : ℕ) (s : Written) (t : Tree) (rest : List Lexeme) → NoChoice s → leaf (s.tokens ++ rest) ≡ Some (t, rest) → tree_within (suc d) (s.tokens ++ rest) ≡ Some (t, rest)
unfolding tree_within tree_over
leaf_over d s t rest plain is = rw ((plain rest).0, (plain rest).1) is

leaf_back : (e : Expr) → IsTreeBack (tree.Leaf e)
leaf_back e fits nests zero le rest ends = absurd (let deep : 1 ≤ 0 = rw (eq.written_tree-Leaf e) at le in omega (arith, deep))
leaf_back e fits nests (suc d) le rest ends =
    let good : (written e).fits ≡ true = rw (eq.written_tree-Leaf e) at fits in
    let small : nesting e ≤ nesting_limit = rw (eq.tree_nesting-Leaf e) at nests in
    rw (eq.written_tree-Leaf e)
    (leaf_over d (loose (written e)) (tree.Leaf e) rest (reads_loose (written e) (nesting e) e (expression_back e good small)).choice (leaf_sum e good small rest ends))

await_over : (d : ℕ) (p : Bytes) (rest : List Lexeme) → tree_within (suc d) (word_token (codes "await") ∷ (name_token p ∷ rest)) ≡ Some (tree.Await p, rest)
unfolding tree_within tree_over awaited comes taken spelled
await_over d p rest = refl

await_back : (p : Bytes) → IsTreeBack (tree.Await p)
await_back p fits nests zero le rest ends = absurd (let deep : 1 ≤ 0 = rw (eq.written_tree-Await p) at le in omega (arith, deep))
await_back p fits nests (suc d) le rest ends = rw (eq.written_tree-Await p) (await_over d p rest)

choice_over : (d : ℕ) (c : Cond) (a b : Tree) (cs xs ys rest : List Lexeme) → condition expression (cs ++ (word_token (codes "then") ∷ (xs ++ (word_token (codes "else") ∷ (ys ++ rest))))) ≡ Some (c, word_token (codes "then") ∷ (xs ++ (word_token (codes "else") ∷ (ys ++ rest)))) → tree_within d (xs ++ (word_token (codes "else") ∷ (ys ++ rest))) ≡ Some (a, word_token (codes "else") ∷ (ys ++ rest)) → tree_within d (ys ++ rest) ≡ Some (b, rest) → tree_within (suc d) (word_token (codes "if") ∷ (cs ++ (word_token (codes "then") ∷ (xs ++ (word_token (codes "else") ∷ (ys ++ rest)))))) ≡ Some (tree.If c a b, rest)
unfolding tree_within tree_over tree_choice taken comes
choice_over d c a b cs xs ys rest first second third = rw (first, second, third) refl

condition_read : (c : Cond) → (written_condition c).fits ≡ true → condition_nesting c ≤ nesting_limit → (rest : List Lexeme) → Ends rest → condition expression ((written_condition c).tokens ++ rest) ≡ Some (c, rest)
unfolding expression
condition_read c fits nests rest ends =
    let shallow = condition_shallow c in
    let depth : (written_condition c).depth ≤ suc line_limit = omega (arith, shallow, nests) in
    condition_back c fits nests line_limit depth rest ends

if_over : (c : Cond) (a b : Tree) → IsTreeBack a → IsTreeBack b → ((written_condition c).fits && (written_tree a).fits && (written_tree b).fits) ≡ true → suc (max (condition_nesting c) (max (tree_nesting a) (tree_nesting b))) ≤ nesting_limit → (d : ℕ) → suc (max (written_tree a).depth (written_tree b).depth) ≤ d → (rest : List Lexeme) → Ends rest → tree_within d (if_tokens (written_condition c) (written_tree a).tokens (written_tree b).tokens ++ rest) ≡ Some (tree.If c a b, rest)
if_over c a b ba bb fits nests zero le rest ends = absurd (omega (arith, le))
if_over c a b ba bb fits nests (suc d) le rest ends =
    let outer = and_parts ((written_condition c).fits && (written_tree a).fits) (written_tree b).fits fits in
    let parts = and_parts (written_condition c).fits (written_tree a).fits outer.0 in
    let cs = (written_condition c).tokens in
    let xs = (written_tree a).tokens in
    let ys = (written_tree b).tokens in
    let later : List Lexeme = word_token (codes "else") ∷ (ys ++ rest) in
    rw (append_assoc cs (word_token (codes "then") ∷ (xs ++ (word_token (codes "else") ∷ ys))) rest, append_assoc xs (word_token (codes "else") ∷ ys) rest)
    (choice_over d c a b cs xs ys rest
    (condition_read c parts.0 (omega (arith, nests)) (word_token (codes "then") ∷ (xs ++ later)) (then_ends (xs ++ later)))
    (ba parts.1 (omega (arith, nests)) d (omega (arith, le)) later (else_ends (ys ++ rest)))
    (bb outer.1 (omega (arith, nests)) d (omega (arith, le)) rest ends))

if_back : (c : Cond) (a b : Tree) → IsTreeBack a → IsTreeBack b → IsTreeBack (tree.If c a b)
if_back c a b ba bb fits nests d le rest ends =
    rw (eq.written_tree-If c a b)
    (if_over c a b ba bb (rw (eq.written_tree-If c a b) at fits) (rw (eq.tree_nesting-If c a b) at nests) d (rw (eq.written_tree-If c a b) at le) rest ends)

abbrev Part : Type 0
Part = (t : Tree) × IsTreeBack t

tree_at : (y : Tree-F Part) → IsTreeBack (roll-Tree (map-Tree Part Tree (λ t. t.0) y))
tree_at (Tree-F.Leaf e) = subst IsTreeBack (sym (tree.rolls-Leaf e)) (leaf_back e)
tree_at (Tree-F.Await p) = subst IsTreeBack (sym (tree.rolls-Await p)) (await_back p)
tree_at (Tree-F.If c a b) = subst IsTreeBack (sym (tree.rolls-If c a.0 b.0)) (if_back c a.0 b.0 a.1 b.1)

pub tree_back : (t : Tree) → IsTreeBack t
tree_back = ind-Tree IsTreeBack (λ x y is. subst (λ (z : Tree-F Tree). IsTreeBack (roll-Tree z)) is (tree_at y))

-- ---- a tree that nests so deep has no more choices around one another

abbrev IsTreeShallow : Tree → Type 0
IsTreeShallow t = (written_tree t).fits ≡ true → tree_nesting t ≤ nesting_limit → (written_tree t).depth ≤ tree_nesting t

shallow_leaf : (e : Expr) → IsTreeShallow (tree.Leaf e)
shallow_leaf e fits nests =
    let good : (written e).fits ≡ true = rw (eq.written_tree-Leaf e) at fits in
    let small : nesting e ≤ nesting_limit = rw (eq.tree_nesting-Leaf e) at nests in
    let some = (expression_back e good small).facts.fields in
    rw (eq.written_tree-Leaf e, eq.tree_nesting-Leaf e) (omega (arith, some))

shallow_await : (p : Bytes) → IsTreeShallow (tree.Await p)
shallow_await p fits nests = rw (eq.written_tree-Await p, eq.tree_nesting-Await p) (omega arith)

shallow_if : (c : Cond) (a b : Tree) → IsTreeShallow a → IsTreeShallow b → IsTreeShallow (tree.If c a b)
shallow_if c a b sa sb fits nests =
    let outer = and_parts ((written_condition c).fits && (written_tree a).fits) (written_tree b).fits (rw (eq.written_tree-If c a b) at fits) in
    let parts = and_parts (written_condition c).fits (written_tree a).fits outer.0 in
    let deep : suc (max (condition_nesting c) (max (tree_nesting a) (tree_nesting b))) ≤ nesting_limit = rw (eq.tree_nesting-If c a b) at nests in
    let left = sa parts.1 (omega (arith, deep)) in
    let right = sb outer.1 (omega (arith, deep)) in
    rw (eq.written_tree-If c a b, eq.tree_nesting-If c a b) (omega (arith, left, right))

abbrev ShallowPart : Type 0
ShallowPart = (t : Tree) × IsTreeShallow t

shallow_at : (y : Tree-F ShallowPart) → IsTreeShallow (roll-Tree (map-Tree ShallowPart Tree (λ t. t.0) y))
shallow_at (Tree-F.Leaf e) = subst IsTreeShallow (sym (tree.rolls-Leaf e)) (shallow_leaf e)
shallow_at (Tree-F.Await p) = subst IsTreeShallow (sym (tree.rolls-Await p)) (shallow_await p)
shallow_at (Tree-F.If c a b) = subst IsTreeShallow (sym (tree.rolls-If c a.0 b.0)) (shallow_if c a.0 b.0 a.1 b.1)

tree_shallow : (t : Tree) → IsTreeShallow t
tree_shallow = ind-Tree IsTreeShallow (λ x y is. subst (λ (z : Tree-F Tree). IsTreeShallow (roll-Tree z)) is (shallow_at y))

pub tree_body_back : (t : Tree) → (written_tree t).fits ≡ true → tree_nesting t ≤ nesting_limit → (rest : List Lexeme) → Ends rest → tree_body ((written_tree t).tokens ++ rest) ≡ Some (t, rest)
unfolding tree_body nested
tree_body_back t fits nests rest ends =
    let shallow = tree_shallow t fits nests in
    let depth : (written_tree t).depth ≤ nesting_limit = omega (arith, shallow, nests) in
    rw (tree_back t fits nests nesting_limit depth rest ends, le-leb (tree_nesting t) nesting_limit nests) refl
