-- Expressions in a row, evaluated one after another.
use Rattle.std.proofs.Common.{◌≡◌, ◌<◌, ◌≤◌, ◌+◌, ◌∷◌, ◌++◌, [], take, append-nil, take-append-drop, ℕ, zero, suc, List, length, map, drop, get_or, drop-cons, slice_get, Some, refl, sym, ap, ◌∙◌, arith}
use Rattle.std.proofs.lemmas.List.{drop_all}
use Rattle.dg_slots.specs.declared.body.NExpr.{NExpr}
use Rattle.dg_value.specs.declared.value.Value.{Value}
use Rattle.dg_eval.specs.Runs.{Run}
use Rattle.dg_eval.specs.Bodies.{Around, runs_of, expr_part}
use Rattle.dg_bodies.specs.declared.counters.NewsAndCalls.{NewsAndCalls}
use Rattle.dg_bodies.specs.Counts.{after, row}
use Rattle.dg_bodies.specs.Sites.{run_at}
use Rattle.dg_bodies.proofs.CountLemmas.{row_step, row_end}

abbrev pub runs : List NExpr → Around → NewsAndCalls → List (Run Value)
runs args s at = runs_of (map expr_part args) s at.news at.calls

-- so many stand before the expression of this index, and before what comes after all
pub record AtRow (s : Around) (args : List NExpr) (start : NewsAndCalls) (i : ℕ)
    (at : NewsAndCalls) : Type 0 where
  pub rest : drop i (runs args s start) ≡ runs (drop i args) s at
  pub end : after (row (map expr_part (drop i args))) at ≡ after (row (map expr_part args)) start

none_passed : {A : Type 0} (xs : List A) → drop 0 xs ≡ xs
none_passed [] = refl
none_passed (x ∷ xs) = refl

pub row_start : (s : Around) (args : List NExpr) (start : NewsAndCalls)
    → AtRow s args start 0 start
row_start s args start = record {
  rest = none_passed (runs args s start)
      ∙ ap (λ (l : List NExpr). runs l s start) (sym (none_passed args));
  end = ap (λ (l : List NExpr). after (row (map expr_part l)) start) (none_passed args);
}

head_of : {A : Type 0} (xs : List A) (i : ℕ) (x : A) (ys : List A) → drop i xs ≡ x ∷ ys
    → slice_get xs i ≡ Some x
head_of [] zero x ys e = cc
head_of [] (suc i) x ys e = cc
head_of (z ∷ xs) zero x ys e = (let same : z ≡ x = cc in ap (λ u. Some u) same)
head_of (z ∷ xs) (suc i) x ys e = head_of xs i x ys e

tail_of : {A : Type 0} (xs : List A) (i : ℕ) (x : A) (ys : List A) → drop i xs ≡ x ∷ ys
    → drop (suc i) xs ≡ ys
tail_of [] zero x ys e = cc
tail_of [] (suc i) x ys e = cc
tail_of (z ∷ xs) zero x ys e = (let same : xs ≡ ys = cc in none_passed xs ∙ same)
tail_of (z ∷ xs) (suc i) x ys e = tail_of xs i x ys e

this_one : (args : List NExpr) (i : ℕ) (e : NExpr) → i < length args → e ≡ get_or args i e
    → drop i args ≡ e ∷ drop (i + 1) args
this_one args i e lt is =
    let next : suc i ≡ i + 1 = omega arith in
    drop-cons args i e lt ∙ (λ j. sym is j ∷ drop (next j) args)

split_row : (s : Around) (args : List NExpr) (start : NewsAndCalls) (i : ℕ) (at : NewsAndCalls)
    → (e : NExpr) → AtRow s args start i at → i < length args → e ≡ get_or args i e
    → drop i (runs args s start)
    ≡ run_at (expr_part e) s at ∷ runs (drop (i + 1) args) s (after (expr_part e) at)
unfolding after
split_row s args start i at e here lt is =
    here.rest ∙ ap (λ (l : List NExpr). runs l s at) (this_one args i e lt is)

pub run_here : (s : Around) (args : List NExpr) (start : NewsAndCalls) (i : ℕ)
    → (at : NewsAndCalls) (e : NExpr) → AtRow s args start i at → i < length args
    → e ≡ get_or args i e → slice_get (runs args s start) i ≡ Some (run_at (expr_part e) s at)
run_here s args start i at e here lt is =
    head_of (runs args s start) i _ _ (split_row s args start i at e here lt is)

pub row_next : (s : Around) (args : List NExpr) (start : NewsAndCalls) (i : ℕ)
    → (at next : NewsAndCalls) (e : NExpr) → AtRow s args start i at → i < length args
    → e ≡ get_or args i e → next ≡ after (expr_part e) at → AtRow s args start (i + 1) next
row_next s args start i at next e here lt is gone =
    let more : suc i ≡ i + 1 = omega arith in
    record {
      rest = ap (λ n. drop n (runs args s start)) (sym more)
          ∙ tail_of (runs args s start) i _ _ (split_row s args start i at e here lt is)
          ∙ ap (λ (a : NewsAndCalls). runs (drop (i + 1) args) s a) (sym gone);
      end = ap (λ (a : NewsAndCalls). after (row (map expr_part (drop (i + 1) args))) a) gone
          ∙ sym (row_step args i e at lt is) ∙ here.end;
    }

pub row_done : (s : Around) (args : List NExpr) (start : NewsAndCalls) (i : ℕ)
    → (at : NewsAndCalls) → AtRow s args start i at → length args ≤ i
    → at ≡ after (row (map expr_part args)) start
row_done s args start i at here le = row_end args i at _ le here.end

pub row_all : (s : Around) (args : List NExpr) (start : NewsAndCalls) (i : ℕ)
    → (at : NewsAndCalls) → AtRow s args start i at → length args ≤ i
    → take i (runs args s start) ≡ runs args s start
row_all s args start i at here le =
    sym (append-nil (take i (runs args s start)))
    ∙ ap (λ (l : List (Run Value)). take i (runs args s start) ++ l)
    (sym (here.rest ∙ ap (λ (l : List NExpr). runs l s at) (drop_all i args le)))
    ∙ take-append-drop i (runs args s start)
