-- Operations on values that aren't held ask for nothing.
use Rattle.std.proofs.Common.{◌≡◌, Bool, true, false, cond, List, [], Option, Some, None, Result, Ok, Err, refl, subst, ℕ}
use Rattle.std.specs.Prelude.{ℤ, ◌+ℤ◌, codes, nat_lt, length, ◌++◌}
use Rattle.dg_value.specs.declared.value.Value.TheVariants as value
use Rattle.std.specs.Option.{option_map_or}
use Rattle.dg_lex.specs.Bytes.{Bytes}
use Rattle.dg_decl.specs.declared.expression.CallName.{CallName}
use Rattle.dg_decl.specs.declared.expression.CallName.TheVariants as call
use Rattle.dg_value.specs.declared.value.Kept.{Kept, out-Kept}
use Rattle.dg_value.specs.declared.value.Kept.TheOpen.{Kept-F, Value-F}
use Rattle.dg_value.specs.declared.value.Value.{Value, out-Value}
use Rattle.dg_value.specs.Same.{Layer}
use Rattle.dg_eval.specs.Runs.{Asked, Run, gives, failed, and_then, mistyped, asks_of}
use Rattle.dg_eval.specs.Operations.{or_mistyped, only_of, int_in, text_in, field_in, field_at, is_in_range, sum_of, with_two, sum_in, less_in, equal_at, equal_in, all_in, text_limit, joined, cat_of, cat_in, decimal_of, size_at, fail_of, kept_in, value_of_kept, value_in, failure_in, is_ok_in, inside_in, has_in}
use Rattle.dg_eval.specs.Meaning.{param_in}
use Rattle.dg_requests.specs.declared.stop.Stop.{Stop}
use Rattle.dg_requests.specs.Scopes.{Scope}
use Rattle.dg_requests.specs.Results.{Gave, Ran}
use Rattle.dg_requests.proofs.RanLemmas.{ran_plain}
use Rattle.dg_bodies.specs.Sites.{applied_to}

-- a run asks for nothing
pub record IsPlain {A : Type 0} (r : Run A) : Type 0 where
  pub asks : asks_of r ≡ []

pub ran_made : {A : Type 0} (s : Scope) (r : Run A) (x : Option (List Asked))
    (result : Result A Stop) → IsPlain r → Gave r result → Ran s r x x result
ran_made s r x result plain gave = ran_plain s r x result plain.asks gave

plain_or : {A : Type 0} (o : Option A) → IsPlain (or_mistyped o)
plain_or None = record { asks = refl }
plain_or (Some a) = record { asks = refl }

pub plain_then : {A B : Type 0} (r : Run A) (f : A → Run B) → IsPlain r → ((a : A) → IsPlain (f a))
    → IsPlain (and_then r f)
plain_then None f h k = record { asks = refl }
plain_then {A} {B} (Some (Ok a, xs)) f h k = at (f a) (k a)
  where
    at : (r : Run B) → IsPlain r → IsPlain (and_then (Some (Ok a, xs)) (λ a. r))
    at None p = record { asks = refl }
    at (Some (r, ys)) p = (let e = h.asks in let d = p.asks in record { asks = (λ i. e i ++ d i) })
plain_then (Some (Err e, xs)) f h k = record { asks = h.asks }

plain_if : {A : Type 0} (d : Bool) (x y : Run A) → IsPlain x → IsPlain y → IsPlain (cond d x y)
plain_if true x y h k = h
plain_if false x y h k = k

plain_two : {A B : Type 0} (a b : Option A) (f : A → A → Run B)
    → ((x y : A) → IsPlain (f x y)) → IsPlain (with_two a b f)
plain_two None b f h = record { asks = refl }
plain_two (Some a) None f h = record { asks = refl }
plain_two (Some a) (Some b) f h = h a b

pub plain_sum : (origin : ℕ) (v w : Value) → IsPlain (sum_in origin v w)
plain_sum origin v w =
    plain_two (int_in v) (int_in w) (sum_of origin)
    (λ a b. plain_if (is_in_range (a +ℤ b)) (gives (value.Int (a +ℤ b)))
    (failed origin (codes "overflow")) (record { asks = refl }) (record { asks = refl }))

pub plain_less : (v w : Value) → IsPlain (less_in v w)
plain_less v w = plain_two (int_in v) (int_in w) _ (λ a b. record { asks = refl })

plain_equal_at : (v w : Layer) → IsPlain (equal_at v w)
plain_equal_at (Value-F.Text a) (Value-F.Text b) = record { asks = refl }
plain_equal_at (Value-F.Int a) (Value-F.Int b) = record { asks = refl }
plain_equal_at v w = record { asks = refl }

pub plain_equal : (v w : Value) → IsPlain (equal_in v w)
plain_equal v w = plain_equal_at (out-Value v) (out-Value w)

pub plain_field : (k : ℕ) (v : Value) → IsPlain (field_in k v)
plain_field k v = plain_or (field_at k (out-Value v))

plain_cat_of : (origin : ℕ) (o : Option (List Bytes)) → IsPlain (cat_of origin o)
plain_cat_of origin None = record { asks = refl }
plain_cat_of origin (Some ts) =
    plain_if (nat_lt text_limit (length (joined ts))) (failed origin (codes "text too long"))
    (gives (value.Text (joined ts))) (record { asks = refl }) (record { asks = refl })

pub plain_cat : (origin : ℕ) (vs : List Value) → IsPlain (cat_in origin vs)
plain_cat origin vs = plain_cat_of origin (all_in text_in vs)

plain_decimal : (o : Option ℤ) → IsPlain (decimal_of o)
plain_decimal None = record { asks = refl }
plain_decimal (Some n) = record { asks = refl }

plain_size : (l : Layer) → IsPlain (size_at l)
plain_size (Value-F.Text t) = record { asks = refl }
plain_size (Value-F.Set vs) = record { asks = refl }
plain_size (Value-F.Map es) = record { asks = refl }
plain_size other = record { asks = refl }

plain_fail : (origin : ℕ) (o : Option Bytes) → IsPlain (fail_of origin o)
plain_fail origin None = record { asks = refl }
plain_fail origin (Some t) = record { asks = refl }

pub plain_applied : (f : CallName) (origin : ℕ) (v : Value) → IsPlain (applied_to f origin v)
plain_applied call.TextOf origin v = plain_decimal (int_in v)
plain_applied call.Size origin v = plain_size (out-Value v)
plain_applied call.Fail origin v = plain_fail origin (text_in v)
plain_applied other origin v = record { asks = refl }

plain_map_or : {A B : Type 0} (o : Option A) (f : A → Run B) → ((a : A) → IsPlain (f a))
    → IsPlain (option_map_or f o mistyped)
plain_map_or None f h = record { asks = refl }
plain_map_or (Some a) f h = h a

plain_of_kept : (k : Kept) (l : Kept-F Kept Value) → out-Kept k ≡ l → IsPlain (value_of_kept k)
plain_of_kept k (Kept-F.Value v) e = rw e (record { asks = refl })
plain_of_kept k (Kept-F.Failed f) e = rw e (record { asks = refl })

pub plain_value : (v : Value) → IsPlain (value_in v)
plain_value v =
    plain_map_or (kept_in v) value_of_kept (λ k. plain_of_kept k (out-Kept k) refl)

pub plain_failure : (v : Value) → IsPlain (failure_in v)
plain_failure v = plain_map_or (kept_in v) _ (λ k. record { asks = refl })

pub plain_is_ok : (v : Value) → IsPlain (is_ok_in v)
plain_is_ok v = plain_map_or (kept_in v) _ (λ k. record { asks = refl })

pub plain_has : (v : Value) → IsPlain (has_in v)
plain_has v = plain_map_or (inside_in v) _ (λ o. record { asks = refl })

pub plain_param : (vs : List Value) (p : ℕ) → IsPlain (param_in vs p)
plain_param vs p = plain_or _

pub plain_inside : (v : Value) → IsPlain (or_mistyped (inside_in v))
plain_inside v = plain_or (inside_in v)

-- ---- over the parts of a site

-- what is made of a parameter of these
pub ran_over : {A : Type 0} (s : Scope) (ps params : List Value) (f : List Value → Run A)
    → (x : Option (List Asked)) (result : Result A Stop) → ps ≡ params → IsPlain (f ps)
    → Gave (f ps) result → Ran s (f params) x x result
ran_over {A} s ps params f x result same plain gave =
    subst (λ (l : List Value). Ran s (f l) x x result) same (ran_made s (f ps) x result plain gave)

-- what is made in the body of this slot
pub ran_in : {A : Type 0} (s : Scope) (slot origin : ℕ) (f : ℕ → Run A)
    → (x : Option (List Asked)) (result : Result A Stop) → slot ≡ origin → IsPlain (f slot)
    → Gave (f slot) result → Ran s (f origin) x x result
ran_in {A} s slot origin f x result same plain gave =
    subst (λ (n : ℕ). Ran s (f n) x x result) same (ran_made s (f slot) x result plain gave)

pub plain_only : (vs : List Value) → IsPlain (or_mistyped (only_of vs))
plain_only vs = plain_or (only_of vs)

pub ran_cat : (s : Scope) (slot origin : ℕ) (vs ws : List Value) (x : Option (List Asked))
    → (result : Result Value Stop) → slot ≡ origin → vs ≡ ws → Gave (cat_in slot vs) result
    → Ran s (cat_in origin ws) x x result
ran_cat s slot origin vs ws x result same equal gave =
    subst (λ (l : List Value). Ran s (cat_in origin l) x x result) equal
    (ran_in s slot origin (λ n. cat_in n vs) x result same (plain_cat slot vs) gave)
