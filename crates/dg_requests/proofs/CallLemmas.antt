-- What a `get` gives, and where an `await` leads.
use Rattle.std.proofs.Common.{◌≡◌, ◌≢◌, ℕ, Bool, true, false, cond, List, Option, Some, None, Result, Ok, Err, refl, sym, ap, subst, ◌∙◌}
use Rattle.std.specs.Option.{option_map_or}
use Rattle.std.proofs.lemmas.Option.{none-some, same_Some}
use Rattle.dg_decl.specs.declared.document.Doc.{Doc}
use Rattle.dg_decl.specs.declared.graph.Node.{Node}
use Rattle.dg_decl.specs.Sizes.{is_production}
use Rattle.dg_value.specs.declared.place.Place.{Place}
use Rattle.dg_value.specs.declared.value.Failure.{Failure}
use Rattle.dg_value.specs.declared.value.Kept.TheOpen.{Value-F}
use Rattle.dg_value.specs.declared.value.Kept.TheViews.{roll-Value, roll-out-Value}
use Rattle.dg_value.specs.declared.value.Value.{Value, out-Value}
use Rattle.dg_value.specs.declared.value.Value.TheVariants as value
use Rattle.dg_value.specs.Same.{Layer}
use Rattle.dg_eval.specs.Runs.{Asked, Run, gives, and_then, mistyped}
use Rattle.dg_eval.specs.Bodies.{End as Ending, value_end, producer_end}
use Rattle.dg_eval.specs.Meaning.{node_at, node_in, Eval, instance, got_at, Target as Look, producer_from, awaited_slot, awaited_at}
use Rattle.dg_requests.specs.declared.calls.End.{End}
use Rattle.dg_requests.specs.declared.context.Target.{Target}
use Rattle.dg_requests.specs.declared.stop.Stop.{Stop}
use Rattle.dg_requests.specs.declared.stop.Stop.TheVariants as stop
use Rattle.dg_requests.specs.Scopes.{Scope}
use Rattle.dg_requests.specs.Results.{CanRun, Gave, Ran, ends}
use Rattle.dg_requests.specs.Contexts.{as_look, IsProducerOf, IsBehind}
use Rattle.dg_requests.proofs.RanLemmas.{can_as, can_first, ran_as, ran_plain}
use Rattle.dg_requests.proofs.ContextLemmas.{in_class_is}

-- ---- ends in values

abbrev in_value : Run Value → Run Ending
in_value r = and_then r (λ v. gives (value_end v))

-- ---- where an `await` of a way to a slot leads

awaits : (doc : Doc) (f : Eval) (times i k : ℕ) (q : Place) (n : Node) (b : Bool)
    → node_at doc k ≡ Some n → is_production doc n ≡ b
    → awaited_slot doc f times i k q
    ≡ cond b (and_then (producer_from doc times i k) (λ t. gives (producer_end t.inst t.slot)))
    (in_value (instance doc f i k q))
awaits doc f times i k q n b is same =
    ap (λ (o : Option Node). cond (option_map_or (is_production doc) o false)
    (and_then (producer_from doc times i k) (λ t. gives (producer_end t.inst t.slot)))
    (in_value (instance doc f i k q))) is
    ∙ ap (λ (b : Bool). cond b
    (and_then (producer_from doc times i k) (λ t. gives (producer_end t.inst t.slot)))
    (in_value (instance doc f i k q))) same

-- the producer behind a production
record IsFound (doc : Doc) (i k : ℕ) (n : Node) (t : Target) : Type 0 where
  production : is_production doc n ≡ true
  producer : IsProducerOf doc i k t

producer_found : (doc : Doc) (i k : ℕ) (n : Node) (t : Target) → IsBehind doc i k n (Some t)
    → IsFound doc i k n t
producer_found doc i k n t h = by_test (is_production doc n) refl
  where
    by_test : (b : Bool) → is_production doc n ≡ b → IsFound doc i k n t
    by_test false e = absurd (none-some t (sym (h.none e)))
    by_test true e =
        let w = h.some e in
        record {
          production = e;
          producer = subst (λ (u : Target). IsProducerOf doc i k u) (sym (same_Some t w.0 w.1)) w.2;
        }

run_there : {A : Type 0} (s : Scope) (r : Run A) → CanRun s r → r ≢ None
run_there s None h e = absurd h.may
run_there s (Some r) h e = cc

pub ran_producer : (s : Scope) (f : Eval) (times i k : ℕ) (q : Place) (n : Node) (t : Target)
    → (o : Option Target) (x : Option (List Asked)) → node_in s.doc i k ≡ Some n → o ≡ Some t
    → IsBehind s.doc i k n o → CanRun s (awaited_slot s.doc f times i k q)
    → Ran s (awaited_slot s.doc f times i k q) x x (Ok (producer_end t.inst t.slot))
ran_producer s f times i k q n t o x is some h can =
    let P : Option Target → Type 0 = λ o. IsBehind s.doc i k n o in
    let w = producer_found s.doc i k n t (subst P some h) in
    let next : Look → Run Ending = λ t. gives (producer_end t.inst t.slot) in
    let here = awaits s.doc f times i k q n true (in_class_is s.doc i k n is).0 w.production in
    let found : producer_from s.doc times i k ≡ gives (as_look t) =
    w.producer times (run_there s (producer_from s.doc times i k)
    (can_first s (producer_from s.doc times i k) next
    (can_as s (awaited_slot s.doc f times i k q) _ here can))) in
    ran_as s (gives (producer_end t.inst t.slot)) (awaited_slot s.doc f times i k q) x x
    (Ok (producer_end t.inst t.slot)) (sym (here ∙ ap (λ (r : Run Look). and_then r next) found))
    (ran_plain s (gives (producer_end t.inst t.slot)) x (Ok (producer_end t.inst t.slot)) refl refl)

-- ---- values that are no ways

is_provider : (v : Value) (i k : ℕ) → out-Value v ≡ Value-F.Provider i k → v ≡ value.Provider i k
is_provider v i k e = sym (roll-out-Value v) ∙ ap roll-Value e ∙ value.rolls-Provider i k

is_provider_lazy : (v : Value) (i k : ℕ) → out-Value v ≡ Value-F.ProviderLazy i k
    → v ≡ value.ProviderLazy i k
is_provider_lazy v i k e = sym (roll-out-Value v) ∙ ap roll-Value e ∙ value.rolls-ProviderLazy i k

is_lazy : (v : Value) (i k : ℕ) (p : Place) → out-Value v ≡ Value-F.Lazy i k p
    → v ≡ value.Lazy i k p
is_lazy v i k p e = sym (roll-out-Value v) ∙ ap roll-Value e ∙ value.rolls-Lazy i k p

got_nothing_at : (doc : Doc) (f : Eval) (q : Place) (v : Value) (l : Layer) → out-Value v ≡ l
    → ((i k : ℕ) → v ≡ value.Provider i k → ⊥) → ((i k : ℕ) → v ≡ value.ProviderLazy i k → ⊥)
    → ((i k : ℕ) (p : Place) → v ≡ value.Lazy i k p → ⊥) → got_at doc f l q ≡ mistyped
got_nothing_at doc f q v (Value-F.Provider i k) e a b c = absurd (a i k (is_provider v i k e))
got_nothing_at doc f q v (Value-F.ProviderLazy i k) e a b c =
    absurd (b i k (is_provider_lazy v i k e))
got_nothing_at doc f q v (Value-F.Lazy i k p) e a b c = absurd (c i k p (is_lazy v i k p e))
got_nothing_at doc f q v other e a b c = refl

pub got_nothing : (s : Scope) (f : Eval) (q : Place) (v : Value) (x : Option (List Asked))
    → (result : Result Value Stop) → ((i k : ℕ) → v ≡ value.Provider i k → ⊥)
    → ((i k : ℕ) → v ≡ value.ProviderLazy i k → ⊥)
    → ((i k : ℕ) (p : Place) → v ≡ value.Lazy i k p → ⊥) → Gave (mistyped {A = Value}) result
    → Ran s (got_at s.doc f (out-Value v) q) x x result
got_nothing s f q v x result a b c h =
    ran_as s mistyped (got_at s.doc f (out-Value v) q) x x result
    (sym (got_nothing_at s.doc f q v (out-Value v) refl a b c))
    (ran_plain s mistyped x result refl h)

awaits_nothing_at : (doc : Doc) (f : Eval) (times : ℕ) (q : Place) (v : Value) (l : Layer)
    → out-Value v ≡ l → ((i k : ℕ) → v ≡ value.Provider i k → ⊥)
    → awaited_at doc f times l q ≡ mistyped
awaits_nothing_at doc f times q v (Value-F.Provider i k) e a =
    absurd (a i k (is_provider v i k e))
awaits_nothing_at doc f times q v other e a = refl

-- a failure for want of a value is one for want of an end
mistyped_end : (r : Result End Stop) → Gave (mistyped {A = End}) r
    → Gave (mistyped {A = Ending}) (ends r)
mistyped_end (Ok e) h = cc
mistyped_end (Err (stop.Failed f)) h =
    let of_error : Option (Result End Failure) → Failure = λ o. failure_in f o in
    ap (λ (g : Failure). Some (Err g)) (ap of_error h)
  where
    failure_in : Failure → Option (Result End Failure) → Failure
    failure_in f (Some (Err g)) = g
    failure_in f other = f
mistyped_end (Err stop.NoMemory) h = tt

pub awaits_nothing : (s : Scope) (f : Eval) (times : ℕ) (q : Place) (v : Value)
    → (x : Option (List Asked)) (result : Result End Stop)
    → ((i k : ℕ) → v ≡ value.Provider i k → ⊥) → Gave (mistyped {A = End}) result
    → Ran s (awaited_at s.doc f times (out-Value v) q) x x (ends result)
awaits_nothing s f times q v x result a h =
    ran_as s mistyped (awaited_at s.doc f times (out-Value v) q) x x (ends result)
    (sym (awaits_nothing_at s.doc f times q v (out-Value v) refl a))
    (ran_plain s mistyped x (ends result) refl (mistyped_end result h))
