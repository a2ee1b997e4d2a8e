-- Where the tree of a body ends is the same at more depth.
use Rattle.std.proofs.Common.{◌≡◌, ◌≤◌, inl, inr, ℕ, zero, suc, false, List, Option, Some, None, refl, subst, arith}
use Rattle.std.specs.List.{enumerate_from}
use Rattle.std.specs.Option.{option_map_or}
use Rattle.std.proofs.lemmas.Bool.{cases_lt}
use Rattle.dg_decl.specs.declared.document.Doc.{Doc}
use Rattle.dg_decl.specs.declared.graph.Node.{Node}
use Rattle.dg_decl.specs.declared.item.Item.{Item}
use Rattle.dg_decl.specs.declared.item.Item.TheVariants as item
use Rattle.dg_decl.specs.Names.{item_at}
use Rattle.dg_decl.specs.Graph.{deps}
use Rattle.dg_decl.specs.Sizes.{is_producer, is_production}
use Rattle.dg_value.specs.declared.place.Place.{Place}
use Rattle.dg_value.specs.declared.value.Value.{Value, out-Value}
use Rattle.dg_value.specs.declared.value.Kept.TheOpen.{Value-F}
use Rattle.dg_value.specs.Places.{then_step}
use Rattle.dg_value.specs.Same.{Layer}
use Rattle.dg_eval.specs.Runs.{Run, cell, lazy, gives, and_then, asking, all, mistyped}
use Rattle.dg_eval.specs.Operations.{or_mistyped, only_of}
use Rattle.dg_eval.specs.Bodies.{value_end, producer_end, tree_part}
use Rattle.dg_eval.specs.Meaning.{node_at, Eval, content, instance, got_at, look_at, look, target_of, step_to, given_one, given, first_target, producer_from, awaited_slot, awaited_at, param_in, around, body_of, end_with, member_end, eval}
use Rattle.dg_eval.proofs.RunGrowth.{Grows, grows_same, grows_on, then_grows, asking_grows, if_grows, all_grow}
use Rattle.dg_eval.proofs.BodyGrowth.{Seen, SeenGrows, tree_grows}
use Rattle.dg_eval.proofs.GrowthLemmas.{EvalGrows, LookGrows, content_grows, instance_grows, lazy_grows, give_grows, eval_grows}

option_grows : {A B : Type 0} (o : Option A) (f g : A → Run B) (d : Run B)
    → ((a : A) → Grows (f a) (g a)) → Grows (option_map_or f o d) (option_map_or g o d)
option_grows None f g d h = grows_same d
option_grows (Some a) f g d h = h a

got_grows : (doc : Doc) (f g : Eval) → EvalGrows f g → (l : Layer) (q : Place)
    → Grows (got_at doc f l q) (got_at doc g l q)
got_grows doc f g h (Value-F.Provider i k) q = instance_grows doc f g h i k q
got_grows doc f g h (Value-F.ProviderLazy i k) q = refl
got_grows doc f g h (Value-F.Lazy i k p) q =
    asking_grows (lazy i k p) _ _ (lazy_grows doc f g h i k p)
got_grows doc f g h other q = refl

look_at_grows : (f g : ℕ → ℕ → Run Value) → ((i k : ℕ) → Grows (f i k) (g i k))
    → (v : Value) (l : Layer) → Grows (look_at f v l) (look_at g v l)
look_at_grows f g h v (Value-F.Held i k) = h i k
look_at_grows f g h v other = refl

look_grows : (f g : Eval) → EvalGrows f g → (times : ℕ)
    → LookGrows (look f times) (look g (suc times))
look_grows f g h zero v = look_at_grows _ _ (λ i k. tt) v (out-Value v)
look_grows f g h (suc times) v =
    look_at_grows _ _ (λ i k. then_grows (asking (cell i k) (content f i k)) (asking (cell i k)
    (content g i k)) (look f times) (look g (suc times))
    (asking_grows (cell i k) (content f i k) (content g i k) (content_grows f g h i k))
    (look_grows f g h times)) v (out-Value v)

given_grows : (doc : Doc) (f g : Eval) → EvalGrows f g → (i : ℕ) (n : Node) (q : Place)
    → Grows (all (given doc f i n q)) (all (given doc g i n q))
given_grows doc f g h i n q =
    all_grow (λ d. given_one doc f i n q (suc d.0) d.1) (λ d. given_one doc g i n q (suc d.0) d.1)
    (enumerate_from 0 (deps doc n))
    (λ d. option_grows (target_of doc i n d.1) _ _ mistyped
    (λ t. give_grows doc f g h d.1.mode t.inst t.slot (then_step q (step_to n.kind (suc d.0)))))

producer_grows : (doc : Doc) (times i k : ℕ)
    → Grows (producer_from doc times i k) (producer_from doc (suc times) i k)
producer_grows doc zero i k = tt
producer_grows doc (suc times) i k =
    option_grows (node_at doc k) _ _ mistyped
    (λ n. if_grows (is_producer doc n) _ _ _ _ refl
    (option_grows (first_target doc i n) _ _ mistyped
    (λ t. producer_grows doc times t.inst t.slot)))

awaited_slot_grows : (doc : Doc) (f g : Eval) → EvalGrows f g → (times i k : ℕ) (q : Place)
    → Grows (awaited_slot doc f times i k q) (awaited_slot doc g (suc times) i k q)
awaited_slot_grows doc f g h times i k q =
    if_grows (option_map_or (is_production doc) (node_at doc k) false) _ _ _ _
    (then_grows (producer_from doc times i k) (producer_from doc (suc times) i k) _ _
    (producer_grows doc times i k) (λ t. grows_same (gives (producer_end t.inst t.slot))))
    (then_grows (instance doc f i k q) (instance doc g i k q) _ _ (instance_grows doc f g h i k q)
    (λ v. grows_same (gives (value_end v))))

awaited_grows : (doc : Doc) (f g : Eval) → EvalGrows f g → (times : ℕ) (l : Layer) (q : Place)
    → Grows (awaited_at doc f times l q) (awaited_at doc g (suc times) l q)
awaited_grows doc f g h times (Value-F.Provider i k) q = awaited_slot_grows doc f g h times i k q
awaited_grows doc f g h times other q = refl

abbrev seen : Doc → Eval → ℕ → List Value → Seen
seen doc f depth vs = record {
  param = param_in vs;
  got = λ p at. and_then (param_in vs p) (λ v. got_at doc f (out-Value v) at);
  awaited = λ p at. and_then (param_in vs p) (λ v. awaited_at doc f depth (out-Value v) at);
  look = look f depth;
}

seen_grows : (doc : Doc) (f g : Eval) → EvalGrows f g → (depth : ℕ) (vs : List Value)
    → SeenGrows (seen doc f depth vs) (seen doc g (suc depth) vs)
seen_grows doc f g h depth vs = record {
  param = λ p. grows_same (param_in vs p);
  got = λ p q. then_grows (param_in vs p) (param_in vs p) _ _ (grows_same (param_in vs p))
      (λ v. got_grows doc f g h (out-Value v) q);
  awaited = λ p q. then_grows (param_in vs p) (param_in vs p) _ _ (grows_same (param_in vs p))
      (λ v. awaited_grows doc f g h depth (out-Value v) q);
  look = look_grows f g h depth;
}

body_grows : (doc : Doc) (f g : Eval) → EvalGrows f g → (depth k : ℕ) (q : Place) (x : Item)
    → (vs : List Value)
    → Grows (option_map_or (λ body. (tree_part body).run (around doc f depth k q vs) 0 0)
    (body_of doc x) mistyped)
    (option_map_or (λ body. (tree_part body).run (around doc g (suc depth) k q vs) 0 0)
    (body_of doc x) mistyped)
body_grows doc f g h depth k q x vs =
    option_grows (body_of doc x) _ _ mistyped
    (λ body. tree_grows body k q (seen doc f depth vs) (seen doc g (suc depth) vs)
    (seen_grows doc f g h depth vs) 0 0)

end_grows : (doc : Doc) (f g : Eval) → EvalGrows f g → (depth k : ℕ) (q : Place) (x : Item)
    → (vs : List Value)
    → Grows (end_with doc f depth k q x vs) (end_with doc g (suc depth) k q x vs)
end_grows doc f g h depth k q (item.Binds m scope n param result) vs =
    grows_same (and_then (or_mistyped (only_of vs)) (λ v. gives (value_end v)))
end_grows doc f g h depth k q (item.Class inject scope n params interfaces) vs = refl
end_grows doc f g h depth k q x vs = body_grows doc f g h depth k q x vs

member_grows : (doc : Doc) (f g : Eval) → EvalGrows f g → (depth i k : ℕ) (n : Node) (q : Place)
    → (m : ℕ) → Grows (member_end doc f depth i k n q m) (member_end doc g (suc depth) i k n q m)
member_grows doc f g h depth i k n q m =
    then_grows (all (given doc f i n q)) (all (given doc g i n q)) _ _ (given_grows doc f g h i n q)
    (λ vs. option_grows (item_at doc m) _ _ mistyped (λ x. end_grows doc f g h depth k q x vs))

-- where the body of a member ends, at each depth above
pub member_grows_to : (doc : Doc) (d e i k : ℕ) (n : Node) (q : Place) (m : ℕ) → d ≤ e
    → Grows (member_end doc (eval doc d) d i k n q m) (member_end doc (eval doc e) e i k n q m)
member_grows_to doc d zero i k n q m le =
    let same : d ≡ 0 = omega arith in
    let P : ℕ → Type 0 = λ e. Grows (member_end doc (eval doc d) d i k n q m)
    (member_end doc (eval doc e) e i k n q m) in
    subst P same (grows_same (member_end doc (eval doc d) d i k n q m))
member_grows_to doc d (suc e) i k n q m le =
    elim (cases_lt d (suc e)) [
      | inl lt ↦ grows_on (member_end doc (eval doc d) d i k n q m)
          (member_end doc (eval doc e) e i k n q m)
          (member_end doc (eval doc (suc e)) (suc e) i k n q m)
          (member_grows_to doc d e i k n q m (omega arith))
          (member_grows doc (eval doc e) (eval doc (suc e)) (eval_grows doc e) e i k n q m)
      | inr above ↦ (let same : d ≡ suc e = omega arith in
          let P : ℕ → Type 0 = λ e. Grows (member_end doc (eval doc d) d i k n q m)
          (member_end doc (eval doc e) e i k n q m) in
          subst P same (grows_same (member_end doc (eval doc d) d i k n q m)))
    ]
