-- What all who ask for a cell are given.
use Rattle.std.proofs.Common.{◌≡◌, ◌≢◌, ◌≤◌, ℕ, suc, Bool, true, false, cond, List, [], ◌∷◌, Contains, Option, Some, None, Result, Ok, Err, refl, sym, ap, subst, ◌∙◌, arith, inl, inr}
use Rattle.std.specs.Prelude.{IsSome}
use Rattle.std.specs.Option.{option_map_or}
use Rattle.std.proofs.lemmas.Bool.{false≢true, cases_lt, or_right}
use Rattle.std.proofs.lemmas.Option.{none-some}
use Rattle.dg_decl.specs.declared.document.Doc.{Doc}
use Rattle.dg_decl.specs.declared.graph.Node.{Node}
use Rattle.dg_decl.specs.declared.graph.NodeKind.{NodeKind}
use Rattle.dg_decl.specs.declared.graph.NodeKind.TheVariants as node
use Rattle.dg_decl.specs.Walks.{root}
use Rattle.dg_decl.specs.Graph.{node_of, nodes}
use Rattle.dg_decl.specs.Sizes.{is_producer, is_production, is_entry}
use Rattle.dg_decl.proofs.GraphLemmas.{productions_by_short_walks}
use Rattle.dg_decl.proofs.MemberLemmas.{in_front, in_got}
use Rattle.dg_value.specs.declared.place.Place.{Place}
use Rattle.dg_value.specs.declared.value.Failure.{Failure}
use Rattle.dg_value.specs.declared.value.Kept.TheOpen.{Value-F}
use Rattle.dg_value.specs.declared.value.Kept.TheViews.{out-roll-Value}
use Rattle.dg_value.specs.declared.value.Value.{Value, out-Value}
use Rattle.dg_value.specs.declared.value.Value.TheVariants as value
use Rattle.dg_eval.specs.Runs.{Asked, cell, Run, gives, before, and_then, asking, as_outcome, outcome_of}
use Rattle.dg_eval.specs.Bodies.{value_end, producer_end}
use Rattle.dg_eval.specs.Meaning.{node_at, is_cell_node, is_cell, cell_place, Eval, content, held, instance, look_at, look, Target, producer_from, awaited_slot, of_end, eval, content_of}
use Rattle.dg_eval.proofs.RunGrowth.{Grows, stays}
use Rattle.dg_eval.proofs.RunResults.{Allowed, Gives}
use Rattle.dg_eval.proofs.GrowthLemmas.{eval_grows_to, content_grows}
use Rattle.dg_eval.proofs.TargetLemmas.{ShallowSlot}
use Rattle.dg_eval.proofs.TotalLemmas.{CallsAreEdges, Within, Good}
use Rattle.dg_eval.proofs.AcceptedDepth.{StagesFindNothing, stages_of_accepted, accepted_shallow}
use Rattle.dg_eval.proofs.CallLemmas.{calls_are_edges}
use Rattle.dg_eval.proofs.PlaceLemmas.{placing}
use Rattle.dg_eval.proofs.StandLemmas.{all_stand}
use Rattle.dg_eval.specs.Laws.{IsPlaceOf}
use Rattle.dg_promises.specs.Uses.{Way, by_request, by_provider, by_lazy, given_by, ComesTo, as_held, HasOneValue, OneValueForEachInstance, AwaitLeads, HasOneContent, OneContentForEachProducer}

-- ---- at each depth

there_not_none : {A : Type 0} (x : Option A) → IsSome x → x ≢ None
there_not_none None there e = false≢true there
there_not_none (Some a) there e = none-some a (sym e)

some_there : {A : Type 0} (x : Option A) (a : A) → x ≡ Some a → IsSome x
some_there {A} x a e = let P : Option A → Type 0 = λ y. IsSome y in subst P (sym e) refl

-- what grows with the depth comes to what it is at a depth of 128
comes : {A : Type 0} (at : ℕ → Run A) (r : Result A Failure) (asked : List Asked)
    → at 128 ≡ Some (r, asked) → ((d e : ℕ) → d ≤ e → Grows (at d) (at e)) → ComesTo at r asked
comes at r asked is grows = record {
  same = λ d there. elim (cases_lt d 128) [
    | inl lt ↦ sym (stays (at d) (at 128) (grows d 128 (omega arith))
        (there_not_none (at d) there)) ∙ is
    | inr le ↦ stays (at 128) (at d) (grows 128 d le)
        (there_not_none (at 128) (some_there (at 128) (r, asked) is)) ∙ is
  ];
  is_there = λ d le. some_there (at d) (r, asked) (stays (at 128) (at d) (grows 128 d le)
      (there_not_none (at 128) (some_there (at 128) (r, asked) is)) ∙ is);
}

made_there : {A B : Type 0} (make : Run A → Run B) (x : Run A) → make None ≡ None
    → IsSome (make x) → IsSome x
made_there {A} {B} make None nothing there =
    let P : Run B → Type 0 = λ y. IsSome y in absurd (false≢true (subst P nothing there))
made_there make (Some r) nothing there = refl

-- what is made of a run comes to what is made of that to which the run comes
comes_made : {A B : Type 0} (at : ℕ → Run A) (made : ℕ → Run B) (make : Run A → Run B)
    → (r : Result A Failure) (asked : List Asked) (s : Result B Failure) (others : List Asked)
    → ((d : ℕ) → made d ≡ make (at d)) → make None ≡ None
    → make (Some (r, asked)) ≡ Some (s, others) → ComesTo at r asked → ComesTo made s others
comes_made {A} {B} at made make r asked s others is nothing whole c =
    let P : Run B → Type 0 = λ y. IsSome y in
    record {
      same = λ d there. is d ∙ (ap make (c.same d
          (made_there make (at d) nothing (subst P (is d) there))) ∙ whole);
      is_there = λ d le. some_there (made d) (s, others)
          (is d ∙ (ap make (c.same d (c.is_there d le)) ∙ whole));
    }

-- ---- the content of a cell

cell_no_entry : (doc : Doc) (class : ℕ) (kind : NodeKind)
    → is_cell_node doc (node_of class kind) ≡ true → is_entry (node_of class kind) ≡ false
cell_no_entry doc class (node.Bound b) h = refl
cell_no_entry doc class (node.Multi key) h = refl
cell_no_entry doc class (node.Opt key) h = refl
cell_no_entry doc class (node.EntryOf e) h = absurd (false≢true h)

-- a node of which a test holds
tested_node : (p : Node → Bool) (o : Option Node) → option_map_or p o false ≡ true
    → (n : Node) × (o ≡ Some n) × (p n ≡ true)
tested_node p None h = absurd (false≢true h)
tested_node p (Some n) h = (n, refl, h)

cell_shallow : (doc : Doc) → StagesFindNothing doc → (k : ℕ) → is_cell doc k ≡ true
    → ShallowSlot doc 128 k
unfolding is_cell
cell_shallow doc none k h =
    let n = tested_node (is_cell_node doc) (node_at doc k) h in (
      n.0,
      n.1,
      accepted_shallow doc none n.0 (in_got (nodes doc) k n.0 n.1)
          (cell_no_entry doc n.0.class n.0.kind n.2),
    )

-- a run that has a result
record HasResult (x : Run Value) : Type 0 where
  result : Result Value Failure
  asked : List Asked
  is : x ≡ Some (result, asked)

has_result : (R : Allowed) (P : Value → Type 0) (x : Run Value) → Gives R P x → HasResult x
has_result R P None g = absurd g
has_result R P (Some (r, asked)) g = record { result = r; asked = asked; is = refl }

cell_result : (doc : Doc) → StagesFindNothing doc → CallsAreEdges doc → (i k : ℕ)
    → is_cell doc k ≡ true → HasResult (content (eval doc 128) i k)
cell_result doc none ok i k h =
    has_result (Within doc (IsPlaceOf doc) 127) (Good doc (IsPlaceOf doc) 127)
    (content (eval doc 128) i k)
    (all_stand doc none ok 127 i k (cell_place i k) (omega arith) (cell_shallow doc none k h)
    ((placing doc none).cell i k))

content_comes : (doc : Doc) (i k : ℕ) (c : HasResult (content (eval doc 128) i k))
    → ComesTo (λ d. content (eval doc d) i k) c.result c.asked
content_comes doc i k c =
    comes (λ d. content (eval doc d) i k) c.result c.asked c.is
    (λ d e le. content_grows (eval doc d) (eval doc e) (eval_grows_to doc d e le) i k)

-- ---- one value

-- the cell that holds the value of a run, or its failure
abbrev in_cell : ℕ → ℕ → Run Value → Run Value
in_cell i k x = asking (cell i k) (and_then x (λ v. gives (value.Held i k)))

in_cell_is : (i k : ℕ) (r : Result Value Failure) (asked : List Asked)
    → in_cell i k (Some (r, asked)) ≡ Some (as_held i k r, cell i k ∷ [])
in_cell_is i k (Ok v) asked = refl
in_cell_is i k (Err f) asked = refl

instance_in_cell : (doc : Doc) (f : Eval) (i k : ℕ) (q : Place) → is_cell doc k ≡ true
    → instance doc f i k q ≡ in_cell i k (content f i k)
instance_in_cell doc f i k q h = ap (λ b. cond b (held f i k) (f i k q)) h

given_in_cell : (doc : Doc) (d i k : ℕ) (w : Way) → is_cell doc k ≡ true
    → given_by doc d i k w ≡ in_cell i k (content (eval doc d) i k)
given_in_cell doc d i k (by_request q) h = instance_in_cell doc (eval doc d) i k q h
given_in_cell doc d i k (by_provider q) h = instance_in_cell doc (eval doc d) i k q h
given_in_cell doc d i k (by_lazy p) h = instance_in_cell doc (eval doc d) i k _ h

out_held : (i k : ℕ) → out-Value (value.Held i k) ≡ Value-F.Held i k
out_held i k = ap out-Value (sym (value.rolls-Held i k)) ∙ out-roll-Value (Value-F.Held i k)

look_held : (f : Eval) (times i k : ℕ) → look f (suc times) (value.Held i k)
    ≡ and_then (asking (cell i k) (content f i k)) (look f times)
look_held f times i k =
    ap (look_at (λ j l. and_then (asking (cell j l) (content f j l)) (look f times))
    (value.Held i k)) (out_held i k)

looked_there : (x : Run Value) (c : Asked) (next : Value → Run Value)
    → IsSome (and_then (asking c x) next) → IsSome x
looked_there None c next there = absurd (false≢true there)
looked_there (Some r) c next there = refl

look_comes : (doc : Doc) (i k : ℕ) (c : HasResult (content (eval doc 128) i k)) (d times : ℕ)
    → IsSome (look (eval doc d) (suc times) (value.Held i k))
    → look (eval doc d) (suc times) (value.Held i k)
    ≡ and_then (Some (c.result, cell i k ∷ [])) (look (eval doc d) times)
look_comes doc i k c d times there =
    let P : Run Value → Type 0 = λ y. IsSome y in
    let same = look_held (eval doc d) times i k in
    same ∙ ap (λ x. and_then (asking (cell i k) x) (look (eval doc d) times))
    ((content_comes doc i k c).same d
    (looked_there (content (eval doc d) i k) (cell i k) (look (eval doc d) times)
    (subst P same there)))

one_value : (doc : Doc) (i k : ℕ) → is_cell doc k ≡ true
    → HasResult (content (eval doc 128) i k) → HasOneValue doc i k
unfolding content_of
one_value doc i k h c = record {
  result = c.result;
  asked = c.asked;
  content = c.is;
  given = λ w. comes_made (λ d. content (eval doc d) i k) (λ d. given_by doc d i k w) (in_cell i k)
      c.result c.asked (as_held i k c.result) (cell i k ∷ []) (λ d. given_in_cell doc d i k w h)
      refl (in_cell_is i k c.result c.asked) (content_comes doc i k c);
  behind = look_comes doc i k c;
}

pub one_value_for_each_instance : OneValueForEachInstance
one_value_for_each_instance doc accepted i k h =
    let none = stages_of_accepted doc accepted in
    one_value doc i k h (cell_result doc none (calls_are_edges doc none) i k h)

-- ---- one content

before_nothing : {A : Type 0} (x : Run A) → before [] x ≡ x
before_nothing None = refl
before_nothing (Some (r, more)) = refl

-- the end of the chain from a producer is the producer itself
chain_ends : (doc : Doc) (times i k : ℕ) (n : Node) → node_at doc k ≡ Some n
    → is_producer doc n ≡ true
    → producer_from doc (suc times) i k ≡ gives (record { inst = i; slot = k })
chain_ends doc times i k n is h = rw is (rw h refl)

is_awaited : (doc : Doc) (n : Node) → Contains (nodes doc) n → is_producer doc n ≡ true
    → is_production doc n ≡ true
is_awaited doc n among h =
    (productions_by_short_walks doc n among).1 (n, root n (in_front n []), h)

leads_itself : (doc : Doc) (times i k : ℕ) (n : Node) → node_at doc k ≡ Some n
    → is_producer doc n ≡ true → AwaitLeads doc (suc times) i k i k
leads_itself doc times i k n is h = record {
  production = ap (λ o. option_map_or (is_production doc) o false) is
      ∙ is_awaited doc n (in_got (nodes doc) k n is) h;
  chain_end = chain_ends doc times i k n is h;
}

await_is : (doc : Doc) (f : Eval) (times j l i k : ℕ) (q : Place) → AwaitLeads doc times j l i k
    → and_then (awaited_slot doc f times j l q) (of_end f) ≡ asking (cell i k) (content f i k)
await_is doc f times j l i k q leads =
    ap (λ b. and_then (cond b (and_then (producer_from doc times j l)
    (λ (t : Target). gives (producer_end t.inst t.slot)))
    (and_then (instance doc f j l q) (λ v. gives (value_end v)))) (of_end f)) leads.production
    ∙ (ap (λ x. and_then (and_then x (λ (t : Target). gives (producer_end t.inst t.slot))) (of_end
    f)) leads.chain_end
    ∙ before_nothing (asking (cell i k) (content f i k)))

producer_is_cell : (doc : Doc) (k : ℕ) (n : Node) → node_at doc k ≡ Some n
    → is_producer doc n ≡ true → is_cell doc k ≡ true
unfolding is_cell
producer_is_cell doc k n is h =
    ap (λ o. option_map_or (is_cell_node doc) o false) is ∙ or_right _ (is_producer doc n) h

one_content : (doc : Doc) (i k : ℕ) (n : Node) → node_at doc k ≡ Some n
    → is_producer doc n ≡ true → HasResult (content (eval doc 128) i k) → HasOneContent doc i k
unfolding content_of
one_content doc i k n is h c = record {
  result = c.result;
  asked = c.asked;
  content = c.is;
  produced = λ q. comes_made (λ d. content (eval doc d) i k) _ (λ x. outcome_of (in_cell i k x))
      c.result c.asked (Ok (as_outcome (as_held i k c.result))) (cell i k ∷ [])
      (λ d. ap outcome_of
      (instance_in_cell doc (eval doc d) i k q (producer_is_cell doc k n is h)))
      refl (ap outcome_of (in_cell_is i k c.result c.asked)) (content_comes doc i k c);
  leads = λ times. leads_itself doc times i k n is h;
  awaited = λ times j l q leads. comes_made (λ d. content (eval doc d) i k) _ (asking (cell i k))
      c.result c.asked c.result (cell i k ∷ [])
      (λ d. await_is doc (eval doc d) times j l i k q leads) refl refl (content_comes doc i k c);
}

pub one_content_for_each_producer : OneContentForEachProducer
one_content_for_each_producer doc accepted i k h =
    let none = stages_of_accepted doc accepted in
    let n = tested_node (is_producer doc) (node_at doc k) h in
    one_content doc i k n.0 n.1 n.2
    (cell_result doc none (calls_are_edges doc none) i k (producer_is_cell doc k n.0 n.1 n.2))
