-- Evaluation is total, where called parameters are ways along edges.
use Rattle.std.proofs.Common.{◌≢◌, ◌≤◌, ℕ, Some, None, sym, arith, rules}
use Rattle.std.specs.Prelude.{IsSome}
use Rattle.std.proofs.lemmas.Option.{none-some}
use Rattle.dg_types.specs.declared.key.Mode.{Mode}
use Rattle.dg_types.specs.declared.key.Mode.TheVariants as mode
use Rattle.dg_decl.specs.declared.document.Doc.{Doc}
use Rattle.dg_decl.specs.Graph.{nodes}
use Rattle.dg_decl.proofs.MemberLemmas.{in_got}
use Rattle.dg_value.specs.declared.place.Place.{Place}
use Rattle.dg_value.specs.declared.place.PlaceStep.TheVariants as step
use Rattle.dg_value.specs.declared.value.Value.{Value}
use Rattle.dg_value.specs.Places.{then_step}
use Rattle.dg_eval.specs.Runs.{Run}
use Rattle.dg_eval.specs.Meaning.{cell_place, content, instance, lazy_content, give, eval}
use Rattle.dg_eval.specs.Laws.{IsSettled, IsSlotOf, IsEvaluated, EvaluationIsTotal}
use Rattle.dg_eval.proofs.RunGrowth.{Grows, stays}
use Rattle.dg_eval.proofs.RunResults.{Allowed, Gives, outcome_gives}
use Rattle.dg_eval.proofs.GrowthLemmas.{eval_grows_to, content_grows, lazy_grows, give_grows}
use Rattle.dg_eval.proofs.TargetLemmas.{ShallowSlot}
use Rattle.dg_eval.proofs.BodyResults.{Any}
use Rattle.dg_eval.proofs.RunResults.{gives_more}
use Rattle.dg_eval.proofs.TotalLemmas.{Spot, Placed, Placing, CallsAreEdges, Within, Good, instance_has}
use Rattle.dg_eval.proofs.NodeLemmas.{eval_has}
use Rattle.dg_eval.proofs.AcceptedDepth.{StagesFindNothing, stages_of_accepted, accepted_shallow, target_shallow_slot}
use Rattle.dg_eval.proofs.CallLemmas.{calls_are_edges}

-- any place
abbrev Anywhere : Spot
Anywhere i s q = Unit {0}

any_placed : (m : Mode) (i s : ℕ) (q : Place) → Placed Anywhere Anywhere m i s q
any_placed mode.Instance i s q = tt
any_placed mode.Produced i s q = tt
any_placed mode.Lazy i s q = tt
any_placed other i s q = tt

anywhere : (doc : Doc) → StagesFindNothing doc → Placing doc Anywhere Anywhere
anywhere doc none = record {
  cell = λ i s. tt;
  inside = λ i s p n is h. tt;
  arg = λ i s q n m d t is at among e. any_placed d.mode t.inst t.slot _;
  slot = λ i n d t e. target_shallow_slot doc none i n d t e;
  call = λ i s q n c p d t is at called got e. any_placed _ t.inst t.slot _;
}

is_there : {A : Type 0} (R : Allowed) (P : A → Type 0) (x : Run A) → Gives R P x → IsSome x
is_there R P None g = absurd g
is_there R P (Some r) g = search rules

pub no_none : {A : Type 0} (R : Allowed) (P : A → Type 0) (x : Run A) → Gives R P x → x ≢ None
no_none R P None g e = absurd g
no_none R P (Some r) g e = none-some r (sym e)

settled : {A : Type 0} (R : Allowed) (P : A → Type 0) (at : ℕ → Run A) → Gives R P (at 128)
    → ((d e : ℕ) → d ≤ e → Grows (at d) (at e)) → IsSettled at
settled R P at g grows = record {
  is_there = is_there R P (at 128) g;
  same = λ d le. stays (at 128) (at d) (grows 128 d le) (no_none R P (at 128) g);
}

pub slot_shallow : (doc : Doc) → StagesFindNothing doc → (i k : ℕ) → IsSlotOf doc i k
    → ShallowSlot doc 128 k
slot_shallow doc none i k slot = (
  slot.node,
  slot.is_node,
  accepted_shallow doc none slot.node (in_got (nodes doc) k slot.node slot.is_node) slot.no_entry,
)

give_any : (doc : Doc) (f : ℕ → ℕ → Place → Run Value) (R : Allowed) (P : Value → Type 0) (m : Mode)
    → (i k : ℕ) (q : Place) → Gives R P (instance doc f i k q)
    → Gives R Any (give doc f m i k q)
give_any doc f R P mode.Instance i k q g =
    gives_more R P Any (instance doc f i k q) (λ v h. tt) g
give_any doc f R P mode.Produced i k q g =
    outcome_gives R P Any (instance doc f i k q) g (λ v h. tt) (λ e. tt)
give_any doc f R P mode.Provider i k q g = (tt, tt)
give_any doc f R P mode.Producer i k q g = (tt, tt)
give_any doc f R P mode.ProviderLazy i k q g = (tt, tt)
give_any doc f R P mode.Lazy i k q g = (tt, tt)

pub total_by_calls : (doc : Doc) → StagesFindNothing doc → CallsAreEdges doc → (i k : ℕ)
    → IsSlotOf doc i k → IsEvaluated doc i k
total_by_calls doc none ok i k slot =
    let shallow : ShallowSlot doc 128 k = slot_shallow doc none i k slot in
    let placing = anywhere doc none in
    let has = eval_has doc Anywhere Anywhere placing ok 128 in
    record {
      evaluated = λ q. settled (Within doc Anywhere 127) (Good doc Anywhere 127)
          (λ d. eval doc d i k q) (has 127 i k q (omega arith) shallow tt)
          (λ d e le. eval_grows_to doc d e le i k q);
      given = λ m q. settled (Within doc Anywhere 128) Any (λ d. give doc (eval doc d) m i k q)
          (give_any doc (eval doc 128) (Within doc Anywhere 128) (Good doc Anywhere 128) m i k q
          (instance_has doc Anywhere Anywhere placing 128 (eval doc 128) has 128 i k q
          (omega arith) shallow tt))
          (λ d e le. give_grows doc (eval doc d) (eval doc e) (eval_grows_to doc d e le) m i k q);
      contents = settled (Within doc Anywhere 127) (Good doc Anywhere 127)
          (λ d. content (eval doc d) i k)
          (has 127 i k (cell_place i k) (omega arith) shallow tt)
          (λ d e le. content_grows (eval doc d) (eval doc e) (eval_grows_to doc d e le) i k);
      lazies = λ p. settled (Within doc Anywhere 128) (Good doc Anywhere 128)
          (λ d. lazy_content doc (eval doc d) i k p)
          (instance_has doc Anywhere Anywhere placing 128 (eval doc 128) has 128 i k
          (then_step p step.Inside) (omega arith) shallow tt)
          (λ d e le. lazy_grows doc (eval doc d) (eval doc e) (eval_grows_to doc d e le) i k p);
    }

pub evaluation_is_total : EvaluationIsTotal
evaluation_is_total doc accepted i k slot =
    let none = stages_of_accepted doc accepted in
    total_by_calls doc none (calls_are_edges doc none) i k slot
