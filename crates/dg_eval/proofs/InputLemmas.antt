-- In an accepted document each input leads where its dependency is looked up.
use Rattle.std.proofs.Common.{◌≡◌, ℕ, zero, suc, ◌<◌, ◌==◌, Bool, true, false, cond, List, [], ◌∷◌, length, find, position, slice_get, Contains, Option, Some, None, option_map, option_and_then, unwrap_or, refl, sym, ap, subst, ◌∙◌, arith}
use Rattle.std.specs.Option.{option_map_or}
use Rattle.std.proofs.lemmas.Bool.{eq-eqb, eqb-true}
use Rattle.std.proofs.lemmas.Option.{none-some, same_Some, slice_get-get_or, slice_get-map, slice_get_within}
use Rattle.dg_types.specs.Texts.{key_text}
use Rattle.dg_decl.specs.declared.document.Doc.{Doc}
use Rattle.dg_decl.specs.declared.binding.BindRef.TheVariants as binding
use Rattle.dg_decl.specs.declared.binding.Found.{Found}
use Rattle.dg_decl.specs.declared.binding.Found.TheVariants as found
use Rattle.dg_decl.specs.declared.graph.Node.{Node}
use Rattle.dg_decl.specs.declared.graph.NodeKind.{NodeKind}
use Rattle.dg_decl.specs.declared.graph.NodeKind.TheVariants as node
use Rattle.dg_decl.specs.declared.violation.Rule.TheVariants as rule
use Rattle.dg_decl.specs.Diagnostics.{IsAccepted}
use Rattle.dg_decl.specs.Components.{class_count, parent_of, walk, ancestors, chain, is_number}
use Rattle.dg_decl.specs.Graph.{Dependency, deps, target, node_found, node_of, nodes, number_of, same_node}
use Rattle.dg_decl.specs.Stages.Bindings.{at_request, many_text, scoped_class_text, missing_binding, duplicate_bindings, incompatibly_scoped_bindings, bindings_at, bindings_stage}
use Rattle.dg_decl.proofs.GraphLemmas.{target_is_node}
use Rattle.dg_decl.proofs.MemberLemmas.{in_filter_map, out_filter_map, out_option_map, in_got}
use Rattle.dg_decl.proofs.NodeEquality.{node_decides}
use Rattle.dg_slots.specs.declared.plan.Input.{Input}
use Rattle.dg_slots.specs.declared.plan.Slot.{Slot}
use Rattle.dg_slots.specs.declared.session.Inst.{Inst}
use Rattle.dg_slots.specs.Plans.{level_of, through, input_of, inputs_of, slot_of, slots_of, plan_of}
use Rattle.dg_slots.specs.Sessions.{insts_of}
use Rattle.dg_eval.specs.World.{inst_at, class_of_inst, parent_of_inst, chain_of_inst, up, link}
use Rattle.dg_eval.specs.Meaning.{node_at, target_of, asking_inst}
use Rattle.dg_eval.specs.Inputs.{slot_at, LeadsToSlot, InputsLeadToSlots, InputLeads, InputsAreLookUps, NoInputIsLeftOut}
use Rattle.dg_eval.proofs.AcceptedDepth.{stages_of_accepted, nil_left, nil_right, flat_nil}
use Rattle.dg_eval.proofs.TargetLemmas.{number_is}
use Rattle.dg_eval.proofs.InputLists.{first_place, position_is, has_place, EachGiven, given_at, given_length}
use Rattle.dg_eval.proofs.InstanceLemmas.{SessionFindsNothing, session_of_accepted, none_there, parent_is, link_is}
use Rattle.dg_eval.proofs.AboveLemmas.{AskedIn, needs_up}

-- ---- the chain of an instance and that of its class

-- at this place of a chain the first instance of a class stands
record StandsAt (doc : Doc) (a k : ℕ) (chain_up : List ℕ) : Type 0 where
  inst : ℕ
  at : slice_get chain_up k ≡ Some inst
  class : class_of_inst doc inst ≡ Some a
  first : find (λ o. is_number a (class_of_inst doc o)) chain_up ≡ Some inst

stands_here : (doc : Doc) (a k j c : ℕ) (rest : List ℕ) → class_of_inst doc j ≡ Some c
    → (c == a) ≡ true → Some 0 ≡ Some k → StandsAt doc a k (j ∷ rest)
stands_here doc a k j c rest e same is = record {
  inst = j;
  at = ap (slice_get (j ∷ rest)) (sym (same_Some 0 k is));
  class = e ∙ ap Some (eqb-true c a same);
  first = ap (λ o. cond (is_number a o) (Some j) (find (λ o. is_number a (class_of_inst doc o))
      rest)) e
      ∙ ap (λ b. cond b (Some j) (find (λ o. is_number a (class_of_inst doc o)) rest)) same;
}

stands_later : (doc : Doc) (a k m j c : ℕ) (rest : List ℕ) → class_of_inst doc j ≡ Some c
    → (c == a) ≡ false → suc m ≡ k → StandsAt doc a m rest → StandsAt doc a k (j ∷ rest)
stands_later doc a k m j c rest e other is w = record {
  inst = w.inst;
  at = ap (slice_get (j ∷ rest)) (sym is) ∙ w.at;
  class = w.class;
  first = ap (λ o. cond (is_number a o) (Some j) (find (λ o. is_number a (class_of_inst doc o))
      rest)) e
      ∙ ap (λ b. cond b (Some j) (find (λ o. is_number a (class_of_inst doc o)) rest)) other
      ∙ w.first;
}

no_walk : (next : ℕ → Option ℕ) (steps : ℕ) → walk next steps None ≡ []
no_walk next zero = refl
no_walk next (suc steps) = refl

abbrev is_class : ℕ → ℕ → Bool
is_class a c = c == a

-- what the chain of an instance has where that of its class has a class
abbrev Agrees : Doc → ℕ → ℕ → ℕ → Type 0
Agrees doc a steps bound =
    (j c k : ℕ) → class_of_inst doc j ≡ Some c → j < bound
    → first_place (is_class a) (walk (parent_of doc) steps (Some c)) ≡ Some k
    → StandsAt doc a k (walk (parent_of_inst doc) bound (Some j))

agrees_above : (doc : Doc) → SessionFindsNothing doc → (a steps bound j c k m : ℕ) (o : Option ℕ)
    → Agrees doc a steps bound → parent_of doc c ≡ o → class_of_inst doc j ≡ Some c
    → j < suc bound → (c == a) ≡ false → suc m ≡ k
    → first_place (is_class a) (walk (parent_of doc) steps o) ≡ Some m
    → StandsAt doc a k (j ∷ walk (parent_of_inst doc) bound (parent_of_inst doc j))
agrees_above doc none a steps bound j c k m None above is e lt other next found =
    absurd (none-some m (sym (ap (first_place (is_class a)) (no_walk (parent_of doc) steps))
    ∙ found))
agrees_above doc none a steps bound j c k m (Some p) above is e lt other next found =
    let q = parent_is doc none j c p e is in
    let before : q.number < j = q.before in
    let P : List ℕ → Type 0 = StandsAt doc a m in
    stands_later doc a k m j c _ e other next
    (subst P (ap (walk (parent_of_inst doc) bound) (sym q.is_parent))
    (above q.number p m q.class (omega arith) found))

agrees_by : (doc : Doc) → SessionFindsNothing doc → (a steps bound j c k : ℕ) (b : Bool)
    → Agrees doc a steps bound → class_of_inst doc j ≡ Some c → j < suc bound → (c == a) ≡ b
    → cond b (Some 0) (option_map (λ k. suc k) (first_place (is_class a) (walk (parent_of doc) steps
    (parent_of doc c)))) ≡ Some k
    → StandsAt doc a k (j ∷ walk (parent_of_inst doc) bound (parent_of_inst doc j))
agrees_by doc none a steps bound j c k true above e lt is found =
    stands_here doc a k j c _ e is found
agrees_by doc none a steps bound j c k false above e lt is found =
    let m = out_option_map (λ k. suc k) (first_place (is_class a) (walk (parent_of doc) steps
    (parent_of doc c))) k found in
    agrees_above doc none a steps bound j c k m.0 (parent_of doc c) above refl e lt is m.2 m.1

agrees : (doc : Doc) → SessionFindsNothing doc → (a steps bound : ℕ) → Agrees doc a steps bound
agrees doc none a zero bound j c k e lt found = absurd (none-some k found)
agrees doc none a (suc steps) zero j c k e lt found = absurd (omega arith)
agrees doc none a (suc steps) (suc bound) j c k e lt found =
    agrees_by doc none a steps bound j c k (c == a) (agrees doc none a steps bound) e lt refl found

inst_below : (doc : Doc) (j c : ℕ) → class_of_inst doc j ≡ Some c → j < length (insts_of doc)
inst_below doc j c e =
    let x = out_option_map (λ (x : Inst). x.class) (inst_at doc j) c e in
    slice_get_within (insts_of doc) j x.0 x.1

-- an instance of each class of the chain stands on the chain of an instance, at the same place
chains_agree : (doc : Doc) → SessionFindsNothing doc → (j c a k : ℕ)
    → class_of_inst doc j ≡ Some c → position (is_class a) (chain doc c) ≡ Some k
    → StandsAt doc a k (chain_of_inst doc j)
unfolding chain ancestors chain_of_inst
chains_agree doc none j c a k e found =
    agrees doc none a (suc (class_count doc)) (length (insts_of doc)) j c k e
    (inst_below doc j c e) (sym (position_is (is_class a) (chain doc c)) ∙ found)

-- ---- a request finds one node

record FindsNothingBroken (doc : Doc) (n : Node) : Type 0 where
  missing : missing_binding doc n ≡ []
  many : duplicate_bindings doc n ≡ []
  scoped : incompatibly_scoped_bindings doc n ≡ []

breaks_nothing : (doc : Doc) → bindings_stage doc ≡ [] → (n : Node) → Contains (nodes doc) n
    → FindsNothingBroken doc n
unfolding bindings_stage bindings_at
breaks_nothing doc e n among =
    let here = flat_nil (bindings_at doc) (nodes doc) n e among in
    let later = nil_right (missing_binding doc n) _ here in
    record {
      missing = nil_left (missing_binding doc n) _ here;
      many = nil_left (duplicate_bindings doc n) _ later;
      scoped = nil_left (incompatibly_scoped_bindings doc n) _
          (nil_right (duplicate_bindings doc n) _ later);
    }

missing_is : (doc : Doc) (n : Node) (d : Dependency) → Contains (deps doc n) d
    → d.found ≡ found.Nothing
    → Contains (missing_binding doc n) (at_request rule.MissingBinding (key_text d.key) doc n d)
unfolding missing_binding
missing_is doc n d c e = in_filter_map _ (deps doc n) d _ c (rw e refl)

many_is : (doc : Doc) (n : Node) (d : Dependency) (os : _) → Contains (deps doc n) d
    → d.found ≡ found.Many os
    → Contains (duplicate_bindings doc n)
    (at_request rule.DuplicateBindings (many_text doc d.key os) doc n d)
unfolding duplicate_bindings
many_is doc n d os c e = in_filter_map _ (deps doc n) d _ c (rw e refl)

scoped_is : (doc : Doc) (n : Node) (d : Dependency) (i : _) → Contains (deps doc n) d
    → d.found ≡ found.BadScope i
    → Contains (incompatibly_scoped_bindings doc n)
    (at_request rule.IncompatiblyScopedBindings (scoped_class_text doc i) doc n d)
unfolding incompatibly_scoped_bindings
scoped_is doc n d i c e = in_filter_map _ (deps doc n) d _ c (rw e refl)

found_node : (doc : Doc) (n : Node) (d : Dependency) → FindsNothingBroken doc n
    → Contains (deps doc n) d → (f : Found) → d.found ≡ f
    → (t : Node) × (node_found d.class d.key f ≡ Some t)
found_node doc n d none c (found.One o b) e = (node_of o (node.Bound b), refl)
found_node doc n d none c (found.SetOf os) e = (node_of d.class (node.Multi d.key), refl)
found_node doc n d none c (found.MapOf os) e = (node_of d.class (node.Multi d.key), refl)
found_node doc n d none c found.OptionalOf e = (node_of d.class (node.Opt d.key), refl)
found_node doc n d none c (found.Many os) e =
    absurd (none_there _ _ none.many (many_is doc n d os c e))
found_node doc n d none c (found.BadScope i) e =
    absurd (none_there _ _ none.scoped (scoped_is doc n d i c e))
found_node doc n d none c found.Nothing e =
    absurd (none_there _ _ none.missing (missing_is doc n d c e))

-- a dependency finds a node, which has a number
record FindsSlot (doc : Doc) (d : Dependency) : Type 0 where
  found : Node
  is_target : target d ≡ Some found
  slot : ℕ
  is_slot : number_of (nodes doc) found ≡ Some slot

finds_slot : (doc : Doc) → bindings_stage doc ≡ [] → (n : Node) (d : Dependency)
    → Contains (nodes doc) n → Contains (deps doc n) d → FindsSlot doc d
finds_slot doc none n d among c =
    let t = found_node doc n d (breaks_nothing doc none n among) c d.found refl in
    let here = target_is_node doc n t.0 among (in_filter_map target (deps doc n) d t.0 c t.1) in
    let k = has_place (same_node t.0) (nodes doc) t.0 here ((node_decides t.0 t.0).1 refl) in
    record { found = t.0; is_target = t.1; slot = k.0; is_slot = k.1 }

-- ---- the input for a dependency

then_is : {A B : Type 0} (f : A → Option B) (o : Option A) (x : A) (y : Option B) → o ≡ Some x
    → f x ≡ y → option_and_then f o ≡ y
then_is f o x y e h = ap (option_and_then f) e ∙ h

abbrev input_to : Doc → Node → Dependency → Node → ℕ → Input
input_to doc n d t k = record {
  mode = d.mode;
  slot = k;
  level = level_of doc d.class t.class;
  dep = through n.kind;
}

input_is : (doc : Doc) (n : Node) (d : Dependency) (t : Node) (k : ℕ) → target d ≡ Some t
    → number_of (nodes doc) t ≡ Some k → input_of doc n d ≡ Some (input_to doc n d t k)
input_is doc n d t k is number = then_is _ (target d) t _ is (ap (option_map _) number)

pub each_given : (doc : Doc) → bindings_stage doc ≡ [] → (n : Node) → Contains (nodes doc) n
    → EachGiven (input_of doc n) (deps doc n)
each_given doc none n among d c =
    let f = finds_slot doc none n d among c in
    (input_to doc n d f.found f.slot, input_is doc n d f.found f.slot f.is_target f.is_slot)

-- the input of a dependency stands at the same index
input_at : (doc : Doc) → bindings_stage doc ≡ [] → (n : Node) (m : ℕ) (d : Dependency) (x : Input)
    → Contains (nodes doc) n → slice_get (deps doc n) m ≡ Some d → input_of doc n d ≡ Some x
    → slice_get (inputs_of doc n) m ≡ Some x
input_at doc none n m d x among at is =
    given_at (input_of doc n) (deps doc n) m (each_given doc none n among)
    ∙ ap (option_and_then (input_of doc n)) at ∙ is

-- the instance in which the dependencies of a node are looked up is one of the class in which they
-- are
counted_is : (doc : Doc) → SessionFindsNothing doc → (i c in_class : ℕ) (o : Option ℕ)
    → class_of_inst doc i ≡ Some c → AskedIn doc c o in_class
    → (j : ℕ) × (option_map_or (link doc i) o (Some i) ≡ Some j)
    × (class_of_inst doc j ≡ Some in_class)
counted_is doc none i c in_class None e is = (i, refl, e ∙ ap Some (sym is))
counted_is doc none i c in_class (Some dep) e is = link_is doc none i c dep in_class e is

asking_is : (doc : Doc) (i c : ℕ) (k : NodeKind)
    → asking_inst doc i (node_of c k) ≡ option_map_or (link doc i) (through k) (Some i)
asking_is doc i c (node.Bound (binding.Exposed dep entry)) = refl
asking_is doc i c (node.Bound (binding.Member m)) = refl
asking_is doc i c (node.Bound (binding.ClassItem m)) = refl
asking_is doc i c (node.Bound (binding.Arg a)) = refl
asking_is doc i c (node.Bound binding.Default) = refl
asking_is doc i c (node.Multi key) = refl
asking_is doc i c (node.Opt key) = refl
asking_is doc i c (node.EntryOf e) = refl

target_found : (doc : Doc) (i : ℕ) (n : Node) (d : Dependency) (t : Node) (j o k : ℕ)
    → target d ≡ Some t → asking_inst doc i n ≡ Some j → up doc j t.class ≡ Some o
    → number_of (nodes doc) t ≡ Some k
    → target_of doc i n d ≡ Some (record { inst = o; slot = k })
target_found doc i n d t j o k is from above number =
    then_is _ (target d) t _ is
    (then_is _ (asking_inst doc i n) j _ from
    (then_is _ (up doc j t.class) o _ above (ap (option_map _) number)))

up_is : (doc : Doc) (j a k : ℕ) (w : StandsAt doc a k (chain_of_inst doc j))
    → up doc j a ≡ Some w.inst
unfolding up
up_is doc j a k w = w.first

pub inputs_are_look_ups : InputsAreLookUps
inputs_are_look_ups doc accepted i k m n d asked =
    let none = (stages_of_accepted doc accepted).bindings in
    let session = session_of_accepted doc accepted in
    let among = in_got (nodes doc) k n asked.is_node in
    let c = in_got (deps doc n) m d asked.is_dependency in
    let f = finds_slot doc none n d among c in
    let needs = needs_up doc n.class n.kind d c in
    let on = needs.1 f.found f.is_target in
    let place = has_place (is_class f.found.class) (chain doc d.class) f.found.class on
    (eq-eqb f.found.class f.found.class refl) in
    let level : level_of doc d.class f.found.class ≡ place.0 = ap (λ o. unwrap_or o 0) place.1 in
    let from = counted_is doc session i n.class d.class (through n.kind) asked.class needs.0 in
    let stands = chains_agree doc session from.0 d.class f.found.class place.0 from.2 place.1 in
    record {
      input = input_to doc n d f.found f.slot;
      is_input = input_at doc none n m d (input_to doc n d f.found f.slot) among
          asked.is_dependency (input_is doc n d f.found f.slot f.is_target f.is_slot);
      mode = refl;
      found = f.found;
      is_slot = number_is (nodes doc) f.found f.slot f.is_slot;
      inst = stands.inst;
      is_inst = then_is _ (option_map_or (link doc i) (through n.kind) (Some i)) from.0 _ from.1
          (ap (slice_get (chain_of_inst doc from.0)) level ∙ stands.at);
      class = stands.class;
      same = target_found doc i n d f.found from.0 stands.inst f.slot f.is_target
          (asking_is doc i n.class n.kind ∙ from.1)
          (up_is doc from.0 f.found.class place.0 stands) f.is_slot;
    }

pub no_input_is_left_out : NoInputIsLeftOut
no_input_is_left_out doc accepted k n is =
    given_length (input_of doc n) (deps doc n)
    (each_given doc (stages_of_accepted doc accepted).bindings n (in_got (nodes doc) k n is))

-- ---- the plan

slot_of_node : (doc : Doc) (k : ℕ) → slot_at doc k ≡ option_map (slot_of doc) (node_at doc k)
unfolding plan_of slots_of
slot_of_node doc k = slice_get-map (slot_of doc) (nodes doc) k

place_of : (ds : List Dependency) (d : Dependency) → Contains ds d
    → (m : ℕ) × (slice_get ds m ≡ Some d)
place_of ds d c = (c.0, slice_get-get_or ds c.0 d c.1 ∙ ap Some c.2)

same_leads : (doc : Doc) (i m : ℕ) (n : Node) (d : Dependency) (x : Input)
    → InputLeads doc i m n d → slice_get (inputs_of doc n) m ≡ Some x → LeadsToSlot doc i x
same_leads doc i m n d x w is =
    let same : w.input ≡ x = same_Some w.input x (sym w.is_input ∙ is) in
    let P : Input → Type 0 = LeadsToSlot doc i in
    subst P same (record {
      slot = slot_of doc w.found;
      is_slot = slot_of_node doc w.input.slot ∙ ap (option_map (slot_of doc)) w.is_slot;
      inst = w.inst;
      is_inst = w.is_inst;
      class = w.class;
    })

node_leads : (doc : Doc) → IsAccepted doc → (i k : ℕ) (n : Node) (x : Input)
    → node_at doc k ≡ Some n → class_of_inst doc i ≡ Some n.class → Contains (inputs_of doc n) x
    → LeadsToSlot doc i x
node_leads doc accepted i k n x is class c =
    let d = out_filter_map (input_of doc n) (deps doc n) x c in
    let m = place_of (deps doc n) d.0 d.1 in
    let w = inputs_are_look_ups doc accepted i k m.0 n d.0 (record {
      is_node = is;
      class = class;
      is_dependency = m.1;
    }) in
    let among = in_got (nodes doc) k n is in
    let none = (stages_of_accepted doc accepted).bindings in
    same_leads doc i m.0 n d.0 x w (input_at doc none n m.0 d.0 x among m.1 d.2)

pub inputs_lead_to_slots : InputsLeadToSlots
inputs_lead_to_slots doc accepted i k s x is class c =
    let n = out_option_map (slot_of doc) (node_at doc k) s (sym (slot_of_node doc k) ∙ is) in
    let P : Slot → Type 0 = λ s. class_of_inst doc i ≡ Some s.class → Contains s.inputs x
    → LeadsToSlot doc i x in
    subst P n.2 (node_leads doc accepted i k n.0 x n.1) class c
