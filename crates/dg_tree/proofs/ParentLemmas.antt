-- The chain of an instance, in the world of a document.
use Rattle.std.proofs.Common.{◌≡◌, ◌<◌, ◌≤◌, ℕ, length, slice_get, Option, Some, None, option_map, option_and_then, refl, ap, ◌∙◌, arith}
use Rattle.std.proofs.lemmas.List.{length-map}
use Rattle.std.proofs.lemmas.Option.{slice_get-map}
use Rattle.dg_decl.specs.declared.document.Doc.{Doc}
use Rattle.dg_decl.specs.Components.{walk}
use Rattle.dg_slots.specs.declared.session.Inst.{Inst}
use Rattle.dg_slots.specs.Sessions.{insts_of}
use Rattle.dg_eval.specs.declared.world.World.{World}
use Rattle.dg_eval.specs.World.{inst_at, parent_of_inst, chain_of_inst, world_of}
use Rattle.dg_requests.specs.Contexts.{parent_at}
use Rattle.dg_requests.proofs.ContextLemmas.{within_walk}

parent_by : (o : Option Inst)
    → option_and_then (λ (p : Option ℕ). p) (option_map (λ (x : Inst). x.parent) o)
    ≡ option_and_then (λ (x : Inst). x.parent) o
parent_by None = refl
parent_by (Some x) = refl

parents_are : (doc : Doc) (world : World) → world ≡ world_of doc → (i : ℕ)
    → parent_at world.parent i ≡ parent_of_inst doc i
unfolding world_of
parents_are doc world is i =
    ap (λ (w : World). parent_at w.parent i) is
    ∙ ap (option_and_then (λ (p : Option ℕ). p))
    (slice_get-map (λ (x : Inst). x.parent) (insts_of doc) i)
    ∙ parent_by (inst_at doc i)

counted : (doc : Doc) (world : World) → world ≡ world_of doc
    → length world.parent ≡ length (insts_of doc)
unfolding world_of
counted doc world is =
    ap (λ (w : World). length w.parent) is
    ∙ length-map (insts_of doc) (λ (x : Inst). x.parent)

pub is_up : (doc : Doc) (world : World) (i level : ℕ) (o : Option ℕ) → world ≡ world_of doc
    → level < length world.parent
    → ((steps : ℕ) → level < steps
    → o ≡ slice_get (walk (parent_at world.parent) steps (Some i)) level)
    → o ≡ slice_get (chain_of_inst doc i) level
unfolding chain_of_inst
is_up doc world i level o is lt found =
    let same = counted doc world is in
    found (length (insts_of doc)) (omega (arith, lt, same))
    ∙ (λ j. slice_get (walk (λ (x : ℕ). parents_are doc world is x j) (length (insts_of doc))
    (Some i)) level)

pub is_past : (doc : Doc) (world : World) (i level : ℕ) → world ≡ world_of doc
    → length world.parent ≤ level → None ≡ slice_get (chain_of_inst doc i) level
unfolding chain_of_inst
is_past doc world i level is le =
    by (slice_get (walk (parent_of_inst doc) (length (insts_of doc)) (Some i)) level) refl
  where
    by : (o : Option ℕ)
        → slice_get (walk (parent_of_inst doc) (length (insts_of doc)) (Some i)) level ≡ o
        → None ≡ o
    by None e = refl
    by (Some x) e =
        let lt = within_walk (parent_of_inst doc) (length (insts_of doc)) (Some i) level x e in
        let same = counted doc world is in
        absurd (omega (arith, lt, same, le))
