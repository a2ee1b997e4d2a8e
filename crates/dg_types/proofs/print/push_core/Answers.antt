use Rattle.std.proofs.Common.{◌≡◌, ◌++◌, codes, ◌∙◌}
use Rattle.dg_types.specs.Texts.{shape_text}
use Rattle.dg_types.specs.Requests.{shape_of_base, shape_of_kind, shape_in, shape_of_core}
use Rattle.dg_types.proofs.ShapeLemmas.{shape_text-Set, shape_text-Map, shape_text-Optional, wrapped, wrapped_pair}
use Rattle.dg_types.proofs.print.push_core.Goals as goal

pub returns-in_ok-push-in-Set : goal.returns-in_ok-push-in-Set
unfolding shape_of_core
returns-in_ok-push-in-Set c =
    let x = shape_text (shape_in c.in-Set.form (shape_of_base c.in-Set.base)) in
    let written : c.push.new.self.items ≡ ((c.args.out.now.items ++ codes "Set<") ++ x) ++ codes ">" =
    cc (c.in_ok-extend_from_slice-in-Set.ensures.items, c.in_ok-push_held-in-Set.ensures.exact, c.in_ok-push-in-Set.ensures.items) in
    record { exact = rw (c.in-Set.is, shape_text-Set) (written ∙ wrapped c.args.out.now.items (codes "Set<") x) }

pub returns-in_ok-push-in-Map-2 : goal.returns-in_ok-push-in-Map-2
unfolding shape_of_core
returns-in_ok-push-in-Map-2 c =
    let k = shape_text (shape_of_kind c.in-Map.kind) in
    let x = shape_text (shape_in c.in-Map.form (shape_of_base c.in-Map.base)) in
    let written : c.push-in-Map-2.new.self.items ≡ ((((c.args.out.now.items ++ codes "Map<") ++ k) ++ codes ",") ++ x) ++ codes ">" =
    cc (c.in_ok-extend_from_slice-in-Map.ensures.items, c.in_ok-push_kind-in-Map.ensures.exact, c.in_ok-push-in-Map.ensures.items, c.in_ok-push_held-in-Map.ensures.exact, c.in_ok-push-in-Map-2.ensures.items) in
    record { exact = rw (c.in-Map.is, shape_text-Map) (written ∙ wrapped_pair c.args.out.now.items (codes "Map<") k x) }

pub returns-in_ok-push-in-Optional : goal.returns-in_ok-push-in-Optional
unfolding shape_of_core
returns-in_ok-push-in-Optional c =
    let x = shape_text (shape_in c.in-Optional.form (shape_of_base c.in-Optional.base)) in
    let written : c.push-in-Optional.new.self.items ≡ ((c.args.out.now.items ++ codes "Optional<") ++ x) ++ codes ">" =
    cc (c.in_ok-extend_from_slice-in-Optional.ensures.items, c.in_ok-push_held-in-Optional.ensures.exact, c.in_ok-push-in-Optional.ensures.items) in
    record { exact = rw (c.in-Optional.is, shape_text-Optional) (written ∙ wrapped c.args.out.now.items (codes "Optional<") x) }
