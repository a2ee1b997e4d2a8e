use Rattle.std.proofs.Common.{ap, sym, length, get_or, refl, ◌∙◌, ◌++◌, List, ℕ, arith}
use Rattle.std.specs.List.{filter_map}
use Rattle.dg_decl.specs.declared.component.Class.{Class}
use Rattle.dg_decl.specs.Components.{exposed_as}
use Rattle.dg_slots.proofs.ClassLemmas.{classes_counted}
use Rattle.dg_compdep.specs.Exposing.{exposed_from}
use Rattle.dg_compdep.proofs.ExposingLemmas.{entries_at, exposed_step}
use Rattle.dg_compdep.proofs.exposing.exposed_to.Goals as goal

pub bounds-classes-class : goal.bounds-classes-class
bounds-classes-class c =
    let small = c.requires.deps c.loop-index.index 0 c.loop-index-test.true in
    omega (arith, ap length c.requires.classes, classes_counted c.args.d.now, small)

pub loop-index-preserved : goal.loop-index-preserved
loop-index-preserved c =
    let doc = c.args.d.now in
    let i = c.loop-index.index in
    let d = get_or c.args.deps.now i 0 in
    let entries = entries_at doc c.args.classes.now d c.index-classes-class.result _
    c.requires.classes
    (c.requires.deps i 0 c.loop-index-test.true) c.index-classes-class.is
    (c.as_slice-entries.ensures ∙ ap (λ (x : Class). x.entries) (sym
    c.index-classes-class.is)) in
    exposed_step doc c.args.deps.now i d c.loop-index.list c.push_exposed.new.list (exposed_from
    doc 0 c.args.deps.now)
    c.loop-index-test.true refl
    (c.in_ok-push_exposed.ensures.exact
    ∙ ap (λ (xs : List ℕ). c.loop-index.list ++ filter_map (exposed_as doc i) xs) entries)
    c.loop-index.invariant
