use Rattle.std.proofs.Common.{◌+◌, ◌∙◌, ap, ℕ, List, length, arith, refl}
use Rattle.dg_names.proofs.ClassLemmas.{counted}
use Rattle.dg_names.proofs.names.Names.class_count.Goals as goal

pub overflow_cast-result : goal.overflow_cast-result
overflow_cast-result c =
    let inside = c.self.inside in
    omega (
      arith,
      ap (λ (hs : List ℕ). length hs) c.as_slice.ensures.value,
      counted inside.doc.now inside.doc.now inside.headers.items refl c.self.invariant.components,
      c.self.invariant.bounded.classes,
    )

pub overflow_add-result : goal.overflow_add-result
overflow_add-result c =
    let inside = c.self.inside in
    omega (
      arith,
      ap (λ (hs : List ℕ). length hs) c.as_slice.ensures.value,
      counted inside.doc.now inside.doc.now inside.headers.items refl c.self.invariant.components,
      c.self.invariant.bounded.classes,
    )

pub returns : goal.returns
returns c =
    let inside = c.self.inside in
    record {
      exact = ap (λ (hs : List ℕ). 8 + length hs) c.as_slice.ensures.value
          ∙ counted c.args.self.now inside.doc.now inside.headers.items c.self.view_is
          c.self.invariant.components;
    }
