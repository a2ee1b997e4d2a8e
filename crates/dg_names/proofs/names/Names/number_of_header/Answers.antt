use Rattle.std.proofs.Common.{◌+◌, ◌==◌, ◌∙◌, ap, ℕ, List, length, arith, refl}
use Rattle.std.specs.List.{position}
use Rattle.std.specs.Option.{option_map}
use Rattle.dg_names.proofs.ClassLemmas.{counted, number_there}
use Rattle.dg_names.proofs.names.Names.number_of_header.Goals as goal

pub number_in-requires : goal.number_in-requires
number_in-requires c =
    let inside = c.self.inside in
    record {
      few = omega (
        arith,
        ap (λ (hs : List ℕ). length hs) c.as_slice.ensures.value,
        counted inside.doc.now inside.doc.now inside.headers.items refl c.self.invariant.components,
        c.self.invariant.bounded.classes,
      );
    }

pub returns-in-Some : goal.returns-in-Some
returns-in-Some c =
    let inside = c.self.inside in
    let index = c.args.index in
    record {
      exact = c.number_in.ensures.exact
          ∙ ap (λ (hs : List ℕ). option_map (λ (k : ℕ). 8 + k) (position (λ (h : ℕ). h == index) hs))
          c.as_slice.ensures.value
          ∙ number_there c.args.self.now inside.doc.now inside.headers.items c.in-Some.field-0.now index
          c.self.view_is c.self.invariant.components c.in-Some.ensures.exact;
    }
