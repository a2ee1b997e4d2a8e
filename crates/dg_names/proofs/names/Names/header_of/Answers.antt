use Rattle.std.proofs.Common.{◌-◌, ◌∙◌, ap, ℕ, List}
use Rattle.std.specs.List.{slice_get}
use Rattle.dg_names.proofs.ClassLemmas.{header_at, no_header}
use Rattle.dg_names.proofs.names.Names.header_of.Goals as goal

pub returns-then-class-lt-HILT_COUNT : goal.returns-then-class-lt-HILT_COUNT
returns-then-class-lt-HILT_COUNT c = record {
  exact = no_header c.args.self.now c.args.class c.if-class-lt-HILT_COUNT.true;
}

pub returns : goal.returns
returns c =
    let inside = c.self.inside in
    record {
      exact = c.header_in.ensures.exact
          ∙ ap (λ (hs : List ℕ). slice_get hs (c.args.class - 8)) c.as_slice.ensures.value
          ∙ header_at c.args.self.now inside.doc.now inside.headers.items c.args.class
          c.self.view_is c.self.invariant.components c.if-class-lt-HILT_COUNT.false;
    }
