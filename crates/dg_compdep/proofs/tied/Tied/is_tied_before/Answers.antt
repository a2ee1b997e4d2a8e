use Rattle.std.proofs.Common.{◌≡◌, Some, None, nat_lt, ap, ◌∙◌}
use Rattle.dg_decl.specs.Document.{Statement, statements}
use Rattle.dg_compdep.specs.Ties.{first_index}
use Rattle.dg_compdep.proofs.LinkLemmas.{tied_before}
use Rattle.dg_compdep.proofs.tied.Tied.is_tied_before.Goals as goal

pub returns-in-Some : goal.returns-in-Some
returns-in-Some c =
    let e : Some c.in-Some.index ≡ first_index c.args.self.now c.tie.inside.from.now
    c.tie.inside.class (statements c.args.self.now) =
    cc (c.in-Some.is, c.in_ok-index.ensures.exact, c.as_slice.ensures.exact) in
    record {
      exact = ap (λ (x : Statement). nat_lt c.in-Some.index x.index) c.s.view_is
          ∙ tied_before c.args.self.now c.args.s.now c.args.tie.now c.tie.inside.from.now
          c.tie.inside.class (Some c.in-Some.index) c.tie.view_is e;
    }

pub returns-in-None : goal.returns-in-None
returns-in-None c =
    let e : None ≡ first_index c.args.self.now c.tie.inside.from.now c.tie.inside.class (statements
    c.args.self.now) = cc (c.in-None.is, c.in_ok-index.ensures.exact, c.as_slice.ensures.exact) in
    record {
      exact = tied_before c.args.self.now c.args.s.now c.args.tie.now c.tie.inside.from.now
          c.tie.inside.class None c.tie.view_is e;
    }
