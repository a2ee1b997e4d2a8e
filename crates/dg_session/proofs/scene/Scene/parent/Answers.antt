use Rattle.std.proofs.Common.{sym, ap}
use Rattle.dg_decl.specs.declared.component.Class.{Class}
use Rattle.dg_compdep.proofs.LinkLemmas.{class_got, class_lacks}
use Rattle.dg_session.proofs.SceneLemmas.{parent_past}
use Rattle.dg_session.proofs.scene.Scene.parent.Goals as goal

pub returns-in-Some : goal.returns-in-Some
returns-in-Some c = record {
  exact = ap (λ (x : Class). x.parent)
      (class_got c.args.self.now c.args.class c.in-Some.class.now c.in-Some.ensures.exact);
}

pub returns-in-None : goal.returns-in-None
returns-in-None c = record {
  exact = sym (parent_past c.args.self.now c.args.class
      (class_lacks c.args.self.now c.args.class c.in-None.ensures.exact));
}
