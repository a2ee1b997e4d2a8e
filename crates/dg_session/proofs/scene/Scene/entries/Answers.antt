use Rattle.std.proofs.Common.{sym, ap, ◌∙◌}
use Rattle.dg_decl.specs.declared.component.Class.{Class}
use Rattle.dg_compdep.proofs.LinkLemmas.{class_got, class_lacks}
use Rattle.dg_session.proofs.SceneLemmas.{entries_past}
use Rattle.dg_session.proofs.scene.Scene.entries.Goals as goal

pub returns-in-Some : goal.returns-in-Some
returns-in-Some c = record {
  exact = c.as_slice.ensures
      ∙ ap (λ (x : Class). x.entries)
      (class_got c.args.self.now c.args.class c.in-Some.class.now c.in-Some.ensures.exact);
}

pub returns-in-None : goal.returns-in-None
returns-in-None c = record {
  exact = sym (entries_past c.args.self.now c.args.class
      (class_lacks c.args.self.now c.args.class c.in-None.ensures.exact));
}
