use Rattle.std.proofs.Common.{◌≡◌, length, sym, ap, ◌∙◌, arith}
use Rattle.std.specs.Vec.{vec_len}
use Rattle.std.proofs.lemmas.Bool.{eqb-true}
use Rattle.dg_decl.specs.declared.document.Doc.{Doc}
use Rattle.dg_decl.specs.Stages.Session.{session_stage}
use Rattle.dg_compdep.proofs.LinkLemmas.{no_items}
use Rattle.dg_session.proofs.sessions.session.Goals as goal

pub returns-then-is_empty-clause-accepted : goal.returns-then-is_empty-clause-accepted
returns-then-is_empty-clause-accepted c =
    let broken = c.in_ok-broken.broken in
    let none = eqb-true (vec_len broken) 0 (sym c.is_empty.ensures ∙ c.if-is_empty.true) in
    let empty : length broken.items ≡ 0 = omega (arith, none) in
    sym (c.in_ok-broken.ensures.exact
    ∙ ap (λ (d : Doc). session_stage d) c.in_ok-scene.ensures.exact)
    ∙ no_items broken.items empty
