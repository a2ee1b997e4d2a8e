use Rattle.std.proofs.Common.{sym, not, find, ap, ◌∙◌}
use Rattle.dg_lex.specs.Bytes.{Bytes}
use Rattle.dg_decl.specs.declared.document.Doc.{Doc}
use Rattle.dg_decl.specs.Components.{deps_of}
use Rattle.dg_decl.specs.Stages.Links.{is_tied}
use Rattle.dg_decl.specs.Stages.Session.{class_opened}
use Rattle.dg_compdep.proofs.LinkLemmas.{first_lacking}
use Rattle.dg_compdep.proofs.link_rules.untied.Goals as goal

pub returns-in_ok-first_untied-in-Some-class_opened
    : goal.returns-in_ok-first_untied-in-Some-class_opened
returns-in_ok-first_untied-in-Some-class_opened c =
    let doc = c.args.tied.now in
    let name = c.in-Some.name.now in
    let class = c.in-Some-class_opened.class in
    record {
      exact = first_lacking doc c.args.s.now name class
          c.in_ok-first_untied-in-Some-class_opened.field-0
          (sym c.in-Some.ensures.exact)
          (c.in-Some-class_opened.ensures.exact
          ∙ ap (λ (d : Doc). class_opened d c.args.s.now) c.names.ensures.exact)
          (c.in_ok-first_untied-in-Some-class_opened.ensures.exact
          ∙ ap (λ (n : Bytes). find (λ d. not (is_tied doc n d)) c.deps.result.now)
          c.as_slice.ensures.exact
          ∙ ap (find (λ d. not (is_tied doc name d)))
          (c.deps.ensures.exact ∙ ap (λ (d : Doc). deps_of d class) c.classes.ensures.exact));
    }
