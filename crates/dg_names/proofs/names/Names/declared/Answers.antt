use Rattle.std.proofs.Common.{ap, ◌∙◌}
use Rattle.std.specs.Option.{option_map}
use Rattle.dg_decl.specs.declared.document.Doc.{Doc}
use Rattle.dg_decl.specs.Document.{Statement}
use Rattle.dg_decl.specs.Names as names
use Rattle.dg_names.proofs.KnownLemmas.{first_declared}
use Rattle.dg_names.proofs.names.Names.declared.Goals as goal

pub returns : goal.returns
returns c =
    let name = c.args.name.now in
    record {
      exact = c.index_of.ensures.exact ∙ c.self.invariant.declared.each name
          ∙ first_declared c.self.inside.doc.now name
          ∙ ap (λ (d : Doc). option_map (λ (s : Statement). s.index) (names.declared d name)) c.self.view_is;
    }
