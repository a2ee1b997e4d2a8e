use Rattle.std.proofs.Common.{◌∷◌, ◌++◌, [], ℕ, List, if◌then◌else◌, ap, ◌∙◌}
use Rattle.dg_decl.specs.Components.{is_number}
use Rattle.dg_resolve.specs.Members.{header_index}
use Rattle.dg_resolve.proofs.ListLemmas.{up_more}
use Rattle.dg_resolve.proofs.members.headers.Goals as goal

pub loop-class-preserved : goal.loop-class-preserved
loop-class-preserved c = λ m.
    let doc = c.args.names.now in
    let class = c.loop-class.class in
    c.in_ok-add_header.ensures.exact.each m
    ∙ ap (λ (l : List ℕ). l ++ (if is_number m (header_index doc class) then class ∷ [] else [])) (c.loop-class.invariant m)
    ∙ up_more (λ x. if is_number m (header_index doc x) then x ∷ [] else []) class
