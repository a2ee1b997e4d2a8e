use Rattle.std.proofs.Common.{ℕ, Option, false, nat_lt, ap, ◌∙◌}
use Rattle.std.specs.Option.{option_map, option_map_or}
use Rattle.dg_lex.specs.Bytes.{Bytes}
use Rattle.dg_decl.specs.Document.{Statement}
use Rattle.dg_decl.specs.Names.{declared}
use Rattle.dg_typing.proofs.names_stage.repeated.is_declared_first.Goals as goal

pub returns : goal.returns
returns c =
    let doc = c.args.names.now in
    let s = c.args.s.now in
    record {
      exact = c.stands_before.ensures.exact
          ∙ ap (λ (o : Option ℕ). option_map_or (λ i. nat_lt i s.index) o false)
          (c.declared.ensures.exact
          ∙ ap (λ (n : Bytes). option_map (λ (t : Statement). t.index) (declared doc n))
          c.as_slice.ensures.exact);
    }
