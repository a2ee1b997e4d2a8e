use Rattle.std.proofs.Common.{ℕ, ◌≡◌, ◌++◌, ◌||◌, not, is_some, [], Bool, if◌then◌else◌, option_copied, ap, subst, sym, ◌∙◌}
use Rattle.std.specs.Prelude.{OnOk}
use Rattle.dg_decl.specs.Document.{Statement}
use Rattle.dg_graph.specs.Kept.{kept, kinds_on, is_empty}
use Rattle.dg_graph.specs.Vacant.{is_taken}
use Rattle.dg_graph.proofs.KeptLemmas.{adds_none}
use Rattle.dg_graph.proofs.order.keep_statement.Goals as goal

pub returns-then-has_nodes : goal.returns-then-has_nodes
returns-then-has_nodes c =
    let seen = c.args.seen in
    let class = c.args.class in
    let taken = c.args.sources.taken.now in
    let kinds = kinds_on c.args.sources.lookups.now class seen.argument seen.exposed.now
    (option_copied seen.bind) c.args.statement.now in
    let at : c.statement.inside.index ≡ c.args.statement.now.index = ap
    (λ (x : Statement). x.index) c.statement.view_is in
    record {
      exact = subst
          (λ (b : Bool). OnOk c.keep_all.result (c.keep_all.new.nodes.items
          ≡ c.args.nodes.now.items ++ kept c.args.sources.found.now.keys class
          (if b then kinds else [])))
          (sym c.if-has_nodes.true ∙ c.has_nodes.ensures.exact
          ∙ ap (λ (i : ℕ). is_some seen.argument || (not
          (is_empty seen.exposed.now) || is_taken taken class i)) at)
          c.keep_all.ensures.exact;
    }

pub returns-else-has_nodes : goal.returns-else-has_nodes
returns-else-has_nodes c =
    let seen = c.args.seen in
    let class = c.args.class in
    let taken = c.args.sources.taken.now in
    let found = c.args.sources.found.now.keys in
    let old = c.args.nodes.now.items in
    let kinds = kinds_on c.args.sources.lookups.now class seen.argument seen.exposed.now
    (option_copied seen.bind) c.args.statement.now in
    let at : c.statement.inside.index ≡ c.args.statement.now.index = ap
    (λ (x : Statement). x.index) c.statement.view_is in
    record {
      exact = subst (λ (b : Bool). old ≡ old ++ kept found class (if b then kinds else []))
          (sym c.if-has_nodes.false ∙ c.has_nodes.ensures.exact
          ∙ ap (λ (i : ℕ). is_some seen.argument || (not
          (is_empty seen.exposed.now) || is_taken taken class i)) at)
          (sym (adds_none found class old));
    }
