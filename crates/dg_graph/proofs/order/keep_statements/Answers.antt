use Rattle.std.proofs.Common.{◌≡◌, ◌<◌, ◌≤◌, ◌+◌, ◌^◌, ◌++◌, Bool, List, Option, length, get_or, option_to_list, option_copied, ap, subst, sym, ◌∙◌, arith}
use Rattle.dg_decl.specs.declared.document.Doc.{Doc}
use Rattle.dg_decl.specs.declared.component.Exposed.{Exposed}
use Rattle.dg_decl.specs.declared.binding.Bind.{Bind}
use Rattle.dg_decl.specs.declared.binding.BindRef.{BindRef}
use Rattle.dg_decl.specs.declared.graph.NodeKind.{NodeKind}
use Rattle.dg_decl.specs.Document.{Statement, statements}
use Rattle.dg_decl.specs.Components.{class_count}
use Rattle.dg_resolve.specs.Explicit.{next_at}
use Rattle.dg_resolve.specs.Members.{header_index}
use Rattle.dg_graph.specs.Kept.{kept, argument, exposed_at, exposed_on, is_header}
use Rattle.dg_graph.specs.Vacant.{kinds_where}
use Rattle.dg_graph.proofs.PassLemmas.{class_begins, class_goes_on, class_ends, few_statements}
use Rattle.dg_graph.proofs.order.keep_statements.Goals as goal

pub loop-statement-init : goal.loop-statement-init
loop-statement-init c =
    class_begins c.args.dependencies.now c.args.sources.found.now.keys c.args.class
    c.header_of-header.result
    c.bindings-bindings.result.now c.args.nodes.now.items c.bindings-bindings.ensures.exact

pub loop-statement-preserved : goal.loop-statement-preserved
loop-statement-preserved c =
    let doc = c.args.dependencies.now in
    let found = c.args.sources.found.now.keys in
    let taken = c.args.sources.taken.now in
    let class = c.args.class in
    let header = c.header_of-header.result in
    let exposed = c.exposed.result.now in
    let binds = c.bindings-bindings.result.now in
    let i = c.loop-statement.statement-index in
    let passed = c.loop-statement.passed in
    let next = c.loop-statement.place in
    let s = c.statement-item.result in
    let old = c.loop-statement.nodes.items in
    let new = c.keep_statement.new.nodes.items in
    let all = c.statements-statements.ensures.exact ∙ ap statements c.requires.names in
    let at : c.statement.inside.index ≡ s.index = ap
    (λ (x : Statement). x.index) c.statement.view_is in
    let bind = c.next_at.ensures.exact ∙ ap (next_at binds next) at in
    let shown = c.exposed_on.ensures.exact
    ∙ ap (λ (b : Bool). exposed_on b c.exposed_at-exposed.result.now) c.is_header.ensures.exact
    ∙ ap (exposed_on (is_header header s)) c.exposed_at-exposed.ensures.exact in
    let kinds =
    ap (λ (d : Doc). kinds_where d taken class c.argument.result c.exposed_on.result.now
    (option_copied c.next_at.result) s) c.requires.lookups
    ∙ ap (λ (a : Option BindRef). kinds_where doc taken class a c.exposed_on.result.now
    (option_copied c.next_at.result) s) c.argument.ensures.exact
    ∙ ap (λ (xs : List Exposed). kinds_where doc taken class (argument header passed s) xs
    (option_copied c.next_at.result) s) shown
    ∙ ap (λ (b : Option Bind). kinds_where doc taken class (argument header passed s)
    (exposed_on (is_header header s) (exposed_at exposed class)) b s) bind in
    class_goes_on doc found taken class header binds exposed c.args.nodes.now.items i passed next
    c.passed_behind-passed.result c.place_behind-place.result s old new
    c.requires.found c.requires.taken c.requires.class
    (c.header_of-header.ensures.exact ∙ ap (λ (d : Doc). header_index d class) c.requires.names)
    c.exposed.ensures.exact
    (subst (λ (ss : List Statement). i < length ss) all c.loop-statement-test.true)
    (subst (λ (ss : List Statement). s ≡ get_or ss i s) all c.statement-item.is)
    c.loop-statement.invariant
    (c.in_ok-keep_statement.ensures.exact ∙ ap (λ (ks : List NodeKind). old ++ kept found class ks)
    kinds)
    (c.passed_behind-passed.ensures.exact
    ∙ ap (λ (a : Option BindRef). passed + length (option_to_list a)) c.argument.ensures.exact)
    (c.place_behind-place.ensures.exact
    ∙ ap (λ (b : Option Bind). next + length (option_to_list b)) bind)

pub returns : goal.returns
returns c =
    let i = c.loop-statement.statement-index in
    let all = c.statements-statements.ensures.exact ∙ ap statements c.requires.names in
    record {
      exact = class_ends c.args.dependencies.now c.args.sources.found.now.keys c.args.class
          c.header_of-header.result c.bindings-bindings.result.now c.args.nodes.now.items i
          c.loop-statement.passed c.loop-statement.place c.loop-statement.nodes.items
          (subst (λ (ss : List Statement). length ss ≤ i) all c.loop-statement-test.false)
          c.loop-statement.invariant;
    }

pub keep_statement-requires : goal.keep_statement-requires
keep_statement-requires c = record {
  class = subst (λ (d : Doc). c.args.class < class_count d)
      (sym c.requires.lookups) c.requires.class;
}

pub passed_behind-passed-requires : goal.passed_behind-passed-requires
passed_behind-passed-requires c =
    let few : length c.statements-statements.result.now < 2 ^ 31 =
    subst (λ (ss : List Statement). length ss < 2 ^ 31) (sym c.statements-statements.ensures.exact)
    (few_statements c.args.names.now c.statements-statements.ensures.bounded) in
    omega (arith, few, c.loop-statement-test.true, c.loop-statement.invariant.few)

pub place_behind-place-requires : goal.place_behind-place-requires
place_behind-place-requires c =
    let few : length c.statements-statements.result.now < 2 ^ 31 =
    subst (λ (ss : List Statement). length ss < 2 ^ 31) (sym c.statements-statements.ensures.exact)
    (few_statements c.args.names.now c.statements-statements.ensures.bounded) in
    omega (arith, few, c.loop-statement-test.true, c.loop-statement.invariant.short)
