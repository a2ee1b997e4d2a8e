use Rattle.std.proofs.Common.{ℕ, ◌+◌, sym, subst}
use Rattle.std.proofs.Common.{List}
use Rattle.dg_graph.specs.Growth.{Grows}
use Rattle.dg_graph.specs.Reached.{entries_at, entries_as_nodes, first_entries}
use Rattle.dg_resolve.proofs.ListLemmas.{up_more}
use Rattle.dg_graph.proofs.GrowthLemmas.{grows_none, grows_on}
use Rattle.dg_graph.proofs.reached.add_all_entries.Goals as goal

pub loop-class-init : goal.loop-class-init
loop-class-init c = grows_none c.args.found.now.keys

pub loop-class-preserved : goal.loop-class-preserved
loop-class-preserved c =
    let classes = c.args.classes.now in
    let class = c.loop-class.class in
    let old = c.args.found.now.keys in
    let mid = c.loop-class.found.keys in
    let new = c.add_entries.new.found.keys in
    grows_on (first_entries classes class) (entries_as_nodes class (entries_at classes class))
    (first_entries classes (class + 1)) old mid new
    (sym (up_more (λ (c : ℕ). entries_as_nodes c (entries_at classes c)) class))
    c.loop-class.invariant
    (subst (λ (es : List ℕ). Grows (entries_as_nodes class es) mid new) c.entries_at.ensures.exact
    c.in_ok-add_entries.ensures.exact)
