use Rattle.dg_tree.proofs.StoreLemmas.{settled_store, settled_seen}
use Rattle.dg_tree.proofs.tree.Tree.settle.Goals as goal

pub invariant_of-self : goal.invariant_of-self
invariant_of-self g c =
    let t = c.self.inside in (
      settled_store g.D.OfDoc.document t.cells.entries t.lazies.entries t.settled_cells
          t.settled_lazies c.len-self-inside.result c.len-self-inside-2.result t.notes.items
          c.clear.new.self.items
          c.self.invariant.0 c.len-self-inside.ensures.len c.len-self-inside-2.ensures.len
          c.clear.ensures.items,
      c.self.invariant.1,
    )

pub returns : goal.returns
returns g c =
    let t = c.self.inside in
    record {
      exact = settled_seen t.cells.entries t.lazies.entries t.settled_cells t.settled_lazies
          c.len-self-inside.result c.len-self-inside-2.result t.notes.items
          c.clear.new.self.items c.args.self.now
          c.self.view_is c.len-self-inside.ensures.len c.len-self-inside-2.ensures.len
          c.clear.ensures.items;
    }
