use Rattle.dg_tree.proofs.StoreLemmas.{sound_seen}
use Rattle.dg_tree.proofs.tree.Tree.count.Goals as goal

pub returns-clause-sound : goal.returns-clause-sound
returns-clause-sound g c =
    let t = c.self.inside in
    sound_seen g.D.OfDoc.document t.cells.entries t.lazies.entries t.settled_cells
    t.settled_lazies t.notes.items c.args.self.now c.self.invariant.0 c.self.view_is
