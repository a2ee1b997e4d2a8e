use Rattle.dg_evaluator.proofs.slots.eval_slot.Given as goal

abbrev pub ghosts-whole_end : goal.ghosts-whole_end
ghosts-whole_end g a = record { scope = g.C.Cells.scope a.cells.now }
