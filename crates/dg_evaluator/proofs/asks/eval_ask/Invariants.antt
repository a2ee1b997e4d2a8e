use Rattle.dg_evaluator.proofs.asks.eval_ask.Given as goal

abbrev pub ghosts-whole_ask : goal.ghosts-whole_ask
ghosts-whole_ask g a = record { scope = g.C.Cells.scope a.cells.now }
