use Rattle.std.proofs.Common.{◌≡◌, ◌+◌, ◌++◌, map, drop}
use Rattle.dg_eval.specs.World.{constant, news_of, values_of}
use Rattle.dg_tree.proofs.world.+constants.Given as goal

abbrev pub invariant-constants-loop-arg : goal.invariant-constants-loop-arg
invariant-constants-loop-arg l =
    (l.values ++ values_of (map constant (drop l.arg-index l.args)) l.place l.count
    ≡ values_of (map constant l.args) l.place l.fn.count)
    × (l.count + news_of (map constant (drop l.arg-index l.args))
    ≡ l.fn.count + news_of (map constant l.args))
