use Rattle.std.proofs.Common.{◌≡◌, None, map, replicate, rules, arith}
use Rattle.std.proofs.lemmas.List.{length-map}
use Rattle.dg_jobs.specs.declared.phase.Phase.TheVariants.{Asleep}
use Rattle.dg_jobs.proofs.RowLaws.{rows_in_range}
use Rattle.dg_jobs.proofs.Starting.{calm_start}
use Rattle.dg_jobs.proofs.board.Board.new.Goals as goal

pub returns-clause-calm : goal.returns-clause-calm
returns-clause-calm c =
    let n = c.len-count.result in
    let len : n ≡ c.args.inputs.len = c.len-count.ensures in
    let phases : c.in_ok-vec.field-0.items ≡ replicate n Asleep = search rules in
    let ends : c.in_ok-vec-2.field-0.items ≡ replicate n None = search rules in
    let passed : c.in_ok-vec-3.field-0.items ≡ replicate n 0 = search rules in
    let places : c.in_ok-new.field-0 ≡ replicate n None = c.in_ok-new.ensures.exact in
    calm_start (map (λ row. row.items) c.args.inputs.items) n c.in_ok-vec.field-0.items c.in_ok-vec-2.field-0.items c.in_ok-vec-3.field-0.items c.in_ok-new.field-0 (omega (arith, length-map c.args.inputs.items (λ row. row.items), len, c.args.inputs.ok.0)) (omega (arith, c.requires.small, len)) (λ a b needs. omega (arith, rows_in_range c.args.inputs.items c.args.inputs.len c.requires.in_range a b needs, len)) phases ends passed places
