use Rattle.std.proofs.Common.{◌≤◌, ◌++◌, take, arith, rules}
use Rattle.std.proofs.lemmas.List.{length-append, length-take}
use Rattle.dg_top.proofs.StreamLemmas.{consumes_then}
use Rattle.dg_top.proofs.input.read_through.Goals as goal

pub returns-in_err-extend_from_slice-clause-bound :
    goal.returns-in_err-extend_from_slice-clause-bound
returns-in_err-extend_from_slice-clause-bound g c =
    let left = g.S.Source.left in
    let before = c.loop-bytes.bytes.items in
    let piece = take c.in_ok-count.count c.read.new.buf in
    let fits : c.in_ok-count.count ≤ c.min-room.result = search rules in (
      before ++ piece,
      consumes_then (left c.args.source.now) (left c.loop-bytes.source) (left c.read.new.self) before piece c.loop-bytes.invariant.taken c.in_ok-count.ensures.exact.0,
      omega (arith, length-append before piece, length-take c.in_ok-count.count c.read.new.buf, c.loop-bytes.bytes.ok.0, c.min-room.ensures, c.len.ensures, c.len-in-loop-bytes.ensures, fits),
    )
