use Rattle.std.proofs.Common.{◌+◌, length, refl, arith}
use Rattle.apl_io.proofs.Streams.{takes_more}
use Rattle.apl_io.proofs.whole.read_all.Goals as goal

pub returns-then-count-room-clause-too_long : goal.returns-then-count-room-clause-too_long
returns-then-count-room-clause-too_long g c _ =
    takes_more _ _ _ c.loop-bytes.bytes.items c.read_front.new.buffer c.in_ok-count.count (c.args.limit + 1) c.loop-bytes.invariant.left c.in_ok-count.ensures.bytes.0 c.in_ok-count.ensures.count (omega (arith, c.in_ok-count.ensures.most))

pub returns-in_err-extend_from_slice-clause-taken :
    goal.returns-in_err-extend_from_slice-clause-taken
returns-in_err-extend_from_slice-clause-taken g c _ =
    let count = length c.loop-bytes.bytes.items + c.in_ok-count.count in (
      count,
      omega arith,
      takes_more _ _ _ c.loop-bytes.bytes.items c.read_front.new.buffer c.in_ok-count.count count c.loop-bytes.invariant.left c.in_ok-count.ensures.bytes.0 c.in_ok-count.ensures.count refl,
    )
