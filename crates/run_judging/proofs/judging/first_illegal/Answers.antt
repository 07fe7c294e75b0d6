use Rattle.std.proofs.Common.{arith, ◌<◌, length}
use Rattle.run_judging.proofs.PlaceLemmas.{illegal_there}
use Rattle.run_judging.proofs.judging.first_illegal.Goals as goal

pub returns-then-not-may : goal.returns-then-not-may
returns-then-not-may c =
    let within : c.loop-i.i < length c.args.entries.now = omega arith in
    illegal_there c.args.users.now c.args.entries.now c.loop-i.i c.loop-i.core c.follows.new.core c.index-entries-i.result c.in_ok-may.may within c.index-entries-i.is c.loop-i.invariant
    c.in_ok-may.ensures.legal c.in_ok-may.ensures.judged c.if-not-may.true
