use Rattle.std.proofs.Common.{arith}
use Rattle.apl_workspace.specs.Listing.{is_wanted}
use Rattle.apl_workspace.proofs.Places.{collected_on}
use Rattle.apl_workspace.proofs.table.collected.Goals as goal

pub loop-at-preserved : goal.loop-at-preserved
loop-at-preserved c =
    collected_on (is_wanted c.args.what) c.args.names.now.entries c.loop-at.list.items c.collect_name.new.list.items c.loop-at.at (omega (arith, c.loop-at-test.true, c.len-at-end.ensures.len)) c.in_ok-collect_name.ensures c.loop-at.invariant
