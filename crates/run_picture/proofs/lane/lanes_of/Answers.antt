use Rattle.std.proofs.Common.{◌≡◌, ◌≤◌, ◌+◌, ◌-◌, length, sym, ap, ◌∙◌, arith}
use Rattle.sv_events.specs.declared.entry.Entry.{Entry}
use Rattle.sv_rules.specs.Questions.{with_number}
use Rattle.run_picture.proofs.Lanes.{few_more, lane_more}
use Rattle.run_picture.proofs.lane.lanes_of.Goals as goal

pub loop-left-preserved : goal.loop-left-preserved
loop-left-preserved c =
    let made : c.put_lane.new.lanes.items ≡ with_number c.index-entries-left.result.party c.loop-left.lanes.items = c.in_ok-put_lane.ensures ∙ ap (λ (e : Entry). with_number e.party c.loop-left.lanes.items) (sym c.index-entries-left.is) in
    let longer : length c.put_lane.new.lanes.items ≤ length c.loop-left.lanes.items + 1 = few_more c.index-entries-left.result.party c.loop-left.lanes.items c.put_lane.new.lanes.items made in
    record {
      within = omega arith;
      same = lane_more c.args.entries.now (c.loop-left.left - 1) c.loop-left.left c.index-entries-left.result c.loop-left.lanes.items c.put_lane.new.lanes.items (omega arith) (omega arith) c.index-entries-left.is c.loop-left.invariant.same made;
      few = omega arith;
    }
