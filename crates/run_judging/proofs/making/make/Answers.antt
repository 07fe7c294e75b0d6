use Rattle.std.proofs.Common.{◌∙◌, sym}
use Rattle.sv_events.specs.Entry.{plain_entry}
use Rattle.sv_rules.specs.Entries.{is_full, is_leave}
use Rattle.run_judging.proofs.JudgeLemmas.{left_if, room_of, tried_if}
use Rattle.run_judging.proofs.making.make.Goals as goal

pub returns-then-is_leave : goal.returns-then-is_leave
returns-then-is_leave c =
    left_if c.args.core.now c.leave-leaves.new.core (plain_entry c.args.entry.now) c.leave-leaves.result c.requires.legal (sym c.is_leave.ensures ∙ c.if-is_leave.true) c.leave-leaves.ensures.user
    c.leave-leaves.ensures.left

pub returns-in_ok-again : goal.returns-in_ok-again
returns-in_ok-again c =
    let stays = sym c.is_leave.ensures ∙ c.if-is_leave.false in
    tried_if c.args.core.now c.retry.new.core (plain_entry c.args.entry.now) c.in_ok-again.again c.requires.legal stays
    (room_of (is_leave c.args.entry.now.act) (is_full c.args.core.now.journal) stays c.requires.room) (sym c.waits.ensures ∙ c.if-waits.true) c.in_ok-again.ensures.held c.in_ok-again.ensures.journal
