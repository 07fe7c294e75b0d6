use Rattle.std.proofs.Common.{◌≤◌, sym, ◌∙◌, length, take, length-take, arith}
use Rattle.sv_rules.specs.Journal.{journal_of}
use Rattle.sv_rules.proofs.JournalLemmas.{length-journal_of}
use Rattle.run_reasons.proofs.UnplacedLemmas.{placed_control-none}
use Rattle.run_reasons.proofs.placed.control_at.Goals as goal

pub returns-then-offer-left : goal.returns-then-offer-left
returns-then-offer-left c =
    let left = take c.loop-left.left c.args.entries.now in
    let early : length (journal_of left) ≤ c.args.offer.now.place = omega (arith, length-journal_of left, length-take c.loop-left.left c.args.entries.now) in
    sym (placed_control-none (journal_of left) c.args.offer.now early) ∙ c.loop-left.invariant.same
