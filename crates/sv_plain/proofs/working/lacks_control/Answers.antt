use Rattle.std.proofs.Common.{◌≤◌, sym, ◌∙◌, length, take, length-take, arith}
use Rattle.sv_rules.specs.Journal.{journal_of}
use Rattle.sv_rules.proofs.JournalLemmas.{length-journal_of}
use Rattle.sv_plain.proofs.ScanLemmas.{lacks_control-none}
use Rattle.sv_plain.proofs.working.lacks_control.Goals as goal

pub returns : goal.returns
returns c =
    let left = take c.loop-left.left c.args.entries.now in
    let early : length (journal_of left) ≤ c.args.coupling.now.at = omega (arith, length-journal_of left, length-take c.loop-left.left c.args.entries.now) in
    sym (lacks_control-none (journal_of left) c.args.offer.now c.args.coupling.now early) ∙ c.loop-left.invariant.same
