use Rattle.std.proofs.Common.{◌∙◌}
use Rattle.sv_events.specs.Entry.{plain_entry}
use Rattle.run_judging.proofs.JudgeLemmas.{judged_by, made_so, not_made}
use Rattle.run_judging.proofs.judging.makes.Goals as goal

pub returns-then-made : goal.returns-then-made
returns-then-made c =
    judged_by c.args.core.now c.make.new.core (plain_entry c.args.entry.now) c.is_newest.result
    (made_so c.args.core.now c.make.new.core (plain_entry c.args.entry.now) c.in_ok-made.made c.if-made.true c.in_ok-made.ensures)
    (λ x journal whole. c.is_newest.ensures x journal (c.journal.ensures.value ∙ whole))

pub returns-else-made : goal.returns-else-made
returns-else-made c = not_made c.args.core.now c.make.new.core (plain_entry c.args.entry.now) c.in_ok-made.made c.if-made.false c.in_ok-made.ensures
