use Rattle.std.proofs.Common.{◌∙◌, ◌∷◌, ap, Bool}
use Rattle.std.specs.Prelude.{if◌then◌else◌}
use Rattle.std.proofs.lemmas.Bool.{not-true}
use Rattle.sv_core.specs.Core.{PlainCore}
use Rattle.sv_rules.specs.Entries.{is_full}
use Rattle.sv_rules.specs.Legal.{entry_for}
use Rattle.run_judging.proofs.making.step.Goals as goal

pub returns : goal.returns
returns c =
    c.in_ok-answer.ensures.journal
    ∙ ap (λ (b : Bool). let core : PlainCore = record { users = c.args.core.now.users; journal = if b then c.args.core.now.journal else entry_for c.args.core.now.journal c.args.entry.now.party c.args.entry.now.act ∷ c.args.core.now.journal } in core)
    (not-true (is_full c.args.core.now.journal) c.requires.room)
