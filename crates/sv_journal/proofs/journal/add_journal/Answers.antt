use Rattle.apl_arrays.proofs.Fronts.{failed, fails_behind, goes_behind}
use Rattle.sv_journal.proofs.journal.add_journal.Goals as goal

pub returns-in_err-add_entries-clause-front : goal.returns-in_err-add_entries-clause-front
returns-in_err-add_entries-clause-front c = failed _ _ _ (goes_behind _ _ _ _ c.in_ok-add_word.ensures.text c.in_err-add_entries.ensures.front)

pub returns-clause-front : goal.returns-clause-front
returns-clause-front c =
    fails_behind _ _ _ _ _ c.in_ok-add_word.ensures.text (fails_behind _ _ _ _ _ c.in_ok-add_entries.ensures.text c.add_word-2.ensures.front)
