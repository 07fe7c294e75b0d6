use Rattle.apl_arrays.proofs.Fronts.{failed, fails_behind, goes_behind}
use Rattle.sv_text.proofs.writing.add_array.Goals as goal

pub returns-in_err-add_text-clause-front : goal.returns-in_err-add_text-clause-front
returns-in_err-add_text-clause-front c = failed _ _ _ (goes_behind _ _ _ _ c.in_ok-add_kind.ensures.text c.in_err-add_text.ensures.front)

pub returns-in_err-add_counts-clause-front : goal.returns-in_err-add_counts-clause-front
returns-in_err-add_counts-clause-front c =
    failed _ _ _ (goes_behind _ _ _ _ c.in_ok-add_kind.ensures.text (goes_behind _ _ _ _ c.in_ok-add_text.ensures.text c.in_err-add_counts.ensures.front))

pub returns-in_err-add_text-2-clause-front : goal.returns-in_err-add_text-2-clause-front
returns-in_err-add_text-2-clause-front c =
    failed _ _ _ (goes_behind _ _ _ _ c.in_ok-add_kind.ensures.text (goes_behind _ _ _ _ c.in_ok-add_text.ensures.text (goes_behind _ _ _ _ c.in_ok-add_counts.ensures.text c.in_err-add_text-2.ensures.front)))

pub returns-clause-front : goal.returns-clause-front
returns-clause-front c =
    fails_behind _ _ _ _ _ c.in_ok-add_kind.ensures.text (fails_behind _ _ _ _ _ c.in_ok-add_text.ensures.text (fails_behind _ _ _ _ _ c.in_ok-add_counts.ensures.text (fails_behind _ _ _ _ _ c.in_ok-add_text-2.ensures.text c.add_items.ensures.front)))
