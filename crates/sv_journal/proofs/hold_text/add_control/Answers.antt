use Rattle.apl_arrays.proofs.Fronts.{fails_behind}
use Rattle.sv_journal.proofs.hold_text.add_control.Goals as goal

pub returns-clause-front : goal.returns-clause-front
returns-clause-front c =
    fails_behind _ _ _ _ _ c.in_ok-add_bit.ensures.text
    (fails_behind _ _ _ _ _ c.in_ok-add_blank.ensures.text (fails_behind _ _ _ _ _ c.in_ok-add_bit-2.ensures.text (fails_behind _ _ _ _ _ c.in_ok-add_blank-2.ensures.text
    (fails_behind _ _ _ _ _ c.in_ok-add_bit-3.ensures.text (fails_behind _ _ _ _ _ c.in_ok-add_blank-3.ensures.text c.add_bit-4.ensures.front)))))
