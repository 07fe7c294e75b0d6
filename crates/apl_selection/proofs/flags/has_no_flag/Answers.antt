use Rattle.std.proofs.Common.{get_or, pos, ap, w64, ◌∙◌, rules}
use Rattle.std.specs.List.{list_any}
use Rattle.std.proofs.lemmas.Int.{to_z-of_z}
use Rattle.std.proofs.lemmas.List.{take_all}
use Rattle.apl_selection.specs.Flags.{is_no_flag}
use Rattle.apl_selection.proofs.NoFlagLemmas.{no_flag_yet, some_no_flag}
use Rattle.apl_selection.proofs.flags.has_no_flag.Goals as goal
use Rattle.apl_selection.proofs.flags.has_no_flag.Goals.{then-is_no_flag, else-is_no_flag}

pub loop-number-preserved : goal.loop-number-preserved
loop-number-preserved c =
    let numbers = c.args.numbers.now in
    let at = c.loop-number.number-index in
    let test = c.is_no_flag.ensures ∙ ap is_no_flag (to_z-of_z w64 (get_or numbers at (pos 0)) (search rules)) in
    elim c.if-is_no_flag.branch [
      | then-is_no_flag w ↦ rw w.wrong-is (record { so_far = some_no_flag numbers at c.is_no_flag.result c.loop-number-test.true test w.if-is_no_flag.true })
      | else-is_no_flag w ↦ rw w.wrong-is (record { so_far = no_flag_yet numbers at c.loop-number.wrong c.is_no_flag.result c.loop-number-test.true c.loop-number.invariant.so_far test w.if-is_no_flag.false })
    ]

pub returns : goal.returns
returns c = c.loop-number.invariant.so_far ∙ ap (list_any is_no_flag) (take_all c.loop-number.number-index c.args.numbers.now c.loop-number-test.false)
