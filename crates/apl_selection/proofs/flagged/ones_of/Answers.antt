use Rattle.std.proofs.Common.{get_or, pos, length, ap, w64, ◌∙◌, arith, rules}
use Rattle.std.proofs.lemmas.Int.{to_z-of_z}
use Rattle.apl_arrays.specs.Number.{is_one}
use Rattle.apl_selection.proofs.CompressLemmas.{no_more_kept, one_more_kept}
use Rattle.apl_selection.proofs.FlaggedLemmas.{flag_test}
use Rattle.apl_selection.proofs.flagged.ones_of.Goals as goal
use Rattle.apl_selection.proofs.flagged.ones_of.Goals.{then-is_one, else-is_one}

pub loop-place-preserved : goal.loop-place-preserved
loop-place-preserved c =
    let flags = c.args.flags.now in
    let place = c.loop-place.place in
    let test = flag_test flags place c.is_one.result c.loop-place-test.true (c.is_one.ensures ∙ ap is_one (to_z-of_z w64 (get_or flags place (pos 0)) (search rules))) in
    elim c.if-is_one.branch [
      | then-is_one w ↦ rw w.total-is (record {
        counted = one_more_kept flags (length flags) place c.loop-place.total c.is_one.result c.loop-place.invariant.counted test w.if-is_one.true;
        few = omega arith;
      })
      | else-is_one w ↦ rw w.total-is (record {
        counted = no_more_kept flags (length flags) place c.loop-place.total c.is_one.result c.loop-place.invariant.counted test w.if-is_one.false;
        few = omega arith;
      })
    ]
