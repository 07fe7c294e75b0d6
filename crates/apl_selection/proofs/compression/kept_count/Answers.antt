use Rattle.std.proofs.Common.{ap, w64, ◌∙◌, arith, rules}
use Rattle.std.proofs.lemmas.Int.{to_z-of_z}
use Rattle.apl_arrays.specs.Number.{is_one}
use Rattle.apl_selection.proofs.CompressLemmas.{no_more_kept, one_more_kept}
use Rattle.apl_selection.proofs.compression.kept_count.Goals as goal
use Rattle.apl_selection.proofs.compression.kept_count.Goals.{then-is_one, else-is_one}

pub loop-at-preserved : goal.loop-at-preserved
loop-at-preserved c =
    let flag = to_z-of_z w64 c.number_at.result (search rules) ∙ c.number_at.ensures in
    let test = c.is_one.ensures ∙ ap is_one flag in
    elim c.if-is_one.branch [
      | then-is_one w ↦ rw w.total-is (record {
        counted = one_more_kept c.args.flags.now c.args.long c.loop-at.at c.loop-at.total c.is_one.result c.loop-at.invariant.counted test w.if-is_one.true;
        few = omega arith;
      })
      | else-is_one w ↦ rw w.total-is (record {
        counted = no_more_kept c.args.flags.now c.args.long c.loop-at.at c.loop-at.total c.is_one.result c.loop-at.invariant.counted test w.if-is_one.false;
        few = omega arith;
      })
    ]
