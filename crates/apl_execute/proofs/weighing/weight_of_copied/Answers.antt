use Rattle.std.proofs.Common.{◌≡◌, ◌+◌, ◌∙◌, [], true, false, get_or, length, min, refl, sym}
use Rattle.std.proofs.lemmas.Option.{get_or_from_slice_get, slice_get-get_or, slice_get_read}
use Rattle.apl_workspace.specs.Limits.{most_weight}
use Rattle.apl_workspace.specs.Meaning.{meaning_weight}
use Rattle.apl_workspace.specs.Workspace.{global_in}
use Rattle.apl_execute.proofs.Weights.{weight_more}
use Rattle.apl_execute.proofs.weighing.weight_of_copied.Goals as goal
use Rattle.apl_execute.proofs.weighing.weight_of_copied.Goals.{then-is_copied_at, else-is_copied_at}

pub loop-at-preserved : goal.loop-at-preserved
loop-at-preserved c =
    let ws = c.args.ws.now in
    let names = c.args.names.now in
    let at = c.loop-at.at in
    let before = c.loop-at.weight in
    let after = c.if-is_copied_at.weight in
    elim c.if-is_copied_at.branch [
      | then-is_copied_at w ↦
          let name = w.index-names-at.result in
          let here = slice_get_read names (length names) at name refl c.loop-at-test.true w.index-names-at.is in
          let adds : w.min-weight.result ≡ min (before + w.global_weight.result) (most_weight + 1) = cc in
          weight_more ws c.args.into.now c.args.from.now names at name before w.global_weight.result after true c.loop-at-test.true w.index-names-at.is (sym w.if-is_copied_at.true ∙ c.is_copied_at.ensures name here) c.loop-at.invariant
          w.global_weight.ensures (w.weight-is ∙ adds)
      | else-is_copied_at w ↦
          let name = get_or names at [] in
          let here = slice_get-get_or names at [] c.loop-at-test.true in
          weight_more ws c.args.into.now c.args.from.now names at name before (min (meaning_weight (global_in ws name)) (most_weight + 1)) after false c.loop-at-test.true (sym (get_or_from_slice_get names at name name here))
          (sym w.if-is_copied_at.false ∙ c.is_copied_at.ensures name here) c.loop-at.invariant refl w.weight-is
    ]
