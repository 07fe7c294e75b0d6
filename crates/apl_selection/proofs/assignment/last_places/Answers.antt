use Rattle.std.proofs.Common.{◌≡◌, ◌*◌, None, Some, map, ◌∙◌}
use Rattle.std.proofs.lemmas.Result.{IfOk-weaker}
use Rattle.apl_items.specs.Places.{places}
use Rattle.apl_selection.specs.Assignment.{last_place}
use Rattle.apl_selection.specs.Naming.{scaled_place}
use Rattle.apl_selection.specs.Subscripts.{named_by}
use Rattle.apl_selection.proofs.AssignLemmas.{all_by_stride}
use Rattle.apl_selection.proofs.assignment.last_places.Goals as goal

pub returns-in-None : goal.returns-in-None
returns-in-None c =
    rw c.in-None.is (IfOk-weaker c.all_places.result (λ table. table.items ≡ map (λ along. Some (along * c.args.stride)) (places c.args.axis))
    (λ table. table.items ≡ map (λ along. scaled_place c.args.stride (last_place along (named_by c.args.axis None))) (places c.args.axis))
    (λ table is. is ∙ all_by_stride c.args.axis c.args.stride) c.all_places.ensures)
