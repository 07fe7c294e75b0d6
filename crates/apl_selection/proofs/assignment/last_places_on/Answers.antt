use Rattle.std.proofs.Common.{◌≡◌, get_or, map, refl, ap, ◌∙◌, arith}
use Rattle.std.specs.Prelude.{option_copied}
use Rattle.std.proofs.lemmas.Result.{IfOk-weaker}
use Rattle.apl_items.specs.Places.{places}
use Rattle.apl_selection.specs.Assignment.{last_place}
use Rattle.apl_selection.specs.Naming.{naming_by, scaled_place}
use Rattle.apl_selection.specs.Subscripts.{named_by, points_outside}
use Rattle.apl_selection.proofs.PickLemmas.{axes_small}
use Rattle.apl_selection.proofs.IndexLemmas.{inside_each}
use Rattle.apl_selection.proofs.NamingLemmas.{table_is}
use Rattle.apl_selection.proofs.SubscriptLemmas.{sub_read}
use Rattle.apl_selection.proofs.assignment.last_places_on.Goals as goal

pub last_places-requires-clause-long : goal.last_places-requires-clause-long
last_places-requires-clause-long c = axes_small c.args.shape.now c.requires.fits c.args.axis c.requires.axis

pub last_places-requires-clause-inside : goal.last_places-requires-clause-inside
last_places-requires-clause-inside c =
    ap (points_outside (get_or c.args.shape.now c.args.axis 0)) (sub_read c.args.subs.now c.args.axis c.index-subs-axis.result (omega arith) c.index-subs-axis.is)
    ∙ inside_each c.args.shape.now (map option_copied c.args.subs.now) c.args.axis c.requires.inside c.requires.axis

pub returns : goal.returns
returns c =
    let shape = c.args.shape.now in let subs = map option_copied c.args.subs.now in let strides = c.args.strides.now in
    let long = get_or shape c.args.axis 0 in
    IfOk-weaker c.last_places.result (λ table. table.items ≡ map (λ along. scaled_place c.stride_in.result (last_place along (named_by long (option_copied c.index-subs-axis.result)))) (places long))
    (λ table. table.items ≡ map (naming_by shape subs strides c.args.axis) (places long))
    (λ table is. table_is shape strides subs c.args.axis long c.stride_in.result (option_copied c.index-subs-axis.result) table.items refl
    (sub_read c.args.subs.now c.args.axis c.index-subs-axis.result (omega arith) c.index-subs-axis.is) c.stride_in.ensures is) c.last_places.ensures
