use Rattle.std.proofs.Common.{◌<◌, ℕ, Option, List, length, subst, sym, ap, ◌∙◌, arith, map}
use Rattle.std.specs.Prelude.{option_copied}
use Rattle.std.proofs.lemmas.List.FromFn.{length-map-range_with_len}
use Rattle.apl_arrays.specs.Array.{FitsLimits, element_count, item_count, plain_items, seen_items}
use Rattle.apl_items.specs.Axes.{source_by_axes}
use Rattle.apl_selection.specs.Naming.{AreStridesFor, naming_by}
use Rattle.apl_selection.specs.Subscripts.{point_outside}
use Rattle.apl_selection.proofs.NamingLemmas.{assign_is_right, assigned_is, busy, counted, idle_is, overlaid_count, small_for}
use Rattle.apl_selection.proofs.MoveLemmas.{made_is}
use Rattle.apl_selection.proofs.SubscriptLemmas.{as_many_lent}
use Rattle.apl_selection.proofs.assignment.overlaid_array.Goals as goal

pub returns-then-is_idle : goal.returns-then-is_idle
returns-then-is_idle c =
    idle_is c.args.a.now c.args.v.now c.in_ok-copy.field-0 (map option_copied c.args.subs.now) (seen_items c.items-old.result) (seen_items c.items-new.result) c.is_idle.result
    c.items-old.ensures.value c.items-new.ensures.value c.is_idle.ensures c.if-is_idle.true c.in_ok-copy.ensures.array

pub strides_for-requires-clause-some : goal.strides_for-requires-clause-some
strides_for-requires-clause-some c =
    subst (λ (n : ℕ). 0 < n) (ap item_count c.items-new.ensures.value) (busy (item_count (seen_items c.items-old.result)) (item_count (seen_items c.items-new.result)) c.is_idle.result c.is_idle.ensures c.if-is_idle.false).1

pub naming-requires-clause-fits : goal.naming-requires-clause-fits
naming-requires-clause-fits c = subst FitsLimits (sym c.shape.ensures.value) c.shape.ensures.array.fits

pub naming-requires-clause-elements : goal.naming-requires-clause-elements
naming-requires-clause-elements c =
    let some = (busy (item_count (seen_items c.items-old.result)) (item_count (seen_items c.items-new.result)) c.is_idle.result c.is_idle.ensures c.if-is_idle.false).0 in
    omega (arith, some, ap item_count c.items-old.ensures.value, c.shape.ensures.array.whole, ap element_count c.shape.ensures.value)

pub naming-requires-clause-counted : goal.naming-requires-clause-counted
naming-requires-clause-counted c =
    let right = assign_is_right c.args.a.now c.args.v.now (map option_copied c.args.subs.now) c.requires in
    sym (as_many_lent c.args.subs.now) ∙ counted c.args.a.now.shape c.shape.result.now (map option_copied c.args.subs.now) c.shape.ensures.value right.counted

pub naming-requires-clause-inside : goal.naming-requires-clause-inside
naming-requires-clause-inside c =
    let right = assign_is_right c.args.a.now c.args.v.now (map option_copied c.args.subs.now) c.requires in
    ap (λ (xs : List ℕ). point_outside xs (map option_copied c.args.subs.now)) c.shape.ensures.value ∙ right.inside

pub naming-requires-clause-small : goal.naming-requires-clause-small
naming-requires-clause-small c =
    let some = busy (item_count (seen_items c.items-old.result)) (item_count (seen_items c.items-new.result)) c.is_idle.result c.is_idle.ensures c.if-is_idle.false in
    let are = subst (AreStridesFor c.args.a.now (map option_copied c.args.subs.now) c.args.v.now) (sym c.as_slice.ensures.value) c.in_ok-strides.ensures in
    small_for c.args.a.now c.args.v.now (map option_copied c.args.subs.now) c.shape.result.now c.as_slice.result.now are c.items-new.ensures.array (subst (λ (n : ℕ). 0 < n) (ap item_count c.items-new.ensures.value) some.1) c.shape.ensures.value

pub overlaid-requires : goal.overlaid-requires
overlaid-requires c =
    let told = c.as_slice-2.ensures.value ∙ c.in_ok-sources.ensures in
    ap (λ (xs : List (Option ℕ)). length xs) told
    ∙ length-map-range_with_len (source_by_axes c.shape.result.now (naming_by c.shape.result.now (map option_copied c.args.subs.now) c.as_slice.result.now)) 0 (element_count c.shape.result.now)
    ∙ ap element_count c.shape.ensures.value ∙ c.shape.ensures.array.whole ∙ sym (ap item_count c.items-old.ensures.value)

pub shaped-requires-clause-whole : goal.shaped-requires-clause-whole
shaped-requires-clause-whole c =
    ap element_count c.shape-2.ensures.value ∙ c.shape-2.ensures.array.whole ∙ sym (ap item_count c.items-old.ensures.value)
    ∙ sym (overlaid_count (seen_items c.items-old.result) (seen_items c.items-new.result) (plain_items c.in_ok-items.items) _ c.in_ok-items.ensures)

pub returns : goal.returns
returns c =
    let are = subst (AreStridesFor c.args.a.now (map option_copied c.args.subs.now) c.args.v.now) (sym c.as_slice.ensures.value) c.in_ok-strides.ensures in
    made_is c.shaped.result _ _
    (assigned_is c.args.a.now c.args.v.now (map option_copied c.args.subs.now) c.shape.result.now c.shape-2.result.now c.as_slice.result.now c.as_slice-2.result.now (seen_items c.items-old.result)
    (seen_items c.items-new.result) (plain_items c.in_ok-items.items) c.shape.ensures.array are c.shape.ensures.value c.shape-2.ensures.value c.items-old.ensures.value c.items-new.ensures.value
    (c.as_slice-2.ensures.value ∙ c.in_ok-sources.ensures) c.in_ok-items.ensures)
    c.shaped.ensures.array
