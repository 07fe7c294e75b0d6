-- Each item of a take or a drop stands where the numbers say.
use Rattle.std.proofs.Common.{◌≡◌, ℕ, ℤ, zero, suc, pos, ◌+◌, ◌-◌, ◌<◌, ◌≤◌, Bool, true, false, cond, nat_le, nat_lt, List, [], ◌∷◌, Option, Some, None, Ok, is_some, length, slice_index, get_or, unsigned_abs, refl, sym, ap, subst, ◌∙◌, arith}
use Rattle.std.specs.Int.{is_negative}
use Rattle.std.specs.List.{slice_get}
use Rattle.std.proofs.lemmas.Bool.Decides.{nat_tests}
use Rattle.std.proofs.lemmas.List.{get_or-map, length-map}
use Rattle.std.proofs.lemmas.List.FromFn.{get_or-map-range_with_len, length-map-range_with_len}
use Rattle.std.proofs.lemmas.Option.{slice_get_read}
use Rattle.apl_arrays.specs.declared.items.Item.{Item}
use Rattle.apl_arrays.specs.Array.{PlainArray, PlainItems, IsArray, IsItemOf, numbers, chars, element_count, item_count, numbers_in}
use Rattle.apl_arrays.specs.Glyph.{blank}
use Rattle.apl_arrays.specs.Shape.{shape_fault}
use Rattle.apl_items.specs.Answers.{Faults, first_report}
use Rattle.apl_items.specs.Axes.{offset_at, source_by_axes}
use Rattle.apl_items.specs.Moves.{item_or, moved_items, moved_list}
use Rattle.apl_items.specs.Shapes.{AreWithin, place_of}
use Rattle.apl_items.proofs.ShapeLemmas.{coordinates_of_place, place_of_below}
use Rattle.apl_selection.specs.Picks.{picked, strided}
use Rattle.apl_selection.proofs.FaultLemmas.{count_of_numbers, nothing_is_wrong}
use Rattle.apl_selection.proofs.GivenBackLemmas.{no_report}
use Rattle.apl_selection.proofs.MoveLemmas.{moved_item}
use Rattle.apl_selection.proofs.OrderLemmas.{Leads, led, led_by}
use Rattle.apl_selection.proofs.PickLemmas.{as_many_within, each_within, some_same}
use Rattle.apl_structure.specs.StructureLaws.{AreLeftAt, AreTakenTo, IsLeftAt, IsTakenTo, fill_of}
use Rattle.apl_structure.specs.Taking.{axes_faults, axes_for, drop_of, number_for, remaining, remaining_from, remaining_shape, take_of, taken, taken_from, taken_shape}
use Rattle.apl_structure.proofs.TakeLemmas.{source_fits}
use Rattle.apl_structure.proofs.TransposeLemmas.{within_from_each}

-- ---- items that are picked along each axis by itself

leads_by : (rule : ℕ → ℕ → Option ℕ) (axis : ℕ) (ks cs : List ℕ) → length ks ≡ length cs
    → ((k : ℕ) → k < length ks → rule (axis + k) (get_or ks k 0) ≡ Some (get_or cs k 0)) → Leads rule axis ks cs
leads_by rule axis [] [] many each = tt
leads_by rule axis [] (c ∷ cs) many each = absurd (omega arith)
leads_by rule axis (k ∷ ks) [] many each = absurd (omega arith)
leads_by rule axis (k ∷ ks) (c ∷ cs) many each =
    let here : axis + 0 ≡ axis = omega arith in (
      subst (λ (n : ℕ). rule n k ≡ Some c) here (each 0 (omega arith)),
      leads_by rule (axis + 1) ks cs (omega arith)
          (λ j h. let next : axis + suc j ≡ (axis + 1) + j = omega arith in subst (λ (n : ℕ). rule n (get_or ks j 0) ≡ Some (get_or cs j 0)) next (each (suc j) (omega arith))),
    )

led_each : (rule : ℕ → ℕ → Option ℕ) (axis : ℕ) (ks cs : List ℕ) → Leads rule axis ks cs
    → (length ks ≡ length cs) × ((k : ℕ) → k < length ks → rule (axis + k) (get_or ks k 0) ≡ Some (get_or cs k 0))
led_each rule axis [] [] leads = (refl, λ k h. absurd (omega arith))
led_each rule axis [] (c ∷ cs) leads = absurd leads
led_each rule axis (k ∷ ks) [] leads = absurd leads
led_each rule axis (k ∷ ks) (c ∷ cs) leads = let rest = led_each rule (axis + 1) ks cs leads.1 in let many = rest.0 in (omega arith, by_place leads.0 rest.1)
  where
    by_place : rule axis k ≡ Some c → ((j : ℕ) → j < length ks → rule ((axis + 1) + j) (get_or ks j 0) ≡ Some (get_or cs j 0)) → (j : ℕ) → j < length (k ∷ ks)
        → rule (axis + j) (get_or (k ∷ ks) j 0) ≡ Some (get_or (c ∷ cs) j 0)
    by_place first others zero h = let here : axis ≡ axis + 0 = omega arith in subst (λ (n : ℕ). rule n k ≡ Some c) here first
    by_place first others (suc j) h =
        let next : (axis + 1) + j ≡ axis + suc j = omega arith in subst (λ (n : ℕ). rule n (get_or ks j 0) ≡ Some (get_or cs j 0)) next (others j (omega arith))

-- the item of the source at coordinates stands at those from which the rule leads there
picked_item : (shape source : List ℕ) (items : PlainItems) (rule : ℕ → ℕ → Option ℕ) (from to : List ℕ) (item : Item) → length source ≡ length shape → AreWithin shape to → AreWithin source from
    → ((axis : ℕ) → axis < length source → rule axis (get_or to axis 0) ≡ Some (get_or from axis 0)) → IsItemOf items (place_of source from) item
    → IsItemOf (picked shape source items rule).items (place_of shape to) item
picked_item shape source items rule from to item rank to_in from_in each there =
    let many_to = as_many_within shape to to_in in
    let many_from = as_many_within source from from_in in
    let leads = leads_by rule 0 to from (omega arith) (λ k h. let zero_more : k ≡ 0 + k = omega arith in
    subst (λ (n : ℕ). rule n (get_or to k 0) ≡ Some (get_or from k 0)) zero_more (each k (omega arith))) in
    moved_item items item (element_count shape) (place_of shape to) (place_of source from) (source_by_axes shape (strided source rule)) (place_of_below shape to to_in)
    (ap (offset_at (strided source rule) 0) (coordinates_of_place shape to to_in) ∙ led_by source rule 0 to from (omega arith) leads) there

filled_list : {T : Type 0} (fill : T) (list : List T) (count place : ℕ) (source : ℕ → Option ℕ) → place < count → source place ≡ None → slice_get (moved_list fill list count source) place ≡ Some fill
filled_list {T} fill list count place source low is =
    let at : ℕ → T = λ p. item_or fill list (source p) in
    let here = get_or-map-range_with_len at 0 count place place fill low (omega arith) in
    slice_get_read (moved_list fill list count source) count place fill (sym (length-map-range_with_len at 0 count)) low (sym (here ∙ ap (item_or fill list) is))

filled_item : (items : PlainItems) (count place : ℕ) (source : ℕ → Option ℕ) → place < count → source place ≡ None → IsItemOf (moved_items items count source) place (fill_of items)
filled_item (numbers list) count place source low is = filled_list (pos 0) list count place source low is
filled_item (chars list) count place source low is = filled_list blank list count place source low is

-- where the rule leads nowhere in the source the fill stands
picked_fill : (shape source : List ℕ) (items : PlainItems) (rule : ℕ → ℕ → Option ℕ) (to : List ℕ) → length source ≡ length shape → AreWithin shape to
    → ((from : List ℕ) → length from ≡ length source → ((axis : ℕ) → axis < length source → rule axis (get_or to axis 0) ≡ Some (get_or from axis 0)) → ⊥)
    → IsItemOf (picked shape source items rule).items (place_of shape to) (fill_of items)
picked_fill shape source items rule to rank to_in nowhere =
    by_source (offset_at (strided source rule) 0 to) refl
  where
    by_source : (at : Option ℕ) → offset_at (strided source rule) 0 to ≡ at → IsItemOf (picked shape source items rule).items (place_of shape to) (fill_of items)
    by_source None is =
        filled_item items (element_count shape) (place_of shape to) (source_by_axes shape (strided source rule)) (place_of_below shape to to_in)
        (ap (offset_at (strided source rule) 0) (coordinates_of_place shape to to_in) ∙ is)
    by_source (Some at) is =
        let many = as_many_within shape to to_in in
        let way = led source rule 0 to at (omega arith) is in
        let cs : List ℕ = way.0 in
        let each = led_each rule 0 to cs way.1 in
        let as_many = each.0 in
        absurd (nowhere cs (omega arith) (λ axis h. let zero_more : 0 + axis ≡ axis = omega arith in
        subst (λ (n : ℕ). rule n (get_or to axis 0) ≡ Some (get_or cs axis 0)) zero_more (each.1 axis (omega arith))))

-- ---- takes

taken_by : (negative enough inside : Bool) (size long from to : ℕ) → nat_le size (to + long) ≡ enough → nat_lt to long ≡ inside → (negative ≡ false → to ≡ from) → (negative ≡ true → to + long ≡ from + size) → from < long
    → cond negative (cond enough (Some (to + long - size)) None) (cond inside (Some to) None) ≡ Some from
taken_by true true inside size long from to p q start end low = let is = end refl in let same : to + long - size ≡ from = omega arith in ap (λ (n : ℕ). Some n) same
taken_by true false inside size long from to p q start end low = absurd (let is = end refl in grind (arith, nat_tests))
taken_by false enough true size long from to p q start end low = ap (λ (n : ℕ). Some n) (start refl)
taken_by false enough false size long from to p q start end low = absurd (let is = start refl in grind (arith, nat_tests))

taken_to : (number : ℤ) (long from to : ℕ) → IsTakenTo number long from to → from < long → taken_from number long to ≡ Some from
taken_to number long from to as_far low =
    taken_by (is_negative number) (nat_le (unsigned_abs number) (to + long)) (nat_lt to long) (unsigned_abs number) long from to refl refl as_far.start as_far.end low

as_far_by : (negative enough inside : Bool) (size long from to : ℕ) → nat_le size (to + long) ≡ enough → nat_lt to long ≡ inside → to < size
    → cond negative (cond enough (Some (to + long - size)) None) (cond inside (Some to) None) ≡ Some from
    → (negative ≡ false → to ≡ from) × (negative ≡ true → to + long ≡ from + size) × (from < long)
as_far_by true true inside size long from to p q low e =
    let is = some_same (to + long - size) from e in let bound : size ≤ to + long = grind (arith, nat_tests) in (λ f. absurd (cc), λ _. omega arith, omega arith)
as_far_by true false inside size long from to p q low e = absurd (cc)
as_far_by false enough true size long from to p q low e =
    let is = some_same to from e in let bound : to < long = grind (arith, nat_tests) in (λ _. is, λ f. absurd (cc), omega arith)
as_far_by false enough false size long from to p q low e = absurd (cc)

-- a take that is given
record IsTake (a b r : PlainArray) : Type 0 where
  pub is : taken a b ≡ r
  pub rank : length (axes_for (item_count a.items) b) ≡ length (taken_shape a)
  pub many : length (axes_for (item_count a.items) b) ≡ length (numbers_in a.items)

is_take : (a b r : PlainArray) → IsArray b → take_of a b ≡ Ok r → IsTake a b r
is_take a b r array e =
    let faults : Faults = record (axes_faults a b) { too_large = is_some (shape_fault (taken_shape a)) } in
    let done = no_report (first_report faults) (taken a b) r e in
    let sound = nothing_is_wrong faults (sym done.0) in
    let counted = count_of_numbers a.items sound.domain in
    let none : None ≡ first_report (axes_faults a b) = rw (sound.rank, sound.long, sound.domain) refl in
    let fit = source_fits a b array none in
    let size = length-map (numbers_in a.items) unsigned_abs in
    record { is = done.1; rank = fit.2 ∙ counted ∙ sym size; many = fit.2 ∙ counted }

-- its shape
pub take_shape : (a b r : PlainArray) → take_of a b ≡ Ok r → r.shape ≡ taken_shape a
take_shape a b r e =
    let faults : Faults = record (axes_faults a b) { too_large = is_some (shape_fault (taken_shape a)) } in
    ap (λ (x : PlainArray). x.shape) (sym (no_report (first_report faults) (taken a b) r e).1)

pub taken_stands : (a b r : PlainArray) (source from to : List ℕ) (item : Item) → IsArray b → take_of a b ≡ Ok r → source ≡ axes_for (item_count a.items) b → AreWithin source from → AreWithin r.shape to
    → AreTakenTo a source from to → IsItemOf b.items (place_of source from) item → IsItemOf r.items (place_of r.shape to) item
taken_stands a b r source from to item array e s from_in to_in as_far there =
    let take = is_take a b r array e in
    let rank : length source ≡ length (taken_shape a) = ap (λ (xs : List ℕ). length xs) s ∙ take.rank in
    let rule : List ℕ → ℕ → ℕ → Option ℕ = λ axes axis along. taken_from (number_for a axis) (get_or axes axis 0) along in
    let stands : AreWithin (taken_shape a) to → IsItemOf (picked (taken_shape a) source b.items (rule source)).items (place_of (taken_shape a) to) item = λ inside.
    picked_item (taken_shape a) source b.items (rule source) from to item rank inside from_in
    (λ axis h. taken_to (number_for a axis) (get_or source axis 0) (get_or from axis 0) (get_or to axis 0) (as_far axis h) (each_within source from axis from_in h)) there in
    subst (λ (x : PlainArray). AreWithin x.shape to → IsItemOf x.items (place_of x.shape to) item)
    (ap (λ (axes : List ℕ). picked (taken_shape a) axes b.items (rule axes)) s ∙ take.is) stands to_in

pub fill_stands : (a b r : PlainArray) (source to : List ℕ) → IsArray b → take_of a b ≡ Ok r → source ≡ axes_for (item_count a.items) b → AreWithin r.shape to
    → ((from : List ℕ) → AreWithin source from → AreTakenTo a source from to → ⊥) → IsItemOf r.items (place_of r.shape to) (fill_of b.items)
fill_stands a b r source to array e s to_in nowhere =
    let take = is_take a b r array e in
    let rank : length source ≡ length (taken_shape a) = ap (λ (xs : List ℕ). length xs) s ∙ take.rank in
    let many : length source ≡ length (numbers_in a.items) = ap (λ (xs : List ℕ). length xs) s ∙ take.many in
    let rule : List ℕ → ℕ → ℕ → Option ℕ = λ axes axis along. taken_from (number_for a axis) (get_or axes axis 0) along in
    let stands : AreWithin (taken_shape a) to → IsItemOf (picked (taken_shape a) source b.items (rule source)).items (place_of (taken_shape a) to) (fill_of b.items) = λ inside.
    picked_fill (taken_shape a) source b.items (rule source) to rank inside
    (λ from as_many each.
    let told = λ (axis : ℕ) (h : axis < length source).
    (let low : get_or to axis 0 < unsigned_abs (number_for a axis) =
    subst (λ (n : ℕ). get_or to axis 0 < n) (get_or-map unsigned_abs (numbers_in a.items) axis (pos 0) 0 (omega arith)) (each_within (taken_shape a) to axis inside (omega arith)) in
    as_far_by (is_negative (number_for a axis)) (nat_le (unsigned_abs (number_for a axis)) (get_or to axis 0 + get_or source axis 0)) (nat_lt (get_or to axis 0) (get_or source axis 0))
    (unsigned_abs (number_for a axis)) (get_or source axis 0) (get_or from axis 0) (get_or to axis 0) refl refl low (each axis h)) in
    nowhere from (within_from_each source from as_many (λ axis h. (told axis h).2)) (λ axis h. record { start = (told axis h).0; end = (told axis h).1 })) in
    subst (λ (x : PlainArray). AreWithin x.shape to → IsItemOf x.items (place_of x.shape to) (fill_of b.items))
    (ap (λ (axes : List ℕ). picked (taken_shape a) axes b.items (rule axes)) s ∙ take.is) stands to_in

-- ---- drops

left_by : (negative inside : Bool) (size long from to : ℕ) → (negative ≡ false → from ≡ to + size) → (negative ≡ true → from ≡ to) → nat_lt (cond negative to (to + size)) long ≡ inside → from < long
    → cond inside (Some (cond negative to (to + size))) None ≡ Some from
left_by true true size long from to start end t low = ap (λ (n : ℕ). Some n) (sym (end refl))
left_by true false size long from to start end t low = absurd (let is = end refl in grind (arith, nat_tests))
left_by false true size long from to start end t low = ap (λ (n : ℕ). Some n) (sym (start refl))
left_by false false size long from to start end t low = absurd (let is = start refl in grind (arith, nat_tests))

left_at : (number : ℤ) (long from to : ℕ) → IsLeftAt number from to → from < long → remaining_from number long to ≡ Some from
left_at number long from to stands low =
    left_by (is_negative number) (nat_lt (cond (is_negative number) to (to + unsigned_abs number)) long) (unsigned_abs number) long from to stands.start stands.end refl low

-- its shape
pub drop_shape : (a b r : PlainArray) → drop_of a b ≡ Ok r → r.shape ≡ remaining_shape a (axes_for (item_count a.items) b)
drop_shape a b r e = ap (λ (x : PlainArray). x.shape) (sym (no_report (first_report (axes_faults a b)) (remaining a b) r e).1)

pub left_stands : (a b r : PlainArray) (source from to : List ℕ) (item : Item) → drop_of a b ≡ Ok r → source ≡ axes_for (item_count a.items) b → AreWithin source from → AreWithin r.shape to
    → AreLeftAt a source from to → IsItemOf b.items (place_of source from) item → IsItemOf r.items (place_of r.shape to) item
left_stands a b r source from to item e s from_in to_in as_far there =
    let done = no_report (first_report (axes_faults a b)) (remaining a b) r e in
    let rank : length source ≡ length (remaining_shape a source) = sym (length-map-range_with_len (λ axis. slice_index source axis - unsigned_abs (number_for a axis)) 0 (length source)) in
    let rule : List ℕ → ℕ → ℕ → Option ℕ = λ axes axis along. remaining_from (number_for a axis) (get_or axes axis 0) along in
    let stands : AreWithin (remaining_shape a source) to → IsItemOf (picked (remaining_shape a source) source b.items (rule source)).items (place_of (remaining_shape a source) to) item = λ inside.
    picked_item (remaining_shape a source) source b.items (rule source) from to item rank inside from_in
    (λ axis h. left_at (number_for a axis) (get_or source axis 0) (get_or from axis 0) (get_or to axis 0) (as_far axis h) (each_within source from axis from_in h)) there in
    subst (λ (x : PlainArray). AreWithin x.shape to → IsItemOf x.items (place_of x.shape to) item)
    (ap (λ (axes : List ℕ). picked (remaining_shape a axes) axes b.items (rule axes)) s ∙ done.1) stands to_in
