-- Items that stay, and items that moved away and back.
use Rattle.std.proofs.Common.{◌≡◌, ℕ, pos, ◌*◌, ◌/◌, ◌<◌, List, Option, Some, length, get_or, refl, sym, ap, ◌∙◌, arith}
use Rattle.std.proofs.lemmas.Nat.{div_below, mod_below}
use Rattle.std.proofs.lemmas.List.FromFn.{fill_by_all, get_or-map-range_with_len}
use Rattle.apl_arrays.specs.Array.{PlainItems, numbers, chars, item_count}
use Rattle.apl_arrays.specs.Glyph.{blank}
use Rattle.apl_items.specs.Along.{line_place, source_along, source_at, source_in_row}
use Rattle.apl_items.specs.Moves.{item_or, moved_items, moved_list}
use Rattle.apl_items.specs.declared.shapes.Split.{Split}
use Rattle.apl_items.specs.Shapes.{along_of, inner_of, outer_of, place_along, split_count}
use Rattle.apl_items.proofs.AlongLemmas.{positive}
use Rattle.apl_items.proofs.ShapeLemmas.{along_of_place, inner_of_place, outer_of_place, place_along_below, place_along_parts}

-- ---- items that stay

places_stay : {T : Type 0} (fill : T) (list : List T) → moved_list fill list (length list) (λ place. Some place) ≡ list
places_stay fill list = sym (fill_by_all (λ place. get_or list place fill) list (length list) fill refl (λ k h. refl))

pub items_stay : (items : PlainItems) → moved_items items (item_count items) (λ place. Some place) ≡ items
items_stay (numbers list) = ap numbers (places_stay (pos 0) list)
items_stay (chars list) = ap chars (places_stay blank list)

-- ---- items that moved away and back

-- what moved first, to so many places, and then again is back at a place
pub record IsBack (count : ℕ) (first again : ℕ → Option ℕ) (place : ℕ) : Type 0 where
  pub at : ℕ
  pub below : at < count
  pub there : again place ≡ Some at
  pub back : first at ≡ Some place

back_list : {T : Type 0} (fill : T) (list : List T) (between count : ℕ) (first again : ℕ → Option ℕ) → length list ≡ count → ((place : ℕ) → place < count → IsBack between first again place)
    → moved_list fill (moved_list fill list between first) count again ≡ list
back_list {T} fill list between count first again whole back =
    sym (fill_by_all (λ place. item_or fill (moved_list fill list between first) (again place)) list count fill whole
    (λ place h. let b = back place h in
    sym (ap (item_or fill (moved_list fill list between first)) b.there
    ∙ get_or-map-range_with_len (λ p. item_or fill list (first p)) 0 between b.at b.at fill b.below (omega arith)
    ∙ ap (item_or fill list) b.back)))

pub back_items : (items : PlainItems) (between count : ℕ) (first again : ℕ → Option ℕ) → item_count items ≡ count → ((place : ℕ) → place < count → IsBack between first again place)
    → moved_items (moved_items items between first) count again ≡ items
back_items (numbers list) between count first again whole back = ap numbers (back_list (pos 0) list between count first again whole back)
back_items (chars list) between count first again whole back = ap chars (back_list blank list between count first again whole back)

-- ---- away and back along an axis

-- the parts of a place are within the split
pub parts_within : (split : Split) (place : ℕ) → place < split_count split
    → (outer_of split place < split.outer) × (along_of split place < split.along) × (inner_of split place < split.inner)
parts_within split place below =
    let some = positive (split.outer * split.along) split.inner place below in
    let row = div_below place split.inner (split.outer * split.along) some below in
    let long = positive split.outer split.along (place / split.inner) row in
    (div_below (place / split.inner) split.along split.outer long row, mod_below (place / split.inner) split.along long, mod_below place split.inner some)

same_row : (split : Split) (long : ℕ) (from : ℕ → ℕ → Option ℕ) (a b c x y z : ℕ) → a ≡ x → b ≡ y → c ≡ z → source_in_row split long from a b c ≡ source_in_row split long from x y z
same_row split long from a b c x y z p q r = rw (p, q, r) refl

-- a rule leads from a place of a line to another below a length, and the other rule leads back
pub record LeadsBack (wide : ℕ) (first again : ℕ → ℕ → Option ℕ) (line along : ℕ) : Type 0 where
  pub at : ℕ
  pub below : at < wide
  pub there : again line along ≡ Some at
  pub back : first line at ≡ Some along

-- a shape by its rows, the length of an axis, and the items behind it
abbrev pub split_of : ℕ → ℕ → ℕ → Split
split_of rows long inners = record { outer = rows; along = long; inner = inners }

-- an axis of one length that gets another and then its own again
pub back_along : (rows inners wide long : ℕ) (first again : ℕ → ℕ → Option ℕ) → ((line along : ℕ) → along < long → LeadsBack wide first again line along)
    → (place : ℕ) → place < rows * long * inners
    → IsBack (rows * wide * inners) (source_along (split_of rows wide inners) long first) (source_along (split_of rows long inners) wide again) place
back_along rows inners wide long first again leads place below =
    let here : Split = split_of rows long inners in
    let away : Split = split_of rows wide inners in
    let parts = parts_within here place below in
    let o : ℕ = outer_of here place in
    let a : ℕ = along_of here place in
    let i : ℕ = inner_of here place in
    let way = leads (line_place here o i) a parts.1 in
    let x : ℕ = way.at in record {
      at = place_along away o x i;
      below = place_along_below away o x i parts.0 way.below parts.2;
      there = ap (source_at here wide o i) way.there;
      back = same_row away long first _ _ _ o x i (outer_of_place away o x i way.below parts.2) (along_of_place away o x i way.below parts.2) (inner_of_place away o x i parts.2)
          ∙ ap (source_at away long o i) way.back
          ∙ ap (λ (n : ℕ). Some n) (place_along_parts here place);
    }
