-- A vector in reverse order is what moves from as far from its end.
use Rattle.std.proofs.Common.{◌≡◌, ℕ, ◌-◌, ◌<◌, ℤ, pos, false, List, [], ◌∷◌, Option, Some, Ok, reverse, length, get_or, refl, sym, ap, ◌∙◌, arith, lt-ltb}
use Rattle.std.proofs.lemmas.List.{get_or-reverse, length-reverse}
use Rattle.std.proofs.lemmas.List.FromFn.{fill_by_all}
use Rattle.apl_arrays.specs.declared.way.Way.{Way}
use Rattle.apl_arrays.specs.Array.{PlainArray, PlainItems, IsArray, numbers, chars, element_count, item_count}
use Rattle.apl_arrays.specs.Glyph.{blank}
use Rattle.apl_items.specs.declared.shapes.Split.{Split}
use Rattle.apl_items.specs.Along.{source_along, source_in_row}
use Rattle.apl_items.specs.Axis.{axis_of, lacks_axis}
use Rattle.apl_items.specs.Moves.{item_or, moved_items, moved_list}
use Rattle.apl_items.specs.Shapes.{along_of, inner_of, outer_of, place_along, split_at}
use Rattle.apl_items.proofs.ShapeLemmas.{along_of_place, element_count-cons, inner_of_place, outer_of_place}
use Rattle.apl_structure.specs.Reversal.{from_the_end, reverse_of, reversed, turned_items, turned_vector}

in_row_same : (split : Split) (long : ℕ) (from : ℕ → ℕ → Option ℕ) (o a i x y z : ℕ) → o ≡ x → a ≡ y → i ≡ z → source_in_row split long from o a i ≡ source_in_row split long from x y z
in_row_same split long from o a i x y z p q r = rw (p, q, r) refl

-- a line of so many places, which are the items
abbrev line : ℕ → Split
line n = record { outer = 1; along = n; inner = 1 }

mirror_place : (n k : ℕ) → k < n → source_in_row (line n) n (λ at along. from_the_end n along) 0 k 0 ≡ Some (n - 1 - k)
mirror_place n k below = rw (lt-ltb k n below) (ap (λ (m : ℕ). Some m) (omega arith))

source_of : (n k : ℕ) → k < n → source_along (line n) n (λ at along. from_the_end n along) k ≡ Some (n - 1 - k)
source_of n k below =
    let here : k ≡ place_along (line n) 0 k 0 = omega arith in
    let one : 0 < 1 = omega arith in
    in_row_same (line n) n (λ at along. from_the_end n along) (outer_of (line n) k) (along_of (line n) k) (inner_of (line n) k) 0 k 0
    (ap (outer_of (line n)) here ∙ outer_of_place (line n) 0 k 0 below one)
    (ap (along_of (line n)) here ∙ along_of_place (line n) 0 k 0 below one)
    (ap (inner_of (line n)) here ∙ inner_of_place (line n) 0 k 0 one)
    ∙ mirror_place n k below

turned_is : {T : Type 0} (fill : T) (n : ℕ) (list : List T) → length list ≡ n → reverse list ≡ moved_list fill list n (source_along (line n) n (λ at along. from_the_end n along))
turned_is {T} fill n list e =
    fill_by_all (λ (k : ℕ). item_or fill list (source_along (line n) n (λ at along. from_the_end n along) k)) (reverse list) n fill (length-reverse list ∙ e)
    (λ k below. get_or-reverse list k fill (omega arith) ∙ ap (λ (m : ℕ). get_or list (m - 1 - k) fill) e ∙ sym (ap (item_or fill list) (source_of n k below)))

items_turned : (n : ℕ) (items : PlainItems) → item_count items ≡ n → turned_items items ≡ moved_items items n (source_along (line n) n (λ at along. from_the_end n along))
items_turned n (numbers list) e = ap numbers (turned_is (pos 0) n list e)
items_turned n (chars list) e = ap chars (turned_is blank n list e)

turned_as : (n : ℕ) (items : PlainItems) → element_count (n ∷ []) ≡ item_count items → turned_items items ≡ moved_items items (element_count (n ∷ [])) (source_along (split_at (n ∷ []) 0) n (λ at along. from_the_end n along))
turned_as n items e =
    let count = element_count-cons n [] in
    let all : element_count (n ∷ []) ≡ n = omega arith in
    items_turned n items (sym e ∙ all) ∙ ap (λ (m : ℕ). moved_items items m (source_along (line n) n (λ at along. from_the_end n along))) (sym all)

-- a vector in reverse order
pub vector_turned : (b : PlainArray) (axis : ℕ) → IsArray b → length b.shape ≡ 1 → axis < length b.shape → turned_vector b ≡ reversed b axis
vector_turned b axis array e inside = by_shape b.shape b.items array.whole e (omega arith)
  where
    by_shape : (shape : List ℕ) (items : PlainItems) → element_count shape ≡ item_count items → length shape ≡ 1 → axis ≡ 0
        → turned_vector (record { shape = shape; items = items }) ≡ reversed (record { shape = shape; items = items }) axis
    by_shape [] items whole one at = absurd (omega arith)
    by_shape (n ∷ []) items whole one at = rw at (ap (λ (made : PlainItems). record { shape = n ∷ []; items = made }) (turned_as n items whole))
    by_shape (n ∷ m ∷ rest) items whole one at = absurd (omega arith)

-- the axis that is meant
pub reversed_is : (b array : PlainArray) (way : Way) (axis : Option ℤ) (used : ℕ) → lacks_axis (length b.shape) axis ≡ false → used ≡ axis_of (length b.shape) way axis
    → array ≡ reversed b used → reverse_of b way axis ≡ Ok array
reversed_is b array way axis used named is_used is = rw named (ap (λ (x : PlainArray). Ok x) (sym (is ∙ ap (λ (u : ℕ). reversed b u) is_used)))
