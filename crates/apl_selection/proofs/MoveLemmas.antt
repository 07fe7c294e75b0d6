-- Arrays whose items moved.
use Rattle.std.proofs.Common.{◌≡◌, ℕ, ◌+◌, ◌<◌, pos, List, [], ◌∷◌, map, ◌++◌, Option, Some, Result, length, get_or, refl, sym, ap, ◌∙◌, arith}
use Rattle.std.proofs.lemmas.List.FromFn.{get_or-map-range_with_len, length-map-range_with_len, map-range_with_len_more}
use Rattle.std.proofs.lemmas.Option.{get_or_from_slice_get, slice_get_read}
use Rattle.std.proofs.lemmas.Result.{IfOk-weaker}
use Rattle.std.specs.List.{range_with_len, slice_get}
use Rattle.std.specs.Prelude.{IfOk}
use Rattle.apl_arrays.specs.declared.items.Item.{Item}
use Rattle.apl_arrays.specs.declared.items.Item.TheVariants.{Number, Char}
use Rattle.apl_arrays.specs.Array.{PlainArray, PlainItems, IsArray, IsItemOf, numbers, chars, item_count}
use Rattle.apl_arrays.specs.Glyph.{blank}
use Rattle.apl_items.specs.Moves.{item_or, moved_items, moved_list}
use Rattle.apl_items.specs.Along.{source_count}
use Rattle.apl_items.specs.Shapes.{split_at}
use Rattle.apl_items.proofs.AxisLemmas.{map_range-append, map_range-same}
use Rattle.apl_items.proofs.MoveLemmas.{length-moved_list}
use Rattle.apl_items.proofs.ShapeLemmas.{split_count_lem}

-- the array of a shape and items
abbrev pub array_of : List ℕ → PlainItems → PlainArray
array_of shape items = record { shape = shape; items = items }

-- what is made where there is memory is an equal array too
pub made_is : {E : Type 0} (result : Result PlainArray E) (told array : PlainArray) → told ≡ array → IfOk result (λ made. made ≡ told) → IfOk result (λ made. made ≡ array)
made_is result told array same = IfOk-weaker result (λ made. made ≡ told) (λ made. made ≡ array) (λ made is. is ∙ same)

-- as many items as places
pub count_of_moved : (items : PlainItems) (count : ℕ) (source : ℕ → Option ℕ) → item_count (moved_items items count source) ≡ count
count_of_moved (numbers list) count source = length-moved_list (pos 0) list count source
count_of_moved (chars list) count source = length-moved_list blank list count source

-- the same items at each place make the same list
pub same_map : {T : Type 0} (f g : ℕ → T) (n : ℕ) → ((k : ℕ) → k < n → f k ≡ g k) → map f (range_with_len 0 n) ≡ map g (range_with_len 0 n)
same_map f g n same = map_range-same f g 0 0 n (λ k h. let at : 0 + k ≡ k = omega arith in rw at (same k h))

-- the items of more places are those of the first and those of the others
pub map_more : {T : Type 0} (f : ℕ → T) (m n : ℕ) → map f (range_with_len 0 (m + n)) ≡ map f (range_with_len 0 m) ++ map (λ (k : ℕ). f (m + k)) (range_with_len 0 n)
map_more {T} f m n =
    map_range-append f 0 m n
    ∙ ap (λ (xs : List T). map f (range_with_len 0 m) ++ xs)
    (map_range-same f (λ (k : ℕ). f (m + k)) (0 + m) 0 n (λ k h. let at : (0 + m) + k ≡ m + (0 + k) = omega arith in ap f at))

-- one place more
pub one_place_more : (f : ℕ → ℕ) (place here : ℕ) (before : List ℕ) → before ≡ map f (range_with_len 0 place) → here ≡ f place → before ++ here ∷ [] ≡ map f (range_with_len 0 (place + 1))
one_place_more f place here before e is =
    ap (λ (xs : List ℕ). xs ++ here ∷ []) e ∙ ap (λ (x : ℕ). map f (range_with_len 0 place) ++ x ∷ []) is ∙ sym (map-range_with_len_more f 0 place place (omega arith))

same_list : {T : Type 0} (fill : T) (list : List T) (count : ℕ) (f g : ℕ → Option ℕ) → ((place : ℕ) → place < count → f place ≡ g place)
    → moved_list fill list count f ≡ moved_list fill list count g
same_list fill list count f g same =
    same_map (λ p. item_or fill list (f p)) (λ p. item_or fill list (g p)) count (λ k h. ap (item_or fill list) (same k h))

-- the same source places give the same items
pub same_moved : (items : PlainItems) (count : ℕ) (f g : ℕ → Option ℕ) → ((place : ℕ) → place < count → f place ≡ g place)
    → moved_items items count f ≡ moved_items items count g
same_moved (numbers list) count f g same = ap numbers (same_list (pos 0) list count f g same)
same_moved (chars list) count f g same = ap chars (same_list blank list count f g same)

pub count_of_made : (made items : PlainItems) (count : ℕ) (source : ℕ → Option ℕ) → made ≡ moved_items items count source → count ≡ item_count made
count_of_made made items count source is = sym (ap item_count is ∙ count_of_moved items count source)

-- the source of a shape as long along an axis as an array has the array's items
pub whole_source : (b : PlainArray) (shape : List ℕ) (items : PlainItems) (axis long : ℕ) → shape ≡ b.shape → items ≡ b.items → IsArray b → axis < length b.shape
    → long ≡ get_or b.shape axis 0 → source_count (split_at shape axis) long ≡ item_count items
whole_source b shape items axis long s i array inside is = rw (s, i, is) (split_count_lem b.shape axis inside ∙ array.whole)

-- no items stay none
pub none_moved : (items : PlainItems) (count : ℕ) (source : ℕ → Option ℕ) → item_count items ≡ 0 → count ≡ 0 → items ≡ moved_items items count source
none_moved (numbers []) count source none zero_count = rw zero_count refl
none_moved (numbers (x ∷ xs)) count source none zero_count = absurd (omega arith)
none_moved (chars []) count source none zero_count = rw zero_count refl
none_moved (chars (x ∷ xs)) count source none zero_count = absurd (omega arith)

moved_to : {T : Type 0} (fill : T) (list : List T) (count place from : ℕ) (source : ℕ → Option ℕ) (item : T) → place < count → source place ≡ Some from → slice_get list from ≡ Some item
    → slice_get (moved_list fill list count source) place ≡ Some item
moved_to {T} fill list count place from source item low is there =
    let at : ℕ → T = λ p. item_or fill list (source p) in
    let here = get_or-map-range_with_len at 0 count place place item low (omega arith) in
    let told : at place ≡ item = ap (item_or fill list) is ∙ get_or_from_slice_get list from item fill there in
    slice_get_read (moved_list fill list count source) count place item (sym (length-map-range_with_len at 0 count)) low (sym (here ∙ told))

-- the item at a source place stands at its place
pub moved_item : (items : PlainItems) (item : Item) (count place from : ℕ) (source : ℕ → Option ℕ) → place < count → source place ≡ Some from → IsItemOf items from item → IsItemOf (moved_items items count source) place item
moved_item (numbers list) (Number n) count place from source low is there = moved_to (pos 0) list count place from source n low is there
moved_item (numbers list) (Char n) count place from source low is there = absurd there
moved_item (chars list) (Number n) count place from source low is there = absurd there
moved_item (chars list) (Char n) count place from source low is there = moved_to blank list count place from source n low is there
