-- Items that moved, one more and all.
use Rattle.std.proofs.Common.{◌≡◌, ℕ, ◌+◌, List, [], ◌∷◌, ◌++◌, Option, length, sym, ap, ◌∙◌, arith}
use Rattle.std.proofs.lemmas.List.FromFn.{map-range_with_len_more, length-map-range_with_len}
use Rattle.apl_items.specs.Moves.{item_or, moved_list}

-- the items for one place more
pub moved_list_more : {T : Type 0} (fill : T) (list : List T) (source : ℕ → Option ℕ) (place : ℕ) (before : List T) (from : Option ℕ) (value : T)
    → before ≡ moved_list fill list place source → from ≡ source (place + 0) → value ≡ item_or fill list from
    → before ++ value ∷ [] ≡ moved_list fill list (place + 1) source
moved_list_more {T} fill list source place before from value so_far at_place is_item =
    let same : place + 0 ≡ place = omega arith in
    let here : value ≡ item_or fill list (source place) = is_item ∙ ap (item_or fill list) (at_place ∙ ap source same) in
    let more = map-range_with_len_more (λ p. item_or fill list (source p)) 0 place place (omega arith) in
    ap (λ (items : List T). items ++ value ∷ []) so_far ∙ ap (λ (item : T). moved_list fill list place source ++ item ∷ []) here ∙ sym more

-- as many items as places
pub length-moved_list : {T : Type 0} (fill : T) (list : List T) (count : ℕ) (source : ℕ → Option ℕ) → length (moved_list fill list count source) ≡ count
length-moved_list fill list count source = length-map-range_with_len (λ p. item_or fill list (source p)) 0 count
