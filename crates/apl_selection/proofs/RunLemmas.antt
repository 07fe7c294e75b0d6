-- A run of items is what moves to as many places from the first of the run on.
use Rattle.std.proofs.Common.{◌≡◌, ℕ, ◌+◌, ◌≤◌, List, Some, length, get_or, refl, sym, ap, ◌∙◌, arith, ne_eqb}
use Rattle.std.specs.List.{between}
use Rattle.std.proofs.lemmas.List.FromFn.{fill_by_all}
use Rattle.std.proofs.lemmas.List.Edits.{get_or-between, length-between}
use Rattle.apl_items.specs.Extension.{place_in}
use Rattle.apl_items.specs.Moves.{item_or, moved_list}

not_alone : (count place : ℕ) → (count ≡ 1 → ⊥) → place_in count place ≡ place
not_alone count place more = rw (ne_eqb count 1 more) refl

run_of : {T : Type 0} (fill : T) (list : List T) (start count end : ℕ) → end ≡ start + count → end ≤ length list → length (between start end list) ≡ count
run_of fill list start count end e fits = length-between list start end fits ∙ omega arith

-- a run of a list that is no lone item
pub run_is : {T : Type 0} (fill : T) (list : List T) (start count end : ℕ) → (length list ≡ 1 → ⊥) → end ≡ start + count → end ≤ length list
    → between start end list ≡ moved_list fill list count (λ place. Some (place_in (length list) (start + place)))
run_is {T} fill list start count end more e fits =
    fill_by_all (λ (place : ℕ). item_or fill list (Some (place_in (length list) (start + place)))) (between start end list) count fill (run_of fill list start count end e fits)
    (λ k below. get_or-between list start end k fill (omega arith) ∙ sym (ap (λ (at : ℕ). get_or list at fill) (not_alone (length list) (start + k) more)))
