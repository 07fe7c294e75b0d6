-- A take and a drop of a vector are runs of its items.
use Rattle.std.proofs.Common.{◌≡◌, ℕ, ℤ, suc, pos, negsuc, ◌-◌, ◌<◌, List, [], ◌∷◌, Option, true, length, get_or, map, nat_lt, unsigned_abs, refl, sym, ap, subst, ◌∙◌, arith}
use Rattle.std.proofs.lemmas.Bool.Decides.{nat_tests}
use Rattle.apl_arrays.specs.Array.{PlainArray, PlainItems, element_count, item_count}
use Rattle.apl_items.specs.Axes.{source_by_axes}
use Rattle.apl_items.specs.Moves.{moved_items}
use Rattle.apl_items.specs.Places.{places}
use Rattle.apl_selection.specs.Picks.{picked, strided}
use Rattle.apl_selection.proofs.MoveLemmas.{array_of, count_of_moved}
use Rattle.apl_structure.specs.Lengths.{lengths}
use Rattle.apl_structure.specs.Runs.{remaining_run, taken_run}
use Rattle.apl_structure.specs.Taking.{remaining_from, taken_from}
use Rattle.apl_structure.proofs.LawLemmas.{not_negative}
use Rattle.apl_structure.proofs.VectorLaws.{after_moved, before_moved, first_moved, from_end, last_moved, picked_on}

-- ---- a take

taken_moved : (number : ℤ) (items : PlainItems) → moved_items items (unsigned_abs number) (λ along. taken_from number (item_count items) along) ≡ taken_run number items
unfolding from_end
taken_moved (pos n) items = first_moved items n ∙ rw (not_negative n) refl
taken_moved (negsuc n) items = last_moved items (suc n)

taken_vector : (number : ℤ) (long : ℕ) (items : PlainItems) → long ≡ item_count items
    → array_of (unsigned_abs number ∷ []) (taken_run number items) ≡ picked (unsigned_abs number ∷ []) (long ∷ []) items (λ axis along. taken_from (get_or (number ∷ []) axis (pos 0)) (get_or (long ∷ []) axis 0) along)
taken_vector number long items whole =
    sym (picked_on (unsigned_abs number) long items (taken_run number items) (λ axis along. taken_from (get_or (number ∷ []) axis (pos 0)) (get_or (long ∷ []) axis 0) along)
    (ap (λ (l : ℕ). moved_items items (unsigned_abs number) (λ along. taken_from number l along)) whole ∙ taken_moved number items))

pub take_is_run : (numbers : List ℤ) (source shape : List ℕ) (items : PlainItems) → length source ≡ 1 → length source ≡ length shape → shape ≡ lengths numbers → element_count source ≡ item_count items
    → array_of shape (taken_run (get_or numbers 0 (pos 0)) items) ≡ picked shape source items (λ axis along. taken_from (get_or numbers axis (pos 0)) (get_or source axis 0) along)
take_is_run [] source shape items one same is whole = absurd (let size = ap (λ (xs : List ℕ). length xs) is in omega arith)
take_is_run (n ∷ m ∷ ns) source shape items one same is whole = absurd (let size = ap (λ (xs : List ℕ). length xs) is in omega arith)
take_is_run (n ∷ []) [] shape items one same is whole = absurd (omega arith)
take_is_run (n ∷ []) (k ∷ l ∷ ls) shape items one same is whole = absurd (omega arith)
take_is_run (n ∷ []) (long ∷ []) shape items one same is whole =
    subst (λ (s : List ℕ). array_of s (taken_run n items) ≡ picked s (long ∷ []) items (λ axis along. taken_from (get_or (n ∷ []) axis (pos 0)) (get_or (long ∷ []) axis 0) along)) (sym is)
    (taken_vector n long items (omega arith))

-- ---- a drop

left_there : (n long k : ℕ) → k < long - n → nat_lt k long ≡ true
left_there n long k below = grind (arith, nat_tests)

remaining_moved : (number : ℤ) (items : PlainItems) → moved_items items (item_count items - unsigned_abs number) (λ along. remaining_from number (item_count items) along) ≡ remaining_run number items
remaining_moved (pos n) items = after_moved items n ∙ rw (not_negative n) refl
remaining_moved (negsuc n) items =
    before_moved items (suc n) (λ along. remaining_from (negsuc n) (item_count items) along) (λ k below. rw (left_there (suc n) (item_count items) k below) refl)

remaining_vector : (number : ℤ) (numbers : List ℤ) (long : ℕ) (items : PlainItems) → number ≡ get_or numbers 0 (pos 0) → long ≡ item_count items
    → array_of ((long - unsigned_abs number) ∷ []) (remaining_run number items)
    ≡ picked ((long - unsigned_abs number) ∷ []) (long ∷ []) items (λ axis along. remaining_from (get_or numbers axis (pos 0)) (get_or (long ∷ []) axis 0) along)
remaining_vector number numbers long items is whole =
    sym (picked_on (long - unsigned_abs number) long items (remaining_run number items) (λ axis along. remaining_from (get_or numbers axis (pos 0)) (get_or (long ∷ []) axis 0) along)
    (ap (λ (n : ℤ). moved_items items (long - unsigned_abs number) (λ along. remaining_from n long along)) (sym is)
    ∙ ap (λ (l : ℕ). moved_items items (l - unsigned_abs number) (λ along. remaining_from number l along)) whole ∙ remaining_moved number items))

pub drop_is_run : (numbers : List ℤ) (source shape : List ℕ) (items : PlainItems) → length source ≡ 1 → shape ≡ map (λ axis. get_or source axis 0 - unsigned_abs (get_or numbers axis (pos 0))) (places (length source))
    → element_count source ≡ item_count items
    → array_of shape (remaining_run (get_or numbers 0 (pos 0)) items) ≡ picked shape source items (λ axis along. remaining_from (get_or numbers axis (pos 0)) (get_or source axis 0) along)
drop_is_run numbers [] shape items one is whole = absurd (omega arith)
drop_is_run numbers (k ∷ l ∷ ls) shape items one is whole = absurd (omega arith)
drop_is_run numbers (long ∷ []) shape items one is whole =
    subst (λ (s : List ℕ). array_of s (remaining_run (get_or numbers 0 (pos 0)) items) ≡ picked s (long ∷ []) items (λ axis along. remaining_from (get_or numbers axis (pos 0)) (get_or (long ∷ []) axis 0) along)) (sym is)
    (remaining_vector (get_or numbers 0 (pos 0)) numbers long items refl (omega arith))

-- ---- as many items as places

pub run_count : (shape source : List ℕ) (items made : PlainItems) (from : ℕ → ℕ → Option ℕ) → array_of shape made ≡ picked shape source items from → element_count shape ≡ item_count made
run_count shape source items made from is =
    sym (ap (λ (array : PlainArray). item_count array.items) is ∙ count_of_moved items (element_count shape) (source_by_axes shape (strided source from)))
