-- What is made place by place is what the definition says.
use Rattle.std.proofs.Common.{◌≡◌, ℕ, zero, suc, ◌+◌, ◌<◌, Bool, true, false, ◌||◌, is_none, List, [], ◌∷◌, ◌++◌, length, map, Option, Some, None, slice_get, get_or, refl, ap, sym, ◌∙◌, arith}
use Rattle.std.specs.List.{filter_map, list_any, range_with_len}
use Rattle.std.proofs.lemmas.List.Folds.{list_any-append, list_any_at}
use Rattle.std.proofs.lemmas.List.FromFn.{map-range_with_len_more, length-range_with_len, get_or-range_with_len}
use Rattle.apl_items.specs.Places.{HasItems, IsByPlace, LacksItem, items_by, lacks_item, places}

or_true : (b : Bool) → (b || true) ≡ true
or_true true = refl
or_true false = refl

-- the items from a place on are those that the rule gives there
made_from : {T : Type 0} (rule : ℕ → Option T) (first n : ℕ) (xs : List T) → length xs ≡ n
    → ((k : ℕ) → k < n → slice_get xs k ≡ rule (first + k)) → filter_map rule (range_with_len first n) ≡ xs
made_from rule first zero [] e each = refl
made_from rule first zero (x ∷ xs) e each = absurd (omega arith)
made_from rule first (suc n) [] e each = absurd (omega arith)
made_from rule first (suc n) (x ∷ xs) e each =
    let here : rule first ≡ Some x = ap rule (let there : first ≡ first + 0 = omega arith in there) ∙ sym (each 0 (omega arith)) in
    let rest = made_from rule (first + 1) n xs (omega arith)
    (λ k h. each (suc k) (omega arith) ∙ ap rule (let there : first + suc k ≡ (first + 1) + k = omega arith in there)) in
    rw here (ap (λ ys. x ∷ ys) rest)

-- and none of them is lacking
none_lacks_from : {T : Type 0} (rule : ℕ → Option T) (first n : ℕ) (xs : List T) → length xs ≡ n
    → ((k : ℕ) → k < n → slice_get xs k ≡ rule (first + k)) → list_any (λ place. is_none (rule place)) (range_with_len first n) ≡ false
none_lacks_from rule first zero xs e each = refl
none_lacks_from rule first (suc n) [] e each = absurd (omega arith)
none_lacks_from rule first (suc n) (x ∷ xs) e each =
    let here : rule first ≡ Some x = ap rule (let there : first ≡ first + 0 = omega arith in there) ∙ sym (each 0 (omega arith)) in
    rw here (none_lacks_from rule (first + 1) n xs (omega arith)
    (λ k h. each (suc k) (omega arith) ∙ ap rule (let there : first + suc k ≡ (first + 1) + k = omega arith in there)))

lacks_from : {T : Type 0} (rule : ℕ → Option T) (first n k : ℕ) → k < n → rule (first + k) ≡ None
    → list_any (λ place. is_none (rule place)) (range_with_len first n) ≡ true
lacks_from rule first zero k h e = absurd (omega arith)
lacks_from rule first (suc n) zero h e = rw (ap rule (let there : first ≡ first + 0 = omega arith in there) ∙ e) refl
lacks_from rule first (suc n) (suc k) h e =
    let rest = lacks_from rule (first + 1) n k (omega arith) (ap rule (let there : (first + 1) + k ≡ first + suc k = omega arith in there) ∙ e) in
    rw rest (or_true (is_none (rule first)))

-- the items that were made are those of the definition
pub made : {T : Type 0} (n : ℕ) (rule : ℕ → Option T) (xs : List T) → IsByPlace n rule xs → items_by n rule ≡ xs
made n rule xs h = made_from rule 0 n xs h.whole (λ k less. h.each k less ∙ ap rule (let there : k ≡ 0 + k = omega arith in there))

pub nothing_lacks : {T : Type 0} (n : ℕ) (rule : ℕ → Option T) (xs : List T) → IsByPlace n rule xs → lacks_item n rule ≡ false
nothing_lacks n rule xs h = none_lacks_from rule 0 n xs h.whole (λ k less. h.each k less ∙ ap rule (let there : k ≡ 0 + k = omega arith in there))

-- one item is lacking
pub something_lacks : {T : Type 0} (n : ℕ) (rule : ℕ → Option T) → LacksItem n rule → lacks_item n rule ≡ true
something_lacks n rule h = lacks_from rule 0 n h.0 h.1 (ap rule (let there : 0 + h.0 ≡ h.0 = omega arith in there) ∙ h.2)

-- no item is lacking
pub nothing_lacks_at : {T : Type 0} (n : ℕ) (rule : ℕ → Option T) → HasItems n rule → lacks_item n rule ≡ false
nothing_lacks_at n rule h = all_there 0 n (λ k less. let at : 0 + k ≡ k = omega arith in let here = h k less in ap is_none (ap rule at ∙ here.1))
  where
    all_there : (first n : ℕ) → ((k : ℕ) → k < n → is_none (rule (first + k)) ≡ false) → list_any (λ place. is_none (rule place)) (range_with_len first n) ≡ false
    all_there first zero each = refl
    all_there first (suc n) each =
        let here : is_none (rule first) ≡ false = ap (λ (k : ℕ). is_none (rule k)) (let same : first ≡ first + 0 = omega arith in same) ∙ each 0 (omega arith) in
        rw here (all_there (first + 1) n (λ k less. ap (λ (p : ℕ). is_none (rule p)) (let same : (first + 1) + k ≡ first + suc k = omega arith in same) ∙ each (suc k) (omega arith)))

-- these, for a call that makes items by place and answers with them
pub ruleset by_places = (made, nothing_lacks, something_lacks)

-- ---- what is seen at the places

-- one place more
pub places_more : (first count : ℕ) → range_with_len first (count + 1) ≡ range_with_len first count ++ (first + count) ∷ []
places_more first count = sym (map_same (range_with_len first (count + 1))) ∙ map-range_with_len_more (λ (place : ℕ). place) first count (first + count) refl
    ∙ ap (λ (front : List ℕ). front ++ (first + count) ∷ []) (map_same (range_with_len first count))
  where
    map_same : (xs : List ℕ) → map (λ (place : ℕ). place) xs ≡ xs
    map_same [] = refl
    map_same (x ∷ xs) = ap (λ (rest : List ℕ). x ∷ rest) (map_same xs)

or_false : (b : Bool) → (b || false) ≡ b
or_false true = refl
or_false false = refl

-- what is seen at one place more
pub list_any-places_more : (p : ℕ → Bool) (count : ℕ) (here : Bool) → p count ≡ here → list_any p (places (count + 1)) ≡ (list_any p (places count) || here)
list_any-places_more p count here e =
    let at : 0 + count ≡ count = omega arith in
    ap (list_any p) (places_more 0 count) ∙ list_any-append p (places count) ((0 + count) ∷ [])
    ∙ ap (λ (b : Bool). list_any p (places count) || b) (or_false (p (0 + count)) ∙ ap p at ∙ e)

-- something is seen at a place
pub list_any-places : (p : ℕ → Bool) (count place : ℕ) → place < count → p place ≡ true → list_any p (places count) ≡ true
list_any-places p count place below e =
    let len = length-range_with_len 0 count in
    let at : get_or (places count) place 0 ≡ place = get_or-range_with_len 0 count place 0 below ∙ (let zero_more : 0 + place ≡ place = omega arith in zero_more) in
    list_any_at p (places count) place 0 (let within : place < length (places count) = omega arith in within) (ap p at ∙ e)
