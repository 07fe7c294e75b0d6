-- Rows that are left, where one more of them is done.
use Rattle.std.proofs.Common.{◌≡◌, ℕ, zero, suc, ◌+◌, ◌<◌, List, [], ◌∷◌, ◌++◌, length, drop, refl, ap, ◌∙◌, add-one, arith}
use Rattle.std.specs.Prelude.{ℤ, map, option_map, slice_get}
use Rattle.apl_values.specs.declared.rows.NameRow.{NameRow}
use Rattle.apl_values.specs.declared.rows.Rows.{Rows}
use Rattle.apl_values.specs.Rows.{HasTold, plain_name_row}

-- where some are left, the next one is among all
pub left_below : {A B : Type 0} (f : A → B) (xs : List A) (at : ℕ) → (map f (drop at xs) ≡ [] → ⊥) → at < length xs
left_below f [] zero left = absurd (left refl)
left_below f [] (suc at) left = absurd (left refl)
left_below f (x ∷ xs) zero left = omega arith
left_below f (x ∷ xs) (suc at) left = let h : at < length xs = left_below f xs at left in omega arith

one_less_behind : {A B : Type 0} (f : A → B) (xs : List A) (at : ℕ) → map f (drop (suc at) xs) ≡ drop 1 (map f (drop at xs))
one_less_behind f [] zero = refl
one_less_behind f [] (suc at) = refl
one_less_behind f (x ∷ xs) zero = refl
one_less_behind f (x ∷ xs) (suc at) = one_less_behind f xs at

-- where one more is done, the first of those that were left is no more
pub one_less : {A B : Type 0} (f : A → B) (xs : List A) (at : ℕ) → map f (drop (at + 1) xs) ≡ drop 1 (map f (drop at xs))
one_less f xs at = ap (λ k. map f (drop k xs)) (add-one at) ∙ one_less_behind f xs at

-- the next one is the first of those that are left
pub next_left : {A B : Type 0} (f : A → B) (xs : List A) (at : ℕ) → slice_get (map f (drop at xs)) 0 ≡ option_map f (slice_get xs at)
next_left f [] zero = refl
next_left f [] (suc at) = refl
next_left f (x ∷ xs) zero = refl
next_left f (x ∷ xs) (suc at) = next_left f xs at

-- a row told these numbers
pub told_one : (before after : Rows) (told : List ℤ) → after.rows.items ≡ before.rows.items → after.at ≡ before.at + 1 → after.numbers.items ≡ before.numbers.items ++ told → after.shape.items ≡ before.shape.items → HasTold before told after
told_one before after told same at numbers shape = record {
  rows = ap (λ (rows : List NameRow). map plain_name_row (drop after.at rows)) same ∙ ap (λ (k : ℕ). map plain_name_row (drop k before.rows.items)) at ∙ one_less plain_name_row before.rows.items before.at;
  numbers = numbers;
  shape = shape;
}
