use Rattle.std.proofs.Common.{◌≡◌, ◌+◌, ℕ, ℤ, pos, List, [], ◌∷◌, ◌++◌, map, ap, sym, w64, ◌∙◌, arith, rules}
use Rattle.std.proofs.lemmas.Int.{to_z-of_z}
use Rattle.std.proofs.lemmas.List.FromFn.{map-range_with_len_more}
use Rattle.apl_items.specs.Places.{places}
use Rattle.apl_structure.proofs.counting.first_numbers.Goals as goal

one_number_more : (place : ℕ) (number : ℤ) (before : List ℤ) → before ≡ map (λ p. pos (p + 1)) (places place) → number ≡ pos (place + 1)
    → before ++ number ∷ [] ≡ map (λ p. pos (p + 1)) (places (place + 1))
one_number_more place number before e is =
    ap (λ (xs : List ℤ). xs ++ number ∷ []) e ∙ ap (λ (z : ℤ). map (λ p. pos (p + 1)) (places place) ++ z ∷ []) is ∙ sym (map-range_with_len_more (λ p. pos (p + 1)) 0 place place (omega arith))

pub loop-place-preserved : goal.loop-place-preserved
loop-place-preserved c = record {
  items = c.push_reserved.ensures.items ∙ one_number_more c.loop-place.place _ c.loop-place.numbers.items c.loop-place.invariant.items (to_z-of_z w64 c.number_after.result (search rules) ∙ c.number_after.ensures);
  room = omega arith;
}
