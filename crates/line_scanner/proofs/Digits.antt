-- What is known of digits and the number that they spell.
use Rattle.std.proofs.Common.{◌≡◌, ℕ, zero, suc, ◌+◌, ◌*◌, ◌≤◌, ◌<◌, List, [], ◌∷◌, length, take, get_or, sym, ap, ◌∙◌, refl, arith, All}
use Rattle.std.specs.Prelude.{IsTrue}
use Rattle.std.specs.List.{prefix_len}
use Rattle.std.specs.Char.{digit_value}
use Rattle.std.specs.Str.Parse.{digits_value, digits_value_after}
use Rattle.std.proofs.lemmas.Int.Digits.{digits_value_more}
use Rattle.std.proofs.lemmas.List.Sums.{prefix_len_passes}
use Rattle.std.proofs.lemmas.List.{get_or-take, length-take}
use Rattle.std.proofs.lemmas.Grind.{get_or_default_zero}
use Rattle.apl_arrays.specs.Glyph.{is_digit}

-- digits only add to a number
after_ge : (n : ℕ) (ds : List ℕ) → n ≤ digits_value_after 10 n ds
after_ge n [] = omega arith
after_ge n (c ∷ cs) = omega (arith, after_ge (n * 10 + digit_value c) cs)

after_take_le : (n : ℕ) (ds : List ℕ) (i : ℕ) → digits_value_after 10 n (take i ds) ≤ digits_value_after 10 n ds
after_take_le n ds zero = after_ge n ds
after_take_le n [] (suc i) = omega arith
after_take_le n (c ∷ cs) (suc i) = after_take_le (n * 10 + digit_value c) cs i

-- the first digits spell no greater number than all
pub digits_value_take_le : (ds : List ℕ) (i : ℕ) → digits_value 10 (take i ds) ≤ digits_value 10 ds
digits_value_take_le ds i = after_take_le 0 ds i

-- the digits at the front are digits
pub digits_at_front : (xs : List ℕ) → All (λ digit. IsTrue (is_digit digit)) (take (prefix_len is_digit xs) xs)
digits_at_front xs k d lt =
    let count = prefix_len is_digit xs in
    let short : k < count = omega (arith, length-take count xs) in
    rw (get_or-take count xs k d short) (prefix_len_passes is_digit xs k d short)

-- one digit more
pub with_digit_more : (ds : List ℕ) (i v d w : ℕ) → i < length ds → v ≡ digits_value 10 (take i ds) → d ≡ get_or ds i d → w ≡ v * 10 + digit_value d → w ≡ digits_value 10 (take (i + 1) ds)
with_digit_more ds i v d w lt e f g =
    let at : get_or ds i 0 ≡ d = sym (f ∙ get_or_default_zero ds i d lt) in
    let more : digits_value 10 (take (i + 1) ds) ≡ digits_value 10 (take i ds) * 10 + digit_value d = digits_value_more 10 ds i lt ∙ ap (λ (k : ℕ). digits_value 10 (take i ds) * 10 + digit_value k) at in
    g ∙ ap (λ (k : ℕ). k * 10 + digit_value d) e ∙ sym more

-- a number that passes a bound with one digit more passes it with all
pub passes : (ds : List ℕ) (i v d w : ℕ) → i < length ds → v ≡ digits_value 10 (take i ds) → d ≡ get_or ds i d → (v * 10 + digit_value d < w → ⊥) → digits_value 10 ds < w → ⊥
passes ds i v d w lt e f past below =
    let front : v * 10 + digit_value d ≡ digits_value 10 (take (i + 1) ds) = with_digit_more ds i v d (v * 10 + digit_value d) lt e f refl in
    past (omega (arith, digits_value_take_le ds (i + 1)))
