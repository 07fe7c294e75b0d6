-- How many numbers there are.
use Rattle.std.proofs.Common.{◌≡◌, false, length, refl}
use Rattle.apl_arrays.specs.Array.{PlainItems, numbers, chars, is_chars, item_count, numbers_in}

pub count_numbers : (items : PlainItems) → is_chars items ≡ false → length (numbers_in items) ≡ item_count items
count_numbers (numbers list) e = refl
count_numbers (chars list) e = absurd (cc)
