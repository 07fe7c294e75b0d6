use Rattle.std.specs.Prelude.{◌*◌, ◌^◌, ℕ, ℤ, pos, negsuc, Bool, List, fold, nat_lt}
use Rattle.std.specs.Ordering.{int_eq}

-- the number fits 64 bits with a sign
abbrev pub fits : ℤ → Bool
fits (pos n) = nat_lt n (2 ^ 63)
fits (negsuc n) = nat_lt n (2 ^ 63)

-- the number is 1
abbrev pub is_one : ℤ → Bool
is_one number = int_eq number (pos 1)

-- the product of numbers
abbrev pub product : List ℕ → ℕ
product numbers = fold ◌*◌ 1 numbers
