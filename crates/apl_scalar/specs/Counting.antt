use Rattle.std.specs.Prelude.{ℕ, zero, suc, ◌+◌, ◌*◌, ◌/◌, ℤ, pos, negsuc, ◌-ℤ◌, ◌*ℤ◌, neg_ℤ}

-- the number of orders of n things
abbrev pub factorial : ℕ → ℕ
factorial zero = 1
factorial (suc n) = suc n * factorial n

-- in how many ways some of the things can be taken: with the first of them, or without it
abbrev pub ways : ℕ → ℕ → ℕ
ways zero things = 1
ways (suc taken) zero = 0
ways (suc taken) (suc things) = ways taken things + ways (suc taken) things

-- the greatest number that, times the divisor, does not pass b; the divisor is greater than 0
abbrev pub floor_by : ℤ → ℕ → ℤ
floor_by (pos b) divisor = pos (b / divisor)
floor_by (negsuc b) divisor = negsuc (b / divisor)

-- the floor of b divided by a
abbrev pub floor_quotient : ℤ → ℤ → ℤ
floor_quotient (pos a) b = floor_by b a
floor_quotient (negsuc a) b = floor_by (neg_ℤ b) (suc a)

-- what is left of b when a is taken away as often as the floor says; all of b where a is 0
abbrev pub residue : ℤ → ℤ → ℤ
residue (pos zero) b = b
residue a b = b -ℤ a *ℤ floor_quotient a b
