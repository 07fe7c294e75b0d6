-- The residue by the remainder that has the dividend's sign.
use Rattle.std.proofs.Common.{◌≡◌, ℕ, zero, suc, ◌%◌, ◌<◌, ◌≤◌, ◌⊎◌, ⊎_elim, inl, inr, ℤ, pos, negsuc, ◌+ℤ◌, neg_ℤ, ◌≤ℤ◌, ◌<ℤ◌, arith, ap, ◌∙◌}
use Rattle.std.proofs.Math.Nat.{suc-mod, mod-eq_of_lt, mod_self, mod-lt}
use Rattle.std.proofs.lemmas.Bool.{cases_lt}
use Rattle.std.proofs.lemmas.Int.{ints, to_z-of_z}
use Rattle.std.specs.Int.RustNames.{int_rem}
use Rattle.apl_scalar.specs.Counting.{residue}

-- the remainder of one more
pub next_mod : (n m : ℕ) → 0 < m → (suc n % m ≡ suc (n % m)) ⊎ ((suc (n % m) ≡ m) × (suc n % m ≡ 0))
next_mod n m h =
    let below : n % m < m = mod-lt n h in
    ⊎_elim (λ (fits : suc (n % m) < m). inl (suc-mod n m ∙ mod-eq_of_lt fits))
    (λ (full : m ≤ suc (n % m)). let same : suc (n % m) ≡ m = omega arith in inr (same, suc-mod n m ∙ ap (λ k. k % m) same ∙ mod_self m))
    (cases_lt (suc (n % m)) m)

pub residue_pos_pos : (d n : ℕ) → residue (pos (suc d)) (pos n) ≡ pos (n % suc d)
residue_pos_pos d n = omega (arith, ints)

pub residue_pos_neg : (d n : ℕ) → residue (pos (suc d)) (negsuc n) +ℤ pos (suc (n % suc d)) ≡ pos (suc d)
residue_pos_neg d n = omega (arith, ints)

pub residue_neg_pos : (d n : ℕ) → residue (negsuc d) (pos (suc n)) +ℤ pos (suc d) ≡ pos (suc (n % suc d))
residue_neg_pos d n = omega (arith, ints)

pub residue_neg_neg : (d n : ℕ) → residue (negsuc d) (negsuc n) ≡ neg_ℤ (pos (suc n % suc d))
residue_neg_neg d n = omega (arith, ints)

-- the remainder is turned into the divisor's sign
pub turned_up : (a b : ℤ) → pos 0 <ℤ a → int_rem b a <ℤ pos 0 → residue a b ≡ int_rem b a +ℤ a
turned_up (pos zero) b h r = absurd (omega (arith, ints))
turned_up (negsuc d) b h r = absurd (omega (arith, ints))
turned_up (pos (suc d)) (pos n) h r = absurd (omega (arith, ints))
turned_up (pos (suc d)) (negsuc n) h r = omega (arith, ints, residue_pos_neg d n, next_mod n (suc d) (omega arith))

pub turned_down : (a b : ℤ) → a <ℤ pos 0 → pos 0 <ℤ int_rem b a → residue a b ≡ int_rem b a +ℤ a
turned_down (pos d) b h r = absurd (omega (arith, ints))
turned_down (negsuc d) (pos zero) h r = absurd (omega (arith, ints))
turned_down (negsuc d) (pos (suc n)) h r = omega (arith, ints, residue_neg_pos d n, next_mod n (suc d) (omega arith))
turned_down (negsuc d) (negsuc n) h r = absurd (omega (arith, ints))

-- the remainder has the divisor's sign, or is 0
pub kept_up : (a b : ℤ) → pos 0 <ℤ a → pos 0 ≤ℤ int_rem b a → residue a b ≡ int_rem b a
kept_up (pos zero) b h r = absurd (omega (arith, ints))
kept_up (negsuc d) b h r = absurd (omega (arith, ints))
kept_up (pos (suc d)) (pos n) h r = residue_pos_pos d n
kept_up (pos (suc d)) (negsuc n) h r = omega (arith, ints, residue_pos_neg d n, next_mod n (suc d) (omega arith))

pub kept_down : (a b : ℤ) → a <ℤ pos 0 → int_rem b a ≤ℤ pos 0 → residue a b ≡ int_rem b a
kept_down (pos d) b h r = absurd (omega (arith, ints))
kept_down (negsuc d) (pos zero) h r = omega (arith, ints)
kept_down (negsuc d) (pos (suc n)) h r = omega (arith, ints, residue_neg_pos d n, next_mod n (suc d) (omega arith))
kept_down (negsuc d) (negsuc n) h r = residue_neg_neg d n

pub ruleset residues = (ints, to_z-of_z, turned_up, turned_down, kept_up, kept_down)
