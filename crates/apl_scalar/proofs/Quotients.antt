-- The floor of a quotient is the greatest number below it, and the residue is what is left.
use Rattle.std.proofs.Common.{◌≡◌, ℕ, zero, suc, ◌*◌, ◌/◌, ◌<◌, ◌≤◌, ℤ, pos, negsuc, ◌+ℤ◌, ◌*ℤ◌, neg_ℤ, ◌≤ℤ◌, ◌<ℤ◌, arith, refl}
use Rattle.std.proofs.Math.Nat.{mod-lt, le-div_iff_mul-le, div-lt_iff_lt-mul}
use Rattle.std.proofs.lemmas.Int.{ints}
use Rattle.apl_scalar.specs.Counting.{floor_by, floor_quotient, residue}
use Rattle.apl_scalar.proofs.Residues.{residue_pos_pos, residue_pos_neg, residue_neg_pos, residue_neg_neg}

floor_by_below : (b : ℤ) (d : ℕ) → (floor_by b (suc d) *ℤ pos (suc d)) ≤ℤ b
floor_by_below (pos n) d = omega (arith, ints)
floor_by_below (negsuc n) d = omega (arith, ints, mod-lt n {m = suc d} (omega arith))

floor_by_greatest : (k b : ℤ) (d : ℕ) → (k *ℤ pos (suc d)) ≤ℤ b → k ≤ℤ floor_by b (suc d)
floor_by_greatest (pos k) (pos n) d h =
    let product : k * suc d ≤ n = omega (arith, ints) in
    let below : k ≤ n / suc d = (le-div_iff_mul-le {k = suc d} {x = k} {y = n} (omega arith)).1 product in
    omega (arith, ints)
floor_by_greatest (pos k) (negsuc n) d h = absurd (omega (arith, ints))
floor_by_greatest (negsuc k) (pos n) d h = omega (arith, ints)
floor_by_greatest (negsuc k) (negsuc n) d h =
    let product : n < suc k * suc d = omega (arith, ints) in
    let below : n / suc d < suc k = (div-lt_iff_lt-mul {k = suc d} {x = n} {y = suc k} (omega arith)).1 product in
    omega (arith, ints)

times_negsuc : (z : ℤ) (d : ℕ) → z *ℤ negsuc d ≡ neg_ℤ (z *ℤ pos (suc d))
times_negsuc (pos zero) d = omega (arith, ints)
times_negsuc (pos (suc n)) d = omega (arith, ints)
times_negsuc (negsuc n) d = omega (arith, ints)

pub floor_below : (a b : ℤ) → pos 0 <ℤ a → (floor_quotient a b *ℤ a) ≤ℤ b
floor_below (pos zero) b h = absurd (omega (arith, ints))
floor_below (pos (suc d)) b h = floor_by_below b d
floor_below (negsuc d) b h = absurd (omega (arith, ints))

pub floor_greatest : (a b k : ℤ) → pos 0 <ℤ a → (k *ℤ a) ≤ℤ b → k ≤ℤ floor_quotient a b
floor_greatest (pos zero) b k h below = absurd (omega (arith, ints))
floor_greatest (pos (suc d)) b k h below = floor_by_greatest k b d below
floor_greatest (negsuc d) b k h below = absurd (omega (arith, ints))

pub floor_above : (a b : ℤ) → a <ℤ pos 0 → b ≤ℤ (floor_quotient a b *ℤ a)
floor_above (pos d) b h = absurd (omega (arith, ints))
floor_above (negsuc d) b h = omega (arith, ints, floor_by_below (neg_ℤ b) d, times_negsuc (floor_by (neg_ℤ b) (suc d)) d)

pub floor_greatest_above : (a b k : ℤ) → a <ℤ pos 0 → b ≤ℤ (k *ℤ a) → k ≤ℤ floor_quotient a b
floor_greatest_above (pos d) b k h above = absurd (omega (arith, ints))
floor_greatest_above (negsuc d) b k h above =
    floor_by_greatest k (neg_ℤ b) d (omega (arith, ints, times_negsuc k d))

pub residue_from_0 : (a b : ℤ) → pos 0 <ℤ a → pos 0 ≤ℤ residue a b
residue_from_0 (pos zero) b h = absurd (omega (arith, ints))
residue_from_0 (pos (suc d)) (pos n) h = omega (arith, ints, residue_pos_pos d n)
residue_from_0 (pos (suc d)) (negsuc n) h = omega (arith, ints, residue_pos_neg d n, mod-lt n {m = suc d} (omega arith))
residue_from_0 (negsuc d) b h = absurd (omega (arith, ints))

pub residue_below : (a b : ℤ) → pos 0 <ℤ a → residue a b <ℤ a
residue_below (pos zero) b h = absurd (omega (arith, ints))
residue_below (pos (suc d)) (pos n) h = omega (arith, ints, residue_pos_pos d n, mod-lt n {m = suc d} (omega arith))
residue_below (pos (suc d)) (negsuc n) h = omega (arith, ints, residue_pos_neg d n)
residue_below (negsuc d) b h = absurd (omega (arith, ints))

pub residue_to_0 : (a b : ℤ) → a <ℤ pos 0 → residue a b ≤ℤ pos 0
residue_to_0 (pos d) b h = absurd (omega (arith, ints))
residue_to_0 (negsuc d) (pos zero) h = omega (arith, ints)
residue_to_0 (negsuc d) (pos (suc n)) h = omega (arith, ints, residue_neg_pos d n, mod-lt n {m = suc d} (omega arith))
residue_to_0 (negsuc d) (negsuc n) h = omega (arith, ints, residue_neg_neg d n)

pub residue_above : (a b : ℤ) → a <ℤ pos 0 → a <ℤ residue a b
residue_above (pos d) b h = absurd (omega (arith, ints))
residue_above (negsuc d) (pos zero) h = omega (arith, ints)
residue_above (negsuc d) (pos (suc n)) h = omega (arith, ints, residue_neg_pos d n)
residue_above (negsuc d) (negsuc n) h = omega (arith, ints, residue_neg_neg d n, mod-lt (suc n) {m = suc d} (omega arith))

pub residue_by_0 : (b : ℤ) → residue (pos 0) b ≡ b
residue_by_0 b = refl

pub residue_is_left : (a b : ℤ) → residue a b +ℤ a *ℤ floor_quotient a b ≡ b
residue_is_left (pos zero) b = omega (arith, ints)
residue_is_left (pos (suc d)) b = omega (arith, ints)
residue_is_left (negsuc d) b = omega (arith, ints)

pub ruleset quotients = (floor_below, floor_greatest, floor_above, floor_greatest_above, residue_from_0, residue_below, residue_to_0, residue_above, residue_by_0, residue_is_left)
