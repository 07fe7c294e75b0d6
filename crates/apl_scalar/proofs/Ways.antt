-- The ways to take things: step by step, from the other side, and how they grow.
use Rattle.std.proofs.Common.{◌≡◌, ℕ, zero, suc, ◌+◌, ◌*◌, ◌-◌, ◌/◌, ◌<◌, ◌≤◌, arith, ap, refl, sym, ◌∙◌, add-one, add-suc, zero-add}
use Rattle.std.proofs.Math.Nat.{div-eq_of_eq-mul_left}
use Rattle.std.proofs.lemmas.Int.{ints, to_z-of_z, to_z_pos}
use Rattle.std.proofs.lemmas.Bool.Decides.{nat_tests}
use Rattle.apl_scalar.specs.Counting.{ways}

-- one thing more taken of one thing more
pub absorbed : (k n : ℕ) → ways (suc k) (suc n) * suc k ≡ ways k n * suc n
absorbed zero zero = refl
absorbed (suc k) zero = omega arith
absorbed zero (suc n) = omega (arith, absorbed zero n)
absorbed (suc k) (suc n) = omega (arith, absorbed k n, absorbed (suc k) n)

-- more than there are
pub beyond : (k n : ℕ) → n < k → ways k n ≡ 0
beyond zero n h = absurd (omega arith)
beyond (suc k) zero h = refl
beyond (suc k) (suc n) h = omega (arith, beyond k n (omega arith), beyond (suc k) n (omega arith))

all_taken : (n : ℕ) → ways n n ≡ 1
all_taken zero = refl
all_taken (suc n) = omega (arith, all_taken n, beyond (suc n) n (omega arith))

-- to take some is to leave the others
mirrored : (i j n : ℕ) → i + j ≡ n → ways i n ≡ ways j n
mirrored zero j n e = sym (ap (λ k. ways k n) (let same : j ≡ n = omega arith in same) ∙ all_taken n)
mirrored (suc i) zero n e = ap (λ k. ways k n) (let same : suc i ≡ n = omega arith in same) ∙ all_taken n
mirrored (suc i) (suc j) zero e = absurd (omega arith)
mirrored (suc i) (suc j) (suc n) e = omega (arith, mirrored i (suc j) n (omega arith), mirrored (suc i) j n (omega arith))

pub left_behind : (taken things : ℕ) → taken ≤ things → ways (things - taken) (taken + (things - taken)) ≡ ways taken things
left_behind taken things h =
    let e : taken + (things - taken) ≡ things = omega arith in
    rw e (mirrored (things - taken) taken things (omega arith))

pub taken_here : (taken things : ℕ) → taken ≤ things → ways taken ((things - taken) + taken) ≡ ways taken things
taken_here taken things h = ap (ways taken) (omega arith)

-- the ways grow as more is taken and as much is left
rises : (k left d : ℕ) → ways k (left + k) ≤ ways (d + k) (left + (d + k))
rises k left zero = rw zero-add (omega arith)
rises k left (suc d) =
    let e : suc d + k ≡ suc (d + k) = omega arith in
    rw (e, add-suc left (d + k)) (omega (arith, rises k left d))

pub grown : (k left taken : ℕ) → k ≤ taken → ways k (left + k) ≤ ways taken (left + taken)
grown k left taken h =
    let e : (taken - k) + k ≡ taken = omega arith in
    rw e at (rises k left (taken - k))

-- a step of the loop
pub stepped : (now left done : ℕ) → now ≡ ways done (left + done) → now * (left + done + 1) / (done + 1) ≡ ways (done + 1) (left + (done + 1))
stepped now left done e =
    let more = absorbed done (left + done) in
    let same : now * (left + done + 1) ≡ ways (done + 1) (left + (done + 1)) * (done + 1) =
    rw (e, add-one done, add-suc left done, add-one (left + done)) (sym more) in
    div-eq_of_eq-mul_left (omega arith) same

pub ruleset choices = (ints, nat_tests, to_z-of_z, to_z_pos, beyond, left_behind, taken_here, grown, stepped)
