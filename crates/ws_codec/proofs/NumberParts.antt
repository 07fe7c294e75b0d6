-- Bytes of numbers are told by the numbers.
use Rattle.std.proofs.Common.{◌≡◌, ℕ, zero, suc, ◌+◌, ◌*◌, ◌/◌, ◌^◌, ◌<◌, ◌≤◌, List, [], ◌∷◌, ◌++◌, length, refl, sym, ap, ◌∙◌, append-nil, add-mul, mod-lt, mul-le-mul_right, ◌⊎◌, inl, inr, arith}
use Rattle.std.specs.Prelude.{slice_index}
use Rattle.std.specs.Int.{byte_at, bytes_high_first}
use Rattle.std.proofs.lemmas.Bool.{cases_order}
use Rattle.byteorder.specs.Endian.{big_from}
use Rattle.byteorder.specs.Numbers.{big_from-cons, big_from-lt, big_number-reads_back, length-bytes_high_first}
use Rattle.ws_codec.specs.Sound.{AreBytes}

-- each byte
pub byte_below : (bytes : List ℕ) → AreBytes bytes → (k : ℕ) → slice_index bytes k < 256
byte_below [] are k = omega arith
byte_below (x ∷ xs) are zero = are.0
byte_below (x ∷ xs) are (suc k) = byte_below xs are.1 k

pub front_bytes : (front rest : List ℕ) → AreBytes (front ++ rest) → AreBytes front
front_bytes [] rest are = tt
front_bytes (x ∷ front) rest are = (are.0, front_bytes front rest are.1)

pub rest_bytes : (front rest : List ℕ) → AreBytes (front ++ rest) → AreBytes rest
rest_bytes [] rest are = are
rest_bytes (x ∷ front) rest are = rest_bytes front rest are.1

one_byte : (k x : ℕ) → byte_at k x < 256
one_byte zero x = mod-lt x (omega arith)
one_byte (suc k) x = mod-lt (x / 256 ^ suc k) (omega arith)

number_bytes : (n x : ℕ) → AreBytes (bytes_high_first n x)
number_bytes zero x = tt
number_bytes (suc n) x = (one_byte n x, number_bytes n x)

-- of two digits with something below them
above_not : (a b p m n : ℕ) → a < b → m < p → a * p + m ≡ b * p + n → ⊥
above_not a b p m n lt below e =
    let more : (a + 1) * p ≤ b * p = mul-le-mul_right p (omega arith) in
    omega (arith, more, add-mul a 1 p, e, below)

digits_by : (a b p m n : ℕ) → (a ≡ b) ⊎ ((a < b) ⊎ (b < a)) → m < p → n < p → a * p + m ≡ b * p + n → (a ≡ b) × (m ≡ n)
digits_by a b p m n (inl same) below under e =
    let product : a * p ≡ b * p = ap (λ (x : ℕ). x * p) same in
    (same, omega (arith, product, e))
digits_by a b p m n (inr (inl lt)) below under e = absurd (above_not a b p m n lt below e)
digits_by a b p m n (inr (inr lt)) below under e = absurd (above_not b a p n m lt under (sym e))

digits_same : (a b p m n : ℕ) → m < p → n < p → a * p + m ≡ b * p + n → (a ≡ b) × (m ≡ n)
digits_same a b p m n below under e = digits_by a b p m n (cases_order a b) below under e

-- as many bytes of one number are the same
big_same : (xs ys : List ℕ) → AreBytes xs → AreBytes ys → length xs ≡ length ys → big_from 0 (length xs) xs ≡ big_from 0 (length xs) ys → xs ≡ ys
big_same [] [] are have len e = refl
big_same [] (y ∷ ys) are have len e = absurd (omega arith)
big_same (x ∷ xs) [] are have len e = absurd (omega arith)
big_same (x ∷ xs) (y ∷ ys) are have len e =
    let n = length xs in
    let lens : length xs ≡ length ys = omega arith in
    let sum : x * 256 ^ n + big_from 0 n xs ≡ y * 256 ^ n + big_from 0 n ys =
    ap (λ (r : ℕ). x * 256 ^ n + r) (sym (big_from-cons 0 n x xs)) ∙ e ∙ ap (λ (r : ℕ). y * 256 ^ n + r) (big_from-cons 0 n y ys) in
    let parts = digits_same x y (256 ^ n) (big_from 0 n xs) (big_from 0 n ys) (big_from-lt 0 n xs (byte_below xs are.1)) (big_from-lt 0 n ys (byte_below ys have.1)) sum in
    let tails = big_same xs ys are.1 have.1 lens parts.1 in
    λ i. parts.0 i ∷ tails i

-- bytes are those of their number
pub bytes_again : (xs : List ℕ) → AreBytes xs → bytes_high_first (length xs) (big_from 0 (length xs) xs) ≡ xs
bytes_again xs are =
    let n = length xs in
    let number = big_from 0 n xs in
    let made = bytes_high_first n number in
    let len : length made ≡ n = length-bytes_high_first n number in
    let back : big_from 0 n made ≡ number = ap (big_from 0 n) (sym (append-nil made)) ∙ big_number-reads_back n number [] (big_from-lt 0 n xs (byte_below xs are)) in
    big_same made xs (number_bytes n number) are len (ap (λ (k : ℕ). big_from 0 k made) len ∙ back ∙ ap (λ (k : ℕ). big_from 0 k xs) (sym len))
