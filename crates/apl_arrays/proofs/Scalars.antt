-- How scalars of 16 bits stand in UTF-8, and what follows where none stands at the front of bytes.
use Rattle.std.proofs.Common.{◌≡◌, ℕ, ◌+◌, ◌-◌, ◌*◌, ◌/◌, ◌%◌, ◌<◌, ◌≤◌, List, [], ◌∷◌, ◌++◌, length, get_or, refl, sym, ◌∙◌, ⊎_elim, arith}
use Rattle.std.proofs.lemmas.Bool.{cases_lt}
use Rattle.std.proofs.lemmas.Bool.Decides.{nat_tests}
use Rattle.std.specs.Char.{encode_utf8}
use Rattle.apl_arrays.specs.Text.{StartsWithNoScalar}

pub encode_one : (scalar : ℕ) → scalar < 128 → encode_utf8 scalar ≡ scalar ∷ []
unfolding encode_utf8
encode_one scalar small = grind (arith, nat_tests)

pub encode_two : (scalar : ℕ) → 128 ≤ scalar → scalar < 2048 → encode_utf8 scalar ≡ (192 + scalar / 64) ∷ (128 + scalar % 64) ∷ []
unfolding encode_utf8
encode_two scalar large small = grind (arith, nat_tests)

pub encode_three : (scalar : ℕ) → 2048 ≤ scalar → scalar < 65536 → encode_utf8 scalar ≡ (224 + scalar / 4096) ∷ (128 + scalar / 64 % 64) ∷ (128 + scalar % 64) ∷ []
unfolding encode_utf8
encode_three scalar large small = grind (arith, nat_tests)

pub two_from_bytes : (a b : ℕ) → 194 ≤ a → a < 224 → 128 ≤ b → b < 192 → encode_utf8 ((a - 192) * 64 + (b - 128)) ≡ a ∷ b ∷ []
two_from_bytes a b h1 h2 h3 h4 =
    let scalar = (a - 192) * 64 + (b - 128) in
    let first : 192 + scalar / 64 ≡ a = omega arith in
    let second : 128 + scalar % 64 ≡ b = omega arith in
    rw (encode_two scalar (omega arith) (omega arith)) cc

pub three_from_bytes : (a b c : ℕ) → 224 ≤ a → a < 240 → 128 ≤ b → b < 192 → 128 ≤ c → c < 192 → 2048 ≤ (a - 224) * 4096 + (b - 128) * 64 + (c - 128) → encode_utf8 ((a - 224) * 4096 + (b - 128) * 64 + (c - 128)) ≡ a ∷ b ∷ c ∷ []
three_from_bytes a b c h1 h2 h3 h4 h5 h6 large =
    let scalar = (a - 224) * 4096 + (b - 128) * 64 + (c - 128) in
    let first : 224 + scalar / 4096 ≡ a = omega arith in
    let second : 128 + scalar / 64 % 64 ≡ b = omega arith in
    let third : 128 + scalar % 64 ≡ c = omega arith in
    rw (encode_three scalar large (omega arith)) cc

pub bytes_of_two : (scalar a b : ℕ) → 128 ≤ scalar → scalar < 2048 → encode_utf8 scalar ≡ a ∷ b ∷ [] → (194 ≤ a) × (a < 224) × (128 ≤ b) × (b < 192)
bytes_of_two scalar a b large small e =
    let spelled = sym (encode_two scalar large small) ∙ e in
    let first : 192 + scalar / 64 ≡ a = cc in
    let second : 128 + scalar % 64 ≡ b = cc in
    (omega arith, omega arith, omega arith, omega arith)

pub bytes_of_three : (scalar a b c : ℕ) → 2048 ≤ scalar → scalar < 65536 → encode_utf8 scalar ≡ a ∷ b ∷ c ∷ [] → (224 ≤ a) × (a < 240) × (128 ≤ b) × (b < 192) × (128 ≤ c) × (c < 192)
bytes_of_three scalar a b c large small e =
    let spelled = sym (encode_three scalar large small) ∙ e in
    let first : 224 + scalar / 4096 ≡ a = cc in
    let second : 128 + scalar / 64 % 64 ≡ b = cc in
    let third : 128 + scalar % 64 ≡ c = cc in
    (omega arith, omega arith, omega arith, omega arith, omega arith, omega arith)

pub large_from_three : (scalar a b c : ℕ) → 2048 ≤ scalar → scalar < 65536 → encode_utf8 scalar ≡ a ∷ b ∷ c ∷ [] → 2048 ≤ (a - 224) * 4096 + (b - 128) * 64 + (c - 128)
large_from_three scalar a b c large small e =
    let spelled = sym (encode_three scalar large small) ∙ e in
    let first : 224 + scalar / 4096 ≡ a = cc in
    let second : 128 + scalar / 64 % 64 ≡ b = cc in
    let third : 128 + scalar % 64 ≡ c = cc in
    omega arith

-- the bytes at the front, where a scalar stands there

pub front_of_one : (bytes rest : List ℕ) (scalar : ℕ) → scalar < 128 → bytes ≡ encode_utf8 scalar ++ rest → (1 ≤ length bytes) × (get_or bytes 0 0 ≡ scalar)
front_of_one bytes rest scalar small e =
    let spelled = rw (encode_one scalar small) at e in
    rw spelled (omega arith, refl)

pub front_of_two : (bytes rest : List ℕ) (scalar : ℕ) → 128 ≤ scalar → scalar < 2048 → bytes ≡ encode_utf8 scalar ++ rest → (2 ≤ length bytes) × (192 ≤ get_or bytes 0 0) × (get_or bytes 0 0 < 224) × (encode_utf8 scalar ≡ get_or bytes 0 0 ∷ get_or bytes 1 0 ∷ [])
front_of_two bytes rest scalar large small e =
    let spelled = rw (encode_two scalar large small) at e in
    rw spelled (omega arith, omega arith, omega arith, encode_two scalar large small)

pub front_of_three : (bytes rest : List ℕ) (scalar : ℕ) → 2048 ≤ scalar → scalar < 65536 → bytes ≡ encode_utf8 scalar ++ rest → (3 ≤ length bytes) × (224 ≤ get_or bytes 0 0) × (encode_utf8 scalar ≡ get_or bytes 0 0 ∷ get_or bytes 1 0 ∷ get_or bytes 2 0 ∷ [])
front_of_three bytes rest scalar large small e =
    let spelled = rw (encode_three scalar large small) at e in
    rw spelled (omega arith, omega arith, encode_three scalar large small)

-- what shows that none does

by_size : {P : Type 0} (scalar : ℕ) → (scalar < 128 → P) → (128 ≤ scalar → scalar < 2048 → P) → (2048 ≤ scalar → P) → P
by_size scalar low middle high = ⊎_elim low (λ large. ⊎_elim (middle large) high (cases_lt scalar 2048)) (cases_lt scalar 128)

pub none_of_none : (bytes : List ℕ) → length bytes < 1 → StartsWithNoScalar bytes
none_of_none bytes short scalar rest small e =
    by_size scalar (λ low. omega (arith, (front_of_one bytes rest scalar low e).0)) (λ large low. omega (arith, (front_of_two bytes rest scalar large low e).0)) (λ large. omega (arith, (front_of_three bytes rest scalar large small e).0))

pub none_of_one : (bytes : List ℕ) → length bytes < 2 → 128 ≤ get_or bytes 0 0 → StartsWithNoScalar bytes
none_of_one bytes short first scalar rest small e =
    by_size scalar (λ low. omega (arith, (front_of_one bytes rest scalar low e).1)) (λ large low. omega (arith, (front_of_two bytes rest scalar large low e).0)) (λ large. omega (arith, (front_of_three bytes rest scalar large small e).0))

pub none_of_two : (bytes : List ℕ) → length bytes < 3 → 224 ≤ get_or bytes 0 0 → StartsWithNoScalar bytes
none_of_two bytes short first scalar rest small e =
    by_size scalar (λ low. omega (arith, (front_of_one bytes rest scalar low e).1)) (λ large low. omega (arith, (front_of_two bytes rest scalar large low e).2)) (λ large. omega (arith, (front_of_three bytes rest scalar large small e).0))

pub none_as_two : (bytes : List ℕ) → 128 ≤ get_or bytes 0 0 → get_or bytes 0 0 < 224 → ((scalar : ℕ) → 128 ≤ scalar → scalar < 2048 → ¬ (encode_utf8 scalar ≡ get_or bytes 0 0 ∷ get_or bytes 1 0 ∷ [])) → StartsWithNoScalar bytes
none_as_two bytes first below none scalar rest small e =
    by_size scalar (λ low. omega (arith, (front_of_one bytes rest scalar low e).1)) (λ large low. none scalar large low (front_of_two bytes rest scalar large low e).3) (λ large. omega (arith, (front_of_three bytes rest scalar large small e).1))

pub none_as_three : (bytes : List ℕ) → 224 ≤ get_or bytes 0 0 → ((scalar : ℕ) → 2048 ≤ scalar → scalar < 65536 → ¬ (encode_utf8 scalar ≡ get_or bytes 0 0 ∷ get_or bytes 1 0 ∷ get_or bytes 2 0 ∷ [])) → StartsWithNoScalar bytes
none_as_three bytes first none scalar rest small e =
    by_size scalar (λ low. omega (arith, (front_of_one bytes rest scalar low e).1)) (λ large low. omega (arith, (front_of_two bytes rest scalar large low e).2)) (λ large. none scalar large small (front_of_three bytes rest scalar large small e).2)
