use Rattle.std.specs.Prelude.{◌≡◌, ◌≤◌, ◌-◌, ◌++◌, ℕ, List, length, take, drop, replicate}
use Rattle.std.proofs.Common.{◌∙◌, ap, sym, arith}
use Rattle.std.proofs.lemmas.List.{take-append-drop, length-take-le}

-- as many places as wanted, of which the first so many count, and the others hold the pad
pub record IsPadded (size pad : ℕ) (places : List ℕ) (len : ℕ) : Type 0 where
  pub whole : length places ≡ size
  pub within : len ≤ size
  pub pads : drop len places ≡ replicate (size - len) pad

-- a list and the pads that fill so many places
abbrev pub padded : ℕ → ℕ → List ℕ → List ℕ
padded size pad items = items ++ replicate (size - length items) pad

-- what counts has the length that was kept
pub counted_length : {size pad : ℕ} {places : List ℕ} {len : ℕ} → IsPadded size pad places len → length (take len places) ≡ len
counted_length {size} {pad} {places} {len} h =
    let within : len ≤ length places = omega arith in length-take-le len places within

-- what counts, padded again, is all the places
pub padded_again : {size pad : ℕ} {places : List ℕ} {len : ℕ} → IsPadded size pad places len → padded size pad (take len places) ≡ places
padded_again {size} {pad} {places} {len} h =
    ap (λ n. take len places ++ replicate (size - n) pad) (counted_length h) ∙ ap (λ rest. take len places ++ rest) (sym h.pads)
    ∙ take-append-drop len places

-- a value of two parts is another where both parts are
pub same_parts : {A : Type 0} (f : List ℕ → ℕ → A) {x y : List ℕ} {m n : ℕ} → x ≡ y → m ≡ n → f x m ≡ f y n
same_parts f {x} {y} {m} {n} p q = ap (λ z. f z m) p ∙ ap (λ k. f y k) q
