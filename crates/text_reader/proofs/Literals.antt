-- Reading a fixed text.
use Rattle.std.proofs.Common.{◌≡◌, ℕ, Bool, true, false, eqb, cond, List, [], ◌∷◌, ◌++◌, Result, Ok, Err, length, refl}
use Rattle.std.proofs.lemmas.Bool.{eqb-true}
use Rattle.text_reader.specs.Reading.{Reading, ◌>>=◌, read_literal}

-- one glyph more
literal_more : (glyph first : ℕ) (text line rest : List ℕ) → (read_literal text line ≡ Ok rest → line ≡ text ++ rest) → (b : Bool) → eqb first glyph ≡ b
    → cond b (read_literal text line) (Err (length (first ∷ line))) ≡ Ok rest → first ∷ line ≡ glyph ∷ (text ++ rest)
literal_more glyph first text line rest inner true same e =
    let equal : first ≡ glyph = eqb-true first glyph same in
    let tail : line ≡ text ++ rest = inner e in
    cc
literal_more glyph first text line rest inner false other e = absurd (let none : ⊥ = cc in none)

-- a fixed text that was read stands at the front
pub literal_is : (text line rest : List ℕ) → read_literal text line ≡ Ok rest → line ≡ text ++ rest
literal_is [] line rest e = cc
literal_is (glyph ∷ text) [] rest e = absurd (let none : ⊥ = cc in none)
literal_is (glyph ∷ text) (first ∷ line) rest e =
    literal_more glyph first text line rest (literal_is text line rest) (eqb first glyph) refl e

-- a fixed text was read first, and then the rest, where both were
pub literal_then : {B : Type 0} (read : Result (List ℕ) ℕ) (f : List ℕ → Reading B) (y : B × List ℕ) → (read >>= f) ≡ Ok y → (rest : List ℕ) × (read ≡ Ok rest) × (f rest ≡ Ok y)
literal_then (Ok rest) f y e = (rest, refl, e)
literal_then (Err left) f y e = absurd (let none : ⊥ = cc in none)
