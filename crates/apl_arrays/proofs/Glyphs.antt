-- The table of glyphs, and that a text of glyphs is read in one way.
use Rattle.std.proofs.Common.{◌≡◌, ◌≢◌, ℕ, zero, suc, ◌+◌, ◌-◌, ◌<◌, ◌≤◌, Bool, true, false, ◌&&◌, Option, Some, None, MatchOption, IsSome, IfSome, ◌↔◌, List, ◌++◌, get_or, drop, eqb, ltb, refl, sym, ap, ◌∙◌, subst, ⊎_elim, arith}
use Rattle.std.proofs.lemmas.Bool.{cases_lt, false≢true}
use Rattle.std.proofs.lemmas.Bool.Decides.{nat_tests}
use Rattle.std.proofs.lemmas.List.Quantifiers.{position-Some}
use Rattle.std.proofs.lemmas.Str.{encode_same}
use Rattle.std.specs.Char.{encode_utf8}
use Rattle.std.specs.List.{position, position_or_len}
use Rattle.apl_arrays.specs.Glyph.{IsGlyph, scalars, scalar_of, glyph_utf8, StartsWithNoGlyph}
use Rattle.apl_arrays.specs.Text.{StartsWithNoScalar}

-- a test that every number below n passes

passes_below : (ℕ → Bool) → ℕ → Bool
passes_below test zero = true
passes_below test (suc n) = test n && passes_below test n

both : (a b : Bool) → (a && b) ≡ true → (a ≡ true) × (b ≡ true)
both true b e = (refl, e)
both false b e = cc

pass : (test : ℕ → Bool) (n : ℕ) → passes_below test n ≡ true → (k : ℕ) → k < n → test k ≡ true
unfolding passes_below
pass test zero e k below = absurd (omega arith)
pass test (suc n) e k below =
    let parts = both (test n) (passes_below test n) e in
    ⊎_elim (λ lower. pass test n parts.1 k lower) (λ last. subst (λ m. test m ≡ true) (let same : n ≡ k = omega arith in same) parts.0) (cases_lt k n)

-- the table

place_of_scalar : ℕ → ℕ
place_of_scalar scalar = position_or_len (λ listed. eqb listed scalar) scalars

listed_in_order : passes_below (λ k. eqb (place_of_scalar (get_or scalars k 0)) k) 35 ≡ true
unfolding passes_below place_of_scalar
listed_in_order = refl

listed_in_range : passes_below (λ k. ltb 159 (get_or scalars k 0) && ltb (get_or scalars k 0) 12288) 35 ≡ true
unfolding passes_below
listed_in_range = refl

pub scalar_of_low : (code : ℕ) → code < 128 → scalar_of code ≡ code
scalar_of_low code low = grind (arith, nat_tests)

pub scalar_of_high : (code : ℕ) → 128 ≤ code → scalar_of code ≡ get_or scalars (code - 128) 0
scalar_of_high code high = grind (arith, nat_tests)

in_order : (k : ℕ) → k < 35 → place_of_scalar (get_or scalars k 0) ≡ k
in_order k below =
    let e = pass (λ n. eqb (place_of_scalar (get_or scalars n 0)) n) 35 listed_in_order k below in
    grind (arith, nat_tests)

in_range : (k : ℕ) → k < 35 → (159 < get_or scalars k 0) × (get_or scalars k 0 < 12288)
in_range k below =
    let e = pass (λ n. ltb 159 (get_or scalars n 0) && ltb (get_or scalars n 0) 12288) 35 listed_in_range k below in
    let parts = both (ltb 159 (get_or scalars k 0)) (ltb (get_or scalars k 0) 12288) e in
    (grind (arith, nat_tests), grind (arith, nat_tests))

pub scalar_of_bound : (code : ℕ) → IsGlyph code → (32 ≤ scalar_of code) × (scalar_of code < 12288) × (128 ≤ code → 159 < scalar_of code)
scalar_of_bound code glyph =
    ⊎_elim (λ low. let e = scalar_of_low code low in (omega arith, omega arith, λ high. absurd (omega arith)))
    (λ high. let e = scalar_of_high code high in let r = in_range (code - 128) (omega arith) in (omega arith, omega arith, λ _. omega arith))
    (cases_lt code 128)

pub unlisted_low : (scalar : ℕ) → scalar < 128 → ¬ (IsGlyph scalar) → (code : ℕ) → IsGlyph code → scalar_of code ≢ scalar
unlisted_low scalar low none code glyph e =
    ⊎_elim (λ small. none (subst IsGlyph (sym (scalar_of_low code small) ∙ e) glyph))
    (λ large. omega (arith, (scalar_of_bound code glyph).2 large))
    (cases_lt code 128)

pub unlisted : (scalar : ℕ) → 128 ≤ scalar → position (λ listed. eqb listed scalar) scalars ≡ None → (code : ℕ) → IsGlyph code → scalar_of code ≢ scalar
unfolding place_of_scalar
unlisted scalar high none code glyph e =
    ⊎_elim (λ small. omega (arith, scalar_of_low code small))
    (λ large.
    let same : get_or scalars (code - 128) 0 ≡ scalar = sym (scalar_of_high code large) ∙ e in
    let place : position_or_len (λ listed. eqb listed scalar) scalars ≡ code - 128 = ap place_of_scalar (sym same) ∙ in_order (code - 128) (omega arith) in
    let below : code - 128 < 35 = omega arith in
    grind (arith, nat_tests))
    (cases_lt code 128)

pub listed : (scalar place : ℕ) → position (λ listed. eqb listed scalar) scalars ≡ Some place → (place < 35) × (IsGlyph (128 + place)) × (scalar_of (128 + place) ≡ scalar)
listed scalar place e =
    let at = position-Some (λ listed. eqb listed scalar) scalars place 0 e in
    let below : place < 35 = at.0 in
    let same : get_or scalars place 0 ≡ scalar = grind (arith, nat_tests) in
    (below, (omega arith, omega arith, λ h. omega arith), scalar_of_high (128 + place) (omega arith) ∙ rw (let same_place : 128 + place - 128 ≡ place = omega arith in same_place) same)

-- what is known of the glyph of a scalar

abbrev pub IsGlyphOf : ℕ → Option ℕ → Type 0
IsGlyphOf scalar found = MatchOption found ((code : ℕ) → IsGlyph code → scalar_of code ≢ scalar) (λ glyph. IsGlyph glyph × (scalar_of glyph ≡ scalar))

pub of_low : (scalar : ℕ) (found : Option ℕ) → scalar < 128 → (IsSome found ↔ IsGlyph scalar) → IfSome found (λ glyph. glyph ≡ scalar) → IsGlyphOf scalar found
of_low scalar None low known value = unlisted_low scalar low (λ glyph. false≢true (known.1 glyph))
of_low scalar (Some glyph) low known value = (subst IsGlyph (sym value) (known.0 refl), ap scalar_of value ∙ scalar_of_low scalar low)

pub of_high : (scalar place : ℕ) (found : Option ℕ) → position (λ item. eqb item scalar) scalars ≡ Some place → (IsSome found ↔ IsGlyph (128 + place)) → IfSome found (λ glyph. glyph ≡ 128 + place) → IsGlyphOf scalar found
of_high scalar place None e known value = absurd (false≢true (known.1 (listed scalar place e).1))
of_high scalar place (Some glyph) e known value = (subst IsGlyph (sym value) (known.0 refl), ap scalar_of value ∙ (listed scalar place e).2)

-- the glyph at the front

pub glyph_at_front : (bytes : List ℕ) (scalar glyph taken : ℕ) → bytes ≡ encode_utf8 scalar ++ drop taken bytes → scalar_of glyph ≡ scalar → bytes ≡ glyph_utf8 glyph ++ drop taken bytes
glyph_at_front bytes scalar glyph taken e same = rw same e

pub no_glyph_of_scalar : (bytes : List ℕ) (scalar taken : ℕ) → bytes ≡ encode_utf8 scalar ++ drop taken bytes → ((code : ℕ) → IsGlyph code → scalar_of code ≢ scalar) → StartsWithNoGlyph bytes
no_glyph_of_scalar bytes scalar taken e none code rest glyph spelled =
    none code glyph (encode_same (scalar_of code) scalar rest (drop taken bytes) (sym spelled ∙ e)).0

pub no_glyph_where_no_scalar : (bytes : List ℕ) → StartsWithNoScalar bytes → StartsWithNoGlyph bytes
no_glyph_where_no_scalar bytes none code rest glyph = none (scalar_of code) rest (omega (arith, (scalar_of_bound code glyph).1))

-- no two glyphs have one scalar
pub same_code : (code other : ℕ) → IsGlyph code → IsGlyph other → scalar_of code ≡ scalar_of other → code ≡ other
same_code code other a b e =
    ⊎_elim (λ low.
    ⊎_elim (λ small. sym (scalar_of_low code low) ∙ (e ∙ scalar_of_low other small))
    (λ large. omega (arith, scalar_of_low code low, (scalar_of_bound other b).2 large))
    (cases_lt other 128))
    (λ high.
    ⊎_elim (λ small. omega (arith, scalar_of_low other small, (scalar_of_bound code a).2 high))
    (λ large.
    let same = sym (scalar_of_high code high) ∙ (e ∙ scalar_of_high other large) in
    let place = sym (in_order (code - 128) (omega arith)) ∙ (ap place_of_scalar same ∙ in_order (other - 128) (omega arith)) in
    omega arith)
    (cases_lt other 128))
    (cases_lt code 128)

pub table_bound : (place : ℕ) → place < 35 → get_or scalars place 0 < 12288
table_bound place below = (in_range place below).1
