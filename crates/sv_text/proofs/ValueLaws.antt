-- What is read of a line is the array whose text it is.
use Rattle.std.proofs.Common.{◌≡◌, ℕ, ◌+◌, ◌<◌, ◌≤◌, List, [], ◌∷◌, ◌++◌, Result, Ok, Err, length, refl, sym, ap, ◌∙◌, subst, append-nil, arith, length-append}
use Rattle.std.proofs.lemmas.List.Elements.{recursion_from_All}
use Rattle.std.specs.List.{All}
use Rattle.apl_arrays.specs.Array.{PlainArray}
use Rattle.apl_arrays.specs.Glyph.{IsGlyph}
use Rattle.text_reader.specs.declared.unread.Unread.{Unread}
use Rattle.text_reader.specs.declared.unread.Unread.TheVariants.{Left, WantOfMemory}
use Rattle.sv_text.specs.declared.refused.ValueRefused.{ValueRefused}
use Rattle.sv_text.specs.declared.refused.ValueRefused.TheVariants.{BadValue, WantOfMemory as NoMemory}
use Rattle.sv_text.specs.ReadsValue.{ReadsValue, HoldsNoValue, ReadsThis, refusal}
use Rattle.text_reader.specs.Reading.{Stops}
use Rattle.sv_text.specs.Value.{IsValue}
use Rattle.sv_text.specs.ValueReading.{read_array}
use Rattle.sv_text.specs.ValueText.{array_text}
use Rattle.sv_text.proofs.ArrayForms.{reads_array}
use Rattle.text_reader.proofs.NumberForms.{NoDigit}
use Rattle.text_reader.proofs.Readers.{SameFirst, Found, Stopped, Reads, AreGlyphs, again}
use Rattle.text_reader.proofs.Told.{tell, first_told, second_told}

no_items : (line : List ℕ) → length line ≡ 0 → line ≡ []
no_items [] e = refl
no_items (x ∷ xs) e = absurd (omega (arith, e))

array_found : (line : List ℕ) → All IsGlyph line → (a : PlainArray) (rest : List ℕ) → read_array line ≡ Ok (a, rest) → Found array_text IsValue NoDigit SameFirst line a rest
array_found line glyphs a rest e =
    subst (Reads array_text IsValue NoDigit SameFirst line) e (reads_array line (recursion_from_All IsGlyph line glyphs))

-- the whole line was read
pub value_is_read : (line : List ℕ) → All IsGlyph line → (a : PlainArray) (rest : List ℕ) → read_array line ≡ Ok (a, rest) → length rest ≡ 0 → IsValue a × (line ≡ array_text a)
value_is_read line glyphs a rest e none =
    let h = array_found line glyphs a rest e in
    (h.fits, h.whole ∙ (ap (λ t. array_text a ++ t) (no_items rest none) ∙ append-nil (array_text a)))

-- more stands behind an array
pub more_is_no_value : (line : List ℕ) → All IsGlyph line → (a : PlainArray) (rest : List ℕ) → read_array line ≡ Ok (a, rest) → (length rest ≡ 0 → ⊥) → (b : PlainArray) → IsValue b → line ≡ array_text b → ⊥
more_is_no_value line glyphs a rest e some b fits text =
    let h = array_found line glyphs a rest e in
    let same : b ≡ a = h.only b [] rest fits refl (append-nil (array_text b) ∙ (sym text ∙ h.whole)) refl in
    some (omega (arith, ap length h.whole, ap length text, ap (λ v. length (array_text v)) same, length-append (array_text a) rest))

-- the reading stops
pub stopped_is_no_value : (line : List ℕ) → All IsGlyph line → (left : ℕ) → read_array line ≡ Err left → (b : PlainArray) → IsValue b → line ≡ array_text b → ⊥
stopped_is_no_value line glyphs left e b fits text =
    let h = subst (Reads array_text IsValue NoDigit SameFirst line) e (reads_array line (recursion_from_All IsGlyph line glyphs)) in
    h.none b [] h.rest fits refl (append-nil (array_text b) ∙ (sym text ∙ h.whole)) refl

-- so what a call says of the rest is right
pub whole_is_read : (line : List ℕ) → All IsGlyph line → (a : PlainArray) (rest : List ℕ) → read_array line ≡ Ok (a, rest) → (result : Result PlainArray ValueRefused) → (length rest ≡ 0 → result ≡ Ok a) → ((length rest ≡ 0 → ⊥) → result ≡ Err BadValue) → ReadsValue result line
whole_is_read line glyphs a [] e result whole more =
    subst (λ r. ReadsValue r line) (sym (whole refl)) (value_is_read line glyphs a [] e refl)
whole_is_read line glyphs a (x ∷ xs) e result whole more =
    let some : length (x ∷ xs) ≡ 0 → ⊥ = λ n. omega (arith, n) in
    subst (λ r. ReadsValue r line) (sym (more some)) (more_is_no_value line glyphs a (x ∷ xs) e some)

-- the text of an array is read as the array
text_is_read : (line : List ℕ) → All IsGlyph line → (array : PlainArray) → IsValue array → line ≡ array_text array → read_array line ≡ Ok (array, [])
text_is_read line glyphs array fits text =
    let plain : line ≡ array_text array ++ [] = text ∙ sym (append-nil (array_text array)) in
    ap read_array plain
    ∙ again array_text IsValue NoDigit SameFirst read_array reads_array array [] (λ rest. refl) fits refl (recursion_from_All IsGlyph (array_text array ++ []) (subst (All IsGlyph) plain glyphs))

pub whole_is_this : (line : List ℕ) → All IsGlyph line → (a : PlainArray) (rest : List ℕ) → read_array line ≡ Ok (a, rest) → (result : Result PlainArray ValueRefused) → (length rest ≡ 0 → result ≡ Ok a) → (array : PlainArray) → IsValue array → line ≡ array_text array → ReadsThis result array
whole_is_this line glyphs a rest e result whole array fits text =
    let told : tell a rest ≡ tell array [] = sym e ∙ text_is_read line glyphs array fits text in
    subst (λ r. ReadsThis r array) (sym (whole (ap length (second_told a rest array [] told)))) (first_told a rest array [] told)

-- where the reading stops
pub stopped_so : (line : List ℕ) → All IsGlyph line → (why : Unread) → Stops why (read_array line) → HoldsNoValue (refusal why) line
stopped_so line glyphs (Left left) stop = stopped_is_no_value line glyphs left stop
stopped_so line glyphs WantOfMemory stop = tt

pub never_so : (line : List ℕ) → All IsGlyph line → (why : Unread) → Stops why (read_array line) → (array : PlainArray) → IsValue array → line ≡ array_text array → refusal why ≡ NoMemory
never_so line glyphs (Left left) stop array fits text = absurd (stopped_is_no_value line glyphs left stop array fits text)
never_so line glyphs WantOfMemory stop array fits text = refl
