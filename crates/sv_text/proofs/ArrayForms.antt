-- Reading arrays and values.
use Rattle.std.proofs.Common.{◌≡◌, ℕ, ℤ, pos, ◌+◌, ◌<◌, ◌≤◌, Bool, true, false, cond, eqb, List, [], ◌∷◌, ◌++◌, Option, Some, None, Ok, Err, map, codes, length, ◌⊎◌, inl, inr, refl, sym, ap, ◌∙◌, subst, append-nil, append_assoc, arith}
use Rattle.std.specs.Option.{option_map_or}
use Rattle.std.proofs.lemmas.Bool.Decides.{nat_tests}
use Rattle.std.proofs.lemmas.List.Elements.{recursion_from_All, All-from_recursion}
use Rattle.std.specs.Fmt.{decimal}
use Rattle.std.specs.List.{AllByRecursion}
use Rattle.apl_arrays.specs.Array.{PlainItems, numbers, chars, numbers_in, chars_in, PlainArray, number_array, char_array, element_count, FitsLimits, IsArray}
use Rattle.apl_arrays.specs.Glyph.{IsGlyph}
use Rattle.line_text.specs.Spaced.{spaced}
use Rattle.apl_arrays.specs.List.{first_of}
use Rattle.text_reader.specs.Reading.{Reader, Reading, ◌>>=◌, as_read, read_literal}
use Rattle.sv_text.specs.Value.{IsValue, IsValueOrNone}
use Rattle.sv_text.specs.ValueReading.{read_shape, read_numbers, read_quoted, read_numbers_array, read_chars_array, read_array, read_value}
use Rattle.sv_text.specs.ValueText.{items_text, array_text, value_text}
use Rattle.line_text.proofs.SameNumbers.{Fits64}
use Rattle.sv_text.proofs.ItemForms.{numbers_text, chars_text, reads_numbers, reads_quoted, fits_nought, blank_glyph}
use Rattle.text_reader.proofs.ListForms.{AreSoMany, copies, copies_fit}
use Rattle.text_reader.proofs.NumberForms.{NoDigit}
use Rattle.text_reader.proofs.Readers.{SameFirst, Anything, Reads, IsReader, AreGlyphs, reformed, retexted, behind_glyph, stops_here, after_text, then_read, made, widened, nothing_more, no_further}
use Rattle.sv_text.proofs.ShapeForms.{shape_text, reads_shape}

-- arrays of numbers

pub HasNumbers : PlainItems → Type 0
HasNumbers (numbers list) = Unit {0}
HasNumbers (chars list) = ⊥

abbrev pub NumberArray : PlainArray → Type 0
NumberArray a = IsValue a × HasNumbers a.items

abbrev pub number_items : PlainArray → List ℤ
number_items a = numbers_in a.items

array_of : List ℕ → PlainItems → PlainArray
array_of shape items = record { shape = shape; items = items }

some_numbers_in : (s shape : List ℕ) (items : PlainItems) → shape ≡ s → IsValue (array_of shape items) → HasNumbers items → AreSoMany Fits64 (element_count s) (numbers_in items)
unfolding array_of HasNumbers
some_numbers_in s shape (numbers list) same h is = record {
  each = recursion_from_All Fits64 list h.items;
  many = sym h.array.whole ∙ ap element_count same;
}
some_numbers_in s shape (chars list) same h is = absurd is

some_numbers : (s : List ℕ) (a : PlainArray) → (a.shape ≡ s) × NumberArray a → AreSoMany Fits64 (element_count s) (number_items a)
unfolding array_of
some_numbers s a h = some_numbers_in s a.shape a.items h.0 h.1.0 h.1.1

numbers_again_in : (s shape : List ℕ) (items : PlainItems) → shape ≡ s → HasNumbers items → number_array s (numbers_in items) ≡ array_of shape items
unfolding array_of HasNumbers
numbers_again_in s shape (numbers list) same is = ap (λ t. number_array t list) (sym same)
numbers_again_in s shape (chars list) same is = absurd is

numbers_again : (s : List ℕ) (a : PlainArray) → (a.shape ≡ s) × NumberArray a → number_array s (number_items a) ≡ a
unfolding array_of
numbers_again s a h = numbers_again_in s a.shape a.items h.0 h.1.1

numbers_there : (s : List ℕ) → FitsLimits s → (list : List ℤ) → AreSoMany Fits64 (element_count s) list → (s ≡ s) × NumberArray (number_array s list)
unfolding HasNumbers
numbers_there s fits list h =
    (refl, (record { array = record { fits = fits; whole = sym h.many }; items = All-from_recursion Fits64 list h.each }, tt))

numbers_behind : (s : List ℕ) → FitsLimits s → IsReader (λ a. numbers_text (number_items a)) (λ a. (a.shape ≡ s) × NumberArray a) NoDigit SameFirst (λ line. as_read (number_array s) (read_numbers (element_count s) line))
numbers_behind s fits =
    made numbers_text (AreSoMany Fits64 (element_count s)) NoDigit SameFirst (read_numbers (element_count s)) (number_array s) number_items (λ a. (a.shape ≡ s) × NumberArray a) (reads_numbers (element_count s)) (some_numbers s) (numbers_again s)
    (λ list h. numbers_there s fits list h) (λ list h. refl)

some_number_array : (s : List ℕ) → FitsLimits s → (a : PlainArray) × (a.shape ≡ s) × NumberArray a
some_number_array s fits =
    let list = copies_fit Fits64 (element_count s) (pos 0) fits_nought in
    let h = numbers_there s fits (copies (element_count s) (pos 0)) list in
    (number_array s (copies (element_count s) (pos 0)), h.0, h.1)

number_array_shape : (a : PlainArray) → NumberArray a → FitsLimits a.shape
number_array_shape a h = h.0.array.fits

empty_fits : FitsLimits []
empty_fits = record { rank = omega arith; axes = All-from_recursion (λ axis. axis ≤ 16384) [] tt; elements = omega arith }

number_spelled_in : (shape : List ℕ) (items : PlainItems) → HasNumbers items → codes "N(" ++ (shape_text shape ++ numbers_text (numbers_in items)) ≡ array_text (array_of shape items)
unfolding array_of HasNumbers
number_spelled_in shape (numbers list) is = ap (λ t. codes "N(" ++ t) (append_assoc (spaced (map decimal shape)) (41 ∷ []) (numbers_text list))
number_spelled_in shape (chars list) is = absurd is

number_spelled : (a : PlainArray) → NumberArray a → codes "N(" ++ (shape_text a.shape ++ numbers_text (number_items a)) ≡ array_text a
unfolding array_of
number_spelled a h = number_spelled_in a.shape a.items h.1

reads_number_array : IsReader array_text NumberArray NoDigit SameFirst read_numbers_array
unfolding read_numbers_array
reads_number_array line a =
    let inner : IsReader (λ e. shape_text e.shape ++ numbers_text (number_items e)) NumberArray NoDigit SameFirst (λ rest. read_shape rest >>= λ found. as_read (number_array found.0) (read_numbers (element_count found.0) found.1)) =
    then_read shape_text FitsLimits Anything (λ e. e.shape) (λ e. numbers_text (number_items e)) NumberArray NoDigit SameFirst read_shape (λ s rest. as_read (number_array s) (read_numbers (element_count s) rest)) no_further reads_shape numbers_behind number_array_shape (λ e behind h follow. tt) some_number_array in
    let some = some_number_array [] empty_fits in
    reformed (λ e. codes "N(" ++ (shape_text e.shape ++ numbers_text (number_items e))) array_text NumberArray NumberArray NoDigit NoDigit SameFirst (λ rest. read_literal (codes "N(") rest >>= λ opened. (read_shape opened >>= λ found. as_read (number_array found.0) (read_numbers (element_count found.0) found.1))) (λ e h. h) (λ e h. h) number_spelled (λ behind h. h)
    (after_text (codes "N(") (λ e. shape_text e.shape ++ numbers_text (number_items e)) NumberArray NoDigit SameFirst (λ opened. read_shape opened >>= λ found. as_read (number_array found.0) (read_numbers (element_count found.0) found.1)) some.0 some.2 inner) line a

-- arrays of characters

pub HasChars : PlainItems → Type 0
HasChars (numbers list) = ⊥
HasChars (chars list) = Unit {0}

abbrev pub CharArray : PlainArray → Type 0
CharArray a = IsValue a × HasChars a.items

abbrev pub char_items : PlainArray → List ℕ
char_items a = chars_in a.items

some_chars_in : (s shape : List ℕ) (items : PlainItems) → shape ≡ s → IsValue (array_of shape items) → HasChars items → AreSoMany IsGlyph (element_count s) (chars_in items)
unfolding array_of HasChars
some_chars_in s shape (numbers list) same h is = absurd is
some_chars_in s shape (chars list) same h is = record {
  each = recursion_from_All IsGlyph list h.items;
  many = sym h.array.whole ∙ ap element_count same;
}

some_chars : (s : List ℕ) (a : PlainArray) → (a.shape ≡ s) × CharArray a → AreSoMany IsGlyph (element_count s) (char_items a)
unfolding array_of
some_chars s a h = some_chars_in s a.shape a.items h.0 h.1.0 h.1.1

chars_again_in : (s shape : List ℕ) (items : PlainItems) → shape ≡ s → HasChars items → char_array s (chars_in items) ≡ array_of shape items
unfolding array_of HasChars
chars_again_in s shape (numbers list) same is = absurd is
chars_again_in s shape (chars list) same is = ap (λ t. char_array t list) (sym same)

chars_again : (s : List ℕ) (a : PlainArray) → (a.shape ≡ s) × CharArray a → char_array s (char_items a) ≡ a
unfolding array_of
chars_again s a h = chars_again_in s a.shape a.items h.0 h.1.1

chars_there : (s : List ℕ) → FitsLimits s → (list : List ℕ) → AreSoMany IsGlyph (element_count s) list → (s ≡ s) × CharArray (char_array s list)
unfolding HasChars
chars_there s fits list h =
    (refl, (record { array = record { fits = fits; whole = sym h.many }; items = All-from_recursion IsGlyph list h.each }, tt))

chars_behind : (s : List ℕ) → FitsLimits s → IsReader (λ a. chars_text (char_items a)) (λ a. (a.shape ≡ s) × CharArray a) Anything SameFirst (λ line. as_read (char_array s) (read_quoted (element_count s) line))
chars_behind s fits =
    made chars_text (AreSoMany IsGlyph (element_count s)) Anything SameFirst (read_quoted (element_count s)) (char_array s) char_items (λ a. (a.shape ≡ s) × CharArray a) (reads_quoted (element_count s)) (some_chars s) (chars_again s)
    (λ list h. chars_there s fits list h) (λ list h. refl)

some_char_array : (s : List ℕ) → FitsLimits s → (a : PlainArray) × (a.shape ≡ s) × CharArray a
some_char_array s fits =
    let list = copies_fit IsGlyph (element_count s) 32 blank_glyph in
    let h = chars_there s fits (copies (element_count s) 32) list in
    (char_array s (copies (element_count s) 32), h.0, h.1)

char_array_shape : (a : PlainArray) → CharArray a → FitsLimits a.shape
char_array_shape a h = h.0.array.fits

char_spelled_in : (shape : List ℕ) (items : PlainItems) → HasChars items → codes "C(" ++ (shape_text shape ++ chars_text (chars_in items)) ≡ array_text (array_of shape items)
unfolding array_of HasChars
char_spelled_in shape (numbers list) is = absurd is
char_spelled_in shape (chars list) is = ap (λ t. codes "C(" ++ t) (append_assoc (spaced (map decimal shape)) (41 ∷ []) (chars_text list))

char_spelled : (a : PlainArray) → CharArray a → codes "C(" ++ (shape_text a.shape ++ chars_text (char_items a)) ≡ array_text a
unfolding array_of
char_spelled a h = char_spelled_in a.shape a.items h.1

reads_char_array : IsReader array_text CharArray Anything SameFirst read_chars_array
unfolding read_chars_array
reads_char_array line a =
    let inner : IsReader (λ e. shape_text e.shape ++ chars_text (char_items e)) CharArray Anything SameFirst (λ rest. read_shape rest >>= λ found. as_read (char_array found.0) (read_quoted (element_count found.0) found.1)) =
    then_read shape_text FitsLimits Anything (λ e. e.shape) (λ e. chars_text (char_items e)) CharArray Anything SameFirst read_shape (λ s rest. as_read (char_array s) (read_quoted (element_count s) rest)) no_further reads_shape chars_behind char_array_shape (λ e behind h follow. tt) some_char_array in
    let some = some_char_array [] empty_fits in
    reformed (λ e. codes "C(" ++ (shape_text e.shape ++ chars_text (char_items e))) array_text CharArray CharArray Anything Anything SameFirst (λ rest. read_literal (codes "C(") rest >>= λ opened. (read_shape opened >>= λ found. as_read (char_array found.0) (read_quoted (element_count found.0) found.1))) (λ e h. h) (λ e h. h) char_spelled (λ behind h. h)
    (after_text (codes "C(") (λ e. shape_text e.shape ++ chars_text (char_items e)) CharArray Anything SameFirst (λ opened. read_shape opened >>= λ found. as_read (char_array found.0) (read_quoted (element_count found.0) found.1)) some.0 some.2 inner) line a

-- arrays

kind_cases_in : (shape : List ℕ) (items : PlainItems) → IsValue (array_of shape items) → NumberArray (array_of shape items) ⊎ CharArray (array_of shape items)
unfolding array_of HasNumbers HasChars
kind_cases_in shape (numbers list) h = inl (h, tt)
kind_cases_in shape (chars list) h = inr (h, tt)

kind_cases : (a : PlainArray) → IsValue a → NumberArray a ⊎ CharArray a
unfolding array_of
kind_cases a h = kind_cases_in a.shape a.items h

number_first : (a : PlainArray) (behind : List ℕ) → NumberArray a → first_of (array_text a ++ behind) ≡ Some 78
number_first a behind h = ap (λ t. first_of (t ++ behind)) (sym (number_spelled a h))

char_first : (a : PlainArray) (behind : List ℕ) → CharArray a → first_of (array_text a ++ behind) ≡ Some 67
char_first a behind h = ap (λ t. first_of (t ++ behind)) (sym (char_spelled a h))

number_or_other : (line : List ℕ) → first_of line ≡ Some 78 → (e : PlainArray) (behind : List ℕ) → IsValue e → NoDigit behind → NumberArray e ⊎ (SameFirst (array_text e ++ behind) line → ⊥)
number_or_other line first e behind h follow =
    elim (kind_cases e h) [
      | inl mine ↦ inl mine
      | inr other ↦ inr (λ same. let wrong : Some 67 ≡ Some 78 = sym (char_first e behind other) ∙ (same ∙ first) in omega (arith, ap (λ o. option_map_or (λ n. n) o 0) wrong))
    ]

char_or_other : (line : List ℕ) → first_of line ≡ Some 67 → (e : PlainArray) (behind : List ℕ) → IsValue e → NoDigit behind → CharArray e ⊎ (SameFirst (array_text e ++ behind) line → ⊥)
char_or_other line first e behind h follow =
    elim (kind_cases e h) [
      | inl other ↦ inr (λ same. let wrong : Some 78 ≡ Some 67 = sym (number_first e behind other) ∙ (same ∙ first) in omega (arith, ap (λ o. option_map_or (λ n. n) o 0) wrong))
      | inr mine ↦ inl mine
    ]

none_of_either : (line : List ℕ) → (first_of line ≡ Some 78 → ⊥) → (first_of line ≡ Some 67 → ⊥) → (e : PlainArray) (behind z : List ℕ) → IsValue e → array_text e ++ behind ≡ z → SameFirst z line → ⊥
none_of_either line not nor e behind z h same agree =
    elim (kind_cases e h) [
      | inl one ↦ not (sym agree ∙ (ap first_of (sym same) ∙ number_first e behind one))
      | inr other ↦ nor (sym agree ∙ (ap first_of (sym same) ∙ char_first e behind other))
    ]

chars_weaker : IsReader array_text CharArray NoDigit SameFirst read_chars_array
chars_weaker =
    reformed array_text array_text CharArray CharArray Anything NoDigit SameFirst read_chars_array (λ e h. h) (λ e h. h) (λ e h. refl) (λ behind h. tt) reads_char_array

array_stopped : (line : List ℕ) → (first_of line ≡ Some 78 → ⊥) → (first_of line ≡ Some 67 → ⊥) → Reads array_text IsValue NoDigit SameFirst line (Err (length line))
array_stopped line not nor =
    let some = some_number_array [] empty_fits in
    record {
      part = [];
      rest = line;
      whole = refl;
      left_is = refl;
      value = some.0;
      more = array_text some.0;
      fits = some.2.0;
      goes_on = refl;
      none = λ w behind z fit follow same agree. none_of_either line not nor w behind z fit same agree;
    }

array_by : (x : ℕ) (rest : List ℕ) → AreGlyphs (x ∷ rest) → (b : Bool) → eqb x 78 ≡ b → (c : Bool) → eqb x 67 ≡ c → Reads array_text IsValue NoDigit SameFirst (x ∷ rest) (cond b (read_numbers_array (x ∷ rest)) (cond c (read_chars_array (x ∷ rest)) (Err (length (x ∷ rest)))))
array_by x rest a true p c q =
    let first : Some x ≡ Some 78 = ap Some (let same : x ≡ 78 = grind (arith, nat_tests, p) in same) in
    widened array_text NumberArray IsValue NoDigit SameFirst no_further (λ e h. h.0) (x ∷ rest) (number_or_other (x ∷ rest) first) (read_numbers_array (x ∷ rest)) (reads_number_array (x ∷ rest) a)
array_by x rest a false p true q =
    let first : Some x ≡ Some 67 = ap Some (let same : x ≡ 67 = grind (arith, nat_tests, q) in same) in
    widened array_text CharArray IsValue NoDigit SameFirst no_further (λ e h. h.0) (x ∷ rest) (char_or_other (x ∷ rest) first) (read_chars_array (x ∷ rest)) (chars_weaker (x ∷ rest) a)
array_by x rest a false p false q =
    array_stopped (x ∷ rest)
    (λ e. let same : x ≡ 78 = cc in grind (arith, nat_tests, p, same))
    (λ e. let same : x ≡ 67 = cc in grind (arith, nat_tests, q, same))

-- an array is read
pub reads_array : IsReader array_text IsValue NoDigit SameFirst read_array
unfolding read_array
reads_array [] a = array_stopped [] (λ e. let none : ⊥ = cc in none) (λ e. let none : ⊥ = cc in none)
reads_array (x ∷ rest) a = array_by x rest a (eqb x 78) refl (eqb x 67) refl

-- some array
pub a_value : (a : PlainArray) × IsValue a
a_value = (number_array [] (pos 0 ∷ []), record { array = record { fits = empty_fits; whole = refl }; items = All-from_recursion Fits64 (pos 0 ∷ []) (fits_nought, tt) })

-- values

IsArrayValue : Option PlainArray → Type 0
IsArrayValue None = ⊥
IsArrayValue (Some a) = IsValue a

array_or : Option PlainArray → PlainArray
array_or None = number_array [] []
array_or (Some a) = a

array_in_value : (v : Option PlainArray) → IsArrayValue v → IsValue (array_or v)
unfolding IsArrayValue array_or
array_in_value None h = absurd h
array_in_value (Some a) h = h

value_again : (v : Option PlainArray) → IsArrayValue v → Some (array_or v) ≡ v
unfolding IsArrayValue array_or
value_again None h = absurd h
value_again (Some a) h = refl

reads_some : IsReader (λ v. array_text (array_or v)) IsArrayValue NoDigit SameFirst (λ line. as_read Some (read_array line))
unfolding IsArrayValue array_or
reads_some =
    made array_text IsValue NoDigit SameFirst read_array Some array_or IsArrayValue reads_array array_in_value value_again (λ a h. h) (λ a h. refl)

value_or_other : (line : List ℕ) → (first_of line ≡ Some 110 → ⊥) → (v : Option PlainArray) (behind : List ℕ) → IsValueOrNone v → NoDigit behind → IsArrayValue v ⊎ (SameFirst (value_text v ++ behind) line → ⊥)
unfolding IsArrayValue
value_or_other line not None behind h follow = inr (λ same. not (sym same))
value_or_other line not (Some a) behind h follow = inl h

IsNone : Option PlainArray → Type 0
IsNone v = v ≡ None

none_or_other : (line : List ℕ) → first_of line ≡ Some 110 → (v : Option PlainArray) (behind : List ℕ) → IsValueOrNone v → NoDigit behind → IsNone v ⊎ (SameFirst (value_text v ++ behind) line → ⊥)
unfolding IsNone
none_or_other line first None behind h follow = inl refl
none_or_other line first (Some a) behind h follow =
    inr (λ same. elim (kind_cases a h) [
      | inl one ↦ let wrong : Some 78 ≡ Some 110 = sym (number_first a behind one) ∙ (same ∙ first) in omega (arith, ap (λ o. option_map_or (λ n. n) o 0) wrong)
      | inr other ↦ let wrong : Some 67 ≡ Some 110 = sym (char_first a behind other) ∙ (same ∙ first) in omega (arith, ap (λ o. option_map_or (λ n. n) o 0) wrong)
    ])

none_text : (v : Option PlainArray) → IsNone v → codes "none" ++ [] ≡ value_text v
unfolding IsNone
none_text v h = ap value_text (sym h)

none_fits : (v : Option PlainArray) → IsNone v → IsValueOrNone v
unfolding IsNone
none_fits v h = subst IsValueOrNone (sym h) tt

reads_none : IsReader (λ v. codes "none" ++ []) IsNone NoDigit SameFirst (λ line. read_literal (codes "none") line >>= λ rest. Ok (None, rest))
unfolding IsNone
reads_none =
    after_text (codes "none") (λ v. []) IsNone NoDigit SameFirst (λ rest. Ok (None, rest)) None refl (nothing_more None IsNone NoDigit SameFirst refl (λ e h. h))

some_text : (v : Option PlainArray) → IsArrayValue v → array_text (array_or v) ≡ value_text v
unfolding IsArrayValue array_or
some_text None h = absurd h
some_text (Some a) h = refl

some_fits : (v : Option PlainArray) → IsArrayValue v → IsValueOrNone v
unfolding IsArrayValue
some_fits None h = absurd h
some_fits (Some a) h = h

value_some : (line : List ℕ) → AreGlyphs line → (first_of line ≡ Some 110 → ⊥) → Reads value_text IsValueOrNone NoDigit SameFirst line (as_read Some (read_array line))
value_some line a not =
    widened value_text IsArrayValue IsValueOrNone NoDigit SameFirst no_further some_fits line (value_or_other line not) (as_read Some (read_array line))
    (retexted (λ v. array_text (array_or v)) value_text IsArrayValue NoDigit line (as_read Some (read_array line)) some_text (reads_some line a))

value_by : (x : ℕ) (rest : List ℕ) → AreGlyphs (x ∷ rest) → (b : Bool) → eqb x 110 ≡ b → Reads value_text IsValueOrNone NoDigit SameFirst (x ∷ rest) (cond b (read_literal (codes "none") (x ∷ rest) >>= λ behind. Ok (None, behind)) (as_read Some (read_array (x ∷ rest))))
value_by x rest a true e =
    let first : Some x ≡ Some 110 = ap Some (let same : x ≡ 110 = grind (arith, nat_tests, e) in same) in
    let one : IsReader (λ v. codes "none" ++ []) IsNone NoDigit SameFirst (λ line. read_literal (codes "none") line >>= λ behind. Ok (None, behind)) = reads_none in
    widened value_text IsNone IsValueOrNone NoDigit SameFirst no_further none_fits (x ∷ rest) (none_or_other (x ∷ rest) first) (read_literal (codes "none") (x ∷ rest) >>= λ behind. Ok (None, behind))
    (retexted (λ v. codes "none" ++ []) value_text IsNone NoDigit (x ∷ rest) (read_literal (codes "none") (x ∷ rest) >>= λ behind. Ok (None, behind)) none_text (one (x ∷ rest) a))
value_by x rest a false e =
    value_some (x ∷ rest) a (λ first. let same : x ≡ 110 = cc in grind (arith, nat_tests, e, same))

-- a value is read
pub reads_value : IsReader value_text IsValueOrNone NoDigit SameFirst read_value
unfolding read_value
reads_value [] a = value_some [] a (λ e. let none : ⊥ = cc in none)
reads_value (x ∷ rest) a = value_by x rest a (eqb x 110) refl
