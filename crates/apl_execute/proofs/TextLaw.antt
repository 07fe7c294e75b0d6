-- A value's text, by its axes and its items.
use Rattle.std.proofs.Common.{◌∙◌, ◌≡◌, ◌<◌, Bool, Err, List, Ok, Result, ap, false, leb, length, refl, sym, true, ℕ, ℤ}
use Rattle.std.specs.Prelude.{◌↔◌, if◌then◌else◌}
use Rattle.std.proofs.lemmas.Bool.{le-leb, leb-false, leb-true, lt-leb}
use Rattle.apl_arrays.specs.Array.{PlainArray, PlainItems, chars, numbers}
use Rattle.apl_arrays.specs.declared.report.Report.{Report}
use Rattle.apl_arrays.specs.declared.report.Report.TheVariants.{Domain, Length, Rank}
use Rattle.apl_execute.specs.Text.{text_of, text_of_items}
use Rattle.apl_execute.specs.TextLaws.{HasNumbers, HasTooMany, IsTextOfValue}

-- characters, by whether they are few
abbrev if_few : Bool → List ℕ → Result (List ℕ) Report
if_few few glyphs = if few then Ok glyphs else Err Length

-- items, by whether they stand along at most one axis
abbrev if_flat : Bool → PlainItems → Result (List ℕ) Report
if_flat flat items = if flat then text_of_items items else Err Rank

-- ---- a text

text_by : (flat : Bool) (items : PlainItems) (text : List ℕ) → if_flat flat items ≡ Ok text → (flat ≡ true) × (items ≡ chars text) × (leb (length text) 1000 ≡ true)
text_by false items text h = absurd cc
text_by true (numbers list) text h = absurd cc
text_by true (chars glyphs) text h = by (leb (length glyphs) 1000) refl h
  where
    by : (few : Bool) → leb (length glyphs) 1000 ≡ few → if_few few glyphs ≡ Ok text → (true ≡ true) × (chars glyphs ≡ chars text) × (leb (length text) 1000 ≡ true)
    by true e k = let same : glyphs ≡ text = cc in (refl, ap chars same, ap (λ (t : List ℕ). leb (length t) 1000) (sym same) ∙ e)
    by false e k = absurd cc

pub texts_are : (value : PlainArray) (text : List ℕ) → (text_of value ≡ Ok text) ↔ IsTextOfValue value text
texts_are value text = (there, back)
  where
    there : text_of value ≡ Ok text → IsTextOfValue value text
    there h =
        let parts = text_by (leb (length value.shape) 1) value.items text h in
        record { axes = leb-true (length value.shape) 1 parts.0; characters = parts.1; few = leb-true (length text) 1000 parts.2 }

    back : IsTextOfValue value text → text_of value ≡ Ok text
    back is =
        ap (λ (flat : Bool). if_flat flat value.items) (le-leb (length value.shape) 1 is.axes)
        ∙ ap text_of_items is.characters
        ∙ ap (λ (few : Bool). if_few few text) (le-leb (length text) 1000 is.few)

-- ---- too many axes

rank_by : (flat : Bool) (items : PlainItems) → if_flat flat items ≡ Err Rank → flat ≡ false
rank_by false items h = refl
rank_by true (numbers list) h = absurd cc
rank_by true (chars glyphs) h = absurd (by (leb (length glyphs) 1000) h)
  where
    by : (few : Bool) → if_few few glyphs ≡ Err Rank → ⊥
    by true k = cc
    by false k = cc

pub axes_are_too_many : (value : PlainArray) → (text_of value ≡ Err Rank) ↔ (1 < length value.shape)
axes_are_too_many value = (there, back)
  where
    there : text_of value ≡ Err Rank → 1 < length value.shape
    there h = leb-false (length value.shape) 1 (rank_by (leb (length value.shape) 1) value.items h)

    back : 1 < length value.shape → text_of value ≡ Err Rank
    back many = ap (λ (flat : Bool). if_flat flat value.items) (lt-leb (length value.shape) 1 many)

-- ---- numbers

domain_by : (flat : Bool) (items : PlainItems) → if_flat flat items ≡ Err Domain → (flat ≡ true) × ((list : List ℤ) × (items ≡ numbers list))
domain_by false items h = absurd cc
domain_by true (numbers list) h = (refl, (list, refl))
domain_by true (chars glyphs) h = absurd (by (leb (length glyphs) 1000) h)
  where
    by : (few : Bool) → if_few few glyphs ≡ Err Domain → ⊥
    by true k = cc
    by false k = cc

pub numbers_are_no_text : (value : PlainArray) → (text_of value ≡ Err Domain) ↔ HasNumbers value
numbers_are_no_text value = (there, back)
  where
    there : text_of value ≡ Err Domain → HasNumbers value
    there h =
        let parts = domain_by (leb (length value.shape) 1) value.items h in
        record { axes = leb-true (length value.shape) 1 parts.0; list = parts.1.0; items = parts.1.1 }

    back : HasNumbers value → text_of value ≡ Err Domain
    back is = ap (λ (flat : Bool). if_flat flat value.items) (le-leb (length value.shape) 1 is.axes) ∙ ap text_of_items is.items

-- ---- too many characters

length_by : (flat : Bool) (items : PlainItems) → if_flat flat items ≡ Err Length → (flat ≡ true) × ((text : List ℕ) × (items ≡ chars text) × (leb (length text) 1000 ≡ false))
length_by false items h = absurd cc
length_by true (numbers list) h = absurd cc
length_by true (chars glyphs) h = (refl, (glyphs, refl, by (leb (length glyphs) 1000) h))
  where
    by : (few : Bool) → if_few few glyphs ≡ Err Length → few ≡ false
    by true k = absurd cc
    by false k = refl

pub characters_are_too_many : (value : PlainArray) → (text_of value ≡ Err Length) ↔ HasTooMany value
characters_are_too_many value = (there, back)
  where
    there : text_of value ≡ Err Length → HasTooMany value
    there h =
        let parts = length_by (leb (length value.shape) 1) value.items h in
        record { axes = leb-true (length value.shape) 1 parts.0; text = parts.1.0; characters = parts.1.1; many = leb-false (length parts.1.0) 1000 parts.1.2 }

    back : HasTooMany value → text_of value ≡ Err Length
    back is =
        ap (λ (flat : Bool). if_flat flat value.items) (le-leb (length value.shape) 1 is.axes)
        ∙ ap text_of_items is.characters
        ∙ ap (λ (few : Bool). if_few few is.text) (lt-leb (length is.text) 1000 is.many)
