-- The texts of values are read in one way.
use Rattle.std.proofs.Common.{◌≡◌, ℕ, Bool, true, false, eqb, Option, Some, None, IfSome, List, [], ◌∷◌, ◌++◌, map, codes, get_or, cond, ⊎_elim, inl, inr, ◌⊎◌, refl, sym, ap, ◌∙◌, append_assoc, arith}
use Rattle.std.proofs.lemmas.Bool.{false≢true, cases_Bool}
use Rattle.std.proofs.lemmas.Bool.Decides.{nat_tests}
use Rattle.std.proofs.lemmas.List.Elements.{recursion_from_All}
use Rattle.std.specs.Fmt.{decimal}
use Rattle.std.specs.List.{flat_map, AllByRecursion}
use Rattle.apl_arrays.specs.Array.{PlainItems, numbers, chars, PlainArray}
use Rattle.line_text.specs.Number.{number_text}
use Rattle.line_text.specs.Spaced.{spaced}
use Rattle.sv_text.specs.Printable.{ArePrintableItems, IsPrintableArray}
use Rattle.apl_arrays.specs.Glyph.{quote}
use Rattle.sv_text.specs.ValueText.{char_text, kind_text, items_text, array_text, value_text}
use Rattle.line_text.proofs.SameNumbers.{Fits64, Count64, ends_numbers, same_spaced, counts_are_like_numbers, numbers_are_like_numbers}
use Rattle.apl_arrays.specs.Run.{begins}
use Rattle.line_text.proofs.Spans.{Reads, same_list}

kinds_differ : codes "N" ≡ codes "C" → ⊥
kinds_differ e = omega (arith, ap (λ text. get_or text 0 0) e)

-- characters between quotes

abbrev AnyGlyph : ℕ → Type 0
AnyGlyph glyph = Unit {0}

-- a quote, and no second one
pub record ClosesQuotes (text : List ℕ) : Type 0 where
  pub after : List ℕ
  pub closed : text ≡ quote ∷ after
  pub once : begins (λ glyph. eqb glyph quote) after ≡ false

abbrev Anything : List ℕ → Type 0
Anything text = Unit {0}

pub char_cases : (glyph : ℕ) → ((glyph ≡ quote) × (char_text glyph ≡ quote ∷ quote ∷ [])) ⊎ ((eqb glyph quote ≡ false) × (char_text glyph ≡ glyph ∷ []))
char_cases glyph =
    ⊎_elim (λ h. inl (grind (arith, nat_tests), ap (λ b. cond b (quote ∷ quote ∷ []) (glyph ∷ [])) h))
    (λ h. inr (h, ap (λ b. cond b (quote ∷ quote ∷ []) (glyph ∷ [])) h))
    (cases_Bool (eqb glyph quote))

unlike_quote : (x : ℕ) (rest left : List ℕ) → ClosesQuotes left → char_text x ++ rest ≡ left → ⊥
unlike_quote x rest left stop e =
    ⊎_elim (λ twice.
    let whole : quote ∷ quote ∷ rest ≡ quote ∷ stop.after = ap (λ text. text ++ rest) (sym twice.1) ∙ (e ∙ stop.closed) in
    let after : quote ∷ rest ≡ stop.after = cc in
    false≢true (sym stop.once ∙ ap (begins (λ glyph. eqb glyph quote)) (sym after)))
    (λ once.
    let whole : x ∷ rest ≡ quote ∷ stop.after = ap (λ text. text ++ rest) (sym once.1) ∙ (e ∙ stop.closed) in
    let same : x ≡ quote = cc in
    false≢true (sym once.0 ∙ ap (λ glyph. eqb glyph quote) same))
    (char_cases x)

same_char : (x y : ℕ) (rest left : List ℕ) → char_text x ++ rest ≡ char_text y ++ left → (x ≡ y) × (rest ≡ left)
same_char x y rest left e =
    ⊎_elim (λ twice.
    ⊎_elim (λ both.
    let whole : quote ∷ quote ∷ rest ≡ quote ∷ quote ∷ left = ap (λ text. text ++ rest) (sym twice.1) ∙ (e ∙ ap (λ text. text ++ left) both.1) in
    (twice.0 ∙ sym both.0, cc))
    (λ once.
    let whole : quote ∷ quote ∷ rest ≡ y ∷ left = ap (λ text. text ++ rest) (sym twice.1) ∙ (e ∙ ap (λ text. text ++ left) once.1) in
    let same : quote ≡ y = cc in
    absurd (false≢true (sym once.0 ∙ ap (λ glyph. eqb glyph quote) (sym same))))
    (char_cases y))
    (λ once.
    ⊎_elim (λ twice.
    let whole : x ∷ rest ≡ quote ∷ quote ∷ left = ap (λ text. text ++ rest) (sym once.1) ∙ (e ∙ ap (λ text. text ++ left) twice.1) in
    let same : x ≡ quote = cc in
    absurd (false≢true (sym once.0 ∙ ap (λ glyph. eqb glyph quote) same)))
    (λ neither.
    let whole : x ∷ rest ≡ y ∷ left = ap (λ text. text ++ rest) (sym once.1) ∙ (e ∙ ap (λ text. text ++ left) neither.1) in
    (cc, cc))
    (char_cases y))
    (char_cases x)

chars_read : Reads char_text AnyGlyph ClosesQuotes Anything
chars_read = record {
  unlike = λ x rest left a stop e. unlike_quote x rest left stop e;
  split = λ x y rest left a b stop halt e. same_char x y rest left e;
  last = λ rest stop. tt;
  next = λ x rest a. tt;
}

any_glyphs : (glyphs : List ℕ) → AllByRecursion AnyGlyph glyphs
any_glyphs [] = tt
any_glyphs (x ∷ xs) = (tt, any_glyphs xs)

-- the characters are told apart up to the closing quote
same_chars : (xs ys rest left : List ℕ) → begins (λ glyph. eqb glyph quote) rest ≡ false → begins (λ glyph. eqb glyph quote) left ≡ false → flat_map char_text xs ++ (quote ∷ rest) ≡ flat_map char_text ys ++ (quote ∷ left) → (xs ≡ ys) × (rest ≡ left)
same_chars xs ys rest left stop halt e =
    let closed : ClosesQuotes (quote ∷ rest) = record { after = rest; closed = refl; once = stop } in
    let shut : ClosesQuotes (quote ∷ left) = record { after = left; closed = refl; once = halt } in
    let same = same_list char_text AnyGlyph ClosesQuotes Anything chars_read xs ys (quote ∷ rest) (quote ∷ left) (any_glyphs xs) (any_glyphs ys) closed shut e in
    (same.0, let after : rest ≡ left = cc same.1 in after)

-- what may follow a value: no number goes on here, and no quote
pub record EndsValue (text : List ℕ) : Type 0 where
  pub numbers : ends_numbers text ≡ true
  pub quotes : begins (λ glyph. eqb glyph quote) text ≡ false

same_items : (a b : PlainItems) (rest left : List ℕ) → ArePrintableItems a → ArePrintableItems b → EndsValue rest → EndsValue left → kind_text a ≡ kind_text b → items_text a ++ rest ≡ items_text b ++ left → (a ≡ b) × (rest ≡ left)
same_items (numbers xs) (numbers ys) rest left a b stop halt kind e =
    let same = same_spaced number_text Fits64 numbers_are_like_numbers xs ys rest left (recursion_from_All Fits64 xs a) (recursion_from_All Fits64 ys b) stop.numbers halt.numbers e in
    (ap numbers same.0, same.1)
same_items (chars xs) (chars ys) rest left a b stop halt kind e =
    let inner : (flat_map char_text xs ++ quote ∷ []) ++ rest ≡ (flat_map char_text ys ++ quote ∷ []) ++ left = cc in
    let same = same_chars xs ys rest left stop.quotes halt.quotes (sym (append_assoc (flat_map char_text xs) (quote ∷ []) rest) ∙ (inner ∙ append_assoc (flat_map char_text ys) (quote ∷ []) left)) in
    (ap chars same.0, same.1)
same_items (numbers xs) (chars ys) rest left a b stop halt kind e = absurd (kinds_differ kind)
same_items (chars xs) (numbers ys) rest left a b stop halt kind e = absurd (kinds_differ (sym kind))

abbrev after_letter : List ℕ → PlainItems → List ℕ
after_letter shape items = 40 ∷ (spaced (map decimal shape) ++ (41 ∷ items_text items))

abbrev after_kind : List ℕ → PlainItems → List ℕ → List ℕ
after_kind shape items rest = after_letter shape items ++ rest

same_after_kind : (s t : List ℕ) (i j : PlainItems) (rest left : List ℕ) → AllByRecursion Count64 s → AllByRecursion Count64 t → ArePrintableItems i → ArePrintableItems j → EndsValue rest → EndsValue left → kind_text i ≡ kind_text j → after_kind s i rest ≡ after_kind t j left → (s ≡ t) × ((i ≡ j) × (rest ≡ left))
same_after_kind s t i j rest left a b c d stop halt kind e =
    let inner : (spaced (map decimal s) ++ (41 ∷ items_text i)) ++ rest ≡ (spaced (map decimal t) ++ (41 ∷ items_text j)) ++ left = cc in
    let shapes = same_spaced decimal Count64 counts_are_like_numbers s t (41 ∷ (items_text i ++ rest)) (41 ∷ (items_text j ++ left)) a b refl refl (sym (append_assoc (spaced (map decimal s)) (41 ∷ items_text i) rest) ∙ (inner ∙ append_assoc (spaced (map decimal t)) (41 ∷ items_text j) left)) in
    let after : items_text i ++ rest ≡ items_text j ++ left = cc shapes.1 in
    (shapes.0, same_items i j rest left c d stop halt kind after)

same_kinds : (i j : PlainItems) (more other : List ℕ) → kind_text i ++ more ≡ kind_text j ++ other → (kind_text i ≡ kind_text j) × (more ≡ other)
same_kinds (numbers xs) (numbers ys) more other e = (refl, cc)
same_kinds (chars xs) (chars ys) more other e = (refl, cc)
same_kinds (numbers xs) (chars ys) more other e = absurd (omega (arith, ap (λ text. get_or text 0 0) e))
same_kinds (chars xs) (numbers ys) more other e = absurd (omega (arith, ap (λ text. get_or text 0 0) e))

abbrev array_of : List ℕ → PlainItems → PlainArray
array_of shape items = record { shape = shape; items = items }

pub same_array : (a b : PlainArray) (rest left : List ℕ) → IsPrintableArray a → IsPrintableArray b → EndsValue rest → EndsValue left → array_text a ++ rest ≡ array_text b ++ left → (a ≡ b) × (rest ≡ left)
same_array a b rest left p q stop halt e =
    let kinds = same_kinds a.items b.items (after_kind a.shape a.items rest) (after_kind b.shape b.items left) (sym (append_assoc (kind_text a.items) (after_letter a.shape a.items) rest) ∙ (e ∙ append_assoc (kind_text b.items) (after_letter b.shape b.items) left)) in
    let axes = recursion_from_All Count64 a.shape p.axes in
    let others = recursion_from_All Count64 b.shape q.axes in
    let same = same_after_kind a.shape b.shape a.items b.items rest left axes others p.items q.items stop halt kinds.0 kinds.1 in
    (ap (λ shape. array_of shape a.items) same.0 ∙ ap (λ items. array_of b.shape items) same.1.0, same.1.1)

none_is_no_kind : (items : PlainItems) (rest more : List ℕ) → codes "none" ++ rest ≡ kind_text items ++ more → ⊥
none_is_no_kind (numbers xs) rest more e = omega (arith, ap (λ text. get_or text 0 0) e)
none_is_no_kind (chars xs) rest more e = omega (arith, ap (λ text. get_or text 0 0) e)

none_is_no_array : (a : PlainArray) (rest left : List ℕ) → codes "none" ++ rest ≡ array_text a ++ left → ⊥
none_is_no_array a rest left e =
    none_is_no_kind a.items rest (after_kind a.shape a.items left) (e ∙ append_assoc (kind_text a.items) (after_letter a.shape a.items) left)

pub same_value : (a b : Option PlainArray) (rest left : List ℕ) → IfSome a (λ array. IsPrintableArray array) → IfSome b (λ array. IsPrintableArray array) → EndsValue rest → EndsValue left → value_text a ++ rest ≡ value_text b ++ left → (a ≡ b) × (rest ≡ left)
same_value None None rest left p q stop halt e = (refl, cc)
same_value None (Some b) rest left p q stop halt e = absurd (none_is_no_array b rest left e)
same_value (Some a) None rest left p q stop halt e = absurd (none_is_no_array a left rest (sym e))
same_value (Some a) (Some b) rest left p q stop halt e =
    let same = same_array a b rest left p q stop halt e in
    (ap Some same.0, same.1)

-- the text of an array is no other array's
pub same_text : (a b : PlainArray) → IsPrintableArray a → IsPrintableArray b → array_text a ≡ array_text b → a ≡ b
same_text a b p q e =
    let ends : EndsValue [] = record { numbers = refl; quotes = refl } in
    (same_array a b [] [] p q ends ends (ap (λ text. text ++ []) e)).0
