-- A constant of characters is computed exactly where the grammar has one.
use Rattle.std.proofs.Common.{◌≡◌, ℕ, ◌+◌, Bool, true, false, List, [], ◌∷◌, ◌++◌, Option, Some, None, length, refl, sym, ap, subst, ◌∙◌, append_assoc, arith}
use Rattle.std.specs.List.{flat_map}
use Rattle.std.proofs.lemmas.Bool.{eqb-true}
use Rattle.std.proofs.lemmas.List.{length-append, append-nil}
use Rattle.line_scanner.specs.Role.{is_quote}
use Rattle.line_scanner.specs.Number.{found_after}
use Rattle.line_scanner.specs.Scanning.{with_char, chars_by, chars_from}
use Rattle.apl_arrays.specs.Glyph as named
use Rattle.apl_arrays.specs.Run.{begins}
use Rattle.line_scanner.specs.Grammar.{doubled}
use Rattle.std.proofs.lemmas.Option.{same_Some}
use Rattle.line_scanner.proofs.Found.{behind_some, behind_none}
use Rattle.line_scanner.proofs.Chars.{onto}

-- a quote that stands before, if one does
abbrev pub before : Bool → List ℕ
before true = named.quote ∷ []
before false = []

-- characters, their closing quote, and what follows it
pub record CharsTaken (line list : List ℕ) (taken : ℕ) : Type 0 where
  pub more : List ℕ
  pub whole : line ≡ flat_map doubled list ++ (named.quote ∷ more)
  pub ends : begins is_quote more ≡ false
  pub len : taken ≡ length (flat_map doubled list) + 1

with_char_some : (char : ℕ) (inner : Option (List ℕ × ℕ)) (found : List ℕ × ℕ) → with_char char inner ≡ Some found → (first : List ℕ × ℕ) × (inner ≡ Some first) × (char ∷ first.0 ≡ found.0) × (1 + first.1 ≡ found.1)
with_char_some char None found e = absurd cc
with_char_some char (Some first) found e =
    let same = same_Some (char ∷ first.0, 1 + first.1) found e in
    (first, refl, ap (λ (x : List ℕ × ℕ). x.0) same, ap (λ (x : List ℕ × ℕ). x.1) same)

doubled_plain : (g : ℕ) → is_quote g ≡ false → doubled g ≡ g ∷ []
doubled_plain g e = rw e refl

doubled_quote : (g : ℕ) → is_quote g ≡ true → doubled g ≡ g ∷ g ∷ []
doubled_quote g e = rw e refl

-- a character before others that are taken
char_before : (g : ℕ) (front line list : List ℕ) (taken n : ℕ) → front ≡ doubled g → n ≡ length front + taken → CharsTaken line list taken → CharsTaken (front ++ line) (g ∷ list) n
char_before g front line list taken n e len h = record {
  more = h.more;
  whole = ap (λ (xs : List ℕ). front ++ xs) h.whole ∙ ap (λ (xs : List ℕ). xs ++ (flat_map doubled list ++ (named.quote ∷ h.more))) e ∙ sym (append_assoc (doubled g) (flat_map doubled list) (named.quote ∷ h.more));
  ends = h.ends;
  len = omega (arith, len, h.len, ap length e, length-append (doubled g) (flat_map doubled list));
}

taken_same : (line same list like : List ℕ) (m n : ℕ) → line ≡ same → list ≡ like → m ≡ n → CharsTaken line list m → CharsTaken same like n
taken_same line same list like m n e f g h = subst (λ (xs : List ℕ). CharsTaken xs like n) e (subst (λ (ys : List ℕ). CharsTaken line ys n) f (subst (λ (k : ℕ). CharsTaken line list k) g h))

sound_by : (closing quote : Bool) (g : ℕ) (rest : List ℕ) (found : List ℕ × ℕ) → is_quote g ≡ quote → chars_by closing quote g (λ next. chars_from next rest) ≡ Some found
    → ((next : Bool) (inner : List ℕ × ℕ) → chars_from next rest ≡ Some inner → CharsTaken (before next ++ rest) inner.0 (length (before next) + inner.1))
    → CharsTaken (before closing ++ (g ∷ rest)) found.0 (length (before closing) + found.1)
sound_by false false g rest found is e beyond =
    let p = with_char_some g (chars_from false rest) found e in
    let h = beyond false p.0 p.1 in
    taken_same (g ∷ rest) (g ∷ rest) (g ∷ p.0.0) found.0 (1 + p.0.1) (0 + found.1) refl p.2 (omega (arith, p.3)) (char_before g (g ∷ []) rest p.0.0 (0 + p.0.1) (1 + p.0.1) (sym (doubled_plain g is)) (omega arith) h)
sound_by false true g rest found is e beyond =
    let p = behind_some 1 (chars_from true rest) found e in
    let h = beyond true p.0 p.1 in
    taken_same (named.quote ∷ rest) (g ∷ rest) p.0.0 found.0 (1 + p.0.1) (0 + found.1) (ap (λ (x : ℕ). x ∷ rest) (sym (eqb-true g named.quote is))) p.2 (omega (arith, p.3)) h
sound_by true true g rest found is e beyond =
    let p = with_char_some g (chars_from false rest) found e in
    let h = beyond false p.0 p.1 in
    taken_same (g ∷ g ∷ rest) (named.quote ∷ g ∷ rest) (g ∷ p.0.0) found.0 (2 + p.0.1) (1 + found.1) (ap (λ (x : ℕ). x ∷ g ∷ rest) (eqb-true g named.quote is)) p.2 (omega (arith, p.3)) (char_before g (g ∷ g ∷ []) rest p.0.0 (0 + p.0.1) (2 + p.0.1) (sym (doubled_quote g is)) (omega arith) h)
sound_by true false g rest found is e beyond =
    let same = same_Some ([], 0) found e in
    taken_same (named.quote ∷ g ∷ rest) (named.quote ∷ g ∷ rest) [] found.0 1 (1 + found.1) refl (ap (λ (x : List ℕ × ℕ). x.0) same) (omega (arith, ap (λ (x : List ℕ × ℕ). x.1) same)) (record { more = g ∷ rest; whole = refl; ends = is; len = refl })

-- what is computed are characters and their closing quote
pub chars_sound : (closing : Bool) (line : List ℕ) (found : List ℕ × ℕ) → chars_from closing line ≡ Some found → CharsTaken (before closing ++ line) found.0 (length (before closing) + found.1)
unfolding chars_from
chars_sound false [] found e = absurd cc
chars_sound true [] found e =
    let same = same_Some ([], 0) found e in
    taken_same (named.quote ∷ []) (named.quote ∷ []) [] found.0 1 (1 + found.1) refl (ap (λ (x : List ℕ × ℕ). x.0) same) (omega (arith, ap (λ (x : List ℕ × ℕ). x.1) same)) (record { more = []; whole = refl; ends = refl; len = refl })
chars_sound closing (g ∷ rest) found e = sound_by closing (is_quote g) g rest found refl e (λ next inner i. chars_sound next rest inner i)

-- characters that no quote closes
abbrev pub IsOpen : List ℕ → Type 0
IsOpen line = (list : List ℕ) × (line ≡ flat_map doubled list)

with_char_open : (char : ℕ) (inner : Option (List ℕ × ℕ)) → with_char char inner ≡ None → inner ≡ None
with_char_open char None e = refl
with_char_open char (Some found) e = absurd cc

open_by : (closing quote : Bool) (g : ℕ) (rest : List ℕ) → is_quote g ≡ quote → chars_by closing quote g (λ next. chars_from next rest) ≡ None
    → ((next : Bool) → chars_from next rest ≡ None → IsOpen (before next ++ rest)) → IsOpen (before closing ++ (g ∷ rest))
open_by false false g rest is e beyond =
    let h = beyond false (with_char_open g (chars_from false rest) e) in
    (g ∷ h.0, ap (λ (xs : List ℕ). g ∷ xs) h.1 ∙ ap (λ (xs : List ℕ). xs ++ flat_map doubled h.0) (sym (doubled_plain g is)))
open_by false true g rest is e beyond =
    let h = beyond true (behind_none 1 (chars_from true rest) e) in
    (h.0, ap (λ (x : ℕ). x ∷ rest) (eqb-true g named.quote is) ∙ h.1)
open_by true true g rest is e beyond =
    let h = beyond false (with_char_open g (chars_from false rest) e) in
    (g ∷ h.0, ap (λ (x : ℕ). x ∷ g ∷ rest) (sym (eqb-true g named.quote is)) ∙ ap (λ (xs : List ℕ). g ∷ g ∷ xs) h.1 ∙ ap (λ (xs : List ℕ). xs ++ flat_map doubled h.0) (sym (doubled_quote g is)))
open_by true false g rest is e beyond = absurd cc

-- where none is computed no quote closes
pub chars_open : (closing : Bool) (line : List ℕ) → chars_from closing line ≡ None → IsOpen (before closing ++ line)
unfolding chars_from
chars_open false [] e = ([], refl)
chars_open true [] e = absurd cc
chars_open closing (g ∷ rest) e = open_by closing (is_quote g) g rest refl e (λ next i. chars_open next rest i)

-- ---- the other way round

char_onto : (g : ℕ) (list : List ℕ) (n m : ℕ) (found : Option (List ℕ × ℕ)) → 1 + n ≡ m → with_char g (onto list n found) ≡ onto (g ∷ list) m found
char_onto g list n m None e = refl
char_onto g list n m (Some found) e = let same : 1 + (n + found.1) ≡ m + found.1 = omega (arith, e) in ap (λ (k : ℕ). Some (g ∷ (list ++ found.0), k)) same

behind_onto : (list : List ℕ) (n m : ℕ) (found : Option (List ℕ × ℕ)) → 1 + n ≡ m → found_after 1 (onto list n found) ≡ onto list m found
behind_onto list n m None e = refl
behind_onto list n m (Some found) e = let same : 1 + (n + found.1) ≡ m + found.1 = omega (arith, e) in ap (λ (k : ℕ). Some (list ++ found.0, k)) same

doubled_by : (quote : Bool) (g : ℕ) (list beyond : List ℕ) (found : Option (List ℕ × ℕ)) (n : ℕ) → is_quote g ≡ quote → chars_from false beyond ≡ onto list n found
    → chars_from false (doubled g ++ beyond) ≡ onto (g ∷ list) (length (doubled g) + n) found
unfolding chars_from
doubled_by false g list beyond found n is e = rw (is, is, e) (char_onto g list n (1 + n) found refl)
doubled_by true g list beyond found n is e = rw (is, is, e) (ap (found_after 1) (char_onto g list n (1 + n) found refl) ∙ behind_onto (g ∷ list) (1 + n) (2 + n) found (omega arith))

-- what is read onto nothing
pub nothing_onto : (found : Option (List ℕ × ℕ)) → found ≡ onto [] 0 found
nothing_onto None = refl
nothing_onto (Some found) = let same : found.1 ≡ 0 + found.1 = omega arith in ap (λ (k : ℕ). Some (found.0, k)) same

-- characters before anything are computed
chars_complete : (list tail : List ℕ) → chars_from false (flat_map doubled list ++ tail) ≡ onto list (length (flat_map doubled list)) (chars_from false tail)
chars_complete [] tail = nothing_onto (chars_from false tail)
chars_complete (g ∷ list) tail =
    let others = flat_map doubled list in
    let len : length (doubled g) + length others ≡ length (doubled g ++ others) = omega (arith, length-append (doubled g) others) in
    ap (chars_from false) (append_assoc (doubled g) others tail) ∙ doubled_by (is_quote g) g list (others ++ tail) (chars_from false tail) (length others) refl (chars_complete list tail) ∙ ap (λ (k : ℕ). onto (g ∷ list) k (chars_from false tail)) len

closes : (more : List ℕ) → begins is_quote more ≡ false → chars_from false (named.quote ∷ more) ≡ Some ([], 1)
unfolding chars_from
closes [] e = refl
closes (g ∷ more) e = rw e refl

-- characters and their closing quote are computed
pub chars_closed : (list more : List ℕ) → begins is_quote more ≡ false → chars_from false (flat_map doubled list ++ (named.quote ∷ more)) ≡ Some (list, length (flat_map doubled list) + 1)
chars_closed list more e = chars_complete list (named.quote ∷ more) ∙ ap (onto list (length (flat_map doubled list))) (closes more e) ∙ ap (λ (xs : List ℕ). Some (xs, length (flat_map doubled list) + 1)) (append-nil list)

-- characters that no quote closes are none
pub chars_unclosed : (list : List ℕ) → chars_from false (flat_map doubled list) ≡ None
unfolding chars_from
chars_unclosed list = ap (chars_from false) (sym (append-nil (flat_map doubled list))) ∙ chars_complete list []
