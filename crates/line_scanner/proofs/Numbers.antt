-- The numbers of a constant, one after the other.
use Rattle.std.proofs.Common.{◌≡◌, ℕ, zero, suc, ◌+◌, ◌-◌, ◌≤◌, ◌<◌, ℤ, List, [], ◌∷◌, ◌++◌, Some, None, length, take, drop, refl, sym, ap, ◌∙◌, append_assoc, arith}
use Rattle.std.proofs.lemmas.List.{append-nil, length-drop, take_all}
use Rattle.std.proofs.lemmas.Option.{none-some}
use Rattle.line_scanner.specs.Number.{number, next_number, next_numbers, number_with_more}

-- in nothing no number comes next
pub nothing_next : next_number [] ≡ None
unfolding number next_number
nothing_next = refl

none_next : (found : ℤ × ℕ) → next_number [] ≡ Some found → ⊥
none_next found e = none-some found (sym nothing_next ∙ e)

-- passing over one glyph more
suc_passes : (passed k : ℕ) (glyph : ℕ) (rest : List ℕ) → passed ≡ suc k → next_numbers passed (glyph ∷ rest) ≡ next_numbers k rest
unfolding next_numbers
suc_passes passed k glyph rest e = rw e refl

-- where a number comes next, it is the next of the numbers
pub next_numbers_some : (end : ℕ) (line : List ℕ) (found : ℤ × ℕ) → next_number (drop end line) ≡ Some found → 0 < found.1 → next_numbers end line ≡ number_with_more found (next_numbers (end + found.1) line)
unfolding next_numbers
next_numbers_some zero [] found e some = absurd (none_next found e)
next_numbers_some (suc end) [] found e some = absurd (none_next found e)
next_numbers_some zero (glyph ∷ rest) found e some =
    let k : 0 + found.1 ≡ suc (found.1 - 1) = omega arith in
    rw (e, suc_passes (0 + found.1) (found.1 - 1) glyph rest k) refl
next_numbers_some (suc end) (glyph ∷ rest) found e some =
    let k : suc end + found.1 ≡ suc (end + found.1) = omega arith in
    rw (suc_passes (suc end + found.1) (end + found.1) glyph rest k) (next_numbers_some end rest found e some)

-- where none comes next, there are no more
pub next_numbers_none : (end : ℕ) (line : List ℕ) → next_number (drop end line) ≡ None → next_numbers end line ≡ ([], 0)
unfolding next_numbers
next_numbers_none end [] e = refl
next_numbers_none zero (glyph ∷ rest) e = rw e refl
next_numbers_none (suc end) (glyph ∷ rest) e = next_numbers_none end rest e

-- some numbers, up to a place, and those to come are all the numbers of a constant
pub record IsReadTo (first : ℤ) (taken : ℕ) (line : List ℕ) (read : List ℤ) (end : ℕ) : Type 0 where
  pub items : read ++ (next_numbers end line).0 ≡ first ∷ (next_numbers taken line).0
  pub glyphs : end + (next_numbers end line).1 ≡ taken + (next_numbers taken line).1
  pub from : taken ≤ end
  pub within : end ≤ length line

-- what is left from a place on
pub left_from : (end : ℕ) (line : List ℕ) → take (length line - end) (drop end line) ≡ drop end line
left_from end line = take_all (length line - end) (drop end line) (omega (arith, length-drop end line))

-- a number more
pub reads_on : (first : ℤ) (taken : ℕ) (line : List ℕ) (read more : List ℤ) (end : ℕ) (next value : ℤ) (n : ℕ) → Some (next, n) ≡ next_number (take (length line - end) (drop end line))
    → (0 < n) × (n ≤ length (take (length line - end) (drop end line))) → more ≡ read ++ value ∷ [] → value ≡ next → IsReadTo first taken line read end → IsReadTo first taken line more (end + n)
reads_on first taken line read more end next value n e bounds pushed same h =
    let found : next_number (drop end line) ≡ Some (next, n) = ap next_number (sym (left_from end line)) ∙ sym e in
    let step = next_numbers_some end line (next, n) found bounds.0 in
    let further : more ≡ read ++ next ∷ [] = pushed ∙ ap (λ (v : ℤ). read ++ v ∷ []) same in
    let items : read ++ (next_numbers end line).0 ≡ more ++ (next_numbers (end + n) line).0 = ap (λ (x : List ℤ × ℕ). read ++ x.0) step ∙ sym (append_assoc read (next ∷ []) (next_numbers (end + n) line).0) ∙ ap (λ (x : List ℤ). x ++ (next_numbers (end + n) line).0) (sym further) in
    let glyphs : (next_numbers end line).1 ≡ n + (next_numbers (end + n) line).1 = ap (λ (x : List ℤ × ℕ). x.1) step in
    record {
      items = sym items ∙ h.items;
      glyphs = omega (arith, glyphs, h.glyphs);
      from = omega (arith, h.from);
      within = omega (arith, h.within, length-drop end line, ap length (left_from end line));
    }

-- all numbers
pub reads_all : (first : ℤ) (taken : ℕ) (line : List ℕ) (read : List ℤ) (end : ℕ) → None ≡ next_number (take (length line - end) (drop end line)) → IsReadTo first taken line read end
    → (read, end) ≡ number_with_more (first, taken) (next_numbers taken line)
reads_all first taken line read end e h =
    let stop = next_numbers_none end line (ap next_number (sym (left_from end line)) ∙ sym e) in
    let items : read ≡ first ∷ (next_numbers taken line).0 = sym (append-nil read) ∙ ap (λ (x : List ℤ × ℕ). read ++ x.0) (sym stop) ∙ h.items in
    let none : (next_numbers end line).1 ≡ 0 = ap (λ (x : List ℤ × ℕ). x.1) stop in
    let glyphs : end ≡ taken + (next_numbers taken line).1 = omega (arith, none, h.glyphs) in
    rw (items, glyphs) refl
