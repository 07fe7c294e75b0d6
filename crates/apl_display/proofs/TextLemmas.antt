-- Lines one after another, and how long lines are.
use Rattle.std.proofs.Common.{◌≡◌, ℕ, zero, suc, ◌+◌, ◌-◌, ◌*◌, ◌<◌, ◌≤◌, ℤ, pos, List, [], ◌∷◌, ◌++◌, length, get_or, map, sum, replicate, refl, sym, ap, ◌∙◌, subst, arith, append-nil, append_assoc, length-append, add-one}
use Rattle.std.proofs.lemmas.List.{length-map, length-replicate}
use Rattle.std.proofs.lemmas.List.FromFn.{map-range_with_len_more}
use Rattle.std.proofs.lemmas.List.Sums.{sum_by-cons}
use Rattle.std.proofs.lemmas.Slice.Zip.{length-zip}
use Rattle.std.specs.List.{concat, flat_map, range_with_len, sum_by, zip}
use Rattle.apl_display.proofs.GroupLemmas.{joined_more_at}
use Rattle.apl_display.proofs.RowLemmas.{gap, gap_later, spaced_joined}
use Rattle.apl_display.specs.Joined.{separated_by, with_empty_lines}
use Rattle.apl_arrays.specs.Glyph.{blank}
use Rattle.line_text.specs.Spaced.{spaced}
use Rattle.apl_display.specs.Matrices.{cell, aligned, right_aligned}
use Rattle.line_text.specs.Number.{number_text, number_width}

pub concat-append : (xs ys : List (List ℕ)) → concat (xs ++ ys) ≡ concat xs ++ concat ys
concat-append [] ys = refl
concat-append (x ∷ xs) ys = ap (λ end. x ++ end) (concat-append xs ys) ∙ sym (append_assoc x (concat xs) (concat ys))

-- one line more
pub concat_more : (f : ℕ → List ℕ) (n : ℕ) → concat (map f (range_with_len 0 (n + 1))) ≡ concat (map f (range_with_len 0 n)) ++ f n
concat_more f n =
    ap concat (map-range_with_len_more f 0 n n (omega arith))
    ∙ (concat-append (map f (range_with_len 0 n)) (f n ∷ []) ∙ ap (λ end. concat (map f (range_with_len 0 n)) ++ end) (append-nil (f n)))

-- further pieces, each after a blank
length_further : (texts : List (List ℕ)) → length (flat_map (λ text. (blank ∷ []) ++ text) texts) ≡ length texts + sum_by length texts
length_further [] = refl
length_further (text ∷ texts) =
    let lengths : length (text ++ flat_map (λ t. (blank ∷ []) ++ t) texts) ≡ length text + length (flat_map (λ t. (blank ∷ []) ++ t) texts) = length-append text (flat_map (λ t. (blank ∷ []) ++ t) texts) in
    omega (arith, lengths, length_further texts, sum_by-cons length text texts)

length_joined : (texts : List (List ℕ)) → length (separated_by (blank ∷ []) texts) ≡ length texts - 1 + sum_by length texts
length_joined [] = refl
length_joined (text ∷ texts) =
    omega (arith, length-append text (flat_map (λ t. (blank ∷ []) ++ t) texts), length_further texts, sum_by-cons length text texts)

pub length-spaced : (texts : List (List ℕ)) → length (spaced texts) ≡ length texts - 1 + sum_by length texts
length-spaced texts = ap length (spaced_joined texts) ∙ length_joined texts

length-right_aligned : (width : ℕ) (text : List ℕ) → length text ≤ width → length (right_aligned width text) ≡ width
length-right_aligned width text fits =
    omega (arith, length-append (replicate (width - length text) blank) text, length-replicate {A = ℕ} (width - length text) blank)

-- cells are as wide as their columns
length_cells : (widths : List ℕ) (row : List ℤ) → length widths ≡ length row → ((k : ℕ) → k < length row → number_width (get_or row k (pos 0)) ≤ get_or widths k 0) → sum_by length (map cell (zip widths row)) ≡ sum widths
length_cells [] row same fits = refl
length_cells (width ∷ widths) [] same fits = absurd (omega arith)
length_cells (width ∷ widths) (number ∷ row) same fits =
    omega (
      arith,
      sum_by-cons length (cell (width, number)) (map cell (zip widths row)),
      length-right_aligned width (number_text number) (fits 0 (omega arith)),
      length_cells widths row (omega arith) (λ k within. fits (suc k) (omega arith)),
      sum_by-cons (λ w. w) width widths,
    )

pub length-aligned : (widths : List ℕ) (row : List ℤ) → length widths ≡ length row → ((k : ℕ) → k < length row → number_width (get_or row k (pos 0)) ≤ get_or widths k 0) → length (aligned widths row) ≡ length widths - 1 + sum widths
length-aligned widths row same fits =
    omega (arith, length-spaced (map cell (zip widths row)), length-map (zip widths row) cell, length-zip widths row, length_cells widths row same fits)

-- the widths of texts
text_widths : (list : List ℤ) → sum_by length (map number_text list) ≡ sum_by number_width list
text_widths [] = refl
text_widths (number ∷ list) =
    omega (arith, sum_by-cons length (number_text number) (map number_text list), sum_by-cons number_width number list, text_widths list)

pub length_of_numbers : (list : List ℤ) → length (spaced (map number_text list)) ≡ length list - 1 + sum_by number_width list
length_of_numbers list =
    omega (arith, length-spaced (map number_text list), length-map list number_text, text_widths list)

-- lines that are equally long
pub length_of_lines : (f : ℕ → List ℕ) (n width : ℕ) → ((k : ℕ) → k < n → length (f k) ≡ width) → length (concat (map f (range_with_len 0 n))) ≡ n * width
length_of_lines f zero width long = omega arith
length_of_lines f (suc n) width long =
    let text : ℕ → List ℕ = λ m. concat (map f (range_with_len 0 m)) in
    let before : length (text n) ≡ n * width = length_of_lines f n width (λ k within. long k (omega arith)) in
    let last : length (f n) ≡ width = long n (omega arith) in
    subst (λ m. length (text m) ≡ m * width) (add-one n) (ap length (concat_more f n) ∙ (length-append (text n) (f n) ∙ omega arith))

-- the lines after the first so many
further_lines : (f : ℕ → List ℕ) (first n : ℕ) → concat (map f (range_with_len 0 (first + n))) ≡ concat (map f (range_with_len 0 first)) ++ concat (map (λ k. f (first + k)) (range_with_len 0 n))
further_lines f first zero = ap (λ m. concat (map f (range_with_len 0 m))) (omega arith) ∙ sym (append-nil (concat (map f (range_with_len 0 first))))
further_lines f first (suc n) =
    let text : ℕ → List ℕ = λ m. concat (map f (range_with_len 0 m)) in
    let further : ℕ → List ℕ = λ m. concat (map (λ k. f (first + k)) (range_with_len 0 m)) in
    ap text (omega arith)
    ∙ (concat_more f (first + n)
    ∙ (ap (λ front. front ++ f (first + n)) (further_lines f first n)
    ∙ (append_assoc (text first) (further n) (f (first + n))
    ∙ (ap (λ end. text first ++ end) (sym (concat_more (λ k. f (first + k)) n))
    ∙ ap (λ m. text first ++ further m) (add-one n)))))

-- an empty line has no characters
concat_gap : (n : ℕ) → concat (gap ([] ∷ []) n) ≡ []
concat_gap zero = refl
concat_gap (suc n) = ap concat (gap_later ([] ∷ []) n)

-- groups of lines are all lines, where empty lines don't count
pub grouped : (f : ℕ → List ℕ) (size groups : ℕ) → concat (with_empty_lines (map (λ group. map (λ k. f (group * size + k)) (range_with_len 0 size)) (range_with_len 0 groups))) ≡ concat (map f (range_with_len 0 (groups * size)))
grouped f size zero = let none : 0 ≡ zero * size = omega arith in ap (λ m. concat (map f (range_with_len 0 m))) none
grouped f size (suc n) =
    let group : ℕ → List (List ℕ) = λ m. map (λ k. f (m * size + k)) (range_with_len 0 size) in
    let so_far : ℕ → List (List ℕ) = λ m. with_empty_lines (map group (range_with_len 0 m)) in
    ap (λ m. concat (so_far m)) (sym (add-one n))
    ∙ (ap concat (joined_more_at ([] ∷ []) group n)
    ∙ (concat-append (so_far n) (gap ([] ∷ []) n ++ group n)
    ∙ (ap (λ end. concat (so_far n) ++ end) (concat-append (gap ([] ∷ []) n) (group n) ∙ ap (λ front. front ++ concat (group n)) (concat_gap n))
    ∙ (ap (λ front. front ++ concat (group n)) (grouped f size n)
    ∙ (sym (further_lines f (n * size) size)
    ∙ (let next : n * size + size ≡ suc n * size = omega arith in ap (λ m. concat (map f (range_with_len 0 m))) next))))))
