-- The kind of a join.
use Rattle.std.proofs.Common.{◌≡◌, ℕ, ℤ, pos, ◌==◌, ◌&&◌, Bool, true, false, not, cond, List, ◌++◌, Option, Some, length, refl, sym, ap, ◌∙◌}
use Rattle.apl_arrays.specs.Array.{PlainArray, PlainItems, numbers, chars, chars_in, element_count, is_chars, item_count, numbers_in}
use Rattle.apl_arrays.specs.Glyph.{blank}
use Rattle.apl_items.specs.Moves.{moved_items, moved_list}
use Rattle.apl_items.specs.Shapes.{split_at}
use Rattle.apl_selection.specs.Catenation.{catenated, catenated_place, catenated_rank, catenated_shape, kind_giver, kinds_clash, span_of}
use Rattle.apl_selection.proofs.FaultLemmas.{same_number}

mixed_numbers : (x y : Bool) (xs : List ℤ) (ys : List ℕ) → (not x && not y) ≡ false → is_chars (cond (y && not x) (numbers xs) (chars ys)) ≡ true → x ≡ true
mixed_numbers true y xs ys p q = refl
mixed_numbers false true xs ys p q = absurd (cc)
mixed_numbers false false xs ys p q = absurd (cc)

mixed_chars : (x y : Bool) (xs : List ℕ) (ys : List ℤ) → is_chars (cond (y && not x) (chars xs) (numbers ys)) ≡ true → y ≡ true
mixed_chars x true xs ys q = refl
mixed_chars x false xs ys q = absurd (cc)

none_left : (x y : Bool) (xs : List ℕ) (ys : List ℤ) → (not x && not y) ≡ false → is_chars (cond (y && not x) (chars xs) (numbers ys)) ≡ false → x ≡ true
none_left true y xs ys p q = refl
none_left false true xs ys p q = absurd (cc)
none_left false false xs ys p q = absurd (cc)

none_right : (x y : Bool) (xs : List ℤ) (ys : List ℕ) → is_chars (cond (y && not x) (numbers xs) (chars ys)) ≡ false → y ≡ true
none_right x true xs ys q = refl
none_right x false xs ys q = absurd (cc)

either_chars : (test : Bool) (xs ys : List ℕ) → is_chars (cond test (chars xs) (chars ys)) ≡ false → ⊥
either_chars true xs ys e = cc
either_chars false xs ys e = cc

either_numbers : (test : Bool) (xs ys : List ℤ) → is_chars (cond test (numbers xs) (numbers ys)) ≡ true → ⊥
either_numbers true xs ys e = cc
either_numbers false xs ys e = cc

-- the characters are all items of both, where the join has characters
pub chars_of_both : (a b : PlainItems) → kinds_clash a b ≡ false → is_chars (kind_giver a b) ≡ true → (length (chars_in a) ≡ item_count a) × (length (chars_in b) ≡ item_count b)
chars_of_both (numbers xs) (numbers ys) p q = absurd (either_numbers (length ys == 0 && not (length xs == 0)) xs ys q)
chars_of_both (numbers xs) (chars ys) p q = let none = same_number (length xs) 0 (mixed_numbers (length xs == 0) (length ys == 0) xs ys p q) in (sym none, refl)
chars_of_both (chars xs) (numbers ys) p q = let none = same_number (length ys) 0 (mixed_chars (length xs == 0) (length ys == 0) xs ys q) in (refl, sym none)
chars_of_both (chars xs) (chars ys) p q = (refl, refl)

-- and the numbers, where it has numbers
pub numbers_of_both : (a b : PlainItems) → kinds_clash a b ≡ false → is_chars (kind_giver a b) ≡ false → (length (numbers_in a) ≡ item_count a) × (length (numbers_in b) ≡ item_count b)
numbers_of_both (numbers xs) (numbers ys) p q = (refl, refl)
numbers_of_both (numbers xs) (chars ys) p q = let none = same_number (length ys) 0 (none_right (length xs == 0) (length ys == 0) xs ys q) in (refl, sym none)
numbers_of_both (chars xs) (numbers ys) p q = let none = same_number (length xs) 0 (none_left (length xs == 0) (length ys == 0) xs ys p q) in (sym none, refl)
numbers_of_both (chars xs) (chars ys) p q = absurd (either_chars (length ys == 0 && not (length xs == 0)) xs ys q)

-- a join of the same lists
pub same_join : {T : Type 0} (fill : T) (x y u v : List T) (shape : List ℕ) (axis k l m n : ℕ) → x ≡ u → y ≡ v → k ≡ m → l ≡ n
    → moved_list fill (x ++ y) (element_count shape) (λ place. Some (catenated_place (split_at shape axis) (length x) (length y) k l place))
    ≡ moved_list fill (u ++ v) (element_count shape) (λ place. Some (catenated_place (split_at shape axis) (length u) (length v) m n place))
same_join fill x y u v shape axis k l m n p q r s = rw (p, q, r, s) refl

same_source : {T : Type 0} (fill : T) (list : List T) (shape axes : List ℕ) (axis m n p q s t : ℕ) → shape ≡ axes → m ≡ p → n ≡ q
    → moved_list fill list (element_count shape) (λ place. Some (catenated_place (split_at shape axis) m n s t place))
    ≡ moved_list fill list (element_count axes) (λ place. Some (catenated_place (split_at axes axis) p q s t place))
same_source fill list shape axes axis m n p q s t d e f = rw (d, e, f) refl

pub catenated_chars : (a b : PlainArray) (axis : ℕ) (shape : List ℕ) (fill : ℕ) (list : List ℕ) → fill ≡ blank → shape ≡ catenated_shape a b axis → kinds_clash a.items b.items ≡ false
    → is_chars (kind_giver a.items b.items) ≡ true
    → list ≡ moved_list fill (chars_in a.items ++ chars_in b.items) (element_count shape)
    (λ place. Some (catenated_place (split_at shape axis) (length (chars_in a.items)) (length (chars_in b.items)) (span_of a.shape (catenated_rank a b) axis) (span_of b.shape (catenated_rank a b) axis) place))
    → chars list ≡ (catenated a b axis).items
catenated_chars a b axis shape fill list f s clash kind is =
    let counts = chars_of_both a.items b.items clash kind in
    let whole : List ℕ = catenated_shape a b axis in
    let source : ℕ → Option ℕ = λ place. Some (catenated_place (split_at whole axis) (item_count a.items) (item_count b.items) (span_of a.shape (catenated_rank a b) axis) (span_of b.shape (catenated_rank a b) axis) place) in
    ap chars (is ∙ ap (λ (n : ℕ). moved_list n (chars_in a.items ++ chars_in b.items) (element_count shape) (λ place. Some (catenated_place (split_at shape axis) (length (chars_in a.items)) (length (chars_in b.items)) (span_of a.shape (catenated_rank a b) axis) (span_of b.shape (catenated_rank a b) axis) place))) f
    ∙ same_source blank (chars_in a.items ++ chars_in b.items) shape whole axis (length (chars_in a.items)) (length (chars_in b.items)) (item_count a.items) (item_count b.items) _ _ s counts.0 counts.1)
    ∙ sym (ap (λ (t : Bool). moved_items (cond t (chars (chars_in a.items ++ chars_in b.items)) (numbers (numbers_in a.items ++ numbers_in b.items))) (element_count whole) source) kind)

pub catenated_numbers : (a b : PlainArray) (axis : ℕ) (shape : List ℕ) (list : List ℤ) → shape ≡ catenated_shape a b axis → kinds_clash a.items b.items ≡ false
    → is_chars (kind_giver a.items b.items) ≡ false
    → list ≡ moved_list (pos 0) (numbers_in a.items ++ numbers_in b.items) (element_count shape)
    (λ place. Some (catenated_place (split_at shape axis) (length (numbers_in a.items)) (length (numbers_in b.items)) (span_of a.shape (catenated_rank a b) axis) (span_of b.shape (catenated_rank a b) axis) place))
    → numbers list ≡ (catenated a b axis).items
catenated_numbers a b axis shape list s clash kind is =
    let counts = numbers_of_both a.items b.items clash kind in
    let whole : List ℕ = catenated_shape a b axis in
    let source : ℕ → Option ℕ = λ place. Some (catenated_place (split_at whole axis) (item_count a.items) (item_count b.items) (span_of a.shape (catenated_rank a b) axis) (span_of b.shape (catenated_rank a b) axis) place) in
    ap numbers (is ∙ same_source (pos 0) (numbers_in a.items ++ numbers_in b.items) shape whole axis (length (numbers_in a.items)) (length (numbers_in b.items)) (item_count a.items) (item_count b.items) _ _ s counts.0 counts.1)
    ∙ sym (ap (λ (t : Bool). moved_items (cond t (chars (chars_in a.items ++ chars_in b.items)) (numbers (numbers_in a.items ++ numbers_in b.items))) (element_count whole) source) kind)
