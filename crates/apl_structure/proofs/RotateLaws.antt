-- What was turned is turned back by the opposite numbers.
use Rattle.std.proofs.Common.{◌≡◌, ℕ, ℤ, zero, suc, pos, negsuc, ◌+◌, ◌-◌, ◌*◌, ◌/◌, ◌%◌, ◌<◌, ◌≤◌, ◌==◌, ◌&&◌, Bool, true, false, not, cond, nat_lt, List, [], ◌∷◌, Option, Some, Ok, length, map, slice_index, get_or, unsigned_abs, refl, sym, ap, ◌∙◌, arith}
use Rattle.std.specs.Prelude.{neg_ℤ}
use Rattle.std.specs.Int.{int_rem_euclid}
use Rattle.std.proofs.lemmas.Bool.Decides.{nat_tests}
use Rattle.std.proofs.lemmas.List.{length-map}
use Rattle.std.proofs.lemmas.Nat.{div-add-mod', mod-mul-add, mod_below}
use Rattle.apl_arrays.specs.declared.report.Report.{Report}
use Rattle.apl_arrays.specs.declared.way.Way.{Way}
use Rattle.apl_arrays.specs.Array.{PlainArray, IsArray, is_chars, item_count, numbers_in}
use Rattle.apl_items.specs.Answers.{Faults, first_report, no_faults, unless}
use Rattle.apl_items.specs.Axis.{axis_of, lacks_axis}
use Rattle.apl_items.specs.Extension.{number_at, place_in}
use Rattle.apl_selection.proofs.BackLemmas.{LeadsBack}
use Rattle.apl_selection.proofs.FaultLemmas.{count_of_numbers, nothing_is_wrong}
use Rattle.apl_selection.proofs.FlagLaws.{axis_inside}
use Rattle.apl_selection.proofs.GivenBackLemmas.{no_report}
use Rattle.apl_structure.specs.Rotation.{fits_around, rotate_faults, rotate_of, rotated, turn_of, turned_from, wrapped}
use Rattle.apl_structure.specs.StructureLaws.{opposite}
use Rattle.apl_structure.proofs.LawLemmas.{moved_back}
use Rattle.apl_structure.proofs.RotateLemmas.{some_axes}

-- ---- a number and its opposite turn an axis once round, or not at all

below_from_test : (m n : ℕ) → nat_lt m n ≡ true → m < n
below_from_test m n e = grind (arith, nat_tests)

past_from_test : (m n : ℕ) → nat_lt m n ≡ false → n ≤ m
past_from_test m n e = grind (arith, nat_tests)

test_below : (m n : ℕ) → m < n → nat_lt m n ≡ true
test_below m n h = grind (arith, nat_tests)

-- turns below the length of an axis that are together once round, or none
record AreOpposite (turn back long : ℕ) : Type 0 where
  pub first : turn < long
  pub second : back < long
  pub round : wrapped (turn + back) long ≡ 0

next_by : (n long : ℕ) (inside : Bool) → 0 < long → nat_lt (n % long + 1) long ≡ inside → suc n % long ≡ cond inside (n % long + 1) 0
next_by n long true some e =
    let low = below_from_test (n % long + 1) long e in
    let parts = div-add-mod' n long in
    let is : suc n ≡ n / long * long + (n % long + 1) = omega arith in
    ap (λ (m : ℕ). m % long) is ∙ mod-mul-add (n / long) long (n % long + 1) low
next_by n long false some e =
    let past = past_from_test (n % long + 1) long e in
    let low = mod_below n long some in
    let parts = div-add-mod' n long in
    let full : n % long + 1 ≡ long = omega arith in
    let is : suc n ≡ (n / long + 1) * long + 0 = omega arith in
    ap (λ (m : ℕ). m % long) is ∙ mod-mul-add (n / long + 1) long 0 some

wrapped_whole : (long : ℕ) → 0 < long → wrapped long long ≡ 0
wrapped_whole long some = let test : nat_lt long long ≡ false = grind (arith, nat_tests) in rw test (omega arith)

wrapped_none : (long : ℕ) → 0 < long → wrapped 0 long ≡ 0
wrapped_none long some = rw (test_below 0 long some) refl

round_by : (n long : ℕ) (inside : Bool) → 0 < long → nat_lt (n % long + 1) long ≡ inside → wrapped (suc n % long + (long - 1 - n % long)) long ≡ 0
round_by n long true some e =
    let low = below_from_test (n % long + 1) long e in
    let next = next_by n long true some e in
    let total : suc n % long + (long - 1 - n % long) ≡ long = omega arith in
    ap (λ (m : ℕ). wrapped m long) total ∙ wrapped_whole long some
round_by n long false some e =
    let past = past_from_test (n % long + 1) long e in
    let next = next_by n long false some e in
    let total : suc n % long + (long - 1 - n % long) ≡ 0 = omega arith in
    ap (λ (m : ℕ). wrapped m long) total ∙ wrapped_none long some

turns_by : (number : ℤ) (long : ℕ) → 0 < long → AreOpposite (unsigned_abs (int_rem_euclid number (pos long))) (unsigned_abs (int_rem_euclid (neg_ℤ number) (pos long))) long
turns_by (pos zero) long some =
    let start : 0 ≡ 0 * long + 0 = omega arith in
    let none : 0 % long ≡ 0 = ap (λ (m : ℕ). m % long) start ∙ mod-mul-add 0 long 0 some in record {
      first = omega arith;
      second = omega arith;
      round = ap (λ (m : ℕ). wrapped (m + m) long) none ∙ wrapped_none long some;
    }
turns_by (pos (suc n)) long some = record { first = mod_below (suc n) long some; second = omega arith; round = round_by n long (nat_lt (n % long + 1) long) some refl }
turns_by (negsuc n) long some =
    let turned : long - 1 - n % long + suc n % long ≡ suc n % long + (long - 1 - n % long) = omega arith in record {
      first = omega arith;
      second = mod_below (suc n) long some;
      round = ap (λ (m : ℕ). wrapped m long) turned ∙ round_by n long (nat_lt (n % long + 1) long) some refl;
    }

turns_of : (number : ℤ) (long : ℕ) → 0 < long → AreOpposite (turn_of number long) (turn_of (neg_ℤ number) long) long
turns_of number long some = let test : (long == 0) ≡ false = not_zero long some in rw test (turns_by number long some)
  where
    not_zero : (n : ℕ) → 0 < n → (n == 0) ≡ false
    not_zero n h = grind (arith, nat_tests)

-- ---- away and back

wrapped_below : (turn long along : ℕ) (inside : Bool) → nat_lt (along + turn) long ≡ inside → along < long → turn < long → cond inside (along + turn) (along + turn - long) < long
wrapped_below turn long along true e p q = below_from_test (along + turn) long e
wrapped_below turn long along false e p q = let past = past_from_test (along + turn) long e in omega arith

turned_is : (turn long along : ℕ) → along < long → turn < long → turned_from turn long along ≡ Some (wrapped (along + turn) long)
turned_is turn long along p q =
    rw (test_below along long p, test_below (wrapped (along + turn) long) long (wrapped_below turn long along (nat_lt (along + turn) long) refl p q)) refl

back_by : (turn back long along : ℕ) (first round again : Bool) → nat_lt (along + back) long ≡ first → nat_lt (turn + back) long ≡ round
    → nat_lt (cond first (along + back) (along + back - long) + turn) long ≡ again → along < long → turn < long → back < long → cond round (turn + back) (turn + back - long) ≡ 0
    → cond again (cond first (along + back) (along + back - long) + turn) (cond first (along + back) (along + back - long) + turn - long) ≡ along
back_by turn back long along true true true f r a p q s e = omega arith
back_by turn back long along true true false f r a p q s e = let past = past_from_test (along + back + turn) long a in omega arith
back_by turn back long along true false true f r a p q s e = let past = past_from_test (turn + back) long r in let low = below_from_test (along + back + turn) long a in omega arith
back_by turn back long along true false false f r a p q s e = let past = past_from_test (turn + back) long r in omega arith
back_by turn back long along false true true f r a p q s e = let past = past_from_test (along + back) long f in omega arith
back_by turn back long along false true false f r a p q s e = let past = past_from_test (along + back) long f in omega arith
back_by turn back long along false false true f r a p q s e = let past = past_from_test (along + back) long f in let over = past_from_test (turn + back) long r in omega arith
back_by turn back long along false false false f r a p q s e =
    let past = past_from_test (along + back) long f in let over = past_from_test (turn + back) long r in let last = past_from_test (along + back - long + turn) long a in omega arith

leads_back : (turn back long line along : ℕ) (first again : ℕ → ℕ → Option ℕ) → AreOpposite turn back long → along < long → ((at : ℕ) → first line at ≡ turned_from turn long at)
    → again line along ≡ turned_from back long along → LeadsBack long first again line along
leads_back turn back long line along first again turns low f g =
    let at : ℕ = wrapped (along + back) long in
    let inside = wrapped_below back long along (nat_lt (along + back) long) refl low turns.second in record {
      at = at;
      below = inside;
      there = g ∙ turned_is back long along low turns.second;
      back = f at ∙ turned_is turn long at inside turns.first
          ∙ ap (λ (n : ℕ). Some n)
          (back_by turn back long along (nat_lt (along + back) long) (nat_lt (turn + back) long) (nat_lt (wrapped (along + back) long + turn) long) refl refl refl low turns.first turns.second turns.round);
    }

-- ---- a rotation

opposite_at : (list : List ℤ) (place : ℕ) → get_or (map neg_ℤ list) place (pos 0) ≡ neg_ℤ (get_or list place (pos 0))
opposite_at [] place = refl
opposite_at (x ∷ xs) zero = refl
opposite_at (x ∷ xs) (suc place) = opposite_at xs place

opposite_number : (list : List ℤ) (line : ℕ) → number_at (map neg_ℤ list) line ≡ neg_ℤ (number_at list line)
opposite_number list line =
    ap (λ (n : ℕ). get_or (map neg_ℤ list) (place_in n line) (pos 0)) (length-map list neg_ℤ) ∙ opposite_at list (place_in (length list) line)

turned_back_on : (a b : PlainArray) (axis : ℕ) → IsArray b → axis < length b.shape → (length b.shape == 0) ≡ false → rotated (opposite a) (rotated a b axis) axis ≡ b
turned_back_on a b axis array inside some =
    let long : ℕ = slice_index b.shape axis in
    let first : ℕ → ℕ → Option ℕ = λ line along. turned_from (turn_of (number_at (numbers_in a.items) line) long) long along in
    let again : ℕ → ℕ → Option ℕ = λ line along. turned_from (turn_of (number_at (map neg_ℤ (numbers_in a.items)) line) long) long along in
    rw (some, some)
    (moved_back b axis first again array inside
    (λ line along h.
    leads_back (turn_of (number_at (numbers_in a.items) line) long) (turn_of (neg_ℤ (number_at (numbers_in a.items) line)) long) long line along first again
    (turns_of (number_at (numbers_in a.items) line) long (omega arith)) h (λ at. refl)
    (ap (λ (n : ℤ). turned_from (turn_of n long) long along) (opposite_number (numbers_in a.items) line))))

turned_back_by : (a b : PlainArray) (way : Way) (axis : Option ℤ) (is_scalar : Bool) → (length b.shape == 0) ≡ is_scalar → IsArray b → lacks_axis (length b.shape) axis ≡ false
    → rotated (opposite a) (rotated a b (axis_of (length b.shape) way axis)) (axis_of (length b.shape) way axis) ≡ b
turned_back_by a b way axis true e array has = rw (e, e) refl
turned_back_by a b way axis false e array has = turned_back_on a b (axis_of (length b.shape) way axis) array (axis_inside (length b.shape) way axis (some_axes (length b.shape) e) has) e

same_shape_by : (a b : PlainArray) (axis : ℕ) (is_scalar : Bool) → (length b.shape == 0) ≡ is_scalar → (rotated a b axis).shape ≡ b.shape
same_shape_by a b axis true e = rw e refl
same_shape_by a b axis false e = rw e refl

-- nothing is wrong with the opposite numbers either
same_faults : (a b c : PlainArray) (way : Way) (axis : Option ℤ) → is_chars a.items ≡ false → c.shape ≡ b.shape → rotate_faults (opposite a) c way axis ≡ rotate_faults a b way axis
same_faults a b c way axis kind shape =
    let told : ℕ → Bool → List ℕ → Faults = λ count letters axes. record no_faults {
      bad_rank = not (count == 1) && not (length a.shape + 1 == length axes);
      bad_length = not (count == 1) && not (lacks_axis (length axes) axis) && not (fits_around (axis_of (length axes) way axis) a.shape axes);
      bad_domain = letters;
      bad_index = lacks_axis (length axes) axis;
    } in
    ap (λ (n : ℕ). told n false c.shape) (length-map (numbers_in a.items) neg_ℤ ∙ sym (count_of_numbers a.items kind))
    ∙ ap (λ (letters : Bool). told (item_count a.items) letters c.shape) (sym kind) ∙ ap (told (item_count a.items) (is_chars a.items)) shape

pub turned_back : (a b turned : PlainArray) (way : Way) (axis : Option ℤ) → IsArray b → rotate_of a b way axis ≡ Ok turned → rotate_of (opposite a) turned way axis ≡ Ok b
turned_back a b turned way axis array e =
    let used : ℕ = axis_of (length b.shape) way axis in
    let done = no_report (first_report (rotate_faults a b way axis)) (rotated a b used) turned e in
    let sound = nothing_is_wrong (rotate_faults a b way axis) (sym done.0) in
    let shape : turned.shape ≡ b.shape = ap (λ (x : PlainArray). x.shape) (sym done.1) ∙ same_shape_by a b used (length b.shape == 0) refl in
    ap (λ (faults : Faults). unless (first_report faults) (rotated (opposite a) turned (axis_of (length turned.shape) way axis))) (same_faults a b turned way axis sound.domain shape)
    ∙ ap (λ (report : Option Report). unless report (rotated (opposite a) turned (axis_of (length turned.shape) way axis))) done.0
    ∙ ap (λ (axes : List ℕ). Ok (rotated (opposite a) turned (axis_of (length axes) way axis))) shape
    ∙ ap (λ (x : PlainArray). Ok (rotated (opposite a) x used)) (sym done.1)
    ∙ ap (λ (x : PlainArray). Ok x) (turned_back_by a b way axis (length b.shape == 0) refl array sound.index)
