-- Places whose flag is 1.
use Rattle.std.proofs.Common.{◌≡◌, ℕ, ℤ, zero, suc, ◌+◌, ◌<◌, ◌≤◌, ◌==◌, ◌&&◌, ◌||◌, Bool, true, false, not, cond, List, [], ◌∷◌, ◌++◌, map, Option, Some, None, length, get_or, refl, sym, ap, subst, ◌∙◌, arith}
use Rattle.std.specs.List.{filter, list_any, range_with_len}
use Rattle.std.proofs.lemmas.Bool.Decides.{nat_tests}
use Rattle.std.proofs.lemmas.List.{append-nil, length-map, length_push, map-append}
use Rattle.std.proofs.lemmas.List.Elements.{filter-append}
use Rattle.std.proofs.lemmas.List.FromFn.{length-range_with_len}
use Rattle.std.proofs.lemmas.List.Sums.{count_by-le-length, length-filter}
use Rattle.apl_arrays.specs.declared.way.Way.{Way}
use Rattle.apl_arrays.specs.Array.{PlainArray, is_chars, item_count, numbers_in}
use Rattle.apl_items.specs.Answers.{first_report}
use Rattle.apl_items.specs.Extension.{number_at, place_in}
use Rattle.apl_items.specs.Places.{places}
use Rattle.apl_items.specs.Axis.{lacks_axis}
use Rattle.apl_selection.specs.Compression.{compress_faults, compress_of, flagged_length, flags_meet, kept_places, kept_of}
use Rattle.apl_arrays.specs.Number.{is_one}
use Rattle.apl_selection.specs.Flags.{is_no_flag}
use Rattle.apl_selection.specs.Listing.{listed_of, meant_axis, meant_length, vector_shape}
use Rattle.apl_selection.proofs.FaultLemmas.{count_of_numbers, nothing_is_wrong, or_first}
use Rattle.apl_selection.proofs.PickLemmas.{some_same}

places_more : (first n : ℕ) → range_with_len first (n + 1) ≡ range_with_len first n ++ (first + n) ∷ []
places_more first zero = let e : first ≡ first + zero = omega arith in ap (λ (k : ℕ). k ∷ []) e
places_more first (suc n) =
    let one : suc n + 1 ≡ suc (n + 1) = omega arith in
    let e : (first + 1) + n ≡ first + suc n = omega arith in
    ap (range_with_len first) one ∙ ap (λ (xs : List ℕ). first ∷ xs) (places_more (first + 1) n ∙ ap (λ (k : ℕ). range_with_len (first + 1) n ++ k ∷ []) e)

pub kept_more : (flags : List ℤ) (long n : ℕ) (one : Bool) → is_one (number_at flags n) ≡ one
    → kept_of flags long (n + 1) ≡ kept_of flags long n ++ map (λ place. Some (place_in long place)) (cond one (n ∷ []) [])
kept_more flags long n one e =
    let test : ℕ → Bool = λ place. is_one (number_at flags place) in
    let entry : ℕ → Option ℕ = λ place. Some (place_in long place) in
    let start : 0 + n ≡ n = omega arith in
    ap (λ (xs : List ℕ). map entry (filter test xs)) (places_more 0 n ∙ ap (λ (k : ℕ). places n ++ k ∷ []) start)
    ∙ ap (map entry) (filter-append test (places n) (n ∷ [])) ∙ map-append entry (filter test (places n)) (cond (test n) (n ∷ []) [])
    ∙ ap (λ (b : Bool). kept_of flags long n ++ map entry (cond b (n ∷ []) [])) e

-- one place more, whose flag is 1
pub kept_yes : (flags : List ℤ) (long n : ℕ) (before : List (Option ℕ)) (place : ℕ) (one : Bool) → before ≡ kept_of flags long n → place ≡ place_in long n → one ≡ is_one (number_at flags n) → one ≡ true
    → before ++ Some place ∷ [] ≡ kept_of flags long (n + 1)
kept_yes flags long n before place one so_far is test e =
    ap (λ (xs : List (Option ℕ)). xs ++ Some place ∷ []) so_far ∙ ap (λ (m : ℕ). kept_of flags long n ++ Some m ∷ []) is ∙ sym (kept_more flags long n true (sym test ∙ e))

-- or is not
pub kept_no : (flags : List ℤ) (long n : ℕ) (before : List (Option ℕ)) (one : Bool) → before ≡ kept_of flags long n → one ≡ is_one (number_at flags n) → one ≡ false → before ≡ kept_of flags long (n + 1)
kept_no flags long n before one so_far test e = so_far ∙ sym (append-nil (kept_of flags long n)) ∙ sym (kept_more flags long n false (sym test ∙ e))

-- so many are kept, and one more where the flag is 1
pub one_more_kept : (flags : List ℤ) (long n total : ℕ) (one : Bool) → total ≡ length (kept_of flags long n) → one ≡ is_one (number_at flags n) → one ≡ true → total + 1 ≡ length (kept_of flags long (n + 1))
one_more_kept flags long n total one so_far test e =
    ap (λ (m : ℕ). m + 1) so_far ∙ sym (length_push (kept_of flags long n) (Some (place_in long n))) ∙ ap (λ (xs : List (Option ℕ)). length xs) (sym (kept_more flags long n true (sym test ∙ e)))

pub no_more_kept : (flags : List ℤ) (long n total : ℕ) (one : Bool) → total ≡ length (kept_of flags long n) → one ≡ is_one (number_at flags n) → one ≡ false → total ≡ length (kept_of flags long (n + 1))
no_more_kept flags long n total one so_far test e = so_far ∙ ap (λ (xs : List (Option ℕ)). length xs) (kept_no flags long n (kept_of flags long n) one refl test e)

-- ---- what is kept is on the axis

-- where what is left of a list is on the axis, so is the list with one entry more, if that is
inside_more : (test : Bool) (long first : ℕ) (rest : List ℕ) → place_in long first < long
    → ((along place : ℕ) → get_or (map (λ at. Some (place_in long at)) rest) along None ≡ Some place → place < long) → (along place : ℕ)
    → get_or (map (λ at. Some (place_in long at)) (cond test (first ∷ rest) rest)) along None ≡ Some place → place < long
inside_more true long first rest low others zero place e = subst (λ (m : ℕ). m < long) (some_same (place_in long first) place e) low
inside_more true long first rest low others (suc along) place e = others along place e
inside_more false long first rest low others along place e = others along place e

inside_from : (test : ℕ → Bool) (long first n : ℕ) → ((k : ℕ) → k < n → place_in long (first + k) < long) → (along place : ℕ)
    → get_or (map (λ at. Some (place_in long at)) (filter test (range_with_len first n))) along None ≡ Some place → place < long
inside_from test long first zero low along place e = absurd (cc)
inside_from test long first (suc n) low along place e =
    let same : first + 0 ≡ first = omega arith in
    let here = subst (λ (m : ℕ). place_in long m < long) same (low 0 (omega arith)) in
    inside_more (test first) long first (filter test (range_with_len (first + 1) n)) here
    (inside_from test long (first + 1) n (λ k h. let next : first + suc k ≡ (first + 1) + k = omega arith in subst (λ (m : ℕ). place_in long m < long) next (low (suc k) (omega arith)))) along place e

on_by : (lone one same : Bool) (flags long place : ℕ) → (long == 1) ≡ lone → (flags == 1) ≡ one → (flags == long) ≡ same → (one ≡ false → lone ≡ false → same ≡ true)
    → place < cond one long flags → cond lone 0 place < long
on_by true one same flags long place p q r meet low = grind (arith, nat_tests)
on_by false true same flags long place p q r meet low = low
on_by false false true flags long place p q r meet low = grind (arith, nat_tests)
on_by false false false flags long place p q r meet low = absurd (let never = meet refl refl in cc)

-- flags and an axis of which one extends, or as many of both
pub record Meets (flags long : ℕ) : Type 0 where
  pub same : (flags == 1) ≡ false → (long == 1) ≡ false → (flags == long) ≡ true

pub kept_inside : (flags : List ℤ) (long : ℕ) → Meets (length flags) long → (along place : ℕ) → get_or (kept_places flags long) along None ≡ Some place → place < long
kept_inside flags long meets along place e =
    inside_from (λ at. is_one (number_at flags at)) long 0 (flagged_length (length flags) long)
    (λ k h. let same : k ≡ 0 + k = omega arith in
    subst (λ (m : ℕ). place_in long m < long) same (on_by (long == 1) (length flags == 1) (length flags == long) (length flags) long k refl refl refl meets.same h)) along place e

meet_by : (lacks one lone same : Bool) → lacks ≡ false → (not lacks && not (one || lone || same)) ≡ false → one ≡ false → lone ≡ false → same ≡ true
meet_by true one lone same p q r s = absurd (cc)
meet_by false true lone same p q r s = absurd (cc)
meet_by false false true same p q r s = absurd (cc)
meet_by false false false true p q r s = refl
meet_by false false false false p q r s = absurd (cc)

pub meet_from : (lacks : Bool) (flags long count : ℕ) → count ≡ flags → lacks ≡ false → (not lacks && not (flags_meet count long)) ≡ false → Meets flags long
meet_from lacks flags long count e p q = record {
  same = subst (λ (n : ℕ). (n == 1) ≡ false → (long == 1) ≡ false → (n == long) ≡ true) e (meet_by lacks (count == 1) (long == 1) (count == long) p q);
}

few_flagged : (one : Bool) (flags long : ℕ) → flags ≤ 16384 → long ≤ 16384 → cond one long flags ≤ 16384
few_flagged true flags long p q = q
few_flagged false flags long p q = p

-- what is kept is not too long for an axis
pub few_kept : (flags : List ℤ) (long : ℕ) → length flags ≤ 16384 → long ≤ 16384 → length (kept_places flags long) ≤ 16384
few_kept flags long p q =
    let test : ℕ → Bool = λ place. is_one (number_at flags place) in
    let count = flagged_length (length flags) long in
    let some = length-map (filter test (places count)) (λ place. Some (place_in long place)) in
    omega (arith, some, length-filter test (places count), count_by-le-length test (places count), length-range_with_len 0 count, few_flagged (length flags == 1) (length flags) long p q)

-- ---- a compression on which nothing is reported

-- what is kept is on the axis that is meant
pub kept_inside_of : (a b : PlainArray) (way : Way) (axis : Option ℤ) (used long : ℕ) (flags : List ℤ) (list : List (Option ℕ)) → None ≡ first_report (compress_faults a b way axis)
    → flags ≡ numbers_in a.items → long ≡ meant_length b way axis → used ≡ meant_axis b way axis → list ≡ kept_places flags long
    → (along place : ℕ) → get_or list along None ≡ Some place → place < get_or (vector_shape b.shape) used 0
kept_inside_of a b way axis used long flags list none f l u is along place e =
    let sound = nothing_is_wrong (compress_faults a b way axis) none in
    let counted = count_of_numbers a.items (or_first (is_chars a.items) (list_any is_no_flag (numbers_in a.items)) sound.domain) in
    let meets = meet_from (lacks_axis (length b.shape) axis) (length (numbers_in a.items)) (meant_length b way axis) (item_count a.items) counted sound.index sound.long in
    let all : list ≡ kept_places (numbers_in a.items) (meant_length b way axis) = is ∙ ap (λ (xs : List ℤ). kept_places xs long) f ∙ ap (kept_places (numbers_in a.items)) l in
    subst (λ (n : ℕ). place < get_or (vector_shape b.shape) n 0) (sym u)
    (kept_inside (numbers_in a.items) (meant_length b way axis) meets along place (ap (λ (xs : List (Option ℕ)). get_or xs along None) (sym all) ∙ e))

-- its answer, by what is kept
pub compress_is : (a b : PlainArray) (way : Way) (axis : Option ℤ) (used long : ℕ) (flags : List ℤ) (list : List (Option ℕ))
    → flags ≡ numbers_in a.items → long ≡ meant_length b way axis → used ≡ meant_axis b way axis → list ≡ kept_places flags long
    → listed_of (compress_faults a b way axis) b used list ≡ compress_of a b way axis
compress_is a b way axis used long flags list f l u is =
    let all : list ≡ kept_places (numbers_in a.items) (meant_length b way axis) = is ∙ ap (λ (xs : List ℤ). kept_places xs long) f ∙ ap (kept_places (numbers_in a.items)) l in
    ap (λ (n : ℕ). listed_of (compress_faults a b way axis) b n list) u ∙ ap (listed_of (compress_faults a b way axis) b (meant_axis b way axis)) all
