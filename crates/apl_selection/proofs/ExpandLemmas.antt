-- Places spread over flags.
use Rattle.std.proofs.Common.{◌≡◌, ℕ, ℤ, pos, ◌+◌, ◌<◌, ◌≤◌, ◌==◌, ◌&&◌, ◌||◌, Bool, true, false, not, cond, nat_lt, List, [], ◌∷◌, ◌++◌, map, Option, Some, None, length, take, get_or, refl, sym, ap, subst, ◌∙◌, arith}
use Rattle.std.proofs.lemmas.Bool.Decides.{nat_tests}
use Rattle.std.proofs.lemmas.List.{get_or_past}
use Rattle.std.proofs.lemmas.List.FromFn.{get_or-map-range_with_len, length-map-range_with_len, map-range_with_len_more}
use Rattle.std.proofs.lemmas.List.Sums.{count_by_more_no, count_by_more_yes, sum_by-take-le}
use Rattle.apl_arrays.specs.declared.way.Way.{Way}
use Rattle.apl_arrays.specs.Array.{PlainArray, numbers_in}
use Rattle.apl_items.specs.Answers.{first_report}
use Rattle.apl_items.specs.Extension.{place_in}
use Rattle.apl_items.specs.Places.{places}
use Rattle.apl_items.specs.Axis.{lacks_axis}
use Rattle.apl_selection.specs.Expansion.{expand_faults, expand_of, ones, ones_meet, spread, spread_at}
use Rattle.apl_arrays.specs.Number.{is_one}
use Rattle.apl_selection.specs.Listing.{listed_of, meant_axis, meant_length, vector_shape}
use Rattle.apl_selection.proofs.FaultLemmas.{nothing_is_wrong, same_number}
use Rattle.apl_selection.proofs.PickLemmas.{some_same}

-- the entry of a flag that is 1
pub entry_yes : (flags : List ℤ) (long n count place : ℕ) (one : Bool) → one ≡ is_one (get_or flags n (pos 0)) → one ≡ true → count ≡ ones (take n flags) → place ≡ place_in long count
    → Some place ≡ spread_at flags long n
entry_yes flags long n count place one test e is at =
    let yes : is_one (get_or flags n (pos 0)) ≡ true = sym test ∙ e in
    rw yes (ap (λ (m : ℕ). Some m) (at ∙ ap (place_in long) is))

-- and of one that is not
pub entry_no : (flags : List ℤ) (long n : ℕ) (one : Bool) → one ≡ is_one (get_or flags n (pos 0)) → one ≡ false → None ≡ spread_at flags long n
entry_no flags long n one test e = let no : is_one (get_or flags n (pos 0)) ≡ false = sym test ∙ e in rw no refl

-- the entry of one flag more
pub spread_more : (flags : List ℤ) (long n : ℕ) (before : List (Option ℕ)) (entry : Option ℕ) → before ≡ map (spread_at flags long) (places n) → entry ≡ spread_at flags long n
    → before ++ entry ∷ [] ≡ map (spread_at flags long) (places (n + 1))
spread_more flags long n before entry so_far is =
    ap (λ (xs : List (Option ℕ)). xs ++ entry ∷ []) so_far ∙ ap (λ (o : Option ℕ). map (spread_at flags long) (places n) ++ o ∷ []) is
    ∙ sym (map-range_with_len_more (spread_at flags long) 0 n n (omega arith))

pub ones_yes : (flags : List ℤ) (n : ℕ) (one : Bool) (count : ℕ) → n < length flags → one ≡ is_one (get_or flags n (pos 0)) → one ≡ true → count ≡ ones (take n flags) → count + 1 ≡ ones (take (n + 1) flags)
ones_yes flags n one count h test e is = let more = count_by_more_yes is_one flags n (pos 0) h (sym test ∙ e) in omega arith

pub ones_no : (flags : List ℤ) (n : ℕ) (one : Bool) (count : ℕ) → n < length flags → one ≡ is_one (get_or flags n (pos 0)) → one ≡ false → count ≡ ones (take n flags) → count ≡ ones (take (n + 1) flags)
ones_no flags n one count h test e is = is ∙ sym (count_by_more_no is_one flags n (pos 0) h (sym test ∙ e))

-- ---- the places are on the axis

by_flag : (one lone : Bool) (count long place : ℕ) → (long == 1) ≡ lone → cond one (Some (cond lone 0 count)) None ≡ Some place → (one ≡ true → lone ≡ false → count < long) → place < long
by_flag true true count long place p e low = let is = some_same 0 place e in grind (arith, nat_tests)
by_flag true false count long place p e low = let is = some_same count place e in let small = low refl refl in omega arith
by_flag false lone count long place p e low = absurd (cc)

meet_by : (lacks lone same : Bool) → lacks ≡ false → (not lacks && not (lone || same)) ≡ false → lone ≡ false → same ≡ true
meet_by true lone same p q r = absurd (cc)
meet_by false true same p q r = absurd (cc)
meet_by false false true p q r = refl
meet_by false false false p q r = absurd (cc)

-- as many ones as places, where the axis does not extend
pub record Fills (flags : List ℤ) (long : ℕ) : Type 0 where
  pub same : (long == 1) ≡ false → ones flags ≡ long

pub fill_from : (lacks : Bool) (flags : List ℤ) (long : ℕ) → lacks ≡ false → (not lacks && not (ones_meet flags long)) ≡ false → Fills flags long
fill_from lacks flags long p q = record { same = λ lone. same_number (ones flags) long (meet_by lacks (long == 1) (ones flags == long) p q lone) }

fewer_before : (flags : List ℤ) (n : ℕ) → n < length flags → is_one (get_or flags n (pos 0)) ≡ true → ones (take n flags) < ones flags
fewer_before flags n h one =
    let more = count_by_more_yes is_one flags n (pos 0) h one in
    let all = sum_by-take-le (λ (flag : ℤ). cond (is_one flag) 1 0) flags (n + 1) in
    omega arith

below : (m n : ℕ) (test : Bool) → nat_lt m n ≡ test → test ≡ true → m < n
below m n test e t = grind (arith, nat_tests)

past : (m n : ℕ) (test : Bool) → nat_lt m n ≡ test → test ≡ false → n ≤ m
past m n test e t = grind (arith, nat_tests)

pub spread_inside : (flags : List ℤ) (long : ℕ) → Fills flags long → (along place : ℕ) → get_or (spread flags long) along None ≡ Some place → place < long
spread_inside flags long fills along place e = by_test (nat_lt along (length flags)) refl
  where
    by_test : (test : Bool) → nat_lt along (length flags) ≡ test → place < long
    by_test true t =
        let low = below along (length flags) true t refl in
        let at : get_or (spread flags long) along None ≡ spread_at flags long along = get_or-map-range_with_len (spread_at flags long) 0 (length flags) along along None low (omega arith) in
        by_flag (is_one (get_or flags along (pos 0))) (long == 1) (ones (take along flags)) long place refl (sym at ∙ e)
        (λ one lone. let fewer = fewer_before flags along low one in let all = fills.same lone in omega arith)
    by_test false t =
        let whole = length-map-range_with_len (spread_at flags long) 0 (length flags) in
        let high = past along (length flags) false t refl in
        let none : get_or (spread flags long) along None ≡ None = get_or_past (spread flags long) along None (omega arith) in
        absurd (cc)

-- there is a place, or none, for each flag
pub spread_count : (flags : List ℤ) (long : ℕ) → length (spread flags long) ≡ length flags
spread_count flags long = length-map-range_with_len (spread_at flags long) 0 (length flags)

pub few_spread : (flags : List ℤ) (long : ℕ) → length flags ≤ 16384 → length (spread flags long) ≤ 16384
few_spread flags long p = let whole = length-map-range_with_len (spread_at flags long) 0 (length flags) in omega arith

-- ---- an expansion on which nothing is reported

-- the places are on the axis that is meant
pub spread_inside_of : (a b : PlainArray) (way : Way) (axis : Option ℤ) (used long : ℕ) (flags : List ℤ) (list : List (Option ℕ)) → None ≡ first_report (expand_faults a b way axis)
    → flags ≡ numbers_in a.items → long ≡ meant_length b way axis → used ≡ meant_axis b way axis → list ≡ spread flags long
    → (along place : ℕ) → get_or list along None ≡ Some place → place < get_or (vector_shape b.shape) used 0
spread_inside_of a b way axis used long flags list none f l u is along place e =
    let sound = nothing_is_wrong (expand_faults a b way axis) none in
    let fills = fill_from (lacks_axis (length b.shape) axis) (numbers_in a.items) (meant_length b way axis) sound.index sound.long in
    let all : list ≡ spread (numbers_in a.items) (meant_length b way axis) = is ∙ ap (λ (xs : List ℤ). spread xs long) f ∙ ap (spread (numbers_in a.items)) l in
    subst (λ (n : ℕ). place < get_or (vector_shape b.shape) n 0) (sym u)
    (spread_inside (numbers_in a.items) (meant_length b way axis) fills along place (ap (λ (xs : List (Option ℕ)). get_or xs along None) (sym all) ∙ e))

-- its answer, by the places
pub expand_is : (a b : PlainArray) (way : Way) (axis : Option ℤ) (used long : ℕ) (flags : List ℤ) (list : List (Option ℕ))
    → flags ≡ numbers_in a.items → long ≡ meant_length b way axis → used ≡ meant_axis b way axis → list ≡ spread flags long
    → listed_of (expand_faults a b way axis) b used list ≡ expand_of a b way axis
expand_is a b way axis used long flags list f l u is =
    let all : list ≡ spread (numbers_in a.items) (meant_length b way axis) = is ∙ ap (λ (xs : List ℤ). spread xs long) f ∙ ap (spread (numbers_in a.items)) l in
    ap (λ (n : ℕ). listed_of (expand_faults a b way axis) b n list) u ∙ ap (listed_of (expand_faults a b way axis) b (meant_axis b way axis)) all
