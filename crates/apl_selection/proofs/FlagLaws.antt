-- Flags that are all 1 keep all; as many places are kept as there are ones; what flags spread they keep.
use Rattle.std.proofs.Common.{◌≡◌, ℕ, ℤ, zero, suc, pos, ◌+◌, ◌-◌, ◌*◌, ◌<◌, ◌≤◌, ◌==◌, ◌&&◌, ◌||◌, Bool, true, false, not, cond, nat_lt, List, [], ◌∷◌, ◌++◌, map, Option, Some, None, Ok, is_some, length, take, drop, get_or, set, replicate, unsigned_abs, refl, sym, ap, subst, ◌∙◌, arith}
use Rattle.std.specs.Int.{is_negative}
use Rattle.std.specs.List.{filter, list_any, range_with_len}
use Rattle.std.proofs.lemmas.Bool.Decides.{nat_tests}
use Rattle.std.proofs.lemmas.List.{append-nil, drop-set-lt, get_or_append_left, get_or_at, get_or-replicate, get_or-set_same, length-append, length-replicate, length-set, set-get_or, set-set, take_all, take-set}
use Rattle.std.proofs.lemmas.List.FromFn.{get_or-map-range_with_len, length-map-range_with_len}
use Rattle.apl_arrays.specs.declared.way.Way.{Way}
use Rattle.apl_arrays.specs.declared.way.Way.TheVariants.{Last, First}
use Rattle.apl_arrays.specs.Array.{PlainArray, PlainItems, IsArray, numbers, element_count, is_chars, item_count, numbers_in}
use Rattle.apl_arrays.specs.Shape.{shape_fault}
use Rattle.apl_arrays.proofs.Shapes.{what_fits_has_no_fault}
use Rattle.apl_items.specs.declared.shapes.Split.{Split}
use Rattle.apl_items.specs.Along.{source_along, source_at}
use Rattle.apl_items.specs.Answers.{Faults, first_report, no_faults}
use Rattle.apl_items.specs.Axis.{axis_of, lacks_axis}
use Rattle.apl_items.specs.Extension.{number_at, place_in}
use Rattle.apl_items.specs.Moves.{moved, moved_items}
use Rattle.apl_items.specs.Places.{places}
use Rattle.apl_items.specs.Shapes.{along_of, inner_of, outer_of, split_at, stride_of}
use Rattle.apl_items.proofs.ShapeLemmas.{place_along_parts, split_count_lem}
use Rattle.apl_selection.specs.Compression.{compress_faults, compress_of, flagged_length, flags_meet, kept_places, kept_of}
use Rattle.apl_selection.specs.Expansion.{expand_faults, expand_of, ones, spread, spread_at}
use Rattle.apl_arrays.specs.Number.{is_one}
use Rattle.apl_selection.specs.Flags.{is_no_flag, lacks_flags}
use Rattle.apl_selection.specs.Listing.{listed, listed_shape, meant_axis, meant_length, vector_shape}
use Rattle.apl_selection.specs.Vectors.{as_vector}
use Rattle.apl_selection.proofs.BackLemmas.{LeadsBack, back_along, back_items, items_stay, parts_within, split_of}
use Rattle.apl_selection.proofs.CompressLemmas.{kept_more}
use Rattle.apl_selection.proofs.ExpandLemmas.{ones_no, ones_yes}
use Rattle.apl_selection.proofs.FaultLemmas.{answer_fits, count_of_numbers, lone_place, nothing_is_wrong, or_first}
use Rattle.apl_selection.proofs.GivenBackLemmas.{no_report}
use Rattle.apl_selection.proofs.IndexLemmas.{number_inside}
use Rattle.apl_selection.proofs.MoveLemmas.{array_of, same_map, same_moved}

-- ---- the axis

-- the axis that is meant is one of the array's
pub axis_inside : (rank : ℕ) (way : Way) (axis : Option ℤ) → 0 < rank → lacks_axis rank axis ≡ false → axis_of rank way axis < rank
axis_inside rank Last None some e = omega arith
axis_inside rank First None some e = some
axis_inside rank way (Some k) some e =
    number_inside (is_negative k) (unsigned_abs k == 0) (nat_lt rank (unsigned_abs k)) (unsigned_abs k) rank (unsigned_abs k - 1) e refl refl refl

own_axes : (shape : List ℕ) → 0 < length shape → vector_shape shape ≡ shape
own_axes shape some = let test : (length shape == 0) ≡ false = not_zero (length shape) some in rw test refl
  where
    not_zero : (n : ℕ) → 0 < n → (n == 0) ≡ false
    not_zero n h = grind (arith, nat_tests)

-- a shape with another length of an axis, seen from it
split_relength : (shape : List ℕ) (axis n : ℕ) → axis < length shape → split_at (set shape axis n) axis ≡ split_of (element_count (take axis shape)) n (stride_of shape axis)
split_relength shape axis n inside =
    ap (λ (xs : List ℕ). split_of (element_count xs) (get_or (set shape axis n) axis 0) (element_count (drop (axis + 1) (set shape axis n)))) (take-set shape axis n)
    ∙ ap (λ (m : ℕ). split_of (element_count (take axis shape)) m (element_count (drop (axis + 1) (set shape axis n)))) (get_or-set_same shape axis n 0 inside)
    ∙ ap (λ (xs : List ℕ). split_of (element_count (take axis shape)) n (element_count xs)) (drop-set-lt (axis + 1) shape axis n (omega arith))

-- ---- nothing is wrong with flags

no_flag_fault : (rank lacks fit wrong : Bool) → rank ≡ false → lacks ≡ false → fit ≡ true → wrong ≡ false
    → None ≡ first_report (record no_faults { bad_rank = rank; bad_length = not lacks && not fit; bad_domain = wrong; bad_index = lacks })
no_flag_fault rank lacks fit wrong p q r s = rw (p, q, r, s) refl

same_count : (m n : ℕ) → m ≡ n → (m == n) ≡ true
same_count m n e = grind (arith, nat_tests)

meet_same : (m n : ℕ) → m ≡ n → flags_meet m n ≡ true
meet_same m n e = by_tests (m == 1) (n == 1) (m == n) (same_count m n e)
  where
    by_tests : (one lone same : Bool) → same ≡ true → (one || lone || same) ≡ true
    by_tests true lone same e = refl
    by_tests false true same e = refl
    by_tests false false same e = e

-- ---- how many places are kept

own_number : (flags : List ℤ) (n : ℕ) → n < length flags → number_at flags n ≡ get_or flags n (pos 0)
own_number flags n below = ap (λ (k : ℕ). get_or flags k (pos 0)) (lone_place (length flags) n below)

own_length : (flags long : ℕ) → flags ≡ long → flagged_length flags long ≡ long
own_length flags long e = by_test (flags == 1)
  where
    by_test : (one : Bool) → cond one long flags ≡ long
    by_test true = refl
    by_test false = e

one_kept : (flags : List ℤ) (long n : ℕ) → n < length flags → is_one (get_or flags n (pos 0)) ≡ true → kept_of flags long (n + 1) ≡ kept_of flags long n ++ Some (place_in long n) ∷ []
one_kept flags long n below one = kept_more flags long n true (ap is_one (own_number flags n below) ∙ one)

none_kept : (flags : List ℤ) (long n : ℕ) → n < length flags → is_one (get_or flags n (pos 0)) ≡ false → kept_of flags long (n + 1) ≡ kept_of flags long n
none_kept flags long n below none = kept_more flags long n false (ap is_one (own_number flags n below) ∙ none) ∙ append-nil (kept_of flags long n)

-- of the first places as many are kept as their flags are 1
kept_count : (flags : List ℤ) (long n : ℕ) → n ≤ length flags → length (kept_of flags long n) ≡ ones (take n flags)
kept_count flags long zero h = refl
kept_count flags long (suc n) h =
    ap (λ (k : ℕ). length (kept_of flags long k)) next ∙ by_flag (kept_count flags long n (omega arith)) (is_one (get_or flags n (pos 0))) refl ∙ ap (λ (k : ℕ). ones (take k flags)) (sym next)
  where
    next : suc n ≡ n + 1
    next = omega arith

    by_flag : length (kept_of flags long n) ≡ ones (take n flags) → (one : Bool) → is_one (get_or flags n (pos 0)) ≡ one → length (kept_of flags long (n + 1)) ≡ ones (take (n + 1) flags)
    by_flag so_far true e =
        ap (λ (xs : List (Option ℕ)). length xs) (one_kept flags long n (omega arith) e) ∙ length-append (kept_of flags long n) (Some (place_in long n) ∷ [])
        ∙ ones_yes flags n true (length (kept_of flags long n)) (omega arith) (sym e) refl so_far
    by_flag so_far false e =
        ap (λ (xs : List (Option ℕ)). length xs) (none_kept flags long n (omega arith) e) ∙ ones_no flags n false (length (kept_of flags long n)) (omega arith) (sym e) refl so_far

-- of all places as many as there are ones
ones_kept : (flags : List ℤ) (long : ℕ) → length flags ≡ long → length (kept_places flags long) ≡ ones flags
ones_kept flags long e =
    ap (λ (n : ℕ). length (kept_of flags long n)) (own_length (length flags) long e) ∙ kept_count flags long long (omega arith) ∙ ap ones (take_all long flags (omega arith))

-- a compression is as long along its axis as there are ones
pub kept_shape : (a b made : PlainArray) (way : Way) (axis : Option ℤ) → item_count a.items ≡ meant_length b way axis → compress_of a b way axis ≡ Ok made
    → made.shape ≡ set (vector_shape b.shape) (meant_axis b way axis) (ones (numbers_in a.items))
kept_shape a b made way axis many e =
    let used : ℕ = meant_axis b way axis in
    let list : List (Option ℕ) = kept_places (numbers_in a.items) (meant_length b way axis) in
    let faults : Faults = record (compress_faults a b way axis) { too_large = is_some (shape_fault (listed_shape (vector_shape b.shape) used list)) } in
    let done = no_report (first_report faults) (listed (vector_shape b.shape) b.items used list) made e in
    let sound = nothing_is_wrong faults (sym done.0) in
    let counted = count_of_numbers a.items (or_first (is_chars a.items) (list_any is_no_flag (numbers_in a.items)) sound.domain) in
    ap (λ (x : PlainArray). x.shape) (sym done.1)
    ∙ ap (set (vector_shape b.shape) used) (ones_kept (numbers_in a.items) (meant_length b way axis) (sym counted ∙ many))

-- ---- flags that are all 1

no_other : (n : ℕ) → list_any is_no_flag (replicate n (pos 1)) ≡ false
no_other zero = refl
no_other (suc n) = no_other n

all_pass : (test : ℕ → Bool) (first n : ℕ) → ((k : ℕ) → k < n → test (first + k) ≡ true) → filter test (range_with_len first n) ≡ range_with_len first n
all_pass test first zero pass = refl
all_pass test first (suc n) pass =
    let at : first ≡ first + 0 = omega arith in
    let here : test first ≡ true = ap test at ∙ pass 0 (omega arith) in
    rw here (ap (λ (xs : List ℕ). first ∷ xs) (all_pass test (first + 1) n
    (λ k h. let next : (first + 1) + k ≡ first + suc k = omega arith in ap test next ∙ pass (suc k) (omega arith))))

all_kept : (n : ℕ) → kept_places (replicate n (pos 1)) n ≡ map (λ place. Some place) (places n)
all_kept n =
    let flags : List ℤ = replicate n (pos 1) in
    let many = length-replicate {A = ℤ} n (pos 1) in
    let test : ℕ → Bool = λ place. is_one (number_at flags place) in
    ap (λ (k : ℕ). kept_of flags n k) (own_length (length flags) n many)
    ∙ ap (map (λ place. Some (place_in n place))) (all_pass test 0 n (λ k h.
    let at : 0 + k ≡ k = omega arith in
    ap test at ∙ ap is_one (own_number flags k (omega arith) ∙ get_or-replicate n k (pos 1) (pos 0) h)))
    ∙ same_map (λ place. Some (place_in n place)) (λ place. Some place) n (λ k h. ap (λ (p : ℕ). Some p) (lone_place n k h))

-- where each place along an axis is listed in its turn, all stay
all_listed : (source : List ℕ) (items : PlainItems) (axis : ℕ) (list : List (Option ℕ)) → axis < length source → element_count source ≡ item_count items → length list ≡ get_or source axis 0
    → ((along : ℕ) → along < get_or source axis 0 → get_or list along None ≡ Some along) → listed source items axis list ≡ array_of source items
all_listed source items axis list inside whole long each =
    let told : ℕ → ℕ → Option ℕ = λ line along. get_or list along None in
    let split = split_at source axis in
    let count = split_count_lem source axis inside in
    ap (λ (xs : List ℕ). moved xs items (source_along (split_at xs axis) (get_or source axis 0) told)) (ap (set source axis) long ∙ set-get_or source axis 0)
    ∙ ap (array_of source) (ap (λ (n : ℕ). moved_items items n (source_along split (get_or source axis 0) told)) whole
    ∙ same_moved items (item_count items) (source_along split (get_or source axis 0) told) (λ place. Some place) (λ place h.
    let parts = parts_within split place (omega (arith, count, whole)) in
    ap (source_at split (get_or source axis 0) (outer_of split place) (inner_of split place)) (each (along_of split place) parts.1)
    ∙ ap (λ (p : ℕ). Some p) (place_along_parts split place))
    ∙ items_stay items)

pub ones_keep_all : (b : PlainArray) (way : Way) (axis : Option ℤ) → IsArray b → 0 < length b.shape → lacks_axis (length b.shape) axis ≡ false
    → compress_of (as_vector (numbers (replicate (meant_length b way axis) (pos 1)))) b way axis ≡ Ok b
ones_keep_all b way axis array some has =
    let source : List ℕ = vector_shape b.shape in
    let own : source ≡ b.shape = own_axes b.shape some in
    let used : ℕ = meant_axis b way axis in
    let n : ℕ = meant_length b way axis in
    let a : PlainArray = as_vector (numbers (replicate n (pos 1))) in
    let list : List (Option ℕ) = kept_places (replicate n (pos 1)) n in
    let told : list ≡ map (λ place. Some place) (places n) = all_kept n in
    let rank = ap (λ (xs : List ℕ). length xs) own in
    let inside : used < length source = axis_inside (length source) way axis (omega arith) (ap (λ (m : ℕ). lacks_axis m axis) rank ∙ has) in
    let long : length list ≡ n = ap (λ (xs : List (Option ℕ)). length xs) told ∙ length-map-range_with_len (λ place. Some place) 0 n in
    let shape : listed_shape source used list ≡ b.shape = ap (set source used) long ∙ set-get_or source used 0 ∙ own in
    let stays = all_listed source b.items used list inside (ap element_count own ∙ array.whole) long
    (λ along h. ap (λ (xs : List (Option ℕ)). get_or xs along None) told ∙ get_or-map-range_with_len (λ place. Some place) 0 n along along None h (omega arith)) in
    answer_fits (compress_faults a b way axis) (listed source b.items used list) (is_some (shape_fault (listed_shape source used list)))
    (no_flag_fault false (lacks_axis (length b.shape) axis) (flags_meet (length (replicate n (pos 1))) n) (list_any is_no_flag (replicate n (pos 1))) refl has
    (meet_same (length (replicate n (pos 1))) n (length-replicate {A = ℤ} n (pos 1))) (no_other n))
    (ap (λ (xs : List ℕ). is_some (shape_fault xs)) shape ∙ ap is_some (what_fits_has_no_fault b.shape array.fits))
    ∙ ap (λ (x : PlainArray). Ok x) (stays ∙ ap (λ (xs : List ℕ). array_of xs b.items) own)

-- ---- what is spread is kept

-- a place that is kept, as many places on as ones before it
record IsNth (flags : List ℤ) (long count at : ℕ) : Type 0 where
  pub place : ℕ
  pub below : place < count
  pub listed : get_or (kept_of flags long count) at None ≡ Some (place_in long place)
  pub one : is_one (get_or flags place (pos 0)) ≡ true
  pub before : ones (take place flags) ≡ at

nth_more : (flags : List ℤ) (long n at : ℕ) → get_or (kept_of flags long (n + 1)) at None ≡ get_or (kept_of flags long n) at None → IsNth flags long n at → IsNth flags long (n + 1) at
nth_more flags long n at same nth = record { place = nth.place; below = let low = nth.below in omega arith; listed = same ∙ nth.listed; one = nth.one; before = nth.before }

nth_by_place : (flags : List ℤ) (long n at : ℕ) → n < length flags → at < ones (take (n + 1) flags) → is_one (get_or flags n (pos 0)) ≡ true → (at < ones (take n flags) → IsNth flags long n at)
    → (first : Bool) → nat_lt at (ones (take n flags)) ≡ first → IsNth flags long (n + 1) at
nth_by_place flags long n at h low e earlier true t =
    let few : at < ones (take n flags) = grind (arith, nat_tests) in
    let count = kept_count flags long n (omega arith) in
    nth_more flags long n at
    (ap (λ (xs : List (Option ℕ)). get_or xs at None) (one_kept flags long n h e) ∙ get_or_append_left (kept_of flags long n) (Some (place_in long n) ∷ []) None at (omega arith))
    (earlier few)
nth_by_place flags long n at h low e earlier false t =
    let past : ones (take n flags) ≤ at = grind (arith, nat_tests) in
    let more = ones_yes flags n true (ones (take n flags)) h (sym e) refl refl in
    let last : ones (take n flags) ≡ at = omega arith in
    let count = kept_count flags long n (omega arith) in record {
      place = n;
      below = omega arith;
      listed = ap (λ (xs : List (Option ℕ)). get_or xs at None) (one_kept flags long n h e) ∙ get_or_at (kept_of flags long n) (Some (place_in long n)) [] None at (count ∙ last);
      one = e;
      before = last;
    }

nth_by_flag : (flags : List ℤ) (long n at : ℕ) → n < length flags → at < ones (take (n + 1) flags) → (at < ones (take n flags) → IsNth flags long n at)
    → (one : Bool) → is_one (get_or flags n (pos 0)) ≡ one → IsNth flags long (n + 1) at
nth_by_flag flags long n at h low earlier true e = nth_by_place flags long n at h low e earlier (nat_lt at (ones (take n flags))) refl
nth_by_flag flags long n at h low earlier false e =
    let more = ones_no flags n false (ones (take n flags)) h (sym e) refl refl in
    nth_more flags long n at (ap (λ (xs : List (Option ℕ)). get_or xs at None) (none_kept flags long n h e)) (earlier (omega arith))

nth_kept : (flags : List ℤ) (long count at : ℕ) → count ≤ length flags → at < ones (take count flags) → IsNth flags long count at
nth_kept flags long zero at h low = absurd (omega arith)
nth_kept flags long (suc n) at h low =
    let next : suc n ≡ n + 1 = omega arith in
    subst (λ (k : ℕ). IsNth flags long k at) (sym next)
    (nth_by_flag flags long n at (omega arith) (subst (λ (k : ℕ). at < ones (take k flags)) next low) (nth_kept flags long n at (omega arith)) (is_one (get_or flags n (pos 0))) refl)

-- the place that a flag's place was spread from is the one that is kept there
leads_back : (flags : List ℤ) (long line along : ℕ) → ones flags ≡ long → along < long
    → LeadsBack (length flags) (λ line along. get_or (spread flags long) along None) (λ line along. get_or (kept_places flags (length flags)) along None) line along
leads_back flags long line along all below =
    let wide : ℕ = length flags in
    let whole = ap ones (take_all wide flags (omega arith)) in
    let nth = nth_kept flags wide wide along (omega arith) (omega arith) in
    let p : ℕ = nth.place in record {
      at = p;
      below = nth.below;
      there = ap (λ (n : ℕ). get_or (kept_of flags wide n) along None) (own_length wide wide refl) ∙ nth.listed ∙ ap (λ (n : ℕ). Some n) (lone_place wide p nth.below);
      back = get_or-map-range_with_len (spread_at flags long) 0 wide p p None nth.below (omega arith)
          ∙ ap (λ (b : Bool). cond b (Some (place_in long (ones (take p flags)))) None) nth.one
          ∙ ap (λ (n : ℕ). Some (place_in long n)) nth.before ∙ ap (λ (n : ℕ). Some n) (lone_place long along below);
    }

-- items that are spread and kept stay
spread_and_kept : (source : List ℕ) (items : PlainItems) (axis : ℕ) (flags : List ℤ) → axis < length source → element_count source ≡ item_count items → ones flags ≡ get_or source axis 0
    → listed (listed_shape source axis (spread flags (get_or source axis 0))) (listed source items axis (spread flags (get_or source axis 0))).items axis (kept_places flags (length flags)) ≡ array_of source items
spread_and_kept source items axis flags inside whole all =
    let long : ℕ = get_or source axis 0 in
    let wide : ℕ = length flags in
    let away : List (Option ℕ) = spread flags long in
    let back : List (Option ℕ) = kept_places flags wide in
    let between : List ℕ = set source axis (length away) in
    let rows : ℕ = element_count (take axis source) in
    let inners : ℕ = stride_of source axis in
    let first : ℕ → ℕ → Option ℕ = λ line along. get_or away along None in
    let again : ℕ → ℕ → Option ℕ = λ line along. get_or back along None in
    let many : length away ≡ wide = length-map-range_with_len (spread_at flags long) 0 wide in
    let shape : set between axis (length back) ≡ source =
    set-set source axis (length away) (length back) ∙ ap (set source axis) (ones_kept flags wide refl ∙ all) ∙ set-get_or source axis 0 in
    let width : get_or between axis 0 ≡ wide = get_or-set_same source axis (length away) 0 inside ∙ many in
    let split : split_at between axis ≡ split_of rows wide inners = split_relength source axis (length away) inside ∙ ap (λ (n : ℕ). split_of rows n inners) many in
    let rank = length-set source axis (length away) in
    let places_between : element_count between ≡ rows * wide * inners =
    sym (split_count_lem between axis (omega arith)) ∙ ap (λ (s : Split). s.outer * s.along * s.inner) split in
    let count = split_count_lem source axis inside in
    let there : PlainItems = moved_items items (element_count between) (source_along (split_at between axis) long first) in
    ap (λ (xs : List ℕ). moved xs there (source_along (split_at xs axis) (get_or between axis 0) again)) shape
    ∙ ap (λ (n : ℕ). moved source there (source_along (split_at source axis) n again)) width
    ∙ ap (array_of source)
    (ap (λ (n : ℕ). moved_items (moved_items items n (source_along (split_at between axis) long first)) (element_count source) (source_along (split_at source axis) wide again)) places_between
    ∙ ap (λ (s : Split). moved_items (moved_items items (rows * wide * inners) (source_along s long first)) (element_count source) (source_along (split_at source axis) wide again)) split
    ∙ back_items items (rows * wide * inners) (element_count source) (source_along (split_of rows wide inners) long first) (source_along (split_of rows long inners) wide again) (sym whole)
    (λ place h. back_along rows inners wide long first again (λ line along low. leads_back flags long line along all low) place (omega (arith, count))))

pub spread_is_kept : (a b spread_out : PlainArray) (way : Way) (axis : Option ℤ) → IsArray b → 0 < length b.shape → ones (numbers_in a.items) ≡ meant_length b way axis
    → expand_of a b way axis ≡ Ok spread_out → compress_of a spread_out way axis ≡ Ok b
spread_is_kept a b spread_out way axis array some all e =
    let source : List ℕ = vector_shape b.shape in
    let own : source ≡ b.shape = own_axes b.shape some in
    let used : ℕ = meant_axis b way axis in
    let long : ℕ = meant_length b way axis in
    let flags : List ℤ = numbers_in a.items in
    let away : List (Option ℕ) = spread flags long in
    let made : PlainArray = listed source b.items used away in
    let faults : Faults = record (expand_faults a b way axis) { too_large = is_some (shape_fault (listed_shape source used away)) } in
    let done = no_report (first_report faults) made spread_out e in
    let sound = nothing_is_wrong faults (sym done.0) in
    let rank = ap (λ (xs : List ℕ). length xs) own in
    let inside : used < length source = axis_inside (length source) way axis (omega arith) (ap (λ (n : ℕ). lacks_axis n axis) rank ∙ sound.index) in
    let counted = count_of_numbers a.items (or_first (is_chars a.items) (list_any is_no_flag flags) sound.domain) in
    let relength = length-set source used (length away) in
    let many : length away ≡ length flags = length-map-range_with_len (spread_at flags long) 0 (length flags) in
    let own_made : vector_shape made.shape ≡ made.shape = own_axes made.shape (omega arith) in
    let used_again : meant_axis made way axis ≡ used = ap (λ (xs : List ℕ). axis_of (length xs) way axis) own_made ∙ ap (λ (n : ℕ). axis_of n way axis) relength in
    let long_again : meant_length made way axis ≡ length flags =
    ap (λ (n : ℕ). get_or (vector_shape made.shape) n 0) used_again ∙ ap (λ (xs : List ℕ). get_or xs used 0) own_made ∙ get_or-set_same source used (length away) 0 inside ∙ many in
    let list : List (Option ℕ) = kept_places flags (meant_length made way axis) in
    let kept_again : list ≡ kept_places flags (length flags) = ap (kept_places flags) long_again in
    let same_listed : listed (vector_shape made.shape) made.items (meant_axis made way axis) list ≡ b =
    ap (λ (xs : List ℕ). listed xs made.items (meant_axis made way axis) list) own_made
    ∙ ap (λ (n : ℕ). listed made.shape made.items n list) used_again
    ∙ ap (listed made.shape made.items used) kept_again
    ∙ spread_and_kept source b.items used flags inside (ap element_count own ∙ array.whole) all
    ∙ ap (λ (xs : List ℕ). array_of xs b.items) own in
    ap (λ (x : PlainArray). compress_of a x way axis) (sym done.1)
    ∙ answer_fits (compress_faults a made way axis) (listed (vector_shape made.shape) made.items (meant_axis made way axis) list)
    (is_some (shape_fault (listed_shape (vector_shape made.shape) (meant_axis made way axis) list)))
    (no_flag_fault (nat_lt 1 (length a.shape)) (lacks_axis (length made.shape) axis) (flags_meet (item_count a.items) (meant_length made way axis)) (lacks_flags a) sound.rank
    (ap (λ (n : ℕ). lacks_axis n axis) (relength ∙ rank) ∙ sound.index) (meet_same (item_count a.items) (meant_length made way axis) (counted ∙ sym long_again)) sound.domain)
    (ap (λ (x : PlainArray). is_some (shape_fault x.shape)) same_listed ∙ ap is_some (what_fits_has_no_fault b.shape array.fits))
    ∙ ap (λ (x : PlainArray). Ok x) same_listed
