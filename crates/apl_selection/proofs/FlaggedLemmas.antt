-- Items of a vector whose flags are 1.
use Rattle.std.proofs.Common.{◌≡◌, ℕ, zero, suc, ◌+◌, ◌-◌, ◌<◌, ◌≤◌, ◌==◌, ℤ, pos, Bool, true, false, cond, List, [], ◌∷◌, ◌++◌, map, Option, Some, None, Ok, is_some, length, get_or, refl, sym, ap, subst, ◌∙◌, arith}
use Rattle.std.proofs.lemmas.List.{get_or_default, get_or-map, length-append, length-map, map-append, same_lists}
use Rattle.std.proofs.lemmas.List.FromFn.{get_or-map-range_with_len}
use Rattle.apl_arrays.specs.declared.array.ShapeFault.{ShapeFault}
use Rattle.apl_arrays.specs.declared.way.Way.{Way}
use Rattle.apl_arrays.specs.Array.{PlainArray, PlainItems, IsArray, numbers, chars, element_count, item_count, numbers_in}
use Rattle.apl_arrays.specs.Glyph.{blank}
use Rattle.apl_arrays.specs.Number.{is_one}
use Rattle.apl_arrays.specs.Shape.{shape_fault}
use Rattle.apl_arrays.proofs.Shapes.{what_fits_has_no_fault}
use Rattle.apl_items.specs.declared.shapes.Split.{Split}
use Rattle.apl_items.specs.Along.{source_along, source_at}
use Rattle.apl_items.specs.Answers.{Faults, first_report}
use Rattle.apl_items.specs.Axis.{lacks_axis}
use Rattle.apl_items.specs.Extension.{number_at, place_in}
use Rattle.apl_items.specs.Moves.{item_or, moved_list}
use Rattle.apl_items.specs.Shapes.{along_of, inner_of, outer_of, place_along, split_at}
use Rattle.apl_items.proofs.MoveLemmas.{length-moved_list}
use Rattle.apl_items.proofs.ShapeLemmas.{along_of_place, element_count-cons, inner_of_place, outer_of_place}
use Rattle.apl_selection.specs.Compression.{compress_faults, compress_of, items_at, kept_of, kept_places, list_at}
use Rattle.apl_selection.specs.Listing.{listed, listed_of, listed_shape, meant_axis, meant_length, vector_shape}
use Rattle.apl_selection.specs.Vectors.{as_vector}
use Rattle.apl_selection.proofs.CompressLemmas.{few_kept, kept_more, kept_yes, one_more_kept}
use Rattle.apl_selection.proofs.FaultLemmas.{answer_fits, lone_place, nothing_is_wrong}
use Rattle.apl_selection.proofs.FlagLaws.{axis_inside}
use Rattle.apl_selection.proofs.JoinLaws.{vector_fits}
use Rattle.apl_selection.proofs.MoveLemmas.{array_of}

-- the flag of a place
pub flag_at : (flags : List ℤ) (place : ℕ) → place < length flags → number_at flags place ≡ get_or flags place (pos 0)
flag_at flags place below = ap (λ (k : ℕ). get_or flags k (pos 0)) (lone_place (length flags) place below)

-- so is its test
pub flag_test : (flags : List ℤ) (place : ℕ) (one : Bool) → place < length flags → one ≡ is_one (get_or flags place (pos 0)) → one ≡ is_one (number_at flags place)
flag_test flags place one below e = e ∙ sym (ap is_one (flag_at flags place below))

-- ---- how many are kept

-- no fewer of more places
kept_longer : (flags : List ℤ) (long n k : ℕ) → length (kept_of flags long n) ≤ length (kept_of flags long (n + k))
kept_longer flags long n zero =
    let same : n ≡ n + 0 = omega arith in
    let e = ap (λ (m : ℕ). length (kept_of flags long m)) same in omega arith
kept_longer flags long n (suc k) =
    let before = kept_longer flags long n k in
    let test = is_one (number_at flags (n + k)) in
    let more : List (Option ℕ) = map (λ place. Some (place_in long place)) (cond test ((n + k) ∷ []) []) in
    let e = ap (λ (xs : List (Option ℕ)). length xs) (kept_more flags long (n + k) test refl) in
    let sum = length-append (kept_of flags long (n + k)) more in
    let next : (n + k) + 1 ≡ n + suc k = omega arith in
    let at = ap (λ (m : ℕ). length (kept_of flags long m)) next in omega arith

-- where one more is kept there is room for it
pub room_for_kept : (flags : List ℤ) (long n made count : ℕ) (one : Bool) → made ≡ length (kept_of flags long n) → n < length flags → one ≡ is_one (number_at flags n) → one ≡ true
    → count ≡ length (kept_of flags long (length flags)) → made < count
room_for_kept flags long n made count one so_far below test e all =
    let here = one_more_kept flags long n made one so_far test e in
    let rest = kept_longer flags long (n + 1) (length flags - (n + 1)) in
    let end : (n + 1) + (length flags - (n + 1)) ≡ length flags = omega arith in
    let at = ap (λ (m : ℕ). length (kept_of flags long m)) end in omega arith

-- ---- one item more

pub list_more : {T : Type 0} (fill : T) (list : List T) (flags : List ℤ) (n : ℕ) (before : List T) (item : T) (one : Bool) → before ≡ list_at fill list (kept_of flags (length flags) n)
    → length flags ≡ length list → item ≡ get_or list n item → n < length flags → one ≡ is_one (number_at flags n) → one ≡ true → before ++ item ∷ [] ≡ list_at fill list (kept_of flags (length flags) (n + 1))
list_more {T} fill list flags n before item one so_far each is below test e =
    let long = length flags in
    let here : item ≡ item_or fill list (Some (place_in long n)) =
    is ∙ get_or_default list n item fill (omega arith) ∙ ap (λ (k : ℕ). get_or list k fill) (sym (lone_place long n below)) in
    ap (λ (xs : List T). xs ++ item ∷ []) so_far ∙ ap (λ (x : T). list_at fill list (kept_of flags long n) ++ x ∷ []) here
    ∙ sym (map-append (item_or fill list) (kept_of flags long n) (Some (place_in long n) ∷ []))
    ∙ ap (list_at fill list) (kept_yes flags long n (kept_of flags long n) (place_in long n) one refl refl test e)

-- ---- items along the axis of a vector

straight : (long : ℕ) (entry : Option ℕ) (split : Split) → split.inner ≡ 1 → source_at split long 0 0 entry ≡ entry
straight long None split e = refl
straight long (Some place) split e = ap Some (rw e (omega arith))

along_vector : (kept : List (Option ℕ)) (long place : ℕ) → place < length kept → source_along (split_at (length kept ∷ []) 0) long (λ line along. get_or kept along None) place ≡ get_or kept place None
along_vector kept long place below =
    let split : Split = split_at (length kept ∷ []) 0 in
    let e : place_along split 0 place 0 ≡ place = omega arith in
    let row : outer_of split place ≡ 0 = ap (outer_of split) (sym e) ∙ outer_of_place split 0 place 0 below (omega arith) in
    let column : along_of split place ≡ place = ap (along_of split) (sym e) ∙ along_of_place split 0 place 0 below (omega arith) in
    let item : inner_of split place ≡ 0 = ap (inner_of split) (sym e) ∙ inner_of_place split 0 place 0 (omega arith) in
    ap (λ (o : ℕ). source_at split long o (inner_of split place) (get_or kept (along_of split place) None)) row
    ∙ ap (λ (i : ℕ). source_at split long 0 i (get_or kept (along_of split place) None)) item
    ∙ ap (λ (a : ℕ). source_at split long 0 0 (get_or kept a None)) column ∙ straight long (get_or kept place None) split refl

vector_moved : {T : Type 0} (fill : T) (list : List T) (kept : List (Option ℕ)) (long : ℕ)
    → moved_list fill list (element_count (length kept ∷ [])) (source_along (split_at (length kept ∷ []) 0) long (λ line along. get_or kept along None)) ≡ list_at fill list kept
vector_moved {T} fill list kept long =
    let source : ℕ → Option ℕ = source_along (split_at (length kept ∷ []) 0) long (λ line along. get_or kept along None) in
    let at : ℕ → T = λ place. item_or fill list (source place) in
    let count : ℕ = element_count (length kept ∷ []) in
    let many : count ≡ length kept = element_count-cons (length kept) [] ∙ omega arith in
    let made = length-moved_list fill list count source in
    let size = length-map kept (item_or fill list) in
    same_lists (moved_list fill list count source) (list_at fill list kept) (omega arith)
    (λ k d low. get_or-map-range_with_len at 0 count k k d (omega arith) (omega arith) ∙ ap (item_or fill list) (along_vector kept long k (omega arith))
    ∙ sym (get_or-map (item_or fill list) kept k None d (omega arith)))

listed_by : (shape : List ℕ) (items : PlainItems) (kept : List (Option ℕ)) → length shape ≡ 1 → listed (vector_shape shape) items 0 kept ≡ as_vector (items_at items kept)
listed_by [] items kept e = absurd (omega arith)
listed_by (n ∷ []) (numbers list) kept e =
    ap (λ (xs : List ℤ). array_of (length kept ∷ []) (numbers xs)) (vector_moved (pos 0) list kept n)
    ∙ ap (λ (m : ℕ). array_of (m ∷ []) (numbers (list_at (pos 0) list kept))) (sym (length-map kept (item_or (pos 0) list)))
listed_by (n ∷ []) (chars list) kept e =
    ap (λ (xs : List ℕ). array_of (length kept ∷ []) (chars xs)) (vector_moved blank list kept n)
    ∙ ap (λ (m : ℕ). array_of (m ∷ []) (chars (list_at blank list kept))) (sym (length-map kept (item_or blank list)))
listed_by (n ∷ m ∷ shape) items kept e = absurd (omega arith)

-- no list of places along a vector is too long
fits_by : (shape : List ℕ) (kept : List (Option ℕ)) → length shape ≡ 1 → length kept ≤ 16384 → shape_fault (listed_shape (vector_shape shape) 0 kept) ≡ None
fits_by [] kept e few = absurd (omega arith)
fits_by (n ∷ []) kept e few = what_fits_has_no_fault (length kept ∷ []) (vector_fits (length kept) few)
fits_by (n ∷ m ∷ shape) kept e few = absurd (omega arith)

length_by : (shape : List ℕ) → length shape ≡ 1 → get_or (vector_shape shape) 0 0 ≡ element_count shape
length_by [] e = absurd (omega arith)
length_by (n ∷ []) e = let count = element_count-cons n [] in omega arith
length_by (n ∷ m ∷ shape) e = absurd (omega arith)

one_axis_by : (shape : List ℕ) → length shape ≡ 1 → length (vector_shape shape) ≡ 1
one_axis_by [] e = refl
one_axis_by (n ∷ []) e = refl
one_axis_by (n ∷ m ∷ shape) e = absurd (omega arith)

either : (test : Bool) (n : ℕ) → cond test n n ≡ n
either true n = refl
either false n = refl

same_kept : (flags : List ℤ) → kept_places flags (length flags) ≡ kept_of flags (length flags) (length flags)
same_kept flags = ap (kept_of flags (length flags)) (either (length flags == 1) (length flags))

-- what is kept of few flags is few
pub short_kept : (flags : List ℤ) → length flags ≤ 16384 → length (kept_of flags (length flags) (length flags)) ≤ 16384
short_kept flags few = subst (λ (xs : List (Option ℕ)). length xs ≤ 16384) (same_kept flags) (few_kept flags (length flags) few few)

-- a vector compressed by as many flags
pub compress_vector : (a b : PlainArray) (way : Way) (axis : Option ℤ) (flags : List ℤ) (items : PlainItems) → None ≡ first_report (compress_faults a b way axis) → flags ≡ numbers_in a.items → items ≡ b.items → IsArray b
    → length b.shape ≡ 1 → length flags ≡ item_count items → compress_of a b way axis ≡ Ok (as_vector (items_at items (kept_of flags (length flags) (length flags))))
compress_vector a b way axis flags items none f i array one each =
    let faults : Faults = compress_faults a b way axis in
    let sound = nothing_is_wrong faults none in
    let rank = one_axis_by b.shape one in
    let inside : meant_axis b way axis < length (vector_shape b.shape) = axis_inside (length (vector_shape b.shape)) way axis (omega arith) (ap (λ (n : ℕ). lacks_axis n axis) (rank ∙ sym one) ∙ sound.index) in
    let first : meant_axis b way axis ≡ 0 = omega arith in
    let count = ap item_count i in
    let whole : get_or (vector_shape b.shape) 0 0 ≡ length flags = length_by b.shape one ∙ array.whole ∙ sym (each ∙ count) in
    let long : meant_length b way axis ≡ length flags = ap (λ (n : ℕ). get_or (vector_shape b.shape) n 0) first ∙ whole in
    let few : length flags ≤ 16384 = subst (λ (n : ℕ). n ≤ 16384) (array.whole ∙ sym (each ∙ count)) array.fits.elements in
    let all : kept_places (numbers_in a.items) (meant_length b way axis) ≡ kept_of flags (length flags) (length flags) =
    ap (λ (xs : List ℤ). kept_places xs (meant_length b way axis)) (sym f) ∙ ap (kept_places flags) long ∙ same_kept flags in
    let kept : List (Option ℕ) = kept_of flags (length flags) (length flags) in
    let short = short_kept flags few in
    ap (λ (n : ℕ). listed_of faults b n (kept_places (numbers_in a.items) (meant_length b way axis))) first ∙ ap (listed_of faults b 0) all
    ∙ answer_fits faults (listed (vector_shape b.shape) b.items 0 kept) (is_some (shape_fault (listed_shape (vector_shape b.shape) 0 kept))) none (ap (λ (o : Option ShapeFault). is_some o) (fits_by b.shape kept one short))
    ∙ ap (λ (made : PlainArray). Ok made) (listed_by b.shape b.items kept one) ∙ ap (λ (xs : PlainItems). Ok (as_vector (items_at xs kept))) (sym i)
