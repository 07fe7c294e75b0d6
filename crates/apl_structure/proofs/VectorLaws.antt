-- Takes and drops of vectors are the first items or the last, or all but these.
use Rattle.std.proofs.Common.{◌≡◌, ℕ, ℤ, zero, suc, pos, negsuc, ◌+◌, ◌-◌, ◌*◌, ◌/◌, ◌<◌, ◌≤◌, Bool, true, false, cond, nat_le, nat_lt, List, [], ◌∷◌, ◌++◌, Option, Some, None, Ok, is_some, length, take, drop, replicate, get_or, unsigned_abs, option_map, refl, sym, ap, ◌∙◌, arith}
use Rattle.std.specs.Prelude.{neg_ℤ}
use Rattle.std.proofs.lemmas.Bool.Decides.{nat_tests}
use Rattle.std.proofs.lemmas.List.{append-nil, get_or-append_right, get_or_append_left, get_or-drop, get_or-replicate, get_or-take, length-append, length-drop, length-replicate, length-take, take-append-drop}
use Rattle.std.proofs.lemmas.List.FromFn.{fill_by_all}
use Rattle.apl_arrays.specs.Array.{PlainArray, PlainItems, IsArray, numbers, chars, element_count, item_count, scalar}
use Rattle.apl_arrays.specs.Glyph.{blank}
use Rattle.apl_arrays.specs.Shape.{shape_fault}
use Rattle.apl_arrays.proofs.Shapes.{what_fits_has_no_fault}
use Rattle.apl_items.specs.Axes.{added, source_by_axes}
use Rattle.apl_items.specs.Moves.{item_or, moved_items, moved_list}
use Rattle.apl_selection.specs.Catenation.{catenate_of}
use Rattle.apl_selection.specs.Picks.{picked, strided}
use Rattle.apl_selection.specs.Vectors.{as_vector}
use Rattle.apl_selection.proofs.FaultLemmas.{answer_fits}
use Rattle.apl_selection.proofs.JoinLaws.{chars_joined, numbers_joined, vector_fits}
use Rattle.apl_selection.proofs.MoveLemmas.{array_of, count_of_moved, same_moved}
use Rattle.apl_structure.specs.StructureLaws.{first_items, items_after, items_before, last_items}
use Rattle.apl_structure.specs.Taking.{axes_faults, drop_of, remaining_from, take_of, taken, taken_from}
use Rattle.apl_structure.proofs.LawLemmas.{not_negative, ok_same}

less : (m n : ℕ) → nat_lt m n ≡ true → m < n
less m n e = grind (arith, nat_tests)

not_less : (m n : ℕ) → nat_lt m n ≡ false → n ≤ m
not_less m n e = grind (arith, nat_tests)

is_less : (m n : ℕ) → m < n → nat_lt m n ≡ true
is_less m n h = grind (arith, nat_tests)

upto : (m n : ℕ) → nat_le m n ≡ true → m ≤ n
upto m n e = grind (arith, nat_tests)

not_upto : (m n : ℕ) → nat_le m n ≡ false → n < m
not_upto m n e = grind (arith, nat_tests)

-- ---- what is picked from a vector

-- the place that a rule picks
pick_of : (n long place : ℕ) (rule : ℕ → ℕ → Option ℕ) → source_by_axes (n ∷ []) (strided (long ∷ []) rule) place ≡ rule 0 place
pick_of n long place rule =
    let one : place / 1 ≡ place = omega arith in
    ap (λ (p : ℕ). added (option_map (λ at. at * 1) (rule 0 p)) (Some 0)) one ∙ alone (rule 0 place)
  where
    alone : (at : Option ℕ) → added (option_map (λ p. p * 1) at) (Some 0) ≡ at
    alone None = refl
    alone (Some p) = let same : p * 1 + 0 ≡ p = omega arith in ap (λ (k : ℕ). Some k) same

pub picked_on : (count long : ℕ) (items made : PlainItems) (rule : ℕ → ℕ → Option ℕ) → moved_items items count (rule 0) ≡ made → picked (count ∷ []) (long ∷ []) items rule ≡ array_of (count ∷ []) made
picked_on count long items made rule is =
    let one : 1 * count ≡ count = omega arith in
    ap (λ (n : ℕ). array_of (count ∷ []) (moved_items items n (source_by_axes (count ∷ []) (strided (long ∷ []) rule)))) one
    ∙ ap (array_of (count ∷ [])) (same_moved items count (source_by_axes (count ∷ []) (strided (long ∷ []) rule)) (rule 0) (λ place h. pick_of count long place rule) ∙ is)

picked_vector : (count long : ℕ) (items made : PlainItems) (rule : ℕ → ℕ → Option ℕ) → moved_items items count (rule 0) ≡ made → picked (count ∷ []) (long ∷ []) items rule ≡ as_vector made
picked_vector count long items made rule is =
    let all = sym (ap item_count is) ∙ count_of_moved items count (rule 0) in
    picked_on count long items made rule is ∙ ap (λ (n : ℕ). array_of (n ∷ []) made) (sym all)

-- ---- the first items

first_at : {T : Type 0} (fill : T) (list : List T) (count k : ℕ) → k < count → (inside : Bool) → nat_lt k (length list) ≡ inside
    → get_or (take count list ++ replicate (count - length list) fill) k fill ≡ item_or fill list (cond inside (Some k) None)
first_at fill list count k h true e =
    let low = less k (length list) e in
    let whole = length-take count list in
    get_or_append_left (take count list) (replicate (count - length list) fill) fill k (omega arith) ∙ get_or-take count list k fill h
first_at fill list count k h false e =
    let past = not_less k (length list) e in
    let whole : length (take count list) ≡ length list = let all = length-take count list in omega arith in
    get_or-append_right (take count list) (replicate (count - length list) fill) (length list) k fill whole past
    ∙ get_or-replicate (count - length list) (k - length list) fill fill (omega arith)

first_list : {T : Type 0} (fill : T) (list : List T) (count : ℕ) → moved_list fill list count (taken_from (pos count) (length list)) ≡ take count list ++ replicate (count - length list) fill
first_list {T} fill list count =
    let xs : List T = take count list ++ replicate (count - length list) fill in
    let front = length-take count list in
    let back = length-replicate {A = T} (count - length list) fill in
    let both = length-append (take count list) (replicate (count - length list) fill) in
    sym (fill_by_all (λ k. item_or fill list (taken_from (pos count) (length list) k)) xs count fill (omega arith)
    (λ k h. first_at fill list count k h (nat_lt k (length list)) refl ∙ sym (ap (item_or fill list) (told k))))
  where
    told : (k : ℕ) → taken_from (pos count) (length list) k ≡ cond (nat_lt k (length list)) (Some k) None
    told k = rw (not_negative count) refl

pub first_moved : (items : PlainItems) (count : ℕ) → moved_items items count (taken_from (pos count) (item_count items)) ≡ first_items count items
first_moved (numbers list) count = ap numbers (first_list (pos 0) list count)
first_moved (chars list) count = ap chars (first_list blank list count)

-- `N↑B`
pub take_first : (count : ℕ) (items : PlainItems) → count ≤ 16384 → take_of (scalar (pos count)) (as_vector items) ≡ Ok (as_vector (first_items count items))
take_first count items few =
    answer_fits (axes_faults (scalar (pos count)) (as_vector items)) (taken (scalar (pos count)) (as_vector items)) (is_some (shape_fault (count ∷ []))) refl
    (ap is_some (what_fits_has_no_fault (count ∷ []) (vector_fits count few)))
    ∙ ap (λ (x : PlainArray). Ok x) (picked_vector count (item_count items) items (first_items count items) (λ axis along. taken_from (pos count) (item_count items) along) (first_moved items count))

-- ---- the last items

-- as far from the end
unfoldable pub from_end : ℕ → ℕ → ℕ → Option ℕ
from_end count long along = cond (nat_le count (along + long)) (Some (along + long - count)) None

last_at : {T : Type 0} (fill : T) (list : List T) (count k : ℕ) → k < count → (enough : Bool) → nat_le count (k + length list) ≡ enough
    → get_or (replicate (count - length list) fill ++ drop (length list - count) list) k fill ≡ item_or fill list (cond enough (Some (k + length list - count)) None)
last_at {T} fill list count k h true e =
    let inside = upto count (k + length list) e in
    let front = length-replicate {A = T} (count - length list) fill in
    let at : (length list - count) + (k - (count - length list)) ≡ k + length list - count = omega arith in
    get_or-append_right (replicate (count - length list) fill) (drop (length list - count) list) (count - length list) k fill front (omega arith)
    ∙ get_or-drop (length list - count) list (k - (count - length list)) fill ∙ ap (λ (p : ℕ). get_or list p fill) at
last_at {T} fill list count k h false e =
    let before = not_upto count (k + length list) e in
    let front = length-replicate {A = T} (count - length list) fill in
    get_or_append_left (replicate (count - length list) fill) (drop (length list - count) list) fill k (omega arith) ∙ get_or-replicate (count - length list) k fill fill (omega arith)

last_list : {T : Type 0} (fill : T) (list : List T) (count : ℕ) → moved_list fill list count (from_end count (length list)) ≡ replicate (count - length list) fill ++ drop (length list - count) list
unfolding from_end
last_list {T} fill list count =
    let xs : List T = replicate (count - length list) fill ++ drop (length list - count) list in
    let front = length-replicate {A = T} (count - length list) fill in
    let back = length-drop (length list - count) list in
    let both = length-append (replicate (count - length list) fill) (drop (length list - count) list) in
    sym (fill_by_all (λ k. item_or fill list (from_end count (length list) k)) xs count fill (omega arith) (λ k h. last_at fill list count k h (nat_le count (k + length list)) refl))

pub last_moved : (items : PlainItems) (count : ℕ) → moved_items items count (from_end count (item_count items)) ≡ last_items count items
last_moved (numbers list) count = ap numbers (last_list (pos 0) list count)
last_moved (chars list) count = ap chars (last_list blank list count)

-- the last items by a number that picks them
last_by : (number : ℤ) (count : ℕ) (items : PlainItems) → unsigned_abs number ≡ count → count ≤ 16384
    → ((along : ℕ) → along < count → taken_from number (item_count items) along ≡ from_end count (item_count items) along) → take_of (scalar number) (as_vector items) ≡ Ok (as_vector (last_items count items))
last_by number count items size few same =
    let rule : ℕ → ℕ → Option ℕ = λ axis along. taken_from number (item_count items) along in
    answer_fits (axes_faults (scalar number) (as_vector items)) (taken (scalar number) (as_vector items)) (is_some (shape_fault (unsigned_abs number ∷ []))) refl
    (ap (λ (n : ℕ). is_some (shape_fault (n ∷ []))) size ∙ ap is_some (what_fits_has_no_fault (count ∷ []) (vector_fits count few)))
    ∙ ap (λ (n : ℕ). Ok (picked (n ∷ []) (item_count items ∷ []) items rule)) size
    ∙ ap (λ (x : PlainArray). Ok x)
    (picked_vector count (item_count items) items (last_items count items) rule (same_moved items count (rule 0) (from_end count (item_count items)) same ∙ last_moved items count))

-- `(-N)↑B`
pub take_last : (count : ℕ) (items : PlainItems) → count ≤ 16384 → take_of (scalar (neg_ℤ (pos count))) (as_vector items) ≡ Ok (as_vector (last_items count items))
unfolding from_end
take_last zero items few = last_by (pos 0) 0 items refl few (λ along h. absurd (omega arith))
take_last (suc n) items few = last_by (negsuc n) (suc n) items refl few (λ along h. refl)

-- ---- the items but the first

after_list : {T : Type 0} (fill : T) (list : List T) (count : ℕ) → moved_list fill list (length list - count) (remaining_from (pos count) (length list)) ≡ drop count list
after_list {T} fill list count =
    let whole = length-drop count list in
    sym (fill_by_all (λ k. item_or fill list (remaining_from (pos count) (length list) k)) (drop count list) (length list - count) fill whole
    (λ k h. get_or-drop count list k fill
    ∙ (let at : count + k ≡ k + count = omega arith in ap (λ (p : ℕ). get_or list p fill) at)
    ∙ sym (ap (item_or fill list) (told k (omega arith)))))
  where
    told : (k : ℕ) → k + count < length list → remaining_from (pos count) (length list) k ≡ Some (k + count)
    told k h = rw (not_negative count, is_less (k + count) (length list) h) refl

pub after_moved : (items : PlainItems) (count : ℕ) → moved_items items (item_count items - count) (remaining_from (pos count) (item_count items)) ≡ items_after count items
after_moved (numbers list) count = ap numbers (after_list (pos 0) list count)
after_moved (chars list) count = ap chars (after_list blank list count)

-- `N↓B`
pub drop_first : (count : ℕ) (items : PlainItems) → drop_of (scalar (pos count)) (as_vector items) ≡ Ok (as_vector (items_after count items))
drop_first count items =
    ap (λ (x : PlainArray). Ok x)
    (picked_vector (item_count items - count) (item_count items) items (items_after count items) (λ axis along. remaining_from (pos count) (item_count items) along) (after_moved items count))

-- ---- the items but the last

before_list : {T : Type 0} (fill : T) (list : List T) (count : ℕ) (source : ℕ → Option ℕ) → ((k : ℕ) → k < length list - count → source k ≡ Some k)
    → moved_list fill list (length list - count) source ≡ take (length list - count) list
before_list {T} fill list count source told =
    let whole : length (take (length list - count) list) ≡ length list - count = let all = length-take (length list - count) list in omega arith in
    sym (fill_by_all (λ k. item_or fill list (source k)) (take (length list - count) list) (length list - count) fill whole
    (λ k h. get_or-take (length list - count) list k fill h ∙ sym (ap (item_or fill list) (told k h))))

pub before_moved : (items : PlainItems) (count : ℕ) (source : ℕ → Option ℕ) → ((k : ℕ) → k < item_count items - count → source k ≡ Some k)
    → moved_items items (item_count items - count) source ≡ items_before count items
before_moved (numbers list) count source told = ap numbers (before_list (pos 0) list count source told)
before_moved (chars list) count source told = ap chars (before_list blank list count source told)

before_by : (number : ℤ) (count : ℕ) (items : PlainItems) → unsigned_abs number ≡ count → ((k : ℕ) → k < item_count items - count → remaining_from number (item_count items) k ≡ Some k)
    → drop_of (scalar number) (as_vector items) ≡ Ok (as_vector (items_before count items))
before_by number count items size told =
    let rule : ℕ → ℕ → Option ℕ = λ axis along. remaining_from number (item_count items) along in
    ap (λ (n : ℕ). Ok (picked ((item_count items - n) ∷ []) (item_count items ∷ []) items rule)) size
    ∙ ap (λ (x : PlainArray). Ok x) (picked_vector (item_count items - count) (item_count items) items (items_before count items) rule (before_moved items count (rule 0) told))

-- `(-N)↓B`
pub drop_last : (count : ℕ) (items : PlainItems) → drop_of (scalar (neg_ℤ (pos count))) (as_vector items) ≡ Ok (as_vector (items_before count items))
drop_last zero items =
    before_by (pos 0) 0 items refl
    (λ k h. let same : k + 0 ≡ k = omega arith in
    rw (is_less (k + 0) (item_count items) (omega arith)) (ap (λ (n : ℕ). Some n) same))
drop_last (suc n) items = before_by (negsuc n) (suc n) items refl (λ k h. rw (is_less k (item_count items) (omega arith)) refl)

-- ---- both

vector_by : (shape : List ℕ) (items : PlainItems) → length shape ≡ 1 → element_count shape ≡ item_count items → array_of shape items ≡ as_vector items
vector_by [] items rank whole = absurd (omega arith)
vector_by (x ∷ []) items rank whole = let same : x ≡ item_count items = omega arith in ap (λ (n : ℕ). array_of (n ∷ []) items) same
vector_by (x ∷ y ∷ rest) items rank whole = absurd (omega arith)

-- an array of one axis is the vector of its items
pub vector_is : (b : PlainArray) → IsArray b → length b.shape ≡ 1 → b ≡ as_vector b.items
vector_is b array rank = vector_by b.shape b.items rank array.whole

joined_front : (items : PlainItems) (count : ℕ) → item_count items ≤ 16384 → count ≤ item_count items → catenate_of (as_vector (first_items count items)) (as_vector (items_after count items)) None ≡ Ok (as_vector items)
joined_front (numbers list) count few inside =
    let none : count - length list ≡ 0 = omega arith in
    let front = length-take count list in let back = length-drop count list in
    let first : take count list ++ replicate (count - length list) (pos 0) ≡ take count list = ap (λ (n : ℕ). take count list ++ replicate n (pos 0)) none ∙ append-nil (take count list) in
    ap (λ (xs : List ℤ). catenate_of (as_vector (numbers xs)) (as_vector (numbers (drop count list))) None) first
    ∙ numbers_joined (take count list) (drop count list) (omega arith) ∙ ap (λ (xs : List ℤ). Ok (as_vector (numbers xs))) (take-append-drop count list)
joined_front (chars list) count few inside =
    let none : count - length list ≡ 0 = omega arith in
    let front = length-take count list in let back = length-drop count list in
    let first : take count list ++ replicate (count - length list) blank ≡ take count list = ap (λ (n : ℕ). take count list ++ replicate n blank) none ∙ append-nil (take count list) in
    ap (λ (xs : List ℕ). catenate_of (as_vector (chars xs)) (as_vector (chars (drop count list))) None) first
    ∙ chars_joined (take count list) (drop count list) (omega arith) ∙ ap (λ (xs : List ℕ). Ok (as_vector (chars xs))) (take-append-drop count list)

joined_back : (items : PlainItems) (count : ℕ) → item_count items ≤ 16384 → count ≤ item_count items → catenate_of (as_vector (items_before count items)) (as_vector (last_items count items)) None ≡ Ok (as_vector items)
joined_back (numbers list) count few inside =
    let none : count - length list ≡ 0 = omega arith in
    let front = length-take (length list - count) list in let back = length-drop (length list - count) list in
    let last : replicate (count - length list) (pos 0) ++ drop (length list - count) list ≡ drop (length list - count) list = ap (λ (n : ℕ). replicate n (pos 0) ++ drop (length list - count) list) none in
    ap (λ (xs : List ℤ). catenate_of (as_vector (numbers (take (length list - count) list))) (as_vector (numbers xs)) None) last
    ∙ numbers_joined (take (length list - count) list) (drop (length list - count) list) (omega arith) ∙ ap (λ (xs : List ℤ). Ok (as_vector (numbers xs))) (take-append-drop (length list - count) list)
joined_back (chars list) count few inside =
    let none : count - length list ≡ 0 = omega arith in
    let front = length-take (length list - count) list in let back = length-drop (length list - count) list in
    let last : replicate (count - length list) blank ++ drop (length list - count) list ≡ drop (length list - count) list = ap (λ (n : ℕ). replicate n blank ++ drop (length list - count) list) none in
    ap (λ (xs : List ℕ). catenate_of (as_vector (chars (take (length list - count) list))) (as_vector (chars xs)) None) last
    ∙ chars_joined (take (length list - count) list) (drop (length list - count) list) (omega arith) ∙ ap (λ (xs : List ℕ). Ok (as_vector (chars xs))) (take-append-drop (length list - count) list)

few_items : (b : PlainArray) → IsArray b → item_count b.items ≤ 16384
few_items b array = let small = array.fits.elements in let whole = array.whole in omega arith

-- what a take from the start takes, and what the drop leaves, are together all
pub front_and_rest : (b front rest : PlainArray) (count : ℕ) → IsArray b → length b.shape ≡ 1 → count ≤ item_count b.items → take_of (scalar (pos count)) b ≡ Ok front
    → drop_of (scalar (pos count)) b ≡ Ok rest → catenate_of front rest None ≡ Ok b
front_and_rest b front rest count array rank inside t d =
    let is = vector_is b array rank in
    let few = few_items b array in
    let front_is = ok_same front (as_vector (first_items count b.items)) (take_of (scalar (pos count)) b) (take_of (scalar (pos count)) (as_vector b.items)) (ap (take_of (scalar (pos count))) is) t
    (take_first count b.items (omega arith)) in
    let rest_is = ok_same rest (as_vector (items_after count b.items)) (drop_of (scalar (pos count)) b) (drop_of (scalar (pos count)) (as_vector b.items)) (ap (drop_of (scalar (pos count))) is) d
    (drop_first count b.items) in
    ap (λ (x : PlainArray). catenate_of x rest None) front_is ∙ ap (λ (x : PlainArray). catenate_of (as_vector (first_items count b.items)) x None) rest_is
    ∙ joined_front b.items count few inside ∙ ap (λ (x : PlainArray). Ok x) (sym is)

-- and so from the end
pub rest_and_back : (b rest back : PlainArray) (count : ℕ) → IsArray b → length b.shape ≡ 1 → count ≤ item_count b.items → drop_of (scalar (neg_ℤ (pos count))) b ≡ Ok rest
    → take_of (scalar (neg_ℤ (pos count))) b ≡ Ok back → catenate_of rest back None ≡ Ok b
rest_and_back b rest back count array rank inside d t =
    let is = vector_is b array rank in
    let few = few_items b array in
    let rest_is = ok_same rest (as_vector (items_before count b.items)) (drop_of (scalar (neg_ℤ (pos count))) b) (drop_of (scalar (neg_ℤ (pos count))) (as_vector b.items))
    (ap (drop_of (scalar (neg_ℤ (pos count)))) is) d (drop_last count b.items) in
    let back_is = ok_same back (as_vector (last_items count b.items)) (take_of (scalar (neg_ℤ (pos count))) b) (take_of (scalar (neg_ℤ (pos count))) (as_vector b.items))
    (ap (take_of (scalar (neg_ℤ (pos count)))) is) t (take_last count b.items (omega arith)) in
    ap (λ (x : PlainArray). catenate_of x back None) rest_is ∙ ap (λ (x : PlainArray). catenate_of (as_vector (items_before count b.items)) x None) back_is
    ∙ joined_back b.items count few inside ∙ ap (λ (x : PlainArray). Ok x) (sym is)

none_after : (items : PlainItems) (count : ℕ) → item_count items ≤ count → (item_count (items_after count items) ≡ 0) × (item_count (items_before count items) ≡ 0)
none_after (numbers list) count past = let a = length-drop count list in let b = length-take (length list - count) list in (omega arith, omega arith)
none_after (chars list) count past = let a = length-drop count list in let b = length-take (length list - count) list in (omega arith, omega arith)

-- beyond the length nothing is left
pub nothing_left : (b rest : PlainArray) (number : ℤ) → IsArray b → length b.shape ≡ 1 → item_count b.items ≤ unsigned_abs number → drop_of (scalar number) b ≡ Ok rest → item_count rest.items ≡ 0
nothing_left b rest (pos n) array rank past d =
    let is = vector_is b array rank in
    let rest_is = ok_same rest (as_vector (items_after n b.items)) (drop_of (scalar (pos n)) b) (drop_of (scalar (pos n)) (as_vector b.items)) (ap (drop_of (scalar (pos n))) is) d (drop_first n b.items) in
    ap (λ (x : PlainArray). item_count x.items) rest_is ∙ (none_after b.items n past).0
nothing_left b rest (negsuc n) array rank past d =
    let is = vector_is b array rank in
    let rest_is = ok_same rest (as_vector (items_before (suc n) b.items)) (drop_of (scalar (negsuc n)) b) (drop_of (scalar (negsuc n)) (as_vector b.items)) (ap (drop_of (scalar (negsuc n))) is) d
    (drop_last (suc n) b.items) in
    ap (λ (x : PlainArray). item_count x.items) rest_is ∙ (none_after b.items (suc n) past).1
