-- Lists as arrays: an axis that is too long stays so where it is cut, and names that are filled to the longest.
use Rattle.std.proofs.Common.{◌≡◌, refl, Bool, true, false, Ok, Err, IsOk, Option, Some, None, ◌&&◌, if◌then◌else◌, ℕ, ◌+◌, ◌-◌, ◌*◌, ◌<◌, ◌≤◌, List, [], ◌∷◌, length, get_or, min, max, sym, ap, ◌∙◌, arith, zero, suc}
use Rattle.std.specs.Prelude.{ℤ, fold, is_some, map, pos, replicate}
use Rattle.std.specs.List.{flat_map}
use Rattle.std.proofs.lemmas.List.{length-append, length-map, length-replicate}
use Rattle.apl_arrays.specs.Array.{PlainArray, PlainItems, chars, element_count, numbers}
use Rattle.apl_arrays.specs.Glyph.{blank}
use Rattle.apl_arrays.specs.Limits.{most_elements}
use Rattle.std.proofs.lemmas.Bool.{false≢true}
use Rattle.std.proofs.lemmas.Bool.Decides.{nat_tests}
use Rattle.apl_arrays.specs.Shape.{is_small, shape_fault}
use Rattle.apl_arrays.specs.declared.array.ShapeFault.{ShapeFault}
use Rattle.apl_arrays.specs.declared.array.ShapeFault.TheVariants.{Size}
use Rattle.apl_arrays.specs.declared.report.Fail.{Fail}
use Rattle.apl_arrays.specs.declared.report.Fail.TheVariants as fail
use Rattle.apl_arrays.specs.declared.report.Report.TheVariants.{WsFull}
use Rattle.apl_items.specs.Answers.{AnswersFirst, ArrayResult, answer_of, faults_of_fault, shape_faults}
use Rattle.apl_items.specs.Places.{OnWantOfMemory}
use Rattle.apl_meaning.specs.Queries.{filled, list_outcome, longest, name_matrix, party_vector}
use Rattle.apl_meaning.specs.State.{State, outcome_of}
use Rattle.apl_statements.specs.declared.flow.Flow.{Flow}
use Rattle.apl_statements.specs.Interpreter.{PlainInterpreter, state_at}
use Rattle.apl_statements.specs.Wants.{IsNoReport, NoReportIsDue}
use Rattle.apl_statements.proofs.Renewing.{above}

-- the length of an axis that is cut, but stays over the limit
abbrev pub cut : ℕ → ℕ
cut n = min n (most_elements + 1)

-- a list of this shape
abbrev pub shaped : List ℕ → PlainItems → PlainArray
shaped shape items = record { shape = shape; items = items }

-- ---- what is wrong with a shape whose axes are cut

is_within : (axis : ℕ) → is_small axis ≡ true → axis ≤ most_elements
is_within axis small = grind (arith, nat_tests, small)

is_over : (axis : ℕ) → is_small axis ≡ false → most_elements < axis
is_over axis long = grind (arith, nat_tests, long)

is_long : (axis : ℕ) → most_elements < axis → is_small axis ≡ false
is_long axis over = above axis most_elements over

-- an axis within the limit is not cut
uncut : (n : ℕ) → is_small (cut n) ≡ true → cut n ≡ n
uncut n small =
    let within : cut n ≤ most_elements = is_within (cut n) small in
    omega (arith, within)

-- and one over the limit stays over it
still_long : (n : ℕ) → is_small (cut n) ≡ false → is_small n ≡ false
still_long n long =
    let over : most_elements < cut n = is_over (cut n) long in
    is_long n (omega (arith, over))

-- the fault of one axis, or of two, by whether each is small, and all elements are
abbrev one_fault : Bool → Bool → Option ShapeFault
one_fault x z = if (x && true) && z then None else Some Size

abbrev two_fault : Bool → Bool → Bool → Option ShapeFault
two_fault x y z = if (x && (y && true)) && z then None else Some Size

second_long : (x z : Bool) → two_fault x false z ≡ Some Size
second_long true z = refl
second_long false z = refl

-- a list has the fault of the one whose axis is cut
pub one_cut : (n : ℕ) → shape_fault (cut n ∷ []) ≡ shape_fault (n ∷ [])
one_cut n = by (is_small (cut n)) refl
  where
    by : (b : Bool) → is_small (cut n) ≡ b → shape_fault (cut n ∷ []) ≡ shape_fault (n ∷ [])
    by true small = ap (λ (k : ℕ). shape_fault (k ∷ [])) (uncut n small)
    by false long =
        ap (λ (x : Bool). one_fault x (is_small (element_count (cut n ∷ [])))) long
        ∙ sym (ap (λ (x : Bool). one_fault x (is_small (element_count (n ∷ [])))) (still_long n long))

-- and so a matrix
pub two_cut : (n k : ℕ) → shape_fault (cut n ∷ cut k ∷ []) ≡ shape_fault (n ∷ k ∷ [])
two_cut n k = by (is_small (cut n)) (is_small (cut k)) refl refl
  where
    second : is_small (cut k) ≡ false → shape_fault (cut n ∷ cut k ∷ []) ≡ shape_fault (n ∷ k ∷ [])
    second long =
        ap (λ (y : Bool). two_fault (is_small (cut n)) y (is_small (element_count (cut n ∷ cut k ∷ [])))) long
        ∙ second_long (is_small (cut n)) (is_small (element_count (cut n ∷ cut k ∷ [])))
        ∙ sym (second_long (is_small n) (is_small (element_count (n ∷ k ∷ []))))
        ∙ sym (ap (λ (y : Bool). two_fault (is_small n) y (is_small (element_count (n ∷ k ∷ [])))) (still_long k long))

    by : (a b : Bool) → is_small (cut n) ≡ a → is_small (cut k) ≡ b → shape_fault (cut n ∷ cut k ∷ []) ≡ shape_fault (n ∷ k ∷ [])
    by true true first small = ap (λ (i : ℕ). shape_fault (i ∷ cut k ∷ [])) (uncut n first) ∙ ap (λ (i : ℕ). shape_fault (n ∷ i ∷ [])) (uncut k small)
    by true false first long = second long
    by false true first small =
        ap (λ (x : Bool). two_fault x (is_small (cut k)) (is_small (element_count (cut n ∷ cut k ∷ [])))) first
        ∙ sym (ap (λ (x : Bool). two_fault x (is_small k) (is_small (element_count (n ∷ k ∷ [])))) (still_long n first))
    by false false first long = second long

-- where a shape of one axis or two has a fault, the list would be too large
sized : (b : Bool) (array : PlainArray) → is_some (if b then None else Some Size) ≡ true → answer_of (faults_of_fault (if b then None else Some Size)) array ≡ Err WsFull
sized true array some = absurd (false≢true some)
sized false array some = refl

pub one_too_large : (n a : ℕ) (array : PlainArray) → a ≡ cut n → is_some (shape_fault (a ∷ [])) ≡ true → answer_of (shape_faults (n ∷ [])) array ≡ Err WsFull
one_too_large n a array is some =
    sized ((is_small n && true) && is_small (element_count (n ∷ []))) array
    (sym (ap is_some (ap (λ (k : ℕ). shape_fault (k ∷ [])) is ∙ one_cut n)) ∙ some)

pub two_too_large : (n k a b : ℕ) (array : PlainArray) → a ≡ cut n → b ≡ cut k → is_some (shape_fault (a ∷ b ∷ [])) ≡ true → answer_of (shape_faults (n ∷ k ∷ [])) array ≡ Err WsFull
two_too_large n k a b array first second some =
    sized ((is_small n && (is_small k && true)) && is_small (element_count (n ∷ k ∷ []))) array
    (sym (ap is_some (ap (λ (i : ℕ). shape_fault (i ∷ b ∷ [])) first ∙ ap (λ (i : ℕ). shape_fault (cut n ∷ i ∷ [])) second ∙ two_cut n k)) ∙ some)

-- and where it has none, the list is made
faultless : (found : Option ShapeFault) (array : PlainArray) → is_some found ≡ false → answer_of (faults_of_fault found) array ≡ Ok array
faultless None array none = refl
faultless (Some fault) array none = absurd (false≢true (sym none))

pub one_fits : (n a : ℕ) (array : PlainArray) → a ≡ cut n → is_some (shape_fault (a ∷ [])) ≡ false → answer_of (shape_faults (n ∷ [])) array ≡ Ok array
one_fits n a array is none = faultless (shape_fault (n ∷ [])) array (sym (ap is_some (ap (λ (k : ℕ). shape_fault (k ∷ [])) is ∙ one_cut n)) ∙ none)

pub two_fit : (n k a b : ℕ) (array : PlainArray) → a ≡ cut n → b ≡ cut k → is_some (shape_fault (a ∷ b ∷ [])) ≡ false → answer_of (shape_faults (n ∷ k ∷ [])) array ≡ Ok array
two_fit n k a b array first second none =
    faultless (shape_fault (n ∷ k ∷ [])) array
    (sym (ap is_some (ap (λ (i : ℕ). shape_fault (i ∷ b ∷ [])) first ∙ ap (λ (i : ℕ). shape_fault (cut n ∷ i ∷ [])) second ∙ two_cut n k)) ∙ none)

-- its axes are not cut
first_small : (x z : Bool) → is_some (one_fault x z) ≡ false → x ≡ true
first_small true z none = refl
first_small false z none = absurd (false≢true (sym none))

both_small : (x y z : Bool) → is_some (two_fault x y z) ≡ false → (x ≡ true) × (y ≡ true)
both_small true true z none = (refl, refl)
both_small true false z none = absurd (false≢true (sym none))
both_small false y z none = absurd (false≢true (sym none))

one_uncut : (n a : ℕ) → a ≡ cut n → is_some (shape_fault (a ∷ [])) ≡ false → a ≡ n
one_uncut n a is none = is ∙ uncut n (sym (ap is_small is) ∙ first_small (is_small a) (is_small (element_count (a ∷ []))) none)

two_uncut : (n k a b : ℕ) → a ≡ cut n → b ≡ cut k → is_some (shape_fault (a ∷ b ∷ [])) ≡ false → (a ≡ n) × (b ≡ k)
two_uncut n k a b first second none =
    let small : (is_small a ≡ true) × (is_small b ≡ true) = both_small (is_small a) (is_small b) (is_small (element_count (a ∷ b ∷ []))) none in
    (first ∙ uncut n (sym (ap is_small first) ∙ small.0), second ∙ uncut k (sym (ap is_small second) ∙ small.1))

-- ---- parties in a vector

pub parties_whole : (parties : List ℕ) (list : List ℤ) (a : ℕ) → a ≡ cut (length parties) → list ≡ map (λ party. pos party) parties → is_some (shape_fault (a ∷ [])) ≡ false → element_count (a ∷ []) ≡ length list
parties_whole parties list a is are none =
    ap (λ (k : ℕ). element_count (k ∷ [])) (one_uncut (length parties) a is none)
    ∙ (let one : element_count (length parties ∷ []) ≡ length parties = omega arith in one)
    ∙ sym (length-map parties (λ party. pos party))
    ∙ ap length (sym are)

pub parties_listed : (parties : List ℕ) (list : List ℤ) (a : ℕ) (array : PlainArray) → a ≡ cut (length parties) → list ≡ map (λ party. pos party) parties → is_some (shape_fault (a ∷ [])) ≡ false → array ≡ shaped (a ∷ []) (numbers list)
    → answer_of (shape_faults (party_vector parties).shape) (party_vector parties) ≡ Ok array
parties_listed parties list a array is are none made =
    one_fits (length parties) a (party_vector parties) is none
    ∙ ap (λ (x : PlainArray). Ok x) (sym (made ∙ ap (λ (k : ℕ). shaped (k ∷ []) (numbers list)) (one_uncut (length parties) a is none) ∙ ap (λ (l : List ℤ). shaped (length parties ∷ []) (numbers l)) are))

-- ---- where memory ran out for a list

listed_there : (answer : ArrayResult) (s : State) → IsOk answer → IsNoReport (outcome_of answer s)
listed_there (Ok array) s is = tt
listed_there (Err report) s is = absurd (false≢true is)

-- a list that is not too large ends the line by no report
pub listed_free : (m : PlainInterpreter) (array : PlainArray) → IsOk (answer_of (shape_faults array.shape) array) → NoReportIsDue m (list_outcome array)
listed_free m array is asked count taken = listed_there (answer_of (shape_faults array.shape) array) (state_at m asked count taken []) is

pub listed_wants : (m : PlainInterpreter) (array : PlainArray) (why : Fail) → AnswersFirst (Err why) (answer_of (shape_faults array.shape) array) → OnWantOfMemory {T = Flow} (Err why) (NoReportIsDue m (list_outcome array))
listed_wants m array (fail.Report report) first = tt
listed_wants m array fail.WantOfMemory first = listed_free m array first

-- ---- names that are filled

grows : (xs : List ℕ) (a : ℕ) → a ≤ fold max a xs
grows [] a = omega arith
grows (x ∷ xs) a = let h : max a x ≤ fold max (max a x) xs = grows xs (max a x) in omega (arith, h)

-- no name is longer than the longest
pub within_longest : (names : List (List ℕ)) (i : ℕ) (name : List ℕ) → i < length names → length (get_or names i name) ≤ longest names
within_longest names i name lt = upto names i name lt 0
  where
    upto : (names : List (List ℕ)) (i : ℕ) (name : List ℕ) → i < length names → (a : ℕ) → length (get_or names i name) ≤ fold max a (map length names)
    upto [] i name lt a = absurd (omega (arith, lt))
    upto (n ∷ names) zero name lt a = let h : max a (length n) ≤ fold max (max a (length n)) (map length names) = grows (map length names) (max a (length n)) in omega (arith, h)
    upto (n ∷ names) (suc i) name lt a = upto names i name (omega (arith, lt)) (max a (length n))

-- each name takes the width
pub filled_count : (width : ℕ) (names : List (List ℕ)) → longest names ≤ width → length (flat_map (filled width) names) ≡ length names * width
filled_count width names wide = upto names 0 wide
  where
    upto : (names : List (List ℕ)) (a : ℕ) → fold max a (map length names) ≤ width → length (flat_map (filled width) names) ≡ length names * width
    upto [] a wide = omega arith
    upto (n ∷ names) a wide =
        let under : max a (length n) ≤ fold max (max a (length n)) (map length names) = grows (map length names) (max a (length n)) in
        let rest : length (flat_map (filled width) names) ≡ length names * width = upto names (max a (length n)) wide in
        let own : length (filled width n) ≡ length n + (width - length n) = length-append n (replicate (width - length n) blank) ∙ ap (λ (k : ℕ). length n + k) (length-replicate (width - length n) blank) in
        length-append (filled width n) (flat_map (filled width) names) ∙ (let sum : length (filled width n) + length (flat_map (filled width) names) ≡ suc (length names) * width = omega (arith, under, rest, own, wide) in sum)

-- ---- names in a matrix

pub names_whole : (names : List (List ℕ)) (glyphs : List ℕ) (a b width : ℕ) → a ≡ cut (length names) → b ≡ cut width → width ≡ longest names → glyphs ≡ flat_map (filled width) names → is_some (shape_fault (a ∷ b ∷ [])) ≡ false → element_count (a ∷ b ∷ []) ≡ length glyphs
names_whole names glyphs a b width rows columns wide are none =
    let n : ℕ = length names in
    let same : (a ≡ n) × (b ≡ width) = two_uncut n width a b rows columns none in
    let count : length (flat_map (filled width) names) ≡ n * width = filled_count width names (let most : longest names ≤ width = omega (arith, wide) in most) in
    ap (λ (k : ℕ). element_count (k ∷ b ∷ [])) same.0
    ∙ ap (λ (k : ℕ). element_count (n ∷ k ∷ [])) same.1
    ∙ (let two : element_count (n ∷ width ∷ []) ≡ n * width = omega arith in two)
    ∙ sym count
    ∙ ap length (sym are)

pub names_listed : (names : List (List ℕ)) (glyphs : List ℕ) (a b width : ℕ) (array : PlainArray) → a ≡ cut (length names) → b ≡ cut width → width ≡ longest names → glyphs ≡ flat_map (filled width) names → is_some (shape_fault (a ∷ b ∷ [])) ≡ false → array ≡ shaped (a ∷ b ∷ []) (chars glyphs)
    → answer_of (shape_faults (name_matrix names).shape) (name_matrix names) ≡ Ok array
names_listed names glyphs a b width array rows columns wide are none made =
    let n : ℕ = length names in
    let same : (a ≡ n) × (b ≡ width) = two_uncut n width a b rows columns none in
    two_fit n (longest names) a b (name_matrix names) rows (columns ∙ ap cut wide) none
    ∙ ap (λ (x : PlainArray). Ok x) (sym (made
    ∙ ap (λ (i : ℕ). shaped (i ∷ b ∷ []) (chars glyphs)) same.0
    ∙ ap (λ (i : ℕ). shaped (n ∷ i ∷ []) (chars glyphs)) (same.1 ∙ wide)
    ∙ ap (λ (l : List ℕ). shaped (n ∷ longest names ∷ []) (chars l)) (are ∙ ap (λ (k : ℕ). flat_map (filled k) names) wide)))
