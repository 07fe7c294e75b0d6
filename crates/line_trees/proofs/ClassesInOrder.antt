-- Among classes in the order of their names, a search by halves finds what a walk from the first on does.
use Rattle.std.proofs.Common.{◌≡◌, ℕ, zero, suc, ◌-◌, ◌<◌, ◌≤◌, Bool, true, false, not, ◌&&◌, ◌==◌, cond, List, [], ◌∷◌, ◌++◌, Option, Some, None, length, get_or, refl, sym, ap, ◌∙◌, arith}
use Rattle.std.specs.declared.cmp.Ordering.{Ordering}
use Rattle.std.specs.declared.cmp.Ordering.TheVariants.{Less, Equal, Greater}
use Rattle.std.specs.Cmp.Lexicographic.{slice_cmp, pointwise}
use Rattle.std.specs.List.{find, slice_get, position_or_len}
use Rattle.std.specs.List.Sorted.{IsPartitionedBy, IsPartitionPoint}
use Rattle.std.specs.Option.{option_map}
use Rattle.std.specs.Ordering.{is_lt, is_eq, nat_cmp, ordering_reverse}
use Rattle.std.proofs.lemmas.Bool.{and_parts, and_from, and_right, false≢true}
use Rattle.std.proofs.lemmas.Cmp.{nat_list_cmp_total}
use Rattle.std.proofs.lemmas.List.Folds.{find_at, list_all-append}
use Rattle.std.proofs.lemmas.List.Sums.{position_or_len_is}
use Rattle.std.proofs.lemmas.Map.Text.{is_eq-slice_cmp}
use Rattle.line_trees.specs.declared.class.Class.{Class}
use Rattle.line_trees.specs.Classes.{is_before, come_before, come_behind, NamesAscend, first_not_before, arguments_where}
use Rattle.line_trees.specs.Symbols.{arguments_of}

less_is : (r : Ordering) → is_lt r ≡ true → r ≡ Less
less_is Less e = refl
less_is Equal e = absurd (false≢true e)
less_is Greater e = absurd (false≢true e)

before_both : (one other third : List ℕ) → is_before one other ≡ true → is_before other third ≡ true → is_before one third ≡ true
before_both one other third h k =
    ap is_lt (nat_list_cmp_total.trans one other third (less_is (slice_cmp nat_cmp one other) h) (less_is (slice_cmp nat_cmp other third) k))

-- what comes behind a name comes behind one before it
still_behind : (one other : List ℕ) (classes : List Class) → is_before one other ≡ true → come_behind classes other ≡ true → come_behind classes one ≡ true
still_behind one other [] h k = refl
still_behind one other (class ∷ classes) h k =
    let both = and_parts (is_before other class.name) (come_behind classes other) k in
    and_from (is_before one class.name) (come_behind classes one) (before_both one other class.name h both.0) (still_behind one other classes h both.1)

behind_at : (n : List ℕ) (classes : List Class) (k : ℕ) (d : Class) → come_behind classes n ≡ true → k < length classes → is_before n (get_or classes k d).name ≡ true
behind_at n [] k d h below = absurd (let none : k < 0 = below in omega arith)
behind_at n (class ∷ classes) zero d h below = (and_parts (is_before n class.name) (come_behind classes n) h).0
behind_at n (class ∷ classes) (suc k) d h below = behind_at n classes k d (and_parts (is_before n class.name) (come_behind classes n) h).1 (omega arith)

-- those before a name stand before the others
pub parted : (n : List ℕ) (classes : List Class) → NamesAscend classes → IsPartitionedBy (λ class. is_before class.name n) classes
parted n [] up i j d le below passes = absurd (let none : j < 0 = below in omega arith)
parted n (class ∷ classes) up zero zero d le below passes = passes
parted n (class ∷ classes) up zero (suc j) d le below passes = before_both class.name (get_or classes j d).name n (behind_at class.name classes j d up.0 (omega arith)) passes
parted n (class ∷ classes) up (suc i) zero d le below passes = absurd (omega arith)
parted n (class ∷ classes) up (suc i) (suc j) d le below passes = parted n classes up.1 i j d (omega arith) (omega arith) passes

-- the point between them is the place of the first that does not come before the name
pub at_point : (n : List ℕ) (classes : List Class) (k : ℕ) → k ≤ length classes
    → IsPartitionPoint (λ class. is_before class.name n ≡ true) (λ class. is_before class.name n ≡ false) classes k → slice_get classes k ≡ first_not_before n classes
at_point n classes k within (before, behind) = by_length classes within before behind
  where
    by_length : (xs : List Class) → k ≤ length xs → ((i : ℕ) (d : Class) → 0 ≤ i → i < k → is_before (get_or xs i d).name n ≡ true)
        → ((i : ℕ) (d : Class) → k ≤ i → i < length xs → is_before (get_or xs i d).name n ≡ false) → slice_get xs k ≡ first_not_before n xs
    by_length [] w b f = refl
    by_length (x ∷ xs) w b f =
        let at : position_or_len (λ class. not (is_before class.name n)) (x ∷ xs) ≡ k =
        position_or_len_is (λ class. not (is_before class.name n)) (x ∷ xs) k x w (λ i below. ap not (b i x (omega arith) below)) (λ below. ap not (f k x (omega arith) below)) in
        ap (slice_get (x ∷ xs)) (sym at) ∙ sym (find_at (λ class. not (is_before class.name n)) (x ∷ xs))

-- none of the classes behind a name has it
none_behind : (n : List ℕ) (classes : List Class) → come_behind classes n ≡ true → arguments_of classes n ≡ None
none_behind n [] h = refl
none_behind n (class ∷ classes) h =
    let both = and_parts (is_before n class.name) (come_behind classes n) h in
    let back : slice_cmp nat_cmp class.name n ≡ Greater = nat_list_cmp_total.antisymm class.name n ∙ ap ordering_reverse (less_is (slice_cmp nat_cmp n class.name) both.0) in
    let other : pointwise ◌==◌ class.name n ≡ false = sym (is_eq-slice_cmp class.name n) ∙ ap is_eq back in
    ap (λ (b : Bool). option_map (λ (c : Class). c.arguments) (cond b (Some class) (find (λ (c : Class). pointwise ◌==◌ c.name n) classes))) other ∙ none_behind n classes both.1

-- the first class that does not come before a name is the only one that can have it
pub found : (n : List ℕ) (classes : List Class) → NamesAscend classes → arguments_of classes n ≡ arguments_where n (first_not_before n classes)
found n [] up = refl
found n (class ∷ classes) up = by_order (found n classes up.1) (slice_cmp nat_cmp class.name n) refl
  where
    walk : Bool → Option ℕ
    walk b = option_map (λ (c : Class). c.arguments) (cond b (Some class) (find (λ (c : Class). pointwise ◌==◌ c.name n) classes))

    halves : Bool → Option ℕ
    halves b = arguments_where n (cond (not b) (Some class) (first_not_before n classes))

    same_name : (r : Ordering) → slice_cmp nat_cmp class.name n ≡ r → pointwise ◌==◌ class.name n ≡ is_eq r
    same_name r e = sym (is_eq-slice_cmp class.name n) ∙ ap is_eq e

    by_order : arguments_of classes n ≡ arguments_where n (first_not_before n classes) → (r : Ordering) → slice_cmp nat_cmp class.name n ≡ r → walk (pointwise ◌==◌ class.name n) ≡ halves (is_before class.name n)
    by_order rest Less e = ap walk (same_name Less e) ∙ rest ∙ sym (ap (λ (r : Ordering). halves (is_lt r)) e)
    by_order rest Equal e =
        ap walk (same_name Equal e) ∙ sym (ap (λ (b : Bool). cond b (Some class.arguments) None) (same_name Equal e)) ∙ sym (ap (λ (r : Ordering). halves (is_lt r)) e)
    by_order rest Greater e =
        let behind : is_before n class.name ≡ true = ap is_lt (nat_list_cmp_total.antisymm n class.name ∙ ap ordering_reverse e) in
        ap walk (same_name Greater e) ∙ none_behind n classes (still_behind n class.name classes behind up.0) ∙ sym (ap (λ (b : Bool). cond b (Some class.arguments) None) (same_name Greater e))
        ∙ sym (ap (λ (r : Ordering). halves (is_lt r)) e)

-- whether the last of the classes, where there is one, comes before a name
abbrev pub last_before : List ℕ → Option Class → Bool
last_before n None = true
last_before n (Some class) = is_before class.name n

-- the last class decides for all of them
pub last_decides : (n : List ℕ) (classes : List Class) → NamesAscend classes → come_before classes n ≡ last_before n (slice_get classes (length classes - 1))
last_decides n [] up = refl
last_decides n (class ∷ []) up = by_test (is_before class.name n)
  where
    by_test : (b : Bool) → (b && true) ≡ b
    by_test true = refl
    by_test false = refl
last_decides n (class ∷ next ∷ classes) up =
    let at : suc (length (next ∷ classes) - 1) ≡ length (class ∷ next ∷ classes) - 1 = omega arith in
    by_test (come_before (next ∷ classes) n) refl ∙ last_decides n (next ∷ classes) up.1 ∙ ap (λ (k : ℕ). last_before n (slice_get (class ∷ next ∷ classes) k)) at
  where
    by_test : (b : Bool) → come_before (next ∷ classes) n ≡ b → (is_before class.name n && come_before (next ∷ classes) n) ≡ come_before (next ∷ classes) n
    by_test true e =
        let ahead = (and_parts (is_before class.name next.name) (come_behind classes class.name) up.0).0 in
        let first = before_both class.name next.name n ahead (and_parts (is_before next.name n) (come_before classes n) e).0 in
        ap (λ (b : Bool). b && come_before (next ∷ classes) n) first
    by_test false e = and_right (is_before class.name n) (come_before (next ∷ classes) n) e ∙ sym e

-- what the last class answers is the answer
pub answered : (n : List ℕ) (classes same : List Class) (last : Option Class) (answer : Bool) → same ≡ classes → NamesAscend same → last ≡ slice_get same (length same - 1) → answer ≡ last_before n last → answer ≡ come_before classes n
answered n classes same last answer is up e h = h ∙ ap (last_before n) e ∙ sym (last_decides n same up) ∙ ap (λ (l : List Class). come_before l n) is

behind_too : (n : List ℕ) (classes : List Class) (last : Class) → come_behind classes n ≡ true → is_before n last.name ≡ true → come_behind (classes ++ last ∷ []) n ≡ true
behind_too n classes last h k =
    list_all-append (λ class. is_before n class.name) classes (last ∷ []) ∙ and_from (come_behind classes n) (come_behind (last ∷ []) n) h (and_from (is_before n last.name) true k refl)

-- classes still ascend with one more whose name comes behind theirs
pub one_behind : (classes : List Class) (last : Class) → NamesAscend classes → come_before classes last.name ≡ true → NamesAscend (classes ++ last ∷ [])
one_behind [] last up h = (refl, tt)
one_behind (class ∷ classes) last up h =
    let both = and_parts (is_before class.name last.name) (come_before classes last.name) h in
    (behind_too class.name classes last up.0 both.0, one_behind classes last up.1 both.1)
