-- First places of classes, made from the last place to the first.
use Rattle.std.proofs.Common.{◌≡◌, ◌==◌, ℕ, ◌+◌, ◌-◌, ◌<◌, ◌≤◌, ℤ, pos, Bool, not, All, List, [], ◌∷◌, ◌++◌, length, length-set, get_or, map, set, take, replicate, refl, sym, ap, ◌∙◌, inl, inr, arith, zero-add, eq-eqb, ne_eqb}
use Rattle.std.specs.List.{position_or_len}
use Rattle.std.proofs.lemmas.Bool.{cases_eq}
use Rattle.std.proofs.lemmas.List.Elements.{All-head, All-tail}
use Rattle.std.proofs.lemmas.List.Sums.{prefix_len-le-length}
use Rattle.std.proofs.lemmas.List.{drop_more, drop_all, get_or-set_same, get_or-set_other, get_or-replicate, length-replicate, map_more, take_all}
use Rattle.apl_search.specs.Classes.{AreFirsts, first_from, is_of}

-- ---- the first place of a class

first_here : {T : Type 0} (class : T → ℕ) (list : List T) (at of : ℕ) (d : T) → at < length list → class (get_or list at d) ≡ of → first_from class list at of ≡ at
first_here {T} class list at of d below e =
    ap (λ (xs : List T). at + position_or_len (is_of class of) xs) (drop_more list at d below)
    ∙ rw (eq-eqb (class (get_or list at d)) of e) (omega arith)

first_later : {T : Type 0} (class : T → ℕ) (list : List T) (at of : ℕ) (d : T) → at < length list → (class (get_or list at d) ≡ of → ⊥) → first_from class list at of ≡ first_from class list (at + 1) of
first_later {T} class list at of d below e =
    ap (λ (xs : List T). at + position_or_len (is_of class of) xs) (drop_more list at d below)
    ∙ rw (ne_eqb (class (get_or list at d)) of e) (omega arith)

first_past : {T : Type 0} (class : T → ℕ) (list : List T) (at of : ℕ) → length list ≤ at → first_from class list at of ≡ at
first_past {T} class list at of past =
    ap (λ (xs : List T). at + position_or_len (is_of class of) xs) (drop_all at list past) ∙ omega arith

-- ---- first places, made from the last place to the first

-- the first places from one on
pub record AreFirstsFrom {T : Type 0} (class : T → ℕ) (list : List T) (at : ℕ) (firsts : List ℕ) : Type 0 where
  pub first : (of : ℕ) → of < length firsts → get_or firsts of 0 ≡ first_from class list at of

pub no_firsts : {T : Type 0} (class : T → ℕ) (list : List T) (at span : ℕ) (firsts : List ℕ) → firsts ≡ replicate span (length list) → at ≡ length list → AreFirstsFrom class list at firsts
no_firsts class list at span firsts e is = record {
  first = λ of below.
      let size = ap (λ (xs : List ℕ). length xs) e ∙ length-replicate span (length list) in
      ap (λ (xs : List ℕ). get_or xs of 0) e ∙ get_or-replicate span of (length list) 0 (omega arith) ∙ sym (first_past class list at of (omega arith) ∙ is);
}

pub one_first_more : {T : Type 0} (class : T → ℕ) (list : List T) (at place of : ℕ) (d : T) (firsts : List ℕ) → AreFirstsFrom class list at firsts → place + 1 ≡ at → place < length list
    → of < length firsts → class (get_or list place d) ≡ of → AreFirstsFrom class list place (set firsts of place)
one_first_more class list at place of d firsts before step below within here = record {
  first = λ other inside. elim (cases_eq other of) [
    | inl e ↦
        ap (λ (k : ℕ). get_or (set firsts of place) k 0) e ∙ get_or-set_same firsts of place 0 within
        ∙ sym (first_here class list place other d below (here ∙ sym e))
    | inr ne ↦
        let wide = length-set firsts of place in
        get_or-set_other firsts of other place 0 ne ∙ before.first other (omega arith) ∙ ap (λ (k : ℕ). first_from class list k other) (sym step)
        ∙ sym (first_later class list place other d below (λ e. ne (sym e ∙ here)))
  ];
}

-- the class of an item is past those that are asked for
pub no_first_more : {T : Type 0} (class : T → ℕ) (list : List T) (at place of : ℕ) (d : T) (firsts : List ℕ) → AreFirstsFrom class list at firsts → place + 1 ≡ at → place < length list
    → length firsts ≤ of → class (get_or list place d) ≡ of → AreFirstsFrom class list place firsts
no_first_more class list at place of d firsts before step below past here = record {
  first = λ other inside.
      let ne : other ≡ of → ⊥ = λ (e : other ≡ of). absurd (omega arith) in
      before.first other inside ∙ ap (λ (k : ℕ). first_from class list k other) (sym step) ∙ sym (first_later class list place other d below (λ e. ne (sym e ∙ here)));
}

-- nothing, made longer by one number
pub no_more : (count value other n : ℕ) (before : List ℕ) → before ≡ [] → n ≡ 0 → value ≡ other → take count before ++ replicate (count - n) value ≡ replicate count other
no_more count value other n before none zero same =
    ap (λ (xs : List ℕ). take count xs ++ replicate (count - n) value) none
    ∙ ap (λ (xs : List ℕ). xs ++ replicate (count - n) value) (take_all count [] (omega arith))
    ∙ ap (λ (m : ℕ). replicate m value) (omega arith) ∙ ap (replicate count) same

pub all_firsts : {T : Type 0} (class : T → ℕ) (list : List T) (at : ℕ) (firsts : List ℕ) → AreFirstsFrom class list at firsts → at ≡ 0 → AreFirsts class list firsts
all_firsts class list at firsts made e of below = made.first of below ∙ ap (λ (k : ℕ). first_from class list k of) e

-- ---- first places told by the items

pub same_position : {T : Type 0} (p q : T → Bool) (list : List T) → All (λ x. p x ≡ q x) list → position_or_len p list ≡ position_or_len q list
same_position p q [] same = refl
same_position p q (x ∷ xs) same = rw (All-head (λ y. p y ≡ q y) x xs same, same_position p q xs (All-tail (λ y. p y ≡ q y) x xs same)) refl

pub place_at_most : {T : Type 0} (passes : T → Bool) (list : List T) → position_or_len passes list ≤ length list
place_at_most passes list = prefix_len-le-length (λ x. not (passes x)) list

same_either_way : (a b : ℕ) → a == b ≡ (b == a)
same_either_way a b = elim (cases_eq a b) [
  | inl e ↦ eq-eqb a b e ∙ sym (eq-eqb b a (sym e))
  | inr ne ↦ ne_eqb a b ne ∙ sym (ne_eqb b a (λ (e : b ≡ a). ne (sym e)))
]

-- the first place of a code's class is the first place of the character
pub first_of_code : (code : ℕ) (list : List ℕ) → first_from (λ c. c) list 0 code ≡ position_or_len (λ other. code == other) list
first_of_code code list =
    zero-add (position_or_len (is_of (λ c. c) code) list) ∙ same_position (is_of (λ c. c) code) (λ other. code == other) list (λ k d below. same_either_way (get_or list k d) code)

-- the place of one item more
pub one_place_more : {T : Type 0} (place_of : T → ℕ) (list : List T) (at : ℕ) (x : T) (before : List ℤ) (number : ℤ) → at < length list → x ≡ get_or list at x → before ≡ map (λ y. pos (place_of y + 1)) (take at list)
    → number ≡ pos (place_of x + 1) → before ++ number ∷ [] ≡ map (λ y. pos (place_of y + 1)) (take (at + 1) list)
one_place_more {T} place_of list at x before number below is so_far told =
    let number_of = λ (y : T). pos (place_of y + 1) in
    ap (λ (ys : List ℤ). ys ++ number ∷ []) so_far ∙ ap (λ (v : ℤ). map number_of (take at list) ++ v ∷ []) (told ∙ ap number_of is) ∙ sym (map_more number_of list at x below)
