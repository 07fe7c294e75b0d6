-- Lists of which one element at the most passes a test.
use Rattle.std.proofs.Common.{◌≡◌, refl, sym, ap, ◌∙◌, ℕ, zero, suc, ◌<◌, ◌≤◌, Bool, true, false, not, cond, List, [], ◌∷◌, ◌++◌, length, get_or, filter, find, Some, None, inl, inr, arith}
use Rattle.std.specs.Prelude.{count_by, is_some}
use Rattle.std.specs.List.{list_any, remove}
use Rattle.std.proofs.lemmas.Bool.{cases_Bool, or_left, or_right}
use Rattle.std.proofs.lemmas.Option.{none-some, same_Some}
use Rattle.std.proofs.lemmas.List.Folds.{list_any-append}
use Rattle.std.proofs.lemmas.List.Sums.{get_or-le-sum_by, sum_by-append, sum_by-cons}
use Rattle.sv_offer_laws.proofs.LookupLemmas.{find_is}
use Rattle.sv_offer_laws.proofs.Members.{filter_past_none}

-- where none is counted none is found
pub none_found : {X : Type 0} (p : X → Bool) (xs : List X) → count_by p xs ≤ 0 → find p xs ≡ None
none_found p [] few = refl
none_found p (x ∷ xs) few =
    let count = sum_by-cons (λ y. cond {A = ℕ} (p y) 1 0) x xs in
    elim (cases_Bool (p x)) [
      | inl here ↦
          let one : cond {A = ℕ} (p x) 1 0 ≡ 1 = ap (λ b. cond {A = ℕ} b 1 0) here in absurd (omega (arith, count, one, few))
      | inr fails ↦ rw fails (none_found p xs (omega (arith, count, few)))
    ]

none_any : {X : Type 0} (p : X → Bool) (xs : List X) → count_by p xs ≤ 0 → list_any p xs ≡ false
none_any p xs few = sym (find_is p xs) ∙ ap is_some (none_found p xs few)

-- the only one goes with its index
pub only_out : {X : Type 0} (p : X → Bool) (xs : List X) (i : ℕ) (d : X) → i < length xs → p (get_or xs i d) ≡ true → count_by p xs ≤ 1 →
    remove xs i ≡ filter (λ x. not (p x)) xs
only_out p [] i d within here few = absurd (omega arith)
only_out p (x ∷ xs) zero d within here few =
    let count = sum_by-cons (λ y. cond {A = ℕ} (p y) 1 0) x xs in
    let one : cond {A = ℕ} (p x) 1 0 ≡ 1 = ap (λ b. cond {A = ℕ} b 1 0) here in
    rw here (sym (filter_past_none p xs (none_found p xs (omega (arith, count, one, few)))))
only_out p (x ∷ xs) (suc i) d within here few =
    let count = sum_by-cons (λ y. cond {A = ℕ} (p y) 1 0) x xs in
    let behind : i < length xs = omega arith in
    let some : cond {A = ℕ} (p (get_or xs i d)) 1 0 ≡ 1 = ap (λ b. cond {A = ℕ} b 1 0) here in
    elim (cases_Bool (p x)) [
      | inl first ↦
          let one : cond {A = ℕ} (p x) 1 0 ≡ 1 = ap (λ b. cond {A = ℕ} b 1 0) first in
          absurd (omega (arith, count, one, some, few, get_or-le-sum_by (λ y. cond {A = ℕ} (p y) 1 0) xs i d behind))
      | inr fails ↦ rw fails (ap (λ ys. x ∷ ys) (only_out p xs i d behind here (omega (arith, count, few))))
    ]

-- an element that is found where no other passes: what stands before it and behind it
pub record IsBetween {X : Type 0} (p : X → Bool) (xs : List X) (x : X) : Type 0 where
  pub front : List X
  pub back : List X
  pub whole : xs ≡ front ++ x ∷ back
  pub rest : filter (λ y. not (p y)) xs ≡ front ++ back

pub only_between : {X : Type 0} (p : X → Bool) (xs : List X) (x : X) → find p xs ≡ Some x → count_by p xs ≤ 1 → IsBetween p xs x
only_between p [] x found few = absurd (none-some x found)
only_between p (y ∷ xs) x found few =
    let count = sum_by-cons (λ y. cond {A = ℕ} (p y) 1 0) y xs in
    elim (cases_Bool (p y)) [
      | inl here ↦
          let one : cond {A = ℕ} (p y) 1 0 ≡ 1 = ap (λ b. cond {A = ℕ} b 1 0) here in
          record {
            front = [];
            back = xs;
            whole = ap (λ z. z ∷ xs) (same_Some y x (rw here at found));
            rest = rw here (filter_past_none p xs (none_found p xs (omega (arith, count, one, few))));
          }
      | inr fails ↦
          let behind = only_between p xs x (rw fails at found) (omega (arith, count, few)) in
          record {
            front = y ∷ behind.front;
            back = behind.back;
            whole = ap (λ ys. y ∷ ys) behind.whole;
            rest = ap (λ b. cond b (y ∷ filter (λ z. not (p z)) xs) (filter (λ z. not (p z)) xs)) (ap not fails) ∙ ap (λ ys. y ∷ ys) behind.rest;
          }
    ]

-- another test of an element between others: where it passes and no other does, none of these does
pub none_beside : {X : Type 0} (q : X → Bool) (front : List X) (x : X) (back : List X) → q x ≡ true → count_by q (front ++ x ∷ back) ≤ 1 →
    (list_any q (front ++ x ∷ back) ≡ true) × (list_any q front ≡ false) × (list_any q back ≡ false)
none_beside {X} q front x back passes few =
    let f : X → ℕ = λ y. cond {A = ℕ} (q y) 1 0 in
    let one : cond {A = ℕ} (q x) 1 0 ≡ 1 = ap (λ b. cond {A = ℕ} b 1 0) passes in
    let all = sum_by-append f front (x ∷ back) in
    let behind = sum_by-cons f x back in
    (list_any-append q front (x ∷ back) ∙ or_right (list_any q front) (list_any q (x ∷ back)) (or_left (q x) (list_any q back) passes), none_any q front (omega (arith, one, all, behind, few)), none_any q back (omega (arith, one, all, behind, few)))
