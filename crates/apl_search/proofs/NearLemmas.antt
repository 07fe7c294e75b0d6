-- The first place of a number among numbers that lie close together, by its distance from the least of them.
use Rattle.std.proofs.Common.{◌≡◌, ℕ, ◌<◌, ◌≤◌, ◌≤ℤ◌, ◌<ℤ◌, ℤ, All, List, length, get_or, sym, ap, subst, ◌∙◌, inl, inr, arith, zero-add, eq-eqb, ne_eqb}
use Rattle.std.specs.List.{position_or_len}
use Rattle.std.specs.Ordering.{int_eq}
use Rattle.std.proofs.lemmas.Bool.{cases_eq, false_from_ne_true}
use Rattle.std.proofs.lemmas.Int.{ints}
use Rattle.std.proofs.lemmas.Bool.Decides.{Decides-int_eq}
use Rattle.std.proofs.lemmas.List.Sums.{position_or_len_is}
use Rattle.apl_search.specs.Classes.{AreFirsts, AreFirstsFromLeast, first_from, is_of}
use Rattle.apl_search.specs.Distances.{IsSpan, distance}
use Rattle.apl_search.proofs.ClassLemmas.{same_position}
use Rattle.apl_search.proofs.SpanLemmas.{near_from_least}

-- two numbers on one side of a base and as far from it are one
same_from_distance : (base a b : ℤ) → base ≤ℤ a → base ≤ℤ b → distance base a ≡ distance base b → a ≡ b
same_from_distance base a b p q e = omega (arith, ints)

told_by_distance : (base number x : ℤ) → base ≤ℤ number → base ≤ℤ x → is_of (distance base) (distance base number) x ≡ int_eq number x
told_by_distance base number x p q = elim (cases_eq (distance base x) (distance base number)) [
  | inl e ↦ eq-eqb (distance base x) (distance base number) e ∙ sym ((Decides-int_eq number x).1 (sym (same_from_distance base x number q p e)))
  | inr ne ↦
      ne_eqb (distance base x) (distance base number) ne
      ∙ sym (false_from_ne_true (int_eq number x) (λ h. ne (ap (distance base) (sym ((Decides-int_eq number x).0 h)))))
]

-- the first place at the distance of a number is the first place of the number
pub first_of_number : (base number : ℤ) (list : List ℤ) → base ≤ℤ number → All (λ x. base ≤ℤ x) list → first_from (distance base) list 0 (distance base number) ≡ position_or_len (int_eq number) list
first_of_number base number list p above =
    zero-add (position_or_len (is_of (distance base) (distance base number)) list)
    ∙ same_position (is_of (distance base) (distance base number)) (int_eq number) list (λ k d below. told_by_distance base number (get_or list k d) p (above k d below))

nowhere : (number : ℤ) (list : List ℤ) → All (λ x. number ≡ x → ⊥) list → position_or_len (int_eq number) list ≡ length list
nowhere number list none =
    position_or_len_is (int_eq number) list (length list) number (omega arith)
    (λ k below. false_from_ne_true (int_eq number (get_or list k number)) (λ h. none k number below ((Decides-int_eq number (get_or list k number)).0 h))) (λ h. absurd (omega arith))

-- a number that is less than all is nowhere
pub nowhere_below : (base number : ℤ) (list : List ℤ) → number <ℤ base → All (λ x. base ≤ℤ x) list → position_or_len (int_eq number) list ≡ length list
nowhere_below base number list less above = nowhere number list (λ k d below e. apart (get_or list k d) (above k d below) e)
  where
    apart : (x : ℤ) → base ≤ℤ x → number ≡ x → ⊥
    apart x p e = let q : base ≤ℤ number = subst (λ (y : ℤ). base ≤ℤ y) (sym e) p in absurd (omega (arith, ints))

-- a number that is farther from the base than all is nowhere
pub nowhere_beyond : (base number : ℤ) (list : List ℤ) (span : ℕ) → span ≤ distance base number → All (λ x. distance base x < span) list → position_or_len (int_eq number) list ≡ length list
nowhere_beyond base number list span far near = nowhere number list (λ k d below e. apart (get_or list k d) (near k d below) e)
  where
    apart : (x : ℤ) → distance base x < span → number ≡ x → ⊥
    apart x p e = let same = ap (distance base) e in absurd (omega arith)

pub from_least : (list : List ℤ) (least greatest other : ℤ) (count : ℕ) (firsts : List ℕ) → IsSpan list least greatest count → other ≡ least → length firsts ≡ count
    → AreFirsts (distance other) list firsts → AreFirstsFromLeast list other firsts
from_least list least greatest other count firsts span same wide made =
    subst (λ (b : ℤ). AreFirsts (distance b) list firsts → AreFirstsFromLeast list b firsts) (sym same)
    (λ are. record {
      above = span.above;
      near = λ k d below. nearer k d (near_from_least list least greatest count span k d below);
      first = are;
    }) made
  where
    nearer : (k : ℕ) (d : ℤ) → distance least (get_or list k d) < count → distance least (get_or list k d) < length firsts
    nearer k d near = omega arith
