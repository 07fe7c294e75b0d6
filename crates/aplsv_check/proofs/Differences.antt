-- Lines beside others: how far they are the same, and the first in which they differ.
use Rattle.std.proofs.Common.{◌≡◌, ℕ, zero, suc, ◌+◌, ◌<◌, ◌≤◌, max, List, [], ◌∷◌, ◌++◌, length, take, drop, refl, sym, ap, ap₂, ◌∙◌, arith, add-one}
use Rattle.std.proofs.lemmas.List.{length-take-le, take-append-drop}
use Rattle.std.proofs.lemmas.Option.{none-some, same_Some}
use Rattle.std.specs.Prelude.{slice_get}
use Rattle.apl_arrays.specs.List.{first_of}
use Rattle.check_rules.specs.Saw.{DifferAt}

-- lines and others have so many in common
pub record AreSameUpTo (lines others : List (List ℕ)) (at : ℕ) : Type 0 where
  pub here : at ≤ length lines
  pub there : at ≤ length others
  pub same : take at lines ≡ take at others

pub none_yet : (lines others : List (List ℕ)) → AreSameUpTo lines others 0
none_yet lines others = record { here = omega arith; there = omega arith; same = refl }

-- one more
grown : (lines others : List (List ℕ)) (at : ℕ) → at < max (length lines) (length others) → slice_get lines at ≡ slice_get others at → AreSameUpTo lines others at → AreSameUpTo lines others (suc at)
grown [] [] at less same so = absurd (omega (arith, less))
grown [] (other ∷ others) zero less same so = absurd (none-some other same)
grown [] (other ∷ others) (suc at) less same so = absurd (omega (arith, so.here))
grown (line ∷ lines) [] zero less same so = absurd (none-some line (sym same))
grown (line ∷ lines) [] (suc at) less same so = absurd (omega (arith, so.there))
grown (line ∷ lines) (other ∷ others) zero less same so = record { here = omega arith; there = omega arith; same = ap (λ (l : List ℕ). l ∷ []) (same_Some line other same) }
grown (line ∷ lines) (other ∷ others) (suc at) less same so =
    let is : line ∷ take at lines ≡ other ∷ take at others = so.same in
    let next = grown lines others at (omega (arith, less)) same (record { here = omega (arith, so.here); there = omega (arith, so.there); same = cc }) in
    record { here = omega (arith, next.here); there = omega (arith, next.there); same = ap₂ (λ (l : List ℕ) (list : List (List ℕ)). l ∷ list) (cc) next.same }

pub one_more : (lines others : List (List ℕ)) (at : ℕ) → at < max (length lines) (length others) → slice_get lines at ≡ slice_get others at → AreSameUpTo lines others at → AreSameUpTo lines others (at + 1)
one_more lines others at less same so = rw add-one (grown lines others at less same so)

-- the next differs
first_dropped : (lines : List (List ℕ)) (at : ℕ) → first_of (drop at lines) ≡ slice_get lines at
first_dropped [] zero = refl
first_dropped [] (suc at) = refl
first_dropped (line ∷ lines) zero = refl
first_dropped (line ∷ lines) (suc at) = first_dropped lines at

pub differ_there : (lines others : List (List ℕ)) (at : ℕ) → (slice_get lines at ≡ slice_get others at → ⊥) → AreSameUpTo lines others at → DifferAt lines others (at + 1)
differ_there lines others at unlike so = record {
  common = take at lines;
  rest = drop at lines;
  left = drop at others;
  one = sym (take-append-drop at lines);
  other = sym (take-append-drop at others) ∙ ap (λ (front : List (List ℕ)). front ++ drop at others) (sym so.same);
  counted = ap (λ (n : ℕ). n + 1) (sym (length-take-le at lines so.here));
  differ = λ e. unlike (sym (first_dropped lines at) ∙ (e ∙ first_dropped others at));
}

-- none differs
all_same : (lines others : List (List ℕ)) (at : ℕ) → length lines ≤ at → length others ≤ at → take at lines ≡ take at others → lines ≡ others
all_same [] [] at one two same = refl
all_same [] (other ∷ others) zero one two same = absurd (omega (arith, two))
all_same [] (other ∷ others) (suc at) one two same = absurd (let no : [] ≡ other ∷ take at others = same in cc)
all_same (line ∷ lines) others zero one two same = absurd (omega (arith, one))
all_same (line ∷ lines) [] (suc at) one two same = absurd (let no : line ∷ take at lines ≡ [] = same in cc)
all_same (line ∷ lines) (other ∷ others) (suc at) one two same =
    let is : line ∷ take at lines ≡ other ∷ take at others = same in
    let rest : lines ≡ others = all_same lines others at (omega (arith, one)) (omega (arith, two)) cc in
    ap₂ (λ (l : List ℕ) (list : List (List ℕ)). l ∷ list) (cc) rest

pub same_to_the_end : (lines others : List (List ℕ)) (at : ℕ) → max (length lines) (length others) ≤ at → AreSameUpTo lines others at → lines ≡ others
same_to_the_end lines others at over so = all_same lines others at (omega (arith, over)) (omega (arith, over)) so.same
