-- A join of vectors has the items of the one and then those of the other.
use Rattle.std.proofs.Common.{◌≡◌, ℕ, ℤ, ◌+◌, ◌-◌, ◌*◌, ◌<◌, ◌≤◌, ◌==◌, ◌&&◌, ◌++◌, Bool, true, false, not, cond, nat_lt, List, [], ◌∷◌, Option, Some, None, Ok, is_some, length, refl, sym, ap, ◌∙◌, arith}
use Rattle.std.proofs.lemmas.Bool.Decides.{nat_tests}
use Rattle.std.proofs.lemmas.List.{length-append}
use Rattle.std.proofs.lemmas.List.Elements.{All-cons, All-nil}
use Rattle.apl_arrays.specs.declared.array.ShapeFault.{ShapeFault}
use Rattle.apl_arrays.specs.declared.report.Report.{Report}
use Rattle.apl_arrays.specs.Array.{PlainItems, FitsLimits, numbers, chars, is_chars, item_count}
use Rattle.apl_arrays.specs.Shape.{shape_fault}
use Rattle.apl_arrays.proofs.Shapes.{what_fits_has_no_fault}
use Rattle.apl_items.specs.Answers.{first_report, no_faults, unless}
use Rattle.apl_items.specs.Extension.{place_in}
use Rattle.apl_items.specs.Moves.{moved_items}
use Rattle.apl_selection.specs.Catenation.{both_items, catenate_of, catenated, catenated_place, kinds_clash}
use Rattle.apl_selection.specs.Vectors.{as_vector}
use Rattle.apl_selection.proofs.BackLemmas.{items_stay, split_of}
use Rattle.apl_selection.proofs.FaultLemmas.{lone_place}
use Rattle.apl_selection.proofs.JoinRowLemmas.{in_a, in_b}
use Rattle.apl_selection.proofs.MoveLemmas.{array_of, same_moved}

-- the shape of a vector
pub vector_fits : (n : ℕ) → n ≤ 16384 → FitsLimits (n ∷ [])
vector_fits n few = record { rank = omega arith; axes = All-cons (λ axis. axis ≤ 16384) n [] few (All-nil (λ axis. axis ≤ 16384)); elements = omega arith }

-- each place of the join is its own among the items of both
own_place_by : (m n place : ℕ) (first : Bool) → nat_lt place m ≡ first → place < m + n → catenated_place (split_of 1 (m + n) 1) m n m n place ≡ place
own_place_by m n place true e below =
    let low : place < m = grind (arith, nat_tests) in
    let start : 0 * ((m + n) * 1) + place ≡ place = omega arith in
    let same : 0 * (m * 1) + place ≡ place = omega arith in
    ap (catenated_place (split_of 1 (m + n) 1) m n m n) (sym start)
    ∙ in_a (split_of 1 (m + n) 1) m n m n 0 place refl (omega arith) ∙ ap (place_in m) same ∙ lone_place m place low
own_place_by m n place false e below =
    let past : m ≤ place = grind (arith, nat_tests) in
    let rest : ℕ = place - m in
    let start : 0 * ((m + n) * 1) + (m * 1 + rest) ≡ place = omega arith in
    let same : 0 * (n * 1) + rest ≡ rest = omega arith in
    let low : rest < n = omega arith in
    let whole : m + rest ≡ place = omega arith in
    ap (catenated_place (split_of 1 (m + n) 1) m n m n) (sym start)
    ∙ in_b (split_of 1 (m + n) 1) m n m n 0 rest refl (omega arith) ∙ ap (λ (k : ℕ). m + place_in n k) same ∙ ap (λ (k : ℕ). m + k) (lone_place n rest low) ∙ whole

join_by : (a b both : PlainItems) → item_count a + item_count b ≤ 16384 → kinds_clash a b ≡ false → both_items a b ≡ both → item_count both ≡ item_count a + item_count b
    → catenate_of (as_vector a) (as_vector b) None ≡ Ok (as_vector both)
join_by a b both few kinds is whole =
    let m : ℕ = item_count a in
    let n : ℕ = item_count b in
    let total : 1 * (m + n) ≡ item_count both = omega arith in
    let told : ℕ → Option ℕ = λ place. Some (catenated_place (split_of 1 (m + n) 1) m n m n place) in
    let sound : first_report (record no_faults { bad_domain = kinds_clash a b; too_large = is_some (shape_fault ((m + n) ∷ [])) }) ≡ None =
    ap (λ (clash : Bool). first_report (record no_faults { bad_domain = clash; too_large = is_some (shape_fault ((m + n) ∷ [])) })) kinds
    ∙ ap (λ (fault : Option ShapeFault). first_report (record no_faults { too_large = is_some fault })) (what_fits_has_no_fault ((m + n) ∷ []) (vector_fits (m + n) few)) in
    ap (λ (report : Option Report). unless report (catenated (as_vector a) (as_vector b) 0)) sound
    ∙ ap (λ (items : PlainItems). Ok (array_of ((m + n) ∷ []) (moved_items items (1 * (m + n)) told))) is
    ∙ ap (λ (count : ℕ). Ok (array_of ((m + n) ∷ []) (moved_items both count told))) total
    ∙ ap (λ (items : PlainItems). Ok (array_of ((m + n) ∷ []) items))
    (same_moved both (item_count both) told (λ place. Some place) (λ place h. ap (λ (k : ℕ). Some k) (own_place_by m n place (nat_lt place m) refl (omega arith))) ∙ items_stay both)
    ∙ ap (λ (count : ℕ). Ok (array_of (count ∷ []) both)) (sym whole)

both_numbers : (a b : List ℤ) → both_items (numbers a) (numbers b) ≡ numbers (a ++ b)
both_numbers a b = by_kind (length b == 0 && not (length a == 0))
  where
    by_kind : (first : Bool) → cond (is_chars (cond first (numbers a) (numbers b))) (chars []) (numbers (a ++ b)) ≡ numbers (a ++ b)
    by_kind true = refl
    by_kind false = refl

both_chars : (a b : List ℕ) → both_items (chars a) (chars b) ≡ chars (a ++ b)
both_chars a b = by_kind (length b == 0 && not (length a == 0))
  where
    by_kind : (first : Bool) → cond (is_chars (cond first (chars a) (chars b))) (chars (a ++ b)) (numbers []) ≡ chars (a ++ b)
    by_kind true = refl
    by_kind false = refl

pub numbers_joined : (a b : List ℤ) → length a + length b ≤ 16384 → catenate_of (as_vector (numbers a)) (as_vector (numbers b)) None ≡ Ok (as_vector (numbers (a ++ b)))
numbers_joined a b few = join_by (numbers a) (numbers b) (numbers (a ++ b)) few refl (both_numbers a b) (length-append a b)

pub chars_joined : (a b : List ℕ) → length a + length b ≤ 16384 → catenate_of (as_vector (chars a)) (as_vector (chars b)) None ≡ Ok (as_vector (chars (a ++ b)))
chars_joined a b few = join_by (chars a) (chars b) (chars (a ++ b)) few refl (both_chars a b) (length-append a b)
