-- Tests of lists of numbers.
use Rattle.std.proofs.Common.{◌≡◌, ◌↔◌, ℕ, List, Bool, true, false, IsTrue, Contains, eqb, refl, sym}
use Rattle.std.specs.List.{list_any}
use Rattle.std.specs.Cmp.{unsigned_Decides}
use Rattle.std.proofs.lemmas.Map.Made.{is_member-Decides}

-- an answer that says whether a list has a number is the test of its members
pub any_from_contains : (numbers : List ℕ) (number : ℕ) (found : Bool) → IsTrue found ↔ Contains numbers number → found ≡ list_any (λ other. eqb number other) numbers
any_from_contains numbers number true says =
    sym ((is_member-Decides unsigned_Decides numbers number).1 (says.0 refl))
any_from_contains numbers number false says =
    let decides = is_member-Decides unsigned_Decides numbers number in
    cases (list_any (λ other. eqb number other) numbers) (λ yes. decides.0 yes)
  where
    cases : (b : Bool) → (b ≡ true → Contains numbers number) → false ≡ b
    cases true has = says.1 (has refl)
    cases false has = refl
