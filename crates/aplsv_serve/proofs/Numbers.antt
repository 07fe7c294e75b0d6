-- The numbers of all parties ascend.
use Rattle.std.proofs.Common.{◌≡◌, ℕ, ◌<◌, ◌≤◌, ◌∷◌, List, [], length, IsTrue, sym, arith, subst}
use Rattle.std.specs.Prelude.{All, AllPairs, nat_le}
use Rattle.std.proofs.lemmas.Bool.{and_parts, leb-true}
use Rattle.std.proofs.lemmas.List.Elements.{All-cons, All-head, All-nil, All-weaker}
use Rattle.std.proofs.lemmas.List.Kept.{AllPairs-cons}
use Rattle.apl_arrays.specs.Ascending.{Ascend}
use Rattle.apl_arrays.specs.Parties.{first_user, is_user_number, last_user}
use Rattle.aux_parties.specs.Auxiliaries.{clock_party, text_party}
use Rattle.sv_core.specs.Core.{ArePeople}

-- each is above the first
above_first : (x : ℕ) (xs : List ℕ) → Ascend (x ∷ xs) → All (λ y. x < y) xs
above_first x [] h = All-nil (λ (y : ℕ). x < y)
above_first x (y ∷ xs) h = All-cons (λ (z : ℕ). x < z) y xs h.0 (All-weaker (λ (z : ℕ). y < z) (λ (z : ℕ). x < z) (λ z more. let first : x < y = h.0 in omega arith) xs (above_first y xs h.1))

others_ascend : (x : ℕ) (xs : List ℕ) → Ascend (x ∷ xs) → Ascend xs
others_ascend x [] h = tt
others_ascend x (y ∷ xs) h = h.1

all_pairs : (xs : List ℕ) → Ascend xs → AllPairs (λ x y. x < y) xs
all_pairs [] h = λ i j d lower low. absurd (omega arith)
all_pairs (x ∷ xs) h = AllPairs-cons (λ (a b : ℕ). a < b) x xs (above_first x xs h) (all_pairs xs (others_ascend x xs h))

-- users' numbers follow the auxiliaries'
behind_auxiliaries : (users : List ℕ) → ArePeople users → Ascend users → Ascend (clock_party ∷ text_party ∷ users)
behind_auxiliaries [] people h = (omega arith, tt)
behind_auxiliaries (u ∷ users) people h =
    let first = All-head (λ (n : ℕ). IsTrue (is_user_number n)) u users people in
    let least : first_user ≤ u = leb-true first_user u (and_parts (nat_le first_user u) (nat_le u last_user) first).0 in
    (omega arith, (omega arith, h))

-- parties that a turnstile may give seats
pub record AreInOrder (parties : List ℕ) : Type 0 where
  pub some : 0 < length parties
  pub each : All (λ party. 0 < party) parties
  pub ascend : AllPairs (λ party next. party < next) parties

pub in_order : (users parties : List ℕ) → ArePeople users → Ascend users → parties ≡ clock_party ∷ text_party ∷ users → AreInOrder parties
in_order users parties people ascending is =
    let all = behind_auxiliaries users people ascending in
    subst (λ (numbers : List ℕ). AreInOrder numbers) (sym is)
    (record {
      some = omega arith;
      each = All-cons (λ (n : ℕ). 0 < n) clock_party (text_party ∷ users) (omega arith) (All-weaker (λ (n : ℕ). clock_party < n) (λ (n : ℕ). 0 < n) (λ n more. omega arith) (text_party ∷ users) (above_first clock_party (text_party ∷ users) all));
      ascend = all_pairs (clock_party ∷ text_party ∷ users) all;
    })
