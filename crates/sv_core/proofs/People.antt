-- Users are no auxiliaries.
use Rattle.std.proofs.Common.{◌∙◌, ◌∷◌, ◌≡◌, List, [], ap, eqb, false, inl, inr, leb, sym, true, ℕ}
use Rattle.std.specs.Prelude.{All}
use Rattle.std.proofs.lemmas.Bool.{and_parts, eqb-true, leb-true, or_cases}
use Rattle.std.proofs.lemmas.List.Elements.{All-head, All-tail, All-weaker}
use Rattle.apl_arrays.specs.Parties.{first_user, is_user_number, last_user}
use Rattle.sv_rules.specs.Legal.{is_user}
use Rattle.aux_parties.specs.Auxiliaries.{is_auxiliary}
use Rattle.aux_parties.proofs.TableLemmas.{users_are_no_auxiliaries}
use Rattle.sv_core.specs.Core.{ArePeople}

-- a user's number is no auxiliary's
no_auxiliary : (number : ℕ) → is_user_number number ≡ true → is_auxiliary number ≡ false
no_auxiliary number is = users_are_no_auxiliaries number (leb-true first_user number (and_parts (leb first_user number) (leb number last_user) is).0)

-- no user is an auxiliary: each of all, and one that is asked for
pub no_auxiliaries : (users : List ℕ) → ArePeople users → All (λ user. is_auxiliary user ≡ false) users
no_auxiliaries users people = All-weaker (λ (user : ℕ). is_user_number user ≡ true) (λ (user : ℕ). is_auxiliary user ≡ false) no_auxiliary users people

pub people_are : (users : List ℕ) → ArePeople users → (party : ℕ) → is_user users party ≡ true → is_auxiliary party ≡ false
people_are [] people party is = cc
people_are (user ∷ users) people party is = elim (or_cases (eqb user party) (is_user users party) is) [
  | inl now ↦ ap is_auxiliary (sym (eqb-true user party now)) ∙ no_auxiliary user (All-head (λ (u : ℕ). is_user_number u ≡ true) user users people)
  | inr later ↦ people_are users (All-tail (λ (u : ℕ). is_user_number u ≡ true) user users people) party later
]
