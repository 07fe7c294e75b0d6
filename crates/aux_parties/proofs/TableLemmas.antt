-- What is known of a party by its row of the table.
use Rattle.std.proofs.Common.{◌≡◌, ◌≢◌, ◌⊎◌, ◌||◌, ℕ, ◌<◌, ◌≤◌, Bool, true, false, cond, eqb, ltb, List, [], ◌∷◌, Option, Some, inl, inr, refl, sym, ap, subst, ◌∙◌, arith}
use Rattle.std.specs.Prelude.{◌↔◌, IsTrue, is_some}
use Rattle.std.specs.List.{AllByRecursion, list_all}
use Rattle.std.proofs.lemmas.Bool.{and_from, and_parts, cases_Bool, eqb-true, ltb-true, ne_eqb, or_cases, or_from}
use Rattle.std.proofs.lemmas.Option.{none-some, same_Some}
use Rattle.apl_arrays.specs.Parties.{first_user}
use Rattle.aux_parties.specs.Auxiliaries.{auxiliaries, auxiliary_at, auxiliary_row, clock_party, has_row, is_auxiliary, most_counters, party_of, row_among, text_party}
use Rattle.aux_parties.specs.declared.auxiliary.AuxiliaryKind.{AuxiliaryKind}
use Rattle.aux_parties.specs.declared.auxiliary.AuxiliaryKind.TheVariants.{Clock, TextFiles}
use Rattle.aux_parties.specs.declared.auxiliary.AuxiliaryRow.{AuxiliaryRow}

-- ---- rows

-- what holds of the party of each row holds of a party that has one
pub of_party : (P : ℕ → Type 0) (rows : List AuxiliaryRow) (party : ℕ) → AllByRecursion (λ (row : AuxiliaryRow). P row.party) rows → has_row rows party ≡ true → P party
of_party P [] party each is = absurd (let no : false ≡ true = is in cc)
of_party P (first ∷ rows) party each is = elim (or_cases (eqb first.party party) (has_row rows party) is) [
  | inl same ↦ subst P (eqb-true first.party party same) each.0
  | inr others ↦ of_party P rows party each.1 others
]

-- a row is found where there is one
by_first : (own : Bool) (first : AuxiliaryRow) (others : Option AuxiliaryRow) (has : Bool) → is_some others ≡ has → is_some (cond own (Some first) others) ≡ (own || has)
by_first true first others has same = refl
by_first false first others has same = same

is_found_among : (rows : List AuxiliaryRow) (party : ℕ) → is_some (row_among rows party) ≡ has_row rows party
is_found_among [] party = refl
is_found_among (first ∷ rows) party = by_first (eqb first.party party) first (row_among rows party) (has_row rows party) (is_found_among rows party)

-- a row that is found is the party's, and what holds of each row holds of it
pub found : (P : AuxiliaryRow → Type 0) (rows : List AuxiliaryRow) (party : ℕ) (row : AuxiliaryRow) → AllByRecursion P rows → row_among rows party ≡ Some row → (row.party ≡ party) × P row
found P [] party row each is = absurd (none-some row is)
found P (first ∷ rows) party row each is = elim (cases_Bool (eqb first.party party)) [
  | inl same ↦
      let here : first ≡ row = same_Some first row (sym (ap (λ (b : Bool). cond b (Some first) (row_among rows party)) same) ∙ is) in
      (ap (λ (r : AuxiliaryRow). r.party) (sym here) ∙ eqb-true first.party party same, subst P here each.0)
  | inr other ↦ found P rows party row each.1 (sym (ap (λ (b : Bool). cond b (Some first) (row_among rows party)) other) ∙ is)
]

-- rows below a number are none of a party from there on
none_from : (low party : ℕ) (rows : List AuxiliaryRow) → low ≤ party → list_all (λ (row : AuxiliaryRow). ltb row.party low) rows ≡ true → has_row rows party ≡ false
none_from low party [] least below = refl
none_from low party (first ∷ rows) least below =
    let parts = and_parts (ltb first.party low) (list_all (λ (row : AuxiliaryRow). ltb row.party low) rows) below in
    let less : first.party < low = ltb-true first.party low parts.0 in
    or_from (eqb first.party party) (has_row rows party) (ne_eqb first.party party (λ is. omega (arith, less, least, is))) (none_from low party rows least parts.1)

-- a test of all rows, row by row
pub each_passes : (test : AuxiliaryRow → Bool) (rows : List AuxiliaryRow) → list_all test rows ≡ true → AllByRecursion (λ (row : AuxiliaryRow). test row ≡ true) rows
each_passes test [] all = tt
each_passes test (first ∷ rows) all = let parts = and_parts (test first) (list_all test rows) all in (parts.0, each_passes test rows parts.1)

pub all_pass : (test : AuxiliaryRow → Bool) (rows : List AuxiliaryRow) → AllByRecursion (λ (row : AuxiliaryRow). test row ≡ true) rows → list_all test rows ≡ true
all_pass test [] each = refl
all_pass test (first ∷ rows) each = and_from (test first) (list_all test rows) each.0 (all_pass test rows each.1)

-- ---- the table

-- what holds of each auxiliary holds of the party of each row, and the other way round
pub of_rows : (P : ℕ → Type 0) → ((kind : AuxiliaryKind) → P (party_of kind)) → AllByRecursion (λ (row : AuxiliaryRow). P row.party) auxiliaries
of_rows P each = (each Clock, (each TextFiles, tt))

pub of_kinds : (P : ℕ → Type 0) → AllByRecursion (λ (row : AuxiliaryRow). P row.party) auxiliaries → (kind : AuxiliaryKind) → P (party_of kind)
of_kinds P each Clock = each.0
of_kinds P each TextFiles = each.1.0

-- each row is that of an auxiliary
pub kinds_are_auxiliaries : (kind : AuxiliaryKind) → IsTrue (is_auxiliary (party_of kind))
kinds_are_auxiliaries Clock = refl
kinds_are_auxiliaries TextFiles = refl

-- and of another number than the others
pub kinds_differ : (kind other : AuxiliaryKind) → kind ≢ other → party_of kind ≢ party_of other
kinds_differ Clock Clock differ same = differ refl
kinds_differ Clock TextFiles differ same = let no : clock_party ≡ text_party = same in omega arith
kinds_differ TextFiles Clock differ same = let no : text_party ≡ clock_party = same in omega arith
kinds_differ TextFiles TextFiles differ same = differ refl

-- as many counter-offers may stand as the row says
pub rows_allow : (kind : AuxiliaryKind) → most_counters (party_of kind) ≡ (auxiliary_row kind).counters
rows_allow Clock = refl
rows_allow TextFiles = refl

-- an auxiliary has a row
pub kind_of_party : (party : ℕ) → IsTrue (is_auxiliary party) → (kind : AuxiliaryKind) × (party_of kind ≡ party)
kind_of_party party is = of_party (λ (number : ℕ). (kind : AuxiliaryKind) × (party_of kind ≡ number)) auxiliaries party ((Clock, refl), ((TextFiles, refl), tt)) is

-- and it is found
pub is_found : (party : ℕ) → is_some (auxiliary_at party) ≡ is_auxiliary party
is_found party = is_found_among auxiliaries party

-- a row that is found for a party is its own
pub kind_found : (party : ℕ) (row : AuxiliaryRow) → auxiliary_at party ≡ Some row → party_of row.kind ≡ party
kind_found party row is =
    let own = found (λ (r : AuxiliaryRow). party_of r.kind ≡ r.party) auxiliaries party row (refl, (refl, tt)) is in own.1 ∙ own.0

-- the number of an auxiliary is lower than that of each user
pub auxiliaries_are_low : (number : ℕ) → IsTrue (is_auxiliary number) → number < first_user
auxiliaries_are_low number is =
    let clock : clock_party < first_user = omega arith in
    let text : text_party < first_user = omega arith in of_party (λ (n : ℕ). n < first_user) auxiliaries number (clock, (text, tt)) is

-- no user is an auxiliary
pub users_are_no_auxiliaries : (number : ℕ) → first_user ≤ number → is_auxiliary number ≡ false
users_are_no_auxiliaries number least = none_from first_user number auxiliaries least refl

-- the auxiliaries are 10 and 20
pub ten_or_twenty : (party : ℕ) → IsTrue (is_auxiliary party) ↔ ((party ≡ 10) ⊎ (party ≡ 20))
ten_or_twenty party = ((λ is. of_party (λ (number : ℕ). (number ≡ 10) ⊎ (number ≡ 20)) auxiliaries party (inl refl, (inr refl, tt)) is), back)
  where
    back : (party ≡ 10) ⊎ (party ≡ 20) → is_auxiliary party ≡ true
    back (inl is) = ap (λ (number : ℕ). is_auxiliary number) is
    back (inr is) = ap (λ (number : ℕ). is_auxiliary number) is
