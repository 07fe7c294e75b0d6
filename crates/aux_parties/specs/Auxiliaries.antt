-- The auxiliary parties: a table.
use Rattle.std.specs.Prelude.{ℕ, Bool, ◌==◌, List, [], ◌∷◌, find, Option}
use Rattle.std.specs.List.{list_any}
use Rattle.std.specs.Option.{option_map_or}
use Rattle.apl_arrays.specs.Limits.{most_offers}
use Rattle.aux_parties.specs.declared.auxiliary.AuxiliaryKind.{AuxiliaryKind}
use Rattle.aux_parties.specs.declared.auxiliary.AuxiliaryKind.TheVariants.{Clock, TextFiles}
use Rattle.aux_parties.specs.declared.auxiliary.AuxiliaryRow.{AuxiliaryRow}

-- the party that answers with readings of the clock
abbrev pub clock_party : ℕ
clock_party = 10

-- the party that reads and writes text files
abbrev pub text_party : ℕ
text_party = 20

-- the table: what an auxiliary is, its number, and how many of its counter-offers may stand
abbrev pub auxiliary_row : AuxiliaryKind → AuxiliaryRow
auxiliary_row Clock = record { kind = Clock; party = clock_party; counters = most_offers }
auxiliary_row TextFiles = record { kind = TextFiles; party = text_party; counters = 1 }

-- its rows, in the order in which they have their turns
abbrev pub auxiliaries : List AuxiliaryRow
auxiliaries = auxiliary_row Clock ∷ auxiliary_row TextFiles ∷ []

-- the number of an auxiliary
abbrev pub party_of : AuxiliaryKind → ℕ
party_of kind = (auxiliary_row kind).party

-- one of these rows is the party's
abbrev pub has_row : List AuxiliaryRow → ℕ → Bool
has_row rows party = list_any (λ row. row.party == party) rows

-- the row of a party among some rows, if it has one
abbrev pub row_among : List AuxiliaryRow → ℕ → Option AuxiliaryRow
row_among rows party = find (λ row. row.party == party) rows

-- the row of a party, if it is an auxiliary
abbrev pub auxiliary_at : ℕ → Option AuxiliaryRow
auxiliary_at party = row_among auxiliaries party

-- the party is an auxiliary: the table has a row for it
abbrev pub is_auxiliary : ℕ → Bool
is_auxiliary party = has_row auxiliaries party

-- how many counter-offers of an auxiliary may stand, as the table has it; of another party none
abbrev pub most_counters : ℕ → ℕ
most_counters party = option_map_or (λ row. row.counters) (auxiliary_at party) 0
