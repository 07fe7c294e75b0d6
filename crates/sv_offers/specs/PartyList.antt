-- Lists of offers by a party.
use Rattle.std.specs.Prelude.{◌≡◌, ◌<◌, ℕ, ◌==◌, List, [], filter, nat_eq, vec_len, vec_capacity}
use Rattle.std.specs.HashMap.{get}
use Rattle.std.specs.Option.{IsSomeAnd, option_map_or}
use Rattle.sv_offers.specs.declared.lists.PartyLists.{PartyLists}
use Rattle.sv_rules.specs.declared.standing.Standing.{Standing}

-- the offers of a party's list, none where it has no list
abbrev pub list_at : PartyLists → ℕ → List Standing
list_at lists party = option_map_or (λ list. list.items) (get nat_eq lists.lists party) []

-- there is room for one offer more of a party
abbrev pub HasRoom : PartyLists → ℕ → Type 0
HasRoom lists party = IsSomeAnd (get nat_eq lists.lists party) (λ list. vec_len list < vec_capacity list)

-- each party's list has its own of these offers
abbrev pub HasOwn : PartyLists → List Standing → Type 0
HasOwn lists offers = (party : ℕ) → list_at lists party ≡ filter (λ offer. offer.party == party) offers
