-- Lists of the places of offers, by the party that these are made to and by their surrogates.
use Rattle.std.specs.Prelude.{◌≡◌, ℕ, Bool, true, ◌==◌, ◌&&◌, List, [], filter, map, not, Option, Some, None, option_map, if◌then◌else◌}
use Rattle.std.specs.HashMap.{get}
use Rattle.std.specs.Option.{option_eq, unwrap_or}
use Rattle.apl_arrays.specs.Name.{same_name}
use Rattle.sv_offers.specs.declared.addressed.Addressed.{Addressed}
use Rattle.sv_rules.specs.declared.standing.Standing.{Standing}

-- two keys of lists are the same: the parties, and the surrogates where the lists are of one
abbrev pub same_list : (ℕ × Option (List ℕ)) → (ℕ × Option (List ℕ)) → Bool
same_list one other = one.0 == other.0 && option_eq same_name one.1 other.1

-- the offer is of this surrogate, where one is asked for
abbrev pub is_under : Option (List ℕ) → Standing → Bool
is_under None offer = true
is_under (Some surrogate) offer = same_name offer.surrogate surrogate

-- the offer is made to a party by its number, and of this surrogate, where one is asked for
abbrev pub is_made_to : ℕ → Option (List ℕ) → Standing → Bool
is_made_to party surrogate offer = offer.to == party && is_under surrogate offer

-- the places of a list, none where there is no list
abbrev pub listed_at : Addressed → ℕ → Option (List ℕ) → List ℕ
listed_at addressed party surrogate = unwrap_or (get same_list addressed.lists (party, surrogate)) []

-- the places but one
abbrev pub other_places : List ℕ → ℕ → List ℕ
other_places places place = filter (λ other. not (other == place)) places

-- one list is another now, if it is there; the others are as before
abbrev pub ChangesList : Addressed → Addressed → (ℕ × Option (List ℕ)) → (List ℕ → List ℕ) → Type 0
ChangesList old new key change = (list : ℕ × Option (List ℕ)) → get same_list new.lists list
    ≡ (if same_list key list then option_map change (get same_list old.lists list) else get same_list old.lists list)

-- all lists are as before
abbrev pub KeepsLists : Addressed → Addressed → Type 0
KeepsLists old new = (list : ℕ × Option (List ℕ)) → get same_list new.lists list ≡ get same_list old.lists list

-- the places of the offers that are made to a party, of one surrogate or of all
abbrev pub places_to : List Standing → ℕ → Option (List ℕ) → List ℕ
places_to offers party surrogate = map (λ offer. offer.place) (filter (is_made_to party surrogate) offers)

-- the lists have the places of those of these offers that are made to each party, of all surrogates and of each
abbrev pub HasMadeTo : Addressed → List Standing → Type 0
HasMadeTo addressed offers = (party : ℕ) (surrogate : Option (List ℕ)) → listed_at addressed party surrogate ≡ places_to offers party surrogate
