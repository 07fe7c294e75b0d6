-- Offers by the party that each is made to, 0 where it is made to any, by the party that made it, and by place.
use Rattle.std.specs.List.{list_any}
use Rattle.std.specs.Prelude.{◌≡◌, ◌==◌, ◌&&◌, ◌-◌, ◌^◌, ℕ, Bool, true, nat_lt, List, Option, Some, None}
use Rattle.std.specs.BTreeSet.{contains}
use Rattle.std.specs.Ordering.{nat_cmp, ordering_then}
use Rattle.std.specs.declared.cmp.Ordering.{Ordering}
use Rattle.std.specs.declared.ops.Bound.{Bound}
use Rattle.std.specs.declared.ops.Bound.TheVariants.{Excluded, Included}
use Rattle.sv_offers.specs.declared.senders.Senders.{Senders}
use Rattle.sv_rules.specs.declared.standing.Standing.{Standing}

-- in order: by the party that an offer is made to, then by the party that made it, then by place
abbrev pub key_order : (ℕ × ℕ × ℕ) → (ℕ × ℕ × ℕ) → Ordering
key_order one other = ordering_then (ordering_then (nat_cmp one.0 other.0) (nat_cmp one.1 other.1)) (nat_cmp one.2 other.2)

-- the set has an offer to a party from another, at a place
abbrev pub has_sent : Senders → ℕ → ℕ → ℕ → Bool
has_sent senders to from place = contains key_order senders.sent (to, from, place)

-- the offer is to a party from another, at a place
abbrev pub is_sent : ℕ → ℕ → ℕ → Standing → Bool
is_sent to from place offer = (offer.to == to && offer.party == from) && offer.place == place

-- the set has these offers
abbrev pub HasSent : Senders → List Standing → Type 0
HasSent senders offers = (to from place : ℕ) → has_sent senders to from place ≡ list_any (is_sent to from place) offers

-- a party is above the last one; where there is no last one, each is
abbrev pub is_party_above : Option ℕ → ℕ → Bool
is_party_above None party = true
is_party_above (Some last) party = nat_lt last party

-- where the offers to a party begin, or where those of one that made some end
abbrev pub start_after : ℕ → Option ℕ → Bound (ℕ × ℕ × ℕ)
start_after to None = Included (to, 0, 0)
start_after to (Some last) = Excluded (to, last, 2 ^ 64 - 1)
