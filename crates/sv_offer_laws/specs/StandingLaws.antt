use Rattle.std.specs.Prelude.{◌≡◌, ◌<◌, ◌≤◌, ◌↔◌, ℕ, Bool, true, false, ◌&&◌, ◌==◌, not, ◌∷◌, ◌++◌, IsTrue, length, All, AllPairs, Contains, List, Option, Some, None, option_map}
use Rattle.std.specs.List.{list_any}
use Rattle.sv_events.specs.Entry.{PlainEntry}
use Rattle.sv_events.specs.Row.{act_row}
use Rattle.sv_events.specs.declared.event.Act.{Act}
use Rattle.sv_events.specs.declared.row.Ending.{Ending}
use Rattle.sv_events.specs.declared.row.Ending.TheVariants.{One, All as AllOffers}
use Rattle.sv_rules.specs.declared.standing.Standing.{Standing}
use Rattle.apl_arrays.specs.Name.{same_name}
use Rattle.sv_events.specs.Fits.{is_degree}
use Rattle.sv_rules.specs.Entries.{Entries, next_place, kind_of}
use Rattle.sv_rules.specs.Standing.{standing, own_offer, offer_made}

-- the offer that an act of a party is at a place, where it is one
abbrev pub offer_of : ℕ → ℕ → Act → Option Standing
offer_of place party act = option_map (offer_made place party) (act_row act).row.opens

-- an ending is of all offers, or of this local name
abbrev pub ends_name : List ℕ → Option Ending → Bool
ends_name local None = false
ends_name local (Some (One ended)) = same_name local ended
ends_name local (Some AllOffers) = true

-- the entry ends the offer: it is a leave of its party, or a retraction of its local name by its party
abbrev pub ends_offer : Standing → PlainEntry → Bool
ends_offer offer e = e.party == offer.party && ends_name offer.local (act_row e.act).row.ends

-- the offer stands since an entry: it is the offer of this entry, which is answered with a degree; before it the party
-- had no standing offer of the local name; and no later entry of the party is a leave, or a retraction of that name
pub record StandsSince (before : Entries) (e : PlainEntry) (later : Entries) (offer : Standing) : Type 0 where
  pub offered : offer_of (next_place before) e.party e.act ≡ Some offer
  pub answered : IsTrue (is_degree (kind_of e.answer))
  pub first : own_offer (standing before) offer.party offer.local ≡ None
  pub kept : IsTrue (not (list_any (ends_offer offer) later))

-- the offer stands since some entry of the journal
abbrev pub Stands : Entries → Standing → Type 0
Stands journal offer = (before : Entries) × (e : PlainEntry) × (later : Entries) × (journal ≡ later ++ e ∷ before) × StandsSince before e later offer

-- the standing offers of a journal are those that stand since some entry
abbrev pub StandingOffersAreThoseThatStand : Type 0
StandingOffersAreThoseThatStand = (journal : Entries) (offer : Standing) → Contains (standing journal) offer ↔ Stands journal offer

-- each of them is at a place of the journal
abbrev pub OffersHavePlaces : Type 0
OffersHavePlaces = (journal : Entries) → All (λ offer. (1 ≤ offer.place) × (offer.place ≤ length journal)) (standing journal)

-- they come by place, and no two have one place
abbrev pub OffersComeByPlace : Type 0
OffersComeByPlace = (journal : Entries) → AllPairs (λ one other. one.place < other.place) (standing journal)

-- a party has no two of one local name
abbrev pub OffersAreOneForAName : Type 0
OffersAreOneForAName =
    (journal : Entries) (offer : Standing) → Contains (standing journal) offer → own_offer (standing journal) offer.party offer.local ≡ Some offer
