-- Entries gone through, one entry later.
use Rattle.std.proofs.Common.{◌≡◌, refl, sym, ap₂, ◌∙◌, ◌+◌, ℕ, Bool, ◌&&◌, not, List, ◌∷◌, ◌++◌, length}
use Rattle.std.specs.Prelude.{filter}
use Rattle.std.proofs.lemmas.List.Elements.{filter-append}
use Rattle.sv_events.specs.Entry.{PlainEntry}
use Rattle.sv_events.specs.Row.{act_row}
use Rattle.sv_offer_laws.specs.LegalLaws.{made_at}
use Rattle.sv_rules.specs.Coupling.{both_stand, has_place, made_in}
use Rattle.sv_rules.specs.Entries.{Entries, kind_of}
use Rattle.sv_rules.specs.Standing.{standing, standing_after}
use Rattle.sv_rules.specs.Story.{coupling_ends}
use Rattle.sv_rules.specs.declared.coupling.Made.{Made}
use Rattle.sv_rules.specs.declared.standing.Standing.{Standing}
use Rattle.run_reasons.specs.Walk.{pairs_that_stand, pairs_with, some_stands}
use Rattle.run_reasons.proofs.FilterLemmas.{any-filter, any-filter_twice}

-- the pairs that have the offer at a place, with those of an entry more
pub pairs_more : (place at : ℕ) (journal : Entries) (e : PlainEntry) (pairs : List Made) → at ≡ length journal + 1 → pairs ≡ filter (has_place place) (made_in journal) →
    pairs ++ pairs_with place at e ≡ filter (has_place place) (made_in (e ∷ journal))
pairs_more place at journal e pairs is of_pairs = rw (is, of_pairs) (sym (filter-append (has_place place) (made_in journal) (made_at (length journal + 1) e.made)))

-- a coupling of the offer ends where a pair of it stood before, and of those none stands after
pub ends_so : (place : ℕ) (journal : Entries) (e : PlainEntry) (pairs : List Made) (offers after : List Standing) → offers ≡ standing journal →
    pairs ≡ filter (has_place place) (made_in journal) → after ≡ standing (e ∷ journal) →
    (some_stands pairs offers && not (some_stands (pairs_that_stand pairs offers) after)) ≡ coupling_ends e journal place
ends_so place journal e pairs offers after of_offers of_pairs of_after =
    rw (of_offers, of_pairs, of_after)
    (ap₂ (λ (was is : Bool). was && not is)
    (any-filter (λ (made : Made). both_stand (standing journal) made.pair) (has_place place) (made_in journal))
    (sym (any-filter_twice (has_place place) (λ (made : Made). both_stand (standing journal) made.pair) (λ (made : Made). both_stand (standing (e ∷ journal)) made.pair) (made_in journal))))

-- what stands with an entry more
pub stands_more : (at : ℕ) (journal : Entries) (e : PlainEntry) (offers : List Standing) → at ≡ length journal + 1 → offers ≡ standing journal →
    standing_after offers at e.party (kind_of e.answer) (act_row e.act).row ≡ standing (e ∷ journal)
stands_more at journal e offers is of_offers = rw (is, of_offers) refl

-- the same, of pairs and offers that are read as these
pub ends_by : (place : ℕ) (journal : Entries) (e : PlainEntry) (pairs : List Made) (offers after : List Standing) (was is : Bool) (pairs' pairs'' kept kept' : List Made) (offers' offers'' after' : List Standing) →
    was ≡ some_stands pairs' offers' → is ≡ some_stands kept' after' → kept ≡ pairs_that_stand pairs'' offers'' → pairs' ≡ pairs → offers' ≡ offers → pairs'' ≡ pairs → offers'' ≡ offers →
    kept' ≡ kept → after' ≡ after → offers ≡ standing journal → pairs ≡ filter (has_place place) (made_in journal) → after ≡ standing (e ∷ journal) → (was && not is) ≡ coupling_ends e journal place
ends_by place journal e pairs offers after was is pairs' pairs'' kept kept' offers' offers'' after' of_was of_is of_kept p1 o1 p2 o2 k a of_offers of_pairs of_after =
    ap₂ (λ (b d : Bool). b && not d) (of_was ∙ ap₂ some_stands p1 o1) (of_is ∙ ap₂ some_stands (k ∙ of_kept ∙ ap₂ pairs_that_stand p2 o2) a)
    ∙ ends_so place journal e pairs offers after of_offers of_pairs of_after
