use Rattle.std.proofs.Common.{◌≡◌, false, None, take}
use Rattle.std.specs.Prelude.{find}
use Rattle.std.specs.Option.{option_map_or}
use Rattle.sv_rules.specs.Coupling.{coupling_at}
use Rattle.sv_rules.specs.Journal.{journal_of}
use Rattle.sv_rules.specs.Work.{has_unseen}
use Rattle.sv_plain.proofs.working.first_unseen.Given as goal

-- none so far is it
abbrev pub invariant-loop-offer : goal.invariant-loop-offer
invariant-loop-offer l =
    find (λ offer. option_map_or (has_unseen (journal_of l.entries) offer) (coupling_at l.offers l.coupled offer.place) false) (take l.offer-index l.own) ≡ None
