use Rattle.std.proofs.Common.{◌≡◌, ◌≤◌, ◌∙◌, ◌&&◌, eqb, subst, sym, List, true}
use Rattle.std.specs.Prelude.{All, IfSome}
use Rattle.std.specs.List.{list_any}
use Rattle.std.proofs.lemmas.Option.{IfSome_then}
use Rattle.std.specs.Option.{IsSomeAnd}
use Rattle.sv_offers.proofs.SenderLemmas.{lowest_sender, some_sent}
use Rattle.sv_offers.specs.Senders.{is_party_above}
use Rattle.sv_rules.specs.declared.standing.Standing.{Standing}
use Rattle.sv_offers.proofs.standings.Standings.next_sender.Goals as goal

pub returns-clause-lowest : goal.returns-clause-lowest
returns-clause-lowest c =
    let to = c.args.to in
    subst (All (λ (offer : Standing). offer.to ≡ to → is_party_above c.args.last offer.party ≡ true → IsSomeAnd c.next.result (λ n. n ≤ offer.party))) c.self.view_is
    (lowest_sender c.self.inside.placed to c.args.last c.next.result (λ from place above sent. c.next.ensures.lowest from place above (c.self.invariant.sent to from place ∙ sent)))

pub returns-clause-made : goal.returns-clause-made
returns-clause-made c =
    let to = c.args.to in
    subst (λ (offers : List Standing). IfSome c.next.result (λ next. list_any (λ (offer : Standing). eqb offer.to to && eqb offer.party next) offers ≡ true)) c.self.view_is
    (IfSome_then c.next.result c.next.ensures.made (λ from made. some_sent c.self.inside.placed to from made.0 (sym (c.self.invariant.sent to from made.0) ∙ made.1)))
