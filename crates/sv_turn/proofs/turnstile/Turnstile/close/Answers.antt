use Rattle.std.proofs.Common.{◌≡◌, ℕ, List, All, sym, subst}
use Rattle.std.proofs.lemmas.List.Elements.{All-map, All-weaker}
use Rattle.sv_turn.specs.Journals.{places_of, Begins}
use Rattle.sv_turn.specs.Order.{IsTold}
use Rattle.sv_turn.specs.Seating.{party_and_places, seat_account, known_of}
use Rattle.sv_turn.proofs.Gathering.{all_of_map}
use Rattle.sv_turn.proofs.turnstile.Turnstile.close.Goals as goal

pub returns-clause-places : goal.returns-clause-places
returns-clause-places g c =
    let seats = c.args.seats.list.items in let journal = g.S.History.entries c.take_out.result in let told = IsTold g.S.History.party_of journal in
    let all = all_of_map seat_account told seats (subst (All told) c.gather_all-place.ensures.accounts c.take_out.ensures.told) in
    let P : ℕ × List ℕ → Type 0 = λ pair. pair.1 ≡ places_of g.S.History.party_of pair.0 journal in
    let mine : All (λ s. P (party_and_places s)) seats = All-weaker (λ s. told (seat_account s)) (λ s. P (party_and_places s)) (λ s h. h.0) seats all in
    all_of_map party_and_places P c.gather_all-place.new.list.items (subst (All P) (sym c.gather_all-place.ensures.same) (All-map P party_and_places seats mine))

pub returns-clause-known : goal.returns-clause-known
returns-clause-known g c =
    let seats = c.args.seats.list.items in let journal = g.S.History.entries c.take_out.result in let told = IsTold g.S.History.party_of journal in
    let all = all_of_map seat_account told seats (subst (All told) c.gather_all-place.ensures.accounts c.take_out.ensures.told) in
    All-weaker (λ s. told (seat_account s)) (λ s. Begins (known_of s) journal) (λ s h. h.1) seats all
