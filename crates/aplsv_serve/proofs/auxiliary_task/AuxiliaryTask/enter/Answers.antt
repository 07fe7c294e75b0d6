use Rattle.std.proofs.Common.{rules, ◌≡◌, ◌∙◌, ◌∷◌, ◌++◌, ℕ, [], ap, length, refl, subst, sym}
use Rattle.sv_core.specs.Core.{PlainCore}
use Rattle.sv_core.specs.Histories.{party_of_entry}
use Rattle.sv_turn.specs.Journals.{Begins, places_of}
use Rattle.sv_turn.specs.Seating.{known_of}
use Rattle.aplsv_serve.specs.Halls.{users_of_stile}
use Rattle.aplsv_serve.proofs.InTurn.{known_then, seat_entered, seat_rested}
use Rattle.aplsv_serve.proofs.Service.{served_made, served_rested}
use Rattle.aplsv_serve.proofs.auxiliary_task.AuxiliaryTask.enter.Goals as goal

pub returns-in-Made-clause-seat : goal.returns-in-Made-clause-seat
returns-in-Made-clause-seat g c =
    let stile = c.args.hall.now.stile in
    let party : ℕ = c.args.self.now.auxiliary.party in
    let seat = c.args.self.now.seat in
    let before : PlainCore = c.state.result.now in
    let begins : Begins (known_of seat) before.journal = subst (λ (p : PlainCore). Begins (known_of seat) p.journal) (sym c.state.ensures.value) c.enter-turn.ensures.begins in
    let mine : seat.mine.items ≡ places_of party_of_entry seat.party before.journal = subst (λ (p : PlainCore). seat.mine.items ≡ places_of party_of_entry seat.party p.journal) (sym c.state.ensures.value) c.enter-turn.ensures.mine in
    let after : PlainCore = c.give_service-service.new.core in
    let made = c.give_service-service.ensures.made c.in-Made.is in
    let own = c.finish.ensures.own in
    let new = c.finish.new.self.0 in
    let longer = c.finish.ensures.mine in
    let kept = c.enter-turn.ensures.seat.1 in
    let more : new.mine.items ≡ seat.mine.items ++ length after.journal ∷ [] = cc in
    seat_entered stile party seat new own.view c.requires.seat (c.finish.ensures.party ∙ c.enter-turn.ensures.seat.0) own.here (own.table_is ∙ c.enter-turn.ensures.found.2) (own.members_are ∙ c.enter-turn.ensures.found.1) before after made.0 mine more c.finish.ensures.known

pub returns-in-Made-clause-at_work : goal.returns-in-Made-clause-at_work
returns-in-Made-clause-at_work g c = λ start h.
    let stile = c.args.hall.now.stile in
    let party : ℕ = c.args.self.now.auxiliary.party in
    let seat = c.args.self.now.seat in
    let before : PlainCore = c.state.result.now in
    let begins : Begins (known_of seat) before.journal = subst (λ (p : PlainCore). Begins (known_of seat) p.journal) (sym c.state.ensures.value) c.enter-turn.ensures.begins in
    let mine : seat.mine.items ≡ places_of party_of_entry seat.party before.journal = subst (λ (p : PlainCore). seat.mine.items ≡ places_of party_of_entry seat.party p.journal) (sym c.state.ensures.value) c.enter-turn.ensures.mine in
    let known = known_then stile party seat before c.requires.seat begins mine in
    let after : PlainCore = c.give_service-service.new.core in
    let numbers = c.deref.ensures.value ∙ c.requires.hall.numbers in
    let made = c.give_service-service.ensures.made c.in-Made.is in
    served_made g.X.Replier.forgets g.X.Replier.replies (users_of_stile stile) c.deref.result.now party start (known_of seat) before after c.args.self.now.auxiliary c.give_service-service.new.auxiliary known numbers c.give_service-service.ensures.party c.give_service-service.ensures.lost c.give_service-service.ensures.answered h (known_of c.finish.new.self.0) c.finish.ensures.known made.0 made.1

pub returns-in-Made-clause-comes : goal.returns-in-Made-clause-comes
returns-in-Made-clause-comes g c = c.give_service-service.ensures.comes

pub returns-in_default : goal.returns-in_default
returns-in_default g c =
    let stile = c.args.hall.now.stile in
    let party : ℕ = c.args.self.now.auxiliary.party in
    let seat = c.args.self.now.seat in
    let before : PlainCore = c.state.result.now in
    let begins : Begins (known_of seat) before.journal = subst (λ (p : PlainCore). Begins (known_of seat) p.journal) (sym c.state.ensures.value) c.enter-turn.ensures.begins in
    let mine : seat.mine.items ≡ places_of party_of_entry seat.party before.journal = subst (λ (p : PlainCore). seat.mine.items ≡ places_of party_of_entry seat.party p.journal) (sym c.state.ensures.value) c.enter-turn.ensures.mine in
    let known = known_then stile party seat before c.requires.seat begins mine in
    let after : PlainCore = c.give_service-service.new.core in
    let numbers = c.deref.ensures.value ∙ c.requires.hall.numbers in
    let rests = c.give_service-service.ensures.rested c.in_default.not-Made in
    let is = c.give_back.ensures.known ∙ (c.enter-turn.ensures.found.0 ∙ ap (λ (p : PlainCore). p.journal) (sym c.state.ensures.value)) in
    let own = c.give_back.ensures.own in
    let new = c.give_back.new.self.0 in
    let last = c.give_back.ensures.same.1 in
    let first = c.enter-turn.ensures.seat.1 in
    let kept : new.mine.items ≡ seat.mine.items = cc in
    record {
      same = (refl, refl, c.give_service-service.ensures.party);
      seat = seat_rested stile party seat new own.view c.requires.seat (c.give_back.ensures.same.0 ∙ c.enter-turn.ensures.seat.0) own.here (own.table_is ∙ c.enter-turn.ensures.found.2) (own.members_are ∙ c.enter-turn.ensures.found.1) before.journal mine kept is;
      room = search rules;
      at_work = λ start h. served_rested g.X.Replier.forgets g.X.Replier.replies (users_of_stile stile) c.deref.result.now party start (known_of seat) before after c.args.self.now.auxiliary c.give_service-service.new.auxiliary known numbers c.give_service-service.ensures.party c.give_service-service.ensures.lost c.give_service-service.ensures.answered h (known_of new) is rests;
      comes = c.give_service-service.ensures.comes;
    }
