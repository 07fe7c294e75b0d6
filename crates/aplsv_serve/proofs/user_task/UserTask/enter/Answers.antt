use Rattle.std.proofs.Common.{◌≡◌, ◌∙◌, ◌∷◌, ◌++◌, ℕ, Bool, [], ap, length, option_map, subst, sym}
use Rattle.sv_core.specs.Core.{PlainCore}
use Rattle.sv_core.specs.Histories.{party_of_entry}
use Rattle.sv_events.specs.Answer.{plain_answer}
use Rattle.sv_turn.specs.Journals.{Begins, places_of}
use Rattle.sv_turn.specs.Seating.{known_of}
use Rattle.party_turns.specs.Entering.{IsOneIf, IsOneMore}
use Rattle.party_turns.specs.declared.seat.UserSeat.{UserSeat}
use Rattle.aplsv_serve.specs.UserTasks.{lent_to}
use Rattle.aplsv_serve.proofs.InTurn.{goes_then, known_then, ready_then, seat_entered, stays_then, will_come_then}
use Rattle.aplsv_serve.proofs.user_task.UserTask.enter.Goals as goal

pub take_part-came-requires-clause-stays : goal.take_part-came-requires-clause-stays
take_part-came-requires-clause-stays g c =
    let stile = c.args.hall.now.stile in
    let party : ℕ = c.args.self.now.user.session.user in
    let seat = c.args.self.now.seat in
    let before : PlainCore = c.state.result.now in
    let begins : Begins (known_of seat) before.journal = subst (λ (p : PlainCore). Begins (known_of seat) p.journal) (sym c.state.ensures.value) c.enter-turn.ensures.begins in
    let mine : seat.mine.items ≡ places_of party_of_entry seat.party before.journal = subst (λ (p : PlainCore). seat.mine.items ≡ places_of party_of_entry seat.party p.journal) (sym c.state.ensures.value) c.enter-turn.ensures.mine in
    stays_then stile party seat before c.requires.seat begins mine c.requires.stays

pub take_part-came-requires-clause-ready : goal.take_part-came-requires-clause-ready
take_part-came-requires-clause-ready g c =
    let stile = c.args.hall.now.stile in
    let party : ℕ = c.args.self.now.user.session.user in
    let seat = c.args.self.now.seat in
    let before : PlainCore = c.state.result.now in
    let begins : Begins (known_of seat) before.journal = subst (λ (p : PlainCore). Begins (known_of seat) p.journal) (sym c.state.ensures.value) c.enter-turn.ensures.begins in
    let mine : seat.mine.items ≡ places_of party_of_entry seat.party before.journal = subst (λ (p : PlainCore). seat.mine.items ≡ places_of party_of_entry seat.party p.journal) (sym c.state.ensures.value) c.enter-turn.ensures.mine in
    let known = known_then stile party seat before c.requires.seat begins mine in
    ready_then g.K.Shelf.told g.K.Shelf.faults (known_of seat) before.journal (lent_to c.args.self.now) c.args.self.now.user known c.args.about c.requires.about

pub returns-then-came-clause-seat : goal.returns-then-came-clause-seat
returns-then-came-clause-seat g c =
    let stile = c.args.hall.now.stile in
    let party : ℕ = c.args.self.now.user.session.user in
    let seat = c.args.self.now.seat in
    let before : PlainCore = c.state.result.now in
    let begins : Begins (known_of seat) before.journal = subst (λ (p : PlainCore). Begins (known_of seat) p.journal) (sym c.state.ensures.value) c.enter-turn.ensures.begins in
    let mine : seat.mine.items ≡ places_of party_of_entry seat.party before.journal = subst (λ (p : PlainCore). seat.mine.items ≡ places_of party_of_entry seat.party p.journal) (sym c.state.ensures.value) c.enter-turn.ensures.mine in
    let after : PlainCore = c.take_part-came.new.core in
    let one : IsOneMore party before after = subst (λ (b : Bool). IsOneIf b party before after) c.if-came.true c.take_part-came.ensures.one in
    let own = c.finish.ensures.own in
    let new = c.finish.new.self.0 in
    let longer = c.finish.ensures.mine in
    let kept = c.enter-turn.ensures.seat.1 in
    let more : new.mine.items ≡ seat.mine.items ++ length after.journal ∷ [] = cc in
    seat_entered stile party seat new own.view c.requires.seat (c.finish.ensures.party ∙ c.enter-turn.ensures.seat.0) own.here (own.table_is ∙ c.enter-turn.ensures.found.2) (own.members_are ∙ c.enter-turn.ensures.found.1) before after one mine more c.finish.ensures.known

pub returns-then-came-clause-far : goal.returns-then-came-clause-far
returns-then-came-clause-far g c = λ here.
    let stile = c.args.hall.now.stile in
    let party : ℕ = c.args.self.now.user.session.user in
    let seat = c.args.self.now.seat in
    let before : PlainCore = c.state.result.now in
    let begins : Begins (known_of seat) before.journal = subst (λ (p : PlainCore). Begins (known_of seat) p.journal) (sym c.state.ensures.value) c.enter-turn.ensures.begins in
    let mine : seat.mine.items ≡ places_of party_of_entry seat.party before.journal = subst (λ (p : PlainCore). seat.mine.items ≡ places_of party_of_entry seat.party p.journal) (sym c.state.ensures.value) c.enter-turn.ensures.mine in
    let known = known_then stile party seat before c.requires.seat begins mine in
    let after : PlainCore = c.take_part-came.new.core in
    let user = c.args.self.now.user in
    let then = c.take_part-came.new.user in
    let same = ap (λ (u : UserSeat g.row.K.Denot). u.session) c.take_part-came.ensures.user in
    let answer = option_map plain_answer c.take_part-came.result.answer in
    will_come_then g.K.Shelf.told g.K.Shelf.faults (known_of seat) before after (lent_to c.args.self.now) user then same known c.args.about answer (known_of c.finish.new.self.0) c.finish.ensures.known c.take_part-came.ensures.nothing here c.requires.about (c.take_part-came.ensures.brings here)

pub returns-then-came-clause-stays : goal.returns-then-came-clause-stays
returns-then-came-clause-stays g c = λ here.
    let stile = c.args.hall.now.stile in
    let party : ℕ = c.args.self.now.user.session.user in
    let seat = c.args.self.now.seat in
    let before : PlainCore = c.state.result.now in
    let begins : Begins (known_of seat) before.journal = subst (λ (p : PlainCore). Begins (known_of seat) p.journal) (sym c.state.ensures.value) c.enter-turn.ensures.begins in
    let mine : seat.mine.items ≡ places_of party_of_entry seat.party before.journal = subst (λ (p : PlainCore). seat.mine.items ≡ places_of party_of_entry seat.party p.journal) (sym c.state.ensures.value) c.enter-turn.ensures.mine in
    let known = known_then stile party seat before c.requires.seat begins mine in
    let after : PlainCore = c.take_part-came.new.core in
    let user = c.args.self.now.user in
    let then = c.take_part-came.new.user in
    let same = ap (λ (u : UserSeat g.row.K.Denot). u.session) c.take_part-came.ensures.user in
    let answer = option_map plain_answer c.take_part-came.result.answer in
    goes_then g.K.Shelf.told g.K.Shelf.faults (known_of seat) before after (lent_to c.args.self.now) user then same known c.args.about answer (known_of c.finish.new.self.0) c.finish.ensures.known c.requires.about (c.take_part-came.ensures.brings here)

pub returns-else-came-clause-far : goal.returns-else-came-clause-far
returns-else-came-clause-far g c = λ here.
    let stile = c.args.hall.now.stile in
    let party : ℕ = c.args.self.now.user.session.user in
    let seat = c.args.self.now.seat in
    let before : PlainCore = c.state.result.now in
    let begins : Begins (known_of seat) before.journal = subst (λ (p : PlainCore). Begins (known_of seat) p.journal) (sym c.state.ensures.value) c.enter-turn.ensures.begins in
    let mine : seat.mine.items ≡ places_of party_of_entry seat.party before.journal = subst (λ (p : PlainCore). seat.mine.items ≡ places_of party_of_entry seat.party p.journal) (sym c.state.ensures.value) c.enter-turn.ensures.mine in
    let known = known_then stile party seat before c.requires.seat begins mine in
    let after : PlainCore = c.take_part-came.new.core in
    let user = c.args.self.now.user in
    let then = c.take_part-came.new.user in
    let same = ap (λ (u : UserSeat g.row.K.Denot). u.session) c.take_part-came.ensures.user in
    let answer = option_map plain_answer c.take_part-came.result.answer in
    let still : after ≡ before = subst (λ (b : Bool). IsOneIf b party before after) c.if-came.false c.take_part-came.ensures.one in
    let is = c.give_back.ensures.known ∙ (c.enter-turn.ensures.found.0 ∙ ap (λ (p : PlainCore). p.journal) (sym c.state.ensures.value ∙ sym still)) in
    will_come_then g.K.Shelf.told g.K.Shelf.faults (known_of seat) before after (lent_to c.args.self.now) user then same known c.args.about answer (known_of c.give_back.new.self.0) is c.take_part-came.ensures.nothing here c.requires.about (c.take_part-came.ensures.brings here)

pub returns-else-came-clause-stays : goal.returns-else-came-clause-stays
returns-else-came-clause-stays g c = λ here.
    let stile = c.args.hall.now.stile in
    let party : ℕ = c.args.self.now.user.session.user in
    let seat = c.args.self.now.seat in
    let before : PlainCore = c.state.result.now in
    let begins : Begins (known_of seat) before.journal = subst (λ (p : PlainCore). Begins (known_of seat) p.journal) (sym c.state.ensures.value) c.enter-turn.ensures.begins in
    let mine : seat.mine.items ≡ places_of party_of_entry seat.party before.journal = subst (λ (p : PlainCore). seat.mine.items ≡ places_of party_of_entry seat.party p.journal) (sym c.state.ensures.value) c.enter-turn.ensures.mine in
    let known = known_then stile party seat before c.requires.seat begins mine in
    let after : PlainCore = c.take_part-came.new.core in
    let user = c.args.self.now.user in
    let then = c.take_part-came.new.user in
    let same = ap (λ (u : UserSeat g.row.K.Denot). u.session) c.take_part-came.ensures.user in
    let answer = option_map plain_answer c.take_part-came.result.answer in
    let still : after ≡ before = subst (λ (b : Bool). IsOneIf b party before after) c.if-came.false c.take_part-came.ensures.one in
    let is = c.give_back.ensures.known ∙ (c.enter-turn.ensures.found.0 ∙ ap (λ (p : PlainCore). p.journal) (sym c.state.ensures.value ∙ sym still)) in
    goes_then g.K.Shelf.told g.K.Shelf.faults (known_of seat) before after (lent_to c.args.self.now) user then same known c.args.about answer (known_of c.give_back.new.self.0) is c.requires.about (c.take_part-came.ensures.brings here)
