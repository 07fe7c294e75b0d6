use Rattle.std.proofs.Common.{◌∙◌, ◌∷◌, List, ap, arith, length, subst, sym, ℕ}
use Rattle.std.proofs.lemmas.List.{length-map}
use Rattle.apl_arrays.specs.Ascending.{Ascend}
use Rattle.aux_parties.specs.Auxiliaries.{clock_party, text_party}
use Rattle.sv_core.specs.Core.{ArePeople}
use Rattle.aplsv_serve.proofs.Numbers.{in_order}
use Rattle.aplsv_serve.proofs.start.begin.Goals as goal

pub open-requires-clause-parties : goal.open-requires-clause-parties
open-requires-clause-parties g c =
    let numbers = c.in_ok-numbers.ensures in
    let all = c.deref-2.ensures.value ∙ (c.in_ok-parties.ensures ∙ ap (λ (l : List ℕ). clock_party ∷ text_party ∷ l) c.deref.ensures.value) in
    let order = in_order c.in_ok-numbers.numbers.items c.deref-2.result.now (subst ArePeople (sym numbers) c.requires.people) (subst Ascend (sym numbers) c.requires.ascending) all in
    (order.some, order.each, order.ascend)

pub returns-clause-seats : goal.returns-clause-seats
returns-clause-seats g c = c.in_ok-make_room.ensures.fresh c.in_ok-stile.stile c.in_ok-stile.ensures.seats c.in_ok-stile.ensures.places c.in_ok-stile.ensures.known

pub returns-clause-tasks : goal.returns-clause-tasks
returns-clause-tasks g c =
    let parties = ap (λ (l : List ℕ). length l) (c.in_ok-parties.ensures ∙ ap (λ (l : List ℕ). clock_party ∷ text_party ∷ l) (c.deref.ensures.value ∙ c.in_ok-numbers.ensures)) in
    let many = simp length-map at parties in
    (c.in_ok-tasks.ensures.items, omega (arith, many, c.in_ok-parties.parties.ok.0, c.len.ensures, c.in_ok-tasks.ensures.capacity))

pub returns-clause-seats_back : goal.returns-clause-seats_back
returns-clause-seats_back g c =
    let parties = ap (λ (l : List ℕ). length l) (c.in_ok-parties.ensures ∙ ap (λ (l : List ℕ). clock_party ∷ text_party ∷ l) (c.deref.ensures.value ∙ c.in_ok-numbers.ensures)) in
    let many = simp length-map at parties in
    (c.in_ok-seats_back.ensures.items, omega (arith, many, c.in_ok-parties.parties.ok.0, c.len-2.ensures, c.in_ok-seats_back.ensures.capacity))
