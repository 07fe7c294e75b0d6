use Rattle.std.proofs.Common.{◌≡◌, ◌&&◌, ◌∙◌, ℕ, not, false, true, ap₂, rules, subst, sym}
use Rattle.sv_core.specs.Core.{ArePeople, PlainCore}
use Rattle.sv_rules.specs.Entries.{has_left, is_full}
use Rattle.sv_rules.specs.Legal.{is_user}
use Rattle.aplsv_check.proofs.TurnsOn.{ended_turns, first_turn, less_left, more_turns, same_number, seated_here, stays_here}
use Rattle.aplsv_check.proofs.turns.take_turns.Goals as goal

pub turns-init : goal.turns-init
turns-init c = λ user sits. first_turn user c.args.core.now c.take_turn.new.core c.args.seat.now c.take_turn.new.seat c.in_ok-is_entered.is_entered (c.in_ok-is_entered.ensures user sits)

pub take_turn-requires-in-turns-clause-user : goal.take_turn-requires-in-turns-clause-user
take_turn-requires-in-turns-clause-user c =
    let on : (not c.turns.is_entered && is_full c.turns.core.journal) ≡ true = sym c.goes_on.ensures ∙ c.turns-test.true in
    let some = c.requires.seated in
    let here = stays_here some.0 c.args.core.now c.turns.core c.turns.seat c.turns.is_entered on (c.turns.invariant some.0 some.1) in
    let sits = seated_here some.0 c.args.core.now c.turns.core c.turns.seat here in
    ap₂ (λ (core : PlainCore) (number : ℕ). is_user core.users number) here.same (same_number c.args.core.now.journal c.turns.core.journal some.0 c.args.seat.now c.turns.seat some.1 sits) ∙ c.requires.user

pub take_turn-requires-in-turns-clause-people : goal.take_turn-requires-in-turns-clause-people
take_turn-requires-in-turns-clause-people c =
    let on : (not c.turns.is_entered && is_full c.turns.core.journal) ≡ true = sym c.goes_on.ensures ∙ c.turns-test.true in
    let some = c.requires.seated in
    let here = stays_here some.0 c.args.core.now c.turns.core c.turns.seat c.turns.is_entered on (c.turns.invariant some.0 some.1) in
    subst (λ (core : PlainCore). ArePeople core.users) (sym here.same) c.requires.people

pub take_turn-requires-in-turns-clause-stays : goal.take_turn-requires-in-turns-clause-stays
take_turn-requires-in-turns-clause-stays c =
    let on : (not c.turns.is_entered && is_full c.turns.core.journal) ≡ true = sym c.goes_on.ensures ∙ c.turns-test.true in
    let there : has_left c.args.core.now.journal c.args.seat.now.session.user ≡ false = search rules in
    let some = c.requires.seated in
    let here = stays_here some.0 c.args.core.now c.turns.core c.turns.seat c.turns.is_entered on (c.turns.invariant some.0 some.1) in
    let sits = seated_here some.0 c.args.core.now c.turns.core c.turns.seat here in
    ap₂ (λ (core : PlainCore) (number : ℕ). has_left core.journal number) here.same (same_number c.args.core.now.journal c.turns.core.journal some.0 c.args.seat.now c.turns.seat some.1 sits) ∙ there

pub take_turn-requires-in-turns-clause-seated : goal.take_turn-requires-in-turns-clause-seated
take_turn-requires-in-turns-clause-seated c =
    let on : (not c.turns.is_entered && is_full c.turns.core.journal) ≡ true = sym c.goes_on.ensures ∙ c.turns-test.true in
    let some = c.requires.seated in
    let here = stays_here some.0 c.args.core.now c.turns.core c.turns.seat c.turns.is_entered on (c.turns.invariant some.0 some.1) in
    (some.0, seated_here some.0 c.args.core.now c.turns.core c.turns.seat here)

pub turns-preserved : goal.turns-preserved
turns-preserved c =
    let on : (not c.turns.is_entered && is_full c.turns.core.journal) ≡ true = sym c.goes_on.ensures ∙ c.turns-test.true in
    λ user sits.
    let here = stays_here user c.args.core.now c.turns.core c.turns.seat c.turns.is_entered on (c.turns.invariant user sits) in
    more_turns user c.args.core.now c.turns.core c.take_turn-in-turns.new.core c.turns.seat c.take_turn-in-turns.new.seat c.in_ok-is_entered-2.is_entered here
    (c.in_ok-is_entered-2.ensures user (seated_here user c.args.core.now c.turns.core c.turns.seat here))

pub turns-smaller : goal.turns-smaller
turns-smaller c =
    let on : (not c.turns.is_entered && is_full c.turns.core.journal) ≡ true = sym c.goes_on.ensures ∙ c.turns-test.true in
    let some = c.requires.seated in
    let here = stays_here some.0 c.args.core.now c.turns.core c.turns.seat c.turns.is_entered on (c.turns.invariant some.0 some.1) in
    less_left some.0 c.turns.core c.take_turn-in-turns.new.core c.turns.seat c.take_turn-in-turns.new.seat c.turns.is_entered c.in_ok-is_entered-2.is_entered on
    (c.in_ok-is_entered-2.ensures some.0 (seated_here some.0 c.args.core.now c.turns.core c.turns.seat here))

pub returns : goal.returns
returns c = λ user sits. ended_turns user c.args.core.now c.turns.core c.turns.seat c.turns.is_entered (sym c.goes_on.ensures ∙ c.turns-test.false) (c.turns.invariant user sits)
