use Rattle.std.proofs.Common.{◌∙◌, rules, tests}
use Rattle.std.proofs.lemmas.Iterator.{YieldsList-from_slice}
use Rattle.std.proofs.lemmas.Iterator.Search.{all_from_yields_List}
use Rattle.sv_rules.specs.Entries.{has_left}
use Rattle.party_turns.specs.declared.seat.UserSeat.{UserSeat}
use Rattle.party_turns.proofs.Parts.{all_left_by}
use Rattle.party_turns.proofs.ending.all_have_left.Goals as goal

pub returns : goal.returns
returns g c =
    let journal = c.args.core.now.journal in
    all_from_yields_List (λ (seat : UserSeat _). has_left journal seat.session.user) _ _ c.all.result c.all.ensures.ran (YieldsList-from_slice c.args.seats.now cc) (λ x b q k. search (rules, tests))
    ∙ all_left_by journal c.args.seats.now
