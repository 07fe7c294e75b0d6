use Rattle.std.proofs.Common.{◌≡◌, ◌∙◌, ℕ, List, Option, false, rules, tests}
use Rattle.std.specs.Prelude.{is_some}
use Rattle.std.specs.HashMap.{get}
use Rattle.sv_offers.specs.Finding.{same_key}
use Rattle.sv_rules.specs.declared.standing.Standing.{Standing}
use Rattle.sv_offers.proofs.FindingLemmas.{name_noted}
use Rattle.sv_offers.proofs.index.note_name.Goals as goal

pub returns-in-Ok : goal.returns-in-Ok
returns-in-Ok c =
    let found : ℕ → List ℕ → Option Standing = λ party local. get same_key c.args.named.now (party, local) in
    let none : is_some (found c.args.offer.now.party c.args.offer.now.local) ≡ false = search (rules, tests) in
    λ party local. c.in-Ok.ensures.updates.0 (party, local) ∙ name_noted found c.args.offer.now none party local
