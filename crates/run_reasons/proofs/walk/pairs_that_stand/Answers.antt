use Rattle.std.proofs.Common.{◌∙◌, Bool, ap, rules, tests}
use Rattle.std.specs.Prelude.{filter}
use Rattle.std.proofs.lemmas.Fn.{filter_same}
use Rattle.sv_rules.specs.Coupling.{both_stand}
use Rattle.sv_rules.specs.declared.coupling.Made.{Made}
use Rattle.run_reasons.proofs.walk.pairs_that_stand.Goals as goal

pub returns : goal.returns
returns c =
    let stands : Made → Bool = λ (made : Made). both_stand c.args.offers.now made.pair in
    filter_same _ stands _ (λ x b f k. search (rules, tests)) c.in_ok-list.list.items c.retain.new.self.items c.retain.ensures.filtered ∙ ap (filter stands) c.in_ok-list.ensures.items
