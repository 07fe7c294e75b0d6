use Rattle.std.proofs.Common.{Bool, ◌&&◌, not, ap, ◌∙◌, rules, tests}
use Rattle.std.specs.Prelude.{filter}
use Rattle.std.proofs.lemmas.Fn.{filter_same}
use Rattle.sv_rules.specs.declared.standing.Standing.{Standing}
use Rattle.sv_rules.specs.Coupling.{is_coupled}
use Rattle.sv_plain.proofs.couplings.reopened_among.Goals as goal

pub returns : goal.returns
returns c =
    let reopens : Standing → Bool = λ (offer : Standing). is_coupled c.args.before.now offer.place && not (is_coupled c.args.now.now offer.place) in
    filter_same _ reopens _ (λ x b f k. search (rules, tests)) c.in_ok-reopened.reopened.items c.retain.new.self.items c.retain.ensures.filtered ∙ ap (filter reopens) c.in_ok-reopened.ensures.items
