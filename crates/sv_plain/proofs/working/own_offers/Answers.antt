use Rattle.std.proofs.Common.{◌==◌, ◌∙◌, Bool, ap, rules, tests}
use Rattle.std.specs.Prelude.{filter}
use Rattle.std.proofs.lemmas.Fn.{filter_same}
use Rattle.sv_rules.specs.declared.standing.Standing.{Standing}
use Rattle.sv_plain.proofs.working.own_offers.Goals as goal

pub returns : goal.returns
returns c =
    let mine : Standing → Bool = λ (offer : Standing). offer.party == c.args.party in
    filter_same _ mine _ (λ x b f k. search (rules, tests)) c.in_ok-own.own.items c.retain.new.self.items c.retain.ensures.filtered ∙ ap (filter mine) (c.in_ok-own.ensures.items ∙ c.requires)
