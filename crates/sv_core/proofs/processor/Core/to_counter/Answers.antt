use Rattle.std.proofs.Common.{◌≡◌, ◌∙◌, Bool, None, Option, ap, false, ltb, refl, sym, true}
use Rattle.std.specs.Prelude.{find, if◌then◌else◌}
use Rattle.sv_rules.specs.Coupling.{open_to}
use Rattle.sv_rules.specs.Standing.{offer_count, standing}
use Rattle.aux_parties.specs.Auxiliaries.{most_counters}
use Rattle.sv_rules.specs.declared.standing.Standing.{Standing}
use Rattle.sv_core.proofs.DueLemmas.{find_where}
use Rattle.sv_core.proofs.processor.Core.to_counter.Goals as goal

-- an answer that hangs on nothing
either_way : (b : Bool) (o : Option Standing) → (if b then o else o) ≡ o
either_way true o = refl
either_way false o = refl

pub returns-in-None : goal.returns-in-None
returns-in-None c =
    let journal = c.args.self.now.journal in
    let party = c.args.party in
    let more = ltb (offer_count (standing journal) party) (most_counters party) in
    sym (find_where more (open_to journal party) ∙ ap (λ (o : Option Standing). if more then o else None) (sym c.oldest_to.ensures ∙ c.in-None.is) ∙ either_way more None)

pub returns-then-may_counter : goal.returns-then-may_counter
returns-then-may_counter c =
    sym c.in-Some.is ∙ c.oldest_to.ensures
    ∙ sym (ap (λ (t : Bool). find (λ (o : Standing). t) (open_to c.args.self.now.journal c.args.party)) (sym c.may_counter.ensures ∙ c.if-may_counter.true))

pub returns-else-may_counter : goal.returns-else-may_counter
returns-else-may_counter c =
    let xs = open_to c.args.self.now.journal c.args.party in
    sym (ap (λ (t : Bool). find (λ (o : Standing). t) xs) (sym c.may_counter.ensures ∙ c.if-may_counter.false) ∙ find_where false xs)
