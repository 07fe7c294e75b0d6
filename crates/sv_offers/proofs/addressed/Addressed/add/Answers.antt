use Rattle.std.proofs.Common.{◌∙◌, ◌<◌, ap, cond, subst, ℕ, List, Option, None}
use Rattle.std.specs.Prelude.{All}
use Rattle.sv_offers.specs.Addressed.{listed_at, same_list, other_places}
use Rattle.sv_offers.proofs.AddressedLemmas.{added_and_gone, list_is}
use Rattle.sv_offers.proofs.addressed.Addressed.add.Goals as goal

-- the place went last in one list and goes again
pub returns-in-Err-clause-err : goal.returns-in-Err-clause-err
returns-in-Err-clause-err c = λ party name.
    let new = c.args.new.now in
    let all : ℕ × Option (List ℕ) = (new.to, None) in
    let here = same_list all (party, name) in
    c.remove_from.ensures party name
    ∙ ap (λ (places : List ℕ). cond here (other_places places new.place) places) (c.in-Err.ensures.err party name ∙ c.in_ok-add_to.ensures.ok party name)
    ∙ added_and_gone here (listed_at c.args.self.now party name) new.place
    (λ is. subst (λ (key : ℕ × Option (List ℕ)). All (λ (p : ℕ). p < new.place) (listed_at c.args.self.now key.0 key.1)) (list_is all (party, name) is) (c.requires None))
