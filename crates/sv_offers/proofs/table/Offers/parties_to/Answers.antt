use Rattle.std.proofs.Common.{◌≡◌, ap, sym, ◌∙◌, subst}
use Rattle.std.specs.List.{filter}
use Rattle.std.specs.Result.{IfOk}
use Rattle.sv_offers.specs.Table.{PlainOffers, is_open_to}
use Rattle.sv_rules.specs.Questions.{parties_of}
use Rattle.sv_offers.proofs.TableLemmas.{open_by_test}
use Rattle.sv_offers.proofs.table.Offers.parties_to.Goals as goal

pub returns : goal.returns
returns c =
    let list =
    ap (λ (v : PlainOffers). filter (is_open_to v.coupled c.args.party) v.offers) c.self.view_is
    ∙ sym (open_by_test c.args.self.now c.args.party) in
    subst (λ xs. IfOk c.parties_to.result (λ got. got.items ≡ parties_of xs)) list c.parties_to.ensures
