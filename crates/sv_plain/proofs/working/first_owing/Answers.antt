use Rattle.std.proofs.Common.{◌∙◌, false, rules, tests}
use Rattle.std.specs.Option.{option_map_or}
use Rattle.std.proofs.lemmas.Iterator.{YieldsList-from_slice}
use Rattle.std.proofs.lemmas.Iterator.Search.{find_from_yields_List}
use Rattle.sv_rules.specs.Coupling.{coupling_at}
use Rattle.sv_rules.specs.Journal.{journal_of}
use Rattle.sv_rules.specs.Work.{owes_reply}
use Rattle.sv_plain.proofs.working.first_owing.Goals as goal

pub returns : goal.returns
returns c =
    c.copied.ensures
    ∙ find_from_yields_List (λ offer. option_map_or (owes_reply (journal_of c.args.entries.now) offer) (coupling_at c.args.offers.now c.args.coupled.now offer.place) false) _ _ c.find.result c.find.ensures.ran
    (YieldsList-from_slice c.args.own.now cc) (λ x b q k. search (rules, tests))
