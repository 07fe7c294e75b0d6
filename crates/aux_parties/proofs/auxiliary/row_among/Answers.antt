use Rattle.std.proofs.Common.{◌∙◌, eqb, rules, tests}
use Rattle.std.proofs.lemmas.Iterator.{YieldsList-from_slice}
use Rattle.std.proofs.lemmas.Iterator.Search.{find_from_yields_List}
use Rattle.aux_parties.specs.declared.auxiliary.AuxiliaryRow.{AuxiliaryRow}
use Rattle.aux_parties.proofs.auxiliary.row_among.Goals as goal

pub returns : goal.returns
returns c =
    c.copied.ensures
    ∙ find_from_yields_List (λ (row : AuxiliaryRow). eqb row.party c.args.party) _ _ c.find.result c.find.ensures.ran (YieldsList-from_slice c.args.rows.now cc) (λ x b q k. search (rules, tests))
