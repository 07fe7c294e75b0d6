use Rattle.std.proofs.Common.{◌∙◌, ap, eqb-true, find, sym}
use Rattle.std.proofs.lemmas.List.{nil_from_length}
use Rattle.sv_core.specs.Due.{is_due_on}
use Rattle.sv_core.proofs.processor.Core.first_coupled_among.Goals as goal

pub returns-then-is_empty : goal.returns-then-is_empty
returns-then-is_empty c = sym (ap (find (is_due_on c.args.self.now.journal c.args.due)) (nil_from_length c.args.offers.now (eqb-true _ 0 (sym c.is_empty.ensures ∙ c.if-is_empty.true))))
