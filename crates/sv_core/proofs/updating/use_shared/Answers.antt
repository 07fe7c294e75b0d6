use Rattle.std.proofs.Common.{◌∙◌, ◌≡◌, Bool, Option, ap, subst}
use Rattle.std.specs.Prelude.{is_some, option_and_then}
use Rattle.sv_kept.specs.Cell.{answered, share_in}
use Rattle.sv_kept.specs.Cells.{ChangesAt}
use Rattle.sv_kept.specs.declared.cell.Cell.{Cell}
use Rattle.sv_kept.specs.declared.cell.CellContent.{CellContent}
use Rattle.sv_kept.specs.Share.{shared_value}
use Rattle.sv_core.proofs.UsingLemmas.{uses_shared}
use Rattle.sv_core.proofs.updating.use_shared.Goals as goal

pub returns-clause-ok : goal.returns-clause-ok
returns-clause-ok c cell share there held =
    let got : c.in_ok-got.got ≡ is_some (shared_value share) =
    c.in_ok-got.ensures.got ∙ ap (λ (o : Option Cell). is_some (option_and_then shared_value (option_and_then (λ (x : Cell). share_in x.held) o))) there
    ∙ ap (λ (h : CellContent). is_some (option_and_then shared_value (share_in h))) held in
    uses_shared c.args.cells.now c.use_value.new.self c.answered.new.self c.args.home c.args.place c.args.side cell share there held c.in_ok-got.ensures.ok
    (subst (λ (g : Bool). ChangesAt c.use_value.new.self c.answered.new.self c.args.place (λ x. answered x g)) got c.answered.ensures)
