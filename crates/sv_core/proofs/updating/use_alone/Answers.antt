use Rattle.std.proofs.Common.{◌∙◌, ◌≡◌, Bool, Option, ap, subst}
use Rattle.std.specs.Prelude.{is_some, option_and_then}
use Rattle.sv_kept.specs.Cell.{answered, known_alone}
use Rattle.sv_kept.specs.Cells.{ChangesAt}
use Rattle.sv_kept.specs.declared.cell.Cell.{Cell}
use Rattle.sv_kept.specs.declared.cell.CellContent.{CellContent}
use Rattle.sv_core.proofs.UsingLemmas.{uses_alone}
use Rattle.sv_core.proofs.updating.use_alone.Goals as goal

pub returns : goal.returns
returns c cell value there held =
    let got : c.knows-got.result ≡ is_some value =
    c.knows-got.ensures ∙ ap (λ (o : Option Cell). is_some (option_and_then (λ (x : Cell). known_alone x.held) o)) there ∙ ap (λ (h : CellContent). is_some (known_alone h)) held in
    uses_alone c.args.cells.now c.answered.new.self c.args.place cell value there held
    (subst (λ (g : Bool). ChangesAt c.args.cells.now c.answered.new.self c.args.place (λ x. answered x g)) got c.answered.ensures)
