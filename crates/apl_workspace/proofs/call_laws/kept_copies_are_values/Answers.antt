use Rattle.apl_workspace.specs.Meaning.{own_copy_in}
use Rattle.apl_workspace.proofs.Looks.{look_unshared}
use Rattle.apl_workspace.proofs.call_laws.kept_copies_are_values.Goals as goal

pub returns : goal.returns
returns c = λ w name other h. look_unshared w name other (own_copy_in w.globals name) h
