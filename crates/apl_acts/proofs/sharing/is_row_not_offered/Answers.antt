use Rattle.std.proofs.Common.{◌≡◌, Bool, true, false, refl, ap, ◌∙◌}
use Rattle.std.specs.Prelude.{◌||◌, Option}
use Rattle.std.specs.List.{list_any}
use Rattle.std.specs.Option.{option_to_list}
use Rattle.apl_meaning.specs.Naming.{Naming}
use Rattle.apl_meaning.specs.Sharing.{cannot_be_offered}
use Rattle.apl_acts.proofs.sharing.is_row_not_offered.Goals as goal

or_none : (b : Bool) → b ≡ (b || false)
or_none true = refl
or_none false = refl

pub returns-in-None : goal.returns-in-None
returns-in-None c = ap (λ (names : Option Naming). list_any (cannot_be_offered c.args.workspace.now) (option_to_list names)) c.in-None.ensures

pub returns-in-Some : goal.returns-in-Some
returns-in-Some c = c.cannot_be_offered.ensures ∙ or_none _ ∙ ap (λ (names : Option Naming). list_any (cannot_be_offered c.args.workspace.now) (option_to_list names)) c.in-Some.ensures
