-- What is left of a command that is under way.
use Rattle.std.specs.Prelude.{◌≡◌, ℕ, List, ◌∷◌, Option, IfSome, drop}
use Rattle.apl_workspace.specs.Workspace.{PlainWorkspace}
use Rattle.apl_workspace.specs.declared.remake.Remake.{Remake}
use Rattle.sv_events.specs.declared.event.Act.{Act}
use Rattle.sv_events.specs.declared.event.Act.TheVariants as act
use Rattle.ws_commands.specs.Finish.{MayComeIn, workspace_brought}
use Rattle.ws_commands.specs.Todo.{PlainChange, given_up, plain_change, plain_todo}
use Rattle.session_rules.specs.Commands.{change_made, lines_told, offer_again, remaking, retracting}
use Rattle.session_rules.specs.Course.{Course}
use Rattle.apl_session.specs.declared.errand.Errand.{Errand}
use Rattle.apl_session.specs.declared.errand.Phase.{Phase}
use Rattle.apl_session.specs.declared.errand.Phase.TheVariants as phase

-- the names that are still to be retracted, and the offers that are still to be made
abbrev pub names_left : Errand → List (List ℕ)
names_left errand = drop errand.retracted errand.todo.retract.items

-- the offers that are still to be made
abbrev pub offers_left : Errand → List Remake
offers_left errand = drop errand.remade errand.todo.remakes.items

-- what is left to be done, in each phase
abbrev pub rest_in : Phase → Errand → Course → Course
rest_in phase.Retracting errand = retracting (names_left errand) (change_made errand.line.items (plain_todo errand.todo))
rest_in phase.Remaking errand = remaking (offers_left errand) (lines_told errand.line.items (plain_todo errand.todo))

-- what is left to be done of a course
abbrev pub errand_rest : Errand → Course → Course
errand_rest errand = rest_in errand.phase errand

-- before the change is made: the names that are left are those that it gives up, what it brings may come in, and no offer was made
pub record MayChange (names : List (List ℕ)) (change : PlainChange) (remade : ℕ) (w : PlainWorkspace) : Type 0 where
  pub names_are : names ≡ given_up change w
  pub comes : IfSome (workspace_brought change) (MayComeIn w)
  pub none_made : remade ≡ 0

-- what is left may be done on a workspace
abbrev pub MayBeDoneIn : Phase → Errand → PlainWorkspace → Type 0
MayBeDoneIn phase.Retracting errand w = MayChange (names_left errand) (plain_change errand.todo.change) errand.remade w
MayBeDoneIn phase.Remaking errand w = Unit {0}

-- what is left of an errand may be done on a workspace
abbrev pub IsErrand : Errand → PlainWorkspace → Type 0
IsErrand errand w = MayBeDoneIn errand.phase errand w

-- the first of these names is retracted by this act
pub record IsRetraction (names : List (List ℕ)) (asked : Act) : Type 0 where
  pub name : List ℕ
  pub others : List (List ℕ)
  pub names_are : names ≡ name ∷ others
  pub act_is : asked ≡ act.Retract name

-- the first of these offers is made by this act
pub record IsOfferAgain (offers : List Remake) (w : PlainWorkspace) (asked : Act) : Type 0 where
  pub offer : Remake
  pub others : List Remake
  pub offers_are : offers ≡ offer ∷ others
  pub act_is : asked ≡ offer_again offer w

-- the act is the first that is left
abbrev pub IsFirstIn : Phase → Errand → PlainWorkspace → Act → Type 0
IsFirstIn phase.Retracting errand w asked = IsRetraction (names_left errand) asked
IsFirstIn phase.Remaking errand w asked = IsOfferAgain (offers_left errand) w asked

-- the act is the first that an errand asks
abbrev pub IsFirstAct : Errand → PlainWorkspace → Act → Type 0
IsFirstAct errand w asked = IsFirstIn errand.phase errand w asked
