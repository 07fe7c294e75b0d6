use Rattle.std.specs.Prelude.{◌≡◌, Bool, ◌&&◌, List, count_by}
use Rattle.sv_access.specs.declared.access.Side.{Side}
use Rattle.sv_access.specs.declared.access.Kind.{Kind}
use Rattle.sv_access.specs.declared.cases.Case.{Case}
use Rattle.sv_access.specs.declared.control.Control.{Control}
use Rattle.sv_access.specs.declared.state.AccessState.{AccessState}
use Rattle.sv_access.specs.Access.{same_side, same_kind}
use Rattle.sv_access.specs.Control.{four_elements, same_control}
use Rattle.sv_access.specs.State.{same_state}
use Rattle.sv_access.specs.Table.{verdict_of}

-- the line of the table on an access under a control and a state
abbrev pub case_of : Control → AccessState → Side → Kind → Case
case_of control state side kind =
    record { control = control; state = state; side = side; kind = kind; verdict = verdict_of control state side kind }

-- the line is the one on this access under this control and state
abbrev pub is_case_of : Control → AccessState → Side → Kind → Case → Bool
is_case_of control state side kind case =
    same_control control case.control && same_state state case.state && same_side side case.side && same_kind kind case.kind

-- among the lines, each access under each control of four elements and each state has just one
abbrev pub HasEachCaseOnce : List Case → Type 0
HasEachCaseOnce cases =
    (first second third fourth : Bool) (state : AccessState) (side : Side) (kind : Kind) →
    count_by (is_case_of (four_elements first second third fourth) state side kind) cases ≡ 1
