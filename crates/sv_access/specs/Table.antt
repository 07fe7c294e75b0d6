use Rattle.std.specs.Prelude.{ℕ, ◌≤◌, Bool, true, false, ◌&&◌, if◌then◌else◌, IsTrue}
use Rattle.sv_access.specs.declared.access.Side.{Side}
use Rattle.sv_access.specs.declared.access.Side.TheVariants.{A, B}
use Rattle.sv_access.specs.declared.access.Kind.{Kind}
use Rattle.sv_access.specs.declared.access.Kind.TheVariants.{Set, Use}
use Rattle.sv_access.specs.declared.control.Control.{Control}
use Rattle.sv_access.specs.declared.state.AccessState.{AccessState}
use Rattle.sv_access.specs.declared.verdict.Verdict.{Verdict}
use Rattle.sv_access.specs.declared.verdict.Verdict.TheVariants.{Granted, Held}
use Rattle.sv_access.specs.declared.verdict.Owners.{Owners}
use Rattle.sv_access.specs.declared.verdict.Owners.TheVariants.{Mine, Partner, Both}
use Rattle.sv_access.specs.Control.{has_element, swapped}
use Rattle.sv_access.specs.State.{vector_of_state}

-- the element of an access in A's view
abbrev pub element_of : Side → Kind → ℕ
element_of A Set = 1
element_of B Set = 2
element_of A Use = 3
element_of B Use = 4

-- the element of the access, as A numbers them, is 1 both in the control in force and in the state's vector
abbrev pub is_refused : Control → AccessState → Side → Kind → Bool
is_refused control state side kind =
    has_element control (element_of side kind) && has_element (vector_of_state state A) (element_of side kind)

-- the verdict of the table: held by the element of the access where that is refused, else granted
abbrev pub verdict_of : Control → AccessState → Side → Kind → Verdict
verdict_of control state side kind =
    if is_refused control state side kind then Held (element_of side kind) else Granted

-- a verdict that holds names one of the four elements, and the control has 1 there
abbrev pub NamesAnElement : Control → Verdict → Type 0
NamesAnElement control Granted = Unit {0}
NamesAnElement control (Held element) = (1 ≤ element) × (element ≤ 4) × IsTrue (has_element control element)

-- who owns a 1, by whether it is mine and whether it is the partner's
abbrev pub owners_among : Bool → Bool → Owners
owners_among true true = Both
owners_among true false = Mine
owners_among false partners = Partner

-- who owns the 1 at an element in A's view, as a side sees it, by A's vector and B's, each in its owner's view
abbrev pub owners_of : Control → Control → Side → ℕ → Owners
owners_of a b A element = owners_among (has_element a element) (has_element (swapped b) element)
owners_of a b B element = owners_among (has_element (swapped b) element) (has_element a element)
