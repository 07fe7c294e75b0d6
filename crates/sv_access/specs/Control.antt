use Rattle.std.specs.Prelude.{ℕ, ◌-◌, Bool, false, ◌&&◌, ◌||◌, [], ◌∷◌, slice_index_or}
use Rattle.std.specs.Bool.{beq}
use Rattle.sv_access.specs.declared.access.Side.{Side}
use Rattle.sv_access.specs.declared.access.Side.TheVariants.{A, B}
use Rattle.sv_access.specs.declared.control.Control.{Control}

-- whether a control has 1 at an element; the elements are counted from 1
abbrev pub has_element : Control → ℕ → Bool
has_element control element = slice_index_or control.0 (element - 1) false

-- the control of these four elements
abbrev pub four_elements : Bool → Bool → Bool → Bool → Control
four_elements first second third fourth = record { 0 = first ∷ second ∷ third ∷ fourth ∷ [] }

-- nothing is controlled
abbrev pub no_control : Control
no_control = four_elements false false false false

-- the two controls have 1 at the same elements
abbrev pub same_control : Control → Control → Bool
same_control a b = same_element 1 && same_element 2 && same_element 3 && same_element 4
  where
    same_element : ℕ → Bool
    same_element element = beq (has_element a element) (has_element b element)

-- a control as the partner counts: its first mark is the second there, its third the fourth, and the other way round
abbrev pub swapped : Control → Control
swapped control = four_elements (has_element control 2) (has_element control 1) (has_element control 4) (has_element control 3)

-- a control in A's view as a side sees it
abbrev pub in_view : Side → Control → Control
in_view A control = control
in_view B control = swapped control

-- 1 wherever at least one of the two controls has it
abbrev pub either_of : Control → Control → Control
either_of a b =
    four_elements
    (has_element a 1 || has_element b 1)
    (has_element a 2 || has_element b 2)
    (has_element a 3 || has_element b 3)
    (has_element a 4 || has_element b 4)

-- what is in force for a coupling as A sees it: 1 wherever A's vector has it, or B's read from A's side
abbrev pub combined : Control → Control → Control
combined a b = either_of a (swapped b)
