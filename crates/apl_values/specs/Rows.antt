-- Rows of names: what is left of them, the act of a row, and what its answer brings.
use Rattle.std.specs.Prelude.{◌≡◌, ◌+◌, ◌++◌, ◌||◌, ℕ, ℤ, pos, Bool, true, false, List, [], ◌∷◌, Some, All, drop, length, map, sum_by}
use Rattle.apl_arrays.specs.Array.{FitsLimits, element_count, number_array}
use Rattle.apl_workspace.specs.Meaning.{is_function_meaning}
use Rattle.apl_workspace.specs.Workspace.{PlainWorkspace, global_in, is_addressee, is_shared, marked, unmarked}
use Rattle.sv_events.specs.Answer.{PlainAnswer}
use Rattle.sv_events.specs.Row.{answer_row}
use Rattle.sv_events.specs.declared.event.Act.{Act}
use Rattle.sv_events.specs.declared.event.Act.TheVariants as act
use Rattle.apl_meaning.specs.State.{State, Outcome, gives, and_then}
use Rattle.apl_meaning.specs.Deeds as plain
use Rattle.apl_meaning.specs.Deeds.{degree_in, done_for_all, value_of, vector_in, zeros}
use Rattle.apl_meaning.specs.Expressions.{Found}
use Rattle.apl_meaning.specs.Naming as plain_names
use Rattle.apl_values.specs.declared.naming.Naming.{Naming}
use Rattle.apl_values.specs.declared.rows.Deed.{Deed}
use Rattle.apl_values.specs.declared.rows.Deed.TheVariants as deed
use Rattle.apl_values.specs.declared.rows.NameRow.{NameRow}
use Rattle.apl_values.specs.declared.rows.Rows.{Rows}

-- the names of a row
abbrev pub plain_naming : Naming → plain_names.Naming
plain_naming names = record { local = names.local; surrogate = names.surrogate }

-- what is done for a row
abbrev pub plain_deed : Deed → plain.Deed
plain_deed (deed.Offer to) = plain.offer to
plain_deed deed.AskDegree = plain.ask_degree
plain_deed (deed.SetControl control) = plain.set_control control
plain_deed deed.AskControl = plain.ask_control
plain_deed deed.AskState = plain.ask_state
plain_deed deed.Retract = plain.retract

-- a row and what is done for it
abbrev pub PlainNameRow : Type 0
PlainNameRow = plain_names.Naming × plain.Deed

-- a row and what is done for it
abbrev pub plain_name_row : NameRow → PlainNameRow
plain_name_row row = (plain_naming row.names, plain_deed row.deed)

-- the rows that are left, the next one first
abbrev pub rows_left : Rows → List PlainNameRow
rows_left rows = map plain_name_row (drop rows.at rows.rows.items)

-- what is still to come of rows behind the numbers of those that are done: the numbers of all, in an array of this shape
abbrev pub rest_of_rows : List ℤ → List PlainNameRow → List ℕ → State → Outcome Found
rest_of_rows numbers rows shape s = and_then (done_for_all rows s) (λ others t. gives (Some (number_array shape (numbers ++ others))) t)

-- the act that is asked for a row
abbrev pub deed_act : plain.Deed → plain_names.Naming → PlainWorkspace → Act
deed_act (plain.offer to) names w = act.Offer to names.local names.surrogate (value_of (global_in w names.local))
deed_act plain.ask_degree names w = act.AskDegree names.local
deed_act (plain.set_control control) names w = act.SetControl names.local control
deed_act plain.ask_control names w = act.AskControl names.local
deed_act plain.ask_state names w = act.AskState names.local
deed_act plain.retract names w = act.Retract names.local

-- the act that is asked for the first of these rows; where none is left, no act is open
abbrev pub rows_act : List PlainNameRow → PlainWorkspace → Act
rows_act [] w = act.AskParties
rows_act (row ∷ rows) w = deed_act row.1 row.0 w

-- what the answer of a row does to the workspace
abbrev pub row_done : plain.Deed → plain_names.Naming → PlainAnswer → PlainWorkspace → PlainWorkspace
row_done (plain.offer to) names answer w = marked w (record { local = names.local; surrogate = names.surrogate; to = to }) (value_of (global_in w names.local))
row_done plain.ask_degree names answer w = w
row_done (plain.set_control control) names answer w = w
row_done plain.ask_control names answer w = w
row_done plain.ask_state names answer w = w
row_done plain.retract names answer w = unmarked w names.local (answer_row answer).value

-- the numbers that the answer of a row tells
abbrev pub row_numbers : plain.Deed → PlainAnswer → List ℤ
row_numbers (plain.offer to) answer = degree_in answer
row_numbers plain.ask_degree answer = degree_in answer
row_numbers (plain.set_control control) answer = vector_in answer
row_numbers plain.ask_control answer = vector_in answer
row_numbers plain.ask_state answer = vector_in answer
row_numbers plain.retract answer = degree_in answer

-- the numbers of a row that asks no act
abbrev pub row_zeros : plain.Deed → List ℤ
row_zeros (plain.offer to) = pos 0 ∷ []
row_zeros plain.ask_degree = pos 0 ∷ []
row_zeros (plain.set_control control) = zeros
row_zeros plain.ask_control = zeros
row_zeros plain.ask_state = zeros
row_zeros plain.retract = pos 0 ∷ []

-- what the answer of the first row brings: its numbers, and then the rows that follow
abbrev pub rows_brought : List ℤ → List PlainNameRow → List ℕ → PlainAnswer → State → Outcome Found
rows_brought numbers [] shape answer s = rest_of_rows numbers [] shape s
rows_brought numbers (row ∷ rows) shape answer s =
    rest_of_rows (numbers ++ row_numbers row.1 answer) rows shape (record s { workspace = row_done row.1 row.0 answer s.workspace })

-- a deed may be done for names: a name is offered to one to whom it may be, and is no function
abbrev pub MayBeDone : PlainWorkspace → plain.Deed → plain_names.Naming → Type 0
MayBeDone w (plain.offer to) names = (is_addressee to ≡ true) × (is_function_meaning (global_in w names.local) ≡ false)
MayBeDone w plain.ask_degree names = Unit {0}
MayBeDone w (plain.set_control control) names = Unit {0}
MayBeDone w plain.ask_control names = Unit {0}
MayBeDone w plain.ask_state names = Unit {0}
MayBeDone w plain.retract names = Unit {0}

-- a row may be done
abbrev pub RowMayBeDone : PlainWorkspace → PlainNameRow → Type 0
RowMayBeDone w row = MayBeDone w row.1 row.0

-- it is an offer
abbrev pub is_offer : plain.Deed → Bool
is_offer (plain.offer to) = true
is_offer plain.ask_degree = false
is_offer (plain.set_control control) = false
is_offer plain.ask_control = false
is_offer plain.ask_state = false
is_offer plain.retract = false

-- a row asks an act: an offer does, and any other one whose name is shared
abbrev pub asks_act : PlainWorkspace → PlainNameRow → Bool
asks_act w row = is_offer row.1 || is_shared w row.0.local

-- the first of these rows asks an act
abbrev pub FirstAsksAct : PlainWorkspace → List PlainNameRow → Type 0
FirstAsksAct w [] = ⊥
FirstAsksAct w (row ∷ rows) = asks_act w row ≡ true

-- how many numbers rows tell
abbrev pub count_told : List PlainNameRow → ℕ
count_told rows = sum_by (λ row. length (row_zeros row.1)) rows

-- what holds of rows, done and left: each may be done, and the numbers of all make an array of the shape
pub record AreRows (w : PlainWorkspace) (rows : Rows) : Type 0 where
  pub may : All (RowMayBeDone w) (rows_left rows)
  pub fits : FitsLimits rows.shape.items
  pub count : element_count rows.shape.items ≡ length rows.numbers.items + count_told (rows_left rows)

-- one row was done and told these numbers
pub record HasTold (before : Rows) (told : List ℤ) (after : Rows) : Type 0 where
  pub rows : rows_left after ≡ drop 1 (rows_left before)
  pub numbers : after.numbers.items ≡ before.numbers.items ++ told
  pub shape : after.shape.items ≡ before.shape.items
