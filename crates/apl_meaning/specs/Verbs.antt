-- Primitive functions and operators: the one door, and what is counted at it.
use Rattle.std.specs.Prelude.{◌+◌, ◌&&◌, ◌||◌, ℤ, Bool, true, false, Option, Result, Ok, Err, is_none, is_some, not, pos, slice_index_or, if◌then◌else◌}
use Rattle.apl_arrays.specs.Array.{PlainArray, PlainItems, numbers, chars}
use Rattle.apl_arrays.specs.declared.report.Report.{Report}
use Rattle.apl_arrays.specs.declared.report.Report.TheVariants.{Domain, Length, Syntax}
use Rattle.apl_verbs.specs.declared.verb.Verb.{Verb}
use Rattle.apl_items.specs.Extension.{is_single}
use Rattle.operator_rules.specs.Apply.{applied}
use Rattle.apl_verbs.specs.Arguments.{is_dyadic, verb_takes_axis}
use Rattle.apl_meaning.specs.State.{State, Outcome, outcome_of, refuses}

-- both are there, or neither
abbrev pub both_or_neither : Bool → Bool → Bool
both_or_neither true other = other
both_or_neither false other = not other

-- the function may be applied so: it has a left argument exactly where it takes two, and an axis only where one may stand
abbrev pub may_be_applied : Verb → Option PlainArray → Option ℤ → Bool
may_be_applied f left axis = both_or_neither (is_dyadic f) (is_some left) && (is_none axis || verb_takes_axis f)

-- an application counts once, also where it is refused; no statement that was read has one that may not be
abbrev pub application : Verb → Option PlainArray → PlainArray → Option ℤ → State → Outcome PlainArray
application f left right axis s =
    if may_be_applied f left axis then outcome_of (applied f left right axis) (record s { applications = s.applications + 1 }) else refuses Syntax s

-- the number of an axis; characters are none
abbrev pub axis_in : PlainItems → Result ℤ Report
axis_in (numbers list) = Ok (slice_index_or list 0 (pos 0))
axis_in (chars list) = Err Domain

-- the axis that an array names: it has one element, and that is a number
abbrev pub named_axis : PlainArray → Result ℤ Report
named_axis k = if is_single k then axis_in k.items else Err Length
