-- Where a statement stands, as plain data.
use Rattle.apl_meaning.specs.Tasks as task
use Rattle.apl_values.specs.declared.place.Place.{Place}
use Rattle.apl_values.specs.declared.place.Place.TheVariants as place

-- where a statement stands
abbrev pub plain_place : Place → task.Place
plain_place place.Immediate = task.immediate
plain_place place.InFunction = task.in_function
plain_place place.TextOfInput = task.text_of_input
plain_place place.TextInFunction = task.text_in_function
