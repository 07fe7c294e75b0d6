-- What is kept of a story that is gone through: its last set, and its state.
use Rattle.std.specs.Prelude.{ℕ, true, Option, Some, None, option_map, if◌then◌else◌}
use Rattle.sv_access.specs.Access.{is_set}
use Rattle.sv_access.specs.State.{state_after}
use Rattle.sv_access.specs.Story.{Story, last_set, state_of_story}
use Rattle.sv_access.specs.declared.access.Kind.{Kind}
use Rattle.sv_access.specs.declared.access.Kind.TheVariants as kind
use Rattle.sv_access.specs.declared.access.Side.{Side}
use Rattle.sv_access.specs.declared.access.Side.TheVariants.{A, B}
use Rattle.sv_access.specs.declared.state.AccessState.TheVariants.{Quiet}
use Rattle.sv_events.specs.Entry.{PlainEntry}
use Rattle.sv_rules.specs.Story.{access_on}
use Rattle.sv_rules.specs.declared.coupling.Coupling.{Coupling}
use Rattle.sv_rules.specs.declared.standing.Standing.{Standing}
use Rattle.run_reasons.specs.Placed.{Placed, source_of}
use Rattle.run_reasons.specs.declared.story.Source.{Source}
use Rattle.run_reasons.specs.declared.story.StoryFacts.{StoryFacts}

-- the last set of a story, and its state
abbrev pub told : Story Placed → StoryFacts
told story = record { last = option_map (λ access. record { side = access.side; source = source_of access.value }) (last_set story); state = state_of_story story }

-- a story that begins with a set, if a value is known
abbrev pub told_first : Side → Option Source → StoryFacts
told_first side None = record { last = None; state = Quiet }
told_first side (Some source) = record { last = Some (record { side = side; source = source }); state = state_after Quiet side kind.Set }

-- a story with an access more of a side at a place, if it made one: a set is the last one then
abbrev pub told_with : StoryFacts → Side → ℕ → Option Kind → StoryFacts
told_with before side at None = before
told_with before side at (Some made) = record {
  last = if is_set made then Some (record { side = side; source = record { at = at; is_set = true } }) else before.last;
  state = state_after before.state side made;
}

-- the kind of an access that an entry makes on an offer, if it makes one
abbrev pub kind_made : Standing → PlainEntry → Option Kind
kind_made offer e = option_map (λ access. access.kind) (access_on offer e)

-- a coupling's story with the accesses more that an entry at a place makes on both sides
abbrev pub told_with_both : StoryFacts → Coupling → ℕ → PlainEntry → StoryFacts
told_with_both before coupling at e = told_with (told_with before B at (kind_made coupling.b e)) A at (kind_made coupling.a e)
