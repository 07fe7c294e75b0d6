-- What the verdict by a state says of a hold over a story of that state.
use Rattle.std.proofs.Common.{◌≡◌, refl, sym, ap, ◌∙◌, ℕ, Option, Some, None}
use Rattle.std.specs.Prelude.{option_map}
use Rattle.std.specs.Option.{option_map_or}
use Rattle.apl_arrays.specs.Array.{PlainArray}
use Rattle.sv_access.specs.Control.{combined}
use Rattle.sv_access.specs.Story.{Story, refused_element, state_of_story}
use Rattle.sv_access.specs.Table.{owners_of, verdict_of}
use Rattle.sv_access.specs.declared.access.Kind.{Kind}
use Rattle.sv_access.specs.declared.access.Side.{Side}
use Rattle.sv_access.specs.declared.control.Control.{Control}
use Rattle.sv_access.specs.declared.state.AccessState.{AccessState}
use Rattle.sv_access.specs.declared.verdict.Owners.{Owners}
use Rattle.sv_access.specs.declared.verdict.Verdict.{Verdict}
use Rattle.sv_access.specs.declared.verdict.Verdict.TheVariants.{Granted, Held}
use Rattle.sv_access.proofs.StoryLemmas.{verdict_by_state}
use Rattle.sv_events.specs.declared.event.Hold.{Hold}
use Rattle.sv_rules.specs.Refused.{hold_under}

-- the hold in a verdict
abbrev hold_in : (ℕ → Owners) → Verdict → Option Hold
hold_in own Granted = None
hold_in own (Held element) = Some (record { element = element; owners = own element })

hold_of_element : (own : ℕ → Owners) (refusing : Option ℕ) → hold_in own (option_map_or Held refusing Granted) ≡ option_map (λ element. let h : Hold = record { element = element; owners = own element } in h) refusing
hold_of_element own None = refl
hold_of_element own (Some element) = refl

hold_by_verdict : (a b : Control) (state : AccessState) (side : Side) (kind : Kind) (told : Story PlainArray) → state_of_story told ≡ state →
    hold_in (owners_of a b side) (verdict_of (combined a b) state side kind) ≡ hold_under (record { story = told; a = a; b = b; side = side }) kind
hold_by_verdict a b state side kind told is =
    ap (λ (s : AccessState). hold_in (owners_of a b side) (verdict_of (combined a b) s side kind)) (sym is)
    ∙ ap (hold_in (owners_of a b side)) (verdict_by_state (combined a b) told side kind)
    ∙ hold_of_element (owners_of a b side) (refused_element (combined a b) told side kind)

-- where the verdict grants nothing refuses, and where it holds its element does
pub hold_where_granted : (a b : Control) (state : AccessState) (side : Side) (kind : Kind) → Granted ≡ verdict_of (combined a b) state side kind →
    (told : Story PlainArray) → state_of_story told ≡ state → None ≡ hold_under (record { story = told; a = a; b = b; side = side }) kind
hold_where_granted a b state side kind verdict told is = ap (hold_in (owners_of a b side)) verdict ∙ hold_by_verdict a b state side kind told is

pub hold_where_held : (a b : Control) (state : AccessState) (side : Side) (kind : Kind) (element : ℕ) → Held element ≡ verdict_of (combined a b) state side kind →
    (told : Story PlainArray) → state_of_story told ≡ state →
    Some (record { element = element; owners = owners_of a b side element }) ≡ hold_under (record { story = told; a = a; b = b; side = side }) kind
hold_where_held a b state side kind element verdict told is = ap (hold_in (owners_of a b side)) verdict ∙ hold_by_verdict a b state side kind told is
