-- Without the places it is what the rules have.
use Rattle.std.proofs.Common.{◌≡◌, refl, sym, ap, ◌∙◌, ◌+◌, ◌≤◌, ℕ, true, false, ltb, [], ◌∷◌, ◌++◌, length, Option, Some, None, inl, inr, arith}
use Rattle.std.specs.Prelude.{option_map, unwrap_or}
use Rattle.std.specs.Option.{option_or}
use Rattle.std.proofs.lemmas.Bool.{cases_Bool, le-ltb}
use Rattle.std.proofs.lemmas.List.{append_assoc}
use Rattle.apl_arrays.specs.Array.{PlainArray}
use Rattle.sv_access.specs.Control.{no_control}
use Rattle.sv_access.specs.State.{state_after}
use Rattle.sv_access.specs.Story.{Story, state_of_story}
use Rattle.sv_access.specs.declared.access.Side.{Side}
use Rattle.sv_access.specs.declared.access.Side.TheVariants.{A, B}
use Rattle.sv_access.specs.declared.control.Control.{Control}
use Rattle.sv_access.specs.declared.state.AccessState.{AccessState}
use Rattle.sv_events.specs.Entry.{PlainEntry}
use Rattle.sv_rules.specs.Control.{Sharing, control_on, sharing, sharing_of, side_at, vector_of}
use Rattle.sv_rules.specs.Coupling.{coupling_now}
use Rattle.sv_rules.specs.Entries.{Entries}
use Rattle.sv_rules.specs.Story.{GrantedAccess, access_on, first_set, giver_story, handed_in, known, known_after, opening, opens_at, story, story_part}
use Rattle.sv_rules.specs.declared.coupling.Coupling.{Coupling}
use Rattle.sv_rules.specs.declared.standing.Standing.{Standing}
use Rattle.run_reasons.specs.Ground.{control_in, ground_now, ground_of, sharing_in}
use Rattle.run_reasons.specs.Placed.{Placed, control_at, placed, placed_after, placed_control, placed_first, placed_giver, placed_known, placed_opening, placed_part, placed_story, unplaced}
use Rattle.run_reasons.specs.declared.placed.PlacedControl.{PlacedControl}
use Rattle.run_reasons.proofs.StoryLemmas as placed_lemmas

-- the state of a story does not depend on its places
pub state-unplaced : (story : Story Placed) → state_of_story (unplaced story) ≡ state_of_story story
state-unplaced [] = refl
state-unplaced (access ∷ story) = ap (λ (s : AccessState). state_after s access.side access.kind) (state-unplaced story)

unplaced-part : (at : ℕ) (side : Side) (got : Option GrantedAccess) (rest : Story Placed) → unplaced (placed_part at side got ++ rest) ≡ story_part side got ++ unplaced rest
unplaced-part at side None rest = refl
unplaced-part at side (Some access) rest = refl

unplaced-first : (side : Side) (one : Option Placed) → unplaced (placed_first side one) ≡ first_set side (option_map (λ o. o.value) one)
unplaced-first side None = refl
unplaced-first side (Some one) = refl

value_placed : (at : ℕ) (value : Option PlainArray) → option_map (λ o. o.value) (placed at value) ≡ value
value_placed at None = refl
value_placed at (Some v) = refl

value_after : (at : ℕ) (got : Option GrantedAccess) (before : Option Placed) → option_map (λ o. o.value) (placed_after at got before) ≡ known_after got (option_map (λ o. o.value) before)
value_after at None before = refl
value_after at (Some access) before = refl

-- a value that is known with its entry is the one that is known
pub known-unplaced : (journal : Entries) (offer : Standing) → option_map (λ o. o.value) (placed_known journal offer) ≡ known journal offer
known-unplaced [] offer = refl
known-unplaced (e ∷ journal) offer = elim (cases_Bool (ltb offer.place (length journal + 1))) [
  | inl later ↦
      rw (later, placed_known, known)
      (value_after (length journal + 1) (access_on offer e) (placed_known journal offer) ∙ ap (known_after (access_on offer e)) (known-unplaced journal offer))
  | inr first ↦ rw (first, placed_known, known) (value_placed (length journal + 1) (handed_in e.act))
]

-- an opening without the places
opening-opens : (side : Side) (e : PlainEntry) (journal : Entries) (offer : Standing) → opens_at e journal offer ≡ true → opening side (e ∷ journal) offer ≡ first_set side (known (e ∷ journal) offer)
opening-opens side e journal offer opens = rw (opens, opening) refl

opening-stays : (side : Side) (e : PlainEntry) (journal : Entries) (offer : Standing) → opens_at e journal offer ≡ false → opening side (e ∷ journal) offer ≡ story_part side (access_on offer e) ++ opening side journal offer
opening-stays side e journal offer stays = rw (stays, opening) refl

pub unplaced-opening : (side : Side) (journal : Entries) (offer : Standing) → unplaced (placed_opening side journal offer) ≡ opening side journal offer
unplaced-opening side [] offer = refl
unplaced-opening side (e ∷ journal) offer = elim (cases_Bool (opens_at e journal offer)) [
  | inl opens ↦
      ap unplaced (placed_lemmas.opening-opens side e journal offer opens) ∙ unplaced-first side (placed_known (e ∷ journal) offer)
      ∙ ap (first_set side) (known-unplaced (e ∷ journal) offer) ∙ sym (opening-opens side e journal offer opens)
  | inr stays ↦
      ap unplaced (placed_lemmas.opening-stays side e journal offer stays)
      ∙ unplaced-part (length journal + 1) side (access_on offer e) (placed_opening side journal offer)
      ∙ ap (λ (s : Story PlainArray). story_part side (access_on offer e) ++ s) (unplaced-opening side journal offer) ∙ sym (opening-stays side e journal offer stays)
]

-- the story of a coupling without the places
unplaced-giver : (journal : Entries) (coupling : Coupling) (value : Option PlainArray) → unplaced (placed_giver journal coupling value) ≡ giver_story journal coupling value
unplaced-giver journal coupling None = unplaced-opening B journal coupling.b
unplaced-giver journal coupling (Some value) = unplaced-opening A journal coupling.a

story-early : (e : PlainEntry) (journal : Entries) (coupling : Coupling) → ltb coupling.at (length journal + 1) ≡ false →
    story (e ∷ journal) coupling ≡ giver_story (e ∷ journal) coupling (known (e ∷ journal) coupling.a)
story-early e journal coupling early = rw (early, story) refl

story-late : (e : PlainEntry) (journal : Entries) (coupling : Coupling) → ltb coupling.at (length journal + 1) ≡ true →
    story (e ∷ journal) coupling ≡ story_part A (access_on coupling.a e) ++ (story_part B (access_on coupling.b e) ++ story journal coupling)
story-late e journal coupling late = rw (late, story) (append_assoc (story_part A (access_on coupling.a e)) (story_part B (access_on coupling.b e)) (story journal coupling))

pub unplaced-story : (journal : Entries) (coupling : Coupling) → unplaced (placed_story journal coupling) ≡ story journal coupling
unplaced-story [] coupling = refl
unplaced-story (e ∷ journal) coupling = elim (cases_Bool (ltb coupling.at (length journal + 1))) [
  | inl late ↦
      ap unplaced (placed_lemmas.story-late e journal coupling late)
      ∙ unplaced-part (length journal + 1) A (access_on coupling.a e) (placed_part (length journal + 1) B (access_on coupling.b e) ++ placed_story journal coupling)
      ∙ ap (λ (s : Story PlainArray). story_part A (access_on coupling.a e) ++ s)
      (unplaced-part (length journal + 1) B (access_on coupling.b e) (placed_story journal coupling)
      ∙ ap (λ (s : Story PlainArray). story_part B (access_on coupling.b e) ++ s) (unplaced-story journal coupling))
      ∙ sym (story-late e journal coupling late)
  | inr early ↦
      ap unplaced (placed_lemmas.story-early e journal coupling early) ∙ unplaced-giver (e ∷ journal) coupling (known (e ∷ journal) coupling.a)
      ∙ sym (story-early e journal coupling early)
]

-- no control was set on an offer by entries that are no later than it
pub placed_control-none : (journal : Entries) (offer : Standing) → length journal ≤ offer.place → placed_control journal offer ≡ None
placed_control-none [] offer early = refl
placed_control-none (e ∷ journal) offer early = let over : ltb offer.place (length journal + 1) ≡ false = le-ltb offer.place (length journal + 1) (omega arith) in rw (over, placed_control) refl

-- the control that is set is the vector
control-or : (at : ℕ) (control : Option Control) (before : Option PlacedControl) → control_in (option_or (control_at at control) before) ≡ unwrap_or control (control_in before)
control-or at None before = refl
control-or at (Some control) before = refl

pub control-unplaced : (journal : Entries) (offer : Standing) → control_in (placed_control journal offer) ≡ vector_of journal offer
control-unplaced [] offer = refl
control-unplaced (e ∷ journal) offer = elim (cases_Bool (ltb offer.place (length journal + 1))) [
  | inl later ↦
      rw (later, placed_control, vector_of)
      (control-or (length journal + 1) (control_on offer e) (placed_control journal offer) ∙ ap (λ (c : Control). unwrap_or (control_on offer e) c) (control-unplaced journal offer))
  | inr first ↦ rw (first, placed_control, vector_of) refl
]

same_sharing : (told told' : Story PlainArray) (a a' b b' : Control) (side : Side) → told ≡ told' → a ≡ a' → b ≡ b' →
    (let s : Sharing = record { story = told; a = a; b = b; side = side } in s) ≡ record { story = told'; a = a'; b = b'; side = side }
same_sharing told told' a a' b b' side of_story of_a of_b = rw (of_story, of_a, of_b) refl

-- a ground without the places is what is shared
pub grounds : (journal : Entries) (offer : Standing) → sharing_in (ground_now journal offer) ≡ sharing journal offer
grounds journal offer = by (coupling_now journal offer.place)
  where
    by : (coupling : Option Coupling) → sharing_in (ground_of journal offer coupling) ≡ sharing_of journal offer coupling
    by None =
        same_sharing (unplaced (placed_opening A journal offer)) (opening A journal offer) (control_in (placed_control journal offer)) (vector_of journal offer) no_control no_control A
        (unplaced-opening A journal offer) (control-unplaced journal offer) refl
    by (Some coupling) =
        same_sharing (unplaced (placed_story journal coupling)) (story journal coupling) (control_in (placed_control journal coupling.a)) (vector_of journal coupling.a)
        (control_in (placed_control journal coupling.b)) (vector_of journal coupling.b) (side_at coupling offer.place)
        (unplaced-story journal coupling) (control-unplaced journal coupling.a) (control-unplaced journal coupling.b)
