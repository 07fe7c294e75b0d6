-- Stories, one entry later.
use Rattle.std.proofs.Common.{◌≡◌, refl, sym, ap, ◌∙◌, ◌+◌, ◌≤◌, true, false, not, cond, ltb, [], ◌∷◌, ◌++◌, length, Option, Some, None, inl, inr, arith}
use Rattle.std.specs.Prelude.{option_map}
use Rattle.std.specs.Option.{option_map_or}
use Rattle.std.proofs.lemmas.Bool.{cases_Bool, lt-ltb, le-ltb}
use Rattle.std.proofs.lemmas.List.{append_assoc}
use Rattle.apl_arrays.specs.Array.{PlainArray}
use Rattle.sv_access.specs.Access.{is_set}
use Rattle.sv_access.specs.Story.{Story, is_unseen, last_value, state_of_story}
use Rattle.sv_access.specs.declared.access.Kind.{Kind}
use Rattle.sv_access.specs.declared.access.Kind.TheVariants as kind
use Rattle.sv_access.specs.declared.access.Side.{Side}
use Rattle.sv_access.specs.declared.access.Side.TheVariants.{A, B}
use Rattle.sv_access.specs.declared.state.AccessState.{AccessState}
use Rattle.sv_access.specs.declared.state.AccessState.TheVariants.{Quiet, UnseenA, UnseenB}
use Rattle.sv_access.proofs.StoryLemmas.{says_unseen, is_unseen_by_state}
use Rattle.sv_events.specs.Entry.{PlainEntry}
use Rattle.sv_plain.specs.Told.{state_with, state_with_both, value_with, value_with_both, is_unseen_by}
use Rattle.sv_rules.specs.Entries.{Entries}
use Rattle.sv_rules.specs.Story.{GrantedAccess, access_on, known, opens_at, opening, first_set, story_part, giver_story, story}
use Rattle.sv_rules.specs.declared.coupling.Coupling.{Coupling}
use Rattle.sv_rules.specs.declared.standing.Standing.{Standing}

-- the state and the last value with what a side adds
pub state_with-part : (side : Side) (got : Option GrantedAccess) (told : Story PlainArray) →
    state_of_story (story_part side got ++ told) ≡ state_with (state_of_story told) side (option_map (λ access. access.kind) got)
state_with-part side None told = refl
state_with-part side (Some access) told = refl

pub value_with-part : (side : Side) (got : Option GrantedAccess) (told : Story PlainArray) → last_value (story_part side got ++ told) ≡ value_with (last_value told) got
value_with-part side None told = refl
value_with-part side (Some access) told = by access.kind access.value
  where
    by : (k : Kind) (v : PlainArray) → last_value (story_part side (let got : GrantedAccess = record { kind = k; value = v } in Some got) ++ told) ≡ value_with (last_value told) (let got : GrantedAccess = record { kind = k; value = v } in Some got)
    by kind.Set v = refl
    by kind.Use v = refl

-- an opening at an entry, and one that goes on
pub opening-opens : (side : Side) (e : PlainEntry) (journal : Entries) (offer : Standing) → opens_at e journal offer ≡ true → opening side (e ∷ journal) offer ≡ first_set side (known (e ∷ journal) offer)
opening-opens side e journal offer opens = rw (opens, opening) refl

pub opening-stays : (side : Side) (e : PlainEntry) (journal : Entries) (offer : Standing) → opens_at e journal offer ≡ false → opening side (e ∷ journal) offer ≡ story_part side (access_on offer e) ++ opening side journal offer
opening-stays side e journal offer stays = rw (stays, opening) refl

first_value : (side : Side) (value : Option PlainArray) → last_value (first_set side value) ≡ value
first_value side None = refl
first_value side (Some v) = refl

-- the state and the last value of an opening after an entry
pub opening_state-opens : (side : Side) (e : PlainEntry) (journal now : Entries) (offer : Standing) → now ≡ e ∷ journal → opens_at e journal offer ≡ true →
    state_of_story (opening side now offer) ≡ state_of_story (first_set side (known now offer))
opening_state-opens side e journal now offer same opens = rw same (ap state_of_story (opening-opens side e journal offer opens))

pub opening_state-stays : (side : Side) (e : PlainEntry) (journal now : Entries) (offer : Standing) → now ≡ e ∷ journal → opens_at e journal offer ≡ false →
    state_of_story (opening side now offer) ≡ state_with (state_of_story (opening side journal offer)) side (option_map (λ access. access.kind) (access_on offer e))
opening_state-stays side e journal now offer same stays =
    rw same (ap state_of_story (opening-stays side e journal offer stays) ∙ state_with-part side (access_on offer e) (opening side journal offer))

pub opening_value-opens : (side : Side) (e : PlainEntry) (journal now : Entries) (offer : Standing) → now ≡ e ∷ journal → opens_at e journal offer ≡ true →
    last_value (opening side now offer) ≡ known now offer
opening_value-opens side e journal now offer same opens = rw same (ap last_value (opening-opens side e journal offer opens) ∙ first_value side (known (e ∷ journal) offer))

pub opening_value-stays : (side : Side) (e : PlainEntry) (journal now : Entries) (offer : Standing) → now ≡ e ∷ journal → opens_at e journal offer ≡ false →
    last_value (opening side now offer) ≡ value_with (last_value (opening side journal offer)) (access_on offer e)
opening_value-stays side e journal now offer same stays =
    rw same (ap last_value (opening-stays side e journal offer stays) ∙ value_with-part side (access_on offer e) (opening side journal offer))

-- the last value set does not depend on the side
pub same_value-on_b : (journal : Entries) (offer : Standing) → last_value (opening A journal offer) ≡ last_value (opening B journal offer)
same_value-on_b [] offer = refl
same_value-on_b (e ∷ journal) offer = elim (cases_Bool (opens_at e journal offer)) [
  | inl opens ↦ opening_value-opens A e journal (e ∷ journal) offer refl opens ∙ sym (opening_value-opens B e journal (e ∷ journal) offer refl opens)
  | inr stays ↦
      opening_value-stays A e journal (e ∷ journal) offer refl stays
      ∙ ap (λ v. value_with v (access_on offer e)) (same_value-on_b journal offer) ∙ sym (opening_value-stays B e journal (e ∷ journal) offer refl stays)
]

-- the story of a coupling up to the entry that made it, and after a later one
pub story-giver : (journal : Entries) (coupling : Coupling) → length journal ≤ coupling.at → story journal coupling ≡ giver_story journal coupling (known journal coupling.a)
story-giver [] coupling within = refl
story-giver (e ∷ journal) coupling within =
    let early : ltb coupling.at (length journal + 1) ≡ false = le-ltb coupling.at (length journal + 1) (omega arith) in rw (early, story) refl

story-later : (e : PlainEntry) (journal : Entries) (coupling : Coupling) → coupling.at ≤ length journal →
    story (e ∷ journal) coupling ≡ story_part A (access_on coupling.a e) ++ (story_part B (access_on coupling.b e) ++ story journal coupling)
story-later e journal coupling old =
    let later : ltb coupling.at (length journal + 1) ≡ true = lt-ltb coupling.at (length journal + 1) (omega arith) in
    rw (later, story) (append_assoc (story_part A (access_on coupling.a e)) (story_part B (access_on coupling.b e)) (story journal coupling))

pub story_state-later : (e : PlainEntry) (journal now : Entries) (coupling : Coupling) → now ≡ e ∷ journal → coupling.at ≤ length journal →
    state_of_story (story now coupling) ≡ state_with_both (state_of_story (story journal coupling)) coupling e
story_state-later e journal now coupling same old =
    rw same
    (ap state_of_story (story-later e journal coupling old)
    ∙ state_with-part A (access_on coupling.a e) (story_part B (access_on coupling.b e) ++ story journal coupling)
    ∙ ap (λ s. state_with s A (option_map (λ access. access.kind) (access_on coupling.a e))) (state_with-part B (access_on coupling.b e) (story journal coupling)))

pub story_value-later : (e : PlainEntry) (journal now : Entries) (coupling : Coupling) → now ≡ e ∷ journal → coupling.at ≤ length journal →
    last_value (story now coupling) ≡ value_with_both (last_value (story journal coupling)) coupling e
story_value-later e journal now coupling same old =
    rw same
    (ap last_value (story-later e journal coupling old)
    ∙ value_with-part A (access_on coupling.a e) (story_part B (access_on coupling.b e) ++ story journal coupling)
    ∙ ap (λ v. value_with v (access_on coupling.a e)) (value_with-part B (access_on coupling.b e) (story journal coupling)))

-- a value set takes the place of the last one, by whether the access is a set
pub value_with-by : (before : Option PlainArray) (got : Option GrantedAccess) →
    value_with before got ≡ cond (option_map_or is_set (option_map (λ access. access.kind) got) false) (option_map (λ access. access.value) got) before
value_with-by before None = refl
value_with-by before (Some access) = refl

-- an access that is a use, by its kind
pub use_by_kind : (got : Option GrantedAccess) →
    option_map_or (λ access. not (is_set access.kind)) got false ≡ option_map_or (λ kind. not (is_set kind)) (option_map (λ access. access.kind) got) false
use_by_kind None = refl
use_by_kind (Some access) = refl

-- what the state says of a side
unseen_alike : (state : AccessState) (side : Side) → says_unseen state side ≡ is_unseen_by state side
unseen_alike Quiet side = refl
unseen_alike UnseenA A = refl
unseen_alike UnseenA B = refl
unseen_alike UnseenB A = refl
unseen_alike UnseenB B = refl

pub unseen_by_state : (told : Story PlainArray) (side : Side) → is_unseen side told ≡ is_unseen_by (state_of_story told) side
unseen_by_state told side = is_unseen_by_state told side ∙ unseen_alike (state_of_story told) side
