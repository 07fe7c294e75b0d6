-- A story that is gone through: its last set and its state, one entry later.
use Rattle.std.proofs.Common.{◌≡◌, refl, sym, ap, ap₂, ◌∙◌, ◌+◌, ◌≤◌, ◌||◌, ℕ, Bool, true, false, eqb, ltb, List, [], ◌∷◌, ◌++◌, length, Option, Some, None, arith}
use Rattle.std.specs.Prelude.{option_map}
use Rattle.std.proofs.lemmas.Bool.{lt-ltb, le-ltb}
use Rattle.std.proofs.lemmas.List.{append_assoc}
use Rattle.apl_arrays.specs.Array.{PlainArray}
use Rattle.sv_access.specs.Story.{Story}
use Rattle.sv_access.specs.declared.access.Kind.{Kind}
use Rattle.sv_access.specs.declared.access.Kind.TheVariants as kind
use Rattle.sv_access.specs.declared.access.Side.{Side}
use Rattle.sv_access.specs.declared.access.Side.TheVariants.{A, B}
use Rattle.sv_events.specs.Entry.{PlainEntry}
use Rattle.sv_events.specs.declared.entry.Entry.{Entry}
use Rattle.sv_rules.specs.Entries.{Entries}
use Rattle.sv_rules.specs.Story.{GrantedAccess, access_on, coupling_ends, known, opens_at}
use Rattle.sv_rules.specs.declared.coupling.Coupling.{Coupling}
use Rattle.sv_rules.specs.declared.standing.Standing.{Standing}
use Rattle.run_reasons.specs.Placed.{Placed, known_source, placed_first, placed_giver, placed_known, placed_opening, placed_part, placed_story, source_of}
use Rattle.run_reasons.specs.StoryFacts.{kind_made, told, told_first, told_with, told_with_both}
use Rattle.run_reasons.specs.declared.story.StoryFacts.{StoryFacts}

-- what is told once an access was added
pub told-part : (at : ℕ) (side : Side) (got : Option GrantedAccess) (rest : Story Placed) →
    told (placed_part at side got ++ rest) ≡ told_with (told rest) side at (option_map (λ access. access.kind) got)
told-part at side None rest = refl
told-part at side (Some access) rest = by access.kind access.value
  where
    by : (k : Kind) (v : PlainArray) →
        told (placed_part at side (let got : GrantedAccess = record { kind = k; value = v } in Some got) ++ rest) ≡ told_with (told rest) side at (Some k)
    by kind.Set v = refl
    by kind.Use v = refl

-- what is told of a story that begins
pub told-first : (side : Side) (one : Option Placed) → told (placed_first side one) ≡ told_first side (option_map source_of one)
told-first side None = refl
told-first side (Some one) = refl

-- an opening at an entry, and one that goes on
pub opening-opens : (side : Side) (e : PlainEntry) (journal : Entries) (offer : Standing) → opens_at e journal offer ≡ true →
    placed_opening side (e ∷ journal) offer ≡ placed_first side (placed_known (e ∷ journal) offer)
opening-opens side e journal offer opens = rw (opens, placed_opening) refl

pub opening-stays : (side : Side) (e : PlainEntry) (journal : Entries) (offer : Standing) → opens_at e journal offer ≡ false →
    placed_opening side (e ∷ journal) offer ≡ placed_part (length journal + 1) side (access_on offer e) ++ placed_opening side journal offer
opening-stays side e journal offer stays = rw (stays, placed_opening) refl

pub told-opens : (side : Side) (e : PlainEntry) (journal now : Entries) (offer : Standing) → now ≡ e ∷ journal → opens_at e journal offer ≡ true →
    told (placed_opening side now offer) ≡ told_first side (known_source now offer)
told-opens side e journal now offer same opens =
    rw same (ap told (opening-opens side e journal offer opens) ∙ told-first side (placed_known (e ∷ journal) offer))

pub told-stays : (side : Side) (e : PlainEntry) (journal now : Entries) (offer : Standing) → now ≡ e ∷ journal → opens_at e journal offer ≡ false →
    told (placed_opening side now offer) ≡ told_with (told (placed_opening side journal offer)) side (length journal + 1) (option_map (λ access. access.kind) (access_on offer e))
told-stays side e journal now offer same stays =
    rw same (ap told (opening-stays side e journal offer stays) ∙ told-part (length journal + 1) side (access_on offer e) (placed_opening side journal offer))

-- the story of a coupling up to the entry that made it, and after a later one
pub story-early : (e : PlainEntry) (journal : Entries) (coupling : Coupling) → ltb coupling.at (length journal + 1) ≡ false →
    placed_story (e ∷ journal) coupling ≡ placed_giver (e ∷ journal) coupling (known (e ∷ journal) coupling.a)
story-early e journal coupling early = rw (early, placed_story) refl

pub story-late : (e : PlainEntry) (journal : Entries) (coupling : Coupling) → ltb coupling.at (length journal + 1) ≡ true →
    placed_story (e ∷ journal) coupling
    ≡ placed_part (length journal + 1) A (access_on coupling.a e) ++ (placed_part (length journal + 1) B (access_on coupling.b e) ++ placed_story journal coupling)
story-late e journal coupling late =
    rw (late, placed_story)
    (append_assoc (placed_part (length journal + 1) A (access_on coupling.a e)) (placed_part (length journal + 1) B (access_on coupling.b e)) (placed_story journal coupling))

pub story-giver : (journal : Entries) (coupling : Coupling) → length journal ≤ coupling.at → placed_story journal coupling ≡ placed_giver journal coupling (known journal coupling.a)
story-giver [] coupling within = refl
story-giver (e ∷ journal) coupling within = story-early e journal coupling (le-ltb coupling.at (length journal + 1) (omega arith))

pub told_story-later : (e : PlainEntry) (journal now : Entries) (coupling : Coupling) → now ≡ e ∷ journal → coupling.at ≤ length journal →
    told (placed_story now coupling) ≡ told_with_both (told (placed_story journal coupling)) coupling (length journal + 1) e
told_story-later e journal now coupling same old =
    rw same
    (ap told (story-late e journal coupling (lt-ltb coupling.at (length journal + 1) (omega arith)))
    ∙ told-part (length journal + 1) A (access_on coupling.a e) (placed_part (length journal + 1) B (access_on coupling.b e) ++ placed_story journal coupling)
    ∙ ap (λ (t : StoryFacts). told_with t A (length journal + 1) (kind_made coupling.a e)) (told-part (length journal + 1) B (access_on coupling.b e) (placed_story journal coupling)))

-- the offer opens at an entry where it is made there, or its coupling ends
pub opens-so : (e : PlainEntry) (journal : Entries) (offer : Standing) (at : ℕ) (ends b : Bool) → at ≡ length journal + 1 → ends ≡ coupling_ends e journal offer.place →
    (eqb offer.place at || ends) ≡ b → opens_at e journal offer ≡ b
opens-so e journal offer at ends b is so h = ap₂ (λ (n : ℕ) (x : Bool). eqb offer.place n || x) (sym is) (sym so) ∙ h

-- how many entries there are, oldest first, with one more
pub size-more : (e : PlainEntry) (journal now : Entries) (entries : List Entry) → length now ≡ length entries → now ≡ e ∷ journal → length entries ≡ length journal + 1
size-more e journal now entries same is = let more : length now ≡ length (e ∷ journal) = ap (λ (j : Entries). length j) is in omega (arith, same, more)
