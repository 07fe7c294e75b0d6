-- One of two stays the one that it is.
use Rattle.std.proofs.Common.{◌≡◌, ◌⊎◌, inl, inr, ◌∙◌, ℕ, List, [], ◌∷◌, refl, subst}
use Rattle.apl_arrays.specs.Array.{PlainArray}
use Rattle.auxiliaries.specs.Run.{CameTo, Event, IsReplierRun, EventLeads, RunsTo, Unanswered, answered, began}
use Rattle.aux_choice.specs.OneOf.{FirstComes, FirstStays, Forgets, Replies, SecondComes, SecondStays, Wants}
use Rattle.aux_choice.specs.declared.one_of.OneOf.{OneOf}
use Rattle.aux_choice.specs.declared.one_of.OneOf.TheVariants.{First, Second}

module _ {X Y : Type 0} (forgets_first : X → ℕ → X → Type 0) (replies_first : X → ℕ → PlainArray → PlainArray → X → Type 0) (forgets_second : Y → ℕ → Y → Type 0) (replies_second : Y → ℕ → PlainArray → PlainArray → Y → Type 0) where
  -- one event more of the first
  first_goes_on : (start last : X) (events : List Event) (event : Event) (end : OneOf X Y) → IsReplierRun forgets_first replies_first start events last
      → EventLeads (Forgets forgets_first forgets_second) (Replies replies_first replies_second) event (First last) end
      → (next : X) × (end ≡ First next) × IsReplierRun forgets_first replies_first start (event ∷ events) next
  first_goes_on start last events (began party) (First next) run lead = (next, refl, (last, run, lead))
  first_goes_on start last events (began party) (Second next) run lead = absurd lead
  first_goes_on start last events (answered party value answer) (First next) run lead = (next, refl, (last, run, lead))
  first_goes_on start last events (answered party value answer) (Second next) run lead = absurd lead

  pub first_stays : FirstStays forgets_first replies_first forgets_second replies_second
  first_stays start [] end run = (start, run, refl)
  first_stays start (event ∷ events) end (before, run, lead) =
      let earlier = first_stays start events before run in
      first_goes_on start earlier.0 events event end earlier.2 (subst (λ (c : OneOf X Y). EventLeads (Forgets forgets_first forgets_second) (Replies replies_first replies_second) event c end) earlier.1 lead)

  -- one event more of the second
  second_goes_on : (start last : Y) (events : List Event) (event : Event) (end : OneOf X Y) → IsReplierRun forgets_second replies_second start events last
      → EventLeads (Forgets forgets_first forgets_second) (Replies replies_first replies_second) event (Second last) end
      → (next : Y) × (end ≡ Second next) × IsReplierRun forgets_second replies_second start (event ∷ events) next
  second_goes_on start last events (began party) (First next) run lead = absurd lead
  second_goes_on start last events (began party) (Second next) run lead = (next, refl, (last, run, lead))
  second_goes_on start last events (answered party value answer) (First next) run lead = absurd lead
  second_goes_on start last events (answered party value answer) (Second next) run lead = (next, refl, (last, run, lead))

  pub second_stays : SecondStays forgets_first replies_first forgets_second replies_second
  second_stays start [] end run = (start, run, refl)
  second_stays start (event ∷ events) end (before, run, lead) =
      let earlier = second_stays start events before run in
      second_goes_on start earlier.0 events event end earlier.2 (subst (λ (c : OneOf X Y). EventLeads (Forgets forgets_first forgets_second) (Replies replies_first replies_second) event c end) earlier.1 lead)

module _ {X Y : Type 0} (forgets_first : X → ℕ → X → Type 0) (replies_first : X → ℕ → PlainArray → PlainArray → X → Type 0) (wants_first : X → ℕ → PlainArray → X → Type 0)
    (forgets_second : Y → ℕ → Y → Type 0) (replies_second : Y → ℕ → PlainArray → PlainArray → Y → Type 0) (wants_second : Y → ℕ → PlainArray → Y → Type 0) where
  -- the first, where memory may have run out
  first_ends : (start reached : X) (last end : OneOf X Y) → last ≡ First reached → RunsTo forgets_first replies_first start reached → (end ≡ last) ⊎ Unanswered (Wants wants_first wants_second) last end
      → (final : X) × (end ≡ First final) × CameTo forgets_first replies_first wants_first start final
  first_ends start reached last end is runs (inl same) = (reached, same ∙ is, record { last = reached; runs = runs; ends = inl refl })
  first_ends start reached last (First final) is runs (inr stays) =
      let wanted : wants_first reached stays.party stays.value final = subst (λ (c : OneOf X Y). Wants wants_first wants_second c stays.party stays.value (First final)) is stays.wanted in
      (final, refl, record { last = reached; runs = runs; ends = inr (record { party = stays.party; value = stays.value; wanted = wanted }) })
  first_ends start reached last (Second final) is runs (inr stays) = absurd (subst (λ (c : OneOf X Y). Wants wants_first wants_second c stays.party stays.value (Second final)) is stays.wanted)

  pub first_comes : FirstComes forgets_first replies_first wants_first forgets_second replies_second wants_second
  first_comes start end came =
      let stays = first_stays forgets_first replies_first forgets_second replies_second start came.runs.events came.last came.runs.run in
      first_ends start stays.0 came.last end stays.1 (record { events = came.runs.events; run = stays.2 }) came.ends

  -- the second
  second_ends : (start reached : Y) (last end : OneOf X Y) → last ≡ Second reached → RunsTo forgets_second replies_second start reached → (end ≡ last) ⊎ Unanswered (Wants wants_first wants_second) last end
      → (final : Y) × (end ≡ Second final) × CameTo forgets_second replies_second wants_second start final
  second_ends start reached last end is runs (inl same) = (reached, same ∙ is, record { last = reached; runs = runs; ends = inl refl })
  second_ends start reached last (Second final) is runs (inr stays) =
      let wanted : wants_second reached stays.party stays.value final = subst (λ (c : OneOf X Y). Wants wants_first wants_second c stays.party stays.value (Second final)) is stays.wanted in
      (final, refl, record { last = reached; runs = runs; ends = inr (record { party = stays.party; value = stays.value; wanted = wanted }) })
  second_ends start reached last (First final) is runs (inr stays) = absurd (subst (λ (c : OneOf X Y). Wants wants_first wants_second c stays.party stays.value (First final)) is stays.wanted)

  pub second_comes : SecondComes forgets_first replies_first wants_first forgets_second replies_second wants_second
  second_comes start end came =
      let stays = second_stays forgets_first replies_first forgets_second replies_second start came.runs.events came.last came.runs.run in
      second_ends start stays.0 came.last end stays.1 (record { events = came.runs.events; run = stays.2 }) came.ends
