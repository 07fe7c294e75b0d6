-- The text auxiliary gives its store no place.
use Rattle.std.proofs.Common.{◌≡◌, ◌⊎◌, inl, inr, ℕ, List, [], ◌∷◌, Option, None, Some, sym, ap, subst}
use Rattle.std.specs.Prelude.{IsSomeAnd}
use Rattle.apl_arrays.specs.Array.{PlainArray}
use Rattle.apl_arrays.specs.Name.{name_order}
use Rattle.apl_io.specs.Content.{Told, KeepsPlaces}
use Rattle.apl_io.proofs.PlaceLemmas.{both_keep, read_keeps, same_places, write_keeps}
use Rattle.auxiliaries.specs.Request.{request_of}
use Rattle.auxiliaries.specs.Protocol.{Step, answers, reads, replaces, protocol_step}
use Rattle.auxiliaries.specs.Run.{CameTo, Event, began, answered, IsReplierRun, Unanswered}
use Rattle.auxiliaries.specs.Served.{Served, TakesStep, KeepsFiles, Replies, StaysServed, forgotten}

module _ {T : Type 0} (told : T → Option (Told (List ℕ))) (faults : T → ℕ) where
  -- a step
  taken_keeps : (s : Step) (old : Served T) (answer : PlainArray) (new : Served T) → TakesStep told faults s old answer new → KeepsPlaces (told old.store) (told new.store)
  taken_keeps (answers value state) old answer new takes =
      subst (λ (store : T). KeepsPlaces (told old.store) (told store)) (sym (ap (λ (served : Served T). served.store) takes.1)) (same_places (told old.store))
  taken_keeps (reads name) old answer new takes =
      read_keeps name_order (told old.store) (told new.store) name takes.reply takes.told_reply
  taken_keeps (replaces name bytes) old answer new takes =
      write_keeps name_order (told old.store) (told new.store) name bytes takes.reply takes.told_reply

  -- a run
  pub run_keeps : (start : Served T) (events : List Event) (end : Served T) → IsReplierRun (λ old party new. new ≡ forgotten old) (λ old party value answer new. Replies told faults old value answer new) start events end
      → KeepsPlaces (told start.store) (told end.store)
  run_keeps start [] end run =
      subst (λ (served : Served T). KeepsPlaces (told start.store) (told served.store)) (sym run) (same_places (told start.store))
  run_keeps start (began party ∷ events) end (before, run, lead) =
      both_keep (told start.store) (told before.store) (told end.store) (run_keeps start events before run)
      (subst (λ (served : Served T). KeepsPlaces (told before.store) (told served.store)) (sym lead) (same_places (told before.store)))
  run_keeps start (answered party value answer ∷ events) end (before, run, lead) =
      both_keep (told start.store) (told before.store) (told end.store) (run_keeps start events before run)
      (taken_keeps (protocol_step (request_of value) before.state) before answer end lead)

  -- what keeps the files keeps the places
  kept_keeps : (before now : Option (Told (List ℕ))) → KeepsFiles before now → KeepsPlaces before now
  kept_keeps None now kept = tt
  kept_keeps (Some old) None kept = kept
  kept_keeps (Some old) (Some new) kept = kept.0

  -- a run behind which memory may have run out
  pub came_keeps : (start end : Served T) → CameTo (λ old party new. new ≡ forgotten old) (λ old party value answer new. Replies told faults old value answer new) (λ old party value new. StaysServed told faults old new) start end
      → KeepsPlaces (told start.store) (told end.store)
  came_keeps start end came = by came.ends
    where
      ran : KeepsPlaces (told start.store) (told came.last.store)
      ran = run_keeps start came.runs.events came.last came.runs.run

      by : (end ≡ came.last) ⊎ Unanswered (λ old party value new. StaysServed told faults old new) came.last end → KeepsPlaces (told start.store) (told end.store)
      by (inl same) = subst (λ (served : Served T). KeepsPlaces (told start.store) (told served.store)) (sym same) ran
      by (inr unanswered) = both_keep (told start.store) (told came.last.store) (told end.store) ran (kept_keeps (told came.last.store) (told end.store) unanswered.wanted.1)
