-- A user whose shelf was empty saw one list of lines.
use Rattle.std.proofs.Common.{◌≡◌, ◌⊎◌, ℕ, List, [], ◌∷◌, ◌++◌, map, inl, inr, refl, sym, ap, ◌∙◌, subst, append-nil, append_assoc}
use Rattle.bundle_devices.proofs.OwnDevices.{keeper_faults, told_by}
use Rattle.bundle_devices.proofs.Sessions.{AreLevel, same_session}
use Rattle.bundle_devices.proofs.Shelves.{FitShelf, fit_earlier, fit_one}
use Rattle.bundle_devices.specs.Devices.{empty_shelf}
use Rattle.bundle_text.specs.User.{PlainUser}
use Rattle.session_rules.proofs.MoreAnswers.{more_comes_back}
use Rattle.session_rules.specs.Course.{Course}
use Rattle.session_rules.specs.Session.{session_of}
use Rattle.session_rules.specs.Shelf.{Exchange, shelf_replies_in}
use Rattle.session_rules.specs.UserPart.{answered_entries, answers_of}
use Rattle.sv_events.specs.Answer.{PlainAnswer, full}
use Rattle.sv_events.specs.declared.event.Act.{Act}
use Rattle.sv_rules.specs.Entries.{Entries}
use Rattle.check_rules.specs.Saw.{Saw}
use Rattle.check_rules.proofs.OneCourse.{served_fit}

abbrev refusals : List Act → List PlainAnswer
refusals refused = map (λ (act : Act). full) refused

-- refusals begin with fewer
record IsFront (front answers : List PlainAnswer) : Type 0 where
  more : List PlainAnswer
  same : answers ≡ front ++ more

both_more : (one two : List PlainAnswer) → IsFront one two ⊎ IsFront two one → IsFront (full ∷ one) (full ∷ two) ⊎ IsFront (full ∷ two) (full ∷ one)
both_more one two (inl h) = inl (record { more = h.more; same = ap (λ (answers : List PlainAnswer). full ∷ answers) h.same })
both_more one two (inr h) = inr (record { more = h.more; same = ap (λ (answers : List PlainAnswer). full ∷ answers) h.same })

-- of two lists of refusals one is the front of the other
fronts : (one two : List Act) → IsFront (refusals one) (refusals two) ⊎ IsFront (refusals two) (refusals one)
fronts [] two = inl (record { more = refusals two; same = refl })
fronts (act ∷ one) [] = inr (record { more = refusals (act ∷ one); same = refl })
fronts (act ∷ one) (other ∷ two) = both_more (refusals one) (refusals two) (fronts one two)

module _ (journal : Entries) (user : PlainUser) where
  abbrev given : List PlainAnswer → List PlainAnswer
  given more = answers_of (answered_entries journal user.number) ++ more

  abbrev course_of : List PlainAnswer → List Exchange → Course
  course_of more exchanges = session_of user.lines (given more) (shelf_replies_in exchanges)

  -- with more refusals the session is the same, but for these
  finished_with : (lines : List (List ℕ)) (saw : Saw journal user lines) (longer : List PlainAnswer) → IsFront (refusals saw.part.refused) longer → ((course_of longer saw.exchanges).exchanges ≡ saw.exchanges) × ((course_of longer saw.exchanges).terminal.transcript ≡ lines)
  finished_with lines saw longer front =
      let short : List PlainAnswer = refusals saw.part.refused in
      let same : given longer ≡ given short ++ front.more = ap given front.same ∙ sym (append_assoc (answers_of (answered_entries journal user.number)) short front.more) in
      let on : course_of longer saw.exchanges ≡ record (course_of short saw.exchanges) { answers = (course_of short saw.exchanges).answers ++ front.more } =
      ap (λ (answers : List PlainAnswer). session_of user.lines answers (shelf_replies_in saw.exchanges)) same ∙ more_comes_back user.lines (given short) front.more (shelf_replies_in saw.exchanges) saw.part.finished.waits in
      (ap (λ (c : Course). c.exchanges) on ∙ saw.part.finished.calls, ap (λ (c : Course). c.terminal.transcript) on ∙ saw.part.finished.printed)

  -- so with as many the lines are the same
  same_with : (lines others : List (List ℕ)) (saw : Saw journal user lines) (also : Saw journal user others) (longer : List PlainAnswer) → IsFront (refusals saw.part.refused) longer → IsFront (refusals also.part.refused) longer → lines ≡ others
  same_with lines others saw also longer front fore =
      let one = finished_with lines saw longer front in
      let two = finished_with others also longer fore in
      let fits = subst (λ (exchanges : List Exchange). FitShelf told_by keeper_faults empty_shelf user.number exchanges) (sym one.0) (served_fit user.number saw.exchanges saw.served) in
      let fit = subst (λ (exchanges : List Exchange). FitShelf told_by keeper_faults empty_shelf user.number exchanges) (sym two.0) (served_fit user.number also.exchanges also.served) in
      let level : AreLevel (course_of longer saw.exchanges) (course_of longer also.exchanges) =
      same_session (FitShelf told_by keeper_faults empty_shelf user.number) (fit_earlier told_by keeper_faults empty_shelf user.number) (fit_one told_by keeper_faults empty_shelf user.number) user.lines (given longer)
      (shelf_replies_in saw.exchanges) (shelf_replies_in also.exchanges) fits fit in
      sym one.1 ∙ (sym (ap (λ (c : Course). c.terminal.transcript) level.same) ∙ two.1)

  all_of : (answers : List PlainAnswer) → IsFront answers answers
  all_of answers = record { more = []; same = sym (append-nil answers) }

  pub one_saw : (lines others : List (List ℕ)) → Saw journal user lines → Saw journal user others → lines ≡ others
  one_saw lines others saw also = elim (fronts saw.part.refused also.part.refused) [
    | inl front ↦ same_with lines others saw also (refusals also.part.refused) front (all_of (refusals also.part.refused))
    | inr front ↦ same_with lines others saw also (refusals saw.part.refused) (all_of (refusals saw.part.refused)) front
  ]
