-- A turn of an auxiliary has one journal, where what answers behind it is determined.
use Rattle.std.proofs.Common.{◌≡◌, ◌≢◌, ℕ, Bool, true, false, List, [], ◌∷◌, ◌++◌, Option, Some, refl, ap, ap₂, subst, ◌∙◌}
use Rattle.std.proofs.lemmas.Bool.{eq-eqb}
use Rattle.std.specs.Prelude.{option_to_list, if◌then◌else◌}
use Rattle.apl_arrays.specs.Array.{PlainArray}
use Rattle.auxiliaries.specs.Run.{Event, answered, IsReplierRun}
use Rattle.sv_events.specs.declared.event.Act.TheVariants as act
use Rattle.sv_events.specs.declared.work.Work.{Work}
use Rattle.sv_events.specs.declared.work.Work.TheVariants as work
use Rattle.sv_rules.specs.Entries.{Entries, is_full}
use Rattle.sv_rules.specs.Legal.{entry_for}
use Rattle.sv_rules.specs.Work.{work_of}
use Rattle.session_rules.specs.Auxiliaries.{event_of, events_of, reply_to}
use Rattle.replay_rules.specs.Turns.{served_by}
use Rattle.bundle_devices.proofs.Determined.{Answers, IsDetermined, one_answer}
use Rattle.bundle_devices.proofs.ReplyWork.{IsAsked, replies_are_asked}

module _ {S : Type 0} (forgets : S → ℕ → S → Type 0) (replies : S → ℕ → PlainArray → PlainArray → S → Type 0) (Begins : S → Type 0) (Alike : S → S → Type 0) (one : IsDetermined forgets replies Begins Alike)
    (party : ℕ) where
  -- what the entry of a reply is to what answers
  pub reply_event : (journal : Entries) (local : List ℕ) (asked : IsAsked journal party local) (reply : PlainArray)
      → events_of (entry_for journal party (act.Set local reply) ∷ journal) party ≡ answered asked.customer asked.command reply ∷ events_of journal party
  reply_event journal local asked reply =
      ap (λ (same : Bool). (if same then option_to_list (event_of journal (entry_for journal party (act.Set local reply))) else []) ++ events_of journal party) (eq-eqb party party refl)
      ∙ ap₂ (λ (value : Option PlainArray) (partner : Option ℕ). option_to_list (reply_to value partner (Some reply)) ++ events_of journal party) asked.value asked.partner

  -- two replies to one value are one
  pub same_reply : (journal : Entries) (local : List ℕ) (asked : IsAsked journal party local) (reply other : PlainArray)
      → Answers forgets replies Begins party (entry_for journal party (act.Set local reply) ∷ journal) → Answers forgets replies Begins party (entry_for journal party (act.Set local other) ∷ journal)
      → reply ≡ other
  same_reply journal local asked reply other run ran =
      one_answer forgets replies Begins Alike one (events_of journal party) asked.customer asked.command reply other run.0 ran.0 run.2.0 ran.2.0 run.1 ran.1
      (subst (λ (events : List Event). IsReplierRun forgets replies run.0 events run.2.0) (reply_event journal local asked reply) run.2.1)
      (subst (λ (events : List Event). IsReplierRun forgets replies ran.0 events ran.2.0) (reply_event journal local asked other) ran.2.1)

  same_if : (full : Bool) (journal : Entries) (local : List ℕ) (asked : IsAsked journal party local) (reply other : PlainArray)
      → Answers forgets replies Begins party (if full then journal else entry_for journal party (act.Set local reply) ∷ journal)
      → Answers forgets replies Begins party (if full then journal else entry_for journal party (act.Set local other) ∷ journal)
      → (if full then journal else entry_for journal party (act.Set local reply) ∷ journal) ≡ (if full then journal else entry_for journal party (act.Set local other) ∷ journal)
  same_if true journal local asked reply other run ran = refl
  same_if false journal local asked reply other run ran = ap (λ (given : PlainArray). entry_for journal party (act.Set local given) ∷ journal) (same_reply journal local asked reply other run ran)

  -- a turn with some replies left has one journal
  pub same_served : (journal : Entries) (rs ss : List PlainArray) (due : Work) → work_of journal party ≡ due → rs ≢ [] → ss ≢ []
      → Answers forgets replies Begins party (served_by journal party rs due).journal → Answers forgets replies Begins party (served_by journal party ss due).journal
      → (served_by journal party rs due).journal ≡ (served_by journal party ss due).journal
  same_served journal [] ss due is some others run ran = absurd (some refl)
  same_served journal (r ∷ rs) [] due is some others run ran = absurd (others refl)
  same_served journal (r ∷ rs) (s ∷ ss) (work.Reply local) is some others run ran = same_if (is_full journal) journal local (replies_are_asked journal party local is) r s run ran
  same_served journal (r ∷ rs) (s ∷ ss) work.Idle is some others run ran = refl
  same_served journal (r ∷ rs) (s ∷ ss) (work.Retract local) is some others run ran = refl
  same_served journal (r ∷ rs) (s ∷ ss) (work.Control local) is some others run ran = refl
  same_served journal (r ∷ rs) (s ∷ ss) (work.Counter to surrogate) is some others run ran = refl
  same_served journal (r ∷ rs) (s ∷ ss) (work.Use local) is some others run ran = refl
