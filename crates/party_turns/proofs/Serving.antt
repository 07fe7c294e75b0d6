-- The turns of auxiliaries.
use Rattle.std.proofs.Common.{◌≡◌, ℕ, ◌+◌, inl, inr, Bool, false, true, List, [], ◌∷◌, IsTrue, Option, Some, None, Result, Ok, Err, OnOk, length, refl, sym, ap, subst, ◌∙◌, arith}
use Rattle.std.proofs.lemmas.List.Elements.{All-cons, All-nil}
use Rattle.std.proofs.lemmas.Option.{same_Some}
use Rattle.std.specs.Prelude.{IfOk}
use Rattle.apl_arrays.specs.Array.{PlainArray}
use Rattle.auxiliaries.specs.Run.{Event, began, answered, IsReplierRun}
use Rattle.sv_core.specs.Core.{PlainCore}
use Rattle.sv_core.specs.Due.{request_due, customer_of, is_reply, is_service}
use Rattle.sv_events.specs.Entry.{PlainEntry}
use Rattle.sv_events.specs.Work.{act_of, all_controlled}
use Rattle.sv_events.specs.declared.entry.Entry.{Entry}
use Rattle.sv_events.specs.declared.event.Act.{Act}
use Rattle.sv_events.specs.declared.event.Act.TheVariants as act
use Rattle.sv_events.specs.declared.work.Work.{Work}
use Rattle.sv_events.specs.declared.work.Work.TheVariants as work
use Rattle.sv_rules.specs.Entries.{Entries, next_place}
use Rattle.sv_rules.specs.Journal.{journal_of}
use Rattle.sv_rules.specs.Legal.{IsLegal, entry_for, journal_after}
use Rattle.aux_parties.specs.Auxiliaries.{is_auxiliary}
use Rattle.sv_rules.specs.Work.{work_of}
use Rattle.sv_rules.proofs.JournalLemmas.{length-journal_of}
use Rattle.session_rules.specs.Auxiliaries.{events_of}
use Rattle.replay_rules.specs.Turns.{served}
use Rattle.replay_rules.proofs.Serving.{controls_begin, entered, others_tell_nothing, replies_answer, room_for_work, served_idle, served_reply, served_work}
use Rattle.replay_rules.proofs.Stepping.{MayStep, work_may_step}
use Rattle.party_turns.specs.Entering.{IsOneIf, IsOneMore}
use Rattle.party_turns.specs.Serving.{ComesOn, EndsOn, MakesWork, RunsOn, TookTurn}
use Rattle.party_turns.specs.SoFar.{GrowsBy, HasAnswered, IsIdleIf}
use Rattle.party_turns.specs.declared.auxiliary.Auxiliary.{Auxiliary}

-- what follows from a success
pub then_so : {T E : Type 0} (P Q : Type 0) (got : Result T E) → (P → Q) → OnOk got P → OnOk got Q
then_so P Q (Ok x) so is = so is
then_so P Q (Err e) so is = is

-- ---- entries

-- nothing is added
pub same_grows : (party : ℕ) (before after : PlainCore) → after ≡ before → GrowsBy party before after
same_grows party before after same = record {
  users = ap (λ (c : PlainCore). c.users) same;
  entries = [];
  own = All-nil (λ (e : PlainEntry). e.party ≡ party);
  journal = ap (λ (c : PlainCore). c.journal) same;
}

no_longer : (e : PlainEntry) (journal : Entries) → e ∷ journal ≡ journal → ⊥
no_longer e journal same = omega (arith, ap length same)

module _ (party : ℕ) (reply : Option PlainArray) (before after : PlainCore) (made : MakesWork party reply before after) where
  -- there is one entry more
  one_more : after.journal ≡ entry_for before.journal party made.act ∷ before.journal
  one_more =
      ap (λ (c : PlainCore). c.journal) made.made
      ∙ entered before.journal party made.act (room_for_work before.journal party (next_place before.journal) reply made.act made.due)

  pub work_grows : GrowsBy party before after
  work_grows = record {
    users = ap (λ (c : PlainCore). c.users) made.made;
    entries = entry_for before.journal party made.act ∷ [];
    own = All-cons (λ (e : PlainEntry). e.party ≡ party) (entry_for before.journal party made.act) [] refl (All-nil (λ (e : PlainEntry). e.party ≡ party));
    journal = one_more;
  }

  pub work_one : IsOneMore party before after
  work_one = record { users = ap (λ (c : PlainCore). c.users) made.made; entry = entry_for before.journal party made.act; own = refl; journal = one_more }

  pub work_is_not_idle : IsIdleIf party before.journal after.journal
  work_is_not_idle same = absurd (no_longer (entry_for before.journal party made.act) before.journal (sym one_more ∙ same))

-- so work that was made is one entry, where it is said that it was
pub made_one : {E : Type 0} (party : ℕ) (reply : Option PlainArray) (before after : PlainCore) (got : Result Bool E) → OnOk got (MakesWork party reply before after) → IfOk got (λ made. made ≡ true) → IfOk got (λ made. IsOneIf made party before after)
made_one party reply before after (Ok made) work is = subst (λ (b : Bool). IsOneIf b party before after) (sym is) (work_one party reply before after work)
made_one party reply before after (Err e) work is = tt

-- the act of a control and of a reply
control_made : (party : ℕ) (local : List ℕ) (before after : PlainCore) (made : MakesWork party None before after) → work_of before.journal party ≡ work.Control local → made.act ≡ act.SetControl local all_controlled
control_made party local before after made due = same_Some made.act (act.SetControl local all_controlled) (sym made.due ∙ ap (λ (w : Work). act_of w (next_place before.journal) None) due)

reply_made : (party : ℕ) (local : List ℕ) (reply : PlainArray) (before after : PlainCore) (made : MakesWork party (Some reply) before after) → work_of before.journal party ≡ work.Reply local → made.act ≡ act.Set local reply
reply_made party local reply before after made due = same_Some made.act (act.Set local reply) (sym made.due ∙ ap (λ (w : Work). act_of w (next_place before.journal) (Some reply)) due)

-- a reply is for a partner
no_reply : (due : Work) → is_service due ≡ false → is_reply due ≡ false
no_reply work.Idle none = refl
no_reply (work.Retract local) none = refl
no_reply (work.Control local) none = refl
no_reply (work.Reply local) none = none
no_reply (work.Counter to surrogate) none = refl
no_reply (work.Use local) none = refl

-- an auxiliary may make the act of its work at the place behind the entries
pub may_make : (users : List ℕ) (journal : Entries) (entries : List Entry) (party : ℕ) (due : Work) (reply : Option PlainArray) (made : Act) → IsLegal users journal → journal_of entries ≡ journal → IsTrue (is_auxiliary party) →
    work_of journal party ≡ due → act_of due (length entries + 1) reply ≡ Some made → MayStep users journal party made
may_make users journal entries party due reply made legal are aux is done =
    let place : length entries + 1 ≡ next_place journal = omega (arith, length-journal_of entries, ap length are) in
    work_may_step users journal legal party reply made aux (ap (λ (w : Work). act_of w (next_place journal) reply) is ∙ sym (ap (λ (n : ℕ). act_of due n reply) place) ∙ done)

-- ---- turns

module _ {X : Type 0} (forgets : X → ℕ → X → Type 0) (replies : X → ℕ → PlainArray → PlainArray → X → Type 0) (old : Auxiliary X) (before after : PlainCore) where
  -- without work
  pub idle_turn : after ≡ before → work_of before.journal old.party ≡ work.Idle → TookTurn forgets replies old old before after
  idle_turn same idle =
      let journal : after.journal ≡ before.journal = ap (λ (c : PlainCore). c.journal) same in
      record {
        grows = same_grows old.party before after same;
        answered = λ start run. subst (λ (j : Entries). HasAnswered forgets replies start j old) (sym journal) run;
        turn = record {
          made = [];
          turn = λ rest. subst (λ (j : Entries). served before.journal old.party rest ≡ record { journal = j; replies = rest }) (sym journal) (served_idle before.journal old.party rest idle);
        };
        idle = λ _. idle;
      }

  -- the journal after the work
  after_work : (reply : Option PlainArray) (made : MakesWork old.party reply before after) (is : Act) → made.act ≡ is → after.journal ≡ journal_after before.journal old.party is
  after_work reply made is same = ap (λ (c : PlainCore). c.journal) made.made ∙ ap (journal_after before.journal old.party) same

  -- work that is for no partner
  pub plain_turn : MakesWork old.party None before after → is_service (work_of before.journal old.party) ≡ false → TookTurn forgets replies old old before after
  plain_turn made none =
      let journal : after.journal ≡ journal_after before.journal old.party made.act = after_work None made made.act refl in
      record {
        grows = work_grows old.party None before after made;
        answered = λ start run.
            subst (λ (es : List Event). IsReplierRun forgets replies start es old.replier)
            (sym (ap (λ (j : Entries). events_of j old.party) journal ∙ others_tell_nothing before.journal old.party made.act none made.due)) run;
        turn = record {
          made = [];
          turn = λ rest. subst (λ (j : Entries). served before.journal old.party rest ≡ record { journal = j; replies = rest }) (sym journal)
              (served_work before.journal old.party rest made.act (no_reply (work_of before.journal old.party) none) made.due);
        };
        idle = work_is_not_idle old.party None before after made;
      }

  -- a control
  pub control_turn : (local : List ℕ) (customer : ℕ) (begun : X) → MakesWork old.party None before after → work_of before.journal old.party ≡ work.Control local → customer_of before.journal old.party ≡ Some customer →
      forgets old.replier customer begun → TookTurn forgets replies old (record old { replier = begun }) before after
  control_turn local customer begun made due serves leads =
      let journal : after.journal ≡ journal_after before.journal old.party (act.SetControl local all_controlled) =
      after_work None made (act.SetControl local all_controlled) (control_made old.party local before after made due) in
      record {
        grows = work_grows old.party None before after made;
        answered = λ start run.
            subst (λ (es : List Event). IsReplierRun forgets replies start es begun)
            (sym (ap (λ (j : Entries). events_of j old.party) journal ∙ controls_begin before.journal old.party local customer due serves)) (old.replier, run, leads);
        turn = record {
          made = [];
          turn = λ rest. subst (λ (j : Entries). served before.journal old.party rest ≡ record { journal = j; replies = rest }) (sym (after_work None made made.act refl))
              (served_work before.journal old.party rest made.act (ap is_reply due) made.due);
        };
        idle = work_is_not_idle old.party None before after made;
      }

  -- a reply
  pub reply_turn : (local : List ℕ) (customer : ℕ) (value reply : PlainArray) (answering : X) → MakesWork old.party (Some reply) before after → work_of before.journal old.party ≡ work.Reply local →
      customer_of before.journal old.party ≡ Some customer → request_due before.journal old.party ≡ Some value → replies old.replier customer value reply answering →
      TookTurn forgets replies old (record old { replier = answering }) before after
  reply_turn local customer value reply answering made due serves commands leads =
      let journal : after.journal ≡ journal_after before.journal old.party (act.Set local reply) =
      after_work (Some reply) made (act.Set local reply) (reply_made old.party local reply before after made due) in
      record {
        grows = work_grows old.party (Some reply) before after made;
        answered = λ start run.
            subst (λ (es : List Event). IsReplierRun forgets replies start es answering)
            (sym (ap (λ (j : Entries). events_of j old.party) journal ∙ replies_answer before.users before.journal made.legal old.party local customer value reply due serves commands))
            (old.replier, run, leads);
        turn = record {
          made = reply ∷ [];
          turn = λ rest. subst (λ (j : Entries). served before.journal old.party (reply ∷ rest) ≡ record { journal = j; replies = rest }) (sym journal)
              (served_reply before.journal old.party local reply rest due);
        };
        idle = work_is_not_idle old.party (Some reply) before after made;
      }

-- ---- what answers behind an auxiliary

-- what holds anyhow holds after a success
pub so_anyhow : {T E : Type 0} (P : Type 0) (got : Result T E) → P → OnOk got P
so_anyhow P (Ok x) is = is
so_anyhow P (Err e) is = tt

module _ {S : Type 0} (forgets : S → ℕ → S → Type 0) (replies : S → ℕ → PlainArray → PlainArray → S → Type 0) where
  -- it begins anew with a party
  pub begun_runs : (party : ℕ) (before after : S) → forgets before party after → RunsOn forgets replies before after
  begun_runs party before after leads start ran = record { events = began party ∷ ran.events; run = (before, ran.run, leads) }

  -- it answers a party's value
  pub answered_runs : (party : ℕ) (value answer : PlainArray) (before after : S) → replies before party value answer after → RunsOn forgets replies before after
  answered_runs party value answer before after leads start ran = record { events = answered party value answer ∷ ran.events; run = (before, ran.run, leads) }

module _ {S : Type 0} (forgets : S → ℕ → S → Type 0) (replies : S → ℕ → PlainArray → PlainArray → S → Type 0) (wants : S → ℕ → PlainArray → S → Type 0) where
  -- a run has an end
  pub runs_end : (before after : S) → RunsOn forgets replies before after → EndsOn forgets replies wants before after
  runs_end before after on start ran = record { last = after; runs = on start ran; ends = inl refl }

  -- memory ran out over an answer
  pub wanted_ends : (party : ℕ) (value : PlainArray) (before after : S) → wants before party value after → EndsOn forgets replies wants before after
  wanted_ends party value before after wanted start ran = record { last = before; runs = ran; ends = inr (record { party = party; value = value; wanted = wanted }) }

  -- an auxiliary's turn, where memory did not run out for it, and where it did
  pub ran_comes : (before after : Auxiliary S) → before.is_lost ≡ false → RunsOn forgets replies before.replier after.replier → ComesOn forgets replies wants before after
  ran_comes before after here on start came =
      let ran = on start (came.ran here) in
      record { came = record { last = after.replier; runs = ran; ends = inl refl }; ran = λ _. ran }

  pub ended_comes : (before after : Auxiliary S) → before.is_lost ≡ false → after.is_lost ≡ true → EndsOn forgets replies wants before.replier after.replier → ComesOn forgets replies wants before after
  ended_comes before after here lost ends start came = record { came = ends start (came.ran here); ran = λ none. absurd (cc (lost, none)) }
