-- What a party knows of the journal, and what others have entered since.
use Rattle.std.proofs.Common.{◌≡◌, ◌≢◌, ℕ, ◌++◌, false, List, Option, sym, ap, ◌∙◌, subst}
use Rattle.std.proofs.lemmas.List.Elements.{recursion_from_All}
use Rattle.apl_arrays.specs.Array.{PlainArray}
use Rattle.apl_io.specs.Content.{Told}
use Rattle.auxiliaries.specs.Run.{Event, IsReplierRun}
use Rattle.sv_core.specs.Histories.{party_of_entry}
use Rattle.sv_events.specs.Entry.{PlainEntry}
use Rattle.sv_rules.specs.Entries.{Entries, has_left}
use Rattle.sv_turn.specs.Journals.{Begins, places_of}
use Rattle.sv_turn.proofs.LaterEntries.{no_later_own}
use Rattle.session_rules.specs.Auxiliaries.{acts_among, events_of}
use Rattle.session_rules.specs.Shelf.{Exchange, shelf_replies_in}
use Rattle.apl_session.specs.PlainSession.{PlainSession}
use Rattle.party_turns.specs.Entering.{IsReady}
use Rattle.party_turns.specs.Participants.{participant_with}
use Rattle.party_turns.specs.Serving.{IsAtWork}
use Rattle.party_turns.specs.SoFar.{is_waiting}
use Rattle.party_turns.specs.declared.auxiliary.Auxiliary.{Auxiliary}
use Rattle.party_turns.specs.declared.intent.Intent.{Intent}
use Rattle.party_turns.specs.declared.intent.Intent.TheVariants as intent
use Rattle.party_turns.specs.declared.seat.UserSeat.{UserSeat}
use Rattle.party_turns.proofs.Growth.{AreOthers, among_stays, events_stay, has_left_stays, so_far_stays}
use Rattle.party_turns.proofs.Others.{grown_seated, grown_whole}
use Rattle.aplsv_serve.specs.Receipts.{HasTold}
use Rattle.aplsv_serve.specs.UserTasks.{HasComeFar, IsAboutTo, sitting_at}
use Rattle.aplsv_serve.proofs.Receiving.{told_stays}

-- what a party knew is the beginning of a journal, and the rest is of others
pub record IsKnown (party : ℕ) (known journal : Entries) : Type 0 where
  pub since : Entries
  pub is : journal ≡ since ++ known
  pub others : AreOthers party since

-- so it is where the journal has no more places of the party
pub is_known : (party : ℕ) (known journal : Entries) → Begins known journal → places_of party_of_entry party known ≡ places_of party_of_entry party journal → IsKnown party known journal
is_known party known journal begins same = record {
  since = begins.0;
  is = begins.1;
  others =
      recursion_from_All (λ (e : PlainEntry). e.party ≢ party) begins.0
      (no_later_own party_of_entry party known begins.0 (ap (λ (j : Entries). places_of party_of_entry party j) (sym begins.1) ∙ sym same));
}

pub left_since : (party : ℕ) (known journal : Entries) → IsKnown party known journal → has_left journal party ≡ has_left known party
left_since party known journal k = ap (λ (j : Entries). has_left j party) k.is ∙ has_left_stays k.since known party k.others

-- ---- users

-- who may do something then may do it still
ready_since : {K : Type 0} (since known : Entries) (exchanges : List Exchange) (about : Intent) (s : PlainSession K) → AreOthers s.user since → IsReady known exchanges about s → IsReady (since ++ known) exchanges about s
ready_since since known exchanges intent.Make s others h = (
  h.0,
  record {
    act = h.1.act;
    own = h.1.own;
    now = record { asks = h.1.now.asks; so_far = λ more. so_far_stays since known (participant_with (shelf_replies_in exchanges ++ more) s) false others (h.1.now.so_far more) };
  },
)
ready_since since known exchanges intent.TryAgain s others h = (h.0, λ more. so_far_stays since known (participant_with (shelf_replies_in exchanges ++ more) s) (is_waiting s.stage) others (h.1 more))
ready_since since known exchanges intent.Leave s others h = record {
  finished = h.finished;
  so_far = λ more. so_far_stays since known (participant_with (shelf_replies_in exchanges ++ more) s) false others (h.so_far more);
  asks = h.asks;
  calls = h.calls;
}

module _ {K : Type 0} (told : K → Option (Told (ℕ × List ℕ))) (faults : K → ℕ) (known journal : Entries) (lent : K) (user : UserSeat K) (k : IsKnown user.session.user known journal) where
  -- a user has come as far in the journal
  pub far_since : HasComeFar told faults known lent user → HasComeFar told faults journal lent user
  far_since h = record {
    exchanges = h.exchanges;
    seated = grown_seated told faults k.since known journal (sitting_at lent user h.exchanges) k.is k.others h.seated;
    whole = grown_whole told faults k.since known journal (sitting_at lent user h.exchanges) k.is k.others h.whole;
    tells = λ left.
        subst (λ (j : Entries). HasTold j h.exchanges user.session) (sym k.is)
        (told_stays k.since known h.exchanges user.session k.others (h.tells (sym (left_since user.session.user known journal k) ∙ left)));
  }

  -- and is about to do the same
  pub about_since : (about : Intent) → IsAboutTo told faults known lent user about → IsAboutTo told faults journal lent user about
  about_since about h = record {
    exchanges = h.exchanges;
    come = h.come;
    ready = subst (λ (j : Entries). IsReady j h.exchanges about user.session) (sym k.is) (ready_since k.since known h.exchanges about user.session k.others h.ready);
  }

-- ---- auxiliaries

-- an auxiliary is at its work in the journal
pub work_since : {S : Type 0} (forgets : S → ℕ → S → Type 0) (replies : S → ℕ → PlainArray → PlainArray → S → Type 0) (users : List ℕ) (party : ℕ) (start : S) (known journal : Entries) (aux : Auxiliary S) → IsKnown party known journal
    → IsAtWork forgets replies users party start known aux → IsAtWork forgets replies users party start journal aux
work_since {S = S} forgets replies users party start known journal aux k h =
    let events : events_of journal party ≡ events_of known party = ap (λ (j : Entries). events_of j party) k.is ∙ events_stay k.since known party k.others in
    record {
      number = h.number;
      answered = λ here.
          subst (λ (es : List Event). IsReplierRun forgets replies start es aux.replier) (ap (λ (n : ℕ). events_of known n) h.number ∙ (sym events ∙ ap (λ (n : ℕ). events_of journal n) (sym h.number))) (h.answered here);
      among = ap (λ (j : Entries). acts_among users party j) k.is ∙ (among_stays users k.since known party k.others ∙ h.among);
    }
