-- Seats that are filled, user by user, and seats that are taken apart.
use Rattle.std.proofs.Common.{◌≡◌, ℕ, ◌&&◌, Bool, true, false, List, [], ◌∷◌, ◌++◌, map, Option, Result, Ok, Err, refl, sym, ap, ap₂, ◌∙◌, subst, append-nil, append_assoc}
use Rattle.std.proofs.lemmas.Bool.{and_parts}
use Rattle.std.proofs.lemmas.List.{map_push}
use Rattle.std.proofs.lemmas.List.Elements.{All-head, All-push, All-tail}
use Rattle.std.specs.Prelude.{All, OnErr, OnOk}
use Rattle.std.specs.Result.{is_ok}
use Rattle.apl_arrays.specs.List.{Listed}
use Rattle.apl_arrays.specs.Ascending.{Ascend, AscendBy}
use Rattle.apl_io.specs.Content.{Told}
use Rattle.bundle_text.specs.User.{plain_user}
use Rattle.bundle_text.specs.declared.user.BundleUser.{BundleUser}
use Rattle.replay_rules.specs.Turns.{newcomer}
use Rattle.sv_journal.specs.Output.{PlainTranscript}
use Rattle.session_rules.specs.Run.{Dealings}
use Rattle.session_rules.specs.Session.{session_of}
use Rattle.session_rules.specs.Shelf.{Exchange, ShelfReply, shelf_replies_in}
use Rattle.apl_session.specs.PlainSession.{HasCome, PlainSession}
use Rattle.apl_session.specs.Wants.{HasHeardAll}
use Rattle.apl_session.specs.declared.session.SessionStage.TheVariants as stage
use Rattle.party_turns.specs.Participants.{participant_of, users_of}
use Rattle.party_turns.specs.Seats.{HasPrinted, transcript_of}
use Rattle.party_turns.specs.Sittings.{Sitting, newly, seats_in}
use Rattle.party_turns.specs.SoFar.{IsSeated, user_of}
use Rattle.party_turns.specs.declared.seat.UserSeat.{UserSeat}
use Rattle.party_turns.proofs.Ascents.{ascend_up_to, ascend_without}
use Rattle.party_turns.proofs.Beginning.{newcomer_is_seated}
use Rattle.party_turns.proofs.Rows.{mapped_more, shelf_given, shelf_taken}
use Rattle.party_turns.proofs.Sits.{first_sits, none_sits}

-- ---- filling

-- these seats are those of the users so far, and took their shelves
pub record AreFilled {K : Type 0} (told : K → Option (Told (ℕ × List ℕ))) (faults : K → ℕ) (done : List BundleUser) (seats : List (UserSeat K)) (left all : List K) : Type 0 where
  pub users : map (λ seat. user_of seat.session) seats ≡ map plain_user done
  pub newcomers : (final : Dealings) → users_of final seats ≡ map (newcomer final) (map plain_user done)
  pub seated : All (λ seat. IsSeated told faults [] (newly seat)) seats
  pub here : All (λ seat. seat.is_lost ≡ false) seats
  pub shelves : map (λ seat. seat.session.shelf) seats ++ left ≡ all

-- a seat more
pub filled_more : {K : Type 0} (told : K → Option (Told (ℕ × List ℕ))) (faults : K → ℕ) (done : List BundleUser) (seats : List (UserSeat K)) (shelves rest all : List K) (user : BundleUser) (seat : UserSeat K) (session : PlainSession K) (shelf : K) → AreFilled told faults done seats shelves all
    → shelves ≡ shelf ∷ rest → HasCome told faults shelf [] session
    → session ≡ record { user = user.number; lines = user.lines.items; acts = []; answers = []; stage = stage.Ready; shelf = shelf; inside = session.inside } → seat ≡ (let s : UserSeat K = record { session = session; is_lost = false } in s)
    → AreFilled told faults (done ++ user ∷ []) (seats ++ seat ∷ []) rest all
filled_more {K = K} told faults done seats shelves rest all user seat session shelf h first come begins at =
    let is : seat ≡ (let s : UserSeat K = record { session = record { user = user.number; lines = user.lines.items; acts = []; answers = []; stage = stage.Ready; shelf = shelf; inside = session.inside }; is_lost = false } in s) =
    at ∙ ap (λ (t : PlainSession K). let s : UserSeat K = record { session = t; is_lost = false } in s) begins in
    record {
      users = mapped_more (λ (s : UserSeat K). user_of s.session) plain_user seats done seat user h.users (ap (λ (s : UserSeat K). user_of s.session) is);
      newcomers = λ final.
          mapped_more (λ (s : UserSeat K). participant_of final s.session) (newcomer final) seats (map plain_user done) seat (plain_user user) (h.newcomers final) (ap (λ (s : UserSeat K). participant_of final s.session) is)
          ∙ ap (λ us. map (newcomer final) us) (sym (map_push plain_user done user));
      seated = All-push (λ (s : UserSeat K). IsSeated told faults [] (newly s)) seats seat h.seated
          (subst (λ (k : K). let s : Sitting K = record { seat = seat; lent = k; exchanges = [] } in IsSeated told faults [] s) (sym (ap (λ (s : UserSeat K). s.session.shelf) is)) (newcomer_is_seated told faults user.number user.lines.items shelf session seat come begins at));
      here = All-push (λ (s : UserSeat K). s.is_lost ≡ false) seats seat h.here (ap (λ (s : UserSeat K). s.is_lost) is);
      shelves = shelf_taken (λ (s : UserSeat K). s.session.shelf) seats shelves rest all seat shelf h.shelves first (ap (λ (s : UserSeat K). s.session.shelf) is);
    }

-- ---- taking apart

-- the first of some users printed these transcripts, and the others have these seats
pub record ArePrintedBefore {K : Type 0} (transcripts : List PlainTranscript) (seats : List (UserSeat K)) (sittings : List (Sitting K)) : Type 0 where
  pub first : List (Sitting K)
  pub rest : List (Sitting K)
  pub is : sittings ≡ first ++ rest
  pub printed : transcripts ≡ map transcript_of first
  pub here : seats_in rest ≡ seats

module _ {K : Type 0} (tells : K → Option (Told (ℕ × List ℕ))) (faults : K → ℕ) where
  -- of all seats these are left; the others gave their shelves and, while there was memory, their transcripts
  pub record AreApart (all : List (UserSeat K)) (before : List K) (seats : List (UserSeat K)) (given : List K) (told : List PlainTranscript) (whole : Bool) : Type 0 where
    pub shelves : given ++ map (λ seat. seat.session.shelf) seats ≡ before ++ map (λ seat. seat.session.shelf) all
    pub ascending : Ascend (map (λ transcript. transcript.user) told ++ map (λ seat. seat.session.user) seats)
    pub transcripts : whole ≡ true → (sittings : List (Sitting K)) → seats_in sittings ≡ all → All (HasPrinted tells faults) sittings → ArePrintedBefore told seats sittings

  -- the transcript of a seat: its user's, and its lines where all answers were heard
  pub record IsOfSeat (seat : UserSeat K) (transcript : PlainTranscript) : Type 0 where
    pub user : transcript.user ≡ seat.session.user
    pub lines : HasHeardAll seat.session.stage → (lent : K) (exchanges : List Exchange) → HasCome tells faults lent exchanges seat.session → (more : List ShelfReply) → transcript.lines ≡ (session_of seat.session.lines seat.session.answers (shelf_replies_in exchanges ++ more)).terminal.transcript

  of_seat_is : (sitting : Sitting K) (transcript : PlainTranscript) → IsOfSeat sitting.seat transcript → HasPrinted tells faults sitting → transcript ≡ transcript_of sitting
  of_seat_is sitting transcript h printed =
      ap (λ user. let t : PlainTranscript = record { user = user; lines = transcript.lines } in t) h.user
      ∙ ap (λ lines. let t : PlainTranscript = record { user = sitting.seat.session.user; lines = lines } in t)
      (h.lines printed.heard sitting.lent sitting.exchanges printed.come [] ∙ ap (λ replies. (session_of sitting.seat.session.lines sitting.seat.session.answers replies).terminal.transcript) (append-nil (shelf_replies_in sitting.exchanges)))

-- the numbers of the transcripts so far and of a seat's user ascend
users_with : {K : Type 0} (seats rest : List (UserSeat K)) (seat : UserSeat K) (transcripts : List PlainTranscript) → seats ≡ seat ∷ rest
    → Ascend (map (λ transcript. transcript.user) transcripts ++ map (λ (s : UserSeat K). s.session.user) seats)
    → Ascend (map (λ transcript. transcript.user) transcripts ++ seat.session.user ∷ map (λ (s : UserSeat K). s.session.user) rest)
users_with {K = K} seats rest seat transcripts first h =
    subst (λ (ss : List (UserSeat K)). Ascend (map (λ transcript. transcript.user) transcripts ++ map (λ (s : UserSeat K). s.session.user) ss)) first h

pub transcript_ascends : {K : Type 0} (seats rest : List (UserSeat K)) (seat : UserSeat K) (transcripts : List PlainTranscript) (transcript : PlainTranscript) → seats ≡ seat ∷ rest → transcript.user ≡ seat.session.user
    → Ascend (map (λ t. t.user) transcripts ++ map (λ (s : UserSeat K). s.session.user) seats) → AscendBy (λ t. t.user) (transcripts ++ transcript ∷ [])
transcript_ascends {K = K} seats rest seat transcripts transcript first same h =
    subst Ascend (ap (λ (u : ℕ). map (λ (t : PlainTranscript). t.user) transcripts ++ u ∷ []) (sym same) ∙ sym (map_push (λ (t : PlainTranscript). t.user) transcripts transcript))
    (ascend_up_to (map (λ (t : PlainTranscript). t.user) transcripts) seat.session.user (map (λ (s : UserSeat K). s.session.user) rest) (users_with seats rest seat transcripts first h))

and_false : (b : Bool) → (b && false) ≡ false
and_false true = refl
and_false false = refl

-- what holds of all holds of those behind some
all_behind : {X : Type 0} (P : X → Type 0) (first rest : List X) → All P (first ++ rest) → All P rest
all_behind P [] rest h = h
all_behind P (x ∷ first) rest h = all_behind P first rest (All-tail P x (first ++ rest) h)

module _ {K : Type 0} (tells : K → Option (Told (ℕ × List ℕ))) (faults : K → ℕ) where
  -- one transcript more
  printed_more : (seats rest : List (UserSeat K)) (transcripts : List PlainTranscript) (seat : UserSeat K) (transcript : PlainTranscript) (sittings : List (Sitting K)) → seats ≡ seat ∷ rest → IsOfSeat tells faults seat transcript → All (HasPrinted tells faults) sittings
      → ArePrintedBefore transcripts seats sittings → ArePrintedBefore (transcripts ++ transcript ∷ []) rest sittings
  printed_more seats rest transcripts seat transcript sittings first of every h =
      let f = first_sits h.rest seat rest (h.here ∙ first) in
      let here : HasPrinted tells faults f.first = All-head (HasPrinted tells faults) f.first f.rest (subst (λ (list : List (Sitting K)). All (HasPrinted tells faults) list) f.is (all_behind (HasPrinted tells faults) h.first h.rest (subst (λ (list : List (Sitting K)). All (HasPrinted tells faults) list) h.is every))) in
      let same : transcript ≡ transcript_of f.first = of_seat_is tells faults f.first transcript (subst (λ (s : UserSeat K). IsOfSeat tells faults s transcript) (sym f.here) of) here in
      record {
        first = h.first ++ f.first ∷ [];
        rest = f.rest;
        is = h.is ∙ ap (λ (list : List (Sitting K)). h.first ++ list) f.is ∙ sym (append_assoc h.first (f.first ∷ []) f.rest);
        printed = ap₂ (λ (list : List PlainTranscript) (t : PlainTranscript). list ++ t ∷ []) h.printed same ∙ sym (map_push transcript_of h.first f.first);
        here = f.behind;
      }

  -- a seat is taken, and its transcript kept if there is memory
  pub apart_more : {E : Type 0} (kept : Result (Unit {0}) E) (all seats rest : List (UserSeat K)) (before shelves : List K) (transcripts new : List PlainTranscript) (whole : Bool) (seat : UserSeat K) (shelf : K) (transcript : PlainTranscript)
      → AreApart tells faults all before seats shelves transcripts whole → seats ≡ seat ∷ rest → seat.session.shelf ≡ shelf → IsOfSeat tells faults seat transcript → OnOk kept (new ≡ transcripts ++ transcript ∷ []) → OnErr kept (new ≡ transcripts)
      → AreApart tells faults all before rest (shelves ++ shelf ∷ []) new (whole && is_ok kept)
  apart_more (Ok u) all seats rest before shelves transcripts new whole seat shelf transcript h first has of ok err = record {
    shelves = shelf_given (λ (s : UserSeat K). s.session.shelf) seats rest shelves (before ++ map (λ (s : UserSeat K). s.session.shelf) all) seat shelf h.shelves first has;
    ascending =
        subst Ascend
        (ap (λ (u : ℕ). map (λ (t : PlainTranscript). t.user) transcripts ++ u ∷ map (λ (s : UserSeat K). s.session.user) rest) (sym of.user)
        ∙ sym (append_assoc (map (λ (t : PlainTranscript). t.user) transcripts) (transcript.user ∷ []) (map (λ (s : UserSeat K). s.session.user) rest))
        ∙ ap (λ us. us ++ map (λ (s : UserSeat K). s.session.user) rest) (sym (map_push (λ (t : PlainTranscript). t.user) transcripts transcript))
        ∙ ap (λ (ts : List PlainTranscript). map (λ (t : PlainTranscript). t.user) ts ++ map (λ (s : UserSeat K). s.session.user) rest) (sym ok))
        (users_with seats rest seat transcripts first h.ascending);
    transcripts = λ is sittings here every.
        subst (λ (ts : List PlainTranscript). ArePrintedBefore ts rest sittings) (sym ok) (printed_more seats rest transcripts seat transcript sittings first of every (h.transcripts (and_parts whole true is).0 sittings here every));
  }
  apart_more (Err e) all seats rest before shelves transcripts new whole seat shelf transcript h first has of ok err = record {
    shelves = shelf_given (λ (s : UserSeat K). s.session.shelf) seats rest shelves (before ++ map (λ (s : UserSeat K). s.session.shelf) all) seat shelf h.shelves first has;
    ascending =
        subst (λ (ts : List PlainTranscript). Ascend (map (λ (t : PlainTranscript). t.user) ts ++ map (λ (s : UserSeat K). s.session.user) rest)) (sym err)
        (ascend_without (map (λ (t : PlainTranscript). t.user) transcripts) seat.session.user (map (λ (s : UserSeat K). s.session.user) rest) (users_with seats rest seat transcripts first h.ascending));
    transcripts = λ is sittings here every. absurd (let no : false ≡ true = sym (and_false whole) ∙ is in cc);
  }

  -- the same for equal shelves, and an equal verdict
  pub apart_as : (all : List (UserSeat K)) (before : List K) (seats : List (UserSeat K)) (given there : List K) (told : List PlainTranscript) (whole now : Bool) → given ≡ there → whole ≡ now
      → AreApart tells faults all before seats given told whole → AreApart tells faults all before seats there told now
  apart_as all before seats given there told whole now same is h =
      subst (λ (shelves : List K). AreApart tells faults all before seats shelves told now) same (subst (λ (b : Bool). AreApart tells faults all before seats given told b) is h)

  -- where none is left, all were printed
  pub all_told : (all : List (UserSeat K)) (before : List K) (seats : List (UserSeat K)) (given : List K) (told : List PlainTranscript) → seats ≡ [] → AreApart tells faults all before seats given told true
      → (sittings : List (Sitting K)) → seats_in sittings ≡ all → All (HasPrinted tells faults) sittings → told ≡ map transcript_of sittings
  all_told all before seats given told none h sittings here every =
      let k = h.transcripts refl sittings here every in
      let over : k.rest ≡ [] = none_sits k.rest (k.here ∙ none) in
      k.printed ∙ ap (λ (list : List (Sitting K)). map transcript_of list) (sym (k.is ∙ ap (λ (list : List (Sitting K)). k.first ++ list) over ∙ append-nil k.first))

-- a list of transcripts that was left as it was has the same items
pub kept_as_before : {E : Type 0} (r : Result (Unit {0}) E) (before after : Listed PlainTranscript) → OnErr r (after ≡ before) → OnErr r (after.items ≡ before.items)
kept_as_before (Ok u) before after h = tt
kept_as_before (Err e) before after h = ap (λ (l : Listed PlainTranscript). l.items) h
