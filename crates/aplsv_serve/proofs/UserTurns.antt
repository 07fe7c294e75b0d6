-- The turns of a user's task.
use Rattle.std.proofs.Common.{◌≡◌, ℕ, ◌+◌, ◌++◌, true, false, List, [], ◌∷◌, length, Option, Some, None, sym, ap, ◌∙◌, subst, arith}
use Rattle.std.specs.Prelude.{IfSome}
use Rattle.std.proofs.lemmas.Bool.{both_ways}
use Rattle.apl_io.specs.Content.{Told}
use Rattle.sv_core.specs.Core.{PlainCore}
use Rattle.sv_core.specs.Histories.{party_of_entry}
use Rattle.sv_events.specs.Answer.{PlainAnswer}
use Rattle.sv_rules.specs.Entries.{Entries, has_left}
use Rattle.sv_turn.specs.Journals.{AddsOne, places_of}
use Rattle.sv_turn.proofs.Places.{own_places}
use Rattle.session_rules.specs.Shelf.{Exchange}
use Rattle.apl_session.specs.PlainSession.{HasCome, PlainSession}
use Rattle.party_turns.specs.Entering.{Brings, Finds, IsOneMore, heard_if}
use Rattle.party_turns.specs.SoFar.{HasPart, IsSessionSoFar}
use Rattle.party_turns.specs.declared.intent.Intent.{Intent}
use Rattle.party_turns.specs.declared.intent.Intent.TheVariants as intent
use Rattle.party_turns.specs.declared.seat.UserSeat.{UserSeat}
use Rattle.party_turns.proofs.Leaving.{has_left_now}
use Rattle.party_turns.proofs.Phases.{is_about, part_at_end}
use Rattle.aplsv_serve.specs.Receipts.{HasTold}
use Rattle.aplsv_serve.specs.UserTasks.{HasComeFar, IsAboutTo, WillHaveComeFar, goes_on, sitting_at}
use Rattle.aplsv_serve.proofs.Receiving.{told_at_end}

-- ---- entries

-- an entry of a party more is one that a turn may end with
pub one_added : (party number : ℕ) (before after : PlainCore) → number ≡ party → IsOneMore party before after → AddsOne party_of_entry number before.journal after.journal
one_added party number before after is h = (h.entry, h.journal, h.own ∙ sym is)

-- and the party has its place
pub place_added : (party number : ℕ) (before after : PlainCore) (places : List ℕ) → number ≡ party → IsOneMore party before after → places ≡ places_of party_of_entry party before.journal
    → places ++ length after.journal ∷ [] ≡ places_of party_of_entry party after.journal
place_added party number before after places is h same =
    let more : length after.journal ≡ length before.journal + 1 = let e = ap (λ (j : Entries). length j) h.journal in omega arith in
    ap (λ (ps : List ℕ). ps ++ length after.journal ∷ []) same
    ∙ (ap (λ (n : ℕ). places_of party_of_entry party before.journal ++ n ∷ []) more
    ∙ (sym (own_places party_of_entry party h.entry before.journal h.own) ∙ ap (λ (j : Entries). places_of party_of_entry party j) (sym h.journal)))

-- ---- before the turn

module _ {K : Type 0} (told : K → Option (Told (ℕ × List ℕ))) (faults : K → ℕ) where
  -- a user that has not left found what it is about to do
  pub found : (known : Entries) (lent : K) (user then : UserSeat K) (about : Intent) → has_left known user.session.user ≡ false → HasComeFar told faults known lent user → Finds told faults user.session about then.session → IsAboutTo told faults known lent then about
  found known lent user then about stays far finds =
      let present = far.seated stays in
      let a = is_about told faults known lent far.exchanges about user.session then.session finds present.come present.so_far in
      record { exchanges = a.more ++ far.exchanges; come = a.come; ready = a.ready }

  -- and is about to do it still, where room was made for it
  pub with_room : (room : Type 0) (known : Entries) (lent : K) (user then : UserSeat K) (about : Intent) (result : Option Intent) → IsAboutTo told faults known lent user about → IfSome result (λ made. room × (made ≡ about) × (then ≡ user))
      → IfSome result (λ made. room × IsAboutTo told faults known lent then made)
  with_room room known lent user then about None is made = tt
  with_room room known lent user then about (Some one) is made =
      (made.0, subst (λ (i : Intent). IsAboutTo told faults known lent then i) (sym made.1) (subst (λ (u : UserSeat K). IsAboutTo told faults known lent u about) (sym made.2) is))

  -- ---- in the turn

  -- a user that goes on has not left
  pub goes_and_stays : (before after : PlainCore) (exchanges : List Exchange) (s : PlainSession K) (about : Intent) (answer : Option PlainAnswer) → goes_on about ≡ true → Brings before exchanges s about after answer → has_left after.journal s.user ≡ false
  goes_and_stays before after exchanges s intent.Make answer goes brings = brings.on.stays
  goes_and_stays before after exchanges s intent.TryAgain answer goes brings = brings.stays
  goes_and_stays before after exchanges s intent.Leave answer goes brings = absurd (let no : false ≡ true = goes in cc)

  -- a user comes far by what it did, once it has heard
  pub will_come : (before after : PlainCore) (lent : K) (user : UserSeat K) (about : Intent) (answer : Option PlainAnswer) (h : IsAboutTo told faults before.journal lent user about) → Brings before h.exchanges user.session about after answer
      → WillHaveComeFar told faults after.journal lent user answer
  will_come before after lent user intent.Make answer h brings = record {
    exchanges = h.exchanges;
    come = h.come;
    so_far = λ stays now. brings.on.so_far now;
    part = λ left. absurd (both_ways (has_left after.journal user.session.user) brings.on.stays left);
    tells = λ left. absurd (both_ways (has_left after.journal user.session.user) brings.on.stays left);
  }
  will_come before after lent user intent.TryAgain answer h brings = record {
    exchanges = h.exchanges;
    come = h.come;
    so_far = λ stays now. brings.so_far now;
    part = λ left. absurd (both_ways (has_left after.journal user.session.user) brings.stays left);
    tells = λ left. absurd (both_ways (has_left after.journal user.session.user) brings.stays left);
  }
  will_come before after lent user intent.Leave answer h brings = record {
    exchanges = h.exchanges;
    come = h.come;
    so_far = λ stays now. absurd (both_ways (has_left after.journal user.session.user) stays (has_left_now before after user.session.user brings.0));
    part = λ left. (brings.1, record { finished = h.ready.finished; come = h.come; part = part_at_end h.exchanges before after user.session h.ready brings.0 });
    tells = λ left. told_at_end told faults lent h.exchanges before after user.session h.come h.ready brings.0;
  }

  -- ---- behind the turn

  -- a user that has heard has come far
  pub has_come : (journal : Entries) (lent : K) (user then : UserSeat K) (answer : Option PlainAnswer) → WillHaveComeFar told faults journal lent user answer → then.is_lost ≡ false → then.session ≡ heard_if answer then.session user.session
      → user.session.user ≡ then.session.user
      → ((lent : K) (exchanges : List Exchange) → HasCome told faults lent exchanges user.session → HasCome told faults lent exchanges then.session) → HasComeFar told faults journal lent then
  has_come journal lent user then answer will here hears same had = record {
    exchanges = will.exchanges;
    seated = λ stays. record {
      here = here;
      come = had lent will.exchanges will.come;
      so_far = subst (λ (t : PlainSession K). IsSessionSoFar journal will.exchanges t) (sym hears) (will.so_far (ap (λ (n : ℕ). has_left journal n) same ∙ stays) then.session);
    };
    whole = λ left.
        let gone = will.part (ap (λ (n : ℕ). has_left journal n) same ∙ left) in
        let still : then.session ≡ user.session = hears ∙ ap (λ (o : Option PlainAnswer). heard_if o then.session user.session) gone.0 in
        subst (λ (t : PlainSession K). HasPart told faults journal (sitting_at lent (let u : UserSeat K = record { session = t; is_lost = then.is_lost } in u) will.exchanges)) (sym still)
        (record { finished = gone.1.finished; come = gone.1.come; part = gone.1.part });
    tells = λ left.
        let there : has_left journal user.session.user ≡ true = ap (λ (n : ℕ). has_left journal n) same ∙ left in
        let gone = will.part there in
        let still : then.session ≡ user.session = hears ∙ ap (λ (o : Option PlainAnswer). heard_if o then.session user.session) gone.0 in
        subst (λ (t : PlainSession K). HasTold journal will.exchanges t) (sym still) (will.tells there);
  }
