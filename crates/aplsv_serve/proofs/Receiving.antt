-- What a user's session was asked and answered.
use Rattle.std.proofs.Common.{◌≡◌, ◌≢◌, ℕ, ◌∷◌, ◌++◌, Bool, true, not, List, [], map, reverse, Option, IsTrue, refl, sym, ap, ap₂, ◌∙◌, subst}
use Rattle.std.specs.Prelude.{cond, filter}
use Rattle.std.specs.List.{AllByRecursion}
use Rattle.std.proofs.lemmas.Bool.{cond_both}
use Rattle.std.proofs.lemmas.List.{append-nil, map-append, map-id, reverse-append}
use Rattle.std.proofs.lemmas.List.Elements.{filter-append}
use Rattle.std.proofs.lemmas.Simd.{map-map}
use Rattle.apl_session.specs.Receipts.{PlainReceipt, acts_in, answers_in}
use Rattle.bundle_text.specs.User.{PlainUser}
use Rattle.sv_events.specs.Answer.{PlainAnswer, degree, granted, value, no_value, held, abandoned, not_shared, offer_limit, full, vector, parties, names, kept, done}
use Rattle.sv_events.specs.Entry.{PlainEntry}
use Rattle.sv_events.specs.declared.event.Act.{Act}
use Rattle.sv_events.specs.declared.event.Act.TheVariants.{Leave}
use Rattle.sv_core.specs.Core.{PlainCore, core_after}
use Rattle.sv_rules.specs.Entries.{Entries, has_left}
use Rattle.sv_rules.specs.Legal.{IsLegal, entry_for}
use Rattle.session_rules.specs.Run.{Dealings}
use Rattle.session_rules.specs.Session.{session_of}
use Rattle.session_rules.specs.SessionLaws.{tells_full}
use Rattle.session_rules.specs.Shelf.{Exchange, ShelfReply, shelf_replies_in}
use Rattle.session_rules.specs.UserPart.{acts_of, answered_entries, answers_line, answers_of}
use Rattle.session_rules.proofs.Parties.{other_answers_none}
use Rattle.replay_rules.proofs.SoFar.{own_leave}
use Rattle.journal_laws.proofs.NeverFull.{never_full}
use Rattle.apl_io.specs.Content.{Told}
use Rattle.apl_session.specs.PlainSession.{HasCome, PlainSession}
use Rattle.party_turns.specs.Entering.{IsAtEnd}
use Rattle.party_turns.specs.Seats.{transcript_of}
use Rattle.party_turns.specs.Sittings.{Sitting}
use Rattle.party_turns.specs.SoFar.{echoed_and_printed, user_of}
use Rattle.party_turns.proofs.Growth.{AreOthers}
use Rattle.aplsv_serve.specs.Receipts.{HasReceipts, HasTold, HaveReceipts, entered, receipts_of}

-- ---- entries do not tell that the journal is full

not_full : (answer : PlainAnswer) → answer ≢ full → IsTrue (not (tells_full answer))
not_full (degree d) other = refl
not_full granted other = refl
not_full (value v) other = refl
not_full no_value other = refl
not_full (held hold) other = refl
not_full (abandoned hold) other = refl
not_full not_shared other = refl
not_full offer_limit other = refl
not_full full other = absurd (other refl)
not_full (vector control) other = refl
not_full (parties list) other = refl
not_full (names list) other = refl
not_full (kept d v) other = refl
not_full done other = refl

abbrev IsEntered : PlainEntry → Type 0
IsEntered e = IsTrue (not (tells_full e.answer))

all_entered : (users : List ℕ) (journal : Entries) → IsLegal users journal → AllByRecursion IsEntered journal
all_entered users [] legal = tt
all_entered users (e ∷ journal) legal = (not_full e.answer (λ is. never_full journal e.party e.act (sym legal.0.answer ∙ is)), all_entered users journal legal.1)

some_entered : (keeps : PlainEntry → Bool) (journal : Entries) → AllByRecursion IsEntered journal → AllByRecursion IsEntered (filter keeps journal)
some_entered keeps [] h = tt
some_entered keeps (e ∷ journal) h =
    cond_both (keeps e) (e ∷ filter keeps journal) (filter keeps journal) (λ (list : Entries). AllByRecursion IsEntered list) (λ _. (h.0, some_entered keeps journal h.1)) (λ _. some_entered keeps journal h.1)

-- ---- receipts

module _ {A B C : Type 0} (f : B → C) (g : A → B) where
  map_reversed : (list : List A) → map f (reverse (map g list)) ≡ reverse (map (λ a. f (g a)) list)
  map_reversed [] = refl
  map_reversed (a ∷ list) =
      ap (map f) (reverse-append (g a ∷ []) (map g list)) ∙ map-append f (reverse (map g list)) (g a ∷ [])
      ∙ ap (λ (done : List C). done ++ f (g a) ∷ []) (map_reversed list) ∙ sym (reverse-append (f (g a) ∷ []) (map (λ (x : A). f (g x)) list))

abbrev receipt_of : PlainEntry → PlainReceipt
receipt_of e = record { act = e.act; answer = e.answer }

abbrev full_for : Act → PlainReceipt
full_for asked = record { act = asked; answer = full }

abbrev enters : PlainReceipt → Bool
enters receipt = not (tells_full receipt.answer)

-- receipts of entries are entered
all_kept : (entries : Entries) → AllByRecursion IsEntered entries → entered (receipts_of entries) ≡ receipts_of entries
all_kept [] h = refl
all_kept (e ∷ entries) h =
    let last : filter enters (receipt_of e ∷ []) ≡ receipt_of e ∷ [] = ap (λ (keeps : Bool). cond keeps (receipt_of e ∷ []) []) h.0 in
    let behind : receipts_of (e ∷ entries) ≡ receipts_of entries ++ receipt_of e ∷ [] = reverse-append (receipt_of e ∷ []) (map receipt_of entries) in
    ap entered behind ∙ filter-append enters (receipts_of entries) (receipt_of e ∷ [])
    ∙ ap₂ (λ (before after : List PlainReceipt). before ++ after) (all_kept entries h.1) last ∙ sym behind

-- and those that tell that the journal is full are not
none_kept : (refused : List Act) → entered (map full_for refused) ≡ []
none_kept [] = refl
none_kept (asked ∷ refused) = none_kept refused

module _ {K : Type 0} (told : K → Option (Told (ℕ × List ℕ))) (faults : K → ℕ) where
  -- those of a session that has told so
  pub receipts_told : (users : List ℕ) (journal : Entries) (lent : K) (exchanges : List Exchange) (s : PlainSession K) → IsLegal users journal → HasCome told faults lent exchanges s → HasTold journal exchanges s
      → HasReceipts told faults journal (user_of s) exchanges (echoed_and_printed exchanges s)
  receipts_told users journal lent exchanges s legal come h =
      let entries : Entries = answered_entries journal s.user in
      let all : List PlainReceipt = receipts_of entries ++ map full_for h.refused in
      let acts : acts_in all ≡ acts_of entries ++ h.refused =
      map-append (λ (r : PlainReceipt). r.act) (receipts_of entries) (map full_for h.refused)
      ∙ ap₂ (λ (before after : List Act). before ++ after) (map_reversed (λ (r : PlainReceipt). r.act) receipt_of entries) (map-map (λ (r : PlainReceipt). r.act) full_for h.refused ∙ map-id h.refused) in
      let answers : answers_in all ≡ answers_of entries ++ map (λ (asked : Act). full) h.refused =
      map-append (λ (r : PlainReceipt). r.answer) (receipts_of entries) (map full_for h.refused)
      ∙ ap₂ (λ (before after : List PlainAnswer). before ++ after) (map_reversed (λ (r : PlainReceipt). r.answer) receipt_of entries) (map-map (λ (r : PlainReceipt). r.answer) full_for h.refused) in
      record {
        session = s;
        own = refl;
        lent = lent;
        come = come;
        waits = h.waits;
        printed = refl;
        receipts = all;
        acts = acts ∙ sym h.acts;
        answers = answers ∙ sym h.answers;
        entered =
            filter-append enters (receipts_of entries) (map full_for h.refused)
            ∙ ap₂ (λ (before after : List PlainReceipt). before ++ after) (all_kept entries (some_entered (answers_line s.user) journal (all_entered users journal legal))) (none_kept h.refused)
            ∙ append-nil (receipts_of entries);
      }

  -- a user has come so with its exchanges, and its session has told so
  pub record HasToldAll (journal : Entries) (sitting : Sitting K) : Type 0 where
    pub come : HasCome told faults sitting.lent sitting.exchanges sitting.seat.session
    pub tells : HasTold journal sitting.exchanges sitting.seat.session

  -- those of all users, who have left
  pub receipts_of_all : (users : List ℕ) (dealings : Dealings) (journal : Entries) (sittings : List (Sitting K)) → IsLegal users journal
      → AllByRecursion (λ (s : Sitting K). has_left journal s.seat.session.user ≡ true → HasToldAll journal s) sittings
      → AllByRecursion (λ (u : PlainUser). IsTrue (has_left journal u.number)) (map (λ (s : Sitting K). user_of s.seat.session) sittings)
      → AllByRecursion (λ (s : Sitting K). dealings s.seat.session.user ≡ s.exchanges) sittings
      → HaveReceipts told faults dealings journal (map (λ (s : Sitting K). user_of s.seat.session) sittings) (map transcript_of sittings)
  receipts_of_all users dealings journal [] legal told_all left deals = tt
  receipts_of_all users dealings journal (s ∷ sittings) legal told_all left deals =
      let here = told_all.0 left.0 in (
        subst (λ (exchanges : List Exchange). HasReceipts told faults journal (user_of s.seat.session) exchanges (echoed_and_printed s.exchanges s.seat.session)) (sym deals.0)
            (receipts_told users journal s.lent s.exchanges s.seat.session legal here.come here.tells),
        receipts_of_all users dealings journal sittings legal told_all.1 left.1 deals.1,
      )

-- ---- what a session has told

-- entries of others change nothing of it
pub told_stays : {K : Type 0} (entries journal : Entries) (exchanges : List Exchange) (s : PlainSession K) → AreOthers s.user entries → HasTold journal exchanges s → HasTold (entries ++ journal) exchanges s
told_stays [] journal exchanges s others h = h
told_stays (e ∷ entries) journal exchanges s others h =
    let before = told_stays entries journal exchanges s others.1 h in
    let same : answered_entries (entries ++ journal) s.user ≡ answered_entries (e ∷ (entries ++ journal)) s.user = sym (other_answers_none e (entries ++ journal) s.user others.0) in
    record {
      refused = before.refused;
      acts = before.acts ∙ ap (λ (es : Entries). acts_of es ++ before.refused) same;
      answers = before.answers ∙ ap (λ (es : Entries). answers_of es ++ map (λ (asked : Act). full) before.refused) same;
      waits = before.waits;
    }

-- a user that leaves at the end of its lines: its session has told so
pub told_at_end : {K : Type 0} (told : K → Option (Told (ℕ × List ℕ))) (faults : K → ℕ) (lent : K) (exchanges : List Exchange) (before after : PlainCore) (s : PlainSession K) → HasCome told faults lent exchanges s → IsAtEnd before.journal exchanges s
    → after ≡ core_after before s.user Leave → HasTold after.journal exchanges s
told_at_end told faults lent exchanges before after s come h became =
    let far = h.so_far [] in
    let same : answered_entries before.journal s.user ≡ answered_entries after.journal s.user =
    sym (ap (λ (c : PlainCore). answered_entries c.journal s.user) became ∙ own_leave (entry_for before.journal s.user Leave) before.journal s.user refl refl) in
    record {
      refused = far.refused;
      acts = come.acts [] ∙ (far.acts ∙ ap (λ (es : Entries). acts_of es ++ far.refused) same);
      answers = far.answers ∙ ap (λ (es : Entries). answers_of es ++ map (λ (asked : Act). full) far.refused) same;
      waits = ap (λ (r : List ShelfReply). (session_of s.lines s.answers r).waits) (sym (append-nil (shelf_replies_in exchanges))) ∙ h.asks [];
    }
