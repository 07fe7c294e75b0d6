-- Each entry of a run fits behind those before it.
use Rattle.std.proofs.Common.{◌≡◌, ℕ, ◌+◌, arith, ◌||◌, Bool, true, false, not, eqb, List, [], ◌∷◌, ◌++◌, length, map, Option, Some, IsTrue, refl, sym, ap, ap₂, ◌∙◌, subst, append_assoc, length-append}
use Rattle.std.proofs.lemmas.Bool.{and_parts, both_ways, eq-eqb, eqb-true, false≢true, not-true, or_right}
use Rattle.std.proofs.lemmas.List.{length-map}
use Rattle.std.proofs.lemmas.List.Elements.{All-from_recursion, recursion_from_All}
use Rattle.std.proofs.lemmas.Option.{none-some, same_Some}
use Rattle.std.specs.List.{AllByRecursion}
use Rattle.std.specs.Prelude.{IfSome, slice_get}
use Rattle.aux_parties.proofs.TableLemmas.{kind_of_party, users_are_no_auxiliaries}
use Rattle.aux_parties.specs.Auxiliaries.{is_auxiliary, party_of}
use Rattle.aux_parties.specs.declared.auxiliary.AuxiliaryKind.{AuxiliaryKind}
use Rattle.auxiliaries.specs.Run.{IsReplierRun}
use Rattle.bundle_devices.proofs.Determined.{older_answers}
use Rattle.bundle_devices.proofs.OwnDevices.{keeper_faults, told_by}
use Rattle.bundle_devices.proofs.Sessions.{more_calls}
use Rattle.bundle_devices.specs.Devices.{empty_shelf}
use Rattle.bundle_text.specs.Rules.{IsBundle, IsUser, PlainBundle}
use Rattle.bundle_text.specs.User.{PlainUser}
use Rattle.apl_io.specs.Kept.{Keeper}
use Rattle.session_rules.specs.Auxiliaries.{acts_among, events_of, some_stay}
use Rattle.session_rules.specs.Behind.{of_each}
use Rattle.session_rules.specs.Run.{AreUserParts, Dealings, ServeUsers, user_numbers}
use Rattle.session_rules.specs.Session.{session_of}
use Rattle.session_rules.specs.Shelf.{Exchange, IsShelfRun, ShelfReply, shelf_replies_in}
use Rattle.session_rules.specs.UserPart.{acts_of, answered_entries, answers_of}
use Rattle.replay_rules.proofs.SoFar.{own_answers, own_held}
use Rattle.sv_events.specs.Answer.{PlainAnswer, full}
use Rattle.sv_events.specs.Entry.{PlainEntry}
use Rattle.sv_events.specs.declared.event.Act.{Act}
use Rattle.sv_journal.specs.Output.{PlainTranscript}
use Rattle.sv_rules.specs.Entries.{Entries, has_left, is_full, is_held, is_leave, kind_of}
use Rattle.sv_rules.specs.Legal.{IsLegal, MayFollow, is_user}
use Rattle.check_rules.specs.Alone.{AreServed, AsksNext, HasFinished, answers_given}
use Rattle.check_rules.specs.Fits.{EntriesFit, EntryFits, HasReplied, IsNextOf, begins, forgets, replies}
use Rattle.check_rules.specs.Saw.{Saw}
use Rattle.check_rules.specs.Verdict.{IsOwnRun}
use Rattle.check_rules.proofs.AskedBefore.{asked_before}
use Rattle.check_rules.proofs.OneEntry.{user_alone}
use Rattle.check_rules.proofs.OwnEntries.{AreOthers, HeldThen, acts_behind, answered_at_leave, answered_behind, answers_behind, as_many, before_the_leave, held_then, left_waiting, legal_at, others_behind, waits_still, was_answered}

-- ---- exchanges

-- a shelf that served some exchanges served those before the last ones
served_before : (user : ℕ) (more earlier : List Exchange) (shelf : Keeper (ℕ × List ℕ)) → IsShelfRun told_by keeper_faults user empty_shelf (more ++ earlier) shelf → AreServed user earlier
served_before user [] earlier shelf run = (shelf, run)
served_before user (exchange ∷ more) earlier shelf run = served_before user more earlier run.0 run.1

-- ---- what a user's part says of its entries

abbrev refusals : List Act → List PlainAnswer
refusals refused = map (λ (act : Act). full) refused

module _ (users : List ℕ) (user : PlainUser) (lines : List (List ℕ)) (person : is_auxiliary user.number ≡ false) where
  abbrev whole_answers : (whole : Entries) → Saw whole user lines → List PlainAnswer
  whole_answers whole saw = answers_of (answered_entries whole user.number) ++ refusals saw.part.refused

  abbrev given_replies : (whole : Entries) → Saw whole user lines → List ShelfReply
  given_replies whole saw = shelf_replies_in saw.exchanges

  -- with fewer answers the session alone asks this act, if it is the one behind so many
  asks_at : (whole : Entries) (saw : Saw whole user lines) (journal : Entries) (act : Act) (answer : PlainAnswer) (more : List PlainAnswer) (rest : List Act)
      → whole_answers whole saw ≡ answers_given journal user.number ++ answer ∷ more
      → acts_of (answered_entries whole user.number) ++ saw.part.refused ≡ acts_of (answered_entries journal user.number) ++ act ∷ rest
      → AsksNext journal user act
  asks_at whole saw journal act answer more rest given asked =
      let front : List Act = acts_of (answered_entries journal user.number) in
      let total : length (front ++ act ∷ rest) ≡ length (answers_given journal user.number ++ answer ∷ more) =
      ap length (sym asked) ∙ (length-append (acts_of (answered_entries whole user.number)) saw.part.refused
      ∙ (ap₂ (λ (m n : ℕ). m + n) (as_many (answered_entries whole user.number)) (sym (length-map saw.part.refused (λ (act : Act). full)))
      ∙ (sym (length-append (answers_of (answered_entries whole user.number)) (refusals saw.part.refused)) ∙ ap length given))) in
      let acts : (session_of user.lines (answers_given journal user.number ++ answer ∷ more) (given_replies whole saw)).acts ≡ front ++ act ∷ rest =
      ap (λ (answers : List PlainAnswer). (session_of user.lines answers (given_replies whole saw)).acts) (sym given) ∙ (saw.part.finished.acts ∙ asked) in
      let calls = more_calls user.lines (answers_given journal user.number) (answer ∷ more) (given_replies whole saw) in
      let all : saw.exchanges ≡ calls.more ++ (session_of user.lines (answers_given journal user.number) (given_replies whole saw)).exchanges =
      sym saw.part.finished.calls ∙ (ap (λ (answers : List PlainAnswer). (session_of user.lines answers (given_replies whole saw)).exchanges) given ∙ calls.same) in
      record {
        course = session_of user.lines (answers_given journal user.number) (given_replies whole saw);
        alone = record {
          replies = given_replies whole saw;
          comes = refl;
          served = served_before user.number calls.more (session_of user.lines (answers_given journal user.number) (given_replies whole saw)).exchanges saw.served.0
              (subst (λ (exchanges : List Exchange). IsShelfRun told_by keeper_faults user.number empty_shelf exchanges saw.served.0) all saw.served.1);
        };
        asks = asked_before user.lines (given_replies whole saw) (answers_given journal user.number) answer more front act rest acts (as_many (answered_entries journal user.number)) total;
      }

  module _ (more : Entries) (e : PlainEntry) (journal : Entries) (own : e.party ≡ user.number) (legal : IsLegal users (more ++ e ∷ journal)) (saw : Saw (more ++ e ∷ journal) user lines) where
    abbrev whole : Entries
    whole = more ++ e ∷ journal

    abbrev later : Entries
    later = answered_entries more user.number

    -- the answers and the acts of all, where those up to this entry are known
    answers_are : (entries : Entries) → answered_entries (e ∷ journal) user.number ≡ entries → whole_answers whole saw ≡ answers_of entries ++ (answers_of later ++ refusals saw.part.refused)
    answers_are entries is =
        ap (λ (list : Entries). answers_of list ++ refusals saw.part.refused) (answered_behind more (e ∷ journal) user.number ∙ ap (λ (list : Entries). later ++ list) is)
        ∙ (ap (λ (list : List PlainAnswer). list ++ refusals saw.part.refused) (answers_behind later entries) ∙ append_assoc (answers_of entries) (answers_of later) (refusals saw.part.refused))

    acts_are : (entries : Entries) → answered_entries (e ∷ journal) user.number ≡ entries → acts_of (answered_entries whole user.number) ++ saw.part.refused ≡ acts_of entries ++ (acts_of later ++ saw.part.refused)
    acts_are entries is =
        ap (λ (list : Entries). acts_of list ++ saw.part.refused) (answered_behind more (e ∷ journal) user.number ∙ ap (λ (list : Entries). later ++ list) is)
        ∙ (ap (λ (list : List Act). list ++ saw.part.refused) (acts_behind later entries) ∙ append_assoc (acts_of entries) (acts_of later) saw.part.refused)

    -- its leave
    over_at_leave : is_leave e.act ≡ true → HasFinished journal user
    over_at_leave leaves =
        let others : AreOthers user.number more = others_behind users user.number more e journal own leaves legal in
        let given : answered_entries whole user.number ≡ answered_entries journal user.number = answered_at_leave more e journal user.number others own leaves in
        let answers : List PlainAnswer = answers_given journal user.number ++ refusals saw.part.refused in
        let same : whole_answers whole saw ≡ answers = ap (λ (list : Entries). answers_of list ++ refusals saw.part.refused) given in
        record {
          refused = saw.part.refused;
          at_limit = λ some. subst (λ (j : Entries). IsTrue (is_full j)) (before_the_leave more e journal user.number others own leaves) (saw.part.at_limit some);
          course = session_of user.lines answers (shelf_replies_in saw.exchanges);
          alone = record {
            replies = shelf_replies_in saw.exchanges;
            comes = refl;
            served = subst (λ (exchanges : List Exchange). AreServed user.number exchanges)
                (sym (ap (λ (list : List PlainAnswer). (session_of user.lines list (shelf_replies_in saw.exchanges)).exchanges) (sym same) ∙ saw.part.finished.calls)) saw.served;
          };
          over = ap (λ (list : List PlainAnswer). (session_of user.lines list (shelf_replies_in saw.exchanges)).waits) (sym same) ∙ saw.part.finished.waits;
        }

    -- an act that was answered
    asked_when_answered : is_leave e.act ≡ false → is_held (kind_of e.answer) ≡ false → AsksNext journal user e.act
    asked_when_answered stays free =
        let is : answered_entries (e ∷ journal) user.number ≡ e ∷ answered_entries journal user.number = own_answers e journal user.number own stays free in
        let entries : Entries = answered_entries journal user.number in
        let given : whole_answers whole saw ≡ answers_of entries ++ e.answer ∷ (answers_of later ++ refusals saw.part.refused) =
        answers_are (e ∷ entries) is
        ∙ (ap (λ (list : List PlainAnswer). list ++ (answers_of later ++ refusals saw.part.refused)) (answers_behind (e ∷ []) entries) ∙ append_assoc (answers_of entries) (e.answer ∷ []) (answers_of later ++ refusals saw.part.refused)) in
        let asked : acts_of (answered_entries whole user.number) ++ saw.part.refused ≡ acts_of entries ++ e.act ∷ (acts_of later ++ saw.part.refused) =
        acts_are (e ∷ entries) is ∙ (ap (λ (list : List Act). list ++ (acts_of later ++ saw.part.refused)) (acts_behind (e ∷ []) entries) ∙ append_assoc (acts_of entries) (e.act ∷ []) (acts_of later ++ saw.part.refused)) in
        asks_at whole saw journal e.act e.answer (answers_of later ++ refusals saw.part.refused) (acts_of later ++ saw.part.refused) given asked

    -- an act that was held: the next one that is answered, or refused, is the same
    asked_when_held : is_leave e.act ≡ false → is_held (kind_of e.answer) ≡ true → AsksNext journal user e.act
    asked_when_held stays held = by (held_then users user.number person more e journal own stays held legal) where
      is : answered_entries (e ∷ journal) user.number ≡ answered_entries journal user.number
      is = own_held e journal user.number own stays held

      -- some answers follow, where some acts do
      from : (rest : List Act) → acts_of later ++ saw.part.refused ≡ e.act ∷ rest → (answers : List PlainAnswer) → answers_of later ++ refusals saw.part.refused ≡ answers → AsksNext journal user e.act
      from rest same [] none =
          absurd (omega (
            arith,
            ap length same,
            length-append (acts_of later) saw.part.refused,
            as_many later,
            length-map saw.part.refused (λ (act : Act). full),
            length-append (answers_of later) (refusals saw.part.refused),
            ap length none,
          ))
      from rest same (answer ∷ answers) some =
          asks_at whole saw journal e.act answer answers rest (answers_are (answered_entries journal user.number) is ∙ ap (λ (list : List PlainAnswer). answers_given journal user.number ++ list) some)
          (acts_are (answered_entries journal user.number) is ∙ ap (λ (list : List Act). acts_of (answered_entries journal user.number) ++ list) same)

      refused_first : (refused : List Act) → slice_get refused 0 ≡ Some e.act → (rest : List Act) × (refused ≡ e.act ∷ rest)
      refused_first [] first = absurd (none-some e.act first)
      refused_first (act ∷ rest) first = (rest, ap (λ (a : Act). a ∷ rest) (same_Some act e.act first))

      by : HeldThen user.number e.act whole more → AsksNext journal user e.act
      by (waits_still waits none there) = absurd (both_ways (has_left whole user.number) there saw.part.left)
      by (was_answered rest same) = from (rest ++ saw.part.refused) (ap (λ (list : List Act). list ++ saw.part.refused) same) (answers_of later ++ refusals saw.part.refused) refl
      by (left_waiting none waits gone) =
          let first = refused_first saw.part.refused (subst (λ (o : Option Act). IfSome o (λ act. slice_get saw.part.refused 0 ≡ Some act)) waits saw.part.waited) in
          from first.0 (ap (λ (list : Entries). acts_of list ++ saw.part.refused) none ∙ first.1) (answers_of later ++ refusals saw.part.refused) refl

    -- whatever it was
    pub next_at : IsNextOf (is_leave e.act) journal user e.act
    next_at = by (is_leave e.act) (is_held (kind_of e.answer)) refl refl where
      by : (leaves held : Bool) → is_leave e.act ≡ leaves → is_held (kind_of e.answer) ≡ held → IsNextOf leaves journal user e.act
      by true held leaves answered = over_at_leave leaves
      by false true stays answered = asked_when_held stays answered
      by false false stays answered = asked_when_answered stays answered

-- ---- the parts of a run

-- each user saw some lines
abbrev SawSome : Entries → PlainUser → Type 0
SawSome journal user = (lines : List (List ℕ)) × Saw journal user lines

saw_all : (dealings : Dealings) (journal : Entries) (users : List PlainUser) (transcripts : List PlainTranscript) (shelves_then : List (Keeper (ℕ × List ℕ))) → AreUserParts dealings journal users transcripts
    → ServeUsers told_by keeper_faults dealings users (map (λ (user : PlainUser). empty_shelf) users) shelves_then → AllByRecursion (SawSome journal) users
saw_all dealings journal [] transcripts shelves_then parts served = tt
saw_all dealings journal (user ∷ users) [] shelves_then parts served = absurd parts
saw_all dealings journal (user ∷ users) (transcript ∷ transcripts) [] parts served = absurd served
saw_all dealings journal (user ∷ users) (transcript ∷ transcripts) (shelf ∷ shelves) parts served =
    ((transcript.lines, record { exchanges = dealings user.number; served = (shelf, served.0); part = parts.1 }), saw_all dealings journal users transcripts shelves parts.2 served.1)

-- users are no auxiliaries
abbrev AreNoAuxiliaries : List PlainUser → Type 0
AreNoAuxiliaries users = AllByRecursion (λ (user : PlainUser). is_auxiliary user.number ≡ false) users

pub no_auxiliaries : (users : List PlainUser) → AllByRecursion IsUser users → AreNoAuxiliaries users
no_auxiliaries [] each = tt
no_auxiliaries (user ∷ users) each = (users_are_no_auxiliaries user.number each.0.number.0, no_auxiliaries users each.1)

-- so an entry of one of them is what it does next
nexts : (numbers : List ℕ) (more : Entries) (e : PlainEntry) (journal : Entries) → IsLegal numbers (more ++ e ∷ journal) → (users : List PlainUser) → AreNoAuxiliaries users → AllByRecursion (SawSome (more ++ e ∷ journal)) users
    → AllByRecursion (λ (user : PlainUser). user.number ≡ e.party → IsNextOf (is_leave e.act) journal user e.act) users
nexts numbers more e journal legal [] persons saw = tt
nexts numbers more e journal legal (user ∷ users) persons saw =
    ((λ own. next_at numbers user saw.0.0 persons.0 more e journal (sym own) legal saw.0.1), nexts numbers more e journal legal users persons.1 saw.1)

-- ---- some user stays

stays_among : (users : List ℕ) (journal : Entries) (party : ℕ) → is_user users party ≡ true → has_left journal party ≡ false → some_stay users journal ≡ true
stays_among [] journal party is there = absurd (false≢true is)
stays_among (user ∷ users) journal party is there = by (eqb user party) refl (λ among. stays_among users journal party among there) where
  by : (same : Bool) → eqb user party ≡ same → (is_user users party ≡ true → some_stay users journal ≡ true) → (not (has_left journal user) || some_stay users journal) ≡ true
  by true same behind = ap (λ (gone : Bool). not gone || some_stay users journal) (ap (λ (p : ℕ). has_left journal p) (eqb-true user party same) ∙ there)
  by false other behind = or_right (not (has_left journal user)) (some_stay users journal) (behind (sym (ap (λ (same : Bool). same || is_user users party) other) ∙ is))

among_at : (users : List ℕ) (party : ℕ) (more : Entries) (e : PlainEntry) (journal : Entries) → e.party ≡ party → IsTrue (acts_among users party (more ++ e ∷ journal)) → IsTrue (some_stay users journal)
among_at users party [] e journal own h =
    let first = (and_parts (not (eqb e.party party) || some_stay users journal) (acts_among users party journal) h).0 in
    sym (ap (λ (same : Bool). not same || some_stay users journal) (eq-eqb e.party party own)) ∙ first
among_at users party (f ∷ more) e journal own h =
    among_at users party more e journal own (and_parts (not (eqb f.party party) || some_stay users (more ++ e ∷ journal)) (acts_among users party (more ++ e ∷ journal)) h).1

-- ---- all entries

module _ (bundle : PlainBundle) (rules : IsBundle bundle) (whole : Entries) (transcripts : List PlainTranscript) (own : IsOwnRun bundle whole transcripts) where
  -- what answers behind an auxiliary has a run over an older journal
  replied_at : (kind : AuxiliaryKind) (more journal : Entries) → whole ≡ more ++ journal → HasReplied bundle kind journal
  replied_at kind more journal is =
      let run = subst (λ (j : Entries). IsReplierRun (forgets kind) (replies kind) (begins bundle kind) (events_of j (party_of kind)) (of_each own.clock own.files kind)) is (own.run.parts kind).answers in
      let older = older_answers (forgets kind) (replies kind) (λ s. s ≡ begins bundle kind) (party_of kind) more journal (begins bundle kind, refl, (of_each own.clock own.files kind, run)) in
      record { now = older.2.0; run = subst (λ s. IsReplierRun (forgets kind) (replies kind) s (events_of journal (party_of kind)) older.2.0) older.1 older.2.1 }

  some_is_there : (more : Entries) (e : PlainEntry) (journal : Entries) → whole ≡ more ++ e ∷ journal → MayFollow (user_numbers bundle) journal e → (auxiliary : Bool) → is_auxiliary e.party ≡ auxiliary → IsTrue (some_stay (user_numbers bundle) journal)
  some_is_there more e journal is may true there =
      let kind = kind_of_party e.party there in
      among_at (user_numbers bundle) (party_of kind.0) more e journal (sym kind.1) (subst (λ (j : Entries). IsTrue (acts_among (user_numbers bundle) (party_of kind.0) j)) is (own.run.parts kind.0).among)
  some_is_there more e journal is may false none =
      stays_among (user_numbers bundle) journal e.party (user_alone (is_user (user_numbers bundle) e.party) (is_auxiliary e.party) may.party none) (not-true (has_left journal e.party) may.present)

  fits_at : (more : Entries) (e : PlainEntry) (journal : Entries) → whole ≡ more ++ e ∷ journal → EntryFits bundle journal e
  fits_at more e journal is =
      let legal : IsLegal (user_numbers bundle) (more ++ e ∷ journal) = subst (IsLegal (user_numbers bundle)) is own.run.legal in
      let may : MayFollow (user_numbers bundle) journal e = legal_at (user_numbers bundle) more e journal legal in
      let persons : AreNoAuxiliaries bundle.users = no_auxiliaries bundle.users (recursion_from_All IsUser bundle.users rules.each) in
      let saw : AllByRecursion (SawSome (more ++ e ∷ journal)) bundle.users =
      subst (λ (j : Entries). AllByRecursion (SawSome j) bundle.users) is (saw_all own.dealings whole bundle.users transcripts own.shelves own.run.users own.run.shelves_served) in
      record {
        legal = may;
        among = some_is_there more e journal is may (is_auxiliary e.party) refl;
        next = All-from_recursion (λ (user : PlainUser). user.number ≡ e.party → IsNextOf (is_leave e.act) journal user e.act) bundle.users (nexts (user_numbers bundle) more e journal legal bundle.users persons saw);
        replied = λ kind here. replied_at kind more (e ∷ journal) is;
      }

  fit_from : (more journal : Entries) → whole ≡ more ++ journal → EntriesFit bundle journal
  fit_from more [] is = tt
  fit_from more (e ∷ journal) is = (fits_at more e journal is, fit_from (more ++ e ∷ []) journal (is ∙ sym (append_assoc more (e ∷ []) journal)))

  pub run_fits : EntriesFit bundle whole
  run_fits = fit_from [] whole refl
