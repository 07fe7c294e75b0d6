-- Where all entries fit, all users have left, and each saw what is printed, there is a run.
use Rattle.std.proofs.Common.{◌≡◌, ◌≢◌, ℕ, ◌<◌, ◌||◌, Bool, not, eqb, List, [], ◌∷◌, map, IsTrue, refl, sym, ap, ◌∙◌, subst, arith}
use Rattle.std.proofs.lemmas.Bool.{and_from, eq-eqb, ne_eqb, or_right}
use Rattle.std.specs.List.{AllByRecursion}
use Rattle.std.specs.Prelude.{if◌then◌else◌}
use Rattle.apl_arrays.specs.Ascending.{Ascend}
use Rattle.apl_io.specs.Kept.{Keeper}
use Rattle.aux_parties.specs.Auxiliaries.{party_of}
use Rattle.aux_parties.specs.declared.auxiliary.AuxiliaryKind.{AuxiliaryKind}
use Rattle.aux_parties.specs.declared.auxiliary.AuxiliaryKind.TheVariants.{Clock, TextFiles}
use Rattle.auxiliaries.specs.Run.{IsReplierRun}
use Rattle.bundle_devices.proofs.OwnDevices.{keeper_faults, told_by}
use Rattle.bundle_devices.specs.Devices.{empty_shelf}
use Rattle.bundle_text.specs.Rules.{PlainBundle}
use Rattle.bundle_text.specs.User.{PlainUser}
use Rattle.party_turns.proofs.Growth.{first_below, others_ascend}
use Rattle.session_rules.specs.Auxiliaries.{IsAuxiliaryPart, acts_among, events_of, some_stay}
use Rattle.session_rules.specs.Behind.{of_each}
use Rattle.session_rules.specs.Run.{AreUserParts, Dealings, ServeUsers, user_numbers}
use Rattle.session_rules.specs.Shelf.{Exchange, IsShelfRun}
use Rattle.session_rules.specs.UserPart.{IsUserPart}
use Rattle.sv_journal.specs.Output.{PlainTranscript}
use Rattle.sv_rules.specs.Entries.{Entries}
use Rattle.sv_rules.specs.Legal.{IsLegal}
use Rattle.check_rules.specs.Fits.{EntriesFit, begins, forgets, replies}
use Rattle.check_rules.specs.Saw.{AllSaw}
use Rattle.aplsv_check.specs.Followed.{IsFollowed}
use Rattle.check_rules.specs.Verdict.{IsOwnRun}
use Rattle.aplsv_check.specs.declared.follower.Follower.{Follower}

-- ---- what fits

-- entries that fit are legal
pub fit_legal : (bundle : PlainBundle) (journal : Entries) → EntriesFit bundle journal → IsLegal (user_numbers bundle) journal
fit_legal bundle [] fit = tt
fit_legal bundle (e ∷ journal) fit = (fit.0.legal, fit_legal bundle journal fit.1)

-- and before each of them some user has not left
fit_among : (bundle : PlainBundle) (party : ℕ) (journal : Entries) → EntriesFit bundle journal → IsTrue (acts_among (user_numbers bundle) party journal)
fit_among bundle party [] fit = refl
fit_among bundle party (e ∷ journal) fit =
    and_from (not (eqb e.party party) || some_stay (user_numbers bundle) journal) (acts_among (user_numbers bundle) party journal)
    (or_right (not (eqb e.party party)) (some_stay (user_numbers bundle) journal) fit.0.among) (fit_among bundle party journal fit.1)

-- ---- the dealings of users

-- the exchanges of the users, by their numbers
abbrev dealings_in : (journal : Entries) (users : List PlainUser) (transcripts : List PlainTranscript) → AllSaw journal users transcripts → Dealings
dealings_in journal [] transcripts saw number = []
dealings_in journal (user ∷ users) [] saw number = []
dealings_in journal (user ∷ users) (printed ∷ transcripts) saw number = if eqb user.number number then saw.0.exchanges else dealings_in journal users transcripts saw.1 number

-- these dealings are theirs
abbrev AreTheirs : (dealings : Dealings) (journal : Entries) (users : List PlainUser) (transcripts : List PlainTranscript) → AllSaw journal users transcripts → Type 0
AreTheirs dealings journal [] transcripts saw = Unit {0}
AreTheirs dealings journal (user ∷ users) [] saw = Unit {0}
AreTheirs dealings journal (user ∷ users) (printed ∷ transcripts) saw = (dealings user.number ≡ saw.0.exchanges) × AreTheirs dealings journal users transcripts saw.1

abbrev numbers : List PlainUser → List ℕ
numbers users = map (λ (user : PlainUser). user.number) users

-- another user's in front changes nothing
theirs_behind : (number : ℕ) (exchanges : List Exchange) (dealings : Dealings) (journal : Entries) (users : List PlainUser) (transcripts : List PlainTranscript) (saw : AllSaw journal users transcripts) → AllByRecursion (λ (other : ℕ). number < other) (numbers users)
    → AreTheirs dealings journal users transcripts saw → AreTheirs (λ other. if eqb number other then exchanges else dealings other) journal users transcripts saw
theirs_behind number exchanges dealings journal [] transcripts saw below theirs = tt
theirs_behind number exchanges dealings journal (user ∷ users) [] saw below theirs = tt
theirs_behind number exchanges dealings journal (user ∷ users) (printed ∷ transcripts) saw below theirs =
    let apart : number ≢ user.number = λ same. omega (arith, below.0, same) in
    (ap (λ (same : Bool). if same then exchanges else dealings user.number) (ne_eqb number user.number apart) ∙ theirs.0, theirs_behind number exchanges dealings journal users transcripts saw.1 below.1 theirs.1)

all_theirs : (journal : Entries) (users : List PlainUser) (transcripts : List PlainTranscript) (saw : AllSaw journal users transcripts) → Ascend (numbers users) → AreTheirs (dealings_in journal users transcripts saw) journal users transcripts saw
all_theirs journal [] transcripts saw ascend = tt
all_theirs journal (user ∷ users) [] saw ascend = tt
all_theirs journal (user ∷ users) (printed ∷ transcripts) saw ascend = (
  ap (λ (same : Bool). if same then saw.0.exchanges else dealings_in journal users transcripts saw.1 user.number) (eq-eqb user.number user.number refl),
  theirs_behind user.number saw.0.exchanges (dealings_in journal users transcripts saw.1) journal users transcripts saw.1 (first_below user.number (numbers users) ascend) (all_theirs journal users transcripts saw.1 (others_ascend user.number (numbers users) ascend)),
)

-- ---- their parts

parts_with : (dealings : Dealings) (journal : Entries) (users : List PlainUser) (transcripts : List PlainTranscript) (saw : AllSaw journal users transcripts) → AreTheirs dealings journal users transcripts saw
    → map (λ (printed : PlainTranscript). printed.user) transcripts ≡ numbers users → AreUserParts dealings journal users transcripts
parts_with dealings journal [] [] saw theirs named = tt
parts_with dealings journal [] (printed ∷ transcripts) saw theirs named = absurd saw
parts_with dealings journal (user ∷ users) [] saw theirs named = absurd saw
parts_with dealings journal (user ∷ users) (printed ∷ transcripts) saw theirs named =
    (cc, subst (λ (exchanges : List Exchange). IsUserPart journal user exchanges printed.lines) (sym theirs.0) saw.0.part, parts_with dealings journal users transcripts saw.1 theirs.1 cc)

abbrev shelves_then : (journal : Entries) (users : List PlainUser) (transcripts : List PlainTranscript) → AllSaw journal users transcripts → List (Keeper (ℕ × List ℕ))
shelves_then journal [] transcripts saw = []
shelves_then journal (user ∷ users) [] saw = []
shelves_then journal (user ∷ users) (printed ∷ transcripts) saw = saw.0.served.0 ∷ shelves_then journal users transcripts saw.1

served_with : (dealings : Dealings) (journal : Entries) (users : List PlainUser) (transcripts : List PlainTranscript) (saw : AllSaw journal users transcripts) → AreTheirs dealings journal users transcripts saw
    → ServeUsers told_by keeper_faults dealings users (map (λ (user : PlainUser). empty_shelf) users) (shelves_then journal users transcripts saw)
served_with dealings journal [] [] saw theirs = refl
served_with dealings journal [] (printed ∷ transcripts) saw theirs = absurd saw
served_with dealings journal (user ∷ users) [] saw theirs = absurd saw
served_with dealings journal (user ∷ users) (printed ∷ transcripts) saw theirs =
    (subst (λ (exchanges : List Exchange). IsShelfRun told_by keeper_faults user.number empty_shelf exchanges saw.0.served.0) (sym theirs.0) saw.0.served.1, served_with dealings journal users transcripts saw.1 theirs.1)

-- ---- the run

pub own_run : (bundle : PlainBundle) (run : Follower) (transcripts : List PlainTranscript) → IsFollowed bundle run → map (λ (printed : PlainTranscript). printed.user) transcripts ≡ user_numbers bundle → AllSaw run.core.journal bundle.users transcripts
    → IsOwnRun bundle run.core.journal transcripts
own_run bundle run transcripts h named saw =
    let dealings : Dealings = dealings_in run.core.journal bundle.users transcripts saw in
    let theirs = all_theirs run.core.journal bundle.users transcripts saw h.rules.ascending in
    record {
      dealings = dealings;
      clock = run.ten.replier;
      files = run.twenty.replier;
      shelves = shelves_then run.core.journal bundle.users transcripts saw;
      run = record {
        legal = fit_legal bundle run.core.journal h.fit;
        users = parts_with dealings run.core.journal bundle.users transcripts saw theirs named;
        shelves_served = served_with dealings run.core.journal bundle.users transcripts saw theirs;
        parts = parts_of;
      };
    }
  where
    parts_of : (kind : AuxiliaryKind) → IsAuxiliaryPart (forgets kind) (replies kind) (user_numbers bundle) (party_of kind) run.core.journal (begins bundle kind) (of_each run.ten.replier run.twenty.replier kind)
    parts_of Clock = record { answers = subst (λ (party : ℕ). IsReplierRun (forgets Clock) (replies Clock) (begins bundle Clock) (events_of run.core.journal party) run.ten.replier) h.ten.number h.ten.answered; among = fit_among bundle (party_of Clock) run.core.journal h.fit }
    parts_of TextFiles = record { answers = subst (λ (party : ℕ). IsReplierRun (forgets TextFiles) (replies TextFiles) (begins bundle TextFiles) (events_of run.core.journal party) run.twenty.replier) h.twenty.number h.twenty.answered; among = fit_among bundle (party_of TextFiles) run.core.journal h.fit }
