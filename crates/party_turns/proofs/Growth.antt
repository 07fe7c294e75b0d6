-- What entries of other parties change of a party: nothing.
use Rattle.std.proofs.Common.{◌≡◌, ◌≢◌, ℕ, ◌+◌, ◌<◌, ◌≤◌, ◌||◌, Bool, true, false, not, cond, List, [], ◌∷◌, ◌++◌, IsTrue, refl, sym, ap, ap₂, ◌∙◌, lt_trans, arith}
use Rattle.std.specs.List.{AllByRecursion}
use Rattle.std.proofs.lemmas.Bool.{and_from, ne_eqb, or_right}
use Rattle.std.proofs.lemmas.List.Sums.{sum_by-cons}
use Rattle.std.specs.Prelude.{◌==◌}
use Rattle.apl_arrays.specs.Ascending.{Ascend}
use Rattle.bundle_text.specs.User.{PlainUser}
use Rattle.sv_events.specs.Entry.{PlainEntry}
use Rattle.sv_rules.specs.Entries.{Entries, counted_entries, has_left, is_leave}
use Rattle.sv_rules.specs.Legal.{is_user}
use Rattle.aux_parties.specs.Auxiliaries.{is_auxiliary}
use Rattle.session_rules.specs.Auxiliaries.{acts_among, events_of, some_stay}
use Rattle.session_rules.specs.Shelf.{Exchange}
use Rattle.session_rules.specs.UserPart.{IsUserPart}
use Rattle.session_rules.proofs.Parties.{other_changes_no_user_part, other_is_among, other_is_no_event, other_leaves}
use Rattle.replay_rules.specs.SoFar.{IsSoFar}
use Rattle.replay_rules.specs.Turns.{Participant}
use Rattle.replay_rules.proofs.SoFar.{others_keep}

-- no entry is a party's
abbrev pub AreOthers : ℕ → Entries → Type 0
AreOthers party entries = AllByRecursion (λ e. e.party ≢ party) entries

-- what a party did and what is said of it stays
pub has_left_stays : (entries journal : Entries) (party : ℕ) → AreOthers party entries → has_left (entries ++ journal) party ≡ has_left journal party
has_left_stays [] journal party h = refl
has_left_stays (e ∷ entries) journal party h = other_leaves e (entries ++ journal) party h.0 ∙ has_left_stays entries journal party h.1

pub events_stay : (entries journal : Entries) (party : ℕ) → AreOthers party entries → events_of (entries ++ journal) party ≡ events_of journal party
events_stay [] journal party h = refl
events_stay (e ∷ entries) journal party h = other_is_no_event e (entries ++ journal) party h.0 ∙ events_stay entries journal party h.1

pub among_stays : (users : List ℕ) (entries journal : Entries) (party : ℕ) → AreOthers party entries → acts_among users party (entries ++ journal) ≡ acts_among users party journal
among_stays users [] journal party h = refl
among_stays users (e ∷ entries) journal party h = other_is_among e (entries ++ journal) party users h.0 ∙ among_stays users entries journal party h.1

pub so_far_stays : (entries journal : Entries) (user : Participant) (waiting : Bool) → AreOthers user.number entries → IsSoFar journal user waiting → IsSoFar (entries ++ journal) user waiting
so_far_stays [] journal user waiting h is = is
so_far_stays (e ∷ entries) journal user waiting h is = others_keep (entries ++ journal) user waiting e h.0 (so_far_stays entries journal user waiting h.1 is)

pub part_stays : (entries journal : Entries) (user : PlainUser) (exchanges : List Exchange) (transcript : List (List ℕ)) → AreOthers user.number entries → IsUserPart journal user exchanges transcript → IsUserPart (entries ++ journal) user exchanges transcript
part_stays [] journal user exchanges transcript h is = is
part_stays (e ∷ entries) journal user exchanges transcript h is =
    other_changes_no_user_part (entries ++ journal) user exchanges transcript e (part_stays entries journal user exchanges transcript h.1 is) h.0

-- ---- entries that are counted

at_least : (small more large : ℕ) → large ≡ more + small → small ≤ large
at_least small more large e = omega arith

at_most_through : (a b c : ℕ) → a ≤ b → b ≤ c → a ≤ c
at_most_through a b c le more = omega arith

pub counted_grows : (entries journal : Entries) → counted_entries journal ≤ counted_entries (entries ++ journal)
counted_grows [] journal = omega arith
counted_grows (e ∷ entries) journal =
    at_most_through (counted_entries journal) (counted_entries (entries ++ journal)) (counted_entries (e ∷ (entries ++ journal))) (counted_grows entries journal)
    (at_least (counted_entries (entries ++ journal)) (cond (not (is_leave e.act)) 1 0) (counted_entries (e ∷ (entries ++ journal))) (sum_by-cons (λ (o : PlainEntry). cond (not (is_leave o.act)) 1 0) e (entries ++ journal)))

-- ---- whose entries they are

-- entries of a party are not another's
pub own_are_others : (party other : ℕ) (entries : Entries) → party ≢ other → AllByRecursion (λ e. e.party ≡ party) entries → AreOthers other entries
own_are_others party other [] differ own = tt
own_are_others party other (e ∷ entries) differ own = ((λ is. differ (sym own.0 ∙ is)), own_are_others party other entries differ own.1)

-- entries of some users are not a party's that is none of them
pub among_are_others : (users : List ℕ) (party : ℕ) (entries : Entries) → is_user users party ≡ false → AllByRecursion (λ e. IsTrue (is_user users e.party)) entries → AreOthers party entries
among_are_others users party [] none own = tt
among_are_others users party (e ∷ entries) none own = ((λ is. let no : true ≡ false = sym own.0 ∙ ap (λ (number : ℕ). is_user users number) is ∙ none in cc), among_are_others users party entries none own.1)

-- no user is an auxiliary
pub person_differs : (party user : ℕ) → IsTrue (is_auxiliary party) → is_auxiliary user ≡ false → party ≢ user
person_differs party user auxiliary person same = let no : true ≡ false = sym auxiliary ∙ ap (λ (number : ℕ). is_auxiliary number) same ∙ person in cc

pub is_no_user : (users : List ℕ) (party : ℕ) → IsTrue (is_auxiliary party) → AllByRecursion (λ user. is_auxiliary user ≡ false) users → is_user users party ≡ false
is_no_user [] party auxiliary people = refl
is_no_user (user ∷ users) party auxiliary people =
    ap₂ (λ (a b : Bool). a || b) (ne_eqb user party (λ same. person_differs party user auxiliary people.0 (sym same))) (is_no_user users party auxiliary people.1)

-- an auxiliary's entries are no user's
abbrev pub AreNone : List ℕ → Entries → Type 0
AreNone users entries = AllByRecursion (λ user. AreOthers user entries) users

pub none_of_people : (users : List ℕ) (party : ℕ) (entries : Entries) → IsTrue (is_auxiliary party) → AllByRecursion (λ user. is_auxiliary user ≡ false) users → AllByRecursion (λ e. e.party ≡ party) entries → AreNone users entries
none_of_people [] party entries auxiliary people own = tt
none_of_people (user ∷ users) party entries auxiliary people own =
    (own_are_others party user entries (person_differs party user auxiliary people.0) own, none_of_people users party entries auxiliary people.1 own)

none_tail : (users : List ℕ) (e : PlainEntry) (entries : Entries) → AreNone users (e ∷ entries) → AreNone users entries
none_tail [] e entries h = tt
none_tail (user ∷ users) e entries h = (h.0.1, none_tail users e entries h.1)

-- so who stays still does
pub some_stay_same : (users : List ℕ) (entries journal : Entries) → AreNone users entries → some_stay users (entries ++ journal) ≡ some_stay users journal
some_stay_same [] entries journal h = refl
some_stay_same (user ∷ users) entries journal h = ap₂ (λ (left others : Bool). not left || others) (has_left_stays entries journal user h.0) (some_stay_same users entries journal h.1)

-- and before each of them some user had not left, where one had not before them
pub among_grows : (users : List ℕ) (party : ℕ) (entries journal : Entries) → AreNone users entries → IsTrue (some_stay users journal) → IsTrue (acts_among users party journal) → IsTrue (acts_among users party (entries ++ journal))
among_grows users party [] journal none stay among = among
among_grows users party (e ∷ entries) journal none stay among =
    let rest : AreNone users entries = none_tail users e entries none in
    and_from (not (e.party == party) || some_stay users (entries ++ journal)) (acts_among users party (entries ++ journal))
    (or_right (not (e.party == party)) (some_stay users (entries ++ journal)) (some_stay_same users entries journal rest ∙ stay))
    (among_grows users party entries journal rest stay among)

-- ---- ascending users

above : (low number : ℕ) (numbers : List ℕ) → low < number → Ascend (number ∷ numbers) → AllByRecursion (λ other. low < other) (number ∷ numbers)
above low number [] less h = (less, tt)
above low number (next ∷ numbers) less h = (less, above low next numbers (lt_trans less h.0) h.1)

-- the first is below the others
pub first_below : (number : ℕ) (numbers : List ℕ) → Ascend (number ∷ numbers) → AllByRecursion (λ other. number < other) numbers
first_below number [] h = tt
first_below number (next ∷ numbers) h = above number next numbers h.0 h.1

-- and the others ascend
pub others_ascend : (number : ℕ) (numbers : List ℕ) → Ascend (number ∷ numbers) → Ascend numbers
others_ascend number [] h = tt
others_ascend number (next ∷ numbers) h = h.1

-- a number below others is none of them
pub below_is_none : (number : ℕ) (numbers : List ℕ) → AllByRecursion (λ other. number < other) numbers → is_user numbers number ≡ false
below_is_none number [] h = refl
below_is_none number (next ∷ numbers) h =
    let less : number < next = h.0 in
    ap₂ (λ (a b : Bool). a || b) (ne_eqb next number (λ same. omega (arith, less, same))) (below_is_none number numbers h.1)
