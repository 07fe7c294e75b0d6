-- A replay takes no more rounds than there is to do.
use Rattle.std.proofs.Common.{◌≡◌, ℕ, suc, ◌+◌, ◌-◌, ◌<◌, ◌≤◌, Bool, true, false, List, [], ◌∷◌, length, map, Option, refl, subst, arith}
use Rattle.std.specs.Prelude.{count_by, if◌then◌else◌, sum_by}
use Rattle.std.proofs.lemmas.List.Sums.{sum_by-cons}
use Rattle.sv_rules.specs.Limits.{most_entries}
use Rattle.apl_arrays.specs.Array.{PlainArray}
use Rattle.apl_io.specs.Content.{Told}
use Rattle.bundle_text.specs.Rules.{PlainBundle}
use Rattle.bundle_text.specs.User.{PlainUser}
use Rattle.sv_rules.specs.Entries.{Entries, counted_entries, has_left}
use Rattle.session_rules.specs.SessionLaws.{tells_full}
use Rattle.apl_session.specs.PlainSession.{PlainSession}
use Rattle.aplsv_replay.specs.Rounds.{most_rounds}
use Rattle.party_turns.specs.SoFar.{user_of, user_work}
use Rattle.aplsv_replay.specs.Together.{TakesRounds, TakesTurns, left_to_do}
use Rattle.aplsv_replay.specs.declared.parties.Parties.{Parties}
use Rattle.party_turns.specs.declared.seat.UserSeat.{UserSeat}
use Rattle.replay_rules.specs.Turns.{round, rounds}
use Rattle.aplsv_replay.proofs.Taking.{stays_at, takes_none, takes_round}

-- ---- rounds that are counted

counted_none : (all : ℕ) → 0 + all ≤ all
counted_none all = omega arith

counted_more : (count left now all : ℕ) → count + left ≤ all → now < left → suc count + now ≤ all
counted_more count left now all so_far less = omega arith

module _ {X Y K : Type 0} (forgets_ten : X → ℕ → X → Type 0) (replies_ten : X → ℕ → PlainArray → PlainArray → X → Type 0)
    (forgets_twenty : Y → ℕ → Y → Type 0) (replies_twenty : Y → ℕ → PlainArray → PlainArray → Y → Type 0) (told : K → Option (Told (ℕ × List ℕ))) (faults : K → ℕ) where
  pub no_rounds : (p : Parties X Y K) → TakesRounds forgets_ten replies_ten forgets_twenty replies_twenty told faults p p
  no_rounds p = record { count = 0; less = counted_none (left_to_do p); turns = takes_none forgets_ten replies_ten forgets_twenty replies_twenty told faults (rounds 0) p (λ r. refl) }

  pub one_more : (p q r : Parties X Y K) → TakesRounds forgets_ten replies_ten forgets_twenty replies_twenty told faults p q → stays_at q ≡ true → TakesTurns forgets_ten replies_ten forgets_twenty replies_twenty told faults round q r → left_to_do r < left_to_do q
      → TakesRounds forgets_ten replies_ten forgets_twenty replies_twenty told faults p r
  one_more p q r so_far stay next less = record {
    count = suc so_far.count;
    less = counted_more so_far.count (left_to_do q) (left_to_do r) (left_to_do p) so_far.less less;
    turns = takes_round forgets_ten replies_ten forgets_twenty replies_twenty told faults so_far.count p q r so_far.turns stay next;
  }

-- ---- how much there is to do

-- a user has its leave and its lines before it
user_is_bounded : {K : Type 0} (journal : Entries) (user : PlainSession K) → user_work journal user ≤ 1 + length user.lines
user_is_bounded journal user = by (has_left journal user.user) where
  by : (left : Bool) → (if left then 0 else 1 + (length user.lines - count_by tells_full user.answers)) ≤ 1 + length user.lines
  by true = omega arith
  by false = omega arith

-- all users
abbrev work_in : {K : Type 0} → Entries → List (UserSeat K) → ℕ
work_in journal seats = sum_by (λ seat. user_work journal seat.session) seats

abbrev lines_in : List PlainUser → ℕ
lines_in users = sum_by (λ (user : PlainUser). 1 + length user.lines) users

sums_at_most : (a b c d e f : ℕ) → e ≡ a + b → f ≡ c + d → a ≤ c → b ≤ d → e ≤ f
sums_at_most a b c d e f one two first others = omega arith

users_are_bounded : {K : Type 0} (journal : Entries) (seats : List (UserSeat K)) → work_in journal seats ≤ lines_in (map (λ seat. user_of seat.session) seats)
users_are_bounded journal [] = omega arith
users_are_bounded {K = K} journal (seat ∷ seats) =
    sums_at_most (user_work journal seat.session) (work_in journal seats) (1 + length seat.session.lines) (lines_in (map (λ s. user_of s.session) seats))
    (work_in journal (seat ∷ seats)) (lines_in (map (λ s. user_of s.session) (seat ∷ seats)))
    (sum_by-cons (λ (s : UserSeat K). user_work journal s.session) seat seats)
    (sum_by-cons (λ (user : PlainUser). 1 + length user.lines) (user_of seat.session) (map (λ s. user_of s.session) seats))
    (user_is_bounded journal seat.session) (users_are_bounded journal seats)

all_at_most : (entries counted users lines : ℕ) → users ≤ lines → (entries - counted) + users ≤ entries + lines
all_at_most entries counted users lines few = omega arith

count_at_most : (count now left all : ℕ) → count + now ≤ left → left ≤ all → count ≤ all
count_at_most count now left all less few = omega arith

-- so no more rounds are taken than a bundle's
pub few_rounds : {X Y K : Type 0} (forgets_ten : X → ℕ → X → Type 0) (replies_ten : X → ℕ → PlainArray → PlainArray → X → Type 0) (forgets_twenty : Y → ℕ → Y → Type 0) (replies_twenty : Y → ℕ → PlainArray → PlainArray → Y → Type 0)
    (told : K → Option (Told (ℕ × List ℕ))) (faults : K → ℕ) (bundle : PlainBundle) (p q : Parties X Y K) → map (λ seat. user_of seat.session) p.seats.items ≡ bundle.users
    → (h : TakesRounds forgets_ten replies_ten forgets_twenty replies_twenty told faults p q) → h.count ≤ most_rounds bundle
few_rounds forgets_ten replies_ten forgets_twenty replies_twenty told faults bundle p q users h =
    let little : work_in p.core.journal p.seats.items ≤ lines_in bundle.users =
    subst (λ (list : List PlainUser). work_in p.core.journal p.seats.items ≤ lines_in list) users (users_are_bounded p.core.journal p.seats.items) in
    count_at_most h.count (left_to_do q) (left_to_do p) (most_rounds bundle) h.less
    (all_at_most most_entries (counted_entries p.core.journal) (work_in p.core.journal p.seats.items) (lines_in bundle.users) little)
