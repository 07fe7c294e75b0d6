-- A run on threads before its first turn, and its tasks taken apart behind the last one.
use Rattle.std.specs.Prelude.{◌≡◌, ◌∷◌, ◌++◌, ℕ, false, List, All, map}
use Rattle.aux_parties.specs.Auxiliaries.{party_of}
use Rattle.aux_parties.specs.declared.auxiliary.AuxiliaryKind.TheVariants as kind
use Rattle.sv_events.specs.Entry.{PlainEntry}
use Rattle.sv_turn.specs.declared.seat.Seat.{Seat}
use Rattle.party_turns.specs.declared.seat.UserSeat.{UserSeat}
use Rattle.aplsv_serve.specs.Tasks.{TaskRow}
use Rattle.aplsv_serve.specs.declared.auxiliary_task.AuxiliaryTask.{AuxiliaryTask}
use Rattle.aplsv_serve.specs.declared.ending.Apart.{Apart}
use Rattle.aplsv_serve.specs.declared.party_task.PartyTask.{PartyTask}
use Rattle.aplsv_serve.specs.declared.party_task.PartyTask.TheVariants as variant
use Rattle.aplsv_serve.specs.declared.user_task.UserTask.{UserTask}

-- the task of an auxiliary that has taken no turn
pub record IsNewService {S : Type 0} (party : ℕ) (start : S) (task : AuxiliaryTask S) : Type 0 where
  pub auxiliary : task.auxiliary ≡ record { party = party; replier = start; is_lost = false }
  pub going : task.is_done ≡ false
  pub began : task.began.value ≡ start

-- and that of a user
pub record IsNewUser {K : Type 0} (task : UserTask K) : Type 0 where
  pub going : task.is_done ≡ false
  pub began : task.began.value ≡ task.user

-- tasks of users that have taken no turn, behind others: those of these users, each at one of the first seats of all; these seats are left
pub record AreSeatedBehind {X Y K : Type 0} (others : List (PartyTask X Y K)) (users : List (UserSeat K)) (left all : List (Seat PlainEntry)) (tasks : List (PartyTask X Y K)) : Type 0 where
  pub list : List (UserTask K)
  pub is : tasks ≡ others ++ map (λ user. variant.User user) list
  pub each : All IsNewUser list
  pub seated : map (λ task. task.user) list ≡ users
  pub seats : map (λ task. task.seat) list ++ left ≡ all

-- the tasks of a run that have taken no turn, at these seats
pub record AreNewTasks {X Y K : Type 0} (ten : X) (twenty : Y) (users : List (UserSeat K)) (seats : List (Seat PlainEntry)) (tasks : List (PartyTask X Y K)) : Type 0 where
  pub row : TaskRow tasks
  pub clock : IsNewService (party_of kind.Clock) ten row.clock
  pub files : IsNewService (party_of kind.TextFiles) twenty row.files
  pub each : All IsNewUser row.users
  pub seated : map (λ task. task.user) row.users ≡ users
  pub at_seats : seats ≡ row.clock.seat ∷ row.files.seat ∷ map (λ task. task.seat) row.users

-- tasks that were taken apart: the auxiliaries, the users, and the seats of all in their order
pub record AreApart {X Y K : Type 0} {tasks : List (PartyTask X Y K)} (row : TaskRow tasks) (apart : Apart X Y K) : Type 0 where
  pub ten : apart.ten ≡ row.clock.auxiliary
  pub twenty : apart.twenty ≡ row.files.auxiliary
  pub users : apart.users.items ≡ map (λ task. task.user) row.users
  pub seats : apart.seats.items ≡ row.clock.seat ∷ row.files.seat ∷ map (λ task. task.seat) row.users
