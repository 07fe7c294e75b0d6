-- The tasks of all parties, as far as their seats know the journal.
use Rattle.std.specs.Prelude.{◌≡◌, ◌≤◌, ◌∷◌, ℕ, false, List, Option, map}
use Rattle.apl_arrays.specs.Array.{PlainArray}
use Rattle.apl_io.specs.Content.{Told}
use Rattle.aux_parties.specs.Auxiliaries.{party_of}
use Rattle.aux_parties.specs.declared.auxiliary.AuxiliaryKind.TheVariants as kind
use Rattle.sv_turn.specs.Seating.{known_of, spare_of}
use Rattle.party_turns.specs.Serving.{CameBehind, IsAtWork}
use Rattle.aplsv_serve.specs.Halls.{IsHall, IsSeatAtStile, Stile, users_of_stile}
use Rattle.aplsv_serve.specs.UserTasks.{UserStands}
use Rattle.aplsv_serve.specs.declared.auxiliary_task.AuxiliaryTask.{AuxiliaryTask}
use Rattle.aplsv_serve.specs.declared.hall.Hall.{Hall}
use Rattle.aplsv_serve.specs.declared.party_task.PartyName.{PartyName}
use Rattle.aplsv_serve.specs.declared.party_task.PartyName.TheVariants as name
use Rattle.aplsv_serve.specs.declared.party_task.PartyTask.{PartyTask}
use Rattle.aplsv_serve.specs.declared.party_task.PartyTask.TheVariants as variant
use Rattle.aplsv_serve.specs.declared.user_task.UserTask.{UserTask}

-- an auxiliary's task at a turnstile: it is at its work in the journal that its seat knows, what answers behind it came to where it is, and until it is done its seat has room for an entry
pub record AuxiliaryStands {S : Type 0} (forgets : S → ℕ → S → Type 0) (replies : S → ℕ → PlainArray → PlainArray → S → Type 0) (wants : S → ℕ → PlainArray → S → Type 0) (party : ℕ) (stile : Stile) (task : AuxiliaryTask S) : Type 0 where
  pub seat : IsSeatAtStile stile party task.seat
  pub room : task.is_done ≡ false → 1 ≤ spare_of task.seat
  pub at_work : IsAtWork forgets replies (users_of_stile stile) party task.began.value (known_of task.seat) task.auxiliary
  pub came : CameBehind forgets replies wants task.began.value task.auxiliary

module _ {X Y K : Type 0} (forgets_ten : X → ℕ → X → Type 0) (replies_ten : X → ℕ → PlainArray → PlainArray → X → Type 0) (wants_ten : X → ℕ → PlainArray → X → Type 0)
    (forgets_twenty : Y → ℕ → Y → Type 0) (replies_twenty : Y → ℕ → PlainArray → PlainArray → Y → Type 0) (wants_twenty : Y → ℕ → PlainArray → Y → Type 0)
    (told : K → Option (Told (ℕ × List ℕ))) (faults : K → ℕ) where
  -- the task of each party
  abbrev pub StandsAt : Stile → PartyTask X Y K → Type 0
  StandsAt stile (variant.Clock clock) = AuxiliaryStands forgets_ten replies_ten wants_ten (party_of kind.Clock) stile clock
  StandsAt stile (variant.TextFiles files) = AuxiliaryStands forgets_twenty replies_twenty wants_twenty (party_of kind.TextFiles) stile files
  StandsAt stile (variant.User user) = UserStands told faults stile user

  -- a party's task in a hall
  pub record PartyStands {G : Type 0} (hall : Hall G) (task : PartyTask X Y K) : Type 0 where
    pub hall_is : IsHall hall
    pub stands : StandsAt hall.stile task

-- what no turn changes of it: what answered behind an auxiliary when it began, and the user as it was then
abbrev pub party_name : {X Y K : Type 0} → PartyTask X Y K → PartyName X Y K
party_name (variant.Clock clock) = name.Clock clock.began.value
party_name (variant.TextFiles files) = name.TextFiles files.began.value
party_name (variant.User user) = name.User user.began.value

-- the tasks of a run: those of the clock and of the text files, and those of the users
pub record TaskRow {X Y K : Type 0} (tasks : List (PartyTask X Y K)) : Type 0 where
  pub clock : AuxiliaryTask X
  pub files : AuxiliaryTask Y
  pub users : List (UserTask K)
  pub is : tasks ≡ variant.Clock clock ∷ variant.TextFiles files ∷ map (λ user. variant.User user) users
