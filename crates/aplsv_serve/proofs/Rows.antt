-- Rows of seats and of tasks: room at seats, and tasks that are seated and taken apart.
use Rattle.std.proofs.Common.{◌≡◌, false, ℕ, zero, suc, ◌≤◌, List, [], ◌∷◌, ◌++◌, map, set, get_or, length, take, take_all, drop, ◌+◌, ◌<◌, refl, sym, ap, ◌∙◌, subst, arith, append_assoc}
use Rattle.std.proofs.lemmas.List.{append-nil, length-map, map_push}
use Rattle.std.proofs.lemmas.List.Elements.{All-cons, All-head, All-nil, All-push, All-tail}
use Rattle.std.specs.List.{AllZip}
use Rattle.std.specs.Prelude.{All}
use Rattle.aux_parties.specs.Auxiliaries.{party_of}
use Rattle.aux_parties.specs.declared.auxiliary.AuxiliaryKind.TheVariants as kind
use Rattle.sv_core.specs.Histories.{members_of}
use Rattle.sv_events.specs.Entry.{PlainEntry}
use Rattle.sv_turn.specs.Seating.{BelongsTo, known_in, known_of, spare_of}
use Rattle.sv_turn.specs.declared.seat.Seat.{Seat}
use Rattle.sv_turn.specs.declared.view.View.{View}
use Rattle.party_turns.proofs.Rows.{shelf_taken}
use Rattle.party_turns.specs.declared.seat.UserSeat.{UserSeat}
use Rattle.aplsv_serve.specs.Halls.{IsFreshSeat, Stile}
use Rattle.aplsv_serve.specs.Starts.{AreNewTasks, AreSeatedBehind, IsNewService, IsNewUser}
use Rattle.aplsv_serve.specs.declared.auxiliary_task.AuxiliaryTask.{AuxiliaryTask}
use Rattle.aplsv_serve.specs.declared.party_task.PartyTask.{PartyTask}
use Rattle.aplsv_serve.specs.declared.party_task.PartyTask.TheVariants as variant
use Rattle.aplsv_serve.specs.declared.user_task.UserTask.{UserTask}

-- ---- room at seats

-- a seat is what it was, but for the room for its places
pub record IsSameSeat (old new : Seat PlainEntry) : Type 0 where
  pub badge : new.badge ≡ old.badge
  pub party : new.party ≡ old.party
  pub mine : new.mine.items ≡ old.mine.items

pub same_seats : (seats : List (Seat PlainEntry)) → AllZip IsSameSeat seats seats
same_seats [] = tt
same_seats (seat ∷ seats) = (record { badge = refl; party = refl; mine = refl }, same_seats seats)

then_same : (first second third : Seat PlainEntry) → IsSameSeat first second → IsSameSeat second third → IsSameSeat first third
then_same first second third a b = record { badge = b.badge ∙ a.badge; party = b.party ∙ a.party; mine = b.mine ∙ a.mine }

-- after one of them has changed
pub same_after : (given seats : List (Seat PlainEntry)) (i : ℕ) (old new : Seat PlainEntry) → AllZip IsSameSeat given seats → IsSameSeat (get_or seats i old) new → AllZip IsSameSeat given (set seats i new)
same_after [] [] i old new all one = all
same_after [] (b ∷ seats) i old new all one = absurd all
same_after (a ∷ given) [] i old new all one = absurd all
same_after (a ∷ given) (b ∷ seats) zero old new all one = (then_same a b new all.0 one, all.1)
same_after (a ∷ given) (b ∷ seats) (suc i) old new all one = (all.0, same_after given seats i old new all.1 one)

-- their parties are the same
pub same_parties : (given seats : List (Seat PlainEntry)) → AllZip IsSameSeat given seats → map (λ seat. seat.party) seats ≡ map (λ seat. seat.party) given
same_parties [] [] all = refl
same_parties [] (b ∷ seats) all = absurd all
same_parties (a ∷ given) [] all = absurd all
same_parties (a ∷ given) (b ∷ seats) all =
    ap (λ (n : ℕ). n ∷ map (λ (s : Seat PlainEntry). s.party) seats) all.0.party ∙ ap (λ (ns : List ℕ). a.party ∷ ns) (same_parties given seats all.1)

-- and they are as many
pub as_many_seats : (given seats : List (Seat PlainEntry)) → AllZip IsSameSeat given seats → length seats ≡ length given
as_many_seats [] [] all = refl
as_many_seats [] (b ∷ seats) all = absurd all
as_many_seats (a ∷ given) [] all = absurd all
as_many_seats (a ∷ given) (b ∷ seats) all = let rest = as_many_seats given seats all.1 in omega arith

same_views : (old new : Seat PlainEntry) → new.badge ≡ old.badge → new.badge.views ≡ old.badge.views
same_views old new same = cc

same_table : (old new : Seat PlainEntry) → new.badge ≡ old.badge → new.badge.table_id ≡ old.badge.table_id
same_table old new same = cc

fresh_one : (stile : Stile) (given seat : Seat PlainEntry) → IsSameSeat given seat → 2 ≤ spare_of seat → BelongsTo members_of stile given → given.mine.items ≡ [] → known_of given ≡ [] → IsFreshSeat stile seat
fresh_one stile given seat same room belongs none nothing = record {
  belongs = record { view = belongs.view; here = same_views given seat same.badge ∙ belongs.here; table_is = same_table given seat same.badge ∙ belongs.table_is; members_are = belongs.members_are };
  no_places = same.mine ∙ none;
  nothing_known = ap (λ (views : List (View PlainEntry)). known_in views) (same_views given seat same.badge) ∙ nothing;
  room = omega arith;
}

-- seats that were just given, once they have room
pub all_fresh : (stile : Stile) (given seats : List (Seat PlainEntry)) → AllZip IsSameSeat given seats → All (λ seat. 2 ≤ spare_of seat) seats → All (BelongsTo members_of stile) given → All (λ seat. seat.mine.items ≡ []) given → All (λ seat. known_of seat ≡ []) given → All (IsFreshSeat stile) seats
all_fresh stile [] [] same room belongs none nothing = All-nil (IsFreshSeat stile)
all_fresh stile [] (b ∷ seats) same room belongs none nothing = absurd same
all_fresh stile (a ∷ given) [] same room belongs none nothing = absurd same
all_fresh stile (a ∷ given) (b ∷ seats) same room belongs none nothing =
    All-cons (IsFreshSeat stile) b seats
    (fresh_one stile a b same.0 (All-head (λ (s : Seat PlainEntry). 2 ≤ spare_of s) b seats room) (All-head (BelongsTo members_of stile) a given belongs)
    (All-head (λ (s : Seat PlainEntry). s.mine.items ≡ []) a given none) (All-head (λ (s : Seat PlainEntry). known_of s ≡ []) a given nothing))
    (all_fresh stile given seats same.1 (All-tail (λ (s : Seat PlainEntry). 2 ≤ spare_of s) b seats room) (All-tail (BelongsTo members_of stile) a given belongs)
    (All-tail (λ (s : Seat PlainEntry). s.mine.items ≡ []) a given none) (All-tail (λ (s : Seat PlainEntry). known_of s ≡ []) a given nothing))

-- ---- tasks of users

module _ {X Y K : Type 0} where
  pub none_seated : (others : List (PartyTask X Y K)) (seats : List (Seat PlainEntry)) → AreSeatedBehind others [] seats seats others
  none_seated others seats = record { list = []; is = sym (append-nil others); each = All-nil IsNewUser; seated = refl; seats = refl }

  -- a task more
  pub one_seated : (others tasks more : List (PartyTask X Y K)) (done : List (UserSeat K)) (left rest all : List (Seat PlainEntry)) (user : UserSeat K) (seat : Seat PlainEntry) (task : UserTask K) → AreSeatedBehind others done left all tasks
      → left ≡ seat ∷ rest → (task.user ≡ user) × (task.seat ≡ seat) × (task.is_done ≡ false) × (task.began.value ≡ user) → more ≡ tasks ++ variant.User task ∷ [] → AreSeatedBehind others (done ++ user ∷ []) rest all more
  one_seated others tasks more done left rest all user seat task h first new is = record {
    list = h.list ++ task ∷ [];
    is =
        is ∙ (ap (λ (ts : List (PartyTask X Y K)). ts ++ variant.User task ∷ []) h.is
        ∙ (append_assoc others (map (λ (u : UserTask K). variant.User u) h.list) (variant.User task ∷ []) ∙ ap (λ (ts : List (PartyTask X Y K)). others ++ ts) (sym (map_push (λ (u : UserTask K). variant.User u) h.list task))));
    each = All-push IsNewUser h.list task h.each (record { going = new.2; began = new.3 ∙ sym new.0 });
    seated =
        map_push (λ (t : UserTask K). t.user) h.list task
        ∙ (ap (λ (us : List (UserSeat K)). us ++ task.user ∷ []) h.seated ∙ ap (λ (u : UserSeat K). done ++ u ∷ []) new.0);
    seats = shelf_taken (λ (t : UserTask K). t.seat) h.list left rest all task seat h.seats first new.1;
  }

  -- the task at a place of a row of users' tasks
  pub user_at : (list : List (UserTask K)) (k : ℕ) (task : PartyTask X Y K) → k < length (map (λ (u : UserTask K). let t : PartyTask X Y K = variant.User u in t) list) → task ≡ get_or (map (λ (u : UserTask K). let t : PartyTask X Y K = variant.User u in t) list) k task
      → (user : UserTask K) × (task ≡ variant.User user) × (take (suc k) list ≡ take k list ++ user ∷ [])
  user_at [] k task low is = absurd (omega arith)
  user_at (u ∷ list) zero task low is = (u, is, refl)
  user_at (u ∷ list) (suc k) task low is =
      let rest = user_at list k task (omega arith) is in (rest.0, rest.1, ap (λ (us : List (UserTask K)). u ∷ us) rest.2)

-- what comes of one more of them
pub taken_more : {K A : Type 0} (of : UserTask K → A) (list : List (UserTask K)) (k more : ℕ) (user : UserTask K) (before now new : List A) → more ≡ k + 1 → take (suc k) list ≡ take k list ++ user ∷ [] → now ≡ before ++ map of (take k list) → new ≡ now ++ of user ∷ []
    → new ≡ before ++ map of (take more list)
taken_more {A = A} of list k more user before now new one next so is =
    is ∙ (ap (λ (all : List A). all ++ of user ∷ []) so
    ∙ (append_assoc before (map of (take k list)) (of user ∷ [])
    ∙ ap (λ (all : List A). before ++ all) (sym (map_push of (take k list) user) ∙ (ap (map of) (sym next) ∙ ap (λ (n : ℕ). map of (take n list)) (let same : suc k ≡ more = omega arith in same)))))

module _ {X Y K : Type 0} where
  -- the task at a place of tasks of users
  pub user_among : (tasks : List (PartyTask X Y K)) (list : List (UserTask K)) (k : ℕ) (task : PartyTask X Y K) → tasks ≡ map (λ (u : UserTask K). let t : PartyTask X Y K = variant.User u in t) list → k < length tasks → task ≡ get_or tasks k task
      → (user : UserTask K) × (task ≡ variant.User user) × (take (suc k) list ≡ take k list ++ user ∷ [])
  user_among tasks list k task all low is =
      user_at list k task (subst (λ (ts : List (PartyTask X Y K)). k < length ts) all low) (subst (λ (ts : List (PartyTask X Y K)). task ≡ get_or ts k task) all is)

  -- what has come of all of them
  pub all_taken : {A : Type 0} (of : UserTask K → A) (tasks : List (PartyTask X Y K)) (list : List (UserTask K)) (k : ℕ) (before now : List A) → tasks ≡ map (λ (u : UserTask K). let t : PartyTask X Y K = variant.User u in t) list → k ≡ length tasks → now ≡ before ++ map of (take k list)
      → now ≡ before ++ map of list
  all_taken {A = A} of tasks list k before now all whole so =
      let many : length list ≤ k = let e = ap (λ (ts : List (PartyTask X Y K)). length ts) all in let m = length-map list (λ (u : UserTask K). let t : PartyTask X Y K = variant.User u in t) in omega arith in
      so ∙ ap (λ (us : List (UserTask K)). before ++ map of us) (take_all k list many)

  -- the tasks of a run that have taken no turn
  pub all_seated : (ten : X) (twenty : Y) (users : List (UserSeat K)) (seats others rest : List (Seat PlainEntry)) (first second : Seat PlainEntry) (clock : AuxiliaryTask X) (files : AuxiliaryTask Y) (tasks : List (PartyTask X Y K)) → seats ≡ first ∷ others → others ≡ second ∷ rest
      → IsNewService (party_of kind.Clock) ten clock → clock.seat ≡ first → IsNewService (party_of kind.TextFiles) twenty files → files.seat ≡ second → AreSeatedBehind (variant.Clock clock ∷ variant.TextFiles files ∷ []) users [] rest tasks → AreNewTasks ten twenty users seats tasks
  all_seated ten twenty users seats others rest first second clock files tasks one two new at new_files at_files h =
      let behind : rest ≡ map (λ (t : UserTask K). t.seat) h.list = sym h.seats ∙ append-nil (map (λ (t : UserTask K). t.seat) h.list) in
      record {
        row = record { clock = clock; files = files; users = h.list; is = h.is };
        clock = new;
        files = new_files;
        each = h.each;
        seated = h.seated;
        at_seats = cc;
      }

-- the first item of a row, and the others
pub first_of : {A : Type 0} (xs rest ys : List A) (x y : A) → xs ≡ y ∷ ys → x ≡ get_or xs 0 x → rest ≡ take 0 xs ++ drop 1 xs → (x ≡ y) × (rest ≡ ys)
first_of {A = A} xs rest ys x y is first others = (first ∙ ap (λ (l : List A). get_or l 0 x) is, others ∙ ap (λ (l : List A). take 0 l ++ drop 1 l) is)
