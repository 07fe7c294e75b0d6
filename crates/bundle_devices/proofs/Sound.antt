-- Devices of which no call is to fail leave no entry untold.
use Rattle.std.proofs.Common.{◌≡◌, ◌≢◌, ℕ, Bool, true, false, List, [], ◌∷◌, map, Option, Some, None, refl, sym, ap, subst, ◌∙◌}
use Rattle.std.specs.Prelude.{Result, Ok, Err, IfOk, IfSome, IsSomeAnd, if◌then◌else◌}
use Rattle.std.specs.BTreeMap.{is_at}
use Rattle.std.specs.declared.cmp.Ordering.{Ordering}
use Rattle.std.proofs.lemmas.Option.{none-some}
use Rattle.apl_arrays.specs.Array.{PlainArray}
use Rattle.apl_arrays.specs.Name.{name_order}
use Rattle.apl_io.specs.Content.{FailsByNumber, IsChange, IsListing, IsRead, MayRemove, Reads, Told, Writes, after_call, by_user_and_name, entry_of}
use Rattle.apl_io.specs.declared.store_error.StoreError.{StoreError}
use Rattle.apl_io.specs.declared.store_error.StoreError.TheVariants.{Failed, WantOfMemory}
use Rattle.auxiliaries.specs.Request.{request_of}
use Rattle.auxiliaries.specs.Protocol.{AfterReplace, Step, answers, reads, replaces, protocol_step}
use Rattle.auxiliaries.specs.Run.{Event, IsReplierRun, answered, began}
use Rattle.auxiliaries.specs.Served.{Replies, Served, TakesStep, forgotten}
use Rattle.bundle_text.specs.User.{PlainUser}
use Rattle.session_rules.specs.Run.{Dealings, ServeUsers}
use Rattle.session_rules.specs.Shelf.{Call, Exchange, IsShelfRun, ShelfReply, Serves, browse, discard, discarded, fetch, reply_as, store, stored}
use Rattle.bundle_devices.specs.Telling.{AllTellThroughout, HoldsThroughout, TellsAll, TellsThroughout}
use Rattle.bundle_devices.proofs.Told.{some_and}

-- no call is to fail, and all is told
pub record IsSound {K : Type 0} (order : K → K → Ordering) (now : Told K) : Type 0 where
  pub fails : now.fails ≡ []
  pub told : (key : K) → entry_of order now key ≢ Some None

-- a device tells so
pub record TellsSound {K : Type 0} (order : K → K → Ordering) (o : Option (Told K)) : Type 0 where
  pub now : Told K
  pub tells : o ≡ Some now
  pub sound : IsSound order now

-- and so it tells all
tells_all : {K : Type 0} (order : K → K → Ordering) (o : Option (Told K)) → TellsSound order o → TellsAll order o
tells_all order o h = subst (λ (p : Option (Told _)). TellsAll order p) (sym h.tells) h.sound.told

pub none_fails : (T : Type 0) (calls : ℕ) (fails : List ℕ) → fails ≡ [] → FailsByNumber {T = T} calls fails (Err Failed) → ⊥
none_fails T calls [] none failed = let no : false ≡ true = failed in cc
none_fails T calls (number ∷ fails) none failed = absurd cc

wanted_told : (here : Bool) (wanted before : Option (Option (List ℕ))) → wanted ≢ Some None → before ≢ Some None → (if here then wanted else before) ≢ Some None
wanted_told true wanted before all told = all
wanted_told false wanted before all told = told

module _ {K : Type 0} (order : K → K → Ordering) where
  pub called_sound : (a c : Told K) → c ≡ after_call a → IsSound order a → IsSound order c
  called_sound a c after h =
      let called : IsSound order (after_call a) = record { fails = h.fails; told = h.told } in
      subst (IsSound order) (sym after) called

  pub changed_sound : {T : Type 0} (a c : Told K) (key : K) (wanted : Option (Option (List ℕ))) (r : Result T StoreError) → wanted ≢ Some None → r ≢ Err WantOfMemory → IsChange order a key wanted r c → IsSound order a → IsSound order c
  changed_sound a c key wanted (Ok x) all here change h = record {
    fails = change.fails ∙ h.fails;
    told = λ other. subst (λ (entry : Option (Option (List ℕ))). entry ≢ Some None) (sym (change.entries other)) (wanted_told (is_at (order key) other) wanted (entry_of order a other) all (h.told other));
  }
  changed_sound {T = T} a c key wanted (Err Failed) all here change h = absurd (none_fails T a.calls a.fails h.fails change.numbered)
  changed_sound a c key wanted (Err WantOfMemory) all here change h = absurd (here refl)

-- ---- text files

module _ {T : Type 0} (told : T → Option (Told (List ℕ))) (faults : T → ℕ) where
  taken_sound : (s : Step) (a : Served T) (answer : PlainArray) (c : Served T) → TakesStep told faults s a answer c → TellsSound name_order (told a.store) → TellsSound name_order (told c.store)
  taken_sound (answers value state) a answer c takes h = subst (λ (t : T). TellsSound name_order (told t)) (sym (ap (λ (s : Served T). s.store) takes.1)) h
  taken_sound (reads name) a answer c takes h =
      let p = some_and (told c.store) (IsRead name_order h.now name takes.reply) (subst (λ (o : Option (Told (List ℕ))). Reads name_order o name takes.reply (told c.store)) h.tells takes.told_reply) in
      record { now = p.0; tells = p.1; sound = called_sound name_order h.now p.0 p.2.after h.sound }
  taken_sound (replaces name bytes) a answer c takes h =
      let p = some_and (told c.store) (IsChange name_order h.now name (Some (Some bytes)) takes.reply) (subst (λ (o : Option (Told (List ℕ))). Writes name_order o name bytes takes.reply (told c.store)) h.tells takes.told_reply) in
      record {
        now = p.0;
        tells = p.1;
        sound = changed_sound name_order h.now p.0 name (Some (Some bytes)) takes.reply (λ e. cc e)
            (λ lost. subst (λ (r : Result (Unit {0}) StoreError). AfterReplace r a.state answer c.state) lost takes.after) p.2 h.sound;
      }

  abbrev ForgetsFiles : Served T → ℕ → Served T → Type 0
  ForgetsFiles old party new = new ≡ forgotten old

  abbrev RepliesFiles : Served T → ℕ → PlainArray → PlainArray → Served T → Type 0
  RepliesFiles old party value answer new = Replies told faults old value answer new

  ends_sound : (start : Served T) (events : List Event) (end : Served T) → IsReplierRun ForgetsFiles RepliesFiles start events end → TellsSound name_order (told start.store) → TellsSound name_order (told end.store)
  ends_sound start [] end run h = subst (λ (s : Served T). TellsSound name_order (told s.store)) (sym run) h
  ends_sound start (began party ∷ earlier) end run h = subst (λ (s : Served T). TellsSound name_order (told s.store)) (sym run.2) (ends_sound start earlier run.0 run.1 h)
  ends_sound start (answered party value answer ∷ earlier) end run h = taken_sound (protocol_step (request_of value) run.0.state) run.0 answer end run.2 (ends_sound start earlier run.0 run.1 h)

  -- text files that begin so tell all throughout
  pub files_sound : (start : Served T) (events : List Event) (end : Served T) (run : IsReplierRun ForgetsFiles RepliesFiles start events end) → TellsSound name_order (told start.store)
      → HoldsThroughout ForgetsFiles RepliesFiles (λ served. TellsAll name_order (told served.store)) start events end run
  files_sound start [] end run h = tells_all name_order (told end.store) (ends_sound start [] end run h)
  files_sound start (event ∷ earlier) end run h = (files_sound start earlier run.0 run.1 h, tells_all name_order (told end.store) (ends_sound start (event ∷ earlier) end run h))

-- ---- shelves

module _ {K : Type 0} (told : K → Option (Told (ℕ × List ℕ))) (faults : K → ℕ) where
  -- a reply is not lost
  not_lost : {T : Type 0} (said : T → ShelfReply) (r : Result T StoreError) (reply : ShelfReply) → reply_as said r ≡ Some reply → r ≢ Err WantOfMemory
  not_lost said r reply is lost = none-some reply (sym (ap (reply_as said) lost) ∙ is)

  served_sound : (user : ℕ) (call : Call) (k : K) (reply : ShelfReply) (m : K) → Serves told faults user call k reply m → TellsSound by_user_and_name (told k) → TellsSound by_user_and_name (told m)
  served_sound user (fetch name) k reply m served h =
      let p = some_and (told m) (IsRead by_user_and_name h.now (user, name) served.answer)
      (subst (λ (o : Option (Told (ℕ × List ℕ))). IfSome o (λ old. IsSomeAnd (told m) (IsRead by_user_and_name old (user, name) served.answer))) h.tells served.told_answer) in
      record { now = p.0; tells = p.1; sound = called_sound by_user_and_name h.now p.0 p.2.after h.sound }
  served_sound user (store name bytes) k reply m served h =
      let p = some_and (told m) (IsChange by_user_and_name h.now (user, name) (Some (Some bytes)) served.answer)
      (subst (λ (o : Option (Told (ℕ × List ℕ))). IfSome o (λ old. IsSomeAnd (told m) (IsChange by_user_and_name old (user, name) (Some (Some bytes)) served.answer))) h.tells served.told_answer) in
      record {
        now = p.0;
        tells = p.1;
        sound = changed_sound by_user_and_name h.now p.0 (user, name) (Some (Some bytes)) served.answer (λ e. cc e) (not_lost {T = Unit {0}} (λ _. stored) served.answer reply served.is_reply) p.2 h.sound;
      }
  served_sound user (discard name) k reply m served h =
      let there = subst (λ (o : Option (Told (ℕ × List ℕ))). IfSome o (λ old. IsSomeAnd (told m) (IsChange by_user_and_name old (user, name) None served.answer) × IfOk served.answer (MayRemove (entry_of by_user_and_name old (user, name))))) h.tells served.told_answer in
      let p = some_and (told m) (IsChange by_user_and_name h.now (user, name) None served.answer) there.0 in
      record {
        now = p.0;
        tells = p.1;
        sound = changed_sound by_user_and_name h.now p.0 (user, name) None served.answer (λ e. cc e) (not_lost discarded served.answer reply served.is_reply) p.2 h.sound;
      }
  served_sound user browse k reply m served h =
      let p = some_and (told m) (IsListing h.now user served.answer)
      (subst (λ (o : Option (Told (ℕ × List ℕ))). IfSome o (λ old. IsSomeAnd (told m) (IsListing old user served.answer))) h.tells served.told_answer.0) in
      record { now = p.0; tells = p.1; sound = called_sound by_user_and_name h.now p.0 p.2.after h.sound }

  shelf_sound : (user : ℕ) (start : K) (exchanges : List Exchange) (end : K) → IsShelfRun told faults user start exchanges end → TellsSound by_user_and_name (told start) → TellsSound by_user_and_name (told end)
  shelf_sound user start [] end run h = subst (λ (k : K). TellsSound by_user_and_name (told k)) (sym run) h
  shelf_sound user start (exchange ∷ earlier) end run h = served_sound user exchange.call run.0 exchange.reply end run.2 (shelf_sound user start earlier run.0 run.1 h)

  -- one that begins so tells all throughout
  pub throughout : (user : ℕ) (start : K) (exchanges : List Exchange) (end : K) (run : IsShelfRun told faults user start exchanges end) → TellsSound by_user_and_name (told start) → TellsThroughout told faults user start exchanges end run
  throughout user start [] end run h = tells_all by_user_and_name (told end) (shelf_sound user start [] end run h)
  throughout user start (exchange ∷ earlier) end run h = (throughout user start earlier run.0 run.1 h, tells_all by_user_and_name (told end) (shelf_sound user start (exchange ∷ earlier) end run h))

  -- shelves that begin so tell all throughout
  pub shelves_sound : (new : K) → TellsSound by_user_and_name (told new) → (dealings : Dealings) (users : List PlainUser) (shelves_then : List K) (served : ServeUsers told faults dealings users (map (λ (user : PlainUser). new) users) shelves_then)
      → AllTellThroughout told faults dealings users (map (λ (user : PlainUser). new) users) shelves_then served
  shelves_sound new h dealings [] shelves_then served = tt
  shelves_sound new h dealings (user ∷ users) [] served = absurd served
  shelves_sound new h dealings (user ∷ users) (shelf_then ∷ shelves_then) served = (throughout user.number new (dealings user.number) shelf_then served.0 h, shelves_sound new h dealings users shelves_then served.1)
