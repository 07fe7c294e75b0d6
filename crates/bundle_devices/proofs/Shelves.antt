-- A shelf that tells all that it keeps replies in one way.
use Rattle.std.proofs.Common.{◌≡◌, ◌≢◌, ℕ, Bool, true, false, List, [], ◌∷◌, ◌++◌, Option, Some, None, refl, sym, ap, subst, ◌∙◌}
use Rattle.std.specs.Prelude.{Result, Ok, Err, IfOk, IfSome, IsSome, IsSomeAnd, MatchOption}
use Rattle.std.specs.List.Sorted.{IsStrictlySortedBy}
use Rattle.std.proofs.lemmas.Option.{none-some, same_Some}
use Rattle.apl_arrays.specs.Name.{name_order}
use Rattle.apl_io.specs.Content.{FailsByNumber, IsChange, IsListing, IsRead, MayList, MayRead, MayRemove, Told, by_user_and_name, entry_of, has_name}
use Rattle.apl_io.specs.declared.store_error.StoreError.{StoreError}
use Rattle.apl_io.specs.declared.store_error.StoreError.TheVariants.{Failed, WantOfMemory}
use Rattle.session_rules.specs.Shelf.{Call, Exchange, IsShelfRun, ShelfReply, Serves, browse, browsed, discard, discarded, failed, fetch, fetched, reply_as, store, stored}
use Rattle.bundle_devices.specs.Telling.{TellsAll, TellsThroughout}
use Rattle.bundle_devices.proofs.Told.{EndAlike, TellAlike, alike_itself, called_alike, changed_alike, one_fails, one_list, one_read, one_removal, other_fails, some_and}

-- what may be listed of one may be listed of another that tells the same
listed_alike : (a b : Told (ℕ × List ℕ)) → TellAlike by_user_and_name a b → (user : ℕ) (names : List (List ℕ)) → MayList b user names → MayList a user names
listed_alike a b alike user names may name =
    subst (λ (entry : Option (Option (List ℕ))). MatchOption entry (has_name name names ≡ false) (λ bytes. IsSome bytes → has_name name names ≡ true)) (sym (alike.entries (user, name))) (may name)

-- two answers that are replies are one reply, and end alike, where their values are said alike
record ReplyAlike {T : Type 0} (r s : Result T StoreError) (p q : ShelfReply) : Type 0 where
  same : p ≡ q
  ends : EndAlike r s

reply_alike : {T : Type 0} (said : T → ShelfReply) (a b : Told (ℕ × List ℕ)) → TellAlike by_user_and_name a b → (r s : Result T StoreError) (p q : ShelfReply) → FailsByNumber a.calls a.fails r → FailsByNumber b.calls b.fails s
    → ((x y : T) → r ≡ Ok x → s ≡ Ok y → said x ≡ said y) → reply_as said r ≡ Some p → reply_as said s ≡ Some q → ReplyAlike r s p q
reply_alike said a b alike (Ok x) (Ok y) p q numbered also same is are = record { same = sym (same_Some (said x) p is) ∙ (same x y refl refl ∙ same_Some (said y) q are); ends = record { changes = λ wanted before. refl } }
reply_alike said a b alike (Ok x) (Err Failed) p q numbered also same is are = absurd (one_fails by_user_and_name a b alike x numbered also)
reply_alike said a b alike (Ok x) (Err WantOfMemory) p q numbered also same is are = absurd (none-some q are)
reply_alike said a b alike (Err Failed) (Ok y) p q numbered also same is are = absurd (other_fails by_user_and_name a b alike y numbered also)
reply_alike said a b alike (Err Failed) (Err Failed) p q numbered also same is are = record { same = sym (same_Some failed p is) ∙ same_Some failed q are; ends = record { changes = λ wanted before. refl } }
reply_alike said a b alike (Err Failed) (Err WantOfMemory) p q numbered also same is are = absurd (none-some q are)
reply_alike said a b alike (Err WantOfMemory) s p q numbered also same is are = absurd (none-some p is)

module _ {K : Type 0} (told : K → Option (Told (ℕ × List ℕ))) (faults : K → ℕ) where
  -- two shelves tell, and the one what the other does
  record StandAlike (k l : K) : Type 0 where
    one : Told (ℕ × List ℕ)
    other : Told (ℕ × List ℕ)
    tells : told k ≡ Some one
    also : told l ≡ Some other
    alike : TellAlike by_user_and_name one other

  -- they gave one reply, and still tell alike
  record ServeAlike (r s : ShelfReply) (k l : K) : Type 0 where
    same : r ≡ s
    stand : StandAlike k l

  -- one that tells all tells each entry
  each_told : (k l : K) (h : StandAlike k l) → TellsAll by_user_and_name (told k) → (key : ℕ × List ℕ) → entry_of by_user_and_name h.one key ≢ Some None
  each_told k l h all = subst (λ (o : Option (Told (ℕ × List ℕ))). TellsAll by_user_and_name o) h.tells all

  -- what a call tells of a shelf whose content is known
  tells_of : {T : Type 0} (P : Told (ℕ × List ℕ) → Result T StoreError → Told (ℕ × List ℕ) → Type 0) (before now : Option (Told (ℕ × List ℕ))) (old : Told (ℕ × List ℕ)) (answer : Result T StoreError) → before ≡ Some old
      → IfSome before (λ t. IsSomeAnd now (P t answer)) → (new : Told (ℕ × List ℕ)) × (now ≡ Some new) × P old answer new
  tells_of P before now old answer is h = some_and now (P old answer) (subst (λ (o : Option (Told (ℕ × List ℕ))). IfSome o (λ t. IsSomeAnd now (P t answer))) is h)

  fetch_alike : (user : ℕ) (name : List ℕ) (k l : K) (r s : ShelfReply) (m n : K) → StandAlike k l → TellsAll by_user_and_name (told k) → Serves told faults user (fetch name) k r m → Serves told faults user (fetch name) l s n → ServeAlike r s m n
  fetch_alike user name k l r s m n h all served also =
      let c = tells_of (λ old answer new. IsRead by_user_and_name old (user, name) answer new) (told k) (told m) h.one served.answer h.tells served.told_answer in
      let d = tells_of (λ old answer new. IsRead by_user_and_name old (user, name) answer new) (told l) (told n) h.other also.answer h.also also.told_answer in
      let same : (x y : Option (List ℕ)) → served.answer ≡ Ok x → also.answer ≡ Ok y → fetched x ≡ fetched y =
      λ x y is are. ap fetched (one_read (entry_of by_user_and_name h.one (user, name)) (each_told k l h all (user, name)) x y
      (subst (λ (a : Result (Option (List ℕ)) StoreError). IfOk a (MayRead (entry_of by_user_and_name h.one (user, name)))) is c.2.answered)
      (subst (λ (e : Option (Option (List ℕ))). MayRead e y) (sym (h.alike.entries (user, name)))
      (subst (λ (a : Result (Option (List ℕ)) StoreError). IfOk a (MayRead (entry_of by_user_and_name h.other (user, name)))) are d.2.answered))) in
      let one = reply_alike fetched h.one h.other h.alike served.answer also.answer r s c.2.numbered d.2.numbered same served.is_reply also.is_reply in
      record {
        same = one.same;
        stand = record { one = c.0; other = d.0; tells = c.1; also = d.1; alike = called_alike by_user_and_name h.one h.other h.alike c.0 d.0 c.2.after d.2.after };
      }

  browse_alike : (user : ℕ) (k l : K) (r s : ShelfReply) (m n : K) → StandAlike k l → TellsAll by_user_and_name (told k) → Serves told faults user browse k r m → Serves told faults user browse l s n → ServeAlike r s m n
  browse_alike user k l r s m n h all served also =
      let c = tells_of (λ old answer new. IsListing old user answer new) (told k) (told m) h.one served.answer h.tells served.told_answer.0 in
      let d = tells_of (λ old answer new. IsListing old user answer new) (told l) (told n) h.other also.answer h.also also.told_answer.0 in
      let same : (x y : List (List ℕ)) → served.answer ≡ Ok x → also.answer ≡ Ok y → browsed x ≡ browsed y =
      λ x y is are. ap browsed (one_list h.one user x y (each_told k l h all)
      (subst (λ (a : Result (List (List ℕ)) StoreError). IfOk a (MayList h.one user)) is c.2.answered)
      (listed_alike h.one h.other h.alike user y (subst (λ (a : Result (List (List ℕ)) StoreError). IfOk a (MayList h.other user)) are d.2.answered))
      (subst (λ (a : Result (List (List ℕ)) StoreError). IfOk a (λ names. IsStrictlySortedBy name_order names)) is served.told_answer.1)
      (subst (λ (a : Result (List (List ℕ)) StoreError). IfOk a (λ names. IsStrictlySortedBy name_order names)) are also.told_answer.1)) in
      let one = reply_alike browsed h.one h.other h.alike served.answer also.answer r s c.2.numbered d.2.numbered same served.is_reply also.is_reply in
      record {
        same = one.same;
        stand = record { one = c.0; other = d.0; tells = c.1; also = d.1; alike = called_alike by_user_and_name h.one h.other h.alike c.0 d.0 c.2.after d.2.after };
      }

  store_alike : (user : ℕ) (name bytes : List ℕ) (k l : K) (r s : ShelfReply) (m n : K) → StandAlike k l → Serves told faults user (store name bytes) k r m → Serves told faults user (store name bytes) l s n → ServeAlike r s m n
  store_alike user name bytes k l r s m n h served also =
      let c = tells_of (λ old answer new. IsChange by_user_and_name old (user, name) (Some (Some bytes)) answer new) (told k) (told m) h.one served.answer h.tells served.told_answer in
      let d = tells_of (λ old answer new. IsChange by_user_and_name old (user, name) (Some (Some bytes)) answer new) (told l) (told n) h.other also.answer h.also also.told_answer in
      let one = reply_alike {T = Unit {0}} (λ _. stored) h.one h.other h.alike served.answer also.answer r s c.2.numbered d.2.numbered (λ x y is are. refl) served.is_reply also.is_reply in
      record {
        same = one.same;
        stand = record {
          one = c.0;
          other = d.0;
          tells = c.1;
          also = d.1;
          alike = changed_alike by_user_and_name h.one h.other h.alike c.0 d.0 (user, name) (Some (Some bytes)) served.answer also.answer c.2 d.2 one.ends;
        };
      }

  discard_alike : (user : ℕ) (name : List ℕ) (k l : K) (r s : ShelfReply) (m n : K) → StandAlike k l → TellsAll by_user_and_name (told k) → Serves told faults user (discard name) k r m → Serves told faults user (discard name) l s n → ServeAlike r s m n
  discard_alike user name k l r s m n h all served also =
      let first = subst (λ (o : Option (Told (ℕ × List ℕ))). IfSome o (λ old. IsSomeAnd (told m) (IsChange by_user_and_name old (user, name) None served.answer) × IfOk served.answer (MayRemove (entry_of by_user_and_name old (user, name))))) h.tells served.told_answer in
      let then' = subst (λ (o : Option (Told (ℕ × List ℕ))). IfSome o (λ old. IsSomeAnd (told n) (IsChange by_user_and_name old (user, name) None also.answer) × IfOk also.answer (MayRemove (entry_of by_user_and_name old (user, name))))) h.also also.told_answer in
      let c = some_and (told m) (IsChange by_user_and_name h.one (user, name) None served.answer) first.0 in
      let d = some_and (told n) (IsChange by_user_and_name h.other (user, name) None also.answer) then'.0 in
      let same : (x y : Bool) → served.answer ≡ Ok x → also.answer ≡ Ok y → discarded x ≡ discarded y =
      λ x y is are. ap discarded (one_removal (entry_of by_user_and_name h.one (user, name)) (each_told k l h all (user, name)) x y
      (subst (λ (a : Result Bool StoreError). IfOk a (MayRemove (entry_of by_user_and_name h.one (user, name)))) is first.1)
      (subst (λ (e : Option (Option (List ℕ))). MayRemove e y) (sym (h.alike.entries (user, name)))
      (subst (λ (a : Result Bool StoreError). IfOk a (MayRemove (entry_of by_user_and_name h.other (user, name)))) are then'.1))) in
      let one = reply_alike discarded h.one h.other h.alike served.answer also.answer r s c.2.numbered d.2.numbered same served.is_reply also.is_reply in
      record {
        same = one.same;
        stand = record {
          one = c.0;
          other = d.0;
          tells = c.1;
          also = d.1;
          alike = changed_alike by_user_and_name h.one h.other h.alike c.0 d.0 (user, name) None served.answer also.answer c.2 d.2 one.ends;
        };
      }

  -- shelves that tell alike serve a call alike
  served_alike : (user : ℕ) (call : Call) (k l : K) (r s : ShelfReply) (m n : K) → StandAlike k l → TellsAll by_user_and_name (told k) → Serves told faults user call k r m → Serves told faults user call l s n → ServeAlike r s m n
  served_alike user (fetch name) k l r s m n h all served also = fetch_alike user name k l r s m n h all served also
  served_alike user (store name bytes) k l r s m n h all served also = store_alike user name bytes k l r s m n h served also
  served_alike user (discard name) k l r s m n h all served also = discard_alike user name k l r s m n h all served also
  served_alike user browse k l r s m n h all served also = browse_alike user k l r s m n h all served also

  -- where exchanges led to, all is told
  told_at_end : (user : ℕ) (start : K) (exchanges : List Exchange) (end : K) (run : IsShelfRun told faults user start exchanges end) → TellsThroughout told faults user start exchanges end run → TellsAll by_user_and_name (told end)
  told_at_end user start [] end run all = all
  told_at_end user start (exchange ∷ earlier) end run all = all.1

  -- the same exchanges lead shelves that tell the same to shelves that do
  runs_alike : (user : ℕ) (start begin : K) (exchanges : List Exchange) (end over : K) → told start ≡ told begin → (run : IsShelfRun told faults user start exchanges end) (ran : IsShelfRun told faults user begin exchanges over)
      → TellsThroughout told faults user start exchanges end run → StandAlike end over
  runs_alike user start begin [] end over same run ran all =
      let t = some_and (told end) (λ now. (key : ℕ × List ℕ) → entry_of by_user_and_name now key ≢ Some None) all in
      record {
        one = t.0;
        other = t.0;
        tells = t.1;
        also = ap told ran ∙ (sym same ∙ (sym (ap told run) ∙ t.1));
        alike = alike_itself by_user_and_name t.0;
      }
  runs_alike user start begin (exchange ∷ earlier) end over same run ran all =
      (served_alike user exchange.call run.0 ran.0 exchange.reply exchange.reply end over (runs_alike user start begin earlier run.0 ran.0 same run.1 ran.1 all.0) (told_at_end user start earlier run.0 run.1 all.0) run.2 ran.2).stand

  -- these exchanges of a user lead on from a shelf that tells what this one does, which tells all throughout
  pub record FitShelf (shelf : K) (user : ℕ) (exchanges : List Exchange) : Type 0 where
    pub start : K
    pub end : K
    pub same : told start ≡ told shelf
    pub run : IsShelfRun told faults user start exchanges end
    pub all : TellsThroughout told faults user start exchanges end run

  -- so do those before the last of them
  pub fit_earlier : (shelf : K) (user : ℕ) (more earlier : List Exchange) → FitShelf shelf user (more ++ earlier) → FitShelf shelf user earlier
  fit_earlier shelf user [] earlier h = h
  fit_earlier shelf user (exchange ∷ more) earlier h =
      fit_earlier shelf user more earlier (record { start = h.start; end = h.run.0; same = h.same; run = h.run.1; all = h.all.0 })

  -- behind the same exchanges a call has one reply
  pub fit_one : (shelf : K) (user : ℕ) (call : Call) (reply other : ShelfReply) (earlier : List Exchange) → FitShelf shelf user (record { call = call; reply = reply } ∷ earlier) → FitShelf shelf user (record { call = call; reply = other } ∷ earlier) → reply ≡ other
  fit_one shelf user call reply other earlier h k =
      (served_alike user call h.run.0 k.run.0 reply other h.end k.end (runs_alike user h.start k.start earlier h.run.0 k.run.0 (h.same ∙ sym k.same) h.run.1 k.run.1 h.all.0)
      (told_at_end user h.start earlier h.run.0 h.run.1 h.all.0) h.run.2 k.run.2).same
