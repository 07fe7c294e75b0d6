-- What a run gives back.
use Rattle.std.proofs.Common.{◌≡◌, ◌+◌, ◌++◌, ℕ, List, [], Option, drop, inl, length, map, refl, sym, ap, ◌∙◌, subst, subst₂, true, false}
use Rattle.std.proofs.lemmas.List.{length-append, length-map}
use Rattle.std.proofs.lemmas.List.Prefix.{front_rest}
use Rattle.apl_arrays.specs.Array.{PlainArray}
use Rattle.apl_io.specs.Content.{Told}
use Rattle.auxiliaries.specs.Protocol.{idle}
use Rattle.auxiliaries.specs.Run.{CameTo, RunsTo}
use Rattle.auxiliaries.specs.Served.{Replies, Served, StaysServed, forgotten}
use Rattle.party_turns.specs.GivenBack.{ComeBack, TextCame}
use Rattle.party_turns.specs.Serving.{CameBehind, ComesOn}
use Rattle.party_turns.specs.declared.auxiliary.Auxiliary.{Auxiliary}
use Rattle.party_turns.specs.declared.seat.UserSeat.{UserSeat}

-- ---- what answers behind an auxiliary

module _ {S : Type 0} (forgets : S → ℕ → S → Type 0) (replies : S → ℕ → PlainArray → PlainArray → S → Type 0) (wants : S → ℕ → PlainArray → S → Type 0) where
  still : (start : S) → RunsTo forgets replies start start
  still start = record { events = []; run = refl }

  -- it is where it was before anything happened to it
  pub stays_here : (start : S) → CameTo forgets replies wants start start
  stays_here start = record { last = start; runs = still start; ends = inl refl }

  -- so behind an auxiliary that has taken no turn
  pub newly_behind : (party : ℕ) (start : S) → CameBehind forgets replies wants start (record { party = party; replier = start; is_lost = false })
  newly_behind party start = record { came = stays_here start; ran = λ here. still start }

  -- an auxiliary that changes in nothing, or gives up, leaves it where it is
  pub same_comes : (before after : Auxiliary S) → after ≡ before → ComesOn forgets replies wants before after
  same_comes before after same start came = subst (λ (a : Auxiliary S). CameBehind forgets replies wants start a) (sym same) came

  pub gives_up_comes : (before after : Auxiliary S) → after ≡ record before { is_lost = true } → ComesOn forgets replies wants before after
  gives_up_comes before after is start came =
      subst (λ (a : Auxiliary S). CameBehind forgets replies wants start a) (sym is) (record { came = came.came; ran = λ here. absurd cc })

-- ---- the text store

-- the store of a replier of text files came to where it is
pub text_came : {T : Type 0} (told : T → Option (Told (List ℕ))) (faults : T → ℕ) (text text_then : T) (twenty twenty_then : Served T) → (twenty ≡ (let s : Served T = record { store = text; state = idle } in s)) → text_then ≡ twenty_then.store
    → CameTo {S = Served T} (λ old party new. new ≡ forgotten old) (λ old party value answer new. Replies told faults old value answer new) (λ old party value new. StaysServed told faults old new) twenty twenty_then
    → TextCame told faults text text_then
text_came {T = T} told faults text text_then twenty twenty_then begins ends came = record {
  state = twenty_then.state;
  came = subst₂ (λ (before : Served T) (store : T).
      CameTo {S = Served T} (λ old party new. new ≡ forgotten old) (λ old party value answer new. Replies told faults old value answer new) (λ old party value new. StaysServed told faults old new)
      before (record { store = store; state = twenty_then.state })) begins (sym ends) came;
}

-- ---- shelves

-- what stands behind the users' shelves
behind_users : {K : Type 0} (users : ℕ) (front left : List K) → length front ≡ users → drop users (front ++ left) ≡ left
behind_users users front left many = ap (λ (n : ℕ). drop n (front ++ left)) (sym many) ∙ front_rest (front ++ left) front left refl

-- shelves that were not taken come back
pub stay_back : {K : Type 0} (users : ℕ) (given : List K) → ComeBack users given given
stay_back users given = record { many = refl; others = refl }

-- the shelves of users who sat with some shelves, and of as many who sit now
pub shelves_back : {K : Type 0} (users : ℕ) (sat sit : List (UserSeat K)) (left given back : List K) → length sat ≡ users → length sit ≡ users
    → map (λ seat. seat.session.shelf) sat ++ left ≡ given → back ≡ map (λ seat. seat.session.shelf) sit ++ left → ComeBack users given back
shelves_back {K = K} users sat sit left given back many_sat many_sit begins ends =
    let shelf : UserSeat K → K = λ (seat : UserSeat K). seat.session.shelf in
    let first : length (map shelf sat) ≡ users = length-map sat shelf ∙ many_sat in
    let last : length (map shelf sit) ≡ users = length-map sit shelf ∙ many_sit in
    subst₂ (λ (list list_then : List K). ComeBack users list list_then) begins (sym ends)
    (record {
      many = length-append (map shelf sit) left ∙ (ap (λ (n : ℕ). n + length left) (last ∙ sym first) ∙ sym (length-append (map shelf sat) left));
      others = behind_users users (map shelf sit) left last ∙ sym (behind_users users (map shelf sat) left first);
    })
