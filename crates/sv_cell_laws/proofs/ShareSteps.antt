-- A share goes on as the story of its coupling does.
use Rattle.std.proofs.Common.{◌≡◌, refl, sym, ap, ◌∙◌, subst, ℕ, ◌≤◌, true, ltb, List, ◌∷◌, ◌++◌, length, Option, Some, None, ◌+◌, ◌⊎◌, inl, inr, arith}
use Rattle.std.specs.Option.{option_or}
use Rattle.std.proofs.lemmas.Bool.{lt-ltb}
use Rattle.std.proofs.lemmas.List.{append_assoc}
use Rattle.std.proofs.lemmas.Option.{none-some}
use Rattle.apl_arrays.specs.Array.{PlainArray}
use Rattle.sv_access.specs.declared.access.Side.{Side}
use Rattle.sv_access.specs.declared.access.Side.TheVariants.{A, B}
use Rattle.sv_access.specs.declared.access.Kind.{Kind}
use Rattle.sv_access.specs.declared.access.Kind.TheVariants as kind
use Rattle.sv_access.specs.State.{state_after}
use Rattle.sv_access.specs.Story.{Story}
use Rattle.sv_events.specs.Entry.{PlainEntry}
use Rattle.sv_kept.specs.Share.{PlainShare, IsShareOf, after_access, after_set, after_use, known_to, share_of, shared_value}
use Rattle.sv_rules.specs.Coupling.{coupling_now}
use Rattle.sv_rules.specs.Entries.{Entries}
use Rattle.sv_rules.specs.Legal.{IsLegal}
use Rattle.sv_rules.specs.Story.{GrantedAccess, access_on, known, known_after, story, story_part}
use Rattle.sv_rules.specs.declared.coupling.Coupling.{Coupling}
use Rattle.sv_story_laws.specs.StoryLaws.{state_at_coupling}
use Rattle.sv_story_laws.proofs.OpeningLemmas.{known_later, stories_begin_with_the_givers}
use Rattle.sv_cell_laws.specs.Fits.{FitsShare}
use Rattle.sv_cell_laws.specs.Steps.{with_access, with_entry}

-- a use gets the value that is shared
abbrev pub GetsShared : PlainShare → Option GrantedAccess → Type 0
GetsShared share access = (v : PlainArray) → access ≡ Some (record { kind = kind.Use; value = v }) → shared_value share ≡ Some v

-- the value that is shared after a use is the same
use_shares : (share : PlainShare) (side last : Side) (v : PlainArray) → share.last ≡ last → shared_value share ≡ Some v → shared_value (after_use share side v) ≡ Some v
use_shares share A A v is h = ap (known_to (after_use share A v)) is
use_shares share B B v is h = ap (known_to (after_use share B v)) is
use_shares share A B v is h = ap (known_to (after_use share A v)) is ∙ ap (known_to share) (sym is) ∙ h
use_shares share B A v is h = ap (known_to (after_use share B v)) is ∙ ap (known_to share) (sym is) ∙ h

set_shares : (share : PlainShare) (side : Side) (v : PlainArray) → shared_value (after_set share side v) ≡ Some v
set_shares share A v = refl
set_shares share B v = refl

-- an access goes into the story and into the share
pub share_goes_on : (told : Story PlainArray) (share : PlainShare) (side : Side) (access : Option GrantedAccess) → IsShareOf told share → GetsShared share access →
    IsShareOf (story_part side access ++ told) (with_access share side access)
share_goes_on told share side None is gets = is
share_goes_on told share side (Some access) is gets = by access.kind access.value (λ v h. gets v h)
  where
    by : (k : Kind) (v : PlainArray) → ((w : PlainArray) → (let got : GrantedAccess = record { kind = k; value = v } in Some got) ≡ Some (record { kind = kind.Use; value = w }) → shared_value share ≡ Some w) →
        IsShareOf (story_part side (let got : GrantedAccess = record { kind = k; value = v } in Some got) ++ told) (after_access share side k v)
    by kind.Set v use_gets = record { state = ap (λ s. state_after s side kind.Set) is.state; value = set_shares share side v }
    by kind.Use v use_gets =
        let found = use_gets v refl in
        record { state = ap (λ s. state_after s side kind.Use) is.state; value = use_shares share side share.last v refl found ∙ sym found ∙ is.value }

-- what the sides know after an access of a side
own_known : (share : PlainShare) (side : Side) (kind : Kind) (v : PlainArray) → known_to (after_access share side kind v) side ≡ Some v
own_known share A kind.Set v = refl
own_known share A kind.Use v = refl
own_known share B kind.Set v = refl
own_known share B kind.Use v = refl

own_known_with : (share : PlainShare) (side : Side) (access : Option GrantedAccess) → known_to (with_access share side access) side ≡ known_after access (known_to share side)
own_known_with share side None = refl
own_known_with share side (Some access) = own_known share side access.kind access.value

a_stays : (share : PlainShare) (kind : Kind) (v : PlainArray) → (after_access share B kind v).a ≡ share.a
a_stays share kind.Set v = refl
a_stays share kind.Use v = refl

b_stays : (share : PlainShare) (kind : Kind) (v : PlainArray) → (after_access share A kind v).b ≡ share.b
b_stays share kind.Set v = refl
b_stays share kind.Use v = refl

a_stays_with : (share : PlainShare) (access : Option GrantedAccess) → (with_access share B access).a ≡ share.a
a_stays_with share None = refl
a_stays_with share (Some access) = a_stays share access.kind access.value

b_stays_with : (share : PlainShare) (access : Option GrantedAccess) → (with_access share A access).b ≡ share.b
b_stays_with share None = refl
b_stays_with share (Some access) = b_stays share access.kind access.value

-- the story of a coupling that is older than the newest entry
story_later : (e : PlainEntry) (journal : Entries) (coupling : Coupling) → coupling.at ≤ length journal →
    story (e ∷ journal) coupling ≡ story_part A (access_on coupling.a e) ++ story_part B (access_on coupling.b e) ++ story journal coupling
story_later e journal coupling old = let later : ltb coupling.at (length journal + 1) ≡ true = lt-ltb _ _ (omega arith) in rw (later, story) refl

-- at most one side makes an access by an entry
abbrev pub OneAccess : Coupling → PlainEntry → Type 0
OneAccess coupling e = (access_on coupling.a e ≡ None) ⊎ (access_on coupling.b e ≡ None)

-- the share of an older coupling goes on with an entry
pub share_goes_on_by : (e : PlainEntry) (journal : Entries) (coupling : Coupling) (share : PlainShare) → coupling.at ≤ length journal →
    coupling.a.place ≤ length journal → coupling.b.place ≤ length journal → OneAccess coupling e → GetsShared share (access_on coupling.a e) → GetsShared share (access_on coupling.b e) →
    FitsShare journal coupling share → FitsShare (e ∷ journal) coupling (with_entry share coupling e)
share_goes_on_by e journal coupling share old a_old b_old one gets_a gets_b fits = record {
  a = own_known_with share' A of_a ∙ ap (known_after of_a) (a_stays_with share of_b ∙ fits.a) ∙ sym (known_later e journal coupling.a a_old);
  b = b_stays_with share' of_a ∙ own_known_with share B of_b ∙ ap (known_after of_b) fits.b ∙ sym (known_later e journal coupling.b b_old);
  told = subst (λ (s : Story PlainArray). IsShareOf s (with_entry share coupling e)) (sym (story_later e journal coupling old ∙ append_assoc (story_part A of_a) (story_part B of_b) (story journal coupling)))
      (share_goes_on (story_part B of_b ++ story journal coupling) share' A of_a (share_goes_on (story journal coupling) share B of_b fits.told gets_b) (gets one));
}
  where
    of_a : Option GrantedAccess
    of_a = access_on coupling.a e

    of_b : Option GrantedAccess
    of_b = access_on coupling.b e

    share' : PlainShare
    share' = with_access share B of_b

    gets : OneAccess coupling e → GetsShared share' of_a
    gets (inl none) v h = absurd (none-some _ (sym none ∙ h))
    gets (inr none) v h = ap (λ (o : Option GrantedAccess). shared_value (with_access share B o)) none ∙ gets_a v h

-- the share of two offers that couple is that of the coupling's story
pub new_share_fits : (users : List ℕ) (journal : Entries) → IsLegal users journal → (place : ℕ) (coupling : Coupling) → coupling_now journal place ≡ Some coupling →
    coupling.at ≡ length journal → FitsShare journal coupling (share_of (known journal coupling.a) (known journal coupling.b))
new_share_fits users journal legal place coupling now at =
    let begins = stories_begin_with_the_givers users journal legal place coupling now at in
    record {
      a = refl;
      b = refl;
      told = record {
        state = state_is (known journal coupling.a) (known journal coupling.b) ∙ sym begins.state;
        value = value_is (known journal coupling.a) (known journal coupling.b) ∙ sym begins.last;
      };
    }
  where
    state_is : (a b : Option PlainArray) → (share_of a b).state ≡ state_at_coupling a b
    state_is (Some v) b = refl
    state_is None (Some v) = refl
    state_is None None = refl

    value_is : (a b : Option PlainArray) → shared_value (share_of a b) ≡ option_or a b
    value_is (Some v) b = refl
    value_is None b = refl
