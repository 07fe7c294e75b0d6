-- The turn of an auxiliary among all parties.
use Rattle.std.proofs.Common.{◌≡◌, ℕ, Bool, true, false, List, Option, IsTrue, sym, ap, subst}
use Rattle.apl_arrays.specs.Array.{PlainArray}
use Rattle.apl_io.specs.Content.{Told}
use Rattle.session_rules.specs.Auxiliaries.{some_stay}
use Rattle.session_rules.specs.Behind.{Behind, forgets_of, replies_of}
use Rattle.sv_core.specs.Core.{PlainCore}
use Rattle.aux_parties.specs.Auxiliaries.{is_auxiliary, party_of}
use Rattle.aux_parties.specs.declared.auxiliary.AuxiliaryKind.{AuxiliaryKind}
use Rattle.party_turns.specs.SoFar.{GrowsBy, HasAnswered, IsIdleIf, IsServed}
use Rattle.aplsv_replay.specs.Together.{AreOfSomeBundle, LeavesLess, TookAuxiliaryTurn, auxiliary_of}
use Rattle.party_turns.specs.declared.auxiliary.Auxiliary.{Auxiliary}
use Rattle.aplsv_replay.specs.declared.parties.Parties.{Parties}
use Rattle.aplsv_replay.proofs.AllTogether.{is_auxiliary_of, same_work, still_stay}
use Rattle.aplsv_replay.proofs.AuxiliaryTurns.{auxiliary_leaves_less, lost_still, takes_auxiliary}
use Rattle.aplsv_replay.proofs.KindLemmas.{is_changed, with_auxiliary}

module _ {X Y K : Type 0} (forgets_ten : X → ℕ → X → Type 0) (replies_ten : X → ℕ → PlainArray → PlainArray → X → Type 0)
    (forgets_twenty : Y → ℕ → Y → Type 0) (replies_twenty : Y → ℕ → PlainArray → PlainArray → Y → Type 0)
    (told : K → Option (Told (ℕ × List ℕ))) (faults : K → ℕ) (p : Parties X Y K) (some : AreOfSomeBundle forgets_ten replies_ten forgets_twenty replies_twenty told faults p) (stay : IsTrue (some_stay p.core.users p.core.journal)) where
  -- what an auxiliary's turn is to it is what it is to all
  pub auxiliary_took_turn : (kind : AuxiliaryKind) (after : PlainCore) (aux : Auxiliary (Behind X Y kind)) → aux.party ≡ (auxiliary_of p kind).party → GrowsBy (auxiliary_of p kind).party p.core after
      → (aux.is_lost ≡ false → (start : Behind X Y kind) → HasAnswered (forgets_of forgets_ten forgets_twenty kind) (replies_of replies_ten replies_twenty kind) start p.core.journal (auxiliary_of p kind)
      → HasAnswered (forgets_of forgets_ten forgets_twenty kind) (replies_of replies_ten replies_twenty kind) start after.journal aux)
      → (aux.is_lost ≡ false → IsServed (auxiliary_of p kind).party p.core.journal after.journal) → (aux.is_lost ≡ false → IsIdleIf (auxiliary_of p kind).party p.core.journal after.journal)
      → ((auxiliary_of p kind).is_lost ≡ true → (aux ≡ auxiliary_of p kind) × (after ≡ p.core))
      → TookAuxiliaryTurn forgets_ten replies_ten forgets_twenty replies_twenty told faults kind p (with_auxiliary p after kind aux)
  auxiliary_took_turn kind after aux party grows answered turn idle lost = record {
    turn = takes_auxiliary forgets_ten replies_ten forgets_twenty replies_twenty told faults p after stay kind aux party grows answered lost turn;
    stay = still_stay forgets_ten replies_ten forgets_twenty replies_twenty told faults some.bundle some.ten some.twenty some.shelves p some.sittings some.together (auxiliary_of p kind).party is_one after grows stay;
    lost = lost_still p after kind aux lost;
    less = subst (λ (gone : Bool). LeavesLess (party_of kind) gone p (with_auxiliary p after kind aux)) (sym (ap (λ (a : Auxiliary (Behind X Y kind)). a.is_lost) (is_changed p after kind aux)))
        (auxiliary_leaves_less p after kind aux (some.together.at_work kind).number grows
        (same_work forgets_ten replies_ten forgets_twenty replies_twenty told faults some.bundle some.ten some.twenty some.shelves p some.sittings some.together (auxiliary_of p kind).party is_one after grows) turn idle);
  }
    where
      is_one : IsTrue (is_auxiliary (auxiliary_of p kind).party)
      is_one = is_auxiliary_of forgets_ten replies_ten forgets_twenty replies_twenty told faults some.bundle some.ten some.twenty some.shelves p some.sittings some.together kind
