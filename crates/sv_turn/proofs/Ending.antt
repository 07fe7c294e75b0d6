-- A seat that has the whole weight is alone, so the slot is at home.
use Rattle.std.proofs.Common.{◌≡◌, ◌≢◌, ℕ, zero, suc, ◌<◌, ◌≤◌, List, All, sum_by, Option, Some, sym, ap, ◌∙◌, arith, subst}
use Rattle.std.proofs.lemmas.List.Elements.{All-cons, All-weaker}
use mathlib.Core.Option.{some, some-injective}
use mathlib.Core.Option as maybe
use lib.ListN.{get_elem?}
use Rattle.atomic_table.specs.Table.{State, Final, Seen}
use Rattle.sv_turn.specs.declared.view.SeatStage.{SeatStage}
use Rattle.sv_turn.specs.declared.view.SeatStage.TheVariants.{Away, Waits, Holds}
use Rattle.sv_turn.specs.declared.view.Account.{Account}
use Rattle.sv_turn.specs.declared.view.View.{View}
use Rattle.sv_turn.specs.Views.{weight_of, turns_of, tickets, turns, accounts_of}
use Rattle.sv_turn.specs.Order.{IsAccountOf, IsTold, InOrder}
use Rattle.sv_turn.proofs.Sums.{sum_apart, sum_found}

pub turns_below : (stage : SeatStage) → turns stage ≤ tickets stage
turns_below Away = omega arith
turns_below (Waits ticket) = omega arith
turns_below (Holds ticket) = omega arith

module _ {S E : Type 0} (entries : S → List E) (members_of : S → List ℕ) (party_of : E → ℕ) (parties : ℕ) (members : List ℕ) where
  abbrev St : Type 0
  St = State (Option S) (View E)

  abbrev Rule : St → Type 0
  Rule = InOrder entries members_of party_of parties members

  all_home : (s : St) (r : Rule s) (seat : ℕ) (v : View E) → get_elem? s.views seat ≡ some v → v.stage ≡ Away → v.weight ≡ parties
      → (n : ℕ) → sum_by turns_of s.views ≡ n → sum_by turns_of s.views ≡ 0
  all_home s r seat v at away whole zero e = e
  all_home s r seat v at away whole (suc n) e =
      let found = sum_found turns_of s.views (omega arith) in let u = found.1 in let fit = r.each found.0 u found.2 in
      let out : 0 < turns u.stage = found.3 in let below = turns_below u.stage in let seated = fit.seated in let heavy = fit.heavy (omega arith) in
      let apart : found.0 ≢ seat = λ is. let same : u ≡ v = some-injective u v (sym found.2 ∙ (ap (get_elem? s.views) is ∙ at)) in let none : turns u.stage ≡ 0 = ap (λ (x : View E). turns x.stage) same ∙ ap turns away in omega arith in
      let both = sum_apart weight_of s.views found.0 seat u v apart found.2 at in let all = r.weights in absurd (omega arith)

  pub ended : (seat : ℕ) (v : View E) (words : List ℕ) (slots : List (Option S)) → v.stage ≡ Away → v.weight ≡ parties → 0 < v.account.party → Final (Seen Rule seat v) words slots
      → (y : S) × (get_elem? slots 0 ≡ some (Some y)) × (members_of y ≡ members) × All (IsTold party_of (entries y)) (accounts_of v)
  ended seat v words slots away whole somebody final =
      let s = final.0 in let r = final.1.0 in let at = final.1.1 in let c = r.course in let fit = r.each seat v at in
      let home = r.home (all_home s r seat v at away whole (sum_by turns_of s.views) (λ _. sum_by turns_of s.views)) in let y = home.0 in
      let told : (a : Account E) → IsAccountOf party_of c seat a → IsTold party_of (entries y) a =
      λ a h. subst (λ (z : List E). IsTold party_of z a) (sym home.2) (h.places, h.known) in (
        y,
        final.4 0 (Some y) (ap (λ (hs : List (maybe.Option (Option S))). get_elem? hs 0) home.1),
        home.3,
        All-cons (IsTold party_of (entries y)) v.account v.kept (told v.account (fit.mine somebody))
            (All-weaker (λ a. IsAccountOf party_of c seat a × (a.party ≢ v.account.party)) (IsTold party_of (entries y)) (λ a h. told a h.0) v.kept fit.others),
      )
