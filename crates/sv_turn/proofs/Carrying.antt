-- What the steps of one seat leave of another's facts, and the rule after a step that moves no slot.
use Rattle.std.proofs.Common.{◌≡◌, ◌≢◌, ℕ, ◌+◌, ◌%◌, ◌^◌, ◌<◌, ◌≤◌, ◌==◌, cond, true, List, [], ◌∷◌, set, All, sum_by, Option, Some, refl, sym, ap, ◌∙◌, subst, ⊎_elim, arith, eq-eqb, ne_eqb}
use Rattle.std.proofs.lemmas.List.Elements.{All-weaker}
use mathlib.Core.Option.{none, some}
use mathlib.Core.Option as maybe
use lib.ListN.{get_elem?}
use Rattle.atomic_table.specs.Table.{State}
use Rattle.atomic_table.proofs.Lists.{at_set}
use Rattle.sv_turn.specs.declared.view.SeatStage.{SeatStage}
use Rattle.sv_turn.specs.declared.view.SeatStage.TheVariants.{Away, Waits, Holds}
use Rattle.sv_turn.specs.declared.view.Account.{Account}
use Rattle.sv_turn.specs.declared.view.View.{View}
use Rattle.sv_turn.specs.Journals.{places_of, Begins}
use Rattle.sv_turn.specs.Views.{weight_of, tickets_of, turns_of, tickets, turns}
use Rattle.sv_turn.specs.Order.{TurnCourse, words_of, TicketFits, IsAccountOf, Fits, InOrder}
use Rattle.sv_turn.proofs.Sums.{sum_set, sum_at}
use Rattle.sv_turn.proofs.Places.{begins_then}

-- f, with x at k
abbrev pub put : (ℕ → ℕ) → ℕ → ℕ → ℕ → ℕ
put f k x q = cond (q == k) x (f q)

pub put_here : (f : ℕ → ℕ) (k x : ℕ) → put f k x k ≡ x
put_here f k x = ap (λ b. cond b x (f k)) (eq-eqb k k refl)

pub put_else : (f : ℕ → ℕ) (k x q : ℕ) → q ≢ k → put f k x q ≡ f q
put_else f k x q ne = ap (λ b. cond b x (f q)) (ne_eqb q k ne)

pub wrapped : (n : ℕ) → (n % 2 ^ 64 + 1) % 2 ^ 64 ≡ (n + 1) % 2 ^ 64
wrapped n = omega arith

module _ {E : Type 0} where
  pub ticket_fits_on : (c d : TurnCourse E) (seat : ℕ) (known : List E) (stage : SeatStage)
      → ((ticket : ℕ) → TicketFits c seat known (Waits ticket) → TicketFits d seat known (Waits ticket))
      → ((ticket : ℕ) → TicketFits c seat known (Holds ticket) → TicketFits d seat known (Holds ticket))
      → TicketFits c seat known stage → TicketFits d seat known stage
  ticket_fits_on c d seat known Away waits holds q = tt
  ticket_fits_on c d seat known (Waits ticket) waits holds q = waits ticket q
  ticket_fits_on c d seat known (Holds ticket) waits holds q = holds ticket q

  pub away_fits : (c : TurnCourse E) (seat : ℕ) (known : List E) (stage : SeatStage) → stage ≡ Away → TicketFits c seat known stage
  away_fits c seat known stage away = subst (TicketFits c seat known) (sym away) tt

module _ {E : Type 0} (party_of : E → ℕ) where
  pub stands_on : (c d : TurnCourse E) (from to : ℕ) (a : Account E) → c.top ≤ d.top → d.owner a.party ≡ to → places_of party_of a.party d.journal ≡ places_of party_of a.party c.journal → Begins c.journal d.journal
      → IsAccountOf party_of c from a → IsAccountOf party_of d to a
  stands_on c d from to a top owner places begins h = record {
    named = h.named;
    numbered = (let n = h.numbered in omega arith);
    owned = owner;
    places = h.places ∙ sym places;
    known = begins_then a.known c.journal d.journal h.known begins;
  }

  pub carry : (members : List ℕ) (c d : TurnCourse E) (seat : ℕ) (v : View E)
      → (v.maker ≡ true → seat ≡ c.maker → v.last ≡ c.top → (seat ≡ d.maker) × (v.last ≡ d.top))
      → ((a : Account E) → IsAccountOf party_of c seat a → IsAccountOf party_of d seat a)
      → (TicketFits c seat v.account.known v.stage → TicketFits d seat v.account.known v.stage)
      → Fits party_of members c seat v → Fits party_of members d seat v
  carry members c d seat v made stands ticketed fit = record {
    made = λ m. let h = fit.made m in made m h.0 h.1;
    members_kept = fit.members_kept;
    heavy = fit.heavy;
    seated = fit.seated;
    mine = λ p. stands v.account (fit.mine p);
    others = All-weaker (λ a. IsAccountOf party_of c seat a × (a.party ≢ v.account.party)) (λ a. IsAccountOf party_of d seat a × (a.party ≢ v.account.party)) (λ a h. (stands a h.0, h.1)) v.kept fit.others;
    ticketed = ticketed fit.ticketed;
  }

module _ {S E : Type 0} (entries : S → List E) (members_of : S → List ℕ) (party_of : E → ℕ) (parties : ℕ) (members : List ℕ) where
  abbrev St : Type 0
  St = State (Option S) (View E)

  abbrev Rule : St → Type 0
  Rule = InOrder entries members_of party_of parties members

  pub each_set : (K : ℕ → View E → Type 0) (views : List (View E)) (seat : ℕ) (w : View E) → K seat w → ((j : ℕ) (u : View E) → j ≢ seat → get_elem? views j ≡ some u → K j u)
      → (j : ℕ) (u : View E) → get_elem? (set views seat w) j ≡ some u → K j u
  each_set K views seat w mine others j u e = ⊎_elim (λ (t : (j ≡ seat) × (w ≡ u)). subst (λ (x : ℕ × View E). K x.0 x.1) (λ i. (sym t.0 i, t.1 i)) mine)
      (λ (t : (j ≢ seat) × (get_elem? views j ≡ some u)). others j u t.0 t.1) (at_set views seat j w u e)

  -- the rule after a step of one seat, whatever it did to the slot
  pub turned : (s : St) (r : Rule s) (seat : ℕ) (v w : View E) (d : TurnCourse E) (words : List ℕ) (homes : List (maybe.Option (Option S))) → get_elem? s.views seat ≡ some v
      → words ≡ words_of d → w.weight ≡ v.weight → tickets w.stage + d.served + r.course.taken ≡ tickets v.stage + r.course.served + d.taken
      → sum_by turns_of (set s.views seat w) ≤ 1
      → (sum_by turns_of (set s.views seat w) ≡ 0 → (y : S) × (homes ≡ some (Some y) ∷ []) × (entries y ≡ d.journal) × (members_of y ≡ members))
      → (0 < sum_by turns_of (set s.views seat w) → homes ≡ none ∷ [])
      → All (λ e. party_of e ≤ d.top) d.journal
      → Fits party_of members d seat w
      → ((j : ℕ) (u : View E) → j ≢ seat → Fits party_of members r.course j u → Fits party_of members d j u)
      → Rule record { words = words; homes = homes; views = set s.views seat w }
  turned s r seat v w d words homes at as_words weight ticket one home out low mine others = record {
    course = d;
    words = as_words;
    few = r.few;
    weights = (let h = sum_set weight_of s.views seat v w at in let k = r.weights in omega arith);
    waiting = (let h = sum_set tickets_of s.views seat v w at in let k = r.waiting in omega arith);
    one = one;
    home = home;
    out = out;
    low = low;
    each = each_set (Fits party_of members d) s.views seat w mine (λ j u ne e. others j u ne (r.each j u e));
  }

  -- the same where the slot stays
  pub moved : (s : St) (r : Rule s) (seat : ℕ) (v w : View E) (d : TurnCourse E) (words : List ℕ) → get_elem? s.views seat ≡ some v
      → words ≡ words_of d → w.weight ≡ v.weight → tickets w.stage + d.served + r.course.taken ≡ tickets v.stage + r.course.served + d.taken
      → turns w.stage ≡ turns v.stage → (turns v.stage ≡ 0 → d.journal ≡ r.course.journal)
      → All (λ e. party_of e ≤ d.top) d.journal
      → Fits party_of members d seat w
      → ((j : ℕ) (u : View E) → j ≢ seat → Fits party_of members r.course j u → Fits party_of members d j u)
      → Rule record { words = words; homes = s.homes; views = set s.views seat w }
  moved s r seat v w d words at as_words weight ticket turn journal low mine others =
      let h = sum_set turns_of s.views seat v w at in let same : sum_by turns_of (set s.views seat w) ≡ sum_by turns_of s.views = omega arith in
      let part : turns v.stage ≤ sum_by turns_of s.views = sum_at turns_of s.views seat v at in
      turned s r seat v w d words s.homes at as_words weight ticket (let k = r.one in omega arith)
      (λ none_out. let k = r.home (omega arith) in (k.0, k.1, k.2 ∙ sym (journal (omega arith)), k.3))
      (λ some_out. r.out (omega arith)) low mine others
