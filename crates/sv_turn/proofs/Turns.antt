-- Tickets, looks, entries and releases keep the rule.
use Rattle.std.proofs.Common.{◌≡◌, ◌≢◌, ℕ, zero, suc, ◌+◌, ◌%◌, ◌^◌, ◌<◌, ◌≤◌, List, [], ◌∷◌, ◌++◌, length, set, slice_index, All, sum_by, Option, Some, None, refl, sym, ap, ◌∙◌, subst, arith}
use Rattle.std.proofs.lemmas.List.Elements.{All-cons, All-weaker}
use mathlib.Core.Logic.{dite}
use mathlib.Core.Option.{none, some, some-injective}
use mathlib.Core.Option as maybe
use native.Mathlib.Decide.{ℕ_discrete}
use lib.ListN.{get_elem?}
use Rattle.atomic_table.specs.Table.{State, Me, step, Act, keeps, takes, gives, put_back, Valid, stepped, carried_after, Allows}
use Rattle.atomic_table.proofs.Lists.{one_turn}
use Rattle.sv_turn.specs.declared.view.SeatStage.{SeatStage}
use Rattle.sv_turn.specs.declared.view.SeatStage.TheVariants.{Away, Waits, Holds}
use Rattle.sv_turn.specs.declared.view.Account.{Account}
use Rattle.sv_turn.specs.declared.view.View.{View}
use Rattle.sv_turn.specs.Journals.{places_of, Begins, AddsOne}
use Rattle.sv_turn.specs.Views.{weight_of, tickets_of, turns_of, tickets, turns, ticket_of, at_stage, holder_of, counted_view}
use Rattle.sv_turn.specs.Order.{TurnCourse, TicketFits, IsAccountOf, Fits, InOrder}
use Rattle.sv_turn.specs.Plays.{Draws, Looks, Counts, Releases, ticket_word}
use Rattle.sv_turn.proofs.Sums.{sum_set, sum_at, sum_found, sum_less}
use Rattle.sv_turn.proofs.Places.{begins_self, other_places, own_places}
use Rattle.sv_turn.proofs.Carrying.{put, put_here, put_else, wrapped, ticket_fits_on, stands_on, carry, turned, moved}

-- the seat that has its turn holds some ticket
held : (stage : SeatStage) → 0 < turns stage → (ticket : ℕ) × (stage ≡ Holds ticket)
held Away h = absurd (omega arith)
held (Waits ticket) h = absurd (omega arith)
held (Holds ticket) h = (ticket, refl)

module _ {S : Type 0} where
  abbrev some_or : S → Option S → S
  some_or d None = d
  some_or d (Some y) = y

  abbrev state_or : S → List (ℕ × Option S) → S
  state_or d [] = d
  state_or d (x ∷ xs) = some_or d x.1

  same_state : (cs : List (ℕ × Option S)) (y z : S) → cs ≡ (0, Some y) ∷ [] → cs ≡ (0, Some z) ∷ [] → y ≡ z
  same_state cs y z a b = ap (state_or y) (sym a ∙ b)

module _ {S E : Type 0} (entries : S → List E) (members_of : S → List ℕ) (party_of : E → ℕ) (parties : ℕ) (members : List ℕ) where
  abbrev St : Type 0
  St = State (Option S) (View E)

  abbrev Rule : St → Type 0
  Rule = InOrder entries members_of party_of parties members

  -- a ticket below those taken is less than a whole round above those served
  near : (s : St) (r : Rule s) (ticket : ℕ) → ticket < r.course.taken → ticket < r.course.served + 2 ^ 64
  near s r ticket low =
      let below = sum_less tickets_of weight_of s.views (λ j u e. let fit = r.each j u e in light u.stage u.account.party u.weight fit.seated fit.heavy) in
      let waiting = r.waiting in let weights = r.weights in let few = r.few in omega arith
    where
      light : (stage : SeatStage) (party weight : ℕ) → tickets stage ≤ party → (0 < party → 0 < weight) → tickets stage ≤ weight
      light Away party weight seated heavy = omega arith
      light (Waits ticket) party weight seated heavy = let h = heavy (omega arith) in omega arith
      light (Holds ticket) party weight seated heavy = let h = heavy (omega arith) in omega arith

  pub draws : (slots seat : ℕ) (me : Me (Option S) (View E)) → me.0.stage ≡ Away → 0 < me.0.account.party
      → Allows Rule slots seat me 0 (λ n. (n + 1) % 2 ^ 64) (Draws (step slots 0 1 0 none) me)
  draws slots seat me away somebody s r deep at small =
      let c = r.course in let v = me.0 in let fit = r.each seat v at in let d : TurnCourse E = record c { taken = c.taken + 1; holder = put c.holder c.taken seat } in
      let served : c.served ≤ c.taken = (let h = r.waiting in omega arith) in
      let keep : (j : ℕ) (a : Account E) → IsAccountOf party_of c j a → IsAccountOf party_of d j a = λ j a h. stands_on party_of c d j j a (omega arith) h.owned refl (begins_self c.journal) h in
      let mine : Fits party_of members d seat (at_stage (Waits c.taken) v) = record {
        made = fit.made;
        members_kept = fit.members_kept;
        heavy = fit.heavy;
        seated = omega arith;
        mine = λ p. keep seat v.account (fit.mine p);
        others = All-weaker (λ a. IsAccountOf party_of c seat a × (a.party ≢ v.account.party)) (λ a. IsAccountOf party_of d seat a × (a.party ≢ v.account.party)) (λ a h. (keep seat a h.0, h.1)) v.kept fit.others;
        ticketed = (served, omega arith, put_here c.holder c.taken seat);
      } in (
        at_stage (Waits c.taken) v,
        keeps,
        tt,
        moved entries members_of party_of parties members s r seat v (at_stage (Waits c.taken) v) d (set s.words 0 ((slice_index s.words 0 + 1) % 2 ^ 64)) at
            (ap (λ (ws : List ℕ). set ws 0 ((slice_index ws 0 + 1) % 2 ^ 64)) r.words ∙ ap (λ (k : ℕ). k ∷ (c.served % 2 ^ 64) ∷ (length c.journal % 2 ^ 64) ∷ c.top ∷ []) (wrapped c.taken))
            refl (let t : tickets v.stage ≡ 0 = ap tickets away in omega arith) (sym (ap turns away)) (λ _. refl) r.low mine
            (λ j u ne old. carry party_of members c d j u (λ _ h k. (h, k)) (keep j) (ticket_fits_on c d j u.account.known u.stage
            (λ t q. (q.0, (let l = q.1 in omega arith), put_else c.holder c.taken seat t (λ e. let l = q.1 in omega arith) ∙ q.2))
            (λ t q. (q.0, (let l = q.1 in omega arith), put_else c.holder c.taken seat t (λ e. let l = q.1 in omega arith) ∙ q.2, q.3))) old),
        (c.taken, refl, ap (λ (ws : List ℕ). slice_index ws 0) r.words),
      )

  -- where the seat waits and its ticket is served next, nobody has the slot out
  nobody_in : (s : St) (r : Rule s) (seat : ℕ) (v : View E) (ticket : ℕ) → get_elem? s.views seat ≡ some v → v.stage ≡ Waits ticket → r.course.holder ticket ≡ seat → r.course.served ≡ ticket
      → (n : ℕ) → sum_by turns_of s.views ≡ n → sum_by turns_of s.views ≡ 0
  nobody_in s r seat v ticket at waits mine next zero e = e
  nobody_in s r seat v ticket at waits mine next (suc n) e =
      let c = r.course in let found = sum_found turns_of s.views (omega arith) in let j : ℕ = found.0 in let u = found.1 in let fit = r.each j u found.2 in
      let h = held u.stage found.3 in let q : TicketFits c j u.account.known (Holds h.0) = subst (TicketFits c j u.account.known) h.1 fit.ticketed in
      let here : j ≡ seat = sym q.2 ∙ (ap c.holder (q.0 ∙ next) ∙ mine) in
      let same : u ≡ v = some-injective u v (sym found.2 ∙ (ap (get_elem? s.views) here ∙ at)) in
      let out : 0 < turns u.stage = found.3 in let none_out : turns u.stage ≡ 0 = ap (λ (x : View E). turns x.stage) same ∙ ap turns waits in absurd (omega arith)

  -- what a look owes
  abbrev Looked : ℕ → ℕ → Me (Option S) (View E) → St → Type 0
  Looked slots seat me s = (w : View E) × (a : Act (Option S)) × Valid s.homes me.1 a × Rule (stepped s 1 (slice_index s.words 1) seat me.1 w a)
      × Looks entries members_of party_of (step slots 1 0 0 none) me (slice_index s.words 1) (w, carried_after me.1 a)

  comes : (slots seat ticket : ℕ) (me : Me (Option S) (View E)) (s : St) (r : Rule s) → me.0.stage ≡ Waits ticket → get_elem? s.views seat ≡ some me.0 → slice_index s.words 1 ≡ ticket_word me.0.stage → Looked slots seat me s
  comes slots seat ticket me s r waits at is =
      let c = r.course in let v = me.0 in let fit = r.each seat v at in
      let q : TicketFits c seat v.account.known (Waits ticket) = subst (TicketFits c seat v.account.known) waits fit.ticketed in
      let word : c.served % 2 ^ 64 ≡ ticket % 2 ^ 64 = sym (ap (λ (ws : List ℕ). slice_index ws 1) r.words) ∙ (is ∙ ap ticket_word waits) in
      let next : c.served ≡ ticket = one_turn c.served ticket (2 ^ 64) q.0 (near s r ticket q.1) word in
      let empty = nobody_in s r seat v ticket at waits q.2 next (sum_by turns_of s.views) refl in
      let home = r.home empty in let y = home.0 in let w : View E = holder_of (ticket_of v.stage) (entries y) v in
      let named : ticket_of v.stage ≡ ticket = ap ticket_of waits in
      let has : tickets v.stage ≡ 1 = ap tickets waits in let outside : turns v.stage ≡ 0 = ap turns waits in
      let somebody : 0 < v.account.party = (let h = fit.seated in omega arith) in let mine = fit.mine somebody in
      let h = sum_set turns_of s.views seat v w at in let one_out : sum_by turns_of (set s.views seat w) ≡ 1 = omega arith in
      let fits : Fits party_of members c seat w = record {
        made = fit.made;
        members_kept = fit.members_kept;
        heavy = fit.heavy;
        seated = omega arith;
        mine = λ p. record { named = p; numbered = mine.numbered; owned = mine.owned; places = mine.places; known = ([], sym home.2) };
        others = fit.others;
        ticketed = (named ∙ sym next, (let l = q.1 in omega arith), ap c.holder named ∙ q.2, home.2);
      } in (
        w,
        takes 0 (Some y),
        ap (λ (hs : List (maybe.Option (Option S))). get_elem? hs 0) home.1,
        turned entries members_of party_of parties members s r seat v w c (set s.words 1 (slice_index s.words 1)) (set s.homes 0 none) at
            (ap (λ (ws : List ℕ). set ws 1 (slice_index ws 1)) r.words) refl (omega arith) (omega arith) (λ none_out. absurd (omega arith))
            (λ _. ap (λ (hs : List (maybe.Option (Option S))). set hs 0 none) home.1) r.low fits (λ j u ne old. old),
        (
          λ _. (
            y,
            refl,
            record {
              begins = (mine.known.0, home.2 ∙ mine.known.1);
              places = mine.places ∙ ap (places_of party_of v.account.party) (sym home.2);
              members = home.3 ∙ sym (fit.members_kept (fit.heavy somebody));
            },
          ),
          λ ne. absurd (ne is),
        ),
      )

  waits_on : (slots seat : ℕ) (me : Me (Option S) (View E)) (s : St) (r : Rule s) → get_elem? s.views seat ≡ some me.0 → slice_index s.words 1 ≢ ticket_word me.0.stage → Looked slots seat me s
  waits_on slots seat me s r at ne = (
    me.0,
    keeps,
    tt,
    moved entries members_of party_of parties members s r seat me.0 me.0 r.course (set s.words 1 (slice_index s.words 1)) at (ap (λ (ws : List ℕ). set ws 1 (slice_index ws 1)) r.words)
        refl refl refl (λ _. refl) r.low (r.each seat me.0 at) (λ j u _ old. old),
    ((λ is. absurd (ne is)), λ _. refl),
  )

  pub looks : (slots seat ticket : ℕ) (me : Me (Option S) (View E)) → me.0.stage ≡ Waits ticket
      → Allows Rule slots seat me 1 (λ n. n) (Looks entries members_of party_of (step slots 1 0 0 none) me)
  looks slots seat ticket me waits s r deep at small = dite (ℕ_discrete (slice_index s.words 1) (ticket_word me.0.stage)) (comes slots seat ticket me s r waits at) (waits_on slots seat me s r at)

  pub counts : (slots seat ticket : ℕ) (me : Me (Option S) (View E)) (y : S) → me.0.stage ≡ Holds ticket → me.1 ≡ (0, Some y) ∷ [] → AddsOne party_of me.0.account.party me.0.account.known (entries y)
      → Allows Rule slots seat me 2 (λ n. (n + 1) % 2 ^ 64) (Counts entries (step slots 2 1 0 none) me)
  counts slots seat ticket me y holds has adds s r deep at small =
      let c = r.course in let v = me.0 in let fit = r.each seat v at in let p : ℕ = v.account.party in let e = adds.0 in
      let q : TicketFits c seat v.account.known (Holds ticket) = subst (TicketFits c seat v.account.known) holds fit.ticketed in
      let ticketed : tickets v.stage ≡ 1 = ap tickets holds in let out : turns v.stage ≡ 1 = ap turns holds in
      let somebody : 0 < p = (let h = fit.seated in omega arith) in let mine = fit.mine somebody in
      let is : entries y ≡ e ∷ c.journal = adds.1 ∙ ap (λ (z : List E). e ∷ z) q.3 in
      let d : TurnCourse E = record c { journal = entries y } in let w : View E = counted_view (length (entries y)) (entries y) v in
      let long : length (entries y) ≡ length c.journal + 1 = (let l = ap length is in omega arith) in
      let grown : Begins c.journal (entries y) = (e ∷ [], is) in
      let elsewhere : (party : ℕ) → party ≢ p → places_of party_of party (entries y) ≡ places_of party_of party c.journal =
      λ party ne. ap (places_of party_of party) is ∙ other_places party_of party e c.journal (λ h. ne (sym h ∙ adds.2)) in
      let keep : (j : ℕ) (a : Account E) → a.party ≢ p → IsAccountOf party_of c j a → IsAccountOf party_of d j a = λ j a ne h. stands_on party_of c d j j a (omega arith) h.owned (elsewhere a.party ne) grown h in
      let places : v.account.places ++ length (entries y) ∷ [] ≡ places_of party_of p (entries y) =
      ap (λ (xs : List ℕ). xs ++ length (entries y) ∷ []) mine.places ∙ (ap (λ (k : ℕ). places_of party_of p c.journal ++ k ∷ []) long
      ∙ (sym (own_places party_of p e c.journal adds.2) ∙ ap (places_of party_of p) (sym is))) in
      let fits : Fits party_of members d seat w = record {
        made = fit.made;
        members_kept = fit.members_kept;
        heavy = fit.heavy;
        seated = fit.seated;
        mine = λ h. record { named = h; numbered = mine.numbered; owned = mine.owned; places = places; known = begins_self (entries y) };
        others = All-weaker (λ a. IsAccountOf party_of c seat a × (a.party ≢ p)) (λ a. IsAccountOf party_of d seat a × (a.party ≢ p)) (λ a h. (keep seat a h.1 h.0, h.1)) v.kept fit.others;
        ticketed = subst (TicketFits d seat (entries y)) (sym holds) (q.0, q.1, q.2, refl);
      } in
      let numbered : party_of e ≤ c.top = (let a = adds.2 in let b = mine.numbered in omega arith) in (
        w,
        keeps,
        tt,
        moved entries members_of party_of parties members s r seat v w d (set s.words 2 ((slice_index s.words 2 + 1) % 2 ^ 64)) at
            (ap (λ (ws : List ℕ). set ws 2 ((slice_index ws 2 + 1) % 2 ^ 64)) r.words
            ∙ ap (λ (k : ℕ). (c.taken % 2 ^ 64) ∷ (c.served % 2 ^ 64) ∷ k ∷ c.top ∷ []) (wrapped (length c.journal) ∙ ap (λ (k : ℕ). k % 2 ^ 64) (sym long)))
            refl refl refl (λ none_out. absurd (omega arith)) (subst (All (λ x. party_of x ≤ c.top)) (sym is) (All-cons (λ x. party_of x ≤ c.top) e c.journal numbered r.low)) fits
            (λ j u ne old. carry party_of members c d j u (λ _ h k. (h, k)) (λ a h. keep j a (λ same. ne (sym h.owned ∙ (ap c.owner same ∙ mine.owned))) h)
            (ticket_fits_on c d j u.account.known u.stage (λ t w. w) (λ t w. absurd (ne (sym w.2 ∙ (ap c.holder (w.0 ∙ sym q.0) ∙ q.2))))) old),
        λ z has'. ap (λ (x : S). (counted_view (length (entries x)) (entries x) v, me.1)) (same_state me.1 y z has has'),
      )

  pub releases : (slots seat ticket : ℕ) (me : Me (Option S) (View E)) (y : S) → me.0.stage ≡ Holds ticket → me.1 ≡ (0, Some y) ∷ [] → entries y ≡ me.0.account.known → members_of y ≡ me.0.members
      → Allows Rule slots seat me 1 (λ n. (n + 1) % 2 ^ 64) (Releases (step slots 1 1 0 none) me)
  releases slots seat ticket me y holds has whole same_members s r deep at small =
      let c = r.course in let v = me.0 in let fit = r.each seat v at in
      let q : TicketFits c seat v.account.known (Holds ticket) = subst (TicketFits c seat v.account.known) holds fit.ticketed in
      let ticketed : tickets v.stage ≡ 1 = ap tickets holds in let out : turns v.stage ≡ 1 = ap turns holds in
      let somebody : 0 < v.account.party = (let h = fit.seated in omega arith) in
      let d : TurnCourse E = record c { served = c.served + 1 } in let w : View E = at_stage Away v in
      let part = sum_at turns_of s.views seat v at in let away = r.out (omega arith) in
      let h = sum_set turns_of s.views seat v w at in let none_out : sum_by turns_of (set s.views seat w) ≡ 0 = (let k = r.one in omega arith) in
      let homes : put_back s.homes me.1 ≡ some (Some y) ∷ [] = ap (λ (hs : List (maybe.Option (Option S))). put_back hs me.1) away ∙ ap (put_back (none ∷ [])) has in
      let keep : (j : ℕ) (a : Account E) → IsAccountOf party_of c j a → IsAccountOf party_of d j a = λ j a x. stands_on party_of c d j j a (omega arith) x.owned refl (begins_self c.journal) x in
      let fits : Fits party_of members d seat w = record {
        made = fit.made;
        members_kept = fit.members_kept;
        heavy = fit.heavy;
        seated = omega arith;
        mine = λ p. keep seat v.account (fit.mine p);
        others = All-weaker (λ a. IsAccountOf party_of c seat a × (a.party ≢ v.account.party)) (λ a. IsAccountOf party_of d seat a × (a.party ≢ v.account.party)) (λ a x. (keep seat a x.0, x.1)) v.kept fit.others;
        ticketed = tt;
      } in
      let others_wait : (j t : ℕ) → j ≢ seat → c.holder t ≡ j → t ≢ c.served = λ j t ne its is. ne (sym its ∙ (ap c.holder (is ∙ sym q.0) ∙ q.2)) in (
        w,
        gives,
        tt,
        turned entries members_of party_of parties members s r seat v w d (set s.words 1 ((slice_index s.words 1 + 1) % 2 ^ 64)) (put_back s.homes me.1) at
            (ap (λ (ws : List ℕ). set ws 1 ((slice_index ws 1 + 1) % 2 ^ 64)) r.words ∙ ap (λ (k : ℕ). (c.taken % 2 ^ 64) ∷ k ∷ (length c.journal % 2 ^ 64) ∷ c.top ∷ []) (wrapped c.served))
            refl (omega arith) (omega arith) (λ _. (y, homes, whole ∙ q.3, same_members ∙ fit.members_kept (fit.heavy somebody))) (λ x. absurd (omega arith)) r.low fits
            (λ j u ne old. carry party_of members c d j u (λ _ a b. (a, b)) (keep j) (ticket_fits_on c d j u.account.known u.stage
            (λ t w. ((let l = w.0 in let n = others_wait j t ne w.2 in omega arith), w.1, w.2)) (λ t w. absurd (others_wait j t ne w.2 w.0))) old),
        refl,
      )
