-- Numbering, splitting and joining seats keep the rule, and so does the table at the start.
use Rattle.std.proofs.Common.{◌≡◌, ◌≢◌, ℕ, ◌%◌, ◌^◌, ◌<◌, ◌≤◌, ◌==◌, max, cond, true, List, [], ◌∷◌, ◌++◌, length, set, slice_index, All, Option, Some, refl, sym, ap, ◌∙◌, subst, ⊎_elim, arith, eq-eqb, ne_eqb, length-set}
use Rattle.std.proofs.lemmas.List.Elements.{All-nil, All-cons, All-append, All-weaker}
use Rattle.std.proofs.lemmas.List.Sums.{sum_by_push}
use mathlib.Core.Option.{none, some, some-ne-none}
use lib.ListN.{get_elem?}
use Rattle.atomic_table.specs.Table.{State, Me, step, keeps, Allows, Splits, Joins, opening}
use Rattle.atomic_table.proofs.Lists.{set_else}
use Rattle.sv_turn.specs.declared.view.SeatStage.TheVariants.{Away}
use Rattle.sv_turn.specs.declared.view.Account.{Account}
use Rattle.sv_turn.specs.declared.view.View.{View}
use Rattle.sv_turn.specs.Views.{weight_of, tickets_of, turns_of, tickets, turns, maker_of, spent, numbered_view, left_of, right_of, joined_view}
use Rattle.sv_turn.specs.Order.{TurnCourse, IsAccountOf, Fits, InOrder}
use Rattle.sv_turn.specs.Plays.{NumbersParty}
use Rattle.sv_turn.proofs.Sums.{at_end, sum_set}
use Rattle.sv_turn.proofs.Places.{begins_self, begins_none, no_places}
use Rattle.sv_turn.proofs.Carrying.{put, put_here, put_else, ticket_fits_on, away_fits, stands_on, carry, each_set, moved}

module _ {S E : Type 0} (entries : S → List E) (members_of : S → List ℕ) (party_of : E → ℕ) (parties : ℕ) (members : List ℕ) where
  abbrev St : Type 0
  St = State (Option S) (View E)

  abbrev Rule : St → Type 0
  Rule = InOrder entries members_of party_of parties members

  pub numbers : (slots seat party : ℕ) (me : Me (Option S) (View E)) → me.0.maker ≡ true → me.0.stage ≡ Away → 0 < me.0.weight → me.0.account.party ≡ 0 → me.0.last < party
      → Allows Rule slots seat me 3 (λ n. max n party) (NumbersParty (step slots 3 party 0 none) me)
  numbers slots seat party me maker away heavy nobody next s r deep at small =
      let c = r.course in let v = me.0 in let fit = r.each seat v at in let made = fit.made maker in let top : c.top < party = (let e = made.1 in omega arith) in
      let d : TurnCourse E = record c { top = party; owner = put c.owner party seat } in
      let greatest : max c.top party ≡ party = omega arith in
      let keep : (j : ℕ) (a : Account E) → IsAccountOf party_of c j a → IsAccountOf party_of d j a =
      λ j a h. stands_on party_of c d j j a (omega arith) (put_else c.owner party seat a.party (λ e. let n = h.numbered in omega arith) ∙ h.owned) refl (begins_self c.journal) h in
      let mine : Fits party_of members d seat (numbered_view party v) = record {
        made = λ _. (made.0, refl);
        members_kept = fit.members_kept;
        heavy = λ _. heavy;
        seated = (let e = ap tickets away in omega arith);
        mine = λ p. record {
          named = p;
          numbered = omega arith;
          owned = put_here c.owner party seat;
          places = sym (no_places party_of party c.top c.journal top r.low);
          known = begins_none c.journal;
        };
        others = All-weaker (λ a. IsAccountOf party_of c seat a × (a.party ≢ v.account.party)) (λ a. IsAccountOf party_of d seat a × (a.party ≢ party))
            (λ a h. (keep seat a h.0, λ e. let n = h.0.numbered in omega arith)) v.kept fit.others;
        ticketed = away_fits d seat [] v.stage away;
      } in (
        numbered_view party v,
        keeps,
        tt,
        moved entries members_of party_of parties members s r seat v (numbered_view party v) d (set s.words 3 (max (slice_index s.words 3) party)) at
            (ap (λ (ws : List ℕ). set ws 3 (max (slice_index ws 3) party)) r.words ∙ ap (λ (k : ℕ). (c.taken % 2 ^ 64) ∷ (c.served % 2 ^ 64) ∷ (length c.journal % 2 ^ 64) ∷ k ∷ []) greatest)
            refl refl refl (λ _. refl) (All-weaker (λ e. party_of e ≤ c.top) (λ e. party_of e ≤ party) (λ e h. omega arith) c.journal r.low) mine
            (λ j u ne old. carry party_of members c d j u (λ _ h _. absurd (ne (h ∙ sym made.0))) (keep j) (ticket_fits_on c d j u.account.known u.stage (λ t q. q) (λ t q. q)) old),
        refl,
      )

  pub splits : (seat : ℕ) (v : View E) → v.maker ≡ true → v.stage ≡ Away → 1 < v.weight → 0 < v.account.party → Splits Rule seat v (left_of v) (right_of v)
  splits seat v maker away heavy somebody s r at =
      let c = r.course in let fit = r.each seat v at in let p : ℕ = v.account.party in let new : ℕ = length s.views in let mine = fit.mine somebody in
      let d : TurnCourse E = record c { owner = put c.owner p new } in let views : List (View E) = set s.views seat (left_of v) in
      let keep : (j : ℕ) (a : Account E) → a.party ≢ p → IsAccountOf party_of c j a → IsAccountOf party_of d j a =
      λ j a ne h. stands_on party_of c d j j a (omega arith) (put_else c.owner p new a.party ne ∙ h.owned) refl (begins_self c.journal) h in
      let left : Fits party_of members d seat (left_of v) = record {
        made = fit.made;
        members_kept = λ _. fit.members_kept (omega arith);
        heavy = λ h. absurd (omega arith);
        seated = (let e = ap tickets away in omega arith);
        mine = λ h. absurd (omega arith);
        others = All-weaker (λ a. IsAccountOf party_of c seat a × (a.party ≢ p)) (λ a. IsAccountOf party_of d seat a × (a.party ≢ 0))
            (λ a h. (keep seat a h.1 h.0, λ e. let n = h.0.named in omega arith)) v.kept fit.others;
        ticketed = away_fits d seat [] v.stage away;
      } in
      let right : Fits party_of members d new (right_of v) = record {
        made = λ h. absurd cc;
        members_kept = λ _. fit.members_kept (omega arith);
        heavy = λ _. omega arith;
        seated = omega arith;
        mine = λ _. stands_on party_of c d seat new v.account (omega arith) (put_here c.owner p new) refl (begins_self c.journal) mine;
        others = All-nil (λ a. IsAccountOf party_of d new a × (a.party ≢ p));
        ticketed = tt;
      } in
      let others : (j : ℕ) (u : View E) → j ≢ seat → get_elem? s.views j ≡ some u → Fits party_of members d j u =
      λ j u ne e. carry party_of members c d j u (λ _ h k. (h, k)) (λ a h. keep j a (λ is. ne (sym h.owned ∙ (ap c.owner is ∙ mine.owned))) h) (ticket_fits_on c d j u.account.known u.stage (λ t q. q) (λ t q. q)) (r.each j u e) in
      let long : length views ≡ new = length-set s.views seat (left_of v) in
      let weigh = sum_set weight_of s.views seat v (left_of v) at in let wait = sum_set tickets_of s.views seat v (left_of v) at in let turn = sum_set turns_of s.views seat v (left_of v) at in
      let more = sum_by_push weight_of views (right_of v) in let more_waiting = sum_by_push tickets_of views (right_of v) in let more_turns = sum_by_push turns_of views (right_of v) in record {
        course = d;
        words = r.words;
        few = r.few;
        weights = (let k = r.weights in omega arith);
        waiting = (let k = r.waiting in omega arith);
        one = (let k = r.one in omega arith);
        home = λ h. r.home (omega arith);
        out = λ h. r.out (omega arith);
        low = r.low;
        each = λ j u e. ⊎_elim
            (λ (t : (get_elem? views j ≡ some u) × (j ≢ length views)). each_set entries members_of party_of parties members (Fits party_of members d) s.views seat (left_of v) left others j u t.0)
            (λ (t : (j ≡ length views) × (right_of v ≡ u)). subst (λ (x : ℕ × View E). Fits party_of members d x.0 x.1) (λ i. (sym (t.0 ∙ long) i, t.1 i)) right)
            (at_end views (right_of v) u j e);
      }

  pub joins : (seat : ℕ) (v : View E) (other : ℕ) (w : View E) → v.stage ≡ Away → w.stage ≡ Away → 0 < v.account.party → 0 < w.account.party → Joins Rule seat v other w (joined_view v w) spent
  joins seat v other w away quiet somebody another s r at apart there =
      let c = r.course in let views : List (View E) = set s.views seat (joined_view v w) in
      let there' : get_elem? s.views other ≡ some w = sym (set_else s.views seat other (joined_view v w) apart) ∙ there in
      let fit = r.each seat v at in let gone = r.each other w there' in let mine = fit.mine somebody in let theirs = gone.mine another in
      let owner : ℕ → ℕ = λ q. cond (c.owner q == other) seat (c.owner q) in let d : TurnCourse E = record c { owner = owner } in
      let handed : (q : ℕ) → c.owner q ≡ other → owner q ≡ seat = λ q is. ap (λ b. cond b seat (c.owner q)) (eq-eqb (c.owner q) other is) in
      let stayed : (q j : ℕ) → c.owner q ≡ j → j ≢ other → owner q ≡ j = λ q j is ne. ap (λ b. cond b seat (c.owner q)) (ne_eqb (c.owner q) other (λ e. ne (sym is ∙ e))) ∙ is in
      let keep : (j : ℕ) (a : Account E) → j ≢ other → IsAccountOf party_of c j a → IsAccountOf party_of d j a =
      λ j a ne h. stands_on party_of c d j j a (omega arith) (stayed a.party j h.owned ne) refl (begins_self c.journal) h in
      let take : (a : Account E) → IsAccountOf party_of c other a → IsAccountOf party_of d seat a × (a.party ≢ v.account.party) =
      λ a h. (stands_on party_of c d other seat a (omega arith) (handed a.party h.owned) refl (begins_self c.journal) h, λ e. apart (sym h.owned ∙ (ap c.owner e ∙ mine.owned))) in
      let Kept : Account E → Type 0 = λ a. IsAccountOf party_of d seat a × (a.party ≢ v.account.party) in
      let all_kept : All Kept (v.kept ++ w.account ∷ w.kept) = All-append Kept v.kept (w.account ∷ w.kept)
      (All-weaker (λ a. IsAccountOf party_of c seat a × (a.party ≢ v.account.party)) Kept (λ a h. (keep seat a (λ e. apart (sym e)) h.0, h.1)) v.kept fit.others)
      (All-cons Kept w.account w.kept (take w.account theirs) (All-weaker (λ a. IsAccountOf party_of c other a × (a.party ≢ w.account.party)) Kept (λ a h. take a h.0) w.kept gone.others)) in
      let both : Fits party_of members d seat (joined_view v w) = record {
        made = fit.made;
        members_kept = λ _. fit.members_kept (fit.heavy somebody);
        heavy = λ h. (let k = fit.heavy somebody in omega arith);
        seated = fit.seated;
        mine = λ h. keep seat v.account (λ e. apart (sym e)) mine;
        others = all_kept;
        ticketed = away_fits d seat v.account.known v.stage away;
      } in
      let empty : Fits party_of members d other spent = record {
        made = λ h. absurd cc;
        members_kept = λ h. absurd (omega arith);
        heavy = λ h. absurd (omega arith);
        seated = omega arith;
        mine = λ h. absurd (omega arith);
        others = All-nil (λ a. IsAccountOf party_of d other a × (a.party ≢ 0));
        ticketed = tt;
      } in
      let others : (j : ℕ) (u : View E) → j ≢ other → get_elem? views j ≡ some u → Fits party_of members d j u =
      λ j u ne e'. each_set entries members_of party_of parties members (λ i x. i ≢ other → Fits party_of members d i x) s.views seat (joined_view v w) (λ _. both)
      (λ i x _ e far. carry party_of members c d i x (λ _ h k. (h, k)) (λ a h. keep i a far h) (ticket_fits_on c d i x.account.known x.stage (λ t q. q) (λ t q. q)) (r.each i x e)) j u e' ne in
      let a = sum_set weight_of s.views seat v (joined_view v w) at in let b = sum_set weight_of views other w spent there in
      let a₁ = sum_set tickets_of s.views seat v (joined_view v w) at in let b₁ = sum_set tickets_of views other w spent there in
      let a₂ = sum_set turns_of s.views seat v (joined_view v w) at in let b₂ = sum_set turns_of views other w spent there in
      let q : tickets w.stage ≡ 0 = ap tickets quiet in let q₂ : turns w.stage ≡ 0 = ap turns quiet in record {
        course = d;
        words = r.words;
        few = r.few;
        weights = (let k = r.weights in omega arith);
        waiting = (let k = r.waiting in omega arith);
        one = (let k = r.one in omega arith);
        home = λ h. r.home (omega arith);
        out = λ h. r.out (omega arith);
        low = r.low;
        each = each_set entries members_of party_of parties members (Fits party_of members d) views other spent empty others;
      }

  pub starts : (y : S) → members_of y ≡ members → entries y ≡ [] → parties < 2 ^ 64 → Rule (opening (0 ∷ 0 ∷ 0 ∷ 0 ∷ []) (Some y ∷ []) (maker_of parties members))
  starts y same empty few =
      let c : TurnCourse E = record { taken = 0; served = 0; top = 0; maker = 0; owner = λ _. 0; holder = λ _. 0; journal = [] } in
      let first : View E = maker_of parties members in
      let mine : Fits party_of members c 0 first = record {
        made = λ _. (refl, refl);
        members_kept = λ _. refl;
        heavy = λ h. absurd (omega arith);
        seated = omega arith;
        mine = λ h. absurd (omega arith);
        others = All-nil (λ a. IsAccountOf party_of c 0 a × (a.party ≢ 0));
        ticketed = tt;
      } in record {
        course = c;
        words = refl;
        few = few;
        weights = omega arith;
        waiting = omega arith;
        one = omega arith;
        home = λ _. (y, refl, empty, same);
        out = λ h. absurd (omega arith);
        low = All-nil (λ e. party_of e ≤ 0);
        each = λ j u e. ⊎_elim
            (λ (t : (get_elem? [] j ≡ some u) × (j ≢ 0)). absurd (nothing j u t.0))
            (λ (t : (j ≡ 0) × (first ≡ u)). subst (λ (x : ℕ × View E). Fits party_of members c x.0 x.1) (λ i. (sym t.0 i, t.1 i)) mine)
            (at_end [] first u j e);
      }
    where
      nothing : (j : ℕ) (u : View E) → get_elem? [] j ≡ some u → ⊥
      nothing j u e = some-ne-none u (sym e)
