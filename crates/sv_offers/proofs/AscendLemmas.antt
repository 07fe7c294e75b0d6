-- Numbers that are listed ascending, each once, from the lowest on.
use Rattle.std.proofs.Common.{◌≡◌, refl, ap, ◌∙◌, ℕ, ◌<◌, ◌≤◌, Bool, true, false, not, cond, eqb, ltb, List, [], ◌∷◌, ◌++◌, Option, Some, None, inl, inr, arith}
use Rattle.std.specs.Prelude.{All, filter}
use Rattle.std.specs.List.{list_any}
use Rattle.std.specs.Option.{IsSomeAnd}
use Rattle.std.proofs.lemmas.Bool.{cases_Bool, eq-eqb, eqb-false, eqb-true, false_from_ne_true, ltb-false, ltb-true, le-ltb, lt-ltb, ne_eqb, not-true, not_from_false}
use Rattle.std.proofs.lemmas.List.Elements.{All-cons, All-head, All-tail, All-weaker, filter_passes}
use Rattle.sv_offer_laws.proofs.Members.{filter_whole}
use Rattle.sv_offers.specs.Senders.{is_party_above}
use Rattle.sv_rules.specs.Questions.{ascending, with_number}

abbrev Below : ℕ → List ℕ → Type 0
Below top numbers = All (λ number. number < top) numbers

-- a number above all goes last
top_last : (top : ℕ) (numbers : List ℕ) → Below top numbers → with_number top numbers ≡ numbers ++ top ∷ []
top_last top [] below = refl
top_last top (number ∷ numbers) below =
    let first : number < top = All-head (λ n. n < top) number numbers below in
    rw (le-ltb top number (omega (arith, first)), ne_eqb top number (λ same. omega (arith, first, same)))
    (ap (λ ns. number ∷ ns) (top_last top numbers (All-tail (λ n. n < top) number numbers below)))

-- where it stands last already it is there once
top_once : (top : ℕ) (numbers : List ℕ) → Below top numbers → with_number top (numbers ++ top ∷ []) ≡ numbers ++ top ∷ []
top_once top [] below = rw (le-ltb top top (omega arith), eq-eqb top top refl) refl
top_once top (number ∷ numbers) below =
    let first : number < top = All-head (λ n. n < top) number numbers below in
    rw (le-ltb top number (omega (arith, first)), ne_eqb top number (λ same. omega (arith, first, same)))
    (ap (λ ns. number ∷ ns) (top_once top numbers (All-tail (λ n. n < top) number numbers below)))

-- a lower one goes among those in front
lower_in_front : (top new : ℕ) (numbers : List ℕ) → new < top → with_number new (numbers ++ top ∷ []) ≡ with_number new numbers ++ top ∷ []
lower_in_front top new [] lower = rw (lt-ltb new top lower) refl
lower_in_front top new (number ∷ numbers) lower = by (ltb new number) (eqb new number) (lower_in_front top new numbers lower)
  where
    by : (b c : Bool) → with_number new (numbers ++ top ∷ []) ≡ with_number new numbers ++ top ∷ [] →
        cond b (new ∷ number ∷ (numbers ++ top ∷ [])) (cond c (number ∷ (numbers ++ top ∷ [])) (number ∷ with_number new (numbers ++ top ∷ [])))
        ≡ cond b (new ∷ number ∷ numbers) (cond c (number ∷ numbers) (number ∷ with_number new numbers)) ++ top ∷ []
    by true c rest = refl
    by false true rest = refl
    by false false rest = ap (λ ns. number ∷ ns) rest

-- numbers below another stay so
with_below : (top new : ℕ) (numbers : List ℕ) → new < top → Below top numbers → Below top (with_number new numbers)
with_below top new [] lower below = All-cons (λ n. n < top) new [] lower below
with_below top new (number ∷ numbers) lower below =
    let first : number < top = All-head (λ n. n < top) number numbers below in
    let behind : Below top numbers = All-tail (λ n. n < top) number numbers below in
    by (ltb new number) (eqb new number) (All-cons (λ n. n < top) new (number ∷ numbers) lower below)
    (All-cons (λ n. n < top) number (with_number new numbers) first (with_below top new numbers lower behind))
  where
    by : (b c : Bool) → Below top (new ∷ number ∷ numbers) → Below top (number ∷ with_number new numbers) →
        Below top (cond b (new ∷ number ∷ numbers) (cond c (number ∷ numbers) (number ∷ with_number new numbers)))
    by true c front inside = front
    by false true front inside = below
    by false false front inside = inside

ascending_below : (top : ℕ) (numbers : List ℕ) → Below top numbers → Below top (ascending numbers)
ascending_below top [] below = below
ascending_below top (number ∷ numbers) below =
    with_below top number (ascending numbers) (All-head (λ n. n < top) number numbers below) (ascending_below top numbers (All-tail (λ n. n < top) number numbers below))

-- the numbers up to the last one
abbrev pub upto_last : Option ℕ → List ℕ → List ℕ
upto_last last numbers = filter (λ number. not (is_party_above last number)) numbers

-- the number comes next: it is above the last one, and no lower one is
record IsNextAbove (last : Option ℕ) (next : ℕ) (numbers : List ℕ) : Type 0 where
  above : is_party_above last next ≡ true
  lowest : All (λ number. is_party_above last number ≡ true → next ≤ number) numbers

-- what is not above the last is below the next
stays_below : (last : Option ℕ) (next number : ℕ) → is_party_above last next ≡ true → is_party_above last number ≡ false → number < next
stays_below None next number above stays = cc
stays_below (Some last) next number above stays = omega (arith, ltb-true last next above, ltb-false last number stays)

upto_below : (last : Option ℕ) (next : ℕ) (numbers : List ℕ) → is_party_above last next ≡ true → Below next (upto_last last numbers)
upto_below last next numbers above =
    All-weaker (λ n. not (is_party_above last n) ≡ true) (λ n. n < next) (λ n stays. stays_below last next n above (not-true (is_party_above last n) stays)) (upto_last last numbers)
    (filter_passes (λ n. not (is_party_above last n)) numbers)

-- with the next number the list is that of all up to it, if it is among them; else nothing is new
next_listed : (last : Option ℕ) (next : ℕ) (numbers : List ℕ) → IsNextAbove last next numbers →
    ascending (upto_last (Some next) numbers) ≡ cond (list_any (λ n. eqb n next) numbers) (ascending (upto_last last numbers) ++ next ∷ []) (ascending (upto_last last numbers))
next_listed last next [] is_next = refl
next_listed last next (number ∷ numbers) is_next =
    let behind : IsNextAbove last next numbers = record { above = is_next.above; lowest = All-tail (λ n. is_party_above last n ≡ true → next ≤ n) number numbers is_next.lowest } in
    let before : List ℕ = ascending (upto_last last numbers) in
    let below : Below next before = ascending_below next (upto_last last numbers) (upto_below last next numbers is_next.above) in
    let rest = next_listed last next numbers behind in
    elim (cases_Bool (is_party_above last number)) [
      | inl up ↦
          let from : next ≤ number = All-head (λ n. is_party_above last n ≡ true → next ≤ n) number numbers is_next.lowest up in
          elim (cases_Bool (eqb number next)) [
            | inl same ↦
                let is : number ≡ next = eqb-true number next same in
                rw (up, same, le-ltb next number (omega (arith, is))) (ap (with_number number) rest ∙ again number (list_any (λ n. eqb n next) numbers) before is below)
            | inr apart ↦ rw (up, apart, lt-ltb next number (omega (arith, from, eqb-false number next apart))) rest
          ]
      | inr stays ↦
          let lower : number < next = stays_below last next number is_next.above stays in
          rw (stays, ne_eqb number next (λ same. omega (arith, lower, same)), le-ltb next number (omega (arith, lower)))
          (ap (with_number number) rest ∙ in_front (list_any (λ n. eqb n next) numbers) before lower)
    ]
  where
    again : (new : ℕ) (b : Bool) (before : List ℕ) → new ≡ next → Below next before → with_number new (cond b (before ++ next ∷ []) before) ≡ before ++ next ∷ []
    again new true before is below = ap (λ (n : ℕ). with_number n (before ++ next ∷ [])) is ∙ top_once next before below
    again new false before is below = ap (λ (n : ℕ). with_number n before) is ∙ top_last next before below

    in_front : (b : Bool) (before : List ℕ) → number < next →
        with_number number (cond b (before ++ next ∷ []) before) ≡ cond b (with_number number before ++ next ∷ []) (with_number number before)
    in_front true before lower = lower_in_front next number before lower
    in_front false before lower = refl

-- where none comes next, these are all
pub none_next : (last : Option ℕ) (numbers : List ℕ) → All (λ n. is_party_above last n ≡ true → IsSomeAnd None (λ next. next ≤ n)) numbers → upto_last last numbers ≡ numbers
none_next last numbers none =
    filter_whole (λ n. not (is_party_above last n)) numbers
    (All-weaker (λ n. is_party_above last n ≡ true → ⊥) (λ n. not (is_party_above last n) ≡ true) (λ n stays. not_from_false (is_party_above last n) (false_from_ne_true (is_party_above last n) stays)) numbers none)

-- before the first there are none
pub list_before : (numbers : List ℕ) → upto_last None numbers ≡ []
list_before [] = refl
list_before (number ∷ numbers) = list_before numbers

-- the list up to the number that comes next, which is among them or not
pub looked_at : (last : Option ℕ) (next : ℕ) (numbers : List ℕ) (b : Bool) → is_party_above last next ≡ true → All (λ n. is_party_above last n ≡ true → next ≤ n) numbers →
    list_any (λ n. eqb n next) numbers ≡ b →
    ascending (upto_last (Some next) numbers) ≡ cond b (ascending (upto_last last numbers) ++ next ∷ []) (ascending (upto_last last numbers))
looked_at last next numbers b above lowest is =
    next_listed last next numbers (record { above = above; lowest = lowest })
    ∙ ap (λ c. cond c (ascending (upto_last last numbers) ++ next ∷ []) (ascending (upto_last last numbers))) is
