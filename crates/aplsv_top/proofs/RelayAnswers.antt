-- A relay answers in one way.
use Rattle.std.proofs.Common.{◌≡◌, ◌<◌, ◌⊎◌, ℕ, suc, AllPairs, Contains, List, [], ◌∷◌, refl, sym, ap, ap₂, subst, ◌∙◌, inl, inr, arith}
use Rattle.std.proofs.lemmas.List.Kept.{AllPairs-from_increasing}
use Rattle.apl_arrays.specs.Array.{PlainArray}
use Rattle.aux_relay.specs.History.{AreSenders, IsAnswerTo, Reply, parties_answer}
use Rattle.aux_relay.specs.Queues.{AreUntaken, Queues, Relays}
use Rattle.aux_relay.specs.Request.{Request, other, request_of, send, take_from, waiting}
use Rattle.sv_offer_laws.proofs.Members.{Contains-behind, Contains-cons_cases, Contains-head}
use Rattle.bundle_devices.proofs.Determined.{IsDetermined}

-- ---- ascending numbers are told by which there are

-- what stands behind the first is greater
greater : (x : ℕ) (xs : List ℕ) (n : ℕ) → AllPairs (λ a b. a < b) (x ∷ xs) → Contains xs n → x < n
greater x xs n pairs h = subst (λ (m : ℕ). x < m) h.2 (pairs 0 (suc h.0) n (omega arith) (omega (arith, h.1)))

behind : (x : ℕ) (xs : List ℕ) → AllPairs (λ a b. a < b) (x ∷ xs) → AllPairs (λ a b. a < b) xs
behind x xs pairs = λ i j d before within. pairs (suc i) (suc j) d (omega (arith, before)) (omega (arith, within))

-- the first numbers are one
one_first : (x y : ℕ) (xs ys : List ℕ) → AllPairs (λ a b. a < b) (x ∷ xs) → AllPairs (λ a b. a < b) (y ∷ ys) → (y ≡ x) ⊎ Contains ys x → (x ≡ y) ⊎ Contains xs y → x ≡ y
one_first x y xs ys up also (inl same) there = sym same
one_first x y xs ys up also (inr later) (inl same) = same
one_first x y xs ys up also (inr later) (inr there) =
    absurd (let less = greater y ys x also later in let more = greater x xs y up there in omega (arith, less, more))

-- what is among the one is among the other, behind the first too
among_rest : (x n : ℕ) (xs ys : List ℕ) → AllPairs (λ a b. a < b) (x ∷ xs) → Contains xs n → (x ≡ n) ⊎ Contains ys n → Contains ys n
among_rest x n xs ys up here (inr there) = there
among_rest x n xs ys up here (inl same) = absurd (let less = greater x xs n up here in omega (arith, less, same))

one_ascending : (xs ys : List ℕ) → AllPairs (λ a b. a < b) xs → AllPairs (λ a b. a < b) ys → ((n : ℕ) → Contains xs n → Contains ys n) → ((n : ℕ) → Contains ys n → Contains xs n) → xs ≡ ys
one_ascending [] [] up also forth back = refl
one_ascending [] (y ∷ ys) up also forth back = absurd (let none = back y (Contains-head y ys) in omega (arith, none.1))
one_ascending (x ∷ xs) [] up also forth back = absurd (let none = forth x (Contains-head x xs) in omega (arith, none.1))
one_ascending (x ∷ xs) (y ∷ ys) up also forth back =
    let first : x ≡ y = one_first x y xs ys up also (Contains-cons_cases y ys x (forth x (Contains-head x xs))) (Contains-cons_cases x xs y (back y (Contains-head y ys))) in
    let theirs : AllPairs (λ a b. a < b) (x ∷ ys) = subst (λ (z : ℕ). AllPairs (λ a b. a < b) (z ∷ ys)) (sym first) also in
    let to : (n : ℕ) → Contains (x ∷ xs) n → Contains (x ∷ ys) n = λ n here. subst (λ (z : ℕ). Contains (z ∷ ys) n) (sym first) (forth n here) in
    let from : (n : ℕ) → Contains (x ∷ ys) n → Contains (x ∷ xs) n = λ n here. back n (subst (λ (z : ℕ). Contains (z ∷ ys) n) first here) in
    let rest = one_ascending xs ys (behind x xs up) (behind x ys theirs)
    (λ n here. among_rest x n xs ys up here (Contains-cons_cases x ys n (to n (Contains-behind x xs n here))))
    (λ n here. among_rest x n ys xs theirs here (Contains-cons_cases x xs n (from n (Contains-behind x ys n here)))) in
    ap₂ (λ (n : ℕ) (ns : List ℕ). n ∷ ns) first rest

-- ---- one answer

-- the parties that have texts for one are told in one way
one_told : (to : ℕ) (parties others : List ℕ) (replies : List Reply) → AreSenders to parties replies → AreSenders to others replies → parties ≡ others
one_told to parties others replies are also =
    one_ascending parties others (AllPairs-from_increasing parties are.ascending) (AllPairs-from_increasing others also.ascending)
    (λ from here. (also.each from).1 ((are.each from).0 here)) (λ from here. (are.each from).1 ((also.each from).0 here))

-- behind the same replies a request has one answer
one_answer_to : (request : Request) (party : ℕ) (answer another : PlainArray) (replies : List Reply) → IsAnswerTo request party answer replies → IsAnswerTo request party another replies → answer ≡ another
one_answer_to (send to text) party answer another replies is also = is ∙ sym also
one_answer_to (take_from from) party answer another replies is also = is ∙ sym also
one_answer_to waiting party answer another replies (parties, are, is) (others, be, also) = is ∙ (ap parties_answer (one_told party parties others replies are be) ∙ sym also)
one_answer_to other party answer another replies is also = is ∙ sym also

-- the queues of two relays hold what is left of the same replies
pub record RelayAlike (a b : Queues) : Type 0 where
  pub replies : List Reply
  pub first : AreUntaken a replies
  pub second : AreUntaken b replies

replied_alike : (a b : Queues) (party : ℕ) (value answer another : PlainArray) (c d : Queues) → RelayAlike a b → Relays a party value answer c → Relays b party value another d → (answer ≡ another) × RelayAlike c d
replied_alike a b party value answer another c d alike step also =
    let here = step alike.replies alike.first in
    let there = also alike.replies alike.second in
    let same : answer ≡ another = one_answer_to (request_of value) party answer another alike.replies here.0 there.0 in (
      same,
      record {
        replies = record { party = party; value = value; answer = answer } ∷ alike.replies;
        first = here.1;
        second = subst (λ (x : PlainArray). AreUntaken d (record { party = party; value = value; answer = x } ∷ alike.replies)) (sym same) there.1;
      },
    )

nothing_held : (queues : Queues) → queues ≡ [] → AreUntaken queues []
nothing_held queues empty = subst (λ (qs : Queues). AreUntaken qs []) (sym empty) (record { texts = λ from to. refl; count = refl })

-- the replies of a relay that held nothing are determined
pub relays_are_determined : IsDetermined (λ old party new. new ≡ old) Relays (λ (queues : Queues). queues ≡ []) RelayAlike
relays_are_determined = record {
  begun = λ a b is are. record { replies = []; first = nothing_held a is; second = nothing_held b are };
  forgotten = λ a b party c d alike same also. record {
    replies = alike.replies;
    first = subst (λ (qs : Queues). AreUntaken qs alike.replies) (sym same) alike.first;
    second = subst (λ (qs : Queues). AreUntaken qs alike.replies) (sym also) alike.second;
  };
  replied = λ a b party value answer another c d alike step also. replied_alike a b party value answer another c d alike step also;
}
