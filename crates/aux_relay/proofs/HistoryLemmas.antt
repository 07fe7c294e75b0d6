-- What queues do at a request is what the relay does behind all that was asked and answered.
use Rattle.std.proofs.Common.{◌≡◌, ◌∙◌, ℕ, ◌+◌, ◌-◌, ◌<◌, ◌≤◌, ℤ, pos, Bool, true, false, cond, ◌&&◌, eqb, List, [], ◌∷◌, ◌++◌, length, take, drop, Option, Some, None, refl, sym, ap, ap₂, subst, arith, append-nil, append_assoc, length-append}
use Rattle.std.specs.Bool.{MatchBool}
use Rattle.std.specs.List.{count_by}
use Rattle.std.specs.Prelude.{Contains, ◌↔◌}
use Rattle.std.proofs.Math.Bool.{and-false}
use Rattle.std.proofs.lemmas.Bool.{eq-eqb, eqb-true}
use Rattle.std.proofs.lemmas.List.{drop_at, length-map, take_at}
use Rattle.std.proofs.lemmas.List.Sums.{sum_by-cons}
use Rattle.apl_arrays.specs.Array.{PlainArray, is_chars, number_array}
use Rattle.apl_arrays.specs.List.{first_of, others_of}
use Rattle.auxiliaries.specs.Protocol.{code}
use Rattle.auxiliaries.specs.Run.{Event, began, answered, IsReplierRun}
use Rattle.aux_relay.specs.Changes.{AddsLast, DoesRequest, Drops, Sends, TakesText, TellsSenders, senders_in}
use Rattle.aux_relay.specs.Request.{Request, send, take_from, waiting, other, request_of}
use Rattle.aux_relay.specs.History.{AreRelayed, AreSenders, IsAnswerTo, Reply, texts_given, given_by, untaken_count, is_done, is_given, is_send, is_take, is_taken, most_texts, next_text, parties_answer, texts_taken, taken_by, takes_from, text_answer, text_in, text_to}
use Rattle.aux_relay.specs.Queues.{AreUntaken, Queues, Relays, queue_at, replies_among, same_queue, text_count}
use Rattle.aux_relay.proofs.QueueLemmas.{queue_is}
use Rattle.aux_relay.proofs.SenderLemmas.{sender_has_text, sender_numbers, senders_are_numbers, senders_ascend, text_has_sender}

-- one reply more
count_one : (p : Reply → Bool) (reply : Reply) (replies : List Reply) → count_by p (reply ∷ replies) ≡ cond (p reply) 1 0 + count_by p replies
count_one p reply replies = sum_by-cons (λ (r : Reply). cond (p r) 1 0) reply replies

hold_more : (old new : Queues) (reply : Reply) (replies : List Reply) → AreUntaken old replies
    → ((from to : ℕ) → queue_at old (to, from) ++ given_by from to reply ≡ taken_by from to reply ++ queue_at new (to, from))
    → text_count old + cond (is_given reply) 1 0 ≡ cond (is_taken reply) 1 0 + text_count new → AreUntaken new (reply ∷ replies)
hold_more old new reply replies held moves counts = record {
  texts = λ from to.
      ap (λ texts. texts ++ given_by from to reply) (held.texts from to)
      ∙ append_assoc (texts_taken from to replies) (queue_at old (to, from)) (given_by from to reply)
      ∙ ap (λ texts. texts_taken from to replies ++ texts) (moves from to)
      ∙ sym (append_assoc (texts_taken from to replies) (taken_by from to reply) (queue_at new (to, from)));
  count = omega (arith, held.count, counts, count_one is_given reply replies, count_one is_taken reply replies);
}

-- what is left by both accounts
held_is : (queues : Queues) (replies : List Reply) → AreUntaken queues replies → untaken_count replies ≡ text_count queues
held_is queues replies held = omega (arith, held.count)

next_is : (queues : Queues) (replies : List Reply) (from to : ℕ) → AreUntaken queues replies → next_text from to replies ≡ first_of (queue_at queues (to, from))
next_is queues replies from to held =
    ap (λ texts. first_of (drop (length (texts_taken from to replies)) texts)) (held.texts from to)
    ∙ ap first_of (drop_at (texts_taken from to replies) (queue_at queues (to, from)) (length (texts_taken from to replies)) refl)

-- a choice between nothing and nothing
nothing : {A : Type 0} (b : Bool) → ◌≡◌ {A = List A} (cond b [] []) []
nothing true = refl
nothing false = refl

-- a reply that neither gives nor takes
module _ (party : ℕ) (value answer : PlainArray) where
  abbrev reply : Reply
  reply = record { party = party; value = value; answer = answer }

  gives_none : (from to : ℕ) → text_to to (request_of value) ≡ [] → given_by from to reply ≡ []
  gives_none from to none = ap (λ texts. cond (eqb party from && is_done answer) texts []) none ∙ nothing (eqb party from && is_done answer)

  takes_none : (from to : ℕ) → takes_from from (request_of value) ≡ false → taken_by from to reply ≡ []
  takes_none from to none =
      ap (λ b. cond (eqb party to && b) (text_in answer.items) []) none
      ∙ ap (λ b. cond b (text_in answer.items) []) (and-false (eqb party to))

  not_given : is_send (request_of value) ≡ false → ◌≡◌ {A = ℕ} (cond (is_given reply) 1 0) 0
  not_given none = ap (λ b. cond (is_done answer && b) 1 0) none ∙ ap (λ b. cond b 1 0) (and-false (is_done answer))

  not_taken : is_take (request_of value) ≡ false → ◌≡◌ {A = ℕ} (cond (is_taken reply) 1 0) 0
  not_taken none = ap (λ b. cond (is_chars answer.items && b) 1 0) none ∙ ap (λ b. cond b 1 0) (and-false (is_chars answer.items))

  not_done : (from to : ℕ) → is_done answer ≡ false → given_by from to reply ≡ []
  not_done from to none =
      ap (λ b. cond (eqb party from && b) (text_to to (request_of value)) []) none
      ∙ ap (λ b. cond b (text_to to (request_of value)) []) (and-false (eqb party from))

  -- the queues are as they were
  same_queues : (queues new : Queues) (replies : List Reply) → AreUntaken queues replies → new ≡ queues
      → ((from to : ℕ) → given_by from to reply ≡ []) → ((from to : ℕ) → taken_by from to reply ≡ [])
      → ◌≡◌ {A = ℕ} (cond (is_given reply) 1 0) 0 → ◌≡◌ {A = ℕ} (cond (is_taken reply) 1 0) 0 → AreUntaken new (reply ∷ replies)
  same_queues queues new replies held same none_given none_taken count_given count_taken =
      subst (λ (qs : Queues). AreUntaken qs (reply ∷ replies)) (sym same)
      (hold_more queues queues reply replies held
      (λ from to. ap (λ texts. queue_at queues (to, from) ++ texts) (none_given from to) ∙ append-nil (queue_at queues (to, from)) ∙ ap (λ texts. texts ++ queue_at queues (to, from)) (sym (none_taken from to)))
      (omega (arith, count_given, count_taken)))

  -- what is no request
  refuses : (queues new : Queues) (replies : List Reply) → request_of value ≡ other → AreUntaken queues replies → (answer ≡ code 2) × (new ≡ queues)
      → IsAnswerTo other party answer replies × AreUntaken new (reply ∷ replies)
  refuses queues new replies is held does =
      (does.0, same_queues queues new replies held does.1 (λ from to. gives_none from to (ap (text_to to) is)) (λ from to. takes_none from to (ap (takes_from from) is)) (not_given (ap is_send is)) (not_taken (ap is_take is)))

  -- who has sent
  tells : (queues new : Queues) (replies : List Reply) → request_of value ≡ waiting → AreUntaken queues replies → TellsSenders queues party answer new
      → IsAnswerTo waiting party answer replies × AreUntaken new (reply ∷ replies)
  tells queues new replies is held does =
      ((sender_numbers party queues, senders, answered), same_queues queues new replies held does.kept (λ from to. gives_none from to (ap (text_to to) is)) (λ from to. takes_none from to (ap (takes_from from) is)) (not_given (ap is_send is)) (not_taken (ap is_take is)))
    where
      longer : (from : ℕ) → length (texts_given from party replies) ≡ length (texts_taken from party replies) + length (queue_at queues (party, from))
      longer from = ap length (held.texts from party) ∙ length-append (texts_taken from party replies) (queue_at queues (party, from))

      senders : AreSenders party (sender_numbers party queues) replies
      senders = record {
        ascending = senders_ascend party queues does.ordered;
        each = λ from. (
          (λ there. let some = sender_has_text party from queues does.ordered there in omega (arith, longer from, some)),
          (λ fewer. text_has_sender party from queues does.ordered (omega (arith, longer from, fewer))),
        );
      }

      answered : answer ≡ parties_answer (sender_numbers party queues)
      answered =
          does.told
          ∙ ap₂ (λ (count : ℕ) (numbers : List ℤ). number_array (count ∷ []) numbers)
          (ap length (senders_are_numbers party queues) ∙ length-map (sender_numbers party queues) pos)
          (senders_are_numbers party queues)

  -- a text that is sent
  sends : (user : ℕ) (text : List ℕ) (queues new : Queues) (replies : List Reply) → request_of value ≡ send user text → AreUntaken queues replies → Sends queues (user, party) text answer new
      → IsAnswerTo (send user text) party answer replies × AreUntaken new (reply ∷ replies)
  sends user text queues new replies is held does = by (eqb (text_count queues) most_texts) refl does
    where
      taken_none : (from to : ℕ) → taken_by from to reply ≡ []
      taken_none from to = takes_none from to (ap (takes_from from) is)

      by : (b : Bool) → eqb (text_count queues) most_texts ≡ b → MatchBool b ((answer ≡ code 4) × (new ≡ queues)) ((answer ≡ code 0) × AddsLast queues (user, party) text new)
          → (answer ≡ cond (eqb (untaken_count replies) most_texts) (code 4) (code 0)) × AreUntaken new (reply ∷ replies)
      by true full does =
          let refused : is_done answer ≡ false = ap is_done does.0 in (
            does.0 ∙ ap (λ b. cond b (code 4) (code 0)) (sym (ap (λ n. eqb n most_texts) (held_is queues replies held) ∙ full)),
            same_queues queues new replies held does.1 (λ from to. not_done from to refused) taken_none (ap (λ b. cond (b && is_send (request_of value)) 1 0) refused) (not_taken (ap is_take is)),
          )
      by false room does =
          let done : is_done answer ≡ true = ap is_done does.0 in
          let counted : ◌≡◌ {A = ℕ} (cond (is_given reply) 1 0) 1 = ap₂ (λ (b c : Bool). cond (b && c) 1 0) done (ap is_send is) in (
            does.0 ∙ ap (λ b. cond b (code 4) (code 0)) (sym (ap (λ n. eqb n most_texts) (held_is queues replies held) ∙ room)),
            hold_more queues new reply replies held (λ from to. moves done does.1 from to) (omega (arith, counted, does.1.count, not_taken (ap is_take is))),
          )
        where
          moves : is_done answer ≡ true → AddsLast queues (user, party) text new → (from to : ℕ) → queue_at queues (to, from) ++ given_by from to reply ≡ taken_by from to reply ++ queue_at new (to, from)
          moves done adds from to =
              ap₂ (λ (b : Bool) (texts : List (List ℕ)). queue_at queues (to, from) ++ cond (eqb party from && b) texts []) done (ap (text_to to) is)
              ∙ choice (eqb party from) (eqb user to)
              ∙ sym (ap₂ (λ (front rest : List (List ℕ)). front ++ rest) (taken_none from to) (adds.queues (to, from)))
            where
              choice : (b c : Bool) → queue_at queues (to, from) ++ cond (b && true) (cond c (text ∷ []) []) [] ≡ cond (c && b) (queue_at queues (to, from) ++ text ∷ []) (queue_at queues (to, from))
              choice true true = refl
              choice true false = append-nil (queue_at queues (to, from))
              choice false true = append-nil (queue_at queues (to, from))
              choice false false = append-nil (queue_at queues (to, from))

  -- a text that is taken
  takes : (user : ℕ) (queues new : Queues) (replies : List Reply) → request_of value ≡ take_from user → AreUntaken queues replies → TakesText queues (party, user) answer new
      → IsAnswerTo (take_from user) party answer replies × AreUntaken new (reply ∷ replies)
  takes user queues new replies is held does =
      (does.0 ∙ ap text_answer (sym (next_is queues replies user party held)), hold_more queues new reply replies held moves counts)
    where
      split : (texts : List (List ℕ)) → texts ≡ text_in (text_answer (first_of texts)).items ++ others_of texts
      split [] = refl
      split (text ∷ texts) = refl

      one : (texts : List (List ℕ)) → length (take 1 texts) ≡ cond (is_chars (text_answer (first_of texts)).items && true) 1 0
      one [] = refl
      one (text ∷ texts) = refl

      counts : text_count queues + cond (is_given reply) 1 0 ≡ cond (is_taken reply) 1 0 + text_count new
      counts =
          let counted : ◌≡◌ {A = ℕ} (cond (is_taken reply) 1 0) (length (take 1 (queue_at queues (party, user)))) =
          ap₂ (λ (a : PlainArray) (b : Bool). cond (is_chars a.items && b) 1 0) does.0 (ap is_take is) ∙ sym (one (queue_at queues (party, user))) in
          omega (arith, counted, does.1.count, not_given (ap is_send is))

      moves : (from to : ℕ) → queue_at queues (to, from) ++ given_by from to reply ≡ taken_by from to reply ++ queue_at new (to, from)
      moves from to =
          ap (λ texts. queue_at queues (to, from) ++ texts) (gives_none from to (ap (text_to to) is))
          ∙ append-nil (queue_at queues (to, from))
          ∙ choice (same_queue (party, user) (to, from)) refl
          ∙ sym (ap₂ (λ (front rest : List (List ℕ)). front ++ rest)
          (ap₂ (λ (b : Bool) (a : PlainArray). cond (eqb party to && b) (text_in a.items) []) (ap (takes_from from) is) does.0)
          (does.1.queues (to, from)))
        where
          choice : (b : Bool) → same_queue (party, user) (to, from) ≡ b → queue_at queues (to, from)
              ≡ cond b (text_in (text_answer (first_of (queue_at queues (party, user)))).items) [] ++ cond b (others_of (queue_at queues (to, from))) (queue_at queues (to, from))
          choice true same =
              split (queue_at queues (to, from))
              ∙ ap (λ (key : ℕ × ℕ). text_in (text_answer (first_of (queue_at queues key))).items ++ others_of (queue_at queues (to, from))) (sym (queue_is (party, user) (to, from) same))
          choice false apart = refl

-- what a request does to the queues is what the relay does
pub by_history : (request : Request) (party : ℕ) (value answer : PlainArray) (old new : Queues) → request_of value ≡ request → DoesRequest request party old answer new → Relays old party value answer new
by_history (send user text) party value answer old new is does = λ replies held.
    let both = sends party value answer user text old new replies is held does in
    (subst (λ c. IsAnswerTo c party answer replies) (sym is) both.0, both.1)
by_history (take_from user) party value answer old new is does = λ replies held.
    let both = takes party value answer user old new replies is held does in
    (subst (λ c. IsAnswerTo c party answer replies) (sym is) both.0, both.1)
by_history waiting party value answer old new is does = λ replies held.
    let both = tells party value answer old new replies is held does in
    (subst (λ c. IsAnswerTo c party answer replies) (sym is) both.0, both.1)
by_history other party value answer old new is does = λ replies held.
    let both = refuses party value answer old new replies is held does in
    (subst (λ c. IsAnswerTo c party answer replies) (sym is) both.0, both.1)

-- queues that hold nothing hold what is left of nothing
pub nothing_yet : (queues : Queues) → queues ≡ [] → AreUntaken queues []
nothing_yet queues empty = subst (λ (qs : Queues). AreUntaken qs []) (sym empty) (record { texts = λ from to. refl; count = refl })

-- a run of the relay
pub run_is_relayed : (events : List Event) (end : Queues) → IsReplierRun (λ old party new. new ≡ old) Relays [] events end → AreRelayed (replies_among events) × AreUntaken end (replies_among events)
run_is_relayed [] end run = (tt, nothing_yet end run)
run_is_relayed (began party ∷ events) end run =
    let rest = run_is_relayed events run.0 run.1 in
    (rest.0, subst (λ (qs : Queues). AreUntaken qs (replies_among events)) (sym run.2) rest.1)
run_is_relayed (answered party value answer ∷ events) end run =
    let rest = run_is_relayed events run.0 run.1 in
    let step = run.2 (replies_among events) rest.1 in
    ((step.0, rest.0), step.1)

-- what was given is what was taken, and more
record Follows (from to : ℕ) (replies : List Reply) : Type 0 where
  left : List (List ℕ)
  whole : texts_given from to replies ≡ texts_taken from to replies ++ left

follows : (replies : List Reply) (from to : ℕ) → AreRelayed replies → Follows from to replies
follows [] from to relayed = record { left = []; whole = refl }
follows (last ∷ earlier) from to relayed =
    let before = follows earlier from to relayed.1 in
    by (eqb last.party to) refl (request_of last.value) refl relayed.0 before.left before.whole
  where
    -- nothing more was taken
    only_given : (left : List (List ℕ)) → texts_given from to earlier ≡ texts_taken from to earlier ++ left → taken_by from to last ≡ [] → Follows from to (last ∷ earlier)
    only_given left whole none = record {
      left = left ++ given_by from to last;
      whole =
          ap (λ texts. texts ++ given_by from to last) whole
          ∙ append_assoc (texts_taken from to earlier) left (given_by from to last)
          ∙ ap (λ texts. texts ++ (left ++ given_by from to last)) (sym (ap (λ texts. texts_taken from to earlier ++ texts) none ∙ append-nil (texts_taken from to earlier)));
    }

    -- what is taken is the next of what is left
    next_taken : (left : List (List ℕ)) → texts_given from to earlier ≡ texts_taken from to earlier ++ left → request_of last.value ≡ take_from from → eqb last.party to ≡ true → last.answer ≡ text_answer (next_text from to earlier) → Follows from to (last ∷ earlier)
    next_taken left whole is own told = at left whole
      where
        none_given : given_by from to last ≡ []
        none_given = ap (λ texts. cond (eqb last.party from && is_done last.answer) texts []) (ap (text_to to) is) ∙ nothing (eqb last.party from && is_done last.answer)

        own_taken : takes_from from (request_of last.value) ≡ true
        own_taken = ap (takes_from from) is ∙ eq-eqb from from refl

        next : (rest : List (List ℕ)) → texts_given from to earlier ≡ texts_taken from to earlier ++ rest → taken_by from to last ≡ text_in (text_answer (first_of rest)).items
        next rest whole =
            ap₂ (λ (b c : Bool). cond (b && c) (text_in last.answer.items) []) own own_taken
            ∙ ap (λ (a : PlainArray). text_in a.items) told
            ∙ ap (λ texts. text_in (text_answer (first_of (drop (length (texts_taken from to earlier)) texts))).items) whole
            ∙ ap (λ texts. text_in (text_answer (first_of texts)).items) (drop_at (texts_taken from to earlier) rest (length (texts_taken from to earlier)) refl)

        at : (rest : List (List ℕ)) → texts_given from to earlier ≡ texts_taken from to earlier ++ rest → Follows from to (last ∷ earlier)
        at [] whole = only_given [] whole (next [] whole)
        at (text ∷ rest) whole = record {
          left = rest;
          whole =
              ap₂ (λ (front texts : List (List ℕ)). front ++ texts) whole none_given
              ∙ append-nil (texts_taken from to earlier ++ text ∷ rest)
              ∙ sym (append_assoc (texts_taken from to earlier) (text ∷ []) rest)
              ∙ ap (λ texts. (texts_taken from to earlier ++ texts) ++ rest) (sym (next (text ∷ rest) whole));
        }

    not_taken_by : (request : Request) → request_of last.value ≡ request → takes_from from request ≡ false → taken_by from to last ≡ []
    not_taken_by request is none =
        ap (λ b. cond (eqb last.party to && b) (text_in last.answer.items) []) (ap (takes_from from) is ∙ none)
        ∙ ap (λ b. cond b (text_in last.answer.items) []) (and-false (eqb last.party to))

    by : (own : Bool) → eqb last.party to ≡ own → (request : Request) → request_of last.value ≡ request → IsAnswerTo (request_of last.value) last.party last.answer earlier
        → (left : List (List ℕ)) → texts_given from to earlier ≡ texts_taken from to earlier ++ left → Follows from to (last ∷ earlier)
    by false strange request is told left whole =
        only_given left whole (ap (λ b. cond (b && takes_from from (request_of last.value)) (text_in last.answer.items) []) strange)
    by true own (send user text) is told left whole = only_given left whole (not_taken_by (send user text) is refl)
    by true own waiting is told left whole = only_given left whole (not_taken_by waiting is refl)
    by true own other is told left whole = only_given left whole (not_taken_by other is refl)
    by true own (take_from user) is told left whole = of (eqb user from) refl
      where
        of : (b : Bool) → eqb user from ≡ b → Follows from to (last ∷ earlier)
        of false another = only_given left whole (not_taken_by (take_from user) is another)
        of true same =
            let user_is : user ≡ from = eqb-true user from same in
            let asked : request_of last.value ≡ take_from from = is ∙ ap take_from user_is in
            let answered_so : last.answer ≡ text_answer (next_text from last.party earlier) = subst (λ c. IsAnswerTo c last.party last.answer earlier) asked told in
            next_taken left whole asked own (answered_so ∙ ap (λ party. text_answer (next_text from party earlier)) (eqb-true last.party to own))

-- what is taken is a front part of what was given
pub taken_in_order : (replies : List Reply) (from to : ℕ) → AreRelayed replies
    → (length (texts_taken from to replies) ≤ length (texts_given from to replies)) × (texts_taken from to replies ≡ take (length (texts_taken from to replies)) (texts_given from to replies))
taken_in_order replies from to relayed =
    let parts = follows replies from to relayed in (
      omega (arith, ap length parts.whole, length-append (texts_taken from to replies) parts.left),
      sym (ap (take (length (texts_taken from to replies))) parts.whole ∙ take_at (texts_taken from to replies) parts.left (length (texts_taken from to replies)) refl),
    )
