-- A part of an evaluation is steady: it takes its answers one by each act, those that it does not take come back, and what came of it with fewer answers is the beginning of what comes of it with more. Parts one after another are steady where each is.
use Rattle.std.proofs.Common.{◌≡◌, ℕ, ◌≤◌, Bool, true, false, cond, length, List, [], ◌∷◌, ◌++◌, refl, sym, ap, subst, ◌∙◌, arith, append-nil, append_assoc}
use Rattle.std.proofs.lemmas.List.{length-append}
use Rattle.std.proofs.lemmas.List.Sums.{count_by-le-length, sum_by-append, sum_by-cons}
use Rattle.std.specs.Prelude.{Option, Some, None, Result, Ok, Err, count_by, is_some, nat_le, if◌then◌else◌}
use Rattle.apl_arrays.specs.declared.report.Report.{Report}
use Rattle.apl_arrays.specs.declared.report.Report.TheVariants.{WsFull}
use Rattle.apl_workspace.specs.Limits.{most_weight}
use Rattle.apl_workspace.specs.Workspace.{PlainWorkspace, workspace_weight}
use Rattle.sv_events.specs.Answer.{PlainAnswer}
use Rattle.sv_events.specs.declared.event.Act.{Act}
use Rattle.apl_meaning.specs.State.{State, Outcome, gives, refuses, asks, and_then, state_of, outcome_of, with_workspace}
use Rattle.apl_meaning.specs.Answers.{answered_act, report_of_kind, answer_taken_from, unless_ended}
use Rattle.sv_events.specs.Fits.{ends_all}
use Rattle.sv_events.specs.Row.{act_row, answer_row}
use Rattle.apl_meaning.specs.Laws.{with_more, IsOver, and_more, IsAfter, GoesOnIn, Takes, WaitsInNeed, is_reported}

-- a part is steady
pub record IsSteady {T : Type 0} (f : State → Outcome T) : Type 0 where
  pub back : (s : State) (more : List PlainAnswer) → IsOver (f s) → f (with_more more s) ≡ and_more more (f s)
  pub after : (s : State) → IsAfter s (state_of (f s))
  pub further : (s : State) (more : List PlainAnswer) → IsAfter (state_of (f s)) (state_of (f (with_more more s)))
  pub takes : (s : State) → Takes s (f s)
  pub next : (s : State) (answer : PlainAnswer) (more : List PlainAnswer) → GoesOnIn (f s) (f (with_more (answer ∷ more) s))

-- ---- one state after another

-- nothing more was printed, asked or counted
pub as_before : (s t : State) → t.printed ≡ s.printed → t.asked ≡ s.asked → s.applications ≤ t.applications → t.statements ≤ s.statements → IsAfter s t
as_before s t printed asked counted left = record {
  lines = [];
  printed = printed ∙ sym (append-nil s.printed);
  acts = [];
  asked = asked ∙ sym (append-nil s.asked);
  applications = counted;
  statements = left;
}

pub itself : (s : State) → IsAfter s s
itself s = as_before s s refl refl (omega arith) (omega arith)

pub later : {s t u : State} → IsAfter s t → IsAfter t u → IsAfter s u
later {s} {t} {u} h k = record {
  lines = h.lines ++ k.lines;
  printed = k.printed ∙ ap (λ (before : List (List ℕ)). before ++ k.lines) h.printed ∙ append_assoc s.printed h.lines k.lines;
  acts = h.acts ++ k.acts;
  asked = k.asked ∙ ap (λ (before : List Act). before ++ k.acts) h.asked ∙ append_assoc s.asked h.acts k.acts;
  applications = omega (arith, h.applications, k.applications);
  statements = omega (arith, h.statements, k.statements);
}

-- what is after a state with more answers is after the state
pub without_more : (s t : State) (more : List PlainAnswer) → IsAfter (with_more more s) t → IsAfter s t
without_more s t more h = record { lines = h.lines; printed = h.printed; acts = h.acts; asked = h.asked; applications = h.applications; statements = h.statements }

-- ---- parts that ask nothing

state_more : {T : Type 0} (o : Outcome T) (more : List PlainAnswer) → IsOver o → state_of (and_more more o) ≡ with_more more (state_of o)
state_more (gives v s) more over = refl
state_more (refuses r s) more over = refl
state_more (asks a s) more over = absurd over

in_no_need : {T : Type 0} (o : Outcome T) → IsOver o → WaitsInNeed o
in_no_need (gives v s) over = tt
in_no_need (refuses r s) over = tt
in_no_need (asks a s) over = absurd over

over_goes_on : {A B : Type 0} (o : Outcome A) (p : Outcome B) → IsOver o → GoesOnIn o p
over_goes_on (gives v s) p over = tt
over_goes_on (refuses r s) p over = tt
over_goes_on (asks a s) p over = absurd over

-- nothing was asked, and no answer taken
takes_none : {T : Type 0} (s : State) (o : Outcome T) → IsOver o → (state_of o).asked ≡ s.asked → (state_of o).answers ≡ s.answers → Takes s o
takes_none s o over asked answers = record {
  taken = [];
  acts = [];
  answers = sym answers;
  asked = asked ∙ sym (append-nil s.asked);
  one_by_one = refl;
  reported = omega arith;
  in_need = in_no_need o over;
}

-- a part that asks nothing is steady where answers come back and nothing is undone
pub quiet : {T : Type 0} {f : State → Outcome T} → ((s : State) → IsOver (f s)) → ((s : State) (more : List PlainAnswer) → f (with_more more s) ≡ and_more more (f s))
    → ((s : State) → IsAfter s (state_of (f s))) → ((s : State) → (state_of (f s)).asked ≡ s.asked) → ((s : State) → (state_of (f s)).answers ≡ s.answers) → IsSteady f
quiet {T} {f} over back after asked answers = record {
  back = λ s more _. back s more;
  after = after;
  further = λ s more.
      let is : state_of (f (with_more more s)) ≡ with_more more (state_of (f s)) = ap state_of (back s more) ∙ state_more (f s) more (over s) in
      subst (λ (t : State). IsAfter (state_of (f s)) t) (sym is) (as_before (state_of (f s)) (with_more more (state_of (f s))) refl refl (omega arith) (omega arith));
  takes = λ s. takes_none s (f s) (over s) (asked s) (answers s);
  next = λ s answer more. over_goes_on (f s) (f (with_more (answer ∷ more) s)) (over s);
}

pub given : {T : Type 0} (v : T) → IsSteady (λ (s : State). gives v s)
given v = quiet (λ s. tt) (λ s more. refl) (λ s. itself s) (λ s. refl) (λ s. refl)

pub refused : {T : Type 0} (r : Report) → IsSteady {T = T} (λ (s : State). refuses r s)
refused r = quiet (λ s. tt) (λ s more. refl) (λ s. itself s) (λ s. refl) (λ s. refl)

pub resulting : {T : Type 0} (r : Result T Report) → IsSteady (λ (s : State). outcome_of r s)
resulting (Ok v) = given v
resulting (Err r) = refused r

-- a part that changes the workspace
pub changed : {T : Type 0} (v : T) (w : PlainWorkspace → PlainWorkspace) → IsSteady (λ (s : State). gives v (record s { workspace = w s.workspace }))
changed v w = quiet (λ s. tt) (λ s more. refl) (λ s. as_before s (record s { workspace = w s.workspace }) refl refl (omega arith) (omega arith)) (λ s. refl) (λ s. refl)

-- ---- parts that go by something

pub by_bool : {T : Type 0} (b : Bool) {f g : State → Outcome T} → IsSteady f → IsSteady g → IsSteady (λ (s : State). if b then f s else g s)
by_bool true hf hg = hf
by_bool false hf hg = hg

pub by_workspace : {T : Type 0} {f : PlainWorkspace → State → Outcome T} → ((w : PlainWorkspace) → IsSteady (f w)) → IsSteady (λ (s : State). f s.workspace s)
by_workspace {T} {f} h = record {
  back = λ s more over. (h s.workspace).back s more over;
  after = λ s. (h s.workspace).after s;
  further = λ s more. (h s.workspace).further s more;
  takes = λ s. (h s.workspace).takes s;
  next = λ s answer more. (h s.workspace).next s answer more;
}

pub by_here : {T : Type 0} {f : List ℕ → State → Outcome T} → ((here : List ℕ) → IsSteady (f here)) → IsSteady (λ (s : State). f s.here s)
by_here {T} {f} h = record {
  back = λ s more over. (h s.here).back s more over;
  after = λ s. (h s.here).after s;
  further = λ s more. (h s.here).further s more;
  takes = λ s. (h s.here).takes s;
  next = λ s answer more. (h s.here).next s answer more;
}

-- what was taken from one state on was taken from another with the same acts and answers
pub takes_from : {T : Type 0} (s t : State) (o : Outcome T) → t.answers ≡ s.answers → t.asked ≡ s.asked → Takes s o → Takes t o
takes_from s t o answers asked k = record {
  taken = k.taken;
  acts = k.acts;
  answers = answers ∙ k.answers;
  asked = k.asked ∙ ap (λ (before : List Act). before ++ k.acts) (sym asked);
  one_by_one = k.one_by_one;
  reported = k.reported;
  in_need = k.in_need;
}

-- a part that begins with another second line of reports
pub shown_at : {T : Type 0} {f : State → Outcome T} (here : List ℕ) → IsSteady f → IsSteady (λ (s : State). f (record s { here = here }))
shown_at {T} {f} here h = record {
  back = λ s more over. h.back (record s { here = here }) more over;
  after = λ s. later (as_before s (record s { here = here }) refl refl (omega arith) (omega arith)) (h.after (record s { here = here }));
  further = λ s more. h.further (record s { here = here }) more;
  takes = λ s. takes_from (record s { here = here }) s (f (record s { here = here })) refl refl (h.takes (record s { here = here }));
  next = λ s answer more. h.next (record s { here = here }) answer more;
}

weighed_by : (b : Bool) (w : PlainWorkspace) → IsSteady {T = Unit {0}} (λ (s : State). if b then gives tt (record s { workspace = w }) else refuses WsFull s)
weighed_by true w = changed {T = Unit {0}} tt (λ _. w)
weighed_by false w = refused WsFull

-- another workspace, unless it would weigh too much
pub weighed : (w : PlainWorkspace → PlainWorkspace) → IsSteady {T = Unit {0}} (λ (s : State). with_workspace (w s.workspace) s)
weighed w = by_workspace (λ v. weighed_by (nat_le (workspace_weight (w v)) most_weight) (w v))

-- ---- one part after another

back_joined : {A B : Type 0} (g : A → State → Outcome B) → ((v : A) → IsSteady (g v)) → (more : List PlainAnswer) (o p : Outcome A) → (IsOver o → p ≡ and_more more o)
    → IsOver (and_then o g) → and_then p g ≡ and_more more (and_then o g)
back_joined {A} {B} g h more (gives v t) p is over = ap (λ (x : Outcome A). and_then x g) (is tt) ∙ (h v).back t more over
back_joined {A} {B} g h more (refuses r t) p is over = ap (λ (x : Outcome A). and_then x g) (is tt)
back_joined {A} {B} g h more (asks a t) p is over = absurd over

after_joined : {A B : Type 0} (g : A → State → Outcome B) → ((v : A) → IsSteady (g v)) → (s : State) (o : Outcome A) → IsAfter s (state_of o) → IsAfter s (state_of (and_then o g))
after_joined g h s (gives v t) k = later k ((h v).after t)
after_joined g h s (refuses r t) k = k
after_joined g h s (asks a t) k = k

further_joined : {A B : Type 0} (g : A → State → Outcome B) → ((v : A) → IsSteady (g v)) → (more : List PlainAnswer) (o p : Outcome A) → (IsOver o → p ≡ and_more more o) → IsAfter (state_of o) (state_of p)
    → IsAfter (state_of (and_then o g)) (state_of (and_then p g))
further_joined {A} {B} g h more (gives v t) p is k = subst (λ (x : Outcome A). IsAfter (state_of (g v t)) (state_of (and_then x g))) (sym (is tt)) ((h v).further t more)
further_joined {A} {B} g h more (refuses r t) p is k = subst (λ (x : Outcome A). IsAfter t (state_of (and_then x g))) (sym (is tt)) (as_before t (with_more more t) refl refl (omega arith) (omega arith))
further_joined {A} {B} g h more (asks a t) p is k = after_joined g h t p k

-- what two parts take, one after the other
takes_both : {B : Type 0} (s t : State) (o : Outcome B) (taken : List PlainAnswer) (acts : List Act) → s.answers ≡ taken ++ t.answers → t.asked ≡ s.asked ++ acts → length acts ≡ length taken → count_by is_reported taken ≤ 0 → Takes t o → Takes s o
takes_both s t o taken acts answers asked one_by_one reported k = record {
  taken = taken ++ k.taken;
  acts = acts ++ k.acts;
  answers = answers ∙ ap (λ (rest : List PlainAnswer). taken ++ rest) k.answers ∙ sym (append_assoc taken k.taken (state_of o).answers);
  asked = k.asked ∙ ap (λ (before : List Act). before ++ k.acts) asked ∙ append_assoc s.asked acts k.acts;
  one_by_one = omega (arith, length-append acts k.acts, length-append taken k.taken, one_by_one, k.one_by_one);
  reported = omega (arith, sum_by-append (λ (found : PlainAnswer). cond (is_reported found) 1 0) taken k.taken, reported, k.reported);
  in_need = k.in_need;
}

takes_joined : {A B : Type 0} (g : A → State → Outcome B) → ((v : A) → IsSteady (g v)) → (s : State) (o : Outcome A) → Takes s o → Takes s (and_then o g)
takes_joined g h s (gives v t) k = takes_both s t (g v t) k.taken k.acts k.answers k.asked k.one_by_one k.reported ((h v).takes t)
takes_joined g h s (refuses r t) k = record { taken = k.taken; acts = k.acts; answers = k.answers; asked = k.asked; one_by_one = k.one_by_one; reported = k.reported; in_need = tt }
takes_joined g h s (asks a t) k = record { taken = k.taken; acts = k.acts; answers = k.answers; asked = k.asked; one_by_one = k.one_by_one; reported = k.reported; in_need = k.in_need }

-- an act that waited is answered next, whatever comes behind it
asked_next : (t u v : State) (act : Act) → (acts : List Act) × (u.asked ≡ t.asked ++ act ∷ acts) → IsAfter u v → (acts : List Act) × (v.asked ≡ t.asked ++ act ∷ acts)
asked_next t u v act n k = (n.0 ++ k.acts, k.asked ∙ ap (λ (before : List Act). before ++ k.acts) n.1 ∙ append_assoc t.asked (act ∷ n.0) k.acts)

next_joined : {A B : Type 0} (g : A → State → Outcome B) → ((v : A) → IsSteady (g v)) → (answer : PlainAnswer) (more : List PlainAnswer) (o p : Outcome A) → (IsOver o → p ≡ and_more (answer ∷ more) o) → GoesOnIn o p
    → GoesOnIn (and_then o g) (and_then p g)
next_joined {A} {B} g h answer more (gives v t) p is n = subst (λ (x : Outcome A). GoesOnIn (g v t) (and_then x g)) (sym (is tt)) ((h v).next t answer more)
next_joined {A} {B} g h answer more (refuses r t) p is n = tt
next_joined {A} {B} g h answer more (asks a t) p is n = asked_next t (state_of p) (state_of (and_then p g)) a n (after_joined g h (state_of p) p (itself (state_of p)))

pub both : {A B : Type 0} {f : State → Outcome A} {g : A → State → Outcome B} → IsSteady f → ((v : A) → IsSteady (g v)) → IsSteady (λ (s : State). and_then (f s) g)
both {A} {B} {f} {g} hf hg = record {
  back = λ s more over. back_joined g hg more (f s) (f (with_more more s)) (hf.back s more) over;
  after = λ s. after_joined g hg s (f s) (hf.after s);
  further = λ s more. further_joined g hg more (f s) (f (with_more more s)) (hf.back s more) (hf.further s more);
  takes = λ s. takes_joined g hg s (f s) (hf.takes s);
  next = λ s answer more. next_joined g hg answer more (f s) (f (with_more (answer ∷ more) s)) (hf.back s (answer ∷ more)) (hf.next s answer more);
}

-- ---- an act and its answer

taken_back : (list : List PlainAnswer) (act : Act) (s : State) (more : List PlainAnswer) → IsOver (answer_taken_from list act s) → answer_taken_from (list ++ more) act (with_more more s) ≡ and_more more (answer_taken_from list act s)
taken_back [] act s more over = absurd over
taken_back (answer ∷ list) act s more over = refl

taken_after : (list : List PlainAnswer) (act : Act) (s : State) → IsAfter s (state_of (answer_taken_from list act s))
taken_after [] act s = itself s
taken_after (answer ∷ list) act s = record { lines = []; printed = sym (append-nil s.printed); acts = act ∷ []; asked = refl; applications = omega arith; statements = omega arith }

taken_further : (list : List PlainAnswer) (act : Act) (s : State) (more : List PlainAnswer) → IsAfter (state_of (answer_taken_from list act s)) (state_of (answer_taken_from (list ++ more) act (with_more more s)))
taken_further [] act s more = without_more s (state_of (answer_taken_from more act (with_more more s))) more (taken_after more act (with_more more s))
taken_further (answer ∷ list) act s more = as_before (state_of (answer_taken_from (answer ∷ list) act s)) (state_of (answer_taken_from (answer ∷ list ++ more) act (with_more more s))) refl refl (omega arith) (omega arith)

unended : (ended : Option Report) (answer : PlainAnswer) → IsSteady (unless_ended ended answer)
unended None answer = given answer
unended (Some report) answer = refused report

-- how an act with its answer goes on
abbrev ended_by : PlainAnswer → State → Outcome PlainAnswer
ended_by answer s = unless_ended (report_of_kind (answer_row answer).row.kind) answer s

-- an act takes the first answer, and is reported where the answer is; where there is none, the act waits
answer_takes : (act : Act) (s : State) (answer : PlainAnswer) (list : List PlainAnswer) (ended : Option Report) → ended ≡ report_of_kind (answer_row answer).row.kind → s.answers ≡ answer ∷ list
    → Takes s (unless_ended ended answer (record s { asked = s.asked ++ act ∷ []; answers = list }))
answer_takes act s answer list None e is = record {
  taken = answer ∷ [];
  acts = act ∷ [];
  answers = is;
  asked = refl;
  one_by_one = refl;
  reported = omega (arith, sum_by-cons (λ (found : PlainAnswer). cond (is_reported found) 1 0) answer [], ap {B = ℕ} (λ (o : Option Report). cond (is_some o) 1 0) (sym e));
  in_need = tt;
}
answer_takes act s answer list (Some report) e is = record {
  taken = answer ∷ [];
  acts = act ∷ [];
  answers = is;
  asked = refl;
  one_by_one = refl;
  reported = omega (arith, count_by-le-length is_reported (answer ∷ []));
  in_need = tt;
}

act_takes : (list : List PlainAnswer) (act : Act) (s : State) → ends_all (act_row act).row.ends ≡ false → s.answers ≡ list → Takes s (and_then (answer_taken_from list act s) ended_by)
act_takes [] act s stays is = record {
  taken = [];
  acts = [];
  answers = refl;
  asked = sym (append-nil s.asked);
  one_by_one = refl;
  reported = omega arith;
  in_need = (is, stays);
}
act_takes (answer ∷ list) act s stays is = answer_takes act s answer list _ refl is

answered_next : (act : Act) (s t : State) (answer : PlainAnswer) (ended : Option Report) → t.asked ≡ s.asked ++ act ∷ [] → (acts : List Act) × ((state_of (unless_ended ended answer t)).asked ≡ s.asked ++ act ∷ acts)
answered_next act s t answer None e = ([], e)
answered_next act s t answer (Some report) e = ([], e)

over_then : (ended : Option Report) (answer : PlainAnswer) (s : State) → IsOver (unless_ended ended answer s)
over_then None answer s = tt
over_then (Some report) answer s = tt

act_goes_on : (list : List PlainAnswer) (act : Act) (s : State) (answer : PlainAnswer) (more : List PlainAnswer)
    → GoesOnIn (and_then (answer_taken_from list act s) ended_by) (and_then (answer_taken_from (list ++ answer ∷ more) act (with_more (answer ∷ more) s)) ended_by)
act_goes_on [] act s answer more = answered_next act s (record s { asked = s.asked ++ act ∷ []; answers = more }) answer (report_of_kind (answer_row answer).row.kind) refl
act_goes_on (first ∷ list) act s answer more =
    over_goes_on (ended_by first (record s { asked = s.asked ++ act ∷ []; answers = list })) (ended_by first (record s { asked = s.asked ++ act ∷ []; answers = list ++ answer ∷ more })) (over_then (report_of_kind (answer_row first).row.kind) first (record s { asked = s.asked ++ act ∷ []; answers = list }))

pub answered : (act : Act) → ends_all (act_row act).row.ends ≡ false → IsSteady (answered_act act)
answered act stays = record {
  back = λ s more over. back_joined ended_by (λ answer. unended _ answer) more (answer_taken_from s.answers act s) (answer_taken_from (s.answers ++ more) act (with_more more s)) (taken_back s.answers act s more) over;
  after = λ s. after_joined ended_by (λ answer. unended _ answer) s (answer_taken_from s.answers act s) (taken_after s.answers act s);
  further = λ s more. further_joined ended_by (λ answer. unended _ answer) more (answer_taken_from s.answers act s) (answer_taken_from (s.answers ++ more) act (with_more more s)) (taken_back s.answers act s more) (taken_further s.answers act s more);
  takes = λ s. act_takes s.answers act s stays refl;
  next = λ s answer more. act_goes_on s.answers act s answer more;
}
