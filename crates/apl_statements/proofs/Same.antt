-- What is to come is the same at one place, and parts that were done or refused there.
use Rattle.std.proofs.Common.{◌≡◌, ℕ, ◌+◌, List, sym, ap, subst, ◌∙◌, arith}
use Rattle.std.specs.Prelude.{Result, Ok, Err}
use Rattle.apl_arrays.specs.declared.report.Fail.{Fail}
use Rattle.apl_arrays.specs.declared.report.Fail.TheVariants as fail
use Rattle.sv_events.specs.Answer.{PlainAnswer}
use Rattle.sv_events.specs.declared.event.Act.{Act}
use Rattle.apl_meaning.specs.State.{State, Effect, and_then}
use Rattle.apl_meaning.specs.Meaning.{closed}
use Rattle.apl_statements.specs.declared.flow.Flow.{Flow}
use Rattle.apl_statements.specs.Interpreter.{PlainInterpreter, state_at}
use Rattle.apl_statements.specs.Moves.{Coming, Comes, Does, Moves}

-- the same is to come by two where an interpreter is
abbrev pub SameAt : PlainInterpreter → Coming → Coming → Type 0
SameAt m coming left = (asked : List Act) (count : ℕ) (taken : List (List ℕ)) (further : List PlainAnswer) → coming (state_at m asked count taken further) ≡ left (state_at m asked count taken further)

-- then nothing has to be done
pub at_once : (m : PlainInterpreter) (coming left : Coming) → SameAt m coming left → Moves m coming 0 m left
at_once m coming left same = record {
  same = λ asked count taken further.
      let e : count ≡ count + 0 = omega arith in
      ap closed (same asked count taken further) ∙ ap (λ (c : ℕ). closed (left (state_at m asked c taken further))) e;
}

-- and what comes of one comes of the other
pub moves_as : (m n : PlainInterpreter) (coming left rest : Coming) (b : ℕ) → SameAt m coming left → Moves m left b n rest → Moves m coming b n rest
moves_as m n coming left rest b same moves = record { same = λ asked count taken further. ap closed (same asked count taken further) ∙ moves.same asked count taken further }

pub comes_as : (m n : PlainInterpreter) (coming left : Coming) (b : ℕ) (r : Result Flow Fail) → SameAt m coming left → Comes m left b n r → Comes m coming b n r
comes_as m n coming left b (Ok next) same comes = record { same = λ asked count taken further. ap closed (same asked count taken further) ∙ comes.same asked count taken further }
comes_as m n coming left b (Err (fail.Report report)) same comes = record { same = λ asked count taken further. ap closed (same asked count taken further) ∙ comes.same asked count taken further }
comes_as m n coming left b (Err fail.WantOfMemory) same comes = tt

-- a part that was done, and what is to come behind it
pub behind_done : (m n : PlainInterpreter) (part : State → Effect) (rest : Coming) → Does m part n → Moves m (λ s. and_then (part s) (λ _ t. rest t)) 0 n rest
behind_done m n part rest done = record {
  same = λ asked count taken further.
      let e : count ≡ count + 0 = omega arith in
      ap (λ (o : Effect). closed (and_then o (λ _ t. rest t))) (done.same asked count taken further) ∙ ap (λ (c : ℕ). closed (rest (state_at n asked c taken further))) e;
}

-- from one interpreter to another, where what is to come of the first is what is to come of the other
abbrev pub SameFrom : PlainInterpreter → Coming → PlainInterpreter → Coming → Type 0
SameFrom m coming n left = (asked : List Act) (count : ℕ) (taken : List (List ℕ)) (further : List PlainAnswer) → coming (state_at m asked count taken further) ≡ left (state_at n asked count taken further)

pub moves_to : (m n : PlainInterpreter) (coming left : Coming) → SameFrom m coming n left → Moves m coming 0 n left
moves_to m n coming left same = record {
  same = λ asked count taken further.
      let e : count ≡ count + 0 = omega arith in
      ap closed (same asked count taken further) ∙ ap (λ (c : ℕ). closed (left (state_at n asked c taken further))) e;
}

-- what is left is the same by an equation
pub moves_then : (m n : PlainInterpreter) (coming left rest : Coming) (b : ℕ) → ((s : State) → left s ≡ rest s) → Moves m coming b n left → Moves m coming b n rest
moves_then m n coming left rest b same moves = record { same = λ asked count taken further. moves.same asked count taken further ∙ ap closed (same (state_at n asked (count + b) taken further)) }

-- what a `?` hands out is what ended the line
pub comes_exit : (m n : PlainInterpreter) (coming : Coming) (k : ℕ) (r : Result Flow Fail) (y why : Fail) → r ≡ Err y → y ≡ why → Comes m coming k n (Err why) → Comes m coming k n r
comes_exit m n coming k r y why exit same comes = subst (λ (x : Result Flow Fail). Comes m coming k n x) (sym exit) (subst (λ (w : Fail). Comes m coming k n (Err w)) (sym same) comes)
