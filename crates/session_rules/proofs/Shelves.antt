-- Calls of a shelf, one after another, and what a command takes of them.
use Rattle.std.proofs.Common.{◌≡◌, ℕ, List, [], ◌∷◌, ◌++◌, map, reverse, refl, sym, ap, ap₂, subst, ◌∙◌}
use Rattle.std.proofs.lemmas.List.{map-append, reverse-append}
use Rattle.std.specs.Prelude.{Option, Some, Result, Ok, Err}
use Rattle.apl_io.specs.Content.{Told}
use Rattle.apl_io.specs.declared.store_error.StoreError.{StoreError}
use Rattle.apl_io.specs.declared.store_error.StoreError.TheVariants.{Failed, WantOfMemory}
use Rattle.sv_events.specs.Answer.{PlainAnswer}
use Rattle.sv_events.specs.declared.event.Act.{Act}
use Rattle.ws_commands.specs.Shelf.{CountsFaults, FollowsCall, IsCall, TakesStep}
use Rattle.ws_commands.specs.Step.{Step, does, reads, writes, removes, lists}
use Rattle.ws_commands.specs.Todo.{PlainTodo, faulted}
use Rattle.apl_terminal.specs.Terminal.{PlainTerminal}
use Rattle.session_rules.specs.Commands.{shelf_called, shelf_step_done, todo_done}
use Rattle.session_rules.specs.Course.{course_at}
use Rattle.session_rules.specs.Shelf.{Call, Exchange, IsReplied, IsShelfRun, ShelfReply, Serves, browse, browsed, call_of, discard, discarded, failed, fetch, fetched, shelf_replies_in, store, stored, todo_by}

-- the replies of later exchanges come behind those of earlier ones
pub replies_behind : (more earlier : List Exchange) → shelf_replies_in (more ++ earlier) ≡ shelf_replies_in earlier ++ shelf_replies_in more
replies_behind more earlier =
    ap reverse (map-append (λ (e : Exchange). e.reply) more earlier) ∙ reverse-append (map (λ (e : Exchange). e.reply) more) (map (λ (e : Exchange). e.reply) earlier)

module _ {K : Type 0} (told : K → Option (Told (ℕ × List ℕ))) (faults : K → ℕ) (user : ℕ) where
  -- later exchanges lead on from where earlier ones led
  pub run_on : (start between : K) (earlier more : List Exchange) (end : K) → IsShelfRun told faults user start earlier between → IsShelfRun told faults user between more end → IsShelfRun told faults user start (more ++ earlier) end
  run_on start between earlier [] end run then' = subst (λ (k : K). IsShelfRun told faults user start earlier k) (sym then') run
  run_on start between earlier (exchange ∷ more) end run (before, led, served) = (before, run_on start between earlier more before run led, served)

  -- what a step takes of the shelf: no exchange or one, by which the shelf was led on, and behind which is done what is to be done
  pub record IsStepped (line : List ℕ) (step : Step) (todo : PlainTodo) (old new : K) : Type 0 where
    pub more : List Exchange
    pub run : IsShelfRun told faults user old more new
    pub same : (t : PlainTerminal) (acts : List Act) (exchanges : List Exchange) (further : List PlainAnswer) (rest : List ShelfReply)
        → shelf_step_done line step (course_at t acts exchanges further (shelf_replies_in more ++ rest)) ≡ todo_done line todo (course_at t acts (more ++ exchanges) further rest)

  -- a step that is a call, and its reply
  replied : (line : List ℕ) (step : Step) (todo : PlainTodo) (call : Call) (reply : ShelfReply) (old new : K) → call_of step ≡ Some call → todo_by step reply ≡ todo → Serves told faults user call old reply new → IsStepped line step todo old new
  replied line step todo call reply old new is by served = record {
    more = record { call = call; reply = reply } ∷ [];
    run = (old, refl, served);
    same = λ t acts exchanges further rest.
        ap₂ (λ (o : Option Call) (found : PlainTodo). todo_done line found (shelf_called o (course_at t acts exchanges further (reply ∷ rest)))) is by;
  }

  module _ {T : Type 0} (line : List ℕ) (step : Step) (call : Call) (said : T → ShelfReply) (next : T → PlainTodo) (Tells : Option (Told (ℕ × List ℕ)) → Result T StoreError → Option (Told (ℕ × List ℕ)) → Type 0) (old : K) (todo : PlainTodo) (new : K)
      (is : call_of step ≡ Some call) (goes : (found : T) → todo_by step (said found) ≡ next found) (fails : todo_by step failed ≡ faulted)
      (serves : (reply : ShelfReply) → IsReplied told faults Tells said old reply new → Serves told faults user call old reply new) where
    answered : (answer : Result T StoreError) → Tells (told old) answer (told new) → CountsFaults (faults old) (faults new) answer → FollowsCall next answer todo → IsStepped line step todo old new
    answered (Ok found) tells counts after =
        replied line step todo call (said found) old new is (goes found ∙ sym after) (serves (said found) (record { answer = Ok found; told_answer = tells; fault = counts; is_reply = refl }))
    answered (Err Failed) tells counts after =
        replied line step todo call failed old new is (fails ∙ sym after) (serves failed (record { answer = Err Failed; told_answer = tells; fault = counts; is_reply = refl }))
    answered (Err WantOfMemory) tells counts after = absurd after

    called_so : IsCall told faults Tells next old todo new → IsStepped line step todo old new
    called_so h = answered h.answer h.told_answer h.fault h.after

  -- so it is with every step
  pub stepped : (line : List ℕ) (step : Step) (old : K) (todo : PlainTodo) (new : K) → TakesStep told faults user step old todo new → IsStepped line step todo old new
  stepped line (does wanted) old todo new h = record {
    more = [];
    run = h.1;
    same = λ t acts exchanges further rest. ap (λ (found : PlainTodo). todo_done line found (course_at t acts exchanges further rest)) (sym h.0);
  }
  stepped line (reads name next) old todo new h = called_so line (reads name next) (fetch name) fetched next _ old todo new refl (λ found. refl) refl (λ reply served. served) h
  stepped line (writes name bytes wanted) old todo new h = called_so {T = Unit {0}} line (writes name bytes wanted) (store name bytes) (λ _. stored) (λ _. wanted) _ old todo new refl (λ found. refl) refl (λ reply served. served) h
  stepped line (removes name next) old todo new h = called_so line (removes name next) (discard name) discarded next _ old todo new refl (λ found. refl) refl (λ reply served. served) h
  stepped line (lists next) old todo new h = called_so line (lists next) browse browsed next _ old todo new refl (λ found. refl) refl (λ reply served. served) h
