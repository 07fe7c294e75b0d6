-- How a machine stops where its run paused, or where a report ended the line.
use Rattle.std.proofs.Common.{ℕ, refl, sym, subst}
use Rattle.std.specs.Prelude.{Ok, Err}
use Rattle.apl_arrays.specs.declared.report.Fail.{Fail}
use Rattle.apl_arrays.specs.declared.report.Fail.TheVariants as fail
use Rattle.sv_events.specs.declared.event.Act.{Act}
use Rattle.apl_values.specs.Pending.{act_for_purpose, plain_act_purpose}
use Rattle.apl_statements.specs.declared.flow.Pause.{Pause}
use Rattle.apl_statements.specs.declared.flow.Pause.TheVariants as pause
use Rattle.apl_statements.specs.Evaluating.{caller_of}
use Rattle.apl_statements.specs.Interpreter.{PlainInterpreter, here}
use Rattle.apl_statements.specs.Moves.{ComesToPause}
use Rattle.apl_statements.specs.Sound.{IsPause}
use Rattle.apl_machine.specs.declared.flow.Stop.{Stop}
use Rattle.apl_machine.specs.Machine.{PlainMachine, idle, is_open, machine_after, still_to_come}
use Rattle.apl_machine.specs.Runs.{AsksThere, EndsBy, EndsDone, StopsAs}
use Rattle.apl_machine.specs.Stops.{EndsAs, PausesAs}
use Rattle.apl_machine.proofs.Standing.{comes_to_act, comes_to_end, comes_to_report, stands_on}

-- at a pause
pub stops_at_pause : (before : PlainMachine) (counted : ℕ) (m : PlainInterpreter) (paused : Pause) (after : PlainMachine) (stopped : Stop) → ComesToPause before.interpreter (still_to_come before) counted m (Ok paused) → IsPause m paused → PausesAs m paused after stopped → StopsAs before counted after stopped
stops_at_pause before counted m pause.Ends after stopped comes sound so =
    let n : PlainMachine = record { interpreter = m; stage = idle } in
    let done : EndsDone before counted n = record { comes = comes_to_end before m counted idle comes; idle = record { stage = refl; stack = sound.0; frames = sound.1 } } in
    subst (λ (after : PlainMachine). StopsAs before counted after stopped) (sym so.1) (subst (λ (stopped : Stop). StopsAs before counted n stopped) (sym so.0) done)
stops_at_pause before counted m (pause.Opens for_this e) after stopped comes sound so =
    let n : PlainMachine = record { interpreter = m; stage = is_open (plain_act_purpose for_this.value) (caller_of m.workspace (here m) e) } in
    let asked : Act = act_for_purpose (plain_act_purpose for_this.value) m.workspace in
    let asks : AsksThere asked before counted n = record { comes = comes_to_act before n counted asked comes refl; stands = stands_on before n counted comes; is_open = refl } in
    subst (λ (after : PlainMachine). StopsAs before counted after stopped) (sym so.1) (subst (λ (stopped : Stop). StopsAs before counted n stopped) (sym so.0) asks)

-- at a report
pub stops_by_report : (before : PlainMachine) (counted : ℕ) (m : PlainInterpreter) (why : Fail) (after : PlainMachine) (stopped : Stop) → ComesToPause before.interpreter (still_to_come before) counted m (Err why) → EndsAs m why after stopped → StopsAs before counted after stopped
stops_by_report before counted m (fail.Report report) after stopped comes so =
    let n : PlainMachine = machine_after report m in
    let ends : EndsBy report before counted n = record { shown = here m; comes = comes_to_report before m counted report comes; front = m.output; printed = refl; idle = record { stage = refl; stack = refl; frames = refl } } in
    subst (λ (after : PlainMachine). StopsAs before counted after stopped) (sym so.1) (subst (λ (stopped : Stop). StopsAs before counted n stopped) (sym so.0) ends)
stops_by_report before counted m fail.WantOfMemory after stopped comes so = absurd so
