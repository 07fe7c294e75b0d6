use Rattle.std.proofs.Common.{◌-◌, List, length, map}
use Rattle.apl_arrays.specs.List.{glyphs_in}
use Rattle.session_rules.specs.Shelf.{Exchange}
use Rattle.sv_events.specs.Answer.{PlainAnswer}
use Rattle.apl_session.specs.Standing.{IsPaused, StandsIn, WithCalls}
use Rattle.apl_session.proofs.progress.Progress.take_lines.Given as goal

-- the session stands in its lines with the calls so far, and no line under way was answered
abbrev pub invariant-loop-self : goal.invariant-loop-self
invariant-loop-self g l = record {
  paused : IsPaused l.self.under_way;
  stands : (answers : List PlainAnswer) (exchanges : List Exchange) → StandsIn (map glyphs_in l.lines) answers exchanges l.fn.self → WithCalls g.K.Shelf.told g.K.Shelf.faults l.user l.fn.shelf l.shelf exchanges (λ all. StandsIn (map glyphs_in l.lines) answers all l.self);
}

abbrev pub decreases-loop-self : goal.decreases-loop-self
decreases-loop-self g l = length l.lines - l.self.read
