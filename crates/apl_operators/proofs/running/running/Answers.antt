use Rattle.std.proofs.Common.{◌≡◌, ◌*◌, ◌∙◌, ℕ, length, sym, ap, arith}
use Rattle.std.proofs.Math.Nat.{mul_assoc}
use Rattle.apl_operators.specs.Running.{row_length}
use Rattle.apl_operators.proofs.RunLemmas.{nothing_runs, runs_to_all}
use Rattle.apl_operators.proofs.running.running.Goals as goal
use Rattle.apl_operators.proofs.running.running.Given as given

pub loop-outer-init : goal.loop-outer-init
loop-outer-init g c =
    let none : 0 * row_length c.args.split ≡ 0 = omega arith in
    record {
      whole = omega (arith, none);
      room = omega arith;
      each = nothing_runs (given.F-post g c.args.rule.now) c.args.list.now c.args.split (0 * row_length c.args.split) c.args.room.items none;
    }

pub returns-clause-made : goal.returns-clause-made
returns-clause-made g c by item joining runs =
    let same : c.loop-outer.outer ≡ c.args.split.outer = omega arith in
    let count : c.loop-outer.outer * row_length c.args.split ≡ length c.args.list.now =
    ap (λ (n : ℕ). n * row_length c.args.split) same ∙ sym (mul_assoc c.args.split.outer c.args.split.along c.args.split.inner) ∙ c.requires.whole in
    rw c.from.ensures
    (runs_to_all (given.F-post g c.args.rule.now) c.args.list.now c.args.split (c.loop-outer.outer * row_length c.args.split) c.loop-outer.made.items c.loop-outer.invariant.each
    (omega (arith, c.loop-outer.invariant.whole, c.loop-outer.made.ok)) count by item joining runs)
