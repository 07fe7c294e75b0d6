use Rattle.std.proofs.Common.{◌≡◌, ◌+◌, ◌∷◌, ◌++◌, [], length, ap, ◌∙◌, arith}
use Rattle.std.proofs.lemmas.List.{length_push}
use Rattle.sv_access.specs.declared.control.Control.{Control}
use Rattle.apl_meaning.specs.Deeds as plain
use Rattle.apl_values.specs.Rows.{plain_naming}
use Rattle.apl_values.proofs.MadeRows.{made_more}
use Rattle.apl_acts.specs.Faults.{control_in}
use Rattle.apl_acts.proofs.controls.settings.Goals as goal

pub loop-names-preserved : goal.loop-names-preserved
loop-names-preserved c =
    record {
      at = (let more = length_push c.loop-names.yielded c.in-Some.names in let here = c.loop-names.invariant.at in let same : c.loop-names.at + 1 ≡ length (c.loop-names.yielded ++ c.in-Some.names ∷ []) = omega (arith, more, here) in same);
      rows = made_more (λ row. plain.set_control (control_in c.args.elements.now row)) c.loop-names.yielded c.in-Some.names c.loop-names.rows.items c.push.new.self.items _ c.loop-names.invariant.rows c.in_ok-push.ensures.items
          (ap (λ (control : Control). (plain_naming c.in-Some.names, plain.set_control control)) (c.control_at.ensures ∙ ap (control_in c.args.elements.now) c.loop-names.invariant.at));
    }
