use Rattle.std.proofs.Common.{◌≡◌, arith, refl, ℕ, suc, List, [], ◌∷◌, ◌++◌, drop, length, sym, ap, subst, ◌∙◌}
use Rattle.std.specs.Prelude.{map}
use Rattle.std.proofs.lemmas.List.{map-append}
use Rattle.std.proofs.lemmas.Iterator.Adapters.{YieldsList-from_vec}
use Rattle.std.proofs.lemmas.Iterator.Consumers.{YieldsList-so_far, YieldsList-turn}
use Rattle.std.proofs.lemmas.Result.{err_from_is_err_and}
use Rattle.apl_arrays.specs.List.{Listed, glyphs_in}
use Rattle.apl_workspace.specs.Workspace.{PlainWorkspace, with_printed}
use Rattle.apl_meaning.specs.Printing.{lines_printed}
use Rattle.apl_statements.specs.Led.{Leads}
use Rattle.apl_statements.specs.Wants.{StopsAtLine}
use Rattle.apl_statements.proofs.Printed.{led_exit, line_ends, lines_at, none_led, one_counted, one_led, stops_there}
use Rattle.apl_statements.proofs.Wants.{want_exit}
use Rattle.apl_statements.proofs.printing.print_lines.Goals as goal

pub loop-line-init : goal.loop-line-init
loop-line-init c = record { led = none_led c.args.workspace.now c.args.output.now.items; beside = refl; glyphs = omega arith }

pub loop-line-preserved : goal.loop-line-preserved
loop-line-preserved c =
    let w : PlainWorkspace = c.args.workspace.now in
    let now : PlainWorkspace = c.loop-line.workspace in
    let after : PlainWorkspace = c.print_line.new.workspace in
    let before : List (List ℕ) = c.args.output.now.items in
    let out : List (List ℕ) = c.loop-line.output.items in
    let line : List ℕ = c.in-Some.line.items in
    let done : List (List ℕ) = map glyphs_in c.loop-line.yielded in
    let counted : after ≡ with_printed now (length line) = c.in_ok-print_line.ensures.counted in
    let more : Leads w before (lines_printed (done ++ line ∷ [])) (with_printed now (length line)) (out ++ line ∷ []) = one_led w now before out done line c.loop-line.invariant.led c.in_ok-print_line.ensures.fits in
    record {
      led = subst (λ (lines : List (List ℕ)). Leads w before (lines_printed lines) after c.print_line.new.output.items) (sym (map-append glyphs_in c.loop-line.yielded (c.in-Some.line ∷ [])))
          (subst (λ (x : PlainWorkspace). Leads w before (lines_printed (done ++ line ∷ [])) x c.print_line.new.output.items) (sym counted)
          (subst (λ (list : List (List ℕ)). Leads w before (lines_printed (done ++ line ∷ [])) (with_printed now (length line)) list) (sym c.in_ok-print_line.ensures.printed) more));
      beside = counted ∙ ap (λ (x : PlainWorkspace). with_printed x (length line)) c.loop-line.invariant.beside ∙ ap (λ (x : PlainWorkspace). record w { printed = x.printed }) (sym counted);
      glyphs = one_counted w.printed now.printed after.printed done (map glyphs_in (c.loop-line.yielded ++ c.in-Some.line ∷ [])) line c.loop-line.invariant.glyphs (ap (λ (x : PlainWorkspace). x.printed) counted)
          (map-append glyphs_in c.loop-line.yielded (c.in-Some.line ∷ []));
    }

pub returns-in_err-print_line-clause-led : goal.returns-in_err-print_line-clause-led
returns-in_err-print_line-clause-led c =
    let all : List (Listed ℕ) = c.args.lines.items in
    let done : List (Listed ℕ) = c.loop-line.yielded in
    let line : Listed ℕ = c.in-Some.line in
    let road = YieldsList-from_vec {s = c.into_iter-line-iterator.result} all (cc) (cc) in
    let place = YieldsList-turn road done c.loop-line.line-iterator c.loop-line.yielded_by c.next.result c.next.new.self line c.in-Some.is c.next.ensures.steps in
    let are : all ≡ done ++ line ∷ drop (suc (length done)) all = lines_at all done line (YieldsList-so_far road done c.loop-line.line-iterator c.loop-line.yielded_by) place.0 place.1 in
    let exit = err_from_is_err_and c.from_residual.result c.from_residual.ensures.1 in
    let why : exit.0 ≡ c.in_err-print_line.field-0.0 = cc exit.2 in
    led_exit c.args.workspace.now c.print_line.new.workspace c.args.output.now.items c.print_line.new.output.items (lines_printed (map glyphs_in all)) c.from_residual.result exit.0 c.in_err-print_line.field-0.0 exit.1 why
    (line_ends c.args.workspace.now c.loop-line.workspace c.print_line.new.workspace c.args.output.now.items c.loop-line.output.items c.print_line.new.output.items (map glyphs_in all) (map glyphs_in done) line.items (map glyphs_in (drop (suc (length done)) all)) c.in_err-print_line.field-0.0
    c.loop-line.invariant.led c.in_err-print_line.ensures.same (ap (λ (list : Listed (List ℕ)). list.items) c.in_err-print_line.ensures.left) (ap (map glyphs_in) are ∙ map-append glyphs_in done (line ∷ drop (suc (length done)) all)) c.in_err-print_line.ensures.refused)

pub returns-in_err-print_line-clause-memory : goal.returns-in_err-print_line-clause-memory
returns-in_err-print_line-clause-memory c =
    let all : List (Listed ℕ) = c.args.lines.items in
    let done : List (Listed ℕ) = c.loop-line.yielded in
    let line : Listed ℕ = c.in-Some.line in
    let road = YieldsList-from_vec {s = c.into_iter-line-iterator.result} all (cc) (cc) in
    let place = YieldsList-turn road done c.loop-line.line-iterator c.loop-line.yielded_by c.next.result c.next.new.self line c.in-Some.is c.next.ensures.steps in
    let are : all ≡ done ++ line ∷ drop (suc (length done)) all = lines_at all done line (YieldsList-so_far road done c.loop-line.line-iterator c.loop-line.yielded_by) place.0 place.1 in
    let exit = err_from_is_err_and c.from_residual.result c.from_residual.ensures.1 in
    let why : exit.0 ≡ c.in_err-print_line.field-0.0 = cc exit.2 in
    want_exit c.from_residual.result exit.0 c.in_err-print_line.field-0.0 (StopsAtLine (map glyphs_in all) c.args.workspace.now.printed c.print_line.new.workspace.printed) exit.1 why
    (stops_there (Unit {0}) c.in_err-print_line.field-0.0 c.args.workspace.now.printed c.loop-line.workspace.printed c.print_line.new.workspace.printed (map glyphs_in all) (map glyphs_in done) (map glyphs_in (drop (suc (length done)) all)) line.items
    (ap (map glyphs_in) are ∙ map-append glyphs_in done (line ∷ drop (suc (length done)) all)) c.loop-line.invariant.glyphs (ap (λ (x : PlainWorkspace). x.printed) c.in_err-print_line.ensures.same) c.in_err-print_line.ensures.refused)
