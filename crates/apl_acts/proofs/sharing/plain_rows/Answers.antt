use Rattle.std.proofs.Common.{◌≡◌, ◌*◌, ℕ, List, ap, length, refl, subst, sym, ◌∙◌}
use Rattle.std.specs.Prelude.{None, All, map, not}
use Rattle.std.proofs.lemmas.Bool.{or_parts}
use Rattle.std.proofs.lemmas.Result.{err_from_is_err_and}
use Rattle.std.specs.List.{list_any}
use Rattle.apl_arrays.specs.Array.{PlainArray, is_chars}
use Rattle.apl_arrays.specs.declared.report.Fail.TheVariants as fail
use Rattle.apl_items.specs.Answers.{first_report}
use Rattle.apl_meaning.specs.Deeds.{Deed}
use Rattle.apl_meaning.specs.Naming.{Naming, naming_count, naming_faults, namings_of, rows_of}
use Rattle.apl_meaning.specs.Sharing.{for_each_row, plain_rows}
use Rattle.apl_values.specs.Rows.{PlainNameRow, RowMayBeDone, count_told, plain_deed, plain_name_row, row_zeros}
use Rattle.apl_values.proofs.NamingSteps.{is_unnamed}
use Rattle.apl_statements.specs.Interpreter.{PlainInterpreter}
use Rattle.apl_acts.proofs.Tested.{alike, alike_may, asks_exit, asks_refused, asks_rows, free_there, named_count, nothing_wrong, room_for_each, told_for_each}
use Rattle.apl_acts.proofs.sharing.plain_rows.Goals as goal

-- the rows that are made of names where nothing is wrong
all_named : (n : PlainArray) (each : List ℕ) → first_report (naming_faults n each) ≡ None → length (namings_of n) ≡ naming_count n
all_named n each none = named_count n (or_parts (not (is_chars n.items)) (list_any is_unnamed (rows_of n)) (nothing_wrong (naming_faults n each) none).domain).1

made_of : (n : PlainArray) (deed : Deed) (rows : List PlainNameRow) (names : List Naming) → rows ≡ map (λ names. (names, deed)) names → names ≡ namings_of n → rows ≡ map (λ names. (names, deed)) (namings_of n)
made_of n deed rows names made are = made ∙ ap (map (λ (names : Naming). (names, deed))) are

pub rows_asked-requires-clause-may : goal.rows_asked-requires-clause-may
rows_asked-requires-clause-may c =
    let n : PlainArray = c.args.n.now in
    let deed : Deed = plain_deed c.args.deed in
    subst (All (RowMayBeDone c.args.interpreter.now.workspace)) (sym (made_of n deed _ _ c.in_ok-rows.ensures c.in_ok-namings.ensures)) (alike_may c.args.interpreter.now.workspace deed (namings_of n) c.requires.plain)

pub rows_asked-requires-clause-count : goal.rows_asked-requires-clause-count
rows_asked-requires-clause-count c =
    let n : PlainArray = c.args.n.now in
    let deed : Deed = plain_deed c.args.deed in
    let none : first_report (naming_faults n c.args.each.now) ≡ None = ap first_report (sym c.naming_wrong.ensures) ∙ c.in_ok-refuse.ensures.ok in
    let width : ℕ = length (row_zeros deed) in
    room_for_each n c.args.each.now width c.requires.each
    ∙ ap (λ (k : ℕ). k * width) (sym (all_named n c.args.each.now none))
    ∙ sym (told_for_each (λ row. deed) width (namings_of n) (λ row. refl))
    ∙ ap count_told (alike deed (namings_of n) (length (namings_of n)) refl ∙ sym (made_of n deed _ _ c.in_ok-rows.ensures c.in_ok-namings.ensures))

pub returns-in_err-refuse-clause-asks : goal.returns-in_err-refuse-clause-asks
returns-in_err-refuse-clause-asks c =
    let m : PlainInterpreter = c.args.interpreter.now in
    let n : PlainArray = c.args.n.now in
    let each : List ℕ = c.args.each.now in
    let deed : Deed = plain_deed c.args.deed in
    let exit = err_from_is_err_and c.from_residual.result c.from_residual.ensures.1 in
    let why : exit.0 ≡ fail.Report c.in_err-refuse.field-0.0 = cc exit.2 in
    asks_exit m (plain_rows n each deed) c.from_residual.result exit.0 (fail.Report c.in_err-refuse.field-0.0) exit.1 why
    (asks_refused m (plain_rows n each deed) (naming_faults n each) n each (for_each_row n deed) c.in_err-refuse.field-0.0 (λ acts count taken further. refl) (ap first_report (sym c.naming_wrong.ensures) ∙ c.in_err-refuse.ensures.err))

pub returns-in_err-namings-clause-asks : goal.returns-in_err-namings-clause-asks
returns-in_err-namings-clause-asks c =
    let m : PlainInterpreter = c.args.interpreter.now in
    let n : PlainArray = c.args.n.now in
    let each : List ℕ = c.args.each.now in
    let deed : Deed = plain_deed c.args.deed in
    let none : first_report (naming_faults n each) ≡ None = ap first_report (sym c.naming_wrong.ensures) ∙ c.in_ok-refuse.ensures.ok in
    let exit = err_from_is_err_and c.from_residual-in_err-namings.result c.from_residual-in_err-namings.ensures.1 in
    let why : exit.0 ≡ fail.WantOfMemory = cc exit.2 in
    asks_exit m (plain_rows n each deed) c.from_residual-in_err-namings.result exit.0 fail.WantOfMemory exit.1 why
    (free_there m (plain_rows n each deed) (naming_faults n each) n each (for_each_row n deed) (λ acts count taken further. refl) none)

pub returns-in_err-rows-clause-asks : goal.returns-in_err-rows-clause-asks
returns-in_err-rows-clause-asks c =
    let m : PlainInterpreter = c.args.interpreter.now in
    let n : PlainArray = c.args.n.now in
    let each : List ℕ = c.args.each.now in
    let deed : Deed = plain_deed c.args.deed in
    let none : first_report (naming_faults n each) ≡ None = ap first_report (sym c.naming_wrong.ensures) ∙ c.in_ok-refuse.ensures.ok in
    let exit = err_from_is_err_and c.from_residual-in_err-rows.result c.from_residual-in_err-rows.ensures.1 in
    let why : exit.0 ≡ fail.WantOfMemory = cc exit.2 in
    asks_exit m (plain_rows n each deed) c.from_residual-in_err-rows.result exit.0 fail.WantOfMemory exit.1 why
    (free_there m (plain_rows n each deed) (naming_faults n each) n each (for_each_row n deed) (λ acts count taken further. refl) none)

pub returns-clause-asks : goal.returns-clause-asks
returns-clause-asks c =
    let m : PlainInterpreter = c.args.interpreter.now in
    let n : PlainArray = c.args.n.now in
    let each : List ℕ = c.args.each.now in
    let deed : Deed = plain_deed c.args.deed in
    let none : first_report (naming_faults n each) ≡ None = ap first_report (sym c.naming_wrong.ensures) ∙ c.in_ok-refuse.ensures.ok in
    let rows : List PlainNameRow = map plain_name_row c.in_ok-rows.rows.items in
    asks_rows m (plain_rows n each deed) (naming_faults n each) n each (for_each_row n deed) rows c.rows_asked.result (λ acts count taken further. refl) none
    (alike deed (namings_of n) (naming_count n) (all_named n each none) ∙ sym (made_of n deed _ _ c.in_ok-rows.ensures c.in_ok-namings.ensures)) c.rows_asked.ensures.rows c.rows_asked.ensures.refused
