use Rattle.std.proofs.Common.{◌≡◌, ◌*◌, ◌∷◌, ℕ, List, [], ap, length, refl, subst, sym, ◌∙◌}
use Rattle.std.specs.Prelude.{ℤ, None, All, map}
use Rattle.std.proofs.lemmas.List.{length-map}
use Rattle.std.proofs.lemmas.Result.{err_from_is_err_and}
use Rattle.apl_arrays.specs.Array.{PlainArray, numbers_in}
use Rattle.apl_arrays.specs.declared.report.Fail.TheVariants as fail
use Rattle.apl_items.specs.Answers.{first_report}
use Rattle.apl_items.specs.Places.{places}
use Rattle.apl_meaning.specs.Deeds.{set_control}
use Rattle.apl_meaning.specs.Naming.{Naming, naming_count, namings_of}
use Rattle.apl_meaning.specs.Sharing.{control_at, control_faults, controls}
use Rattle.apl_values.specs.Rows.{PlainNameRow, RowMayBeDone, count_told, plain_naming, plain_name_row}
use Rattle.apl_statements.specs.Interpreter.{PlainInterpreter}
use Rattle.apl_acts.specs.Faults.{AreElements, control_in, settings_of}
use Rattle.apl_acts.proofs.Controlled.{controlled, controls_by_row}
use Rattle.apl_acts.proofs.Tested.{asks_exit, asks_refused, asks_rows, each_may, free_there, room_for_each, told_for_each}
use Rattle.apl_acts.proofs.controls.control.Goals as goal

-- the rows that are made of numbers and names
made_of : (given n : PlainArray) (rows : List PlainNameRow) (numbers : List ℤ) (names : List Naming) → rows ≡ settings_of numbers names → numbers ≡ numbers_in given.items → names ≡ namings_of n → rows ≡ settings_of (numbers_in given.items) (namings_of n)
made_of given n rows numbers names made are named = made ∙ ap (λ (list : List ℤ). settings_of list names) are ∙ ap (settings_of (numbers_in given.items)) named

pub settings-requires : goal.settings-requires
settings-requires c =
    let given : PlainArray = c.args.c.now in
    let n : PlainArray = c.args.n.now in
    let none : first_report (control_faults given n) ≡ None = ap first_report (sym c.control_wrong.ensures) ∙ c.in_ok-refuse.ensures.ok in
    let count : length c.in_ok-namings.namings.items ≡ length (namings_of n) = sym (length-map c.in_ok-namings.namings.items plain_naming) ∙ ap length c.in_ok-namings.ensures in
    let numbers : c.numbers.result.now ≡ numbers_in given.items = c.numbers.ensures ∙ ap numbers_in c.items.ensures.value in
    subst (λ (list : List ℤ). AreElements list (length c.in_ok-namings.namings.items)) (sym numbers) (subst (AreElements (numbers_in given.items)) (sym count) (controlled given n c.items.ensures.array none).enough)

pub rows_asked-requires-clause-may : goal.rows_asked-requires-clause-may
rows_asked-requires-clause-may c =
    let given : PlainArray = c.args.c.now in
    let n : PlainArray = c.args.n.now in
    subst (All (RowMayBeDone c.args.interpreter.now.workspace)) (sym (made_of given n _ _ _ c.in_ok-rows.ensures (c.numbers.ensures ∙ ap numbers_in c.items.ensures.value) c.in_ok-namings.ensures))
    (each_may c.args.interpreter.now.workspace (λ row. set_control (control_in (numbers_in given.items) row)) (λ names. Unit {0}) (namings_of n) (λ row names lt is. tt) (λ k d lt. tt))

pub rows_asked-requires-clause-count : goal.rows_asked-requires-clause-count
rows_asked-requires-clause-count c =
    let given : PlainArray = c.args.c.now in
    let n : PlainArray = c.args.n.now in
    let none : first_report (control_faults given n) ≡ None = ap first_report (sym c.control_wrong.ensures) ∙ c.in_ok-refuse.ensures.ok in
    room_for_each n (4 ∷ []) 4 refl
    ∙ ap (λ (k : ℕ). k * 4) (sym (controlled given n c.items.ensures.array none).named)
    ∙ sym (told_for_each (λ row. set_control (control_in (numbers_in given.items) row)) 4 (namings_of n) (λ row. refl))
    ∙ ap count_told (sym (made_of given n _ _ _ c.in_ok-rows.ensures (c.numbers.ensures ∙ ap numbers_in c.items.ensures.value) c.in_ok-namings.ensures))

pub returns-in_err-refuse-clause-asks : goal.returns-in_err-refuse-clause-asks
returns-in_err-refuse-clause-asks c =
    let m : PlainInterpreter = c.args.interpreter.now in
    let given : PlainArray = c.args.c.now in
    let n : PlainArray = c.args.n.now in
    let exit = err_from_is_err_and c.from_residual.result c.from_residual.ensures.1 in
    let why : exit.0 ≡ fail.Report c.in_err-refuse.field-0.0 = cc exit.2 in
    asks_exit m (controls given n) c.from_residual.result exit.0 (fail.Report c.in_err-refuse.field-0.0) exit.1 why
    (asks_refused m (controls given n) (control_faults given n) n (4 ∷ []) (map (λ row. set_control (control_at given row)) (places (naming_count n))) c.in_err-refuse.field-0.0 (λ acts count taken further. refl) (ap first_report (sym c.control_wrong.ensures) ∙ c.in_err-refuse.ensures.err))

pub returns-in_err-namings-clause-asks : goal.returns-in_err-namings-clause-asks
returns-in_err-namings-clause-asks c =
    let m : PlainInterpreter = c.args.interpreter.now in
    let given : PlainArray = c.args.c.now in
    let n : PlainArray = c.args.n.now in
    let none : first_report (control_faults given n) ≡ None = ap first_report (sym c.control_wrong.ensures) ∙ c.in_ok-refuse.ensures.ok in
    let exit = err_from_is_err_and c.from_residual-in_err-namings.result c.from_residual-in_err-namings.ensures.1 in
    let why : exit.0 ≡ fail.WantOfMemory = cc exit.2 in
    asks_exit m (controls given n) c.from_residual-in_err-namings.result exit.0 fail.WantOfMemory exit.1 why
    (free_there m (controls given n) (control_faults given n) n (4 ∷ []) (map (λ row. set_control (control_at given row)) (places (naming_count n))) (λ acts count taken further. refl) none)

pub returns-in_err-rows-clause-asks : goal.returns-in_err-rows-clause-asks
returns-in_err-rows-clause-asks c =
    let m : PlainInterpreter = c.args.interpreter.now in
    let given : PlainArray = c.args.c.now in
    let n : PlainArray = c.args.n.now in
    let none : first_report (control_faults given n) ≡ None = ap first_report (sym c.control_wrong.ensures) ∙ c.in_ok-refuse.ensures.ok in
    let exit = err_from_is_err_and c.from_residual-in_err-rows.result c.from_residual-in_err-rows.ensures.1 in
    let why : exit.0 ≡ fail.WantOfMemory = cc exit.2 in
    asks_exit m (controls given n) c.from_residual-in_err-rows.result exit.0 fail.WantOfMemory exit.1 why
    (free_there m (controls given n) (control_faults given n) n (4 ∷ []) (map (λ row. set_control (control_at given row)) (places (naming_count n))) (λ acts count taken further. refl) none)

pub returns-clause-asks : goal.returns-clause-asks
returns-clause-asks c =
    let m : PlainInterpreter = c.args.interpreter.now in
    let given : PlainArray = c.args.c.now in
    let n : PlainArray = c.args.n.now in
    let none : first_report (control_faults given n) ≡ None = ap first_report (sym c.control_wrong.ensures) ∙ c.in_ok-refuse.ensures.ok in
    let rows : List PlainNameRow = map plain_name_row c.in_ok-rows.rows.items in
    asks_rows m (controls given n) (control_faults given n) n (4 ∷ []) (map (λ row. set_control (control_at given row)) (places (naming_count n))) rows c.rows_asked.result (λ acts count taken further. refl) none
    (controls_by_row given n (controlled given n c.items.ensures.array none) ∙ sym (made_of given n _ _ _ c.in_ok-rows.ensures (c.numbers.ensures ∙ ap numbers_in c.items.ensures.value) c.in_ok-namings.ensures)) c.rows_asked.ensures.rows c.rows_asked.ensures.refused
