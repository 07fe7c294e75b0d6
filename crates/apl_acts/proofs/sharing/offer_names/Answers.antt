use Rattle.std.proofs.Common.{◌≡◌, ◌*◌, ℕ, false, List, [], ap, length, refl, subst, sym, ◌∙◌}
use Rattle.std.specs.Prelude.{ℤ, Option, Some, None, All, map, unsigned_abs}
use Rattle.std.specs.List.{list_any}
use Rattle.std.proofs.lemmas.List.{length-map}
use Rattle.std.proofs.lemmas.Result.{err_from_is_err_and}
use Rattle.apl_arrays.specs.Array.{PlainArray, numbers_in}
use Rattle.apl_arrays.specs.declared.report.Fail.TheVariants as fail
use Rattle.apl_arrays.specs.declared.report.Report.{Report}
use Rattle.apl_items.specs.Answers.{Faults, first_report}
use Rattle.apl_items.specs.Extension.{number_at}
use Rattle.apl_workspace.specs.Meaning.{is_function_meaning}
use Rattle.apl_workspace.specs.Workspace.{PlainWorkspace, global_in}
use Rattle.apl_meaning.specs.Deeds.{offer}
use Rattle.apl_meaning.specs.Naming.{Naming, namings_of}
use Rattle.apl_meaning.specs.Sharing.{cannot_be_offered, is_no_addressee, offer_faults, offers}
use Rattle.apl_values.specs.Rows.{PlainNameRow, RowMayBeDone, count_told, plain_naming, plain_name_row}
use Rattle.apl_statements.specs.Interpreter.{PlainInterpreter}
use Rattle.apl_statements.specs.Sound.{plain_interpreter}
use Rattle.apl_acts.specs.Faults.{IsOneOrAsMany, offers_of}
use Rattle.apl_acts.proofs.RowTests.{offer_deeds, offer_free}
use Rattle.apl_acts.proofs.Offered.{IsOffered, offer_may, offered, offers_by_row}
use Rattle.apl_acts.proofs.Tested.{asks_exit, asks_refused, asks_rows, each_may, none_passes, room_for_each, told_for_each}
use Rattle.apl_acts.proofs.sharing.offer_names.Goals as goal

-- the interpreter's own workspace is the one that was tested
tested : (m inside : PlainInterpreter) (p n : PlainArray) (faults : Faults) {found : Option Report} → inside ≡ m → faults ≡ offer_faults inside.workspace p n → first_report faults ≡ found → first_report (offer_faults m.workspace p n) ≡ found
tested m inside p n faults view same none = ap (λ (x : PlainInterpreter). first_report (offer_faults x.workspace p n)) (sym view) ∙ ap first_report (sym same) ∙ none

-- the rows that are made of numbers and names
made_of : (p n : PlainArray) (rows : List PlainNameRow) (numbers : List ℤ) (names : List Naming) → rows ≡ offers_of numbers names → numbers ≡ numbers_in p.items → names ≡ namings_of n → rows ≡ offers_of (numbers_in p.items) (namings_of n)
made_of p n rows numbers names made are named = made ∙ ap (λ (list : List ℤ). offers_of list names) are ∙ ap (offers_of (numbers_in p.items)) named

pub offers-requires-clause-addressees : goal.offers-requires-clause-addressees
offers-requires-clause-addressees c =
    let m : PlainInterpreter = c.args.interpreter.now in
    let p : PlainArray = c.args.p.now in
    let none : first_report (offer_faults m.workspace p c.args.n.now) ≡ None = tested m (plain_interpreter c.interpreter.inside) p c.args.n.now _ c.interpreter.view_is (c.offer_wrong.ensures (plain_interpreter c.interpreter.inside).workspace (c.some_not_offered-not_offered.ensures ∙ ap (list_any (cannot_be_offered (plain_interpreter c.interpreter.inside).workspace)) (ap (map plain_naming) c.deref.ensures.value ∙ c.requires.names))) c.in_ok-refuse.ensures.ok in
    subst (λ (list : List ℤ). All (λ number. is_no_addressee number ≡ false) list) (sym c.numbers.ensures) (none_passes is_no_addressee (numbers_in p.items) (offered m.workspace p c.args.n.now none).parties)

pub offers-requires-clause-enough : goal.offers-requires-clause-enough
offers-requires-clause-enough c =
    let m : PlainInterpreter = c.args.interpreter.now in
    let p : PlainArray = c.args.p.now in
    let none : first_report (offer_faults m.workspace p c.args.n.now) ≡ None = tested m (plain_interpreter c.interpreter.inside) p c.args.n.now _ c.interpreter.view_is (c.offer_wrong.ensures (plain_interpreter c.interpreter.inside).workspace (c.some_not_offered-not_offered.ensures ∙ ap (list_any (cannot_be_offered (plain_interpreter c.interpreter.inside).workspace)) (ap (map plain_naming) c.deref.ensures.value ∙ c.requires.names))) c.in_ok-refuse.ensures.ok in
    let count : length c.args.namings.items ≡ length (namings_of c.args.n.now) = sym (length-map c.args.namings.items plain_naming) ∙ ap length c.requires.names in
    subst (λ (list : List ℤ). IsOneOrAsMany list (length c.args.namings.items)) (sym c.numbers.ensures) (subst (IsOneOrAsMany (numbers_in p.items)) (sym count) (offered m.workspace p c.args.n.now none).many)

pub rows_asked-requires-clause-may : goal.rows_asked-requires-clause-may
rows_asked-requires-clause-may c =
    let m : PlainInterpreter = c.args.interpreter.now in
    let w : PlainWorkspace = m.workspace in
    let p : PlainArray = c.args.p.now in
    let n : PlainArray = c.args.n.now in
    let none : first_report (offer_faults w p n) ≡ None = tested m (plain_interpreter c.interpreter.inside) p n _ c.interpreter.view_is (c.offer_wrong.ensures (plain_interpreter c.interpreter.inside).workspace (c.some_not_offered-not_offered.ensures ∙ ap (list_any (cannot_be_offered (plain_interpreter c.interpreter.inside).workspace)) (ap (map plain_naming) c.deref.ensures.value ∙ c.requires.names))) c.in_ok-refuse.ensures.ok in
    let is : IsOffered w p n = offered w p n none in
    subst (All (RowMayBeDone w)) (sym (made_of p n _ _ _ c.in_ok-rows.ensures c.numbers.ensures c.requires.names))
    (each_may w (λ row. offer (unsigned_abs (number_at (numbers_in p.items) row))) (λ names. is_function_meaning (global_in w names.local) ≡ false) (namings_of n) (offer_may w (numbers_in p.items) (length (namings_of n)) is.many is.parties) is.names)

pub rows_asked-requires-clause-count : goal.rows_asked-requires-clause-count
rows_asked-requires-clause-count c =
    let m : PlainInterpreter = c.args.interpreter.now in
    let p : PlainArray = c.args.p.now in
    let n : PlainArray = c.args.n.now in
    let none : first_report (offer_faults m.workspace p n) ≡ None = tested m (plain_interpreter c.interpreter.inside) p n _ c.interpreter.view_is (c.offer_wrong.ensures (plain_interpreter c.interpreter.inside).workspace (c.some_not_offered-not_offered.ensures ∙ ap (list_any (cannot_be_offered (plain_interpreter c.interpreter.inside).workspace)) (ap (map plain_naming) c.deref.ensures.value ∙ c.requires.names))) c.in_ok-refuse.ensures.ok in
    room_for_each n [] 1 refl
    ∙ ap (λ (k : ℕ). k * 1) (sym (offered m.workspace p n none).named)
    ∙ sym (told_for_each (λ row. offer (unsigned_abs (number_at (numbers_in p.items) row))) 1 (namings_of n) (λ row. refl))
    ∙ ap count_told (sym (made_of p n _ _ _ c.in_ok-rows.ensures c.numbers.ensures c.requires.names))

pub returns-in_err-refuse-clause-asks : goal.returns-in_err-refuse-clause-asks
returns-in_err-refuse-clause-asks c =
    let m : PlainInterpreter = c.args.interpreter.now in
    let p : PlainArray = c.args.p.now in
    let n : PlainArray = c.args.n.now in
    let exit = err_from_is_err_and c.from_residual.result c.from_residual.ensures.1 in
    let why : exit.0 ≡ fail.Report c.in_err-refuse.field-0.0 = cc exit.2 in
    let wrong : first_report (offer_faults m.workspace p n) ≡ Some c.in_err-refuse.field-0.0 = tested m (plain_interpreter c.interpreter.inside) p n _ c.interpreter.view_is (c.offer_wrong.ensures (plain_interpreter c.interpreter.inside).workspace (c.some_not_offered-not_offered.ensures ∙ ap (list_any (cannot_be_offered (plain_interpreter c.interpreter.inside).workspace)) (ap (map plain_naming) c.deref.ensures.value ∙ c.requires.names))) c.in_err-refuse.ensures.err in
    asks_exit m (offers p n) c.from_residual.result exit.0 (fail.Report c.in_err-refuse.field-0.0) exit.1 why
    (asks_refused m (offers p n) (offer_faults m.workspace p n) n [] (offer_deeds p n) c.in_err-refuse.field-0.0 (λ acts count taken further. refl) wrong)

pub returns-in_err-rows-clause-asks : goal.returns-in_err-rows-clause-asks
returns-in_err-rows-clause-asks c =
    let m : PlainInterpreter = c.args.interpreter.now in
    let p : PlainArray = c.args.p.now in
    let n : PlainArray = c.args.n.now in
    let none : first_report (offer_faults m.workspace p n) ≡ None = tested m (plain_interpreter c.interpreter.inside) p n _ c.interpreter.view_is (c.offer_wrong.ensures (plain_interpreter c.interpreter.inside).workspace (c.some_not_offered-not_offered.ensures ∙ ap (list_any (cannot_be_offered (plain_interpreter c.interpreter.inside).workspace)) (ap (map plain_naming) c.deref.ensures.value ∙ c.requires.names))) c.in_ok-refuse.ensures.ok in
    let exit = err_from_is_err_and c.from_residual-in_err-rows.result c.from_residual-in_err-rows.ensures.1 in
    let why : exit.0 ≡ fail.WantOfMemory = cc exit.2 in
    asks_exit m (offers p n) c.from_residual-in_err-rows.result exit.0 fail.WantOfMemory exit.1 why (offer_free m p n none)

pub returns-clause-asks : goal.returns-clause-asks
returns-clause-asks c =
    let m : PlainInterpreter = c.args.interpreter.now in
    let p : PlainArray = c.args.p.now in
    let n : PlainArray = c.args.n.now in
    let none : first_report (offer_faults m.workspace p n) ≡ None = tested m (plain_interpreter c.interpreter.inside) p n _ c.interpreter.view_is (c.offer_wrong.ensures (plain_interpreter c.interpreter.inside).workspace (c.some_not_offered-not_offered.ensures ∙ ap (list_any (cannot_be_offered (plain_interpreter c.interpreter.inside).workspace)) (ap (map plain_naming) c.deref.ensures.value ∙ c.requires.names))) c.in_ok-refuse.ensures.ok in
    let rows : List PlainNameRow = map plain_name_row c.in_ok-rows.rows.items in
    asks_rows m (offers p n) (offer_faults m.workspace p n) n [] (offer_deeds p n) rows c.rows_asked.result (λ acts count taken further. refl) none
    (offers_by_row m.workspace p n (offered m.workspace p n none) ∙ sym (made_of p n _ _ _ c.in_ok-rows.ensures c.numbers.ensures c.requires.names)) c.rows_asked.ensures.rows c.rows_asked.ensures.refused
