-- A query: what is wrong with it, and the act that it asks.
use Rattle.std.proofs.Common.{◌≡◌, ℕ, suc, Bool, true, false, List, [], ◌∷◌, get_or, length, refl, sym, ap, ◌∙◌, arith}
use Rattle.std.specs.Prelude.{◌==◌, ◌&&◌, ◌||◌, ℤ, pos, Option, Some, None, Ok, Err, if◌then◌else◌, not, slice_get, unsigned_abs}
use Rattle.std.specs.List.{list_any}
use Rattle.std.proofs.lemmas.Bool.{eqb-true, false≢true}
use Rattle.apl_arrays.specs.Array.{PlainArray, PlainItems, chars, is_chars, item_count, numbers, numbers_in}
use Rattle.apl_arrays.specs.declared.report.Fail.TheVariants as fail
use Rattle.apl_arrays.specs.declared.report.Report.{Report}
use Rattle.apl_items.specs.Answers.{Faults, first_report}
use Rattle.apl_items.specs.Extension.{number_at}
use Rattle.apl_meaning.specs.Expressions.{valued}
use Rattle.apl_meaning.specs.Queries.{names_told, queries, query_by, query_faults}
use Rattle.apl_meaning.specs.Sharing.{is_no_addressee, unless_wrong}
use Rattle.apl_meaning.specs.State.{State, Outcome}
use Rattle.apl_values.specs.Pending.{act_asked_for, names_asked}
use Rattle.apl_statements.specs.Interpreter.{PlainInterpreter, state_at}
use Rattle.apl_statements.proofs.Opened.{names_open, parties_open}
use Rattle.apl_acts.specs.Asking.{Asks}
use Rattle.apl_acts.specs.declared.asking.Asking.TheVariants as asking
use Rattle.apl_acts.proofs.Tested.{NoFaults, nothing_wrong}

-- a query where this is the first report of what is wrong
query_where : (b : PlainArray) (faults : Faults) (first : Option Report) (s : State) → faults ≡ query_faults b → first_report faults ≡ first → queries b s ≡ unless_wrong first (query_by (item_count b.items == 0) b) s
query_where b faults first s are is =
    ap (λ (f : Faults). unless_wrong (first_report f) (query_by (item_count b.items == 0) b) s) (sym are)
    ∙ ap (λ (r : Option Report). unless_wrong r (query_by (item_count b.items == 0) b) s) is

-- something is wrong with it
pub query_refused : (m : PlainInterpreter) (b : PlainArray) (faults : Faults) (why : Report) → faults ≡ query_faults b → first_report faults ≡ Some why → Asks m (queries b) (Err (fail.Report why))
query_refused m b faults why are is = λ acts count taken further. query_where b faults (Some why) (state_at m acts count taken further) are is

-- ---- nothing is wrong

not_empty : (n : ℕ) → (suc n == 0) ≡ false
not_empty n = by (suc n == 0) refl
  where
    by : (b : Bool) → (suc n == 0) ≡ b → b ≡ false
    by true e = absurd (let no : suc n ≡ 0 = eqb-true (suc n) 0 e in omega arith)
    by false e = refl

lone_place : (x : ℤ) (list : List ℤ) (b : Bool) → get_or (x ∷ list) (if b then 0 else 0) (pos 0) ≡ x
lone_place x list true = refl
lone_place x list false = refl

asks_party : (items : PlainItems) (party : ℤ) → slice_get (numbers_in items) 0 ≡ Some party → ((item_count items == 0) ≡ false) × (number_at (numbers_in items) 0 ≡ party)
asks_party (numbers []) party is = absurd (let no : None ≡ Some party = is in cc)
asks_party (numbers (x ∷ list)) party is = let some : Some x ≡ Some party = is in let same : x ≡ party = cc in (not_empty (length list), lone_place x list (suc (length list) == 1) ∙ same)
asks_party (chars list) party is = absurd (let no : None ≡ Some party = is in cc)

-- the names of a party are asked
pub query_names : (m : PlainInterpreter) (b : PlainArray) (faults : Faults) (party : ℤ) (number : ℕ) → faults ≡ query_faults b → first_report faults ≡ None → slice_get (numbers_in b.items) 0 ≡ Some party → number ≡ unsigned_abs party → Asks m (queries b) (Ok (asking.Names number))
query_names m b faults party number are is first same = λ acts count taken further.
    let s : State = state_at m acts count taken further in
    let told : ((item_count b.items == 0) ≡ false) × (number_at (numbers_in b.items) 0 ≡ party) = asks_party b.items party first in
    ap (λ (o : Outcome PlainArray). valued o) (query_where b faults None s are is)
    ∙ ap (λ (x : Bool). valued (query_by x b s)) told.0
    ∙ ap (λ (z : ℤ). valued (names_told (unsigned_abs z) s)) told.1
    ∙ names_open (unsigned_abs party) s
    ∙ ap (λ (n : ℕ). act_asked_for (names_asked n) s) (sym same)

-- ---- nothing is asked about

asks_none : (items : PlainItems) → slice_get (numbers_in items) 0 ≡ None → (not (item_count items == 0) && (is_chars items || list_any (λ number. is_no_addressee number || unsigned_abs number == 0) (numbers_in items))) ≡ false → (item_count items == 0) ≡ true
asks_none (numbers []) none clean = refl
asks_none (numbers (x ∷ list)) none clean = absurd (let no : Some x ≡ None = none in cc)
asks_none (chars []) none clean = refl
asks_none (chars (x ∷ list)) none clean = absurd (false≢true (sym clean ∙ ap (λ (b : Bool). not b && true) (not_empty (length list))))

-- the parties with open offers are asked
pub query_parties : (m : PlainInterpreter) (b : PlainArray) (faults : Faults) → faults ≡ query_faults b → first_report faults ≡ None → slice_get (numbers_in b.items) 0 ≡ None → Asks m (queries b) (Ok asking.Parties)
query_parties m b faults are is none = λ acts count taken further.
    let s : State = state_at m acts count taken further in
    let clean : NoFaults (query_faults b) = nothing_wrong (query_faults b) (ap first_report (sym are) ∙ is) in
    let empty : (item_count b.items == 0) ≡ true = asks_none b.items none clean.domain in
    ap (λ (o : Outcome PlainArray). valued o) (query_where b faults None s are is)
    ∙ ap (λ (x : Bool). valued (query_by x b s)) empty
    ∙ parties_open s
