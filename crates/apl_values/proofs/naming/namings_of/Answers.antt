use Rattle.std.proofs.Common.{◌≡◌, ◌<◌, ◌++◌, ℕ, List, [], get_or, take, sym, ap, ◌∙◌, append-nil, arith}
use Rattle.std.specs.Prelude.{Option, option_map, option_to_list}
use Rattle.std.specs.List.{filter_map}
use Rattle.apl_arrays.specs.Array.{PlainArray}
use Rattle.apl_meaning.specs.Naming.{naming_count, naming_in, rows_of}
use Rattle.apl_values.specs.declared.naming.Naming.{Naming}
use Rattle.apl_values.specs.Rows.{plain_naming}
use Rattle.apl_values.proofs.MadeRows.{namings_on}
use Rattle.apl_values.proofs.NamingSteps.{namings_all}
use Rattle.apl_values.proofs.naming.namings_of.Goals as goal
use Rattle.apl_values.proofs.naming.namings_of.Goals.{in-Some+in_ok-push, in_default}

pub loop-row-preserved : goal.loop-row-preserved
loop-row-preserved c =
    let n : PlainArray = c.args.n.now in
    let before : List Naming = c.loop-row.namings.items in
    let lt : c.loop-row.row < naming_count n = omega arith in
    let here : option_map plain_naming c.naming_in.result ≡ naming_in (get_or (rows_of n) c.loop-row.row []) = c.naming_in.ensures ∙ ap naming_in c.row_at.ensures in
    let found : Option Naming → List Naming = λ names. before ++ option_to_list names in
    elim c.match-naming_in.branch [
      | in-Some+in_ok-push w ↦ namings_on n c.loop-row.row before c.match-naming_in.namings.items c.naming_in.result lt c.loop-row.invariant here
          (ap (λ v. v.items) w.namings-is ∙ w.in_ok-push.ensures.items ∙ ap found (sym w.in-Some.is))
      | in_default w ↦ namings_on n c.loop-row.row before c.match-naming_in.namings.items c.naming_in.result lt c.loop-row.invariant here
          (ap (λ v. v.items) w.namings-is ∙ sym (append-nil before) ∙ ap found (sym w.in_default.is))
    ]

pub returns : goal.returns
returns c =
    let all : c.loop-row.row ≡ naming_count c.args.n.now = omega arith in
    c.loop-row.invariant ∙ ap (λ (k : ℕ). filter_map naming_in (take k (rows_of c.args.n.now))) all ∙ namings_all c.args.n.now
