-- An interpreter whose output grew is one still, and lines that are printed one after another.
use Rattle.std.proofs.Common.{◌≡◌, ℕ, suc, ◌+◌, ◌<◌, ◌≤◌, Bool, true, false, List, [], ◌∷◌, ◌++◌, length, take, drop, get_or, refl, sym, ap, subst, ◌∙◌, append_assoc, arith, leb, drop-cons}
use Rattle.std.specs.Prelude.{Result, Ok, Err, if◌then◌else◌, map}
use Rattle.std.proofs.lemmas.List.Sums.{sum_by_push}
use Rattle.std.proofs.lemmas.List.{map-id, take-append-drop}
use Rattle.std.proofs.lemmas.Bool.{le-leb, leb-true}
use Rattle.apl_arrays.specs.declared.report.Fail.{Fail}
use Rattle.apl_arrays.specs.declared.report.Fail.TheVariants as fail
use Rattle.apl_arrays.specs.declared.report.Report.{Report}
use Rattle.apl_items.specs.Places.{OnWantOfMemory}
use Rattle.apl_arrays.specs.declared.report.Report.TheVariants.{Interrupt}
use Rattle.apl_workspace.specs.Limits.{most_printed}
use Rattle.apl_workspace.specs.Workspace.{PlainWorkspace, with_printed}
use Rattle.apl_meaning.specs.State.{State, Effect, gives, refuses, asks, and_then}
use Rattle.apl_meaning.specs.Printing.{line_printed, lines_printed}
use Rattle.apl_statements.specs.Led.{EndsThere, HasLed, Leads}
use Rattle.apl_statements.specs.Interpreter.{PlainInterpreter, state_at}
use Rattle.apl_statements.specs.Moves.{HasDone, IsNotPrinted}
use Rattle.apl_statements.specs.Wants.{StopsAtLine, glyph_count}
use Rattle.apl_statements.proofs.Kept.{KeepsFunctions}
use Rattle.apl_statements.proofs.Steps.{grouped, then_same}

pub keeps_functions : (w : PlainWorkspace) (n : ℕ) → KeepsFunctions w (record w { printed = n })
keeps_functions w n = record { functions = λ name. refl; classes = λ k. refl; depth = refl; names = λ k name. refl }

-- ---- lines that are printed one after another

pub then_unit : (o : Effect) → and_then o (λ _ t. gives tt t) ≡ o
then_unit (gives one t) = refl
then_unit (refuses report t) = refl
then_unit (asks act t) = refl

-- lines, and then more of them
pub lines_and_lines : (lines more : List (List ℕ)) (s : State) → lines_printed (lines ++ more) s ≡ and_then (lines_printed lines s) (λ _ t. lines_printed more t)
lines_and_lines [] more s = refl
lines_and_lines (line ∷ lines) more s =
    then_same (line_printed line s) (λ _ t. lines_printed (lines ++ more) t) (λ _ t. and_then (lines_printed lines t) (λ _ u. lines_printed more u)) (λ _ t. lines_and_lines lines more t)
    ∙ sym (grouped (line_printed line s) (λ _ t. lines_printed lines t) (λ _ u. lines_printed more u))

pub over : (a b : ℕ) → b < a → leb a b ≡ false
over a b lt = by (leb a b) refl
  where
    by : (c : Bool) → leb a b ≡ c → c ≡ false
    by true e = absurd (let no : a ≤ b = leb-true a b e in omega arith)
    by false e = refl

-- ---- a line that is not printed, among those that are

-- the lines so far, this one, and the others
pub lines_at : {A : Type 0} (all done : List A) (line : A) → map (λ x. x) done ≡ take (length done) all → length done < length all → line ≡ get_or all (length done) line → all ≡ done ++ line ∷ drop (suc (length done)) all
lines_at all done line so_far lt here =
    sym (take-append-drop (length done) all)
    ∙ ap (λ front. front ++ drop (length done) all) (sym so_far ∙ map-id done)
    ∙ ap (λ rest. done ++ rest) (drop-cons all (length done) line lt)
    ∙ ap (λ x. done ++ x ∷ drop (suc (length done)) all) (sym here)

-- what was printed before a part is as it was
pub still_printed : (s : State) (v : PlainWorkspace) (lines : List (List ℕ)) → s.printed ≡ lines → record s { workspace = v } ≡ record s { workspace = v; printed = lines }
still_printed s v lines is = ap (λ (list : List (List ℕ)). record s { workspace = v; printed = list }) is

-- none was printed yet
pub none_led : (w : PlainWorkspace) (before : List (List ℕ)) → Leads w before (lines_printed []) w before
none_led w before = record { same = λ s front at printed. ap (λ (x : PlainWorkspace). gives tt (record s { workspace = x })) at ∙ ap (λ (t : State). gives tt t) (still_printed s w (front ++ before) printed) }

-- one line more, whose glyphs are within the limit
pub one_led : (w v : PlainWorkspace) (before after lines : List (List ℕ)) (line : List ℕ) → Leads w before (lines_printed lines) v after → v.printed + length line ≤ most_printed
    → Leads w before (lines_printed (lines ++ line ∷ [])) (with_printed v (length line)) (after ++ line ∷ [])
one_led w v before after lines line led few = record {
  same = λ s front at printed.
      let t : State = record s { workspace = v; printed = front ++ after } in
      lines_and_lines lines (line ∷ []) s
      ∙ ap (λ (o : Effect). and_then o (λ _ u. lines_printed (line ∷ []) u)) (led.same s front at printed)
      ∙ then_unit (line_printed line t)
      ∙ ap (λ (b : Bool). if b then gives tt (record t { printed = t.printed ++ line ∷ []; workspace = with_printed t.workspace (length line) }) else refuses Interrupt t) (le-leb (v.printed + length line) most_printed few)
      ∙ ap (λ (list : List (List ℕ)). gives tt (record s { printed = list; workspace = with_printed v (length line) })) (append_assoc front after (line ∷ []));
}

-- a line whose glyphs would pass the limit is not printed, nor are those behind it
pub too_many_led : (w v : PlainWorkspace) (before after lines more : List (List ℕ)) (line : List ℕ) → Leads w before (lines_printed lines) v after → most_printed < v.printed + length line
    → EndsThere w before (lines_printed (lines ++ line ∷ more)) Interrupt v after
too_many_led w v before after lines more line led many = record {
  same = λ s front at printed.
      let t : State = record s { workspace = v; printed = front ++ after } in
      lines_and_lines lines (line ∷ more) s
      ∙ ap (λ (o : Effect). and_then o (λ _ u. lines_printed (line ∷ more) u)) (led.same s front at printed)
      ∙ ap (λ (b : Bool). and_then (if b then gives tt (record t { printed = t.printed ++ line ∷ []; workspace = with_printed t.workspace (length line) }) else refuses Interrupt t) (λ _ u. lines_printed more u)) (over (v.printed + length line) most_printed many);
}

-- the lines end the line where one of them would pass the limit
pub line_ends : (w v u : PlainWorkspace) (before after last lines done : List (List ℕ)) (line : List ℕ) (more : List (List ℕ)) (why : Fail) → Leads w before (lines_printed done) v after → u ≡ v → last ≡ after → lines ≡ done ++ line ∷ more
    → IsNotPrinted (v.printed + length line) why → HasLed {T = Unit {0}} w before (lines_printed lines) u last (Err why)
line_ends w v u before after last lines done line more (fail.Report report) led same left are many =
    subst (λ (x : PlainWorkspace). EndsThere w before (lines_printed lines) report x last) (sym same)
    (subst (λ (out : List (List ℕ)). EndsThere w before (lines_printed lines) report v out) (sym left)
    (subst (λ (list : List (List ℕ)). EndsThere w before (lines_printed list) report v after) (sym are)
    (subst (λ (r : Report). EndsThere w before (lines_printed (done ++ line ∷ more)) r v after) (sym many.0) (too_many_led w v before after done more line led many.1))))
line_ends w v u before after last lines done line more fail.WantOfMemory led same left are many = tt

-- the glyphs of one line more are counted
pub one_counted : (before was now : ℕ) (done lines : List (List ℕ)) (line : List ℕ) → was ≡ before + glyph_count done → now ≡ was + length line → lines ≡ done ++ line ∷ [] → now ≡ before + glyph_count lines
one_counted before was now done lines line so_far more are =
    let all : glyph_count lines ≡ glyph_count done + length line = ap glyph_count are ∙ sum_by_push (λ (one : List ℕ). length one) done line in omega (arith, all, so_far, more)

-- where memory ran out for a line, those before it were printed, and it may be too
pub stops_there : (T : Type 0) (why : Fail) (before was now : ℕ) (lines done others : List (List ℕ)) (line : List ℕ) → lines ≡ done ++ line ∷ others → was ≡ before + glyph_count done → now ≡ was
    → IsNotPrinted (was + length line) why → OnWantOfMemory {T = T} (Err why) (StopsAtLine lines before now)
stops_there T (fail.Report report) before was now lines done others line are counted same fits = tt
stops_there T fail.WantOfMemory before was now lines done others line are counted same fits = record { printed = done; line = line; others = others; whole = are; counted = same ∙ counted; fits = omega (arith, same, fits) }

-- what a `?` hands out is why they ended it
pub led_exit : (w v : PlainWorkspace) (before after : List (List ℕ)) (part : State → Effect) (r : Result (Unit {0}) Fail) (y why : Fail) → r ≡ Err y → y ≡ why → HasLed {T = Unit {0}} w before part v after (Err why) → HasLed w before part v after r
led_exit w v before after part r y why exit same led = subst (λ (x : Result (Unit {0}) Fail). HasLed w before part v after x) (sym exit) (subst (λ (f : Fail). HasLed {T = Unit {0}} w before part v after (Err f)) (sym same) led)

-- a part of an evaluation that leads on from the workspace and the lines of an interpreter, which is beside them as it was
pub done_as_led : {T : Type 0} (r : Result T Fail) (m n : PlainInterpreter) (part : State → Effect) → n ≡ record m { output = n.output; workspace = n.workspace } → HasLed m.workspace m.output part n.workspace n.output r → HasDone m part n r
done_as_led (Ok value) m n part beside led = record {
  same = λ asked count taken further. led.same (state_at m asked count taken further) taken refl refl ∙ ap (λ (x : PlainInterpreter). gives tt (state_at x asked count taken further)) (sym beside);
}
done_as_led (Err (fail.Report report)) m n part beside led = record {
  same = λ asked count taken further. led.same (state_at m asked count taken further) taken refl refl ∙ ap (λ (x : PlainInterpreter). refuses report (state_at x asked count taken further)) (sym beside);
}
done_as_led (Err fail.WantOfMemory) m n part beside led = tt
