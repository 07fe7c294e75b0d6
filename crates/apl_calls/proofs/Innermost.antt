-- The innermost function under way is the last of those that wait, and its lines go by their numbers.
use Rattle.std.proofs.Common.{◌≡◌, ◌≤◌, ◌<◌, ◌-◌, ◌^◌, ◌++◌, ℕ, true, zero, suc, List, [], ◌∷◌, length, take, refl, sym, ap, subst, ◌∙◌, arith, inl, inr, Bor}
use Rattle.std.specs.Prelude.{Option, Some, None, IfSome, IsSome, map, option_map, reverse, slice_get, unwrap_or}
use Rattle.std.specs.Arc.{arc_value}
use Rattle.std.specs.Option.{option_copied}
use Rattle.std.specs.Slice.{IsItemAt}
use Rattle.std.proofs.lemmas.Bool.{false≢true}
use Rattle.std.proofs.lemmas.List.{reverse-append}
use Rattle.std.proofs.lemmas.Option.{slice_get-map}
use Rattle.apl_workspace.specs.Function.{PlainFunction}
use Rattle.apl_workspace.specs.Limits.{most_function_lines}
use Rattle.apl_workspace.specs.Meaning.{IsGlobal, is_function_meaning, meaning_in}
use Rattle.apl_workspace.specs.Workspace.{IsWorkspace, PlainWorkspace, global_in}
use Rattle.apl_workspace.specs.declared.meaning.Meaning.{Meaning}
use Rattle.apl_workspace.specs.declared.meaning.Meaning.TheVariants as meaning
use Rattle.apl_meaning.specs.Tasks.{line_numbered}
use Rattle.apl_values.specs.declared.reading.LineReading.{LineReading}
use Rattle.apl_values.specs.Parts.{IsReadFrom}
use Rattle.apl_values.proofs.Found.{found_at, last_first}
use Rattle.apl_statements.specs.declared.waiting.Waiting.{Waiting}
use Rattle.apl_statements.specs.Evaluating.{function_by, innermost_function, line_of_innermost, stack_of}
use Rattle.apl_statements.specs.Sound.{AreUnderWay, IsKeptLine, IsFunctionUnderWay}
use Rattle.apl_statements.specs.Stack.{PlainWaiting}
use Rattle.apl_calls.specs.Waitings.{AreKeptOrRead, IsKeptAt, IsStandingAt}

-- ---- lines by their numbers

-- a line that was looked up
pub numbered : {A : Type 0} (v : A → List ℕ) (xs : List A) (lines : List (List ℕ)) (number at : ℕ) (r : Option (Bor A)) → IsItemAt xs at r → map v xs ≡ lines → 1 ≤ number → at ≡ number - 1 → option_map v (option_copied r) ≡ line_numbered lines number
numbered v xs lines zero at r is are some before = absurd (omega arith)
numbered v xs lines (suc number) at r is are some before =
    let same : at ≡ number = omega (arith, before) in
    ap (option_map v) (found_at xs at r is) ∙ sym (slice_get-map v xs at) ∙ ap (λ (list : List (List ℕ)). slice_get list at) are ∙ ap (slice_get lines) same

within : (lines : List (List ℕ)) (at : ℕ) → IsSome (slice_get lines at) → at < length lines
within [] at is = absurd (false≢true is)
within (line ∷ lines) zero is = omega arith
within (line ∷ lines) (suc at) is = let less : at < length lines = within lines at is in let more : suc at < suc (length lines) = omega (arith, less) in more

-- a line that is there has a number that is not 0 and not too large
pub line_within : (lines : List (List ℕ)) (number : ℕ) → IsSome (line_numbered lines number) → (1 ≤ number) × (number ≤ length lines)
line_within lines zero is = absurd (false≢true is)
line_within lines (suc number) is =
    let less : number < length lines = within lines number is in
    let some : 1 ≤ suc number = omega arith in
    let few : suc number ≤ length lines = omega (arith, less) in
    (some, few)

-- it is the line at the place before
line_before : (lines : List (List ℕ)) (number at : ℕ) → IsSome (line_numbered lines number) → at ≡ number - 1 → slice_get lines at ≡ Some (unwrap_or (line_numbered lines number) [])
line_before lines zero at is before = absurd (false≢true is)
line_before lines (suc number) at is before =
    let same : at ≡ number = omega (arith, before) in
    ap (slice_get lines) same ∙ there (slice_get lines number) is
  where
    there : (line : Option (List ℕ)) → IsSome line → line ≡ Some (unwrap_or line [])
    there None is = absurd (false≢true is)
    there (Some line) is = refl

-- ---- the innermost function

-- the last one that waits is the innermost
pub innermost_last : (w : PlainWorkspace) (input : List ℕ) (others : List Waiting) (waiting : Waiting) → innermost_function (stack_of w input (reverse (others ++ waiting ∷ []))) ≡ function_by (global_in w waiting.name)
innermost_last w input others waiting = ap (λ (ws : List Waiting). innermost_function (stack_of w input ws)) (reverse-append others (waiting ∷ []))

-- what holds of it and of the others
pub last_under_way : (w : PlainWorkspace) (others : List Waiting) (waiting : Waiting) → AreUnderWay w (reverse (others ++ waiting ∷ [])) → AreUnderWay w (waiting ∷ reverse others)
last_under_way w others waiting are = subst (AreUnderWay w) (reverse-append others (waiting ∷ [])) are

pub under_way_last : (w : PlainWorkspace) (others : List Waiting) (waiting : Waiting) → AreUnderWay w (waiting ∷ reverse others) → AreUnderWay w (reverse (others ++ waiting ∷ []))
under_way_last w others waiting are = subst (AreUnderWay w) (sym (reverse-append others (waiting ∷ []))) are

-- it stands at another line of it
pub stands_soundly : (w : PlainWorkspace) (input : List ℕ) (number : ℕ) (before after : List Waiting) → IsStandingAt number before after → IsSome (line_of_innermost (stack_of w input (reverse before)) number) → AreUnderWay w (reverse before) → AreUnderWay w (reverse after)
stands_soundly w input number before after stands is are =
    let f : PlainFunction = function_by (global_in w stands.waiting.name) in
    let was : AreUnderWay w (stands.waiting ∷ reverse stands.others) = last_under_way w stands.others stands.waiting (subst (λ (list : List Waiting). AreUnderWay w (reverse list)) stands.was are) in
    let there : IsSome (line_numbered f.lines number) = subst (λ (g : PlainFunction). IsSome (line_numbered g.lines number)) (ap (λ (list : List Waiting). innermost_function (stack_of w input (reverse list))) stands.was ∙ innermost_last w input stands.others stands.waiting) is in
    subst (λ (list : List Waiting). AreUnderWay w (reverse list)) (sym stands.is) (under_way_last w stands.others (record stands.waiting { number = number }) (
      record {
        frame = was.0.frame;
        function = was.0.function;
        number = (line_within f.lines number there).1;
        caller = was.0.caller;
        result = was.0.result;
        lines = was.0.lines;
      },
      was.1,
    ))

-- what is kept of one of its lines is how that line was read
pub kept_is_read : (w : PlainWorkspace) (input : List ℕ) (callers : List Waiting) (waiting : Waiting) (number at : ℕ) → AreUnderWay w (reverse callers) → slice_get callers (length callers - 1) ≡ Some waiting → IsSome (line_of_innermost (stack_of w input (reverse callers)) number) → at ≡ number - 1
    → IfSome (slice_get waiting.readings.items at) (λ kept. IfSome kept (λ reading. IsReadFrom w (unwrap_or (line_of_innermost (stack_of w input (reverse callers)) number) []) (arc_value reading)))
kept_is_read w input callers waiting number at are is there before =
    let f : PlainFunction = function_by (global_in w waiting.name) in
    let under : AreUnderWay w (waiting ∷ reverse (take (length callers - 1) callers)) = subst (AreUnderWay w) (last_first callers waiting is) are in
    let innermost : innermost_function (stack_of w input (reverse callers)) ≡ f = ap (λ (ws : List Waiting). innermost_function (stack_of w input ws)) (last_first callers waiting is) in
    let some : IsSome (line_numbered f.lines number) = subst (λ (g : PlainFunction). IsSome (line_numbered g.lines number)) innermost there in
    subst (λ (g : PlainFunction). IfSome (slice_get waiting.readings.items at) (λ kept. IfSome kept (λ reading. IsReadFrom w (unwrap_or (line_numbered g.lines number) []) (arc_value reading)))) (sym innermost)
    (subst (λ (line : Option (List ℕ)). IfSome (slice_get waiting.readings.items at) (λ kept. IfSome kept (λ reading. IsKeptLine w line (arc_value reading)))) (line_before f.lines number at some before) (under.0.lines at))

-- a line of which a reading is kept is there
kept_line_there : {A : Type 0} (w : PlainWorkspace) (line : Option (List ℕ)) (read : A → LineReading) (kept : Option (Option A)) (reading : A) → kept ≡ Some (Some reading) → IfSome kept (λ kept. IfSome kept (λ r. IsKeptLine w line (read r))) → IsSome line
kept_line_there w line read None reading e is = absurd (let no : None ≡ Some (Some reading) = e in cc)
kept_line_there w line read (Some None) reading e is = absurd (let no : Some None ≡ Some (Some reading) = e in cc)
kept_line_there w None read (Some (Some one)) reading e is = absurd is
kept_line_there w (Some line) read (Some (Some one)) reading e is = refl

numbered_there : (lines : List (List ℕ)) (number : ℕ) → 1 ≤ number → IsSome (slice_get lines (number - 1)) → IsSome (line_numbered lines number)
numbered_there lines zero some is = absurd (omega (arith, some))
numbered_there lines (suc number) some is =
    let same : suc number - 1 ≡ number = omega arith in
    subst (λ (k : ℕ). IsSome (slice_get lines k)) same is

pub kept_is_there : (w : PlainWorkspace) (input : List ℕ) (callers : List Waiting) (waiting : Waiting) (number : ℕ) → AreUnderWay w (reverse callers) → slice_get callers (length callers - 1) ≡ Some waiting → IsKeptAt waiting.readings.items number
    → IsSome (line_of_innermost (stack_of w input (reverse callers)) number)
kept_is_there w input callers waiting number are is kept =
    let f : PlainFunction = function_by (global_in w waiting.name) in
    let under : AreUnderWay w (waiting ∷ reverse (take (length callers - 1) callers)) = subst (AreUnderWay w) (last_first callers waiting is) are in
    let innermost : innermost_function (stack_of w input (reverse callers)) ≡ f = ap (λ (ws : List Waiting). innermost_function (stack_of w input ws)) (last_first callers waiting is) in
    subst (λ (g : PlainFunction). IsSome (line_numbered g.lines number)) (sym innermost)
    (numbered_there f.lines number kept.some (kept_line_there w (slice_get f.lines (number - 1)) arc_value (slice_get waiting.readings.items (number - 1)) kept.reading kept.there (under.0.lines (number - 1))))

-- one reading more is kept
still_kept : {A : Type 0} (w : PlainWorkspace) (lines : List (List ℕ)) (read : A → LineReading) (before after : List (Option A)) (at : ℕ) (reading : LineReading) (line : List ℕ) → AreKeptOrRead read at reading before after → slice_get lines at ≡ Some line → IsReadFrom w line reading
    → ((k : ℕ) → IfSome (slice_get before k) (λ kept. IfSome kept (λ r. IsKeptLine w (slice_get lines k) (read r)))) → (k : ℕ) → IfSome (slice_get after k) (λ kept. IfSome kept (λ r. IsKeptLine w (slice_get lines k) (read r)))
still_kept {A = A} w lines read before after at reading line kept there is were k = by (slice_get after k) refl
  where
    by : (found : Option (Option A)) → slice_get after k ≡ found → IfSome found (λ kept. IfSome kept (λ r. IsKeptLine w (slice_get lines k) (read r)))
    by None e = tt
    by (Some None) e = tt
    by (Some (Some one)) e =
        elim (kept k one e) [
          | inl was ↦ subst (λ (found : Option (Option A)). IfSome found (λ kept. IfSome kept (λ r. IsKeptLine w (slice_get lines k) (read r)))) was (were k)
          | inr now ↦ subst (IsKeptLine w (slice_get lines k)) (sym now.1) (subst (λ (found : Option (List ℕ)). IsKeptLine w found reading) (sym (ap (slice_get lines) now.0 ∙ there)) is)
        ]

pub keeps_soundly : (w : PlainWorkspace) (input : List ℕ) (callers others : List Waiting) (waiting after : Waiting) (number at : ℕ) (reading : LineReading) → callers ≡ others ++ waiting ∷ [] → after ≡ record waiting { readings = after.readings }
    → AreKeptOrRead arc_value at reading waiting.readings.items after.readings.items → at ≡ number - 1 → IsSome (line_of_innermost (stack_of w input (reverse callers)) number)
    → IsReadFrom w (unwrap_or (line_of_innermost (stack_of w input (reverse callers)) number) []) reading → AreUnderWay w (reverse callers) → AreUnderWay w (reverse (others ++ after ∷ []))
keeps_soundly w input callers others waiting after number at reading are_these same kept before there is are =
    let f : PlainFunction = function_by (global_in w waiting.name) in
    let was : AreUnderWay w (waiting ∷ reverse others) = last_under_way w others waiting (subst (λ (list : List Waiting). AreUnderWay w (reverse list)) are_these are) in
    let innermost : innermost_function (stack_of w input (reverse callers)) ≡ f = ap (λ (list : List Waiting). innermost_function (stack_of w input (reverse list))) are_these ∙ innermost_last w input others waiting in
    let some : IsSome (line_numbered f.lines number) = subst (λ (g : PlainFunction). IsSome (line_numbered g.lines number)) innermost there in
    let read : IsReadFrom w (unwrap_or (line_numbered f.lines number) []) reading = subst (λ (g : PlainFunction). IsReadFrom w (unwrap_or (line_numbered g.lines number) []) reading) innermost is in
    let with : IsFunctionUnderWay w (record waiting { readings = after.readings }) = record {
      frame = was.0.frame;
      function = was.0.function;
      number = was.0.number;
      caller = was.0.caller;
      result = was.0.result;
      lines = still_kept w f.lines arc_value waiting.readings.items after.readings.items at reading (unwrap_or (line_numbered f.lines number) []) kept (line_before f.lines number at some before) read was.0.lines;
    } in
    under_way_last w others after (subst (IsFunctionUnderWay w) (sym same) with, was.1)

-- the number of its line
pub number_of_last : (w : PlainWorkspace) (input : List ℕ) (callers : List Waiting) (waiting : Waiting) → slice_get callers (length callers - 1) ≡ Some waiting → Some waiting.number ≡ option_map (λ (p : PlainWaiting). p.number) (slice_get (stack_of w input (reverse callers)) 0)
number_of_last w input callers waiting is = sym (ap (λ (ws : List Waiting). option_map (λ (p : PlainWaiting). p.number) (slice_get (stack_of w input ws) 0)) (last_first callers waiting is))

-- ---- what holds of those that wait

-- where some function is under way, some frame is there
pub some_frame : (w : PlainWorkspace) (input : List ℕ) (callers : List Waiting) → AreUnderWay w callers → (stack_of w input callers ≡ [] → ⊥) → w.frames ≡ [] → ⊥
some_frame w input [] are some none = some refl
some_frame w input (waiting ∷ others) are some none = are.0.frame none

few_lines : (found : Option Meaning) (name : List ℕ) → IfSome found (IsGlobal name) → is_function_meaning (unwrap_or found meaning.Nothing) ≡ true → length (function_by (unwrap_or found meaning.Nothing)).lines ≤ most_function_lines
few_lines None name is function = absurd (false≢true function)
few_lines (Some meaning.Nothing) name is function = absurd (false≢true function)
few_lines (Some (meaning.Value value)) name is function = absurd (false≢true function)
few_lines (Some (meaning.Function f)) name is function = is.0.count
few_lines (Some (meaning.Label line)) name is function = absurd (false≢true function)
few_lines (Some (meaning.Shared copy)) name is function = absurd (false≢true function)

-- the number of a line under way is small
pub number_is_small : (w : PlainWorkspace) (callers others : List Waiting) (waiting : Waiting) → IsWorkspace w → AreUnderWay w (reverse callers) → reverse callers ≡ waiting ∷ others → waiting.number < 2 ^ 32
number_is_small w callers others waiting rules are is =
    let under : AreUnderWay w (waiting ∷ others) = subst (AreUnderWay w) is are in
    let few : length (function_by (global_in w waiting.name)).lines ≤ 200 = few_lines (meaning_in w.globals waiting.name) waiting.name (rules.globals waiting.name) under.0.function in
    let number : waiting.number ≤ length (function_by (global_in w waiting.name)).lines = under.0.number in
    omega (arith, few, number)
