-- What a bracket does to a function that is opened by it.
use Rattle.std.proofs.Common.{◌≡◌, ℕ, suc, ◌+◌, ◌*◌, ◌/◌, ◌%◌, ◌≤◌, ◌<◌, Bool, true, false, cond, eqb, leb, ltb, ◌&&◌, ◌||◌, List, [], ◌∷◌, Option, Some, None, length, refl, sym, ap, subst, ◌∙◌, arith}
use Rattle.std.specs.Prelude.{is_some}
use Rattle.std.specs.Option.{option_map}
use Rattle.std.specs.BTreeMap.{is_at}
use Rattle.std.specs.Map.{lookup}
use Rattle.std.specs.Ordering.{is_eq, nat_cmp}
use Rattle.std.specs.declared.cmp.Ordering.TheVariants.{Less, Equal, Greater}
use Rattle.std.proofs.lemmas.Bool.Decides.{nat_tests}
use Rattle.apl_workspace.specs.Function.{PlainFunction}
use Rattle.fn_editor.specs.Closing.{is_blank_text}
use Rattle.fn_editor.specs.Editing.{Edited, bracket_done, is_header_bracket, is_in_reach, may_enter, with_current_number}
use Rattle.fn_editor.specs.Editor.{Lines, PlainEditor, editor_of, has_line, last_number, numbered}
use Rattle.fn_editor.specs.Number.{line_number, tenth, whole_part}
use Rattle.fn_editor.specs.declared.bracket.Bracket.TheVariants.{Show, Delete, At}

there : {A : Type 0} (b : Bool) (x : A) → is_some (cond b (Some x) None) ≡ b
there true x = refl
there false x = refl

mapped : {A B : Type 0} (f : A → B) (o : Option A) → is_some (option_map f o) ≡ is_some o
mapped f None = refl
mapped f (Some x) = refl

either : {A : Type 0} (a b : Bool) (x y : A) → is_some (cond a (Some x) (cond b (Some y) None)) ≡ (a || b)
either true b x y = refl
either false true x y = refl
either false false x y = refl

where_first : {A : Type 0} (a : Bool) (o : Option A) → is_some (cond a o None) ≡ (a && is_some o)
where_first true o = refl
where_first false o = refl

-- what shows the definition
pub shows : (e : PlainEditor) (text : List ℕ) → (is_header_bracket Show || is_some (bracket_done e Show text)) ≡ is_blank_text text
shows e text = there (is_blank_text text) _

-- what deletes a line
pub deletes : (e : PlainEditor) (number : ℕ) (text : List ℕ) → (is_header_bracket (Delete number) || is_some (bracket_done e (Delete number) text)) ≡ (is_blank_text text && has_line e.lines number)
deletes e number text = there (is_blank_text text && has_line e.lines number) _

-- what goes to a number
pub enters : (e : PlainEditor) (number : ℕ) (text : List ℕ) → (is_header_bracket (At number) || is_some (bracket_done e (At number) text)) ≡ (is_in_reach e number && (is_blank_text text || may_enter (with_current_number e number) text))
enters e number text =
    where_first (is_in_reach e number) _
    ∙ ap (λ (b : Bool). is_in_reach e number && b) (mapped _ _ ∙ either (is_blank_text text) (may_enter (with_current_number e number) text) _ _)

-- ---- lines with whole numbers

equal_where : (less same : Bool) → (less ≡ true → same ≡ false) → is_eq (cond less Less (cond same Equal Greater)) ≡ same
equal_where true same apart = sym (apart refl)
equal_where false true apart = refl
equal_where false false apart = refl

-- a number is that of a line, by its parts
same_number : (n k : ℕ) → is_at (nat_cmp n) (line_number k 0) ≡ (eqb (tenth n) 0 && eqb (whole_part n) k)
same_number n k =
    equal_where (ltb n (line_number k 0)) (eqb n (line_number k 0)) (λ less. grind (arith, nat_tests))
    ∙ (let by_parts : eqb n (line_number k 0) ≡ (eqb (tenth n) 0 && eqb (whole_part n) k) = grind (arith, nat_tests) in by_parts)

lookup_step : (b : Bool) (k count w t : ℕ) (rest : Bool) → b ≡ (eqb t 0 && eqb w k) → rest ≡ (eqb t 0 && (leb (k + 1) w && ltb w (k + 1 + count))) → cond b true rest ≡ (eqb t 0 && (leb k w && ltb w (k + suc count)))
lookup_step b k count w t rest here further = grind (arith, nat_tests)

some_by : {A : Type 0} (b : Bool) (x : A) (o : Option A) → is_some (cond b (Some x) o) ≡ cond b true (is_some o)
some_by true x o = refl
some_by false x o = refl

whole_from : (k : ℕ) (lines : List (List ℕ)) (n : ℕ) → has_line (numbered k lines) n ≡ (eqb (tenth n) 0 && (leb k (whole_part n) && ltb (whole_part n) (k + length lines)))
whole_from k [] n = grind (arith, nat_tests)
whole_from k (line ∷ lines) n =
    some_by (is_at (nat_cmp n) (line_number k 0)) line (lookup (is_at (nat_cmp n)) (numbered (k + 1) lines))
    ∙ lookup_step (is_at (nat_cmp n) (line_number k 0)) k (length lines) (whole_part n) (tenth n) (has_line (numbered (k + 1) lines) n) (same_number n k) (whole_from (k + 1) lines n)

-- a function that is opened has the lines with these numbers
pub has_whole : (function : PlainFunction) (n : ℕ) → has_line (editor_of function).lines n ≡ (eqb (tenth n) 0 && (leb 1 (whole_part n) && leb (whole_part n) (length function.lines)))
has_whole function n = whole_from 1 function.lines n ∙ ap (λ (b : Bool). eqb (tenth n) 0 && (leb 1 (whole_part n) && b)) (grind (arith, nat_tests))

last_from : (k : ℕ) (lines : List (List ℕ)) → last_number (line_number k 0) (numbered (k + 1) lines) ≡ line_number (k + length lines) 0
last_from k [] = omega arith
last_from k (line ∷ lines) = last_from (k + 1) lines ∙ (let same : line_number (k + 1 + length lines) 0 ≡ line_number (k + suc (length lines)) 0 = omega arith in same)

-- how far a function that is opened reaches
pub reach_of_lines : (function : PlainFunction) (n : ℕ) → is_in_reach (editor_of function) n ≡ leb (whole_part n) (length function.lines + 1)
reach_of_lines function n =
    let last : last_number 0 (numbered 1 function.lines) ≡ line_number (0 + length function.lines) 0 = last_from 0 function.lines in
    let whole : whole_part (last_number 0 (numbered 1 function.lines)) ≡ length function.lines = omega (arith, last) in
    ap (λ (m : ℕ). leb (whole_part n) (m + 1)) whole

-- the last of three tests decides, where the others hold
pub both_hold : (a b c : Bool) → a ≡ true → b ≡ true → c ≡ (a && (b && c))
both_hold a b c first second = rw (first, second) refl

-- a text enters at a number with no line where lines are few, if it is not too long and the number not too large
pub enters_new : (e : PlainEditor) (text : List ℕ) → is_blank_text text ≡ false → leb (length text) 1000 ≡ true → leb (whole_part e.number) 999 ≡ true → has_line e.lines e.number ≡ false → ltb (length e.lines) 200 ≡ (is_blank_text text || may_enter e text)
enters_new e text blank small whole there = rw (blank, small, whole, there) refl
