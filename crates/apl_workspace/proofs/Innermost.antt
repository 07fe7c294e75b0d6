-- Frames from the innermost outwards.
use Rattle.std.proofs.Common.{◌≡◌, ℕ, suc, ◌+◌, ◌-◌, ◌<◌, ◌≤◌, true, false, cond, List, [], ◌∷◌, ◌++◌, Option, Some, None, length, take, drop, get_or, set, reverse, sum_by, refl, sym, ap, ◌∙◌, append_assoc, drop-cons, ⊎_elim, arith}
use Rattle.std.specs.Prelude.{IsSome, is_some, nat_le}
use Rattle.std.specs.Option.{option_or}
use Rattle.std.proofs.lemmas.Bool.{cases_lt}
use Rattle.std.proofs.lemmas.Bool.Decides.{nat_tests}
use Rattle.std.proofs.lemmas.List.{take_more, take-append-drop, length-take-le, get_or-append_right, reverse-append}
use Rattle.std.proofs.lemmas.List.Sums.{sum_by-append, sum_by-cons}
use Rattle.std.proofs.Math.Seq.{set-append_seam}
use Rattle.apl_arrays.specs.declared.report.Fail.{Fail}
use Rattle.apl_arrays.specs.declared.report.Fail.TheVariants.{Report, WantOfMemory}
use Rattle.apl_arrays.specs.declared.report.Report.TheVariants.{WsFull}
use Rattle.apl_workspace.specs.declared.meaning.Meaning.{Meaning}
use Rattle.apl_workspace.specs.Meaning.{IsFullFor, NameTable, meaning_in, table_weight, with_meaning}
use Rattle.apl_workspace.specs.Workspace.{AreTooHeavy, IsInnermostAt, in_innermost, innermost}

-- the frame at a place comes before those below it
pub next_frame : (frames : List NameTable) (at : ℕ) (table : NameTable) → at < length frames → table ≡ get_or frames at table → reverse (take (at + 1) frames) ≡ table ∷ reverse (take at frames)
next_frame frames at table lt e = ap reverse (take_more frames at table lt ∙ ap (λ last. take at frames ++ last ∷ []) (sym e)) ∙ reverse-append (take at frames) (table ∷ [])

step : (frames : List NameTable) (left at : ℕ) (table : NameTable) (name : List ℕ) → at + 1 ≡ left → left ≤ length frames → table ≡ get_or frames at table
    → innermost (reverse (take left frames)) name ≡ option_or (meaning_in table name) (innermost (reverse (take at frames)) name)
step frames left at table name more lt e =
    ap (λ (k : ℕ). innermost (reverse (take k frames)) name) (sym more) ∙ ap (λ tables. innermost tables name) (next_frame frames at table (omega (arith, more, lt)) e)

pub innermost_found : (frames : List NameTable) (left at : ℕ) (table : NameTable) (name : List ℕ) (meaning : Meaning) → at + 1 ≡ left → left ≤ length frames → table ≡ get_or frames at table
    → innermost (reverse (take left frames)) name ≡ innermost (reverse frames) name → meaning_in table name ≡ Some meaning → Some meaning ≡ innermost (reverse frames) name
innermost_found frames left at table name meaning more lt e so found = sym (ap (λ o. option_or o (innermost (reverse (take at frames)) name)) found) ∙ sym (step frames left at table name more lt e) ∙ so

pub innermost_goes_on : (frames : List NameTable) (left at : ℕ) (table : NameTable) (name : List ℕ) → at + 1 ≡ left → left ≤ length frames → table ≡ get_or frames at table
    → innermost (reverse (take left frames)) name ≡ innermost (reverse frames) name → meaning_in table name ≡ None → innermost (reverse (take at frames)) name ≡ innermost (reverse frames) name
innermost_goes_on frames left at table name more lt e so none = sym (ap (λ o. option_or o (innermost (reverse (take at frames)) name)) none) ∙ sym (step frames left at table name more lt e) ∙ so

-- ---- the place of the innermost frame that has a name

none_of_two : (first second : Option Meaning) → first ≡ None → second ≡ None → option_or first second ≡ None
none_of_two None second e f = f
none_of_two (Some meaning) second e f = absurd cc

or_none : (first second : Option Meaning) → option_or first second ≡ None → (first ≡ None) × (second ≡ None)
or_none None second e = (refl, e)
or_none (Some meaning) second e = absurd cc

-- a table outside the others that lack the name, and lacks it too
lacking_too : (tables : List NameTable) (last : NameTable) (name : List ℕ) → innermost tables name ≡ None → meaning_in last name ≡ None → innermost (tables ++ last ∷ []) name ≡ None
lacking_too [] last name e f = none_of_two (meaning_in last name) None f refl
lacking_too (table ∷ tables) last name e f =
    let parts = or_none (meaning_in table name) (innermost tables name) e in
    none_of_two (meaning_in table name) (innermost (tables ++ last ∷ []) name) parts.0 (lacking_too tables last name parts.1 f)

behind_place : (frames : List NameTable) (at : ℕ) (table : NameTable) → at < length frames → table ≡ get_or frames at table → drop at frames ≡ table ∷ drop (at + 1) frames
behind_place frames at table lt e =
    let next : suc at ≡ at + 1 = omega arith in
    drop-cons frames at table lt ∙ ap (λ first. first ∷ drop (suc at) frames) (sym e) ∙ ap (λ (k : ℕ). table ∷ drop k frames) next

pub none_from : (found : Option Meaning) → is_some found ≡ false → found ≡ None
none_from None e = refl
none_from (Some meaning) e = absurd cc

pub place_goes_on : (frames : List NameTable) (left at : ℕ) (table : NameTable) (name : List ℕ) → at + 1 ≡ left → left ≤ length frames → table ≡ get_or frames at table → innermost (reverse (drop left frames)) name ≡ None
    → is_some (meaning_in table name) ≡ false → innermost (reverse (drop at frames)) name ≡ None
place_goes_on frames left at table name more lt e so none =
    let here : reverse (drop at frames) ≡ reverse (drop left frames) ++ table ∷ [] =
    ap reverse (behind_place frames at table (omega (arith, more, lt)) e) ∙ reverse-append (table ∷ []) (drop (at + 1) frames) ∙ ap (λ (k : ℕ). reverse (drop k frames) ++ table ∷ []) more in
    ap (λ tables. innermost tables name) here ∙ lacking_too (reverse (drop left frames)) table name so (none_from (meaning_in table name) none)

pub place_found : (frames : List NameTable) (left at : ℕ) (table : NameTable) (name : List ℕ) → at + 1 ≡ left → left ≤ length frames → table ≡ get_or frames at table → innermost (reverse (drop left frames)) name ≡ None
    → is_some (meaning_in table name) ≡ true → IsInnermostAt frames name at
place_found frames left at table name more lt e so found = record {
  outer = take at frames;
  table = table;
  inner = drop left frames;
  whole = sym (take-append-drop at frames) ∙ ap (λ back. take at frames ++ back) (behind_place frames at table (omega (arith, more, lt)) e) ∙ ap (λ (k : ℕ). take at frames ++ table ∷ drop k frames) more;
  place = length-take-le at frames (omega (arith, more, lt));
  has = found;
  lacking = so;
}

pub no_place : (frames : List NameTable) (left : ℕ) (name : List ℕ) → left ≡ 0 → innermost (reverse (drop left frames)) name ≡ None → innermost (reverse frames) name ≡ None
no_place frames left name e so = sym (ap (λ (k : ℕ). innermost (reverse (drop k frames)) name) e) ∙ so

-- ---- a value put into the innermost frame that has the name

past_lacking : (lacking : List NameTable) (table : NameTable) (others : List NameTable) (name : List ℕ) (meaning : Meaning) → innermost lacking name ≡ None → is_some (meaning_in table name) ≡ true
    → in_innermost (lacking ++ table ∷ others) name meaning ≡ lacking ++ with_meaning table name meaning ∷ others
past_lacking [] table others name meaning e has = ap (λ b. cond {A = List NameTable} b (with_meaning table name meaning ∷ others) (table ∷ in_innermost others name meaning)) has
past_lacking (first ∷ lacking) table others name meaning e has =
    let parts = or_none (meaning_in first name) (innermost lacking name) e in
    let rest = in_innermost (lacking ++ table ∷ others) name meaning in
    ap (λ o. cond {A = List NameTable} (is_some o) (with_meaning first name meaning ∷ (lacking ++ table ∷ others)) (first ∷ rest)) parts.0 ∙ ap (λ tables. first ∷ tables) (past_lacking lacking table others name meaning parts.1 has)

pub reversed : (outer : List NameTable) (table : NameTable) (inner : List NameTable) → reverse (outer ++ table ∷ inner) ≡ reverse inner ++ table ∷ reverse outer
reversed outer table inner = reverse-append outer (table ∷ inner) ∙ ap (λ front. front ++ reverse outer) (reverse-append (table ∷ []) inner) ∙ append_assoc (reverse inner) (table ∷ []) (reverse outer)

-- the frames with another table at that place have the value in the innermost frame that has the name
pub put_innermost : (outer : List NameTable) (table : NameTable) (inner : List NameTable) (name : List ℕ) (meaning : Meaning) → is_some (meaning_in table name) ≡ true → innermost (reverse inner) name ≡ None
    → reverse (outer ++ with_meaning table name meaning ∷ inner) ≡ in_innermost (reverse (outer ++ table ∷ inner)) name meaning
put_innermost outer table inner name meaning has lacking =
    reversed outer (with_meaning table name meaning) inner
    ∙ sym (ap (λ tables. in_innermost tables name meaning) (reversed outer table inner) ∙ past_lacking (reverse inner) table (reverse outer) name meaning lacking has)

-- ---- weights of frames

sum_of_two : (first second : List NameTable) → sum_by table_weight (first ++ second) ≡ sum_by table_weight first + sum_by table_weight second
sum_of_two first second = sum_by-append table_weight first second

pub weight_reversed : (frames : List NameTable) → sum_by table_weight (reverse frames) ≡ sum_by table_weight frames
weight_reversed [] = refl
weight_reversed (table ∷ frames) =
    let back : reverse (table ∷ frames) ≡ reverse frames ++ table ∷ [] = reverse-append (table ∷ []) frames in
    ap (sum_by table_weight) back ∙ omega (arith, sum_of_two (reverse frames) (table ∷ []), sum_by-cons table_weight table [], sum_by-cons table_weight table frames, weight_reversed frames)

pub weight_around : (outer : List NameTable) (table : NameTable) (inner : List NameTable) → sum_by table_weight (outer ++ table ∷ inner) ≡ sum_by table_weight outer + (table_weight table + sum_by table_weight inner)
weight_around outer table inner = sum_of_two outer (table ∷ inner) ∙ ap (λ (n : ℕ). sum_by table_weight outer + n) (sum_by-cons table_weight table inner)

pub frame_at : (frames : List NameTable) (name : List ℕ) (at : ℕ) (found : NameTable) (h : IsInnermostAt frames name at) → found ≡ get_or frames at found → found ≡ h.table
frame_at frames name at found h e =
    let here : at ≤ at = omega arith in
    let none : at - at ≡ 0 = omega arith in
    e ∙ ap (λ (all : List NameTable). get_or all at found) h.whole ∙ get_or-append_right h.outer (h.table ∷ h.inner) at at found h.place here ∙ ap (λ (k : ℕ). get_or (h.table ∷ h.inner) k found) none

pub frames_set : (frames : List NameTable) (name : List ℕ) (at : ℕ) (made : NameTable) (h : IsInnermostAt frames name at) → set frames at made ≡ h.outer ++ made ∷ h.inner
frames_set frames name at made h =
    ap (λ (all : List NameTable). set all at made) h.whole ∙ ap (λ (k : ℕ). set (h.outer ++ h.table ∷ h.inner) k made) (sym h.place) ∙ set-append_seam h.outer h.table h.inner made

-- what is reckoned before a value is put into the innermost frame that has its name
pub record IsPut (frames : List NameTable) (found : NameTable) (name : List ℕ) (meaning : Meaning) (at before weight : ℕ) : Type 0 where
  pub lighter : before ≤ weight
  pub stays : (made : NameTable) → made ≡ found → set frames at made ≡ frames
  pub put : (made : NameTable) → made ≡ with_meaning found name meaning → reverse (set frames at made) ≡ in_innermost (reverse frames) name meaning
  pub weighs : sum_by table_weight (in_innermost (reverse frames) name meaning) ≡ weight - before + table_weight (with_meaning found name meaning)

pub is_put : (frames : List NameTable) (found : NameTable) (name : List ℕ) (meaning : Meaning) (at before weight : ℕ) → IsInnermostAt frames name at → found ≡ get_or frames at found → before ≡ table_weight found → weight ≡ sum_by table_weight frames
    → IsPut frames found name meaning at before weight
is_put frames found name meaning at before weight h e b w =
    let is = frame_at frames name at found h e in
    let with_found = with_meaning found name meaning in
    let around = λ (made : NameTable). frames_set frames name at made h in
    let put = λ (made : NameTable) (m : made ≡ with_found).
    ap reverse (around made ∙ ap (λ (t : NameTable). h.outer ++ t ∷ h.inner) (m ∙ ap (λ (t : NameTable). with_meaning t name meaning) is)) ∙ put_innermost h.outer h.table h.inner name meaning h.has h.lacking
    ∙ ap (λ (all : List NameTable). in_innermost (reverse all) name meaning) (sym h.whole) in
    let old : weight ≡ sum_by table_weight h.outer + (table_weight h.table + sum_by table_weight h.inner) = w ∙ ap (sum_by table_weight) h.whole ∙ weight_around h.outer h.table h.inner in
    let was : before ≡ table_weight h.table = b ∙ ap table_weight is in
    let new : sum_by table_weight (in_innermost (reverse frames) name meaning) ≡ sum_by table_weight h.outer + (table_weight with_found + sum_by table_weight h.inner) =
    ap (sum_by table_weight) (sym (put with_found refl)) ∙ weight_reversed (set frames at with_found) ∙ ap (sum_by table_weight) (around with_found) ∙ weight_around h.outer with_found h.inner in
    record {
      lighter = omega (arith, old, was);
      stays = λ made m. around made ∙ ap (λ (t : NameTable). h.outer ++ t ∷ h.inner) (m ∙ is) ∙ sym h.whole;
      put = put;
      weighs = omega (arith, old, was, new);
    }

-- a table that would weigh more than is left for it makes frames that weigh more than they may
pub full_frames : (frames : List NameTable) (found : NameTable) (name : List ℕ) (meaning : Meaning) (at before weight most : ℕ) (fail : Fail) → IsPut frames found name meaning at before weight → weight ≤ most
    → IsFullFor (most - (weight - before)) (with_meaning found name meaning) fail → fail ≡ Report WsFull → AreTooHeavy most (in_innermost (reverse frames) name meaning) fail
full_frames frames found name meaning at before weight most (Report report) h within full is = (is, omega (arith, h.weighs, within, full.1))
full_frames frames found name meaning at before weight most WantOfMemory h within full is = absurd cc

-- the frame at the place has the name
pub has_it : (frames : List NameTable) (name : List ℕ) (at : ℕ) (found : NameTable) → IsInnermostAt frames name at → found ≡ get_or frames at found → IsSome (meaning_in found name)
has_it frames name at found h e = ap (λ (t : NameTable). is_some (meaning_in t name)) (frame_at frames name at found h e) ∙ h.has

-- ---- whether frames keep within a weight

is_within : (a b : ℕ) → a ≤ b → nat_le a b ≡ true
is_within a b e = grind (arith, nat_tests)

not_within : (a b : ℕ) → b < a → nat_le a b ≡ false
not_within a b e = grind (arith, nat_tests)

pub least_left : (a b others most : ℕ) → others ≤ most → b ≡ others + a → nat_le a (most - others) ≡ nat_le b most
least_left a b others most within is =
    ⊎_elim (λ lt. not_within a (most - others) (omega (arith, lt, within, is)) ∙ sym (not_within b most lt)) (λ le. is_within a (most - others) (omega (arith, le, within, is)) ∙ sym (is_within b most le)) (cases_lt most b)

-- whether a table fits into what is left for it tells whether all frames fit
pub frames_fit : (frames : List NameTable) (found : NameTable) (name : List ℕ) (meaning : Meaning) (at before weight most : ℕ) → IsPut frames found name meaning at before weight → weight ≤ most
    → nat_le (table_weight (with_meaning found name meaning)) (most - (weight - before)) ≡ nat_le (sum_by table_weight (in_innermost (reverse frames) name meaning)) most
frames_fit frames found name meaning at before weight most h within =
    least_left (table_weight (with_meaning found name meaning)) (sum_by table_weight (in_innermost (reverse frames) name meaning)) (weight - before) most (omega (arith, within)) h.weighs
