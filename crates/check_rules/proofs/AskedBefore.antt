-- What a session asked of its driver with some answers is what it asked with more, as far as it had come.
use Rattle.std.proofs.Common.{◌≡◌, ℕ, ◌≤◌, List, [], ◌∷◌, ◌++◌, length, Option, Some, None, refl, sym, ap, ◌∙◌, subst, arith, append-nil, append_assoc, length-append}
use Rattle.std.specs.Prelude.{IsSome}
use Rattle.apl_meaning.specs.Meaning.{most_statements}
use Rattle.sv_events.specs.Answer.{PlainAnswer}
use Rattle.sv_events.specs.declared.event.Act.{Act}
use Rattle.session_rules.proofs.MoreAnswers.{more_comes_back}
use Rattle.session_rules.proofs.Taking.{lines_took, next_is_taken, one_by_one}
use Rattle.session_rules.specs.Course.{Course, course_beginning}
use Rattle.session_rules.specs.Session.{session_of}
use Rattle.session_rules.specs.Shelf.{ShelfReply}

-- no more acts were answered than there are answers
few_acts : (lines : List (List ℕ)) (answers : List PlainAnswer) (replies : List ShelfReply) → length (session_of lines answers replies).acts ≤ length answers
few_acts lines answers replies =
    let k = lines_took most_statements lines (course_beginning answers replies) refl in
    omega (arith, ap length k.asked, k.one_by_one, ap length k.answers, length-append k.taken (session_of lines answers replies).answers)

some_waits : (lines : List (List ℕ)) (answers : List PlainAnswer) (replies : List ShelfReply) (asked : Act) → (session_of lines answers replies).waits ≡ Some asked → length (session_of lines answers replies).acts ≡ length answers
some_waits lines answers replies asked is = (one_by_one lines answers replies (subst (λ (waits : Option Act). IsSome waits) (sym is) refl)).1

-- acts that were asked follow others
record GoOn (before after : List Act) : Type 0 where
  more : List Act
  same : after ≡ before ++ more

regroup : (answers : List PlainAnswer) (answer : PlainAnswer) (more : List PlainAnswer) → (answers ++ answer ∷ []) ++ more ≡ answers ++ answer ∷ more
regroup answers answer more = append_assoc answers (answer ∷ []) more

-- with more answers a session asked the same acts, and perhaps others behind them
go_on : (lines : List (List ℕ)) (replies : List ShelfReply) (answers more : List PlainAnswer) → GoOn (session_of lines answers replies).acts (session_of lines (answers ++ more) replies).acts
go_on lines replies answers [] = record {
  more = [];
  same = ap (λ (given : List PlainAnswer). (session_of lines given replies).acts) (append-nil answers) ∙ sym (append-nil (session_of lines answers replies).acts);
}
go_on lines replies answers (answer ∷ more) = by (session_of lines answers replies).waits refl (go_on lines replies (answers ++ answer ∷ []) more) where
  by : (waits : Option Act) → (session_of lines answers replies).waits ≡ waits → GoOn (session_of lines (answers ++ answer ∷ []) replies).acts (session_of lines ((answers ++ answer ∷ []) ++ more) replies).acts
      → GoOn (session_of lines answers replies).acts (session_of lines (answers ++ answer ∷ more) replies).acts
  by None over rest = record {
    more = [];
    same = ap (λ (c : Course). c.acts) (more_comes_back lines answers (answer ∷ more) replies over) ∙ sym (append-nil (session_of lines answers replies).acts);
  }
  by (Some asked) is rest = record {
    more = asked ∷ rest.more;
    same = ap (λ (given : List PlainAnswer). (session_of lines given replies).acts) (sym (regroup answers answer more))
        ∙ (rest.same
        ∙ (ap (λ (acts : List Act). acts ++ rest.more) (next_is_taken lines answers replies answer asked is) ∙ append_assoc (session_of lines answers replies).acts (asked ∷ []) rest.more));
  }

-- lists that are equal, whose fronts are as long, go on with the same
same_next : (front other : List Act) (one two : Act) (rest left : List Act) → front ++ one ∷ rest ≡ other ++ two ∷ left → length front ≡ length other → one ≡ two
same_next [] [] one two rest left e long = cc
same_next [] (act ∷ other) one two rest left e long = absurd (omega (arith, long))
same_next (act ∷ front) [] one two rest left e long = absurd (omega (arith, long))
same_next (act ∷ front) (act' ∷ other) one two rest left e long =
    let tails : front ++ one ∷ rest ≡ other ++ two ∷ left = cc in
    let short : length front ≡ length other = omega (arith, long) in
    same_next front other one two rest left tails short

-- where all answers were taken, and this act is the one behind so many, the session waits for it when it has so many
pub asked_before : (lines : List (List ℕ)) (replies : List ShelfReply) (answers : List PlainAnswer) (answer : PlainAnswer) (more : List PlainAnswer) (front : List Act) (act : Act) (rest : List Act)
    → (session_of lines (answers ++ answer ∷ more) replies).acts ≡ front ++ act ∷ rest → length front ≡ length answers → length (front ++ act ∷ rest) ≡ length (answers ++ answer ∷ more) → (session_of lines answers replies).waits ≡ Some act
asked_before lines replies answers answer more front act rest all long whole = by (session_of lines answers replies).waits refl where
  acts : List Act
  acts = (session_of lines answers replies).acts

  by : (waits : Option Act) → (session_of lines answers replies).waits ≡ waits → waits ≡ Some act
  by None over =
      let same : front ++ act ∷ rest ≡ acts = sym all ∙ ap (λ (c : Course). c.acts) (more_comes_back lines answers (answer ∷ more) replies over) in
      absurd (omega (arith, ap length same, few_acts lines answers replies, whole, length-append answers (answer ∷ more)))
  by (Some asked) is =
      let rest_of = go_on lines replies (answers ++ answer ∷ []) more in
      let all_acts : (session_of lines (answers ++ answer ∷ more) replies).acts ≡ acts ++ asked ∷ rest_of.more =
      ap (λ (given : List PlainAnswer). (session_of lines given replies).acts) (sym (regroup answers answer more))
      ∙ (rest_of.same ∙ (ap (λ (some : List Act). some ++ rest_of.more) (next_is_taken lines answers replies answer asked is) ∙ append_assoc acts (asked ∷ []) rest_of.more)) in
      ap Some (same_next acts front asked act rest_of.more rest (sym all_acts ∙ all) (some_waits lines answers replies asked is ∙ sym long))
