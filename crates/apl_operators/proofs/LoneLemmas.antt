-- Functions of two lone numbers.
use Rattle.std.proofs.Common.{◌≡◌, ℤ, pos, Bool, true, false, not, ◌&&◌, ◌||◌, [], ◌∷◌, Option, Some, None, refl, sym, ap, subst, ◌∙◌, arith}
use Rattle.std.specs.Prelude.{Result, Ok, Err, IfErr, IfOk, is_none}
use Rattle.std.specs.List.{cons_option}
use Rattle.std.specs.Ordering.{int_eq}
use Rattle.std.proofs.lemmas.Int.{ints}
use Rattle.apl_arrays.specs.Array.{PlainArray, numbers, scalar}
use Rattle.apl_arrays.specs.declared.report.Fail.{Fail}
use Rattle.apl_arrays.specs.declared.report.Fail.TheVariants as fail
use Rattle.apl_arrays.specs.declared.report.Report.TheVariants.{Domain}
use Rattle.apl_arrays.specs.declared.way.Way.{Way}
use Rattle.apl_arrays.specs.declared.way.Way.TheVariants.{Last, First}
use Rattle.apl_verbs.specs.declared.verb.Dyad.{Dyad}
use Rattle.apl_items.specs.Answers.{AnswersFirst, ArrayResult, answer_of, no_faults}
use Rattle.apl_scalar.specs.Scalar.{dyadic_of}
use Rattle.apl_scalar.specs.Table.{dyadic_item}
use Rattle.apl_selection.specs.Compression.{compress_of}
use Rattle.apl_selection.specs.Flags.{is_no_flag}

-- what is given of two numbers by the item at them
abbrev given_by : Option ℤ → ArrayResult
given_by found = answer_of (record no_faults { bad_domain = is_none found || false }) (record { shape = []; items = numbers (cons_option found []) })

pub pair_given : (f : Dyad) (one other item : ℤ) → Some item ≡ dyadic_item f one other → dyadic_of f (scalar one) (scalar other) ≡ Ok (scalar item)
pair_given f one other item is = sym (ap given_by is)

pub pair_refused : (f : Dyad) (one other : ℤ) → None ≡ dyadic_item f one other → dyadic_of f (scalar one) (scalar other) ≡ Err Domain
pair_refused f one other is = sym (ap given_by is)

-- a number whose flag is 0 is not kept, one whose flag is 1 is
pub not_kept : (way : Way) (number : ℤ) → compress_of (scalar (pos 0)) (scalar number) way None ≡ Ok (record { shape = 0 ∷ []; items = numbers [] })
not_kept Last number = refl
not_kept First number = refl

pub kept : (way : Way) (number : ℤ) → compress_of (scalar (pos 1)) (scalar number) way None ≡ Ok (record { shape = 1 ∷ []; items = numbers (number ∷ []) })
kept Last number = refl
kept First number = refl

-- any other flag is none
apart : (a b : ℤ) → (a ≡ b → ⊥) → int_eq a b ≡ false
apart a b other = grind (arith, ints)

is_none_of_both : (flag : ℤ) → (flag ≡ pos 0 → ⊥) → (flag ≡ pos 1 → ⊥) → is_no_flag flag ≡ true
is_none_of_both flag zero one = ap (λ (b : Bool). not b && not (int_eq flag (pos 1))) (apart flag (pos 0) zero) ∙ ap (λ (b : Bool). not b) (apart flag (pos 1) one)

refused_flag : (way : Way) (flag number : ℤ) → is_no_flag flag ≡ true → compress_of (scalar flag) (scalar number) way None ≡ Err Domain
refused_flag Last flag number is = rw is refl
refused_flag First flag number is = rw is refl

pub no_flag : (way : Way) (flag number : ℤ) → (flag ≡ pos 0 → ⊥) → (flag ≡ pos 1 → ⊥) → compress_of (scalar flag) (scalar number) way None ≡ Err Domain
no_flag way flag number zero one = refused_flag way flag number (is_none_of_both flag zero one)

-- ---- calls that have these answers

-- a call of lone numbers answers for the arrays that they are
pub pair_answers : (f : Dyad) (a b : PlainArray) (one other : ℤ) (r : Result PlainArray Fail) → a ≡ scalar one → b ≡ scalar other → AnswersFirst r (dyadic_of f (scalar one) (scalar other)) → AnswersFirst r (dyadic_of f a b)
pair_answers f a b one other r is too answers =
    subst (λ (x : PlainArray). AnswersFirst r (dyadic_of f x b)) (sym is) (subst (λ (y : PlainArray). AnswersFirst r (dyadic_of f (scalar one) y)) (sym too) answers)

pub kept_answers : (way : Way) (a b : PlainArray) (flag number : ℤ) (r : Result PlainArray Fail) → a ≡ scalar flag → b ≡ scalar number → AnswersFirst r (compress_of (scalar flag) (scalar number) way None) → AnswersFirst r (compress_of a b way None)
kept_answers way a b flag number r is too answers =
    subst (λ (x : PlainArray). AnswersFirst r (compress_of x b way None)) (sym is) (subst (λ (y : PlainArray). AnswersFirst r (compress_of (scalar flag) y way None)) (sym too) answers)

-- a call that only memory may fail, where its array is the answer
pub made_answers : (r : Result PlainArray Fail) (answer : ArrayResult) (array : PlainArray) → IfOk r (λ made. made ≡ array) → IfErr r (λ why. why ≡ fail.WantOfMemory) → answer ≡ Ok array → AnswersFirst r answer
made_answers (Ok made) answer array same wants is = is ∙ ap (λ (a : PlainArray). Ok a) (sym same)
made_answers (Err (fail.Report report)) answer array same wants is = absurd (let no : fail.Report report ≡ fail.WantOfMemory = wants in cc)
made_answers (Err fail.WantOfMemory) answer array same wants is = rw is refl
