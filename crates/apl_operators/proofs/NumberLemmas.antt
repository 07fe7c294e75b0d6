-- Numbers that a rule gives, as an array or its report.
use Rattle.std.proofs.Common.{◌≡◌, ℕ, ℤ, zero, suc, ◌<◌, ◌≤◌, ◌&&◌, All, ◌⊎◌, inl, inr, slice_get, unwrap_or, is_none, is_some, Bool, true, false, List, [], ◌∷◌, Option, Some, None, Result, Ok, Err, IsOk, length, option_map, if◌then◌else◌, refl, sym, ap, subst, ◌∙◌, arith}
use Rattle.std.specs.List.{list_any}
use Rattle.std.proofs.Math.Path.{fun_ext}
use Rattle.std.proofs.lemmas.Bool.{cases_lt, false≢true}
use Rattle.apl_arrays.proofs.Shapes.{too_large_by_size, what_fits_has_no_fault}
use Rattle.apl_arrays.specs.declared.items.Item.{Item}
use Rattle.apl_arrays.specs.declared.items.Item.TheVariants.{Number}
use Rattle.apl_arrays.specs.declared.array.ShapeFault.{ShapeFault}
use Rattle.apl_arrays.specs.declared.array.ShapeFault.TheVariants as fault
use Rattle.apl_arrays.specs.declared.report.Fail.{Fail}
use Rattle.apl_arrays.specs.declared.report.Fail.TheVariants as fail
use Rattle.apl_arrays.specs.declared.report.Report.{Report}
use Rattle.apl_arrays.specs.declared.report.Report.TheVariants.{Domain, WsFull}
use Rattle.apl_arrays.specs.Array.{FitsLimits, PlainArray, chars, element_count, numbers}
use Rattle.apl_arrays.specs.Shape.{shape_fault}
use Rattle.apl_items.specs.Answers.{ArrayResult, AnswersFirst, answer_of, faults_of_fault, shape_faults}
use Rattle.apl_items.specs.Places.{Follows, GivesEach, HasItems, IsByPlace, LacksItem, OnDomain, OnWantOfMemory, items_by, lacks_item, numbers_by, places}
use Rattle.apl_items.proofs.PlaceLemmas.{made, nothing_lacks, nothing_lacks_at, something_lacks}
use Rattle.apl_scalar.proofs.MemoryLemmas.{has_as_told}
use Rattle.operator_rules.specs.Gathering.{char_in, gathered, lacks_char, lacks_number, number_in, numbers_answer}

pub none_is : {T : Type 0} (o : Option T) → is_some o ≡ false → o ≡ None
none_is None e = refl
none_is (Some x) e = cc

-- a report as an answer
abbrev refusal : Report → ArrayResult
refusal report = Err report

-- a failure that is handed on
pub answers_through : (result : Result PlainArray Fail) (why other : Fail) (answer : ArrayResult) → result ≡ Err other → other ≡ why → AnswersFirst (Err why) answer → AnswersFirst result answer
answers_through result why other answer is same answers =
    subst (λ (r : Result PlainArray Fail). AnswersFirst r answer) (sym is) (subst (λ (w : Fail). AnswersFirst (Err w) answer) (sym same) answers)

-- want of memory that is handed on, where there is no report
pub out_of_memory : (result : Result PlainArray Fail) (other : Fail) (answer : ArrayResult) → result ≡ Err other → other ≡ fail.WantOfMemory → IsOk answer → AnswersFirst result answer
out_of_memory result other answer is same fine = answers_through result fail.WantOfMemory other answer is same fine

-- an answer that is an array has no report
pub given_there : (answer : ArrayResult) (made : PlainArray) → answer ≡ Ok made → IsOk answer
given_there answer made is = rw is refl

-- the numbers of a shape within the limits
pub numbers_made : (shape : List ℕ) (count : ℕ) (rule : ℕ → Option ℤ) (list : List ℤ) → shape_fault shape ≡ None → count ≡ element_count shape
    → IsByPlace count rule list → numbers_answer shape rule ≡ Ok (record { shape = shape; items = numbers list })
numbers_made shape count rule list fits whole by_place =
    let here = subst (λ (n : ℕ). IsByPlace n rule list) whole by_place in
    rw (fits, nothing_lacks (element_count shape) rule list here, made (element_count shape) rule list here) refl

-- one of them is lacking
pub numbers_lack : (shape : List ℕ) (count : ℕ) (rule : ℕ → Option ℤ) → shape_fault shape ≡ None → count ≡ element_count shape
    → LacksItem count rule → numbers_answer shape rule ≡ Err Domain
numbers_lack shape count rule fits whole lacks =
    let here = subst (λ (n : ℕ). LacksItem n rule) whole lacks in
    rw (fits, something_lacks (element_count shape) rule here) refl

-- none of them is lacking
pub numbers_there : (shape : List ℕ) (count : ℕ) (rule : ℕ → Option ℤ) → shape_fault shape ≡ None → count ≡ element_count shape
    → HasItems count rule → IsOk (numbers_answer shape rule)
numbers_there shape count rule fits whole has =
    let here = nothing_lacks_at (element_count shape) rule (subst (λ (n : ℕ). HasItems n rule) whole has) in
    rw (fits, here) refl

-- a call that makes items by place refused, or ran out of memory
pub refused_by_place : (shape : List ℕ) (count : ℕ) (answers : ℕ → Option ℤ → Type 0) (rule : ℕ → Option ℤ) (why : Fail) → shape_fault shape ≡ None → count ≡ element_count shape
    → OnDomain {T = List ℤ} (Err why) ((place : ℕ) × (place < count) × answers place None) → OnWantOfMemory {T = List ℤ} (Err why) (GivesEach count answers) → Follows answers count rule
    → AnswersFirst (Err why) (numbers_answer shape rule)
refused_by_place shape count answers rule (fail.Report report) fits whole refused wants follows =
    let at = refused.1 in
    numbers_lack shape count rule fits whole (at.0, at.1, sym (follows at.0 None at.1 at.2)) ∙ ap refusal (sym refused.0)
refused_by_place shape count answers rule fail.WantOfMemory fits whole refused wants follows = numbers_there shape count rule fits whole (has_as_told count answers rule follows wants)

-- ---- the same item at each place

never : {T : Type 0} (list : List T) → list_any (λ x. false) list ≡ false
never [] = refl
never (x ∷ list) = never list

pub same_everywhere : {T : Type 0} (count : ℕ) (item : Option T) → 0 < count → lacks_item count (λ place. item) ≡ is_none item
same_everywhere {T} count None some = something_lacks {T = T} count (λ place. None) (0, some, refl {0})
same_everywhere count (Some x) some = never (places count)

-- ---- numbers among items of either kind

no_char : (o : Option ℤ) → char_in (option_map Number o) ≡ None
no_char None = refl
no_char (Some n) = refl

back : (o : Option ℤ) → number_in (option_map Number o) ≡ o
back None = refl
back (Some n) = refl

-- where a number is lacking there is a place, and no character stands there
no_chars : (count : ℕ) (rule : ℕ → Option ℤ) → lacks_item count rule ≡ true → lacks_item {T = ℕ} count (λ place. None) ≡ true
no_chars zero rule e = e
no_chars (suc count) rule e = something_lacks {T = ℕ} (suc count) (λ place. None) (0, omega arith, refl {0})

-- a refusal has no items
refused : (fault : Option ShapeFault) (x y : PlainArray)
    → answer_of (record (faults_of_fault fault) { bad_domain = true }) x ≡ answer_of (record (faults_of_fault fault) { bad_domain = true }) y
refused None x y = refl
refused (Some fault.Rank) x y = refl
refused (Some fault.Size) x y = refl

abbrev of_numbers : (ℕ → Option ℤ) → ℕ → Option Item
of_numbers given place = option_map Number (given place)

-- an array of either kind, by what is lacking
abbrev either : List ℕ → Bool → Bool → List ℤ → List ℕ → ArrayResult
either shape no_number no_char xs ys =
    answer_of (record (shape_faults shape) { bad_domain = no_number && no_char }) (record { shape = shape; items = if no_number then chars ys else numbers xs })

-- an array of numbers, by whether one is lacking
abbrev only : List ℕ → Bool → List ℤ → ArrayResult
only shape lacks xs = answer_of (record (shape_faults shape) { bad_domain = lacks }) (record { shape = shape; items = numbers xs })

by_lack : (shape : List ℕ) (given : ℕ → Option ℤ) (lacks : Bool) → lacks_item (element_count shape) given ≡ lacks → gathered shape (of_numbers given) ≡ numbers_answer shape given
by_lack shape given lacks e =
    let count = element_count shape in
    let rule : ℕ → Option Item = of_numbers given in
    let same : (λ (place : ℕ). number_in (option_map Number (given place))) ≡ given = fun_ext (λ place. back (given place)) in
    let lacks_same : lacks_number count rule ≡ lacks = ap (λ (r : ℕ → Option ℤ). lacks_item count r) same ∙ e in
    let items_same : items_by count (λ place. number_in (rule place)) ≡ items_by count given = ap (λ (r : ℕ → Option ℤ). items_by count r) same in
    let ys = items_by count (λ place. char_in (rule place)) in
    ap (λ (b : Bool). either shape b (lacks_char count rule) (items_by count (λ place. number_in (rule place))) ys) lacks_same
    ∙ ap (λ (xs : List ℤ). either shape lacks (lacks_char count rule) xs ys) items_same
    ∙ by_cases shape given lacks e ys
    ∙ ap (λ (b : Bool). only shape b (items_by count given)) (sym e)
  where
    by_cases : (shape : List ℕ) (given : ℕ → Option ℤ) (lacks : Bool) → lacks_item (element_count shape) given ≡ lacks → (ys : List ℕ)
        → either shape lacks (lacks_char (element_count shape) (of_numbers given)) (items_by (element_count shape) given) ys ≡ only shape lacks (items_by (element_count shape) given)
    by_cases shape given false e ys = refl
    by_cases shape given true e ys =
        let count = element_count shape in
        let none : (λ (place : ℕ). char_in (option_map Number (given place))) ≡ (λ (place : ℕ). None) = fun_ext (λ place. no_char (given place)) in
        let no_char_at_all : lacks_char count (of_numbers given) ≡ true = ap (λ (r : ℕ → Option ℕ). lacks_item count r) none ∙ no_chars count given e in
        ap (λ (b : Bool). either shape true b (items_by count given) ys) no_char_at_all ∙ refused (shape_fault shape) _ _

-- items that are numbers, wherever there are any, are an array of numbers
pub gathered_as_numbers : (shape : List ℕ) (rule : ℕ → Option Item) (given : ℕ → Option ℤ) → ((place : ℕ) → rule place ≡ option_map Number (given place))
    → gathered shape rule ≡ numbers_answer shape given
gathered_as_numbers shape rule given each =
    let same : rule ≡ of_numbers given = fun_ext each in
    ap (gathered shape) same ∙ by_lack shape given (lacks_item (element_count shape) given) refl

-- ---- identities

-- a shape of eight axes at the most that passes the limits is too large
size_passes : (shape : List ℕ) → length shape ≤ 8 → is_some (shape_fault shape) ≡ true → shape_fault shape ≡ Some fault.Size
size_passes shape few e = too_large_by_size shape few (λ fits. false≢true (sym (ap is_some (what_fits_has_no_fault shape fits)) ∙ e))

-- numbers that are too many, and one is lacking, or none
pub lacking_of_many : (shape : List ℕ) (rule : ℕ → Option ℤ) → length shape ≤ 8 → (count : ℕ) → count ≡ element_count shape → is_some (shape_fault shape) ≡ true → lacks_item count rule ≡ true
    → numbers_answer shape rule ≡ Err Domain
lacking_of_many shape rule few count whole large lacks =
    let here : lacks_item (element_count shape) rule ≡ true = ap (λ (n : ℕ). lacks_item n rule) (sym whole) ∙ lacks in
    rw (size_passes shape few large, here) refl

pub none_lacking_of_many : (shape : List ℕ) (rule : ℕ → Option ℤ) → length shape ≤ 8 → (count : ℕ) → count ≡ element_count shape → is_some (shape_fault shape) ≡ true → lacks_item count rule ≡ false
    → numbers_answer shape rule ≡ Err WsFull
none_lacking_of_many shape rule few count whole large none =
    let here : lacks_item (element_count shape) rule ≡ false = ap (λ (n : ℕ). lacks_item n rule) (sym whole) ∙ none in
    rw (size_passes shape few large, here) refl

-- numbers that are too many, of which none is lacking anywhere
pub none_lacks_of_many : (shape : List ℕ) (rule : ℕ → Option ℤ) → length shape ≤ 8 → is_some (shape_fault shape) ≡ true → ((place : ℕ) → is_none (rule place) ≡ false)
    → numbers_answer shape rule ≡ Err WsFull
none_lacks_of_many shape rule few large each =
    let no_lack : (λ (place : ℕ). is_none (rule place)) ≡ (λ (place : ℕ). false) = fun_ext each in
    none_lacking_of_many shape rule few (element_count shape) refl large
    (ap (λ (test : ℕ → Bool). list_any test (places (element_count shape))) no_lack ∙ never (places (element_count shape)))

-- where a shape of eight axes at the most, none of them too long, passes the limits, there are elements
too_many_elements : (shape : List ℕ) → length shape ≤ 8 → All (λ axis. axis ≤ 16384) shape → is_some (shape_fault shape) ≡ true
    → (shape_fault shape ≡ Some fault.Size) × (0 < element_count shape)
too_many_elements shape few small e = (too_large_by_size shape few unfit, by_count (cases_lt 0 (element_count shape)))
  where
    unfit : FitsLimits shape → ⊥
    unfit fits = false≢true (sym (ap is_some (what_fits_has_no_fault shape fits)) ∙ e)

    by_count : (0 < element_count shape) ⊎ (element_count shape ≤ 0) → 0 < element_count shape
    by_count (inl some) = some
    by_count (inr none) = absurd (unfit (record { rank = few; axes = small; elements = omega (arith, none) }))

by_identity : (identity : Option ℤ) (array : PlainArray) (report : Report) → report ≡ unwrap_or (option_map (λ n. WsFull) identity) Domain
    → answer_of (record { bad_rank = false; bad_length = false; bad_domain = is_none identity; bad_index = false; too_large = true }) array ≡ Err report
by_identity None array report is = ap refusal (sym is)
by_identity (Some n) array report is = ap refusal (sym is)

pub identities_refused : (shape : List ℕ) (identity : Option ℤ) (report : Report) → length shape ≤ 8 → All (λ axis. axis ≤ 16384) shape
    → (why : Option ShapeFault) → why ≡ shape_fault shape → is_some why ≡ true → report ≡ unwrap_or (option_map (λ n. WsFull) identity) Domain
    → numbers_answer shape (λ place. identity) ≡ Err report
identities_refused shape identity report few small why is_why some is =
    let large = too_many_elements shape few small (ap is_some (sym is_why) ∙ some) in
    rw (large.0, same_everywhere (element_count shape) identity large.1) (by_identity identity (numbers_by shape (λ place. identity)) report is)

pub identities_made : (shape : List ℕ) (identity : Option ℤ) (list : List ℤ) (made : PlainArray) → shape_fault shape ≡ None → (count : ℕ) → count ≡ element_count shape
    → length list ≡ count → ((place : ℕ) → place < count → slice_get list place ≡ identity) → made ≡ record { shape = shape; items = numbers list }
    → numbers_answer shape (λ place. identity) ≡ Ok made
identities_made shape identity list made fits count whole long each is =
    let given : PlainArray → ArrayResult = λ array. Ok array in
    numbers_made shape count (λ place. identity) list fits whole (record { whole = long; each = each }) ∙ ap given (sym is)
