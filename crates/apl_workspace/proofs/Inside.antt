-- What a workspace keeps inside, after each call.
use Rattle.std.proofs.Common.{◌≡◌, ℕ, ◌+◌, ◌-◌, ◌<◌, ◌≤◌, Bool, true, false, not, All, List, [], ◌∷◌, ◌++◌, Option, Result, Ok, Err, length, reverse, sum_by, refl, sym, ap, ◌∙◌, subst, arith}
use Rattle.std.specs.Prelude.{OnErr, OnOk, filter, nat_le, nat_lt}
use Rattle.std.proofs.lemmas.Bool.{and_parts}
use Rattle.std.proofs.lemmas.Bool.Decides.{nat_tests}
use Rattle.std.proofs.lemmas.List.{reverse-append}
use Rattle.std.proofs.lemmas.List.Sums.{sum_by-cons}
use Rattle.apl_arrays.specs.Array.{PlainArray}
use Rattle.apl_arrays.specs.Limits.{most_offers}
use Rattle.apl_workspace.specs.Limits.{most_depth, most_weight}
use Rattle.apl_workspace.specs.Meaning.{IsGlobal, NameTable, is_shared_meaning, own_copy_in, table_weight, with_meaning, with_value_or_none, without_name, without_names}
use Rattle.apl_workspace.specs.Workspace.{IsFrameFor, IsInside, PlainWorkspace, empty_workspace, in_innermost, is_addressee, is_of_another, is_shared, takes_offer, without_globals}
use Rattle.apl_workspace.specs.declared.args.Args.{Args}
use Rattle.apl_workspace.specs.declared.meaning.Meaning.{Meaning}
use Rattle.apl_workspace.specs.declared.meaning.Meaning.TheVariants.{Value, Shared}
use Rattle.apl_workspace.specs.declared.remake.Remake.{Remake}
use Rattle.apl_workspace.proofs.NameLaw.{from_not}
use Rattle.apl_workspace.proofs.Rules.{empty_keeps, entering_keeps, erasing_all_keeps, erasing_keeps, giving_keeps, leaving_keeps, listing_keeps, put_keeps, unsharing_keeps}

at_most : (a b : ℕ) → nat_le a b ≡ true → a ≤ b
at_most a b e = grind (arith, nat_tests)

above : (a b : ℕ) → nat_le a b ≡ false → b < a
above a b e = grind (arith, nat_tests)

below : (a b : ℕ) → nat_lt a b ≡ true → a < b
below a b e = grind (arith, nat_tests)

-- an empty workspace
pub new_inside : (globals : NameTable) (frames : List NameTable) (offers : List Remake) → globals ≡ [] → frames ≡ [] → offers ≡ [] → IsInside 0 (record { globals = globals; frames = reverse frames; offers = offers; printed = 0 })
new_inside globals frames offers g f o =
    let same : record { globals = globals; frames = reverse frames; offers = offers; printed = 0 } ≡ empty_workspace = λ i. record { globals = g i; frames = reverse (f i); offers = o i; printed = 0 } in
    subst (IsInside 0) (sym same) (record { counted = refl; rules = empty_keeps })

-- a global name was put in, or was not
pub put_inside : {E : Type 0} (r : Result (Unit {0}) E) (w : PlainWorkspace) (made : NameTable) (name : List ℕ) (meaning : Meaning) (weight : ℕ) → IsInside weight w → IsGlobal name meaning → (is_shared w name ≡ true → is_shared_meaning meaning ≡ true)
    → OnOk r (made ≡ with_meaning w.globals name meaning) → OnErr r (made ≡ w.globals) → OnOk r (table_weight (with_meaning w.globals name meaning) ≤ most_weight - weight) → IsInside weight (record w { globals = made })
put_inside (Ok x) w made name meaning weight h is stays ok err fits =
    subst (λ (g : NameTable). IsInside weight (record w { globals = g })) (sym ok) (record { counted = h.counted; rules = put_keeps w name meaning h.rules is stays (omega (arith, fits, h.counted, h.rules.weight)) })
put_inside (Err e) w made name meaning weight h is stays ok err fits = subst (λ (g : NameTable). IsInside weight (record w { globals = g })) (sym err) h

-- a global name was taken out
pub erased_inside : (w : PlainWorkspace) (made : NameTable) (name : List ℕ) (weight : ℕ) → IsInside weight w → is_shared w name ≡ false → made ≡ without_name w.globals name → IsInside weight (record w { globals = made })
erased_inside w made name weight h free is = subst (λ (g : NameTable). IsInside weight (record w { globals = g })) (sym is) (record { counted = h.counted; rules = erasing_keeps w name h.rules free })

-- all that stays was copied
pub copied_inside : (w : PlainWorkspace) (globals : NameTable) (frames : List NameTable) (offers : List Remake) (names : List (List ℕ)) (weight : ℕ) → IsInside weight w → w.frames ≡ [] → All (λ (name : List ℕ). is_shared w name ≡ false) names
    → globals ≡ without_names w.globals names → frames ≡ [] → offers ≡ w.offers → IsInside 0 (record { globals = globals; frames = reverse frames; offers = offers; printed = w.printed })
copied_inside w globals frames offers names weight h none free g f o =
    let same : record { globals = globals; frames = reverse frames; offers = offers; printed = w.printed } ≡ without_globals w names =
    λ i. record { globals = g i; frames = (ap (λ (l : List NameTable). reverse l) f ∙ sym none) i; offers = o i; printed = w.printed } in
    subst (IsInside 0) (sym same) (record { counted = ap (sum_by table_weight) (sym none); rules = erasing_all_keeps w names h.rules free })

-- a name takes an offer
pub record TakesOffer (w : PlainWorkspace) (name : List ℕ) : Type 0 where
  pub free : is_shared w name ≡ false
  pub room : length w.offers < most_offers

pub takes : (w : PlainWorkspace) (name : List ℕ) → takes_offer w name ≡ true → TakesOffer w name
takes w name e =
    let parts = and_parts (not (is_shared w name)) (nat_lt (length w.offers) most_offers) e in
    record { free = from_not (is_shared w name) parts.0; room = below (length w.offers) most_offers parts.1 }

-- a name was shared, and its offer was listed
pub marked_inside : (w now : PlainWorkspace) (made : NameTable) (offers more : List Remake) (offer : Remake) (copy : Option PlainArray) (weight : ℕ) (b : Bool) → IsInside weight w → w ≡ now → b ≡ takes_offer now offer.local → b ≡ true → is_addressee offer.to ≡ true
    → made ≡ with_meaning w.globals offer.local (Shared copy) → table_weight (with_meaning w.globals offer.local (Shared copy)) ≤ most_weight - weight → offers ≡ w.offers → more ≡ offers ++ offer ∷ []
    → IsInside weight (record w { globals = made; offers = more })
marked_inside w now made offers more offer copy weight b h view is may_take to ok fits same pushed =
    let may = takes w offer.local (ap (λ (x : PlainWorkspace). takes_offer x offer.local) view ∙ sym is ∙ may_take) in
    let target : record w { globals = made; offers = more } ≡ record w { globals = with_meaning w.globals offer.local (Shared copy); offers = w.offers ++ offer ∷ [] } =
    λ i. record w { globals = ok i; offers = (pushed ∙ ap (λ (l : List Remake). l ++ offer ∷ []) same) i } in
    subst (IsInside weight) (sym target) (record { counted = h.counted; rules = listing_keeps w offer copy h.rules may.free may.room to (omega (arith, fits, h.counted, h.rules.weight)) })

value_by : (w : PlainWorkspace) (made : NameTable) (offers : List Remake) (name : List ℕ) (value : Option PlainArray) (weight : ℕ) → IsInside weight w → made ≡ with_value_or_none w.globals name value → table_weight made ≤ most_weight - weight → offers ≡ filter (is_of_another name) w.offers
    → IsInside weight (record w { globals = made; offers = offers })
value_by w made offers name value weight h is fits left =
    let target : record w { globals = made; offers = offers } ≡ record w { globals = with_value_or_none w.globals name value; offers = filter (is_of_another name) w.offers } = λ i. record w { globals = is i; offers = left i } in
    let weighs : table_weight made ≡ table_weight (with_value_or_none w.globals name value) = ap table_weight is in
    subst (IsInside weight) (sym target) (record { counted = h.counted; rules = unsharing_keeps w name value h.rules (omega (arith, fits, weighs, h.counted, h.rules.weight)) })

unmarked_by : (w : PlainWorkspace) (made : NameTable) (offers : List Remake) (name : List ℕ) (value : Option PlainArray) (weight : ℕ) (b : Bool) → nat_le (table_weight (with_value_or_none w.globals name value)) (most_weight - weight) ≡ b → IsInside weight w
    → (table_weight (with_value_or_none w.globals name value) ≤ most_weight - weight → made ≡ with_value_or_none w.globals name value)
    → (most_weight - weight < table_weight (with_value_or_none w.globals name value) → made ≡ with_value_or_none w.globals name (own_copy_in w.globals name)) → table_weight made ≤ most_weight - weight → offers ≡ filter (is_of_another name) w.offers
    → IsInside weight (record w { globals = made; offers = offers })
unmarked_by w made offers name value weight true e h light heavy fits left = value_by w made offers name value weight h (light (at_most (table_weight (with_value_or_none w.globals name value)) (most_weight - weight) e)) fits left
unmarked_by w made offers name value weight false e h light heavy fits left = value_by w made offers name (own_copy_in w.globals name) weight h (heavy (above (table_weight (with_value_or_none w.globals name value)) (most_weight - weight) e)) fits left

-- a name is shared no more
pub unmarked_inside : (w : PlainWorkspace) (made : NameTable) (offers : List Remake) (name : List ℕ) (value : Option PlainArray) (weight : ℕ) → IsInside weight w
    → (table_weight (with_value_or_none w.globals name value) ≤ most_weight - weight → made ≡ with_value_or_none w.globals name value)
    → (most_weight - weight < table_weight (with_value_or_none w.globals name value) → made ≡ with_value_or_none w.globals name (own_copy_in w.globals name)) → table_weight made ≤ most_weight - weight → offers ≡ filter (is_of_another name) w.offers
    → IsInside weight (record w { globals = made; offers = offers })
unmarked_inside w made offers name value weight h light heavy fits left = unmarked_by w made offers name value weight (nat_le (table_weight (with_value_or_none w.globals name value)) (most_weight - weight)) refl h light heavy fits left

-- a name is shared no more, and has its own copy
pub kept_inside : (w : PlainWorkspace) (made : NameTable) (offers : List Remake) (name : List ℕ) (weight : ℕ) → IsInside weight w → made ≡ with_value_or_none w.globals name (own_copy_in w.globals name) → table_weight made ≤ table_weight w.globals
    → offers ≡ filter (is_of_another name) w.offers → IsInside weight (record w { globals = made; offers = offers })
kept_inside w made offers name weight h is lighter left = value_by w made offers name (own_copy_in w.globals name) weight h is (omega (arith, lighter, h.counted, h.rules.weight)) left

-- a value was put into a frame
pub given_inside : (w : PlainWorkspace) (frames : List NameTable) (name : List ℕ) (value : PlainArray) (weight : ℕ) → IsInside weight w → (made : ℕ) → frames ≡ in_innermost w.frames name (Value value) → made ≡ sum_by table_weight (in_innermost w.frames name (Value value)) → made ≤ most_weight - table_weight w.globals
    → IsInside made (record w { frames = frames })
given_inside w frames name value weight h made is counted fits =
    subst (λ (f : List NameTable). IsInside made (record w { frames = f })) (sym is) (record { counted = counted; rules = giving_keeps w name value h.rules (omega (arith, counted, fits, h.rules.weight)) })

-- a frame was put before the others
pub entered_inside : (w : PlainWorkspace) (frames : List NameTable) (frame : NameTable) (meaning : Meaning) (args : Args) (weight : ℕ) → IsInside weight w → IsFrameFor meaning args frame → frames ≡ frame ∷ w.frames → (own : ℕ) → own ≡ table_weight frame → table_weight w.globals + (weight + own) ≤ most_weight
    → length w.frames < most_depth → IsInside (weight + own) (record w { frames = frames })
entered_inside w frames frame meaning args weight h is made own weighs fits deep =
    let sum : sum_by table_weight (frame ∷ w.frames) ≡ table_weight frame + sum_by table_weight w.frames = sum_by-cons table_weight frame w.frames in
    subst (λ (f : List NameTable). IsInside (weight + own) (record w { frames = f })) (sym made)
    (record { counted = omega (arith, sum, h.counted, weighs); rules = entering_keeps w frame meaning args is h.rules (omega (arith, sum, h.counted, weighs, fits)) deep })

-- the innermost frame was taken away
pub left_inside : (w : PlainWorkspace) (items left : List NameTable) (frame : NameTable) (weight own : ℕ) → IsInside weight w → w.frames ≡ reverse items → items ≡ left ++ frame ∷ [] → own ≡ table_weight frame → IsInside (weight - own) (record w { frames = reverse left })
left_inside w items left frame weight own h view is weighs =
    let frames : w.frames ≡ frame ∷ reverse left = view ∙ ap (λ (l : List NameTable). reverse l) is ∙ reverse-append left (frame ∷ []) in
    let sum : sum_by table_weight w.frames ≡ table_weight frame + sum_by table_weight (reverse left) = ap (sum_by table_weight) frames ∙ sum_by-cons table_weight frame (reverse left) in
    record { counted = omega (arith, sum, h.counted, weighs); rules = leaving_keeps w frame (reverse left) frames h.rules }
