-- Where memory ran out, no report was due.
use Rattle.std.proofs.Common.{◌≡◌, ℕ, false, Option, Some, IsOk, Result, Err, refl, sym, subst}
use Rattle.apl_arrays.specs.declared.report.Fail.{Fail}
use Rattle.apl_verbs.specs.declared.verb.Monad.{Monad}
use Rattle.apl_verbs.specs.declared.verb.Dyad.{Dyad}
use Rattle.apl_arrays.specs.Array.{PlainArray, element_count, is_chars, numbers_in}
use Rattle.apl_items.specs.Extension.{leader, ranks_differ, shapes_differ}
use Rattle.apl_items.specs.Places.{Follows, GivesEach, HasItems, OnWantOfMemory}
use Rattle.apl_items.proofs.PlaceLemmas.{nothing_lacks_at}
use Rattle.apl_scalar.specs.Scalar.{dyadic_at, dyadic_of, is_unfit, monadic_at, monadic_of}

-- where a call gives an item at each place, so does a definition that it follows
pub has_as_told : {T : Type 0} (count : ℕ) (answers : ℕ → Option T → Type 0) (rule : ℕ → Option T) → Follows answers count rule
    → GivesEach count answers → HasItems count rule
has_as_told count answers rule follows each place below =
    let told = each place below in (told.0, sym (follows place (Some told.0) below told.1))

-- a failure that is handed on, and a fact where memory ran out
pub want_through : (A : Type 0) {B : Type 0} (result : Result B Fail) (why other : Fail) (fact : Type 0) → result ≡ Err other → other ≡ why
    → OnWantOfMemory {T = A} (Err why) fact → OnWantOfMemory result fact
want_through A {B} result why other fact is same holds =
    subst (λ (r : Result B Fail). OnWantOfMemory r fact) (sym is) (subst (λ (w : Fail). OnWantOfMemory {T = B} (Err w) fact) (sym same) holds)

-- where each item is there, the answer is an array
pub monadic_gives : (f : Monad) (b : PlainArray) (count : ℕ) → is_chars b.items ≡ false → count ≡ element_count b.shape
    → HasItems count (monadic_at f (numbers_in b.items)) → IsOk (monadic_of f b)
monadic_gives f b count kind whole has =
    let each = nothing_lacks_at (element_count b.shape) (monadic_at f (numbers_in b.items)) (subst (λ (n : ℕ). HasItems n (monadic_at f (numbers_in b.items))) whole has) in
    rw (kind, each) refl

pub dyadic_gives : (f : Dyad) (a b : PlainArray) (count : ℕ) → ranks_differ a b ≡ false → shapes_differ a b ≡ false → is_unfit f a.items b.items ≡ false
    → count ≡ element_count (leader a b).shape → HasItems count (dyadic_at f a.items b.items) → IsOk (dyadic_of f a b)
dyadic_gives f a b count rank shape kind whole has =
    let each = nothing_lacks_at (element_count (leader a b).shape) (dyadic_at f a.items b.items) (subst (λ (n : ℕ). HasItems n (dyadic_at f a.items b.items)) whole has) in
    rw (rank, shape, kind, each) refl
