use Rattle.std.proofs.Common.{◌≡◌, Result, IfOk, sym, ap, subst, ◌∙◌}
use Rattle.apl_arrays.specs.Array.{PlainArray, element_count}
use Rattle.apl_search.specs.Encode.{digits_of}
use Rattle.apl_search.proofs.EncodeLemmas.{count_of, digits_whole, fine_digits, joined_is}
use Rattle.apl_search.proofs.encoding.encoded.Goals as goal

-- an array that was made is the one that it is equal to
made_as_told : {E : Type 0} (result : Result PlainArray E) (made told : PlainArray) → made ≡ told → IfOk result (λ array. array ≡ made) → IfOk result (λ array. array ≡ told)
made_as_told result made told same is = subst (λ (array : PlainArray). IfOk result (λ other. other ≡ array)) same is

pub digits-requires-clause-few : goal.digits-requires-clause-few
digits-requires-clause-few c =
    (fine_digits c.args.a.now c.args.b.now _ _ c.numbers-bases.result.now c.numbers-numbers.result.now c.requires c.items.ensures.array c.items-2.ensures.array
    c.numbers-bases.ensures c.items.ensures.value c.numbers-numbers.ensures c.items-2.ensures.value).2

pub digits-requires-clause-all : goal.digits-requires-clause-all
digits-requires-clause-all c =
    (fine_digits c.args.a.now c.args.b.now _ _ c.numbers-bases.result.now c.numbers-numbers.result.now c.requires c.items.ensures.array c.items-2.ensures.array
    c.numbers-bases.ensures c.items.ensures.value c.numbers-numbers.ensures c.items-2.ensures.value).1

pub shaped-requires-clause-whole : goal.shaped-requires-clause-whole
shaped-requires-clause-whole c =
    let out = (fine_digits c.args.a.now c.args.b.now _ _ c.numbers-bases.result.now c.numbers-numbers.result.now c.requires c.items.ensures.array c.items-2.ensures.array
    c.numbers-bases.ensures c.items.ensures.value c.numbers-numbers.ensures c.items-2.ensures.value).0 in
    rw c.from.ensures (ap element_count (joined_is c.args.a.now c.args.b.now c.as_slice.result.now c.joined_shape-shape.result.items c.shape.result.now c.shape-2.result.now c.as_slice.ensures.value c.joined_shape-shape.ensures c.shape.ensures.value c.shape-2.ensures.value)
    ∙ count_of c.args.a.now c.args.b.now c.numbers-bases.result.now c.numbers-numbers.result.now out ∙ sym c.in_ok-digits.ensures.whole)

pub returns : goal.returns
returns c =
    let out = (fine_digits c.args.a.now c.args.b.now _ _ c.numbers-bases.result.now c.numbers-numbers.result.now c.requires c.items.ensures.array c.items-2.ensures.array
    c.numbers-bases.ensures c.items.ensures.value c.numbers-numbers.ensures c.items-2.ensures.value).0 in
    made_as_told c.shaped.result _ (digits_of c.args.a.now c.args.b.now) (rw c.from.ensures (digits_whole c.args.a.now c.args.b.now c.numbers-bases.result.now c.numbers-numbers.result.now c.as_slice.result.now c.in_ok-digits.digits.items out
    (joined_is c.args.a.now c.args.b.now c.as_slice.result.now c.joined_shape-shape.result.items c.shape.result.now c.shape-2.result.now c.as_slice.ensures.value c.joined_shape-shape.ensures c.shape.ensures.value c.shape-2.ensures.value) c.in_ok-digits.ensures.items)) c.shaped.ensures.array
