use Rattle.apl_search.proofs.EncodeLemmas.{domain_is, none_is, set_out, ws_full_is}
use Rattle.apl_search.proofs.encoding.digits_report.Goals as goal

pub returns-then-lacks_digit : goal.returns-then-lacks_digit
returns-then-lacks_digit c =
    domain_is c.args.a.now c.args.b.now c.numbers-bases.result.now c.numbers-numbers.result.now c.lacks_digit.result
    (set_out c.args.a.now c.args.b.now _ _ c.numbers-bases.result.now c.numbers-numbers.result.now c.requires c.items.ensures.array c.items-2.ensures.array
    c.numbers-bases.ensures c.items.ensures.value c.numbers-numbers.ensures c.items-2.ensures.value)
    c.lacks_digit.ensures c.if-lacks_digit.true

pub returns-then-bases-numbers-gt-ELEMENT_LIMIT : goal.returns-then-bases-numbers-gt-ELEMENT_LIMIT
returns-then-bases-numbers-gt-ELEMENT_LIMIT c =
    ws_full_is c.args.a.now c.args.b.now c.numbers-bases.result.now c.numbers-numbers.result.now c.lacks_digit.result
    (set_out c.args.a.now c.args.b.now _ _ c.numbers-bases.result.now c.numbers-numbers.result.now c.requires c.items.ensures.array c.items-2.ensures.array
    c.numbers-bases.ensures c.items.ensures.value c.numbers-numbers.ensures c.items-2.ensures.value)
    c.lacks_digit.ensures c.if-lacks_digit.false c.if-bases-numbers-gt-ELEMENT_LIMIT.true

pub returns-else-bases-numbers-gt-ELEMENT_LIMIT : goal.returns-else-bases-numbers-gt-ELEMENT_LIMIT
returns-else-bases-numbers-gt-ELEMENT_LIMIT c =
    none_is c.args.a.now c.args.b.now c.numbers-bases.result.now c.numbers-numbers.result.now c.lacks_digit.result
    (set_out c.args.a.now c.args.b.now _ _ c.numbers-bases.result.now c.numbers-numbers.result.now c.requires c.items.ensures.array c.items-2.ensures.array
    c.numbers-bases.ensures c.items.ensures.value c.numbers-numbers.ensures c.items-2.ensures.value)
    c.lacks_digit.ensures c.if-lacks_digit.false c.if-bases-numbers-gt-ELEMENT_LIMIT.false
