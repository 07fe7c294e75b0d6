use Rattle.std.proofs.Common.{◌+◌, sym}
use Rattle.std.proofs.lemmas.List.{take_rest}
use Rattle.aux_words.proofs.Cuts.{blank_found}
use Rattle.aux_words.proofs.fields.cut_at_blank.Goals as goal

pub returns-in-Some-clause-whole : goal.returns-in-Some-clause-whole
returns-in-Some-clause-whole c =
    rw (take_rest c.args.glyphs.now (c.in-Some.place + 1)) (blank_found c.args.glyphs.now c.in-Some.place (sym c.in-Some.ensures.value))
