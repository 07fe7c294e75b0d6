use Rattle.std.specs.Str.{IsUtf8}
use Rattle.std.proofs.lemmas.Bool.{false≢true}
use Rattle.aux_words.proofs.NameBytes.{name_is_utf8}
use Rattle.aux_words.proofs.names.file_name.Goals as goal

pub returns : goal.returns
returns c = λ is.
    let utf8 : IsUtf8 c.in_ok-codes_of.field-0.items = rw c.in_ok-codes_of.ensures (name_is_utf8 c.args.glyphs.now is) in
    absurd (false≢true (c.in-Err.ensures.succeeds utf8))
