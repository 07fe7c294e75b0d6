-- What the text of an output tells apart: numbers of 64 bits, names, arrays and lines of glyphs.
use Rattle.std.specs.Prelude.{◌≡◌, ◌<◌, ◌^◌, List, All, IfSome, length}
use Rattle.apl_arrays.specs.Glyph.{IsGlyph}
use Rattle.apl_arrays.specs.Name.{IsName}
use Rattle.sv_access.specs.declared.control.Control.{Control}
use Rattle.sv_events.specs.Answer.{PlainAnswer, degree, granted, value, no_value, held, abandoned, not_shared, offer_limit, full, vector, parties, names, kept, done}
use Rattle.sv_events.specs.Entry.{PlainEntry}
use Rattle.sv_events.specs.declared.event.Act.{Act}
use Rattle.sv_events.specs.declared.event.Act.TheVariants.{Offer, Retract, SetControl, AskControl, AskState, AskDegree, AskParties, AskNames, Set, Use, Leave}
use Rattle.sv_events.specs.declared.entry.Pair.{Pair}
use Rattle.sv_text.specs.Printable.{IsPrintableArray}
use Rattle.sv_journal.specs.Output.{PlainTranscript}

-- four elements
abbrev pub IsPrintableControl : Control → Type 0
IsPrintableControl control = length control.0 ≡ 4

-- an act on names and such arrays
abbrev pub IsPrintableAct : Act → Type 0
IsPrintableAct (Offer to local surrogate handed) =
    (to < 2 ^ 64) × IsName local × IsName surrogate × IfSome handed (λ array. IsPrintableArray array)
IsPrintableAct (Retract local) = IsName local
IsPrintableAct (SetControl local control) = IsName local × IsPrintableControl control
IsPrintableAct (AskControl local) = IsName local
IsPrintableAct (AskState local) = IsName local
IsPrintableAct (AskDegree local) = IsName local
IsPrintableAct AskParties = Unit {0}
IsPrintableAct (AskNames party) = party < 2 ^ 64
IsPrintableAct (Set local new) = IsName local × IsPrintableArray new
IsPrintableAct (Use local) = IsName local
IsPrintableAct Leave = Unit {0}

-- an answer that tells such an array, or such names or numbers
abbrev pub IsPrintableAnswer : PlainAnswer → Type 0
IsPrintableAnswer (degree d) = d < 2 ^ 64
IsPrintableAnswer (value got) = IsPrintableArray got
IsPrintableAnswer granted = Unit {0}
IsPrintableAnswer no_value = Unit {0}
IsPrintableAnswer (held hold) = hold.element < 2 ^ 64
IsPrintableAnswer (abandoned hold) = hold.element < 2 ^ 64
IsPrintableAnswer not_shared = Unit {0}
IsPrintableAnswer offer_limit = Unit {0}
IsPrintableAnswer full = Unit {0}
IsPrintableAnswer (vector control) = IsPrintableControl control
IsPrintableAnswer (parties list) = All (λ party. party < 2 ^ 64) list
IsPrintableAnswer (names list) = All IsName list
IsPrintableAnswer (kept d known) = (d < 2 ^ 64) × IfSome known (λ array. IsPrintableArray array)
IsPrintableAnswer done = Unit {0}

-- two places
pub record IsPrintablePair (pair : Pair) : Type 0 where
  pub a : pair.a < 2 ^ 64
  pub b : pair.b < 2 ^ 64

-- an entry of such parts
pub record IsPrintableEntry (entry : PlainEntry) : Type 0 where
  pub party : entry.party < 2 ^ 64
  pub act : IsPrintableAct entry.act
  pub answer : IsPrintableAnswer entry.answer
  pub made : All IsPrintablePair entry.made

-- a user, and lines of glyphs
pub record IsPrintableTranscript (transcript : PlainTranscript) : Type 0 where
  pub user : transcript.user < 2 ^ 64
  pub lines : All (λ line. All IsGlyph line) transcript.lines

-- transcripts and a journal that are printable, and no more entries than 64 bits can number
pub record ArePrintable (transcripts : List PlainTranscript) (journal : List PlainEntry) : Type 0 where
  pub users : All IsPrintableTranscript transcripts
  pub entries : All IsPrintableEntry journal
  pub count : length journal < 2 ^ 64
