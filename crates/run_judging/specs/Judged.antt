-- What is found of an entry behind the journal of a processor.
use Rattle.std.specs.Prelude.{◌≡◌, ◌∷◌, Bool, true, false}
use Rattle.sv_core.specs.Core.{PlainCore}
use Rattle.sv_events.specs.Entry.{PlainEntry}
use Rattle.sv_rules.specs.Legal.{MayFollow}

-- the processor with an entry more
abbrev pub with_entry : PlainCore → PlainEntry → PlainCore
with_entry core e = record { users = core.users; journal = e ∷ core.journal }

-- the entry follows there, or may not follow
abbrev pub Judged : PlainCore → PlainEntry → Bool → PlainCore → Type 0
Judged before e true after = after ≡ with_entry before e
Judged before e false after = MayFollow before.users before.journal e → ⊥

-- the processor made the one entry that may follow by this party with this act
pub record HasMade (before : PlainCore) (e : PlainEntry) (after : PlainCore) : Type 0 where
  pub made : PlainEntry
  pub grown : after ≡ with_entry before made
  pub only : MayFollow before.users before.journal e → e ≡ made

-- it made that one, or none where none may follow
abbrev pub MadeIf : PlainCore → PlainEntry → Bool → PlainCore → Type 0
MadeIf before e true after = HasMade before e after
MadeIf before e false after = MayFollow before.users before.journal e → ⊥
