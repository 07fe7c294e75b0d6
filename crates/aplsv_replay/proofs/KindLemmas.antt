-- The auxiliaries of a run by what they are.
use Rattle.std.proofs.Common.{◌≡◌, ◌&&◌, true, false, not, IsTrue, refl}
use Rattle.std.proofs.lemmas.Bool.{and_from, and_parts, not-true, not_from_false}
use Rattle.session_rules.specs.Behind.{Behind, of_each}
use Rattle.sv_core.specs.Core.{PlainCore}
use Rattle.aux_parties.specs.declared.auxiliary.AuxiliaryKind.{AuxiliaryKind}
use Rattle.aux_parties.specs.declared.auxiliary.AuxiliaryKind.TheVariants.{Clock, TextFiles}
use Rattle.party_turns.specs.Seats.{none_lost}
use Rattle.aplsv_replay.specs.Together.{auxiliary_of, none_is_lost}
use Rattle.party_turns.specs.declared.auxiliary.Auxiliary.{Auxiliary}
use Rattle.aplsv_replay.specs.declared.parties.Parties.{Parties}

-- the parties with another processor, and with another auxiliary of a kind

abbrev pub ten_with : {X Y K : Type 0} → Parties X Y K → (kind : AuxiliaryKind) → Auxiliary (Behind X Y kind) → Auxiliary X
ten_with p Clock aux = aux
ten_with p TextFiles aux = p.ten

abbrev pub twenty_with : {X Y K : Type 0} → Parties X Y K → (kind : AuxiliaryKind) → Auxiliary (Behind X Y kind) → Auxiliary Y
twenty_with p Clock aux = p.twenty
twenty_with p TextFiles aux = aux

abbrev pub with_auxiliary : {X Y K : Type 0} → Parties X Y K → PlainCore → (kind : AuxiliaryKind) → Auxiliary (Behind X Y kind) → Parties X Y K
with_auxiliary p after kind aux = record p { core = after; ten = ten_with p kind aux; twenty = twenty_with p kind aux }

module _ {X Y K : Type 0} (p : Parties X Y K) (after : PlainCore) where
  -- it is the one of its kind
  pub is_changed : (kind : AuxiliaryKind) (aux : Auxiliary (Behind X Y kind)) → auxiliary_of (with_auxiliary p after kind aux) kind ≡ aux
  is_changed Clock aux = refl
  is_changed TextFiles aux = refl

  -- where memory ran out for none of the auxiliaries then, it had for none before, if it had not for that one
  pub had_memory : (kind : AuxiliaryKind) (aux : Auxiliary (Behind X Y kind)) → (aux.is_lost ≡ false → (auxiliary_of p kind).is_lost ≡ false)
      → ((other : AuxiliaryKind) → (auxiliary_of (with_auxiliary p after kind aux) other).is_lost ≡ false) → (other : AuxiliaryKind) → (auxiliary_of p other).is_lost ≡ false
  had_memory Clock aux own here Clock = own (here Clock)
  had_memory Clock aux own here TextFiles = here TextFiles
  had_memory TextFiles aux own here Clock = here Clock
  had_memory TextFiles aux own here TextFiles = own (here TextFiles)

  -- memory that ran out for an auxiliary stays so
  pub stays_lost : (kind : AuxiliaryKind) (aux : Auxiliary (Behind X Y kind)) → ((auxiliary_of p kind).is_lost ≡ true → aux.is_lost ≡ true)
      → (other : AuxiliaryKind) → (auxiliary_of p other).is_lost ≡ true → (auxiliary_of (with_auxiliary p after kind aux) other).is_lost ≡ true
  stays_lost Clock aux own Clock was = own was
  stays_lost Clock aux own TextFiles was = was
  stays_lost TextFiles aux own Clock was = was
  stays_lost TextFiles aux own TextFiles was = own was

module _ {X Y K : Type 0} (p : Parties X Y K) where
  -- memory ran out for nobody where it did for no auxiliary and for no user
  pub memory_of : IsTrue (none_is_lost p) → (kind : AuxiliaryKind) → (auxiliary_of p kind).is_lost ≡ false
  memory_of here Clock =
      not-true p.ten.is_lost (and_parts (not p.ten.is_lost) (not p.twenty.is_lost) (and_parts (not p.ten.is_lost && not p.twenty.is_lost) (none_lost p.seats.items) here).0).0
  memory_of here TextFiles =
      not-true p.twenty.is_lost (and_parts (not p.ten.is_lost) (not p.twenty.is_lost) (and_parts (not p.ten.is_lost && not p.twenty.is_lost) (none_lost p.seats.items) here).0).1

  pub memory_of_users : IsTrue (none_is_lost p) → IsTrue (none_lost p.seats.items)
  memory_of_users here = (and_parts (not p.ten.is_lost && not p.twenty.is_lost) (none_lost p.seats.items) here).1

  pub memory_of_all : ((kind : AuxiliaryKind) → (auxiliary_of p kind).is_lost ≡ false) → IsTrue (none_lost p.seats.items) → IsTrue (none_is_lost p)
  memory_of_all here users =
      and_from (not p.ten.is_lost && not p.twenty.is_lost) (none_lost p.seats.items)
      (and_from (not p.ten.is_lost) (not p.twenty.is_lost) (not_from_false p.ten.is_lost (here Clock)) (not_from_false p.twenty.is_lost (here TextFiles))) users

  -- what answers behind each
  pub repliers_are : (kind : AuxiliaryKind) → (auxiliary_of p kind).replier ≡ of_each p.ten.replier p.twenty.replier kind
  repliers_are Clock = refl
  repliers_are TextFiles = refl

-- parties whose auxiliaries are the same
pub same_auxiliaries : {X Y K : Type 0} (p q : Parties X Y K) → q.ten ≡ p.ten → q.twenty ≡ p.twenty → (kind : AuxiliaryKind) → auxiliary_of q kind ≡ auxiliary_of p kind
same_auxiliaries p q ten twenty Clock = ten
same_auxiliaries p q ten twenty TextFiles = twenty
