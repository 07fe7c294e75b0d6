-- One entry of a party fits behind a journal.
use Rattle.std.proofs.Common.{◌≡◌, ℕ, ◌||◌, Bool, true, false, not, eqb, List, [], ◌∷◌, map, Option, Some, None, refl, sym, ap, ap₂, ◌∙◌, subst}
use Rattle.std.proofs.lemmas.Bool.{eqb-true, false≢true}
use Rattle.std.proofs.lemmas.List.Elements.{recursion_from_All}
use Rattle.std.proofs.lemmas.Option.{none-some, same_Some}
use Rattle.std.specs.List.{AllByRecursion}
use Rattle.apl_arrays.specs.Array.{PlainArray}
use Rattle.apl_io.specs.Kept.{Keeper}
use Rattle.aux_parties.proofs.TableLemmas.{kind_of_party}
use Rattle.aux_parties.specs.Auxiliaries.{is_auxiliary, party_of}
use Rattle.aux_parties.specs.declared.auxiliary.AuxiliaryKind.{AuxiliaryKind}
use Rattle.aux_parties.specs.declared.auxiliary.AuxiliaryKind.TheVariants.{Clock, TextFiles}
use Rattle.auxiliaries.specs.Protocol.{idle}
use Rattle.auxiliaries.specs.Served.{Served, forgotten}
use Rattle.auxiliaries.specs.Clock.{RepliesByReading}
use Rattle.bundle_devices.proofs.Clocks.{TickAlike, clocks_are_determined}
use Rattle.bundle_devices.proofs.Files.{BeginsWith, KnownReplies, OneText, ServeAlike, files_are_determined, known_run}
use Rattle.bundle_devices.proofs.OneReply.{same_reply}
use Rattle.bundle_devices.proofs.OwnDevices.{clock_faults, files_told, keeper_faults, readings_of, told_by}
use Rattle.bundle_devices.proofs.ReplyWork.{replies_are_asked}
use Rattle.bundle_devices.proofs.Sound.{files_sound}
use Rattle.bundle_devices.specs.Devices.{clock_of, text_store_of}
use Rattle.bundle_text.specs.Rules.{PlainBundle}
use Rattle.bundle_text.specs.User.{PlainUser}
use Rattle.sv_events.specs.Answer.{PlainAnswer}
use Rattle.sv_events.specs.Entry.{PlainEntry}
use Rattle.sv_events.specs.Row.{act_row}
use Rattle.sv_events.specs.Work.{act_of}
use Rattle.sv_events.specs.declared.entry.Pair.{Pair}
use Rattle.sv_events.specs.declared.event.Act.{Act}
use Rattle.sv_events.specs.declared.event.Act.TheVariants as act
use Rattle.sv_events.specs.declared.work.Work.{Work}
use Rattle.sv_events.specs.declared.work.Work.TheVariants as work
use Rattle.sv_rules.specs.Entries.{Entries, is_full, is_leave, next_place}
use Rattle.sv_rules.specs.Legal.{MayFollow, act_due, act_for, entry_for, is_user}
use Rattle.sv_rules.specs.Work.{work_of}
use Rattle.sv_story_laws.proofs.WaitLemmas.{leave-is}
use Rattle.session_rules.specs.Run.{user_numbers}
use Rattle.check_rules.specs.Fits.{EntryFits, HasReplied, IsNextOf}
use Rattle.check_rules.proofs.OneCourse.{one_asked, over_asks_none}

-- what may follow is the entry of its act
pub entry_is : (users : List ℕ) (journal : Entries) (e : PlainEntry) → MayFollow users journal e → e ≡ entry_for journal e.party e.act
entry_is users journal e h = ap₂ (λ (answer : PlainAnswer) (made : List Pair). let x : PlainEntry = record { party = e.party; act = e.act; answer = answer; made = made } in x) h.answer h.made

-- ---- users

-- an entry that is no leave has room
pub room_there : (leaves limit : Bool) → (leaves || not limit) ≡ true → leaves ≡ false → limit ≡ false
room_there true limit room stays = absurd (false≢true (sym stays))
room_there false true room stays = absurd (false≢true room)
room_there false false room stays = refl

one_user_act : (users : List ℕ) (journal : Entries) (user : PlainUser) (e d : PlainEntry) → MayFollow users journal e → MayFollow users journal d → IsNextOf (is_leave e.act) journal user e.act → IsNextOf (is_leave d.act) journal user d.act
    → e.act ≡ d.act
one_user_act users journal user e d h k next also = by (is_leave e.act) (is_leave d.act) refl refl next also where
  by : (one other : Bool) → is_leave e.act ≡ one → is_leave d.act ≡ other → IsNextOf one journal user e.act → IsNextOf other journal user d.act → e.act ≡ d.act
  by true true is are next also = leave-is e.act is ∙ sym (leave-is d.act are)
  by false false is are next also = one_asked journal user e.act d.act next also
  by true false is are next also = absurd (over_asks_none journal user d.act (room_there (is_leave d.act) (is_full journal) k.room are) next also)
  by false true is are next also = absurd (over_asks_none journal user e.act (room_there (is_leave e.act) (is_full journal) h.room is) also next)

-- who is no auxiliary is a user
pub user_alone : (user auxiliary : Bool) → (user || auxiliary) ≡ true → auxiliary ≡ false → user ≡ true
user_alone true auxiliary either none = refl
user_alone false auxiliary either none = absurd (false≢true (sym none ∙ either))

abbrev numbers : List PlainUser → List ℕ
numbers users = map (λ (user : PlainUser). user.number) users

-- of the user with a number two facts hold, where they hold of each that has it
pub both_of : (A B : PlainUser → Type 0) (users : List PlainUser) (party : ℕ) → is_user (numbers users) party ≡ true → AllByRecursion (λ user. user.number ≡ party → A user) users → AllByRecursion (λ user. user.number ≡ party → B user) users
    → (user : PlainUser) × A user × B user
both_of A B [] party is all also = absurd (false≢true is)
both_of A B (user ∷ users) party is all also = by (eqb user.number party) refl (λ among. both_of A B users party among all.1 also.1) where
  by : (here : Bool) → eqb user.number party ≡ here → (is_user (numbers users) party ≡ true → (one : PlainUser) × A one × B one) → (one : PlainUser) × A one × B one
  by true same behind = (user, all.0 (eqb-true user.number party same), also.0 (eqb-true user.number party same))
  by false other behind = behind (sym (ap (λ (here : Bool). here || is_user (numbers users) party) other) ∙ is)

-- ---- auxiliaries

reply_is : (local : List ℕ) (place : ℕ) (handed : Option PlainArray) (made : Act) → act_of (work.Reply local) place handed ≡ Some made → (reply : PlainArray) × (made ≡ act.Set local reply)
reply_is local place None made h = absurd (none-some made h)
reply_is local place (Some reply) made h = (reply, sym (same_Some (act.Set local reply) made h))

-- two acts of the same work are one, where two replies are
same_work : (due : Work) (place : ℕ) (a b : Act) → act_for due place (act_row a).hands_in ≡ Some a → act_for due place (act_row b).hands_in ≡ Some b
    → ((local : List ℕ) (v w : PlainArray) → due ≡ work.Reply local → a ≡ act.Set local v → b ≡ act.Set local w → v ≡ w) → a ≡ b
same_work work.Idle place a b is are one = absurd (none-some a is)
same_work (work.Retract local) place a b is are one = sym (same_Some (act.Retract local) a is) ∙ same_Some (act.Retract local) b are
same_work (work.Control local) place a b is are one = same_Some a b (sym is ∙ are)
same_work (work.Counter to surrogate) place a b is are one = same_Some a b (sym is ∙ are)
same_work (work.Use local) place a b is are one = same_Some a b (sym is ∙ are)
same_work (work.Reply local) place a b is are one =
    let p = reply_is local place (act_row a).hands_in a is in
    let q = reply_is local place (act_row b).hands_in b are in
    p.1 ∙ (ap (act.Set local) (one local p.0 q.0 refl p.1 q.1) ∙ sym q.1)

auxiliary_kind : (kind : AuxiliaryKind) → is_auxiliary (party_of kind) ≡ true
auxiliary_kind Clock = refl
auxiliary_kind TextFiles = refl

-- the act of an auxiliary is that of its work
pub due_act : (users : List ℕ) (kind : AuxiliaryKind) (journal : Entries) (e : PlainEntry) → party_of kind ≡ e.party → MayFollow users journal e → act_for (work_of journal (party_of kind)) (next_place journal) (act_row e.act).hands_in ≡ Some e.act
due_act users kind journal e own h =
    let due : act_due (is_auxiliary (party_of kind)) journal (party_of kind) e.act ≡ Some e.act = subst (λ (party : ℕ). act_due (is_auxiliary party) journal party e.act ≡ Some e.act) (sym own) h.due in
    subst (λ (auxiliary : Bool). act_due auxiliary journal (party_of kind) e.act ≡ Some e.act) (auxiliary_kind kind) due

module _ (one_text : OneText) where
  -- two replies of an auxiliary are one
  one_reply : (bundle : PlainBundle) (kind : AuxiliaryKind) (journal : Entries) (local : List ℕ) (v w : PlainArray) → work_of journal (party_of kind) ≡ work.Reply local
      → HasReplied bundle kind (entry_for journal (party_of kind) (act.Set local v) ∷ journal) → HasReplied bundle kind (entry_for journal (party_of kind) (act.Set local w) ∷ journal) → v ≡ w
  one_reply bundle Clock journal local v w is h k =
      same_reply (λ old party new. new ≡ old) (λ old party value answer new. RepliesByReading readings_of clock_faults old value answer new) (λ c. readings_of c ≡ Some (clock_of bundle).told) (TickAlike readings_of clock_faults)
      (clocks_are_determined readings_of clock_faults (clock_of bundle).told) (party_of Clock) journal local (replies_are_asked journal (party_of Clock) local is) v w
      (clock_of bundle, refl, (h.now, h.run)) (clock_of bundle, refl, (k.now, k.run))
  one_reply bundle TextFiles journal local v w is h k =
      let start : Served (Keeper (List ℕ)) = record { store = text_store_of bundle; state = idle } in
      let begins : BeginsWith one_text told_by keeper_faults (text_store_of bundle).told start = record { tells = refl; state = refl } in
      same_reply (λ old party new. new ≡ forgotten old) (KnownReplies one_text told_by keeper_faults) (BeginsWith one_text told_by keeper_faults (text_store_of bundle).told) (ServeAlike one_text told_by keeper_faults)
      (files_are_determined one_text told_by keeper_faults (text_store_of bundle).told) (party_of TextFiles) journal local (replies_are_asked journal (party_of TextFiles) local is) v w
      (start, begins, (h.now, known_run one_text told_by keeper_faults start _ h.now h.run (files_sound told_by keeper_faults start _ h.now h.run (files_told bundle))))
      (start, begins, (k.now, known_run one_text told_by keeper_faults start _ k.now k.run (files_sound told_by keeper_faults start _ k.now k.run (files_told bundle))))

  -- what an entry of an auxiliary says, where its act is a set
  replied_so : (bundle : PlainBundle) (kind : AuxiliaryKind) (journal : Entries) (e : PlainEntry) (local : List ℕ) (v : PlainArray) → EntryFits bundle journal e → party_of kind ≡ e.party → e.act ≡ act.Set local v
      → HasReplied bundle kind (entry_for journal (party_of kind) (act.Set local v) ∷ journal)
  replied_so bundle kind journal e local v h own is =
      subst (λ (x : PlainEntry). HasReplied bundle kind (x ∷ journal)) (entry_is (user_numbers bundle) journal e h.legal ∙ ap₂ (λ (party : ℕ) (made : Act). entry_for journal party made) (sym own) is) (h.replied kind own)

  one_kind_act : (bundle : PlainBundle) (kind : AuxiliaryKind) (journal : Entries) (e d : PlainEntry) → EntryFits bundle journal e → EntryFits bundle journal d → party_of kind ≡ e.party → party_of kind ≡ d.party → e.act ≡ d.act
  one_kind_act bundle kind journal e d h k own also =
      same_work (work_of journal (party_of kind)) (next_place journal) e.act d.act (due_act (user_numbers bundle) kind journal e own h.legal) (due_act (user_numbers bundle) kind journal d also k.legal)
      (λ local v w is set other. one_reply bundle kind journal local v w is (replied_so bundle kind journal e local v h own set) (replied_so bundle kind journal d local w k also other))

  one_act : (bundle : PlainBundle) (journal : Entries) (e d : PlainEntry) → EntryFits bundle journal e → EntryFits bundle journal d → e.party ≡ d.party → e.act ≡ d.act
  one_act bundle journal e d h k same = by (is_auxiliary e.party) refl where
    by : (auxiliary : Bool) → is_auxiliary e.party ≡ auxiliary → e.act ≡ d.act
    by true is = let own = kind_of_party e.party is in one_kind_act bundle own.0 journal e d h k own.1 (own.1 ∙ same)
    by false is =
        let user : is_user (user_numbers bundle) e.party ≡ true = user_alone (is_user (user_numbers bundle) e.party) (is_auxiliary e.party) h.legal.party is in
        let others : AllByRecursion (λ (user : PlainUser). user.number ≡ e.party → IsNextOf (is_leave d.act) journal user d.act) bundle.users =
        subst (λ (party : ℕ). AllByRecursion (λ (user : PlainUser). user.number ≡ party → IsNextOf (is_leave d.act) journal user d.act) bundle.users) (sym same)
        (recursion_from_All (λ (user : PlainUser). user.number ≡ d.party → IsNextOf (is_leave d.act) journal user d.act) bundle.users k.next) in
        let found = both_of (λ user. IsNextOf (is_leave e.act) journal user e.act) (λ user. IsNextOf (is_leave d.act) journal user d.act) bundle.users e.party user
        (recursion_from_All (λ (user : PlainUser). user.number ≡ e.party → IsNextOf (is_leave e.act) journal user e.act) bundle.users h.next) others in
        one_user_act (user_numbers bundle) journal found.0 e d h.legal k.legal found.1 found.2

  -- ---- both

  -- the entries of a party that fit are one
  pub one_fit : (bundle : PlainBundle) (journal : Entries) (e d : PlainEntry) → EntryFits bundle journal e → EntryFits bundle journal d → e.party ≡ d.party → e ≡ d
  one_fit bundle journal e d h k same =
      entry_is (user_numbers bundle) journal e h.legal
      ∙ (ap₂ (λ (party : ℕ) (made : Act). entry_for journal party made) same (one_act bundle journal e d h k same) ∙ sym (entry_is (user_numbers bundle) journal d k.legal))
