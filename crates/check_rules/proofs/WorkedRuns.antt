-- Small runs at work: two users without lines, and lines that differ.
use Rattle.std.proofs.Common.{◌≡◌, ◌<◌, ℕ, true, [], ◌∷◌, ◌++◌, IsTrue, codes, refl, sym, arith}
use Rattle.std.proofs.lemmas.List.Elements.{All-cons, All-nil}
use Rattle.std.proofs.lemmas.Option.{none-some}
use Rattle.std.specs.List.{All}
use Rattle.aux_parties.specs.Auxiliaries.{party_of}
use Rattle.aux_parties.specs.declared.auxiliary.AuxiliaryKind.{AuxiliaryKind}
use Rattle.aux_parties.specs.declared.auxiliary.AuxiliaryKind.TheVariants.{Clock, TextFiles}
use Rattle.bundle_devices.specs.Devices.{empty_shelf}
use Rattle.bundle_text.specs.User.{PlainUser}
use Rattle.sv_events.specs.declared.event.Act.TheVariants.{Leave}
use Rattle.sv_rules.specs.Entries.{Entries}
use Rattle.sv_rules.specs.Legal.{MayFollow}
use Rattle.session_rules.specs.Auxiliaries.{some_stay}
use Rattle.session_rules.specs.Session.{session_of}
use Rattle.check_rules.specs.Alone.{HasFinished, answers_given}
use Rattle.check_rules.specs.Fits.{EntryFits, IsNextOf}
use Rattle.check_rules.specs.Saw.{DifferAt}
use Rattle.check_rules.specs.Worked.{four_lines, leave_of, two_without_lines, with_another, without_lines}

-- a user without lines has finished
finished : (journal : Entries) (number : ℕ) → HasFinished journal (without_lines number)
finished journal number = record {
  refused = [];
  at_limit = λ some. absurd (some refl);
  course = session_of [] (answers_given journal number ++ []) [];
  alone = record { replies = []; comes = refl; served = (empty_shelf, refl) };
  over = refl;
}

both : (P : PlainUser → Type 0) → P (without_lines 1001) → P (without_lines 1002) → All P (without_lines 1001 ∷ without_lines 1002 ∷ [])
both P one two = All-cons P (without_lines 1001) (without_lines 1002 ∷ []) one (All-cons P (without_lines 1002) [] two (All-nil P))

no_auxiliary : (kind : AuxiliaryKind) (number : ℕ) → 1000 < number → party_of kind ≡ number → ⊥
no_auxiliary Clock number above is = let same : 10 ≡ number = is in omega (arith, above, same)
no_auxiliary TextFiles number above is = let same : 20 ≡ number = is in omega (arith, above, same)

-- a leave fits that may follow while some user has not left
pub leave_fits : (journal : Entries) (number : ℕ) → 1000 < number → MayFollow (1001 ∷ 1002 ∷ []) journal (leave_of number) → IsTrue (some_stay (1001 ∷ 1002 ∷ []) journal) → EntryFits two_without_lines journal (leave_of number)
leave_fits journal number above may stay = record {
  legal = may;
  among = stay;
  next = both (λ user. user.number ≡ number → IsNextOf true journal user Leave) (λ is. finished journal 1001) (λ is. finished journal 1002);
  replied = λ kind is. absurd (no_auxiliary kind number above is);
}

-- another last line
pub another_line : DifferAt with_another four_lines 4
another_line = record {
  common = codes "      1001 ⎕SVO 'X'" ∷ codes "2" ∷ codes "      X" ∷ [];
  rest = codes "5" ∷ [];
  left = codes "4" ∷ [];
  one = refl;
  other = refl;
  counted = refl;
  differ = λ e. absurd (let same : ◌≡◌ {A = ℕ} 53 52 = cc in omega (arith, same));
}

-- a line that is wanting
pub wanting_line : DifferAt (codes "      1001 ⎕SVO 'X'" ∷ []) four_lines 2
wanting_line = record {
  common = codes "      1001 ⎕SVO 'X'" ∷ [];
  rest = [];
  left = codes "2" ∷ codes "      X" ∷ codes "4" ∷ [];
  one = refl;
  other = refl;
  counted = refl;
  differ = λ e. none-some (codes "2") e;
}

-- lines where there are none
pub lines_too_many : DifferAt four_lines [] 1
lines_too_many = record {
  common = [];
  rest = four_lines;
  left = [];
  one = refl;
  other = refl;
  counted = refl;
  differ = λ e. none-some (codes "      1001 ⎕SVO 'X'") (sym e);
}
