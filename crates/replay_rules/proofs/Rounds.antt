-- More rounds change nothing once all users have left.
use Rattle.std.proofs.Common.{◌≡◌, ℕ, zero, suc, ◌≤◌, ◌<◌, ◌⊎◌, Bool, true, false, leb, inl, inr, refl, sym, ap, ◌∙◌, arith}
use Rattle.std.proofs.lemmas.Bool.{leb-true, leb-false}
use Rattle.std.specs.Prelude.{if◌then◌else◌}
use Rattle.replay_rules.specs.TurnLaws.{TurnsMakeOneJournal, replayed}
use Rattle.replay_rules.specs.Turns.{Replay, some_user_stays, ordered, beginning, round, rounds}

-- one number is at most another, or it is the one behind that
up_to : (n m : ℕ) → n ≤ suc m → (n ≤ m) ⊎ (n ≡ suc m)
up_to n m le = by (leb n m) refl where
  by : (b : Bool) → leb n m ≡ b → (n ≤ m) ⊎ (n ≡ suc m)
  by true e = inl (leb-true n m e)
  by false e = inr (let more : m < n = leb-false n m e in omega arith)

-- one round more
one_more : (count : ℕ) (replay : Replay) → some_user_stays (rounds count replay) ≡ false → rounds (suc count) replay ≡ rounds count replay
one_more count replay over = ap (λ (goes : Bool). if goes then round (rounds count replay) else rounds count replay) over

-- nor do so many
pub stays : (m n : ℕ) (replay : Replay) → n ≤ m → some_user_stays (rounds n replay) ≡ false → rounds m replay ≡ rounds n replay
stays zero n replay le over = ap (λ count. rounds count replay) (let none : zero ≡ n = omega arith in none)
stays (suc m) n replay le over = elim (up_to n m le) [
  | inl before ↦
      let same : rounds m replay ≡ rounds n replay = stays m n replay before over in
      one_more m replay (ap some_user_stays same ∙ over) ∙ same
  | inr there ↦ ap (λ count. rounds count replay) (sym there)
]

pub one_journal : TurnsMakeOneJournal
one_journal bundle dealings replies count more over also = by (leb count more) refl where
  by : (b : Bool) → leb count more ≡ b → replayed bundle dealings replies count ≡ replayed bundle dealings replies more
  by true e = sym (stays more count (ordered bundle.order (beginning bundle dealings replies)) (leb-true count more e) over)
  by false e = stays count more (ordered bundle.order (beginning bundle dealings replies)) (let le : more ≤ count = omega (arith, leb-false count more e) in le) also
