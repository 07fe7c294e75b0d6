-- What is known of a window of a journal.
use Rattle.std.proofs.Common.{◌≡◌, ◌+◌, ◌-◌, ◌≤◌, ℕ, min, Bool, true, false, cond, leb, Option, Some, None, ap, arith, refl}
use Rattle.std.proofs.lemmas.Bool.Decides.{nat_tests}
use Rattle.std.specs.Prelude.{unwrap_or}
use Rattle.run_picture.specs.Window.{are_there, window_of}
use Rattle.run_picture.specs.declared.window.Window.{Window}

-- it begins at an entry, has 2,000 at most, and ends where the journal does or before
pub record Fits (count : ℕ) (window : Window) : Type 0 where
  pub some : 1 ≤ window.first
  pub few : window.shown ≤ 2000
  pub within : window.first + window.shown ≤ count + 1

fits_as : (count first last : ℕ) (window : Window) (b : Bool) → are_there count first last ≡ b → cond b (Some (record { first = first; shown = min 2000 (last + 1 - first); left_out = last + 1 - first - 2000 })) None ≡ Some window → Fits count window
fits_as count first last window true there e =
    let made : Window = record { first = first; shown = min 2000 (last + 1 - first); left_out = last + 1 - first - 2000 } in
    let same : made ≡ window = cc in
    let begins : first ≡ window.first = ap (λ (one : Window). one.first) same in
    let counts : min 2000 (last + 1 - first) ≡ window.shown = ap (λ (one : Window). one.shown) same in
    let low : 1 ≤ first = grind (arith, nat_tests) in
    let rising : first ≤ last = grind (arith, nat_tests) in
    let high : last ≤ count = grind (arith, nat_tests) in
    record {
      some = omega arith;
      few = omega arith;
      within = omega arith;
    }
fits_as count first last window false there e = absurd cc

pub window_fits : (count : ℕ) (from to : Option ℕ) (window : Window) → window_of count from to ≡ Some window → Fits count window
window_fits count from to window e =
    fits_as count (unwrap_or from 1) (unwrap_or to count) window (are_there count (unwrap_or from 1) (unwrap_or to count)) refl e
