-- The number of the last line.
use Rattle.std.proofs.Common.{◌≡◌, ℕ, zero, suc, ◌+◌, ◌-◌, ◌<◌, List, [], ◌∷◌, Option, Some, length, ap, arith}
use Rattle.std.specs.List.{slice_get}
use Rattle.std.specs.Prelude.{unwrap_or}
use Rattle.fn_editor.specs.Editor.{Lines, last_number}

last_at : (d : ℕ) (lines : Lines) (i n : ℕ) (t : List ℕ) → i + 1 ≡ length lines → slice_get lines i ≡ Some (n, t) → last_number d lines ≡ n
last_at d [] i n t e is = absurd (omega arith)
last_at d (line ∷ []) zero n t e is = ap (λ (o : Option (ℕ × List ℕ)). (unwrap_or o line).0) is
last_at d (line ∷ []) (suc i) n t e is = absurd (omega arith)
last_at d (line ∷ next ∷ lines) zero n t e is = absurd (omega arith)
last_at d (line ∷ next ∷ lines) (suc i) n t e is = last_at line.0 (next ∷ lines) i n t (omega arith) is

pub last_number_found : (lines : Lines) (n : ℕ) (t : List ℕ) → 0 < length lines → slice_get lines (length lines - 1) ≡ Some (n, t) → last_number 0 lines ≡ n
last_number_found lines n t some is = last_at 0 lines (length lines - 1) n t (omega arith) is
