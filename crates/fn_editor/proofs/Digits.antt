-- The number of digits, capped.
use Rattle.std.proofs.Common.{◌≡◌, ℕ, ◌+◌, ◌*◌, ◌<◌, List, length, min, take, get_or, refl, arith}
use Rattle.std.specs.Char.{digit_value}
use Rattle.std.specs.Str.Parse.{digits_value}
use Rattle.line_scanner.proofs.Digits.{with_digit_more}
use Rattle.fn_editor.specs.Number.{most_whole}

-- one digit more
pub capped_more : (ds : List ℕ) (i v d w : ℕ) → i < length ds → v ≡ min (digits_value 10 (take i ds)) (most_whole + 1) → d ≡ get_or ds i d → w ≡ min (v * 10 + digit_value d) (most_whole + 1) → w ≡ min (digits_value 10 (take (i + 1) ds)) (most_whole + 1)
capped_more ds i v d w within e f g =
    let more = with_digit_more ds i (digits_value 10 (take i ds)) d (digits_value 10 (take i ds) * 10 + digit_value d) within refl f refl in
    omega arith
