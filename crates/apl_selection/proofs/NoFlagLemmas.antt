-- Numbers of which some is no flag.
use Rattle.std.proofs.Common.{◌≡◌, ◌+◌, ◌<◌, ◌||◌, ℕ, ℤ, pos, Bool, true, false, List, length, get_or, take, sym, ap, ◌∙◌}
use Rattle.std.specs.List.{list_any}
use Rattle.std.proofs.Math.Bool.{or-false, or-true}
use Rattle.std.proofs.lemmas.List.Folds.{list_any_more}
use Rattle.apl_selection.specs.Flags.{is_no_flag}

number_more : (numbers : List ℤ) (n : ℕ) (here known : Bool) → n < length numbers → here ≡ is_no_flag (get_or numbers n (pos 0)) → here ≡ known
    → list_any is_no_flag (take (n + 1) numbers) ≡ (list_any is_no_flag (take n numbers) || known)
number_more numbers n here known below test e = list_any_more is_no_flag numbers n (pos 0) below ∙ ap (λ (b : Bool). list_any is_no_flag (take n numbers) || b) (sym test ∙ e)

-- one number more, which is no flag
pub some_no_flag : (numbers : List ℤ) (n : ℕ) (here : Bool) → n < length numbers → here ≡ is_no_flag (get_or numbers n (pos 0)) → here ≡ true → true ≡ list_any is_no_flag (take (n + 1) numbers)
some_no_flag numbers n here below test e = sym (number_more numbers n here true below test e ∙ or-true (list_any is_no_flag (take n numbers)))

-- or is one
pub no_flag_yet : (numbers : List ℤ) (n : ℕ) (wrong here : Bool) → n < length numbers → wrong ≡ list_any is_no_flag (take n numbers) → here ≡ is_no_flag (get_or numbers n (pos 0)) → here ≡ false
    → wrong ≡ list_any is_no_flag (take (n + 1) numbers)
no_flag_yet numbers n wrong here below so_far test e = so_far ∙ sym (number_more numbers n here false below test e ∙ or-false (list_any is_no_flag (take n numbers)))
