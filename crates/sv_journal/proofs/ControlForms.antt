-- Reading controls and states.
use Rattle.std.proofs.Common.{◌≡◌, ℕ, zero, suc, ◌+◌, ◌-◌, Bool, true, false, eqb, List, [], ◌∷◌, ◌++◌, codes, length, refl, sym, ap, ◌∙◌, arith}
use Rattle.std.proofs.lemmas.Fmt.{decimal_digit}
use Rattle.std.specs.Fmt.{decimal}
use Rattle.sv_access.specs.declared.control.Control.{Control}
use Rattle.sv_access.specs.Control.{four_elements}
use Rattle.text_reader.specs.Reading.{Reader, ◌>>=◌, as_read, read_literal}
use Rattle.text_reader.specs.NumberReading.{read_number}
use Rattle.text_reader.proofs.NumberForms.{InRange, NoDigit, reads_number}
use Rattle.text_reader.proofs.Readers.{SameFirst, IsReader, reformed, after_text, then_read, made, made_of, no_further}
use Rattle.sv_journal.specs.EntryText.{bit_text, control_text}
use Rattle.sv_journal.specs.HoldReading.{Bits, control_of, read_bit, read_bits, read_control}
use Rattle.sv_journal.specs.IsEntry.{IsControl}

-- controls

abbrev pub AnyBit : Bool → Type 0
AnyBit bit = Unit {0}

bit_number : Bool → ℕ
bit_number true = 1
bit_number false = 0

pub bit_behind_text : Bool → List ℕ
bit_behind_text bit = 32 ∷ bit_text bit

bit_small : (b : Bool) → AnyBit b → InRange 0 1 (bit_number b)
unfolding bit_number
bit_small true h = record { least = omega arith; most = omega arith }
bit_small false h = record { least = omega arith; most = omega arith }

bit_again : (b : Bool) → AnyBit b → eqb (bit_number b) 1 ≡ b
unfolding bit_number
bit_again true h = refl
bit_again false h = refl

bit_back : (n : ℕ) → InRange 0 1 n → bit_number (eqb n 1) ≡ n
unfolding bit_number
bit_back zero h = refl
bit_back (suc zero) h = refl
bit_back (suc (suc n)) h = absurd (omega (arith, h.most))

bit_spelled : (b : Bool) → AnyBit b → codes " " ++ decimal (bit_number b) ≡ bit_behind_text b
unfolding bit_number bit_behind_text
bit_spelled true h = ap (λ t. 32 ∷ t) (decimal_digit 1 (omega arith))
bit_spelled false h = ap (λ t. 32 ∷ t) (decimal_digit 0 (omega arith))

reads_bit : IsReader bit_behind_text AnyBit NoDigit SameFirst read_bit
unfolding read_bit
reads_bit line a =
    reformed (λ b. codes " " ++ decimal (bit_number b)) bit_behind_text AnyBit AnyBit NoDigit NoDigit SameFirst (λ line. read_literal (codes " ") line >>= λ rest. as_read (λ n. eqb n 1) (read_number 0 1 rest)) (λ e h. h) (λ e h. h) bit_spelled (λ behind h. h)
    (after_text (codes " ") (λ b. decimal (bit_number b)) AnyBit NoDigit SameFirst (λ rest. as_read (λ n. eqb n 1) (read_number 0 1 rest)) true tt
    (made decimal (InRange 0 1) NoDigit SameFirst (read_number 0 1) (λ n. eqb n 1) bit_number AnyBit (reads_number 0 1 (omega arith) (omega arith)) bit_small bit_again (λ n h. tt) bit_back)) line a

bits_of : Bool → Bool → Bool → Bool → Bits
bits_of first second third fourth = (first, second, third, fourth)

abbrev pub AnyBits : Bits → Type 0
AnyBits bits = Unit {0}

abbrev pub bits_text : Bits → List ℕ
bits_text bits = bit_behind_text bits.0 ++ (bit_behind_text bits.1 ++ (bit_behind_text bits.2 ++ bit_behind_text bits.3))

fourth_at : Bool → Bool → Bool → Reader Bits
fourth_at first second third line = as_read (bits_of first second third) (read_bit line)

bits_again : (first second third : Bool) (b : Bits) → (b.2 ≡ third) × ((b.1 ≡ second) × ((b.0 ≡ first) × AnyBits b)) → bits_of first second third b.3 ≡ b
unfolding bits_of
bits_again first second third b h =
    ap (λ x. bits_of x second third b.3) (sym h.1.1.0) ∙ (ap (λ x. bits_of b.0 x third b.3) (sym h.1.0) ∙ ap (λ x. bits_of b.0 b.1 x b.3) (sym h.0))

no_digit_bit : (bit : Bool) (rest : List ℕ) → NoDigit (bit_behind_text bit ++ rest)
unfolding bit_behind_text
no_digit_bit bit rest = refl

reads_fourth : (first second third : Bool) → IsReader (λ b. bit_behind_text b.3) (λ b. (b.2 ≡ third) × ((b.1 ≡ second) × ((b.0 ≡ first) × AnyBits b))) NoDigit SameFirst (fourth_at first second third)
unfolding fourth_at bits_of
reads_fourth first second third =
    made bit_behind_text AnyBit NoDigit SameFirst read_bit (bits_of first second third) (λ b. b.3) (λ b. (b.2 ≡ third) × ((b.1 ≡ second) × ((b.0 ≡ first) × AnyBits b))) reads_bit (λ e h. tt) (bits_again first second third) (λ v h. (refl, (refl, (refl, tt)))) (λ v h. refl)

third_at : Bool → Bool → Reader Bits
third_at first second line = read_bit line >>= λ found. fourth_at first second found.0 found.1

reads_third : (first second : Bool) → IsReader (λ b. bit_behind_text b.2 ++ bit_behind_text b.3) (λ b. (b.1 ≡ second) × ((b.0 ≡ first) × AnyBits b)) NoDigit SameFirst (third_at first second)
unfolding third_at
reads_third first second =
    then_read bit_behind_text AnyBit NoDigit (λ b. b.2) (λ b. bit_behind_text b.3) (λ b. (b.1 ≡ second) × ((b.0 ≡ first) × AnyBits b)) NoDigit SameFirst read_bit (fourth_at first second) no_further reads_bit (λ x h. reads_fourth first second x) (λ e h. tt) (λ e behind h follow. no_digit_bit e.3 behind) (λ x h. ((first, second, x, true), refl, (refl, (refl, tt))))

second_at : Bool → Reader Bits
second_at first line = read_bit line >>= λ found. third_at first found.0 found.1

no_digit_two : (one two : Bool) (rest : List ℕ) → NoDigit ((bit_behind_text one ++ bit_behind_text two) ++ rest)
unfolding bit_behind_text
no_digit_two one two rest = refl

no_digit_three : (one two three : Bool) (rest : List ℕ) → NoDigit ((bit_behind_text one ++ (bit_behind_text two ++ bit_behind_text three)) ++ rest)
unfolding bit_behind_text
no_digit_three one two three rest = refl

reads_second : (first : Bool) → IsReader (λ b. bit_behind_text b.1 ++ (bit_behind_text b.2 ++ bit_behind_text b.3)) (λ b. (b.0 ≡ first) × AnyBits b) NoDigit SameFirst (second_at first)
unfolding second_at
reads_second first =
    then_read bit_behind_text AnyBit NoDigit (λ b. b.1) (λ b. bit_behind_text b.2 ++ bit_behind_text b.3) (λ b. (b.0 ≡ first) × AnyBits b) NoDigit SameFirst read_bit (third_at first) no_further reads_bit (λ x h. reads_third first x) (λ e h. tt) (λ e behind h follow. no_digit_two e.2 e.3 behind) (λ x h. ((first, x, true, true), refl, (refl, tt)))

reads_bits : IsReader bits_text AnyBits NoDigit SameFirst read_bits
unfolding read_bits second_at third_at fourth_at bits_of
reads_bits =
    then_read bit_behind_text AnyBit NoDigit (λ b. b.0) (λ b. bit_behind_text b.1 ++ (bit_behind_text b.2 ++ bit_behind_text b.3)) AnyBits NoDigit SameFirst read_bit second_at no_further reads_bit (λ x h. reads_second x) (λ e h. tt) (λ e behind h follow. no_digit_three e.1 e.2 e.3 behind) (λ x h. ((x, true, true, true), refl, tt))

abbrev pub control_behind_text : Control → List ℕ
control_behind_text control = 32 ∷ control_text control

bits_spelled : (bits : Bits) → AnyBits bits → bits_text bits ≡ control_behind_text (control_of bits)
unfolding bit_behind_text
bits_spelled bits h = refl

control_in : List Bool → Control
control_in list = record { 0 = list }

bits_in : (list : List Bool) → length list ≡ 4 → (bits : Bits) × (control_in list ≡ control_of bits) × AnyBits bits
unfolding control_in
bits_in [] h = absurd (omega (arith, h))
bits_in (a ∷ []) h = absurd (omega (arith, h))
bits_in (a ∷ b ∷ []) h = absurd (omega (arith, h))
bits_in (a ∷ b ∷ c ∷ []) h = absurd (omega (arith, h))
bits_in (a ∷ b ∷ c ∷ d ∷ []) h = ((a, b, c, d), refl, tt)
bits_in (a ∷ b ∷ c ∷ d ∷ e ∷ list) h = absurd (omega (arith, h))

bits_of_control : (c : Control) → IsControl c → (bits : Bits) × (c ≡ control_of bits) × AnyBits bits
unfolding control_in
bits_of_control c h = bits_in c.0 h

is_control : (c : Control) → (bits : Bits) × (c ≡ control_of bits) × AnyBits bits → IsControl c
is_control c h = ap (λ k. length k.0) h.1

pub reads_control : IsReader control_behind_text IsControl NoDigit SameFirst read_control
reads_control =
    reformed control_behind_text control_behind_text (λ c. (bits : Bits) × (c ≡ control_of bits) × AnyBits bits) IsControl NoDigit NoDigit SameFirst read_control bits_of_control is_control (λ e h. refl) (λ behind h. h)
    (made_of bits_text AnyBits NoDigit SameFirst read_bits control_of control_behind_text bits_spelled reads_bits)

unfoldable pub some_control : Control
some_control = four_elements true true true true

pub some_control_is : IsControl some_control
unfolding some_control
some_control_is = refl
