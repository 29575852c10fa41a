-- The definitions tried by computation.
use mathlib.Core.Path.{◌≡◌, refl}
use Rattle.std.proofs.Common.{None}
use Rattle.decimal.specs.Value.{Found}
use Rattle.std.proofs.Common.{Some}
use Rattle.decimal.specs.Ascii.{ascii}
use Rattle.decimal.specs.Value.{value_at}
use Rattle.decimal.specs.Text.{decimal_text, write_text}

-- Values of at most 5 digits.
pub zero_alone : value_at 5 (ascii "0") 0 ≡ Found 0 1
unfolding value_at
zero_alone = refl

pub leading_zero : value_at 5 (ascii "07") 0 ≡ None
unfolding value_at
leading_zero = refl

pub five_digits : value_at 5 (ascii "99999") 0 ≡ Found 99999 5
unfolding value_at
five_digits = refl

pub six_digits : value_at 5 (ascii "100000") 0 ≡ None
unfolding value_at
six_digits = refl

pub between_commas : value_at 5 (ascii "3,42,1") 2 ≡ Found 42 4
unfolding value_at
between_commas = refl

pub blank_after : value_at 5 (ascii "42 ") 0 ≡ Found 42 2
unfolding value_at
blank_after = refl

pub blank_in_front : value_at 5 (ascii " 42") 0 ≡ Found 42 3
unfolding value_at
blank_in_front = refl

pub blanks_between_commas : value_at 5 (ascii "3,   42,1") 2 ≡ Found 42 7
unfolding value_at
blanks_between_commas = refl

pub eight_blanks : value_at 5 (ascii "        99999") 0 ≡ Found 99999 13
unfolding value_at
eight_blanks = refl

pub nine_blanks : value_at 5 (ascii "         1") 0 ≡ None
unfolding value_at
nine_blanks = refl

pub eight_of_nine_blanks : value_at 5 (ascii "         1") 1 ≡ Found 1 10
unfolding value_at
eight_of_nine_blanks = refl

pub blank_and_six_digits : value_at 5 (ascii " 100000") 0 ≡ None
unfolding value_at
blank_and_six_digits = refl

pub blank_and_leading_zero : value_at 5 (ascii " 07") 0 ≡ None
unfolding value_at
blank_and_leading_zero = refl

pub blank_between_digits : value_at 5 (ascii " 4 2") 0 ≡ Found 4 2
unfolding value_at
blank_between_digits = refl

pub blanks_alone : value_at 5 (ascii "   ") 0 ≡ None
unfolding value_at
blanks_alone = refl

pub tab_in_front : value_at 5 (ascii "\t1") 0 ≡ None
unfolding value_at
tab_in_front = refl

pub no_digit : value_at 5 (ascii ",1") 0 ≡ None
unfolding value_at
no_digit = refl

pub past_the_end : value_at 5 (ascii "1") 2 ≡ None
unfolding value_at
past_the_end = refl

-- Other numbers of digits.
pub eight_digits : value_at 8 (ascii "65536000") 0 ≡ Found 65536000 8
unfolding value_at
eight_digits = refl

pub nine_digits : value_at 9 (ascii "999999999") 0 ≡ Found 999999999 9
unfolding value_at
nine_digits = refl

pub ten_digits : value_at 10 (ascii "1") 0 ≡ None
unfolding value_at
ten_digits = refl

-- Numbers as text.
pub text_of_0 : decimal_text 0 ≡ ascii "0"
unfolding decimal_text
text_of_0 = refl

pub text_of_100 : decimal_text 100 ≡ ascii "100"
unfolding decimal_text
text_of_100 = refl

pub text_of_largest : decimal_text 18446744073709551615 ≡ ascii "18446744073709551615"
unfolding decimal_text
text_of_largest = refl

pub text_in_buffer : write_text (decimal_text 42)
    (ascii "row=..;") 4 ≡ record { answer = Some 6; buffer = ascii "row=42;" }
unfolding write_text decimal_text
text_in_buffer = refl

pub no_room : write_text (decimal_text 42) (ascii "row=.") 4 ≡ record { answer = None; buffer = ascii "row=." }
unfolding write_text decimal_text
no_room = refl
