-- `write_digits` meets its contract, return by return.
use native.Mathlib.Omega.{arith}
use mathlib.Core.Path.{◌≡◌, sym, ap, ◌∙◌}
use Prim.Native.Nat.{◌+◌, ◌-◌}
use lib.ListN.{length}
use borrow.Rule.Slice.PartMut.{put_mid}
use borrow.Author.Tests.{le-leb, lt-leb}
use Rattle.sheet.specs.Record.{decimal_digits, digits_of}
use Rattle.sheet.proofs.Digits.{digits_at_most_20}
use Rattle.digits.specs.Digits.{digits_answer, digits_values, digits_places}
use Rattle.digits.proofs.Numbers.{digits_counted}
use Rattle.digits.proofs.Written.{written_join}
use Rattle.std.specs.Prelude.{Ok}
use Rattle.digits.proofs.write_digits.Goals as goal

pub overflow_add-count : goal.overflow_add-count
overflow_add-count c =
    let label = c.args.label in
    omega (
      arith,
      digits_at_most_20 label.first,
      digits_at_most_20 label.rest,
      c.count_decimal_digits-rest.ensures,
      c.count_decimal_digits-first.ensures,
    )

pub returns-then-out-count : goal.returns-then-out-count
unfolding digits_answer digits_places
returns-then-out-count c =
    let a = c.args in
    let fits = sym c.depth_fits.ensures ∙ c.if-not-depth_fits.false in
    let label = sym c.is_label.ensures ∙ c.if-not-is_label.false in
    let short = lt-leb (length (digits_of a.label)) (length a.out.now) (omega (
      arith,
      digits_counted a.label,
      c.count_decimal_digits-rest.ensures,
      c.count_decimal_digits-first.ensures,
    )) in record {
      answer = simp (c.numbered-then-out-count.ensures, fits, label, short);
      values = simp (c.numbered-then-out-count.ensures, fits, label, short);
      places = simp (fits, label, short);
    }

pub returns : goal.returns
unfolding digits_answer digits_places digits_of
returns c =
    let put = c.put_digits in
    let a = c.args in
    let first = c.count_decimal_digits-first in
    let rest = c.count_decimal_digits-rest in
    let fits = sym c.depth_fits.ensures ∙ c.if-not-depth_fits.false in
    let label = sym c.is_label.ensures ∙ c.if-not-is_label.false in
    let count : first.result + rest.result ≡ length (digits_of a.label) =
    omega (arith, digits_counted a.label, first.ensures, rest.ensures) in
    let room = le-leb (length (digits_of a.label)) (length a.out.now) (omega arith) in
    let places = ap (put_mid first.result (length put.new.out - first.result) put.new.out) c.put_digits-2.ensures
    ∙ written_join (decimal_digits a.label.first) (decimal_digits a.label.rest) a.out.now
    put.new.out first.result first.ensures (omega (arith, first.ensures, rest.ensures)) put.ensures in record {
      answer = ap Ok count ∙ simp (fits, label, room);
      values = ap (λ n. digits_values (Ok n)) count ∙ simp (fits, label, room);
      places = places ∙ simp (fits, label, room);
    }
