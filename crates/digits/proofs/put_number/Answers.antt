-- `put_number` meets its contract: the digits left, written before the present place, give what the whole gives, and
-- have the whole number's answer.
use native.Mathlib.Omega.{arith}
use Rattle.digits.proofs.LastDigit.{judged_long, judged_zero}
use Rattle.digits.proofs.NumberPlaces.{putting_goes_on, putting_stops}
use Rattle.digits.proofs.NumberPlaces.{no_number, a_number}
use Rattle.digits.proofs.NumberPlaces.{ends_full, ends_here}
use Rattle.digits.proofs.put_number.Goals as goal

pub returns-then-room-eq0 : goal.returns-then-room-eq0
returns-then-room-eq0 c =
    let l = c.loop-m in
    record {
      start = no_number _ _ _ l.invariant
          (judged_long l.m (omega (arith, l.invariant.less)) c.loop-m-test.true l.room (omega arith));
      places = putting_stops _ _ _ l.invariant (ends_full l.room l.m (omega arith));
    }

pub returns-then-digit-eq0 : goal.returns-then-digit-eq0
returns-then-digit-eq0 c =
    let l = c.loop-m in
    record {
      start = no_number _ _ _ l.invariant
          (judged_zero l.m (omega (arith, l.invariant.less)) c.loop-m-test.true l.room (omega arith));
      places = putting_stops _ _ _ l.invariant (ends_here l.room l.m (omega arith));
    }

pub loop-m-preserved : goal.loop-m-preserved
loop-m-preserved c =
    putting_goes_on _ _ _ c.loop-m.invariant (omega arith) c.requires.0 c.requires.1
    c.loop-m-test.true (omega arith) (omega arith)

pub returns : goal.returns
returns c =
    let l = c.loop-m in record {
      start = a_number _ _ _ l.invariant c.loop-m-test.false;
      places = putting_stops _ _ _ l.invariant (ends_here l.room l.m (omega arith));
    }
