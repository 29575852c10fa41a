-- Laws of `Listed`: a list in the first places of a slice.
use mathlib.Core.Path.{◌≡◌, sym, ap}
use mathlib.Core.List.{List, [], ◌∷◌, ◌++◌}
use Prim.Native.Nat.{ℕ, ◌+◌, ◌≤◌, ◌<◌}
use native.Mathlib.Numerals.{add-one}
use native.Mathlib.Omega.{arith}
use lib.ListN.{length, set, take, drop, length-append}
use lib.Seq.{drop-cons, set-append_seam, append_snoc, take_at, drop_at}
use Rattle.sheet.specs.Refusal.{written}
use Rattle.order.specs.Keys.{Listed}

written_more : (new old : List ℕ) (u : ℕ) → length new < length old
    → set (written new old) (length new) u ≡ written (new ++ (u ∷ [])) old
written_more new old u l = rw (drop-cons old (length new) 0 l, set-append_seam, append_snoc, length-append, add-one)

module _ {new old places : List ℕ} {count : ℕ} where
  -- one place more is written
  pub listed_more : (u : ℕ) → Listed new old places count → count < length old
      → Listed (new ++ (u ∷ [])) old (set places count u) (count + 1)
  listed_more u w l = record {
    count_is = omega (arith, w.count_is, length-append new (u ∷ []));
    places_are = rw (w.places_are, w.count_is) (written_more new old u (omega (arith, w.count_is)));
  }

  pub listed_first : Listed new old places count → take count places ≡ new
  listed_first w = rw w.places_are (take_at new (drop (length new) old) count (sym w.count_is))

  pub listed_rest : Listed new old places count → drop count places ≡ drop (length new) old
  listed_rest w = rw w.places_are (drop_at new (drop (length new) old) count (sym w.count_is))

  pub listed_within : Listed new old places count → count ≤ length places
  listed_within w =
      omega (arith, w.count_is, ap length w.places_are, length-append new (drop (length new) old))
