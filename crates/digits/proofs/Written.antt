-- The digits of a label's second number written to a part of the slice, after those of the first.
use mathlib.Core.Path.{◌≡◌, sym, ap, ◌∙◌}
use mathlib.Core.List.{List, [], ◌++◌, append-nil, append_assoc}
use Prim.Native.Nat.{ℕ, ◌+◌, ◌-◌, ◌≤◌}
use native.Mathlib.Omega.{arith}
use lib.ListN.{length, take, drop, length-append, length-drop}
use lib.Seq.{drop_at, drop-drop, drop-length, take_all, take_at}
use borrow.Rule.Slice.PartMut.{put_mid, post_of, Post-is}
use Rattle.sheet.specs.Refusal.{written}

-- `old` was lent, and x is written to its first places, of which there are `first`; y goes to the part after them
pub written_join : (x y old places : List ℕ) (first : ℕ) → first ≡ length x → length x + length y ≤ length old
    → places ≡ written x old
    → put_mid first (length places - first) places (written y (take (length places - first) (drop first places)))
    ≡ written (x ++ y) old
written_join x y old places first count room e =
    let long : first ≤ length places =
    omega (arith, ap length e, length-append x (drop (length x) old)) in
    let whole : take (length places - first) (drop first places) ≡ drop first places =
    take_all (length places - first) (drop first places) (omega (arith, length-drop first places)) in
    let kept : drop first places ≡ drop first old =
    ap (drop first) e ∙ drop_at x (drop (length x) old) first (sym count) ∙ rw count in
    let front : take first places ≡ x = ap (take first) e ∙ take_at x (drop (length x) old) first (sym count) in
    let rest : post_of first (length places - first) places ≡ [] =
    Post-is first (length places) places long ∙ drop-length places in
    let seam : length (x ++ y) ≡ first + length y = omega (arith, length-append x y) in
    rw (rest, append-nil, whole, kept, front, seam, drop-drop (length y) first old, append_assoc)
