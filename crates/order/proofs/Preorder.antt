-- Laws of preorder: the positions of a cell's upstream cells are those from its own up to its size more.
use mathlib.Core.Path.{◌≡◌, refl, sym, ◌∙◌, ap}
use mathlib.Core.Bool.{Bool, true, false}
use mathlib.Core.List.{List, Memᴰ}
use mathlib.Core.Logic.{◌⊎◌, inl, inr, ◌≢◌}
use Prim.Native.Nat.{ℕ, zero, suc, ◌+◌, ◌≤◌}
use native.Mathlib.Omega.{arith}
use lib.Dec.{eqb}
use borrow.Author.Tests.{eqb-true, eqb-false}
use Rattle.sheet.specs.Water.{Passes, here, there}
use Rattle.sheet.specs.River.{Network}
use Rattle.claims.specs.Basin.{Forest}
use Rattle.claims.proofs.Runs.{pass_trans, pass_last}
use Rattle.claims.proofs.Basins.{lawful, stays_inside}
use Rattle.order.specs.Positions.{Consecutive, Preorder}
use Rattle.order.proofs.Intervals.{At, Between, between, member_at, member_once}
use Rattle.std.specs.Prelude.{Some}

-- the outlets stand one after the other from position 0 on, and every inside cell drains to one
pub record Outlets (N : Network) (inside : ℕ → Type 0) (size pos : ℕ → ℕ) (outlets : List ℕ) : Type 0 where
  pub follow : Consecutive size pos 0 outlets
  pub are_inside : (o : ℕ) → Memᴰ o outlets → inside o
  pub drain : (c : ℕ) → inside c → (o : ℕ) × Memᴰ o outlets × Passes N.next c o

-- what drains to an inside cell is inside
pub upstream_inside : {N : Network} {inside : ℕ → Type 0} → Forest N inside → {q c : ℕ} → inside c
    → Passes N.next q c → inside q
upstream_inside F i here = i
upstream_inside F i (there {q = q} {r = r} e h) = F.from_inside q r e

module _ {N : Network} {inside : ℕ → Type 0} (F : Forest N inside) {size pos : ℕ → ℕ}
    (P : Preorder N inside size pos) where
  pub some : (c : ℕ) → inside c → 1 ≤ size c
  some c i = omega (arith, P.adds c i)

  -- a donor's positions lie after the cell's own, within those of the cell
  pub donor_between : {u c : ℕ} → N.next u ≡ Some c → Between size pos (pos c + 1) (pos c + size c) u
  donor_between {u} {c} e =
      let i = F.to_inside u c e in
      let b = between (P.follow c i) u ((lawful F).donors_complete c u e) in
      record { from = b.from; upto = omega (arith, P.adds c i, b.upto) }

  pub upstream_between : {q c : ℕ} → Passes N.next q c → Between size pos (pos c) (pos c + size c) q
  upstream_between here = record { from = omega arith; upto = omega arith }
  upstream_between (there e h) =
      let d = donor_between e in let b = upstream_between h in record { from = omega arith; upto = omega arith }

  -- the sizes of donors are smaller
  smaller : {u c : ℕ} (k : ℕ) → N.next u ≡ Some c → size c ≤ suc k → size u ≤ k
  smaller k e l = let d = donor_between e in omega arith

  -- the cell at a position among those of c
  cell_within : (k c p : ℕ) → size c ≤ k → inside c → At size pos c p → (q : ℕ) × Passes N.next q c × (pos q ≡ p)
  cell_within zero c p l i a = absurd (omega (arith, some c i))
  cell_within (suc k) c p l i a =
      go (eqb (pos c) p) refl (λ u e b. cell_within k u p (smaller k e l) (F.from_inside u c e) b)
    where
      go : (b : Bool) → eqb (pos c) p ≡ b
          → ((u : ℕ) → N.next u ≡ Some c → At size pos u p → (q : ℕ) × Passes N.next q u × (pos q ≡ p)) →
          (q : ℕ) × Passes N.next q c × (pos q ≡ p)
      go true t f = (c, here, eqb-true (pos c) p t)
      go false t f =
          let d : pos c ≢ p = eqb-false (pos c) p t in
          let m = member_at (P.follow c i) p (omega arith) (omega (arith, P.adds c i, a.before)) in
          let e = (lawful F).donor_steps c m.0 m.1 in
          let r = f m.0 e m.2 in
          (r.0, pass_trans {c = r.0} r.1 (there e here), r.2)

  pub cell_at : (c p : ℕ) → inside c → At size pos c p → (q : ℕ) × Passes N.next q c × (pos q ≡ p)
  cell_at c p = cell_within (size c) c p (omega arith)

  pub at_own : {q c : ℕ} → inside q → Passes N.next q c → At size pos c (pos q)
  at_own {q} i h = let b = upstream_between h in record { from = b.from; before = omega (arith, some q i, b.upto) }

  -- cells with the same position are the same
  same_within : (k c p q : ℕ) → size c ≤ k → inside p → inside q → Passes N.next p c → Passes N.next q c
      → pos p ≡ pos q → p ≡ q
  same_within zero c p q l i j h m e = absurd (omega (arith, some c (stays_inside F i h)))
  same_within (suc k) c p q l i j h m e =
      go (pass_last h) (pass_last m) (λ u s x y. same_within k u p q (smaller k s l) i j x y e)
    where
      up : ℕ → Type 0
      up x = (u : ℕ) × (N.next u ≡ Some c) × Passes N.next x u

      go : (p ≡ c) ⊎ up p → (q ≡ c) ⊎ up q
          → ((u : ℕ) → N.next u ≡ Some c → Passes N.next p u → Passes N.next q u → p ≡ q) → p ≡ q
      go (inl x) (inl y) f = x ∙ sym y
      go (inl x) (inr y) f =
          let b = upstream_between y.2 in let d = donor_between y.1 in let z = ap pos x in absurd (omega arith)
      go (inr x) (inl y) f =
          let b = upstream_between x.2 in let d = donor_between x.1 in let z = ap pos y in absurd (omega arith)
      go (inr x) (inr y) f =
          let a : At size pos y.0 (pos p) = rw e (at_own j y.2) in
          let s = member_once (P.follow c (F.to_inside x.0 c x.1))
          ((lawful F).donors_complete c x.0 x.1) ((lawful F).donors_complete c y.0 y.1)
          (at_own i x.2) a in
          f x.0 x.1 x.2 (rw s y.2)

  pub same_cell : {outlets : List ℕ} → Outlets N inside size pos outlets → (p q : ℕ) → inside p → inside q
      → pos p ≡ pos q → p ≡ q
  same_cell O p q i j e =
      let x = O.drain p i in
      let y = O.drain q j in
      let a : At size pos y.0 (pos p) = rw e (at_own j y.2) in
      let s = member_once O.follow x.1 y.1 (at_own i x.2) a in
      same_within (size x.0) x.0 p q (omega arith) i j x.2 (rw s y.2) e
