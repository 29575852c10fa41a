-- What each kind of target asks of a cell on the sheet.
use mathlib.Core.Path.{◌≡◌}
use mathlib.Core.Bool.{false, not}
use mathlib.Core.List.{List}
use Prim.Native.Nat.{ℕ, ◌<◌}
use lib.Dec.{eqb}
use lib.ListN.{get_or}
use Rattle.sheet.specs.Sheet.{Grid, cells, dir_at}
use Rattle.checks.specs.declared.Target.TheVariants.{Inside, Unreached}
use Rattle.checks.specs.Search.{is_target}
use Rattle.sheet.proofs.Cells.{inside_no, inside_is, inside_yes}

module _ (G : Grid) (reached : List ℕ) (c : ℕ) where
  pub is_inside_lem : c < cells G → is_target G reached Inside c ≡ not (eqb (dir_at G c) 0)
  unfolding is_target
  is_inside_lem on = inside_is G c on

  pub unreached_outside : dir_at G c ≡ 0 → is_target G reached Unreached c ≡ false
  unfolding is_target
  unreached_outside e = rw (inside_no G c e)

  pub unreached_inside : c < cells G → (dir_at G c ≡ 0 → ⊥) → is_target G reached Unreached c ≡ eqb (get_or reached c 0) 0
  unfolding is_target
  unreached_inside on ne = rw (inside_yes G c on ne)
