-- The work places of an order: parts of n places after those of a search and the sizes.
use Rattle.std.specs.Prelude.{◌≡◌, true, cond, ◌≢◌, ℕ, suc, ◌+◌, ◌*◌, ◌<◌, ◌≤◌, ◌^◌, eqb, get_or, length, set, take, drop}
use mathlib.Core.List.{List, [], ◌∷◌, Memᴰ}
use Rattle.sheet.specs.Sheet.{Grid, cells, inside, is_outlet}
use Rattle.sheet.specs.Area.{count}
use Rattle.directions.specs.Sizes.{most_cells, Sized}
use Rattle.claims.specs.Bounds.{sum}
use Rattle.upstream.specs.Work.{positions_part, cells_part, ordered_sizes_part, queued_at, receiver_of, size_at}
use Rattle.upstream.specs.Search.{Coded, Drained, outlet_count}
use Rattle.drainage.specs.Total.{size}
use Rattle.rivers.specs.Layout.{Layout, LayoutOf}
use Rattle.order.specs.Network.{donors_in, network_in}
use Rattle.order.specs.Positions.{Consecutive}

-- a queued cell's position
abbrev pub position_at : ℕ → List ℕ → ℕ → ℕ
position_at n work c = get_or work (positions_part * n + c) 0

-- the outlets, which stand first in the queue, in reading order
abbrev pub outlets_in : Grid → List ℕ → List ℕ
outlets_in G work = take (outlet_count G) work

-- the cell at each position
abbrev pub cells_in : ℕ → List ℕ → ℕ → List ℕ
cells_in n work queued = take queued (drop (cells_part * n) work)

-- the size at each position
abbrev pub sizes_in : ℕ → List ℕ → ℕ → List ℕ
sizes_in n work queued = take queued (drop (ordered_sizes_part * n) work)

-- ---- what is given

-- a sheet whose bytes are codes, with an area for each cell
pub record Measured (G : Grid) (areas : List ℕ) : Type 0 where
  pub sized : Sized G.rows G.cols G.dirs
  pub coded : Coded G
  pub room : cells G ≤ length areas

-- a search that reached every inside cell, of which there are some, areas and sizes
pub record Surveyed (G : Grid) (areas work : List ℕ) (queued : ℕ) : Type 0 where
  pub measured : Measured G areas
  pub room : 8 * cells G ≤ length work
  pub drained : Drained G work queued
  pub some : 0 < queued
  pub size_is : (c : ℕ) → c < cells G → size_at (cells G) work c ≡ size G c

-- ---- positions one after the other

-- cells get positions one after the other from `at` on, and each takes as many as its size
unfoldable pub positioned : ℕ → ℕ → List ℕ → List ℕ → List ℕ
positioned n at [] work = work
positioned n at (u ∷ us) work = positioned n (at + size_at n work u) us (set work (positions_part * n + u) at)

-- cells have places, and their positions fit 32 bits
pub record PositionsFit (n at : ℕ) (us work : List ℕ) : Type 0 where
  pub small : n ≤ most_cells
  pub room : 8 * n ≤ length work
  pub on : (u : ℕ) → Memᴰ u us → u < n
  pub fits : at + sum (size_at n work) us < 2 ^ 32

-- ---- positions of outlets

-- the first cells of a list, up to one that has a receiver
unfoldable pub first_outlets : ℕ → List ℕ → List ℕ → List ℕ
first_outlets n work [] = []
first_outlets n work (c ∷ cs) =
    let rest = first_outlets n work cs in
    cond (eqb (receiver_of n work c) 0) (c ∷ rest) []

-- the queued cells have places, and the positions of the outlets fit 32 bits
pub record OutletsFit (n queued : ℕ) (work : List ℕ) : Type 0 where
  pub most : queued ≤ n
  pub on : (i : ℕ) → i < queued → queued_at work i < n
  pub fit : PositionsFit n 0 (first_outlets n work (take queued work)) work

-- ---- positions of donors

-- an inside cell has its position
pub record Standing (G : Grid) (areas work : List ℕ) (cell : ℕ) : Type 0 where
  pub is_inside_lem : inside G cell ≡ true
  pub room : 8 * cells G ≤ length work
  pub size_is : (c : ℕ) → c < cells G → size_at (cells G) work c ≡ size G c
  pub within : position_at (cells G) work cell + size G cell ≤ most_cells
  pub adds : size G cell ≡ suc (sum (size G) (donors_in G areas cell))

-- the donors of a cell have got their positions, and no other place is written
pub record DonorsPlaced (G : Grid) (areas work work' : List ℕ) (cell : ℕ) : Type 0 where
  pub follow : Consecutive (size G) (position_at (cells G) work') (position_at (cells G) work cell + 1)
      (donors_in G areas cell)
  pub kept : (j : ℕ) → ((u : ℕ) → Memᴰ u (donors_in G areas cell) → j ≢ positions_part * cells G + u)
      → get_or work' j 0 ≡ get_or work j 0

-- the donors of the first i cells of the queue have their positions, and so have the outlets, which stand one after the
-- other from position 0 on; no other place is written
pub record Placed (G : Grid) (areas work work' : List ℕ) (queued i : ℕ) : Type 0 where
  pub kept : (j : ℕ) → ((c : ℕ) → inside G c ≡ true → j ≢ positions_part * cells G + c) → get_or work' j 0 ≡ get_or work j 0
  pub first : Consecutive (size G) (position_at (cells G) work') 0 (outlets_in G work)
  pub follow : (j : ℕ) → j < i → Consecutive (size G) (position_at (cells G) work')
      (position_at (cells G) work' (queued_at work j) + 1) (donors_in G areas (queued_at work j))
  pub within : (j : ℕ) → j < i → position_at (cells G) work' (queued_at work j) + size G (queued_at work j) ≤ queued

-- ---- cells and sizes by position

-- a cell and its size, written at its position
unfoldable pub entered : ℕ → List ℕ → ℕ → List ℕ
entered n work c =
    set (set work (cells_part * n + position_at n work c) c) (ordered_sizes_part * n + position_at n work c)
    (size_at n work c)

-- queued cells with different positions
pub record Apart (n : ℕ) (work : List ℕ) (queued : ℕ) : Type 0 where
  pub small : n ≤ most_cells
  pub room : 8 * n ≤ length work
  pub most : queued ≤ n
  pub on : (i : ℕ) → i < queued → queued_at work i < n
  pub below : (i : ℕ) → i < queued → position_at n work (queued_at work i) < n
  pub apart : (i j : ℕ) → i < queued → j < queued
      → position_at n work (queued_at work i) ≡ position_at n work (queued_at work j) → i ≡ j

-- the first i queued cells stand at their positions, and no other place is written
pub record Entered (n : ℕ) (work work' : List ℕ) (i : ℕ) : Type 0 where
  pub kept : (j : ℕ) → ((k : ℕ) → k < i → j ≢ cells_part * n + position_at n work (queued_at work k))
      → ((k : ℕ) → k < i → j ≢ ordered_sizes_part * n + position_at n work (queued_at work k))
      → get_or work' j 0 ≡ get_or work j 0
  pub cell_is : (j : ℕ) → j < i → get_or work' (cells_part * n + position_at n work (queued_at work j)) 0 ≡ queued_at work j
  pub size_is : (j : ℕ) → j < i
      → get_or work' (ordered_sizes_part * n + position_at n work (queued_at work j)) 0 ≡ size_at n work (queued_at work j)

-- ---- the order along rivers

-- basin number k begins at position j: the cell there is the k-th outlet in reading order
pub record BasinAt (G : Grid) (cell : List ℕ) (j k : ℕ) : Type 0 where
  pub is_outlet_lem : is_outlet G (get_or cell j 0) ≡ true
  pub numbered : count (suc (get_or cell j 0)) (is_outlet G) ≡ k

-- every queued cell stands at its position, with its size, one basin after the other
pub record Arranged (G : Grid) (areas work : List ℕ) (queued : ℕ) : Type 0 where
  pub some : 0 < queued
  pub long : length (cells_in (cells G) work queued) ≡ queued
  pub layout : Layout (cells_in (cells G) work queued) (sizes_in (cells G) work queued) (cells G)
  pub layout_of : (least split : ℕ) → LayoutOf (network_in G areas least split) (cells_in (cells G) work queued)
      (sizes_in (cells G) work queued) areas split least
  pub are_inside : (j : ℕ) → j < queued → inside G (get_or (cells_in (cells G) work queued) j 0) ≡ true
  pub all_stand : (c : ℕ) → inside G c ≡ true
      → (j : ℕ) × (j < queued) × (get_or (cells_in (cells G) work queued) j 0 ≡ c)
  pub first : BasinAt G (cells_in (cells G) work queued) 0 1
  pub onward : (j k : ℕ) → BasinAt G (cells_in (cells G) work queued) j k
      → j + get_or (sizes_in (cells G) work queued) j 0 < queued
      → BasinAt G (cells_in (cells G) work queued) (j + get_or (sizes_in (cells G) work queued) j 0) (suc k)

-- a place that is no inside cell's position, and none of the first `queued` among the cells and the sizes by position
pub record Elsewhere (G : Grid) (queued j : ℕ) : Type 0 where
  pub no_position : (c : ℕ) → inside G c ≡ true → j ≢ positions_part * cells G + c
  pub no_cell : (i : ℕ) → i < queued → j ≢ cells_part * cells G + i
  pub no_size : (i : ℕ) → i < queued → j ≢ ordered_sizes_part * cells G + i

-- beside a cell at each position: its own position, its size, and every other place as it was
pub record OtherPlaces (G : Grid) (work work' : List ℕ) (queued : ℕ) : Type 0 where
  pub position_is : (j : ℕ) → j < queued → position_at (cells G) work' (get_or (cells_in (cells G) work' queued) j 0) ≡ j
  pub size_is : (j : ℕ) → j < queued
      → get_or (sizes_in (cells G) work' queued) j 0 ≡ size G (get_or (cells_in (cells G) work' queued) j 0)
  pub kept : (j : ℕ) → Elsewhere G queued j → get_or work' j 0 ≡ get_or work j 0
