-- What holds between the parts of a search upstream.
use Rattle.std.specs.Prelude.{◌≡◌, true, List, ℕ, ◌+◌, ◌*◌, ◌<◌, ◌≤◌, Some}
use Rattle.sheet.specs.Sheet.{Grid, cells, is_outlet, next}
use Rattle.directions.specs.Sizes.{OnSheet, Sized}
use Rattle.directions.specs.Steps.{neighbour_against}
use Rattle.sheet.specs.Area.{count}
use Rattle.upstream.specs.Work.{sizes_part, queued_at, rank_of, KeptFrom}
use Rattle.upstream.specs.Search.{Upstream, OutletsFirst, outlet_count}

-- a queue has grown from `end` places to end'
pub record Grown (n : ℕ) (work : List ℕ) (end : ℕ) (work' : List ℕ) (end' : ℕ) : Type 0 where
  pub more : end ≤ end'
  pub ranks : (c : ℕ) → c < n → 0 < rank_of n work c → rank_of n work' c ≡ rank_of n work c
  pub places : (i : ℕ) → i < end → queued_at work' i ≡ queued_at work i
  pub kept : KeptFrom (sizes_part * n) work work'

-- ---- outlets

-- the outlets below `upto` are queued, in reading order, and nothing else
pub record Seeded (G : Grid) (work : List ℕ) (end upto : ℕ) : Type 0 where
  pub upstream : Upstream G work end
  pub counted : end ≡ count upto (is_outlet G)
  pub outlets : (c : ℕ) → c < upto → is_outlet G c ≡ true → 0 < rank_of (cells G) work c
  pub are_outlets : (i : ℕ) → i < end → is_outlet G (queued_at work i) ≡ true
  pub before : (i : ℕ) → i < end → queued_at work i < upto
  pub rising : (i j : ℕ) → i < j → j < end → queued_at work i < queued_at work j

-- ---- donors

-- the cell in a row and a column is queued
pub record Ready (G : Grid) (work : List ℕ) (end row col : ℕ) : Type 0 where
  pub sized : Sized G.rows G.cols G.dirs
  pub on : OnSheet G.rows G.cols row col
  pub upstream : Upstream G work end
  pub reached : 0 < rank_of (cells G) work (row * G.cols + col)

-- its donors against the steps `from` up to `to` are queued
pub record DonorsPushed (G : Grid) (work : List ℕ) (end : ℕ) (work' : List ℕ) (end' row col from to : ℕ) : Type 0 where
  pub upstream : Upstream G work' end'
  pub grown : Grown (cells G) work end work' end'
  pub donors : (k : ℕ) → from ≤ k → k < to → (q : ℕ) → neighbour_against G row col k ≡ Some q
      → 0 < rank_of (cells G) work' q

-- all donors of a cell are queued
pub record AllPushed (G : Grid) (work : List ℕ) (end : ℕ) (work' : List ℕ) (end' cell : ℕ) : Type 0 where
  pub upstream : Upstream G work' end'
  pub grown : Grown (cells G) work end work' end'
  pub donors : (q : ℕ) → next G q ≡ Some cell → 0 < rank_of (cells G) work' q

-- the search has gone through the queue up to `head`
pub record Spread (G : Grid) (work : List ℕ) (end head : ℕ) : Type 0 where
  pub upstream : Upstream G work end
  pub outlets : OutletsFirst G work
  pub within : outlet_count G ≤ end
  pub donors : (i : ℕ) → i < head → (q : ℕ) → next G q ≡ Some (queued_at work i) → 0 < rank_of (cells G) work q
