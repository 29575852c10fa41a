-- What a search upstream from the outlets leaves in the work places.
use Rattle.std.specs.Prelude.{◌≡◌, true, List, ℕ, ◌+◌, ◌*◌, ◌-◌, ◌<◌, ◌≤◌, length}
use Rattle.sheet.specs.Direction.{is_code}
use Rattle.sheet.specs.Sheet.{Grid, cells, dir_at, inside, is_outlet, next}
use Rattle.sheet.specs.Water.{reaches_outlet}
use Rattle.sheet.specs.Area.{count}
use Rattle.sheet.specs.Refusal.{both}
use Rattle.upstream.specs.Work.{sizes_part, queued_at, rank_of, receiver_of, is_reached, numbered}

-- ---- the queue

-- the cell r stands before place i
pub record Before (n : ℕ) (work : List ℕ) (i r : ℕ) : Type 0 where
  pub on : r < n
  pub reached : 0 < rank_of n work r
  pub earlier : rank_of n work r ≤ i

-- the cell at place i: its rank says so, and its receiver stands before it
pub record Item (n : ℕ) (work : List ℕ) (i : ℕ) : Type 0 where
  pub on : queued_at work i < n
  pub rank : rank_of n work (queued_at work i) ≡ i + 1
  pub before : (r : ℕ) → receiver_of n work (queued_at work i) ≡ r + 1 → Before n work i r

-- the reached cell c stands at the place that its rank gives
pub record Stands (n : ℕ) (work : List ℕ) (queued c : ℕ) : Type 0 where
  pub most : rank_of n work c ≤ queued
  pub place : queued_at work (rank_of n work c - 1) ≡ c

-- the first `queued` places hold the reached cells, each once
pub record Queue (n : ℕ) (work : List ℕ) (queued : ℕ) : Type 0 where
  pub room : sizes_part * n ≤ length work
  pub counted : queued ≡ count n (is_reached n work)
  pub item : (i : ℕ) → i < queued → Item n work i
  pub stands : (c : ℕ) → c < n → 0 < rank_of n work c → Stands n work queued c

-- ---- the queue of a sheet

-- it holds inside cells, each with its receiver
pub record Upstream (G : Grid) (work : List ℕ) (queued : ℕ) : Type 0 where
  pub queue : Queue (cells G) work queued
  pub is_inside_lem : (i : ℕ) → i < queued → inside G (queued_at work i) ≡ true
  pub receiver : (i : ℕ) → i < queued
      → receiver_of (cells G) work (queued_at work i) ≡ numbered (next G (queued_at work i))

abbrev pub outlet_count : Grid → ℕ
outlet_count G = count (cells G) (is_outlet G)

-- the outlets stand first, in reading order
pub record OutletsFirst (G : Grid) (work : List ℕ) : Type 0 where
  pub reached : (c : ℕ) → is_outlet G c ≡ true → 0 < rank_of (cells G) work c
  pub first : (c : ℕ) → is_outlet G c ≡ true → rank_of (cells G) work c ≤ outlet_count G
  pub are_outlets : (i : ℕ) → i < outlet_count G → is_outlet G (queued_at work i) ≡ true
  pub rising : (i j : ℕ) → i < j → j < outlet_count G → queued_at work i < queued_at work j

-- a search is finished: the cells reached are those whose water comes to an outlet
pub record Searched (G : Grid) (work : List ℕ) (queued : ℕ) : Type 0 where
  pub upstream : Upstream G work queued
  pub reached : (c : ℕ) → c < cells G
      → is_reached (cells G) work c ≡ both (inside G c) (reaches_outlet (next G) (cells G) c)
  pub outlets : OutletsFirst G work

-- all bytes are codes
abbrev pub Coded : Grid → Type 0
Coded G = (c : ℕ) → c < cells G → is_code (dir_at G c) ≡ true

-- a search that reached every inside cell
pub record Drained (G : Grid) (work : List ℕ) (queued : ℕ) : Type 0 where
  pub coded : Coded G
  pub searched : Searched G work queued
  pub all : (c : ℕ) → inside G c ≡ true → 0 < rank_of (cells G) work c
