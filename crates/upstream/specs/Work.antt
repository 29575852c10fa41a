-- The work places of a sheet of n cells, in parts of n places each.
use Rattle.std.specs.Prelude.{◌≡◌, Bool, List, ◌++◌, ℕ, zero, suc, ◌+◌, ◌*◌, ◌<◌, ◌≤◌, ltb, get_or, length, set, take, drop, None, Some}
use Rattle.sheet.specs.Refusal.{written}
use Rattle.sheet.specs.Answer.{Next}

-- ---- the parts, by their numbers; the places of part k are those from k * n on

-- part 0, from the search on: the queue, which holds the reached cells in the order of the search; its places are
-- written i for 0 * n + i

-- from the search on: each cell's rank, which is its place in the queue, from 1; 0: not reached
abbrev pub ranks_part : ℕ
ranks_part = 1

-- from the search on: each queued cell's receiver, which is the cell that its water goes to, from 1; 0 for an outlet
abbrev pub receivers_part : ℕ
receivers_part = 2

-- once sizes are measured: each cell's size
abbrev pub sizes_part : ℕ
sizes_part = 3

-- once the order is worked out: each queued cell's position along rivers
abbrev pub positions_part : ℕ
positions_part = 4

-- once the order is worked out: the cell at each position
abbrev pub cells_part : ℕ
cells_part = 5

-- once the order is worked out: the size of the cell at each position
abbrev pub ordered_sizes_part : ℕ
ordered_sizes_part = 6

-- ---- what they hold

-- the cell at a place of the queue
abbrev pub queued_at : List ℕ → ℕ → ℕ
queued_at work i = get_or work i 0

abbrev pub rank_of : ℕ → List ℕ → ℕ → ℕ
rank_of n work c = get_or work (ranks_part * n + c) 0

-- before a search: 8n places, and no cell has a rank
pub record Unranked (n : ℕ) (work : List ℕ) : Type 0 where
  pub room : 8 * n ≤ length work
  pub zero : (c : ℕ) → c < n → rank_of n work c ≡ 0

abbrev pub receiver_of : ℕ → List ℕ → ℕ → ℕ
receiver_of n work c = get_or work (receivers_part * n + c) 0

abbrev pub size_at : ℕ → List ℕ → ℕ → ℕ
size_at n work c = get_or work (sizes_part * n + c) 0

abbrev pub is_reached : ℕ → List ℕ → ℕ → Bool
is_reached n work c = ltb 0 (rank_of n work c)

-- the places from m on are as before
abbrev pub KeptFrom : ℕ → List ℕ → List ℕ → Type 0
KeptFrom m old new = drop m new ≡ drop m old

-- how a receiver is stored
abbrev pub numbered : Next → ℕ
numbered None = 0
numbered (Some r) = suc r

abbrev pub next_of_number : ℕ → Next
next_of_number zero = None
next_of_number (suc r) = Some r

-- a cell is queued at the place `end`
unfoldable pub pushed : ℕ → List ℕ → ℕ → ℕ → ℕ → List ℕ
pushed n work end cell receiver =
    set (set (set work end cell) (ranks_part * n + cell) (end + 1)) (receivers_part * n + cell) receiver

-- sizes are written, and no other place
unfoldable pub with_sizes : ℕ → List ℕ → List ℕ → List ℕ
with_sizes n sizes work = take (sizes_part * n) work ++ written sizes (drop (sizes_part * n) work)
