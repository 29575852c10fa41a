-- Sums of own values over the cells whose water passes a cell; sizes.
use Rattle.std.specs.Prelude.{◌≡◌, Bool, true, cond, List, ℕ, zero, suc, ◌+◌, ◌*◌, ◌≤◌, ◌<◌, ◌^◌, eqb, get_or, length, set, None}
use Rattle.sheet.specs.Sheet.{Grid, cells, inside}
use Rattle.sheet.specs.Water.{passes}
use Rattle.sheet.specs.Area.{count, sum_over, drains_into}
use Rattle.sheet.specs.Label.{list_from}
use Rattle.sheet.specs.Refusal.{both, weights_fit}
use Rattle.upstream.specs.Work.{sizes_part, is_reached, receiver_of, next_of_number}
use Rattle.upstream.specs.Search.{Queue}
use Rattle.sheet.specs.Answer.{Next}

-- the sum of f over the cells whose water passes c
unfoldable pub total : ℕ → (ℕ → Next) → (ℕ → ℕ) → ℕ → ℕ
unfolding sum_over passes
total n next f c = sum_over n (λ q. passes next n q c) f

-- where a cell's water goes, by the receivers in the work places
unfoldable pub next_in : ℕ → List ℕ → ℕ → Next
next_in n work c = cond (is_reached n work c) (next_of_number (receiver_of n work c)) None

abbrev pub value_at : List ℕ → ℕ → ℕ
value_at l c = get_or l c 0

-- a queue, a place for each cell's total, and own values whose sum fits 32 bits
pub record Gathers (n : ℕ) (work : List ℕ) (queued : ℕ) (totals : List ℕ) : Type 0 where
  pub queue : Queue n work queued
  pub room : n ≤ length totals
  pub fits : sum_over n (λ q. true) (value_at totals) < 2 ^ 32

-- the totals of n cells by the receivers in the work places
unfoldable pub totals_in : ℕ → List ℕ → (ℕ → ℕ) → List ℕ
unfolding total next_in list_from
totals_in n work f = list_from (total n (next_in n work) f) 0 n

-- a cell's total is added to that of its receiver
unfoldable pub added : ℕ → List ℕ → ℕ → List ℕ
added zero totals c = totals
added (suc r) totals c = set totals r (get_or totals r 0 + get_or totals c 0)

-- what an addition needs: the receiver is a cell of the totals, and the sum fits 32 bits
pub record Adds (n : ℕ) (work : List ℕ) (c : ℕ) (totals : List ℕ) : Type 0 where
  pub on : c < n
  pub receivers : sizes_part * n ≤ length work
  pub room : n ≤ length totals
  pub receiver_on : (r : ℕ) → receiver_of n work c ≡ r + 1 → r < n
  pub fits : (r : ℕ) → receiver_of n work c ≡ r + 1 → value_at totals r + value_at totals c < 2 ^ 32

-- what a cell adds by itself, told from its byte: a value inside, 0 outside
unfoldable pub own_value : ℕ → ℕ → ℕ
own_value code value = cond (eqb code 0) 0 value

-- what the cells add by themselves, of values f
abbrev pub own_values : List ℕ → (ℕ → ℕ) → ℕ → ℕ
own_values dirs f c = own_value (get_or dirs c 0) (f c)

-- a weight for each row, and each fits
pub record Weighted (rows : ℕ) (weights : List ℕ) : Type 0 where
  pub room : rows ≤ length weights
  pub fit : weights_fit rows weights ≡ true

-- the weights of the first rows are all 1: areas are then sizes
unfoldable pub all_ones : ℕ → List ℕ → Bool
all_ones zero weights = true
all_ones (suc row) weights = let rest = all_ones row weights in both rest (eqb (get_or weights row 0) 1)

-- "size" of an inside cell: the count of inside cells whose water passes it; outside cells have size 0
unfoldable pub size : Grid → ℕ → ℕ
unfolding inside count drains_into
size G c = cond (inside G c) (count (cells G) (drains_into G c)) 0

unfoldable pub sizes_of : Grid → List ℕ
unfolding list_from size
sizes_of G = list_from (size G) 0 (cells G)
