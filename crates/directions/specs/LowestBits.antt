-- Bytes with their lowest set bit cleared.
use Rattle.std.specs.Prelude.{ℕ, zero, suc, ◌+◌, ◌-◌, ◌*◌, ◌/◌, ◌%◌}
use Rattle.std.specs.Int.Bits.{bit_and}

-- a number with its lowest set bit cleared; 0 stays 0
unfoldable pub clear_lowest : ℕ → ℕ
clear_lowest x = bit_and x (x - 1)

-- the lowest k bytes of a number, each with its lowest set bit cleared
unfoldable pub clear_lowest_in : ℕ → ℕ → ℕ
unfolding clear_lowest
clear_lowest_in zero x = 0
clear_lowest_in (suc k) x = clear_lowest_in k (x / 256) * 256 + clear_lowest (x % 256)
