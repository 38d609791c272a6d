-- Where the table of a header lies.
-- (LSB, ".eh_frame_hdr".)
use Rattle.std.specs.Prelude.{ℕ, ◌+◌, ◌*◌, ◌^◌, ◌<◌}

-- where `.eh_frame` begins, how the table's addresses are encoded, the size of each, how many rows there are, and
-- where the first one is
pub record Layout : Type 0 where
  pub eh_frame_pointer : ℕ
  pub encoding : ℕ
  pub size : ℕ
  pub count : ℕ
  pub rows : ℕ

-- there are rows of numbers that have bytes, at offsets of 64 bits
pub record HasRows (layout : Layout) : Type 0 where
  pub some : 0 < layout.count
  pub sized : 0 < layout.size
  pub held : layout.rows + 2 * layout.size * layout.count < 2 ^ 64
