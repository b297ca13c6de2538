-- `blocks::rotated` meets its contract.
use Rattle.std.proofs.Common.{◌≡◌, ℕ, ◌*◌, ◌/◌, ◌%◌, ◌^◌, ◌<◌, arith}
use lib.Bits.{bit_or, or_shifted}
use Rattle.blocks.specs.Words.{rotated}
use Rattle.blocks.proofs.rotated.Goals as goal

-- the upper 63 bits moved up, and the top bit below them
law : (x : ℕ) → x < 2 ^ 64 → bit_or (x * 2 % 18446744073709551616) (x / 9223372036854775808) ≡ rotated x
unfolding rotated
law x h =
    let e : x * 2 % 18446744073709551616 ≡ x % 9223372036854775808 * 2 ^ 1 = omega arith in
    let l : x / 9223372036854775808 < 2 ^ 1 = omega arith in
    rw e (or_shifted (x % 9223372036854775808) 1 (x / 9223372036854775808) l)

pub returns : goal.returns
returns c = law c.args.x c.ranges.x.fits
