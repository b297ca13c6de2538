-- How large frames are: between one channel's and eight channels', and as large as the samples of the key and of the bed.
use Prim.Native.Nat.{ℕ, ◌+◌, ◌*◌, ◌^◌, ◌≤◌, ◌<◌}
use native.Mathlib.Nat.{mul-le-mul_left}
use native.Mathlib.Omega.{arith}
use mathlib.Core.Path.{◌≡◌}
use Rattle.frame_bytes.specs.Bytes.{bed_samples, frame_bytes}

module _ (n : ℕ) where
  pub bed_most : bed_samples n ≤ 3840
  unfolding bed_samples
  bed_most = omega arith

  pub frame_least : 3840 ≤ frame_bytes n
  unfolding frame_bytes
  frame_least = omega arith

  pub frame_most : frame_bytes n ≤ 17280
  unfolding frame_bytes
  frame_most = omega arith

  pub frame-samples : frame_bytes n ≡ 1920 + 4 * bed_samples n
  unfolding frame_bytes bed_samples
  frame-samples = omega arith

  -- the first byte of a frame whose number is a u16
  pub place_most : (i f : ℕ) → f ≡ frame_bytes n → i < 65536 → i * f < 2 ^ 31
  place_most i f e h = let g : f ≤ 17280 = omega (arith, frame_most) in omega (arith, mul-le-mul_left i g)
