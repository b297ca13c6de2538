-- The laws of the codecs of a bed's channels: each follows from those of its parts.
use mathlib.Core.Path.{◌≡◌, refl}
use mathlib.Core.Bool.{Bool, true, false, cond, not}
use Prim.Native.Nat.{ℕ, ◌+◌, ◌-◌, ◌*◌, ◌^◌, ◌≤◌, ◌<◌}
use native.Mathlib.Omega.{arith}
use borrow.Author.Tests.{ne_eqb, eqb-false, le-leb, leb-true, ltb-true}
use lib.Dec.{T, eqb, ltb, lit<, lit≤}
use lib.Ieee.{binary64}
use lib.Ieee.Bits.{is_true}
use Rattle.codec.specs.Codec.{CellLaws, CodecLaws}
use Rattle.codec.specs.Forms.{below, one, pair, rows}
use Rattle.codec.proofs.Kept.{true-T, ruled-same, ruled_ok, zero-num}
use Rattle.codec.proofs.Forms.{f64-laws, below_laws, one_laws, pair-laws, as_a-laws, also-laws}
use Rattle.codec.proofs.Rows.{pair-by-laws, rows-laws}
use Rattle.strand_image.specs.Strand.{state}
use Rattle.strand_image.proofs.Codecs.{state-laws}
use Rattle.layout.specs.Layout.{most, size_of, blank}
use Rattle.channels.specs.Channels.{resting}
use Rattle.channels.specs.Surround.{other_channels}
pub use Rattle.surround_image.specs.Sizes.{place-size, channel-size}
use Rattle.surround_image.specs.Surround.{angle_rule, angle, place_rule, place, channel, count_rule, count, parts, surround}

-- ---- where a channel is

-- a number that is no word is far from 0
size_word : (w m : ℕ) → m < 2 ^ 63 → size_of w ≤ m → w < 2 ^ 64
unfolding size_of
size_word w m q h = go (ltb w (2 ^ 63)) (ltb w (2 ^ 64)) refl refl h
  where
    go : (a b : Bool) → ltb w (2 ^ 63) ≡ a → ltb w (2 ^ 64) ≡ b → cond a w (cond b (2 ^ 64 - w) w) ≤ m → w < 2 ^ 64
    go true b e f k = omega arith
    go false true e f k = omega (arith, ltb-true w (2 ^ 64) f)
    go false false e f k = omega arith

zero-size : (m : ℕ) → size_of 0 ≤ m
unfolding size_of
zero-size m = omega arith

pub angle-laws : (m : ℕ) → m < 2 ^ 63 → CellLaws (angle m)
angle-laws m q = record {
  read_bits = λ w h. ruled-same (angle_rule m) 0 w (true-T (le-leb (size_of w) m h));
  read_good = λ w. leb-true (size_of ((angle m).read w)) m (is_true _ (ruled_ok (λ (x : ℕ). Unit {0}) (angle_rule m) 0 w tt (true-T (le-leb (size_of 0) m (zero-size m))) tt).1);
  blank_good = zero-size m;
  bits_small = λ w h. size_word w m q h;
}

pub azimuth-laws : CellLaws (angle 180)
azimuth-laws = angle-laws 180 (lit< tt)

pub elevation-laws : CellLaws (angle 90)
elevation-laws = angle-laws 90 (lit< tt)

pub lfe-laws : CellLaws (below 2)
lfe-laws = below_laws 2 (lit< tt) (lit≤ tt)

-- the three words, without the rule that joins them
pub place-parts : CodecLaws (pair (one (angle 180)) (pair (one (angle 90)) (one (below 2))))
place-parts = pair-laws (one_laws azimuth-laws) (pair-laws (one_laws elevation-laws) (one_laws lfe-laws))

pub ahead_ok : (pair (one (angle 180)) (pair (one (angle 90)) (one (below 2)))).Ok (0, (0, 0))
ahead_ok = (zero-size 180, (zero-size 90, lit< tt))

pub place-laws : CodecLaws place
unfolding place
place-laws = as_a-laws _ _ (λ a. refl) (λ b. refl) (also-laws place_rule (0, (0, 0)) place-parts ahead_ok tt)

pub blank_ok : place.Ok blank
unfolding place
blank_ok = (ahead_ok, tt)

-- ---- a channel's numbers

pub channel-laws : CodecLaws channel
unfolding channel
channel-laws = as_a-laws _ _ (λ a. refl) (λ b. refl) (pair-laws state-laws (pair-laws state-laws (one_laws f64-laws)))

pub resting_ok : channel.Ok resting
unfolding channel state
resting_ok = ((zero-num binary64, (zero-num binary64, tt)), ((zero-num binary64, (zero-num binary64, tt)), zero-num binary64))

-- ---- all of them

pub number-laws : CodecLaws (one (below 9))
number-laws = one_laws (below_laws 9 (lit< tt) (lit≤ tt))

pub count-laws : CodecLaws count
unfolding count
count-laws = also-laws count_rule 1 number-laws (lit< tt) tt

-- the rule of a count, as a test and as a fact
count-some : (n : ℕ) → T (count_rule n) → 1 ≤ n
count-some n t = go (eqb n 0) refl t
  where
    go : (b : Bool) → eqb n 0 ≡ b → T (not b) → 1 ≤ n
    go true e h = absurd h
    go false e h = let z : n ≡ 0 → ⊥ = eqb-false n 0 e in omega arith

pub count_in : (n : ℕ) → count.Ok n → (1 ≤ n) × (n ≤ 8)
unfolding count
count_in n ok = (count-some n ok.1, omega (arith, ok.0))

pub in_count : (n : ℕ) → 1 ≤ n → n ≤ 8 → count.Ok n
unfolding count
in_count n h g = (omega arith, true-T (let z : n ≡ 0 → ⊥ = λ e. omega arith in λ k. not (ne_eqb n 0 z k)))

pub count-size : count.size ≡ 1
unfolding count
count-size = refl

pub places-laws : (m : ℕ) → m ≤ 8 → CodecLaws (rows place blank most m)
places-laws m h = rows-laws place-laws blank blank_ok most m h

pub others-laws : (m : ℕ) → m ≤ 7 → CodecLaws (rows channel resting other_channels m)
others-laws m h = rows-laws channel-laws resting resting_ok other_channels m h

pub parts-size : (m : ℕ) → (parts m).size ≡ 87
parts-size m = λ k. place-size k * 8 + channel-size k * 7

pub parts_laws : (m : ℕ) → count.Ok m → CodecLaws (parts m)
parts_laws m ok = let b = count_in m ok in pair-laws (places-laws m b.1) (others-laws (m - 1) (omega (arith, b.1)))

pub surround-laws : CodecLaws surround
unfolding surround
surround-laws = as_a-laws _ _ (λ a. refl) (λ b. refl) (pair-by-laws 87 count-laws parts-size parts_laws)

pub surround-size : surround.size ≡ 88
unfolding surround count
surround-size = refl
