-- `little_endian::write8` meets its contract.
use Rattle.std.proofs.Common.{◌≡◌, ◌+◌, ◌-◌, length, take, ap, ◌∙◌, arith, length-take-le}
use Rattle.blocks.specs.Words.{bytes8}
use Rattle.blocks.proofs.Lists.{laid-part, laid-cut, dropped}
use Rattle.blocks.proofs.Bytes.{word-bytes, length8}
use borrow.Rule.Slice.PartMut.{put_mid}
use Rattle.blocks.proofs.little_endian.write8.Goals as goal

pub returns-then-room-ge8 : goal.returns-then-room-ge8
returns-then-room-ge8 c =
    let x = c.args in
    let same = c.copy_from_slice.ensures.after ∙ c.to_le_bytes-bytes.ensures ∙ word-bytes x.w c.ranges.w.fits in
    record { is = ap (put_mid x.i (x.i + 8 - x.i) x.b.now) same ∙ laid-part x.b.now (bytes8 x.w) x.i (x.i + 8 - x.i) (omega arith) (omega (arith, length8 x.w)) }

pub returns-then-room-gt0 : goal.returns-then-room-gt0
returns-then-room-gt0 c =
    let x = c.args in
    let n = length x.b.now - x.i in
    let same = c.copy_from_slice-then-room-gt0.ensures.after ∙ ap (take c.saturating_sub-room.result) (c.to_le_bytes-bytes.ensures ∙ word-bytes x.w c.ranges.w.fits) in
    let m : c.saturating_sub-room.result ≡ n = omega arith in
    let few : length (take c.saturating_sub-room.result (bytes8 x.w)) ≡ n = length-take-le c.saturating_sub-room.result (bytes8 x.w) (omega (arith, length8 x.w)) ∙ m in
    record {
      is = ap (put_mid x.i n x.b.now) same
          ∙ laid-part x.b.now (take c.saturating_sub-room.result (bytes8 x.w)) x.i n (omega arith) few
          ∙ laid-cut x.b.now x.i c.saturating_sub-room.result (bytes8 x.w) (omega arith);
    }

pub returns-else-room-gt0 : goal.returns-else-room-gt0
returns-else-room-gt0 c = dropped _ _ _ (omega arith)
