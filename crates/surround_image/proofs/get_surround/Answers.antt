-- `surround_image::get_surround` meets its contract.
use mathlib.Core.Path.{◌≡◌, sym, ap, ◌∙◌}
use Prim.Native.Nat.{ℕ, ◌+◌, ◌-◌, ◌*◌}
use native.Mathlib.Omega.{arith}
use Rattle.codec.specs.Forms.{rows}
use Rattle.layout.specs.Layout.{blank}
use Rattle.channels.specs.Channels.{resting}
use Rattle.surround_image.specs.Surround.{place, channel, count, surround}
use Rattle.surround_image.proofs.Codecs.{place-size, count-size}
use Rattle.surround_image.proofs.Rules.{count-bounds}
use Rattle.surround_image.proofs.get_surround.Goals as goal

pub overflow_sub-n : goal.overflow_sub-n
overflow_sub-n c = (count-bounds _ _ _ c.get_count-count.ensures).0

pub returns : goal.returns
unfolding surround
returns c =
    let l = c.args.w.now in
    let i = c.args.at in
    let e = c.get_count-count.ensures in
    let p : i + 1 ≡ i + count.size = ap (λ (z : ℕ). i + z) (sym count-size) in
    let q : i + 25 ≡ i + count.size + place.size * 8 = omega (arith, count-size, place-size) in
    λ k. record {
      layout = record {
        count = e k;
        places = (c.get_rows.ensures ∙ (λ z. (rows place blank 8 (e z)).dec l (p z))) k;
      };
      others = (c.get_rows-2.ensures ∙ (λ z. (rows channel resting 7 (e z - 1)).dec l (q z))) k;
    }
