-- `Chain::work` meets its contract: the strands, then the ducker.
use Prim.Native.Nat.{◌*◌, ◌≤◌}
use native.Mathlib.Omega.{arith}
use mathlib.Core.Path.{◌≡◌, ap, ◌∙◌}
use lib.ListN.{length}
use Rattle.level.specs.Bs1770.{frame_length}
use Rattle.channels.specs.Surround.{mono_surround}
use Rattle.ratio.specs.Frame as ratio
use Rattle.chain.specs.Chain.{channel_count, worked_of, work_of}
use Rattle.chain.specs.declared.StrandFrame.{StrandFrame}
use Rattle.chain.specs.StrandFrames.{finished_of}
use Rattle.chain.proofs.Apart.{first-heard, strand-apart, key_apart, key-weighed, bed-weighed, key-bands, bed-bands}
use Rattle.chain.proofs.Chain.work.Goals as goal

pub returns : goal.returns
unfolding work_of
returns c =
    let a = c.args in
    let w = c.requires in
    let key = a.key.now in
    let bed = a.bed.now in
    let n = channel_count a.self in
    let some : 1 ≤ n = omega arith in
    let one : length key ≡ 1 * frame_length = omega (arith, w.key_length) in
    let f = c.filtered-f in
    let key-filters = key-weighed a.self key bed f.result f.ensures.0 (first-heard 1 key (omega arith) one w.key_samples) in
    let bed-filters = bed-weighed a.self key bed f.result f.ensures.0 (first-heard n bed some w.bed_length w.bed_samples) in
    let k = c.finished-key_frame.ensures key-filters
    ∙ (λ i. finished_of a.self.key (c.new.ensures i) (key-bands a.self key bed f.result f.ensures.0 i) (f.ensures.1 i) key a.self.settings.key)
    ∙ strand-apart 1 key (omega arith) one w.key_samples a.self.key mono_surround a.self.settings.key in
    let b = c.finished-bed_frame.ensures bed-filters
    ∙ (λ i. finished_of a.self.bed a.self.surround (bed-bands a.self key bed f.result f.ensures.0 i) (f.ensures.2 i) bed a.self.settings.bed)
    ∙ strand-apart n bed some w.bed_length w.bed_samples a.self.bed a.self.surround a.self.settings.bed in
    let key-framed = ap (λ (r : StrandFrame). r.framed) k ∙ key_apart key w.key_length a.self.key a.self.settings.key in
    let duck = c.frame-duck.ensures ∙ ap (ratio.frame_of a.self.loops a.self.settings.duck) c.inputs.ensures in
    (λ i. record { key = c.finished-key_frame.result.framed; bed = c.finished-bed_frame.result.framed; surround = c.finished-bed_frame.result.surround; duck = duck i })
    ∙ (λ i. worked_of a.self (key-framed i) (b i).framed (b i).surround)
