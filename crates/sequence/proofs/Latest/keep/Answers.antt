-- `Latest::keep` meets its contract, by `stored`.
use Rattle.std.proofs.Common.{◌≡◌, ℕ, List, length, ap₂, arith, rules}
use Rattle.sequence.specs.Latest.{keep_of}
use Rattle.sequence.proofs.Room.{count-is, stored}
use Rattle.sequence.proofs.Latest.keep.Goals as goal

pub returns : goal.returns
unfolding keep_of
returns g c =
    let a = c.args in
    let n = g.row.N in
    let l : length a.self.list ≡ n = search rules in
    let h = c.min-held.result in
    let s = c.saturating_sub.result in
    let k = c.saturating_sub-gone.result in
    ap₂ (λ (m : ℕ) (v : List g.row.T.Denot). record { count = m; list = v })
    (count-is a.self.count n a.self.list a.xs.now l h s k (omega arith) (omega arith) (omega arith))
    (stored a.self.count n a.self.list a.xs.now l h s k (omega arith) (omega arith) (omega arith) _ _ _ c.copy_within.ensures.after c.copy_from_slice.ensures.after (omega arith))
