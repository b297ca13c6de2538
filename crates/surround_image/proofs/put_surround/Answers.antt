-- `surround_image::put_surround` meets its contract: one run of words after another.
use mathlib.Core.Path.{◌≡◌, ◌∙◌}
use mathlib.Core.List.{List}
use Prim.Native.Nat.{ℕ}
use native.Mathlib.Omega.{arith}
use lib.ListN.{length}
use borrow.Author.Rules.{rules}
use Rattle.codec.specs.Run.{Run}
use Rattle.codec.proofs.Runs.{then, single}
use Rattle.surround_image.specs.Surround.{count, surround}
use Rattle.surround_image.proofs.put_surround.Goals as goal

-- a run of as many words, by another number
sized : {l l' xs : List ℕ} {i n : ℕ} (m : ℕ) → n ≡ m → Run l i n xs l' → Run l i m xs l'
sized m e r = record { over = r.over; size = r.size ∙ e }

pub returns : goal.returns
unfolding surround count
returns c =
    let places : length c.args.s.layout.places ≡ 8 = search rules in
    let others : length c.args.s.others ≡ 7 = search rules in
    then (single c.put.ensures) (omega arith)
    (then (sized 24 (omega arith) c.put_rows.ensures) (omega arith)
    (sized 63 (omega arith) c.put_rows-2.ensures))
