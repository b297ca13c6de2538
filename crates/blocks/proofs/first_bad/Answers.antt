-- `blocks::first_bad` meets its contract: from each block on, the first bad one is that of the whole.
use Rattle.std.proofs.Common.{◌≡◌, ◌+◌, ◌*◌, refl, sym, ◌∙◌, arith}
use Rattle.blocks.specs.Words.{block_words, word_at, holds, blocks_in, first_bad}
use Rattle.blocks.proofs.Bytes.{word-chunk}
use Rattle.blocks.proofs.Checks.{turn-start, turn_next, turn_bad, from_start, past, here, at-end, bad-at, bad-nowhere}
use Rattle.std.proofs.lemmas.Grind.{common_steps}
use Rattle.blocks.proofs.first_bad.Goals as goal

pub blocks-2-init : goal.blocks-2-init
unfolding first_bad
blocks-2-init c = (refl, from_start _ _)

pub loop-j-init : goal.loop-j-init
loop-j-init c = (c.blocks-2.invariant.0, turn-start _ _)

pub loop-j-preserved : goal.loop-j-preserved
loop-j-preserved c =
    let b = c.args.b.now in
    let w = c.from_le_bytes-w.result in
    let i = block_words * c.blocks-2.block + c.loop-j.j in
    let e : w ≡ word_at b i = word-chunk b c.as_chunks.result.0.now i w c.as_chunks.ensures.front (omega arith) c.from_le_bytes-w.ensures in
    (c.loop-j.invariant.0, turn_next _ _ w c.loop-j.invariant.1 e _ c.loop-j-test.true (λ h. grind (arith, common_steps)) (λ h. grind (arith, common_steps)))

pub blocks-2-preserved : goal.blocks-2-preserved
blocks-2-preserved c =
    (c.loop-j.invariant.0, sym (past _ _ _ (omega arith) (c.loop-j.invariant.1.held (omega arith))) ∙ c.blocks-2.invariant.1)

pub returns-after-blocks-2 : goal.returns-after-blocks-2
returns-after-blocks-2 c =
    let at = c.blocks-2 in
    let b = c.args.b.now in
    let n = blocks_in b in
    let e : n ≡ at.block = omega arith in
    at.invariant.0 ∙ bad-nowhere b (e ∙ sym (at-end (holds b) at.block n (omega arith)) ∙ at.invariant.1)

pub returns-then-check-w : goal.returns-then-check-w
returns-then-check-w c =
    let b = c.args.b.now in
    let w = c.from_le_bytes-w.result in
    let i = block_words * c.blocks-2.block + c.loop-j.j in
    let e : w ≡ word_at b i = word-chunk b c.as_chunks.result.0.now i w c.as_chunks.ensures.front (omega arith) c.from_le_bytes-w.ensures in
    bad-at b c.blocks-2.block (omega arith)
    (sym (here _ _ _ (omega arith) (turn_bad _ _ w c.loop-j.invariant.1 e (omega arith) c.loop-j-test.true c.if-check-w.true)) ∙ c.blocks-2.invariant.1)
