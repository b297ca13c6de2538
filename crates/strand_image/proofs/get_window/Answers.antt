-- `strand_image::get_window` meets its contract: an empty window has no minimum.
use mathlib.Core.Path.{sym, ◌∙◌}
use lib.Ieee.{of_bits}
use Rattle.strand_image.proofs.Rules.{window_bad, window_empty, window-full}
use Rattle.strand_image.proofs.get_window.Goals as goal

pub returns-then-to_bits-ne0 : goal.returns-then-to_bits-ne0
unfolding of_bits
returns-then-to_bits-ne0 c = window_bad _ _ _ _ c.get-least.ensures c.get_capped-frames.ensures c.if-frames-eq0.true (λ e. c.if-to_bits-ne0.true (c.to_bits.ensures ∙ e))

pub returns-else-to_bits-ne0 : goal.returns-else-to_bits-ne0
returns-else-to_bits-ne0 c = window_empty _ _ _ _ c.get-least.ensures c.get_capped-frames.ensures (sym c.to_bits.ensures ∙ c.if-to_bits-ne0.false)

pub returns-else-frames-eq0 : goal.returns-else-frames-eq0
returns-else-frames-eq0 c = window-full _ _ _ _ c.get-least.ensures c.get_capped-frames.ensures c.if-frames-eq0.false
