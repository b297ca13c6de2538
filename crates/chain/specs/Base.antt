-- A chain whose bed is one channel at 0, 0, as it was before beds had layouts: what it stores, and its frames, settings calls and resets. The
-- specification's edition 1 of the image holds such a chain.
use Rattle.std.specs.Prelude.{ℕ, Bool, cond, ◌&&◌, ◌||◌, List, eqb, Float}
use Rattle.vad.specs.declared.Strand.{Strand}
use Rattle.vad.specs.declared.Framed as heard
use Rattle.vad.specs.Strand as strand
use Rattle.comis.specs.declared.loop_bank.Loops.{Loops}
use Rattle.comis.specs.LoopBank.{zero_loops}
use Rattle.ratio.specs.declared.Framed as duck
use Rattle.ratio.specs.Frame as ratio
use Rattle.settings.specs.declared.Settings.{Settings}
use Rattle.settings.specs.Settings.{stored_of, fresh_settings}
use Rattle.channels.specs.Surround.{mono_surround}
use Rattle.chain.specs.declared.Chain.{Chain}
use Rattle.chain.specs.declared.Answer.{Answer}
use Rattle.chain.specs.Chain.{inputs_of}

pub record Base : Type 0 where
  pub settings : Settings
  pub key : Strand
  pub bed : Strand
  pub loops : Loops

-- with its layout
abbrev pub widened : Base → Chain
widened b = record { settings = b.settings; key = b.key; bed = b.bed; loops = b.loops; surround = mono_surround }

-- all of a chain but the layout and channels 2 to 8
abbrev pub base_of : Chain → Base
base_of c = record { settings = c.settings; key = c.key; bed = c.bed; loops = c.loops }

abbrev pub fresh_base : Base
fresh_base = record { settings = fresh_settings; key = strand.fresh_of; bed = strand.fresh_of; loops = zero_loops }

-- ---- a frame

pub record BaseWorked : Type 0 where
  pub key : heard.Framed
  pub bed : heard.Framed
  pub duck : duck.Framed

abbrev pub base_worked_of : Base → heard.Framed → heard.Framed → BaseWorked
base_worked_of b k d = record { key = k; bed = d; duck = ratio.frame_of b.loops b.settings.duck (inputs_of k d) }

unfoldable pub base_work : Base → List Float → List Float → BaseWorked
base_work b key bed = base_worked_of b (strand.frame_of b.key key b.settings.key) (strand.frame_of b.bed bed b.settings.bed)

abbrev pub base_finite : BaseWorked → Bool
base_finite w = (w.key.finite && w.bed.finite) && w.duck.finite

abbrev pub base_full : BaseWorked → Bool
base_full w = w.key.full || w.bed.full

abbrev pub base_kept : Base → BaseWorked → Base
base_kept b w = record { settings = b.settings; key = w.key.strand; bed = w.bed.strand; loops = w.duck.loops }

abbrev pub base_answer : BaseWorked → Answer
base_answer w = record { reduction = w.duck.reduction; status = w.duck.status; key = w.key.state; bed = w.bed.state }

-- ---- a settings call and a reset that pass

abbrev pub base_set : Base → Settings → Base
base_set b s = record { settings = stored_of s; key = b.key; bed = b.bed; loops = b.loops }

abbrev pub base_reset : Base → ℕ → Base
base_reset b n =
    cond (eqb n 0)
    (record { settings = b.settings; key = strand.reset_of b.key; bed = b.bed; loops = b.loops })
    (record { settings = b.settings; key = b.key; bed = strand.reset_of b.bed; loops = b.loops })
