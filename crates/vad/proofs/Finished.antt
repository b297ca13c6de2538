-- The steps of a frame put together.
use Rattle.std.proofs.Common.{◌≡◌, Bool, ◌&&◌}
use lib.Ieee.{Float}
use Rattle.float.specs.AllFinite.{all_finite}
use Rattle.level.specs.declared.Framed as metered
use Rattle.detector.specs.declared.Heard.{Heard}
use Rattle.vad.specs.declared.VadSettings.{VadSettings}
use Rattle.vad.specs.declared.Decision.{Decision}
use Rattle.vad.specs.declared.VadState.{VadState}
use Rattle.vad.specs.Decision.{heard_of, decide_of, full_of}
use Rattle.vad.specs.State.{state_of, numbers_of}
use Rattle.vad.specs.Strand.{gated_of, finish_of}

pub finished : (d : Decision) (l : metered.Framed) (h : Heard) (s : VadSettings) (p : Float) (next : Decision) (shown : VadState) (m q : Bool)
    → p ≡ heard_of (gated_of l s) h.frame.probability
    → next ≡ decide_of d p h.frame.level_dbfs s
    → shown ≡ state_of next (gated_of l s) h.frame l.reading
    → m ≡ all_finite (numbers_of next shown)
    → q ≡ full_of d next
    → record { strand = record { level = l.level; detector = h.detector; decision = next }; reading = l.reading; state = shown; finite = (l.finite && h.finite) && m; full = q }
    ≡ finish_of d l h s
unfolding finish_of
finished d l h s p next shown m q ep en es em eq = rw (eq, em, es, en, ep)
