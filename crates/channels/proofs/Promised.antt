-- What is promised of the bed's level.
use Rattle.channels.specs.Laws.{BedLaws}
use Rattle.channels.proofs.Deque.{keeps-deque}
use Rattle.channels.proofs.Bs1770.{channels-bs1770, channels-samples}
use Rattle.channels.proofs.Layouts.{layout-bs1770, layout-deque}
use Rattle.channels.proofs.Single.{one_source}
use Rattle.channels.proofs.Alone.{one_is_level, mono_is_level}
use Rattle.channels.proofs.Valid.{surround_fresh, surround_laid, surround_next, surround_rest}

pub bed-laws : BedLaws
bed-laws = record {
  reads = channels-bs1770;
  hears = channels-samples;
  keeps = keeps-deque;
  reads_layout = layout-bs1770;
  keeps_layout = layout-deque;
  one_source = one_source;
  one_is_level = one_is_level;
  mono_is_level = mono_is_level;
  surround_fresh = surround_fresh;
  surround_laid = surround_laid;
  surround_next = surround_next;
  surround_rest = surround_rest;
}
