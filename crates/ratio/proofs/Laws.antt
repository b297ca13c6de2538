-- The ducker's laws, together.
use Rattle.ratio.specs.Laws.{DuckerLaws}
use Rattle.ratio.proofs.Rust.{ratio_rust}
use Rattle.ratio.proofs.Bounds.{reduction_bounds}
use Rattle.ratio.proofs.Stored.{frame_stored}

pub ducker-laws : DuckerLaws
ducker-laws = record { ratio_rust = ratio_rust; reduction_bounds = reduction_bounds; frame_stored = frame_stored }
