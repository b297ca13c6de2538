-- Demands 1 and 2 hold of the chain over whole lists of frames, settings calls and resets.
use Rattle.demands.specs.Demands.{EventDemands}
use Rattle.demands.proofs.Demands.{event-demands}
use Rattle.rules.specs.Rules.{rules, port}
use Rattle.rules.specs.Rust.{rust}
use Rattle.rules.specs.RustState.{stored}
use Rattle.rules.specs.Loudness.{loudness}
use Rattle.rules.proofs.Laws.{laws}
use Rattle.rules.proofs.AgreesRust.{rust-agrees}
use Rattle.rules.proofs.RustState.{rust_stores}
use Rattle.rules.proofs.AgreesLoudness.{loudness-agrees}

pub promised : EventDemands rules port rust loudness stored
promised = event-demands rules port laws rust loudness rust-agrees loudness-agrees stored rust_stores
