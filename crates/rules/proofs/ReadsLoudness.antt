-- After every history the strands read, and the ducker is given, what BS.1770 says: the chain has heard the history's samples.
use Rattle.demands.specs.Calls.{Log, empty, ◌▹◌}
use Rattle.demands.specs.Demands.{state_of}
use Rattle.demands.specs.Dead.{Lived}
use Rattle.chain.specs.Valid.{Valid}
use Rattle.rules.specs.Rules.{Event, rules}
use Rattle.rules.specs.Loudness.{ReadsBs1770}
use Rattle.rules.proofs.Accepted.{accepted}
use Rattle.rules.proofs.Valid.{fresh_valid, next_valid}
use Rattle.rules.proofs.AgreesLoudness.{Like, like_new, like_next, key_reads_lem, bed-reads, ducker-given}

heard : (h : Log Event) → Lived rules h → Valid (state_of rules h) × Like (state_of rules h) h
unfolding state_of
heard empty v = (fresh_valid, like_new)
heard (h ▹ e) v =
    let p = heard h v.0 in
    (next_valid (state_of rules h) p.0 e v.1, like_next (state_of rules h) h e p.0 p.1 v.1)

pub reads-bs1770 : ReadsBs1770
reads-bs1770 h key bed v =
    let c = state_of rules h in
    let ok = (heard h v.0).0 in
    let l = (heard h v.0).1 in
    let a = accepted c key bed v.1 in
    record { of_key = key_reads_lem c h ok l key bed a; of_bed = bed-reads c h ok l key bed a; of_ducker = ducker-given c h ok l key bed a }
