-- `Bands::alone` meets its contract: what is left out changes nothing.
use Rattle.std.proofs.Common.{◌≡◌, ◌≤◌, T, List, length, take, replicate, sym, ap, ◌∙◌, subst, append-nil, arith, drop_of_length-le, take_all, rules}
use lib.Ieee.{Float}
use Rattle.sequence.specs.History.{laid}
use Rattle.detector.specs.declared.filters.Bands.{Bands}
use Rattle.detector.specs.Filters.{run_of, outputs_of}
use Rattle.detector.proofs.Outputs.{outputs-length}
use Rattle.detector.proofs.filters.Bands.alone.Goals as goal

-- as many outputs as places
all_laid : (s : Bands) (xs out : List Float) → length xs ≡ 480 → length out ≡ 480 → laid (outputs_of s (take (length out) xs)) out ≡ outputs_of s xs
all_laid s xs out h k =
    let e : length out ≤ length (outputs_of s xs) = omega (arith, outputs-length s xs) in
    ap (λ (l : List Float). laid (outputs_of s l) out) (take_all (length out) xs (omega arith))
    ∙ rw (drop_of_length-le out e) (append-nil (outputs_of s xs))

pub returns-then-quiet : goal.returns-then-quiet
returns-then-quiet c =
    let a = c.args in
    let n : length a.xs.now ≡ 480 = search rules in
    let m : length a.out.now ≡ 480 = search rules in
    let q = c.quiet.ensures.1 (subst T (sym c.if-quiet.true) tt) in
    let e : length a.out.now ≡ length a.xs.now = omega (arith, n, m) in
    (c.step-first.ensures ∙ sym (q.runs (omega (arith, n))), c.fill.ensures.after (λ y e. e) ∙ (λ i. replicate (e i) (c.step-first.ensures i).pitch) ∙ sym q.outputs)

pub returns : goal.returns
returns c =
    let a = c.args in
    let n : length a.xs.now ≡ 480 = search rules in
    let m : length a.out.now ≡ 480 = search rules in
    let t = take_all (length a.out.now) a.xs.now (omega (arith, n, m)) in
    (c.run.ensures.0 ∙ ap (run_of a.self) t, c.run.ensures.1 ∙ all_laid a.self a.xs.now a.out.now n m)
