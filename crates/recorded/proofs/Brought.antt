-- What a read brings is put behind what was brought before.
use Rattle.std.proofs.Common.{ℕ, ◌≤◌, List, ◌++◌, None, Some, Option, length, drop, sym, ap, subst, ◌∙◌, arith, append_assoc, length-take}
use Rattle.std.proofs.Math.Seq.{take-append-le, drop-append-le}
use Rattle.std.specs.Io.KnownBytes.{Consumes}
use Rattle.recorded.specs.Reads.{ReadOn}

consumed : (a b c : Option (List ℕ)) (xs ys : List ℕ) → Consumes a b xs → Consumes b c ys → Consumes a c (xs ++ ys)
consumed None b c xs ys p q = tt
consumed (Some _) None c xs ys p q = absurd p
consumed (Some _) (Some _) None xs ys p q = absurd q
consumed (Some _) (Some _) (Some z) xs ys p q = p ∙ ap (λ l. xs ++ l) q ∙ sym (append_assoc xs ys z)

pub read_more : (a b c : Option (List ℕ)) (before after rest : List ℕ) → ReadOn a b before after → Consumes b c rest → ReadOn a c before (after ++ rest)
read_more a b c before after rest on more =
    let k = length before in
    let short : k ≤ length after = omega (arith, length-take k after, ap length on.kept) in
    record {
      kept = take-append-le k after rest short ∙ on.kept;
      brought = subst (Consumes a c) (sym (drop-append-le k after rest short)) (consumed a b c (drop k after) rest on.brought more);
    }
