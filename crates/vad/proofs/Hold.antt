-- At most 6,000 frames of hold for at most 60,000 ms.
use Rattle.std.proofs.Common.{◌≡◌, ℕ, ◌+◌, ◌*◌, ◌^◌, ◌<◌, ◌≤◌, Bool, true, false, ◌&&◌, ◌||◌, T, eqb, ltb, pos, sym, refl, true≢false, le_trans, le_of_eq, le_of_suc-le-suc, le_of_lt, div-lt_iff_lt-mul, mul-one, arith, le→leb, eqb→eq, ltb→lt}
use lib.Ieee.{Float, nan, inf, fin, binary64, up, down, round, le, div, of_bits, of_int, to_unsigned, in_float}
use lib.Ieee.Fits.{down_pos}
use lib.Ieee.Order.{round_mono}
use lib.Ieee.Back.{unsigned_back}
use Rattle.float.specs.Whole.{nearest_up, round_of}
use Rattle.float.proofs.Signs.{Signed, round-signed}
use Rattle.vad.specs.Hold.{hold_frames}

abbrev sixty_seconds : Float
sixty_seconds = of_bits binary64 0x40ed4c0000000000

-- ---- the order of two values without a minus sign
under : (a b : ℕ) → T (ltb a b || (eqb a b && true)) → a ≤ b
under a b = go (ltb a b) (eqb a b) (ltb→lt a b) (eqb→eq a b)
  where
    go : (x y : Bool) → (T x → a < b) → (T y → a ≡ b) → T (x || (y && true)) → a ≤ b
    go true y p q t = le_of_lt (p tt)
    go false true p q t = le_of_eq (q tt)
    go false false p q t = absurd t

-- ---- the pieces
abbrev to_frames : Float → ℕ
to_frames q = to_unsigned 32 (round_of binary64 q)

small-up : (a c : ℕ) → 0 < c → a ≤ 6000 * c → nearest_up a c ≤ 6000
small-up a c p h = let d : 0 < 2 * c = omega arith in let b : 2 * a + c < 6001 * (2 * c) = omega arith in le_of_suc-le-suc ((div-lt_iff_lt-mul d).1 b)

whole_back : (n : ℕ) → n ≤ 6000 → to_unsigned 32 (round binary64 false n 1) ≡ n
unfolding of_int in_float
whole_back n h = (unsigned_back binary64 32 n (le→leb n (2 ^ 53) (omega arith)) (omega arith)).1

-- of a value with a minus sign: no frames
minus-zero : (q : Float) → Signed true q → to_unsigned 32 q ≡ 0
unfolding to_unsigned
minus-zero nan s = refl
minus-zero (inf true) s = refl
minus-zero (inf false) s = absurd (true≢false (sym s))
minus-zero (fin true m e) s = refl
minus-zero (fin false m e) s = absurd (true≢false (sym s))

minus-none : (q : Float) → Signed true q → to_frames q ≡ 0
unfolding round_of
minus-none nan s = minus-zero nan tt
minus-none (inf t) s = minus-zero (inf t) s
minus-none (fin true m e) s = minus-zero (round binary64 true (nearest_up (m * up e) (down e)) 1) (round-signed binary64 true (nearest_up (m * up e) (down e)) 1)
minus-none (fin false m e) s = absurd (true≢false (sym s))

-- of a quotient of at most 6,000
plus-few : (q : Float) → Signed false q → T (le q (fin false 375 (pos 4))) → to_frames q ≤ 6000
unfolding round_of le
plus-few nan s h = absurd h
plus-few (inf true) s h = absurd (true≢false s)
plus-few (inf false) s h = absurd h
plus-few (fin true m e) s h = absurd (true≢false s)
plus-few (fin false m e) s h =
    let n : nearest_up (m * up e) (down e) ≤ 6000 = small-up (m * up e) (down e) (down_pos e) (rw mul-one at (under (m * up e * 1) (6000 * down e) h)) in
    le_trans (le_of_eq (whole_back (nearest_up (m * up e) (down e)) n)) n

six_thousand : round binary64 false 6000 1 ≡ fin false 375 (pos 4)
unfolding round
six_thousand = refl

-- ---- the law: it needs the upper end only
pub hold-few : (ms : Float) → T (le ms sixty_seconds) → hold_frames ms ≤ 6000
unfolding hold_frames of_bits div le
hold-few nan h = absurd h
hold-few (inf true) h = le_trans (le_of_eq (minus-none (inf true) refl)) (omega arith)
hold-few (inf false) h = absurd h
hold-few (fin true m e) h = le_trans (le_of_eq (minus-none (round binary64 true (m * up e * 1) (10 * down e)) (round-signed binary64 true (m * up e * 1) (10 * down e)))) (omega arith)
hold-few (fin false m e) h =
    let p = down_pos e in
    let l = under (m * up e * 1) (60000 * down e) h in
    plus-few (round binary64 false (m * up e * 1) (10 * down e)) (round-signed binary64 false (m * up e * 1) (10 * down e))
    (rw six_thousand at (round_mono binary64 (m * up e * 1) (10 * down e) 6000 1 (omega arith) (omega arith) (omega arith)))
