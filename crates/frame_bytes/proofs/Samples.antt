-- The samples of some bytes, place by place; and that only their own bytes count.
use mathlib.Core.Path.{◌≡◌, refl, sym, ap, ◌∙◌}
use mathlib.Core.List.{List, ◌∷◌, ◌++◌}
use Prim.Native.Nat.{ℕ, zero, suc, ◌+◌, ◌-◌, ◌*◌, ◌≤◌, ◌<◌, min}
use native.Mathlib.Nat.{add_assoc, add-zero, zero-add, suc-add, lt_of_not-le}
use native.Mathlib.Decide.{dec_le}
use native.Mathlib.Omega.{arith}
use lib.Ieee.{Float, nan, binary32, of_bits}
use lib.ListN.{length, take, drop, get_or, set, length-drop, take-append-drop, drop_of_length-le, get_or-append}
use lib.Seq.{paste, take_all, take_at, drop_at, drop-drop, length-take-le, get_or-drop}
use borrow.Rule.Slice.PartMut.{put_mid}
use Rattle.std.proofs.lemmas.Slice.{put_mid-paste}
use Rattle.sequence.specs.History.{laid}
use Rattle.sequence.proofs.Fill.{fill-turn, fill_end}
use Rattle.blocks.specs.Lists.{table}
use Rattle.blocks.specs.Words.{word4}
use Rattle.blocks.proofs.Lists.{length-table, get_d_table, table_ext}
use Rattle.frame_bytes.specs.Bytes.{bed_samples, frame_bytes, sample_at, samples_at, strand_at, bed_at}

pub samples-length : (b : List ℕ) (i m : ℕ) → length (samples_at b i m) ≡ m
unfolding samples_at
samples-length b i m = length-table _ m

pub sample-at : (b : List ℕ) (i m k : ℕ) → k < m → get_or (samples_at b i m) k nan ≡ sample_at b (i + 4 * k)
unfolding samples_at
sample-at b i m k h = get_d_table _ m k nan h

-- ---- samples are where their bytes are

word_append : (b d : List ℕ) (i : ℕ) → i + 4 ≤ length b → word4 (b ++ d) i ≡ word4 b i
word_append b d i h = λ j. byte i (omega arith) j + byte (i + 1) (omega arith) j * 256 + (byte (i + 2) (omega arith) j + byte (i + 2 + 1) (omega arith) j * 256) * 65536
  where
    byte : (k : ℕ) → k < length b → get_or (b ++ d) k 0 ≡ get_or b k 0
    byte k g = get_or-append b d 0 k g

word-drop : (n : ℕ) (b : List ℕ) (i : ℕ) → word4 (drop n b) i ≡ word4 b (n + i)
word-drop n b i = simp (get_or-drop, add_assoc)

pub samples_append : (b d : List ℕ) (i m : ℕ) → i + 4 * m ≤ length b → samples_at (b ++ d) i m ≡ samples_at b i m
unfolding samples_at
samples_append b d i m h = table_ext (λ k. sample_at (b ++ d) (i + 4 * k)) (λ k. sample_at b (i + 4 * k)) m (λ k g. ap (of_bits binary32) (word_append b d (i + 4 * k) (omega arith)))

pub samples-drop : (n : ℕ) (b : List ℕ) (i m : ℕ) → samples_at (drop n b) i m ≡ samples_at b (n + i) m
unfolding samples_at
samples-drop n b i m = table_ext (λ k. sample_at (drop n b) (i + 4 * k)) (λ k. sample_at b (n + i + 4 * k)) m (λ k g. ap (of_bits binary32) (word-drop n b (i + 4 * k) ∙ ap (word4 b) (sym (add_assoc n i (4 * k)))))

-- those of a part of the bytes that has them all, and those of the bytes from some place on
pub samples_part : (b : List ℕ) (i k m : ℕ) → i + k ≤ length b → 4 * m ≤ k → samples_at (take k (drop i b)) 0 m ≡ samples_at b i m
samples_part b i k m h g =
    let d = drop i b in
    let there : length (take k d) ≡ k = length-take-le k d (omega (arith, length-drop i b)) in
    sym (samples_append (take k d) (drop k d) 0 m (omega arith))
    ∙ ap (λ (l : List ℕ). samples_at l 0 m) (take-append-drop k d)
    ∙ samples-drop i b 0 m
    ∙ ap (λ (j : ℕ). samples_at b j m) (add-zero i)

drop-least : (b : List ℕ) (i s : ℕ) → s ≡ min i (length b) → drop s b ≡ drop i b
drop-least b i s f = elim (dec_le i (length b)) [
  | yes h ↦ let same : s ≡ i = omega arith in ap (λ (k : ℕ). drop k b) same
  | no h ↦
      let l : length b < i = lt_of_not-le h in
      let p : length b ≤ s = omega arith in
      let q : length b ≤ i = omega arith in
      drop_of_length-le b p ∙ sym (drop_of_length-le b q)
]

pub samples_tail : (b : List ℕ) (i s m : ℕ) → s ≡ min i (length b) → samples_at (take (length b - s) (drop s b)) 0 m ≡ samples_at b i m
samples_tail b i s m f =
    ap (λ (l : List ℕ). samples_at l 0 m) (take_all (length b - s) (drop s b) (omega (arith, length-drop s b)) ∙ drop-least b i s f)
    ∙ samples-drop i b 0 m
    ∙ ap (λ (j : ℕ). samples_at b j m) (add-zero i)

-- some samples, and others right behind them
table-add : (f : ℕ → Float) (m n : ℕ) → table f (m + n) ≡ table f m ++ table (λ k. f (m + k)) n
unfolding table
table-add f zero n = ap (table f) (zero-add n) ∙ table_ext f (λ k. f (0 + k)) n (λ k h. ap f (sym (zero-add k)))
table-add f (suc m) n =
    ap (table f) (suc-add m n)
    ∙ ap (λ (l : List Float). f 0 ∷ l) (table-add (λ k. f (suc k)) m n ∙ ap (λ (l : List Float). table (λ k. f (suc k)) m ++ l) (table_ext (λ k. f (suc (m + k))) (λ k. f (suc m + k)) n (λ k h. ap f (sym (suc-add m k)))))

pub samples-add : (b : List ℕ) (i m n : ℕ) → samples_at b i (m + n) ≡ samples_at b i m ++ samples_at b (i + 4 * m) n
unfolding samples_at
samples-add b i m n =
    table-add (λ k. sample_at b (i + 4 * k)) m n
    ∙ ap (λ (l : List Float). table (λ k. sample_at b (i + 4 * k)) m ++ l)
    (table_ext (λ k. sample_at b (i + 4 * (m + k))) (λ k. sample_at b (i + 4 * m + 4 * k)) n (λ k h. let e : i + 4 * (m + k) ≡ i + 4 * m + 4 * k = omega arith in ap (sample_at b) e))

-- ---- samples at the start of some places

-- none, and a strand more behind those that are there
pub none_yet : (b : List ℕ) (i : ℕ) (before : List Float) → before ≡ laid (samples_at b i 0) before
unfolding samples_at table
none_yet b i before = refl

pub strand_next : (b : List ℕ) (i c : ℕ) (before x y : List Float) → c * 480 + 480 ≤ length before
    → x ≡ laid (samples_at b i (c * 480)) before → y ≡ strand_at b (i + c * 1920)
    → put_mid (c * 480) (c * 480 + 480 - c * 480) x y ≡ laid (samples_at b i ((c + 1) * 480)) before
strand_next b i c before x y h e f =
    let m = c * 480 in
    let s = samples_at b i m in
    let t = strand_at b (i + 4 * m) in
    let at : i + c * 1920 ≡ i + 4 * m = omega arith in
    let next : m + 480 ≡ (c + 1) * 480 = omega arith in
    let size : length s ≡ m = samples-length b i m in
    let rest : drop (m + 480) (s ++ drop (length s) before) ≡ drop (m + 480) before =
    sym (drop-drop 480 m (s ++ drop (length s) before))
    ∙ ap (drop 480) (drop_at s (drop (length s) before) m size)
    ∙ drop-drop 480 (length s) before
    ∙ ap (λ (k : ℕ). drop (k + 480) before) size in
    put_mid-paste m (m + 480 - m) x y (strand_at b (i + c * 1920)) 480 f (omega arith) (omega (arith, samples-length b (i + c * 1920) 480))
    ∙ ap (λ (k : ℕ). paste x m (strand_at b k) 480) at
    ∙ ap (λ (z : List Float). paste z m t 480) e
    ∙ (λ j. take_at s (drop (length s) before) m size j ++ take_all 480 t (omega (arith, samples-length b (i + 4 * m) 480)) j ++ rest j)
    ∙ (λ j. sym (samples-add b i m 480) j ++ drop (sym (samples-length b i (m + 480)) j) before)
    ∙ ap (λ (k : ℕ). laid (samples_at b i k) before) next

-- ---- samples in all places

-- one more of n
pub sample_read : (b : List ℕ) (n : ℕ) (x : List Float) (k : ℕ) (v : Float) → length x ≡ n → k < n
    → take k x ≡ take k (samples_at b 0 n) → v ≡ sample_at b (4 * k) → take (k + 1) (set x k v) ≡ take (k + 1) (samples_at b 0 n)
sample_read b n x k v h g e f =
    let next : v ≡ get_or (samples_at b 0 n) k nan = f ∙ ap (sample_at b) (sym (zero-add (4 * k))) ∙ sym (sample-at b 0 n k g) in
    fill-turn nan x (samples_at b 0 n) v k e next (omega arith) (omega (arith, samples-length b 0 n))

pub samples_read : (b : List ℕ) (n : ℕ) (x : List Float) (k : ℕ) → length x ≡ n → n ≤ k → take k x ≡ take k (samples_at b 0 n) → x ≡ samples_at b 0 n
samples_read b n x k h g e = fill_end x (samples_at b 0 n) k e (omega arith) (omega (arith, samples-length b 0 n))

pub bed-first : (m : ℕ) (b : List ℕ) (k : ℕ) (before x : List Float) → x ≡ laid (bed_at m b k) before → take (bed_samples m) x ≡ bed_at m b k
bed-first m b k before x e =
    let bed = bed_at m b k in
    ap (take (bed_samples m)) e ∙ take_at bed (drop (length bed) before) (bed_samples m) (samples-length b (k * frame_bytes m + 1920) (bed_samples m))
