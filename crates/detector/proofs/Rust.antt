-- The port agrees with the Rust's detector: fresh, and after each frame whose numbers are finite.
use Rattle.sequence.specs.Latest.{blanks, keep_of, push_of}
use Rattle.std.proofs.Common.{◌≡◌, ℕ, zero, suc, ◌+◌, ◌*◌, ◌<◌, ◌≤◌, max, Bool, true, false, cond, T, eqb, ltb, List, [], ◌∷◌, ◌++◌, map, length, sym, refl, ap, ◌∙◌, subst, ap₂, arith, ltb-false, ltb-true, le-ltb, eq-eqb, ne_eqb, Option}
use mathlib.Core.List.{foldl}
use lib.ListN.{length-replicate}
use lib.Ieee.{Float, nan, inf, fin, binary32, lt, of_bits}
use lib.Ieee.Scale.{finite}
use Rattle.float.specs.Choice.{min_of}
use Rattle.narrow.specs.Narrow.{narrow_of}
use Rattle.sequence.specs.History.{latest, pushed, held, count_after, places_after}
use Rattle.sequence.proofs.Deque.{latest-all, latest-size, latest-length, latest-latest, latest_append, pushes_block, shorter_block, pushes_latest}
use Rattle.sequence.proofs.Places.{held_after, held_pushes, places-length}
use Rattle.detector.specs.declared.filters.Bands.{Bands}
use Rattle.detector.specs.declared.floor.Floor.{Floor}
use Rattle.detector.specs.Filters.{begun, run_of, outputs_of, Decimated, eighths, kept_of}
use Rattle.detector.specs.Floor.{smoothed_of, window_min_of, next_of, stored_of, floor_of}
use Rattle.detector.specs.Agrees.{FloorAgrees, Agrees}
use Rattle.detector.specs.Voicing.{voicing_of}
use Rattle.detector.specs.Rust.{sampled, sample_of, RustFloor, rust_stored, rust_floor, RustDetector, rust_features, rust_heard, rust_frame, rust_fresh}
use Rattle.detector.specs.declared.filters.Filters.{Filters}
use Rattle.detector.specs.declared.Heard.{Heard}
use Rattle.detector.specs.declared.Frame.{Frame}
use Rattle.detector.specs.declared.voicing.Voicing.{Voicing}
use Rattle.detector.specs.declared.FeatureDetector.{FeatureDetector}
use Rattle.detector.specs.Steps.{db_of}
use Rattle.detector.specs.Modulation.{modulation_of}
use Rattle.detector.specs.Detector.{fresh_of, frame64, powers_of, with_features, shown_of, finish_of, frame_of}
use Rattle.float.specs.Arithmetic.{zero64, whole}
use Rattle.level.proofs.Finite.{all-at}
use Rattle.detector.proofs.Finished.{samples-all}
use Rattle.detector.proofs.Told.{numbers, told}

-- ---- the loop over the samples: the phase is 0 after each eight, and the deque has every eighth output

pub sampled-run : (n : ℕ) (s : Bands) (l xs : List Float) → length xs ≡ n * 8
    → foldl sample_of (sampled s 0 l) xs ≡ sampled (run_of s xs) 0 (foldl (pushed 300) l (map narrow_of (eighths n (outputs_of s xs))))
unfolding sample_of run_of outputs_of eighths
sampled-run zero s l [] h = refl
sampled-run zero s l (x ∷ xs) h = absurd (omega arith)
sampled-run (suc n) s l (x0 ∷ x1 ∷ x2 ∷ x3 ∷ x4 ∷ x5 ∷ x6 ∷ x7 ∷ xs) h = sampled-run n _ _ xs (omega arith)
sampled-run (suc n) s l (x0 ∷ x1 ∷ x2 ∷ x3 ∷ x4 ∷ x5 ∷ x6 ∷ []) h = absurd (omega arith)
sampled-run (suc n) s l (x0 ∷ x1 ∷ x2 ∷ x3 ∷ x4 ∷ x5 ∷ []) h = absurd (omega arith)
sampled-run (suc n) s l (x0 ∷ x1 ∷ x2 ∷ x3 ∷ x4 ∷ []) h = absurd (omega arith)
sampled-run (suc n) s l (x0 ∷ x1 ∷ x2 ∷ x3 ∷ []) h = absurd (omega arith)
sampled-run (suc n) s l (x0 ∷ x1 ∷ x2 ∷ []) h = absurd (omega arith)
sampled-run (suc n) s l (x0 ∷ x1 ∷ []) h = absurd (omega arith)
sampled-run (suc n) s l (x0 ∷ []) h = absurd (omega arith)
sampled-run (suc n) s l [] h = absurd (omega arith)

-- ---- the latest 240 suffice

pub voicing-latest : (l : List Float) → voicing_of (latest 240 l) ≡ voicing_of l
unfolding voicing_of
voicing-latest l = go (ltb (length l) 240) refl
  where
    go : (b : Bool) → ltb (length l) 240 ≡ b → voicing_of (latest 240 l) ≡ voicing_of l
    go true e =
        let h = ltb-true (length l) 240 e in
        ap voicing_of (latest-all 240 l (omega arith))
    go false e =
        let h = ltb-false (length l) 240 e in
        rw (e, le-ltb (length (latest 240 l)) 240 (omega (arith, latest-size 240 l)), latest-latest 240 240 l (omega arith))

-- the deque of 300 and the port's 240 places, with the values ys more
module _ (d : Decimated) (l ys : List Float) (h : latest 240 l ≡ held d.count d.list) (few : length l ≤ 300) (size : length d.list ≡ 240) where
  pub latest-kept : latest 240 (foldl (pushed 300) l ys) ≡ held (keep_of d ys).count (keep_of d ys).list
  unfolding keep_of
  latest-kept =
      shorter_block 240 300 l ys (omega arith) (omega arith) few
      ∙ pushes_latest 240 l ys (omega arith)
      ∙ sym (latest_append 240 l ys)
      ∙ ap (λ (m : List Float). latest 240 (m ++ ys)) h
      ∙ sym (rw size at (held_after d.count d.list ys))

  pub deque-few : length (foldl (pushed 300) l ys) ≤ 300
  deque-few = rw (pushes_block 300 l ys (omega arith) few) (latest-length 300 (l ++ ys))

-- one value more in a deque of n and in its places
one_more : (n count : ℕ) (places l : List Float) (x : Float) → l ≡ held count places → length places ≡ n → 0 < n
    → pushed n l x ≡ held (count_after n count 1) (places_after count places (x ∷ []))
one_more n count places l x e size p =
    ap (λ (m : List Float). pushed n m x) e ∙ sym (rw size at (held_pushes count places (x ∷ []) (omega (arith, size))))

-- ---- the floor: an empty window's minimum is infinite, and any finite number is less

least-infinite : (s : Float) → T (finite s) → min_of (inf false) s ≡ s
unfolding min_of lt
least-infinite nan h = absurd h
least-infinite (inf s) h = absurd h
least-infinite (fin s m e) h = refl

module _ (f : Floor) (r : RustFloor) (a : FloorAgrees f r) (e : Float) (ok : T (finite (floor_of f e).smoothed)) where
  abbrev s : Float
  s = smoothed_of f.smoothed e

  same : smoothed_of r.smoothed e ≡ s
  same = ap (λ (o : Option Float). smoothed_of o e) a.smoothed

  finite-s : T (finite s)
  finite-s = unfold floor_of in ok

  least : min_of r.window_min s ≡ window_min_of f s
  unfolding window_min_of
  least = rw a.window_min (go (eqb f.window_frames 0))
    where
      go : (b : Bool) → min_of (cond b (inf false) f.window_min) s ≡ cond b s (min_of f.window_min s)
      go true = least-infinite s finite-s
      go false = refl

  minimum : min_of r.window_min (smoothed_of r.smoothed e) ≡ window_min_of f s
  minimum = ap (min_of r.window_min) same ∙ least

  pub floor-value : (rust_floor (r) e).value ≡ (floor_of f e).floor
  unfolding rust_floor floor_of
  floor-value = ap₂ (foldl min_of) minimum a.minima

  pub floor-agrees : FloorAgrees (floor_of f e).next (rust_floor r e).next
  unfolding rust_floor floor_of stored_of
  floor-agrees = rw (same, least, a.window_frames) (go (ltb f.window_frames 24) refl)
    where
      m : Float
      m = window_min_of f s

      go : (b : Bool) → ltb f.window_frames 24 ≡ b → FloorAgrees (next_of b f s (window_min_of f s)) (rust_stored (record { smoothed = r.smoothed; window_min = r.window_min; window_frames = f.window_frames; minima = r.minima }) s (window_min_of f s))
      go true h =
          let l = ltb-true f.window_frames 24 h in
          rw (ne_eqb (f.window_frames + 1) 25 (λ (q : f.window_frames + 1 ≡ 25). omega (arith, q, l)))
          (record {
            smoothed = refl;
            window_min = rw (ne_eqb (f.window_frames + 1) 0 (λ (q : f.window_frames + 1 ≡ 0). omega (arith, q)));
            window_frames = refl;
            within = omega (arith, l);
            minima = a.minima;
            places = a.places;
          })
      go false h =
          let l = ltb-false f.window_frames 24 h in
          rw (eq-eqb (f.window_frames + 1) 25 (omega (arith, l, a.within)))
          (record {
            smoothed = refl;
            window_min = refl;
            window_frames = refl;
            within = omega arith;
            minima = unfold push_of in one_more 8 f.minima.count f.minima.list r.minima (window_min_of f s) a.minima a.places (omega arith);
            places = unfold push_of in places-length f.minima.count f.minima.list (window_min_of f s ∷ []) ∙ a.places;
          })

-- ---- a frame

module _ (d : FeatureDetector) (r : RustDetector) (a : Agrees d r) (xs : List Float) (n : length xs ≡ 480) where
  abbrev ran : Bands
  ran = run_of (begun d.filters) xs

  abbrev outputs : List Float
  outputs = outputs_of (begun d.filters) xs

  abbrev e : Float
  e = (powers_of ran).e

  abbrev deque : List Float
  deque = foldl (pushed 300) r.decimated (kept_of outputs)

  port : frame_of d xs ≡ finish_of d ran outputs
  unfolding frame_of
  port = rw (samples-all xs n)

  looped : foldl sample_of (sampled (begun r.filters) r.phase r.decimated) xs ≡ sampled ran 0 deque
  unfolding kept_of
  looped =
      ap₂ (λ (g : Filters) (p : ℕ). foldl sample_of (sampled (begun g) p r.decimated) xs) a.filters a.phase
      ∙ sampled-run 60 (begun d.filters) r.decimated xs (omega arith)

  count : whole (max (length xs) 1) ≡ frame64
  count = ap (λ (k : ℕ). whole (max k 1)) n

  rust : rust_frame r xs ≡ rust_heard r (sampled ran 0 deque) (db_of (powers_of ran).full) e (rust_floor r.floor e) (pushed 40 r.history e)
  unfolding rust_frame powers_of
  rust = rw (looped, count)

  module _ (ok : T (frame_of d xs).finite) where
    ok_floor : T (finite (floor_of d.floor e).smoothed)
    ok_floor = all-at (numbers d ran outputs) 0 (told d ran outputs (subst (λ (h : Heard). T h.finite) port ok)).numbers-finite (omega arith)

    pub frame-shown : (rust_frame r xs).frame ≡ (frame_of d xs).frame
    unfolding finish_of shown_of modulation_of push_of
    frame-shown =
        let value = floor-value d.floor r.floor a.floor e ok_floor in
        let values = one_more 40 d.history.count d.history.list r.history e a.history a.values (omega arith) in
        let window : voicing_of deque ≡ voicing_of (held (keep_of d.decimated (kept_of outputs)).count (keep_of d.decimated (kept_of outputs)).list) =
        sym (voicing-latest deque) ∙ ap voicing_of (latest-kept d.decimated r.decimated (kept_of outputs) a.decimated a.few a.places) in
        rw (port, rust)
        (ap₂ (λ (x : Float) (l : List Float). seen x l (voicing_of deque)) value values
        ∙ ap (seen (floor_of d.floor e).floor (held (push_of d.history e).count (push_of d.history e).list)) window)
      where
        seen : Float → List Float → Voicing → Frame
        seen x l v = with_features (db_of (powers_of ran).full) (rust_features e x l v)

    pub frame-agrees : Agrees (frame_of d xs).detector (rust_frame r xs).state
    frame-agrees = rw (port, rust)
        (unfold finish_of in record {
          filters = refl;
          phase = refl;
          decimated = latest-kept d.decimated r.decimated (kept_of outputs) a.decimated a.few a.places;
          few = deque-few d.decimated r.decimated (kept_of outputs) a.decimated a.few a.places;
          places = unfold keep_of in places-length d.decimated.count d.decimated.list (kept_of outputs) ∙ a.places;
          floor = floor-agrees d.floor r.floor a.floor e ok_floor;
          history = unfold modulation_of push_of in one_more 40 d.history.count d.history.list r.history e a.history a.values (omega arith);
          values = unfold modulation_of push_of in places-length d.history.count d.history.list (e ∷ []) ∙ a.values;
        })

pub fresh-agrees : Agrees fresh_of rust_fresh
fresh-agrees = record {
  filters = refl;
  phase = refl;
  decimated = unfold latest in refl;
  few = omega arith;
  places = unfold blanks in length-replicate 240 (of_bits binary32 0);
  floor = record { smoothed = refl; window_min = refl; window_frames = refl; within = omega arith; minima = refl; places = unfold blanks in length-replicate 8 zero64 };
  history = refl;
  values = unfold blanks in length-replicate 40 zero64;
}
