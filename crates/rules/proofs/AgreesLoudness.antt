-- BS.1770's loudness keeps step with the rules: each strand's level is the one after the frames that it heard since its last reset.
use Prim.Native.Nat.{ℕ, ◌*◌}
use mathlib.Core.Path.{◌≡◌, refl, sym, ap, ◌∙◌, subst}
use mathlib.Core.Bool.{Bool, true, false, cond}
use mathlib.Core.List.{List, [], ◌∷◌, ◌++◌, map, foldl, append-nil, append_assoc}
use lib.Dec.{T, eqb}
use lib.ListN.{length}
use lib.Ieee.{Float, lt}
use Rattle.demands.specs.Calls.{Log, empty, ◌▹◌}
use Rattle.demands.specs.Laws.{Agrees}
use Rattle.level.specs.declared.Level.{Level}
use Rattle.level.specs.declared.Reading.{Reading}
use Rattle.level.specs.Bs1770.{frame_length}
use Rattle.float.specs.AllFinite.{all_finite}
use Rattle.level.specs.Weighing.{clean_of}
use Rattle.level.specs.Level as level
use Rattle.level.specs.Heard as one-channel
use Rattle.level.specs.Heard.{Whole, heard, level_after}
use Rattle.level.proofs.Bs1770.{level-bs1770, clean-finite}
use Rattle.layout.specs.declared.Layout.{Layout}
use Rattle.layout.specs.Layout as layouts
use Rattle.layout.specs.Layout.{mono_of}
use Rattle.layout.specs.Weights.{used_weights}
use Rattle.channels.specs.declared.Surround.{Surround}
use Rattle.channels.specs.Channels.{parts}
use Rattle.channels.specs.Surround.{resting_of, bed_frame_of}
use Rattle.channels.specs.Bs1770 as loudness-of
use Rattle.channels.specs.Heard as channels
use Rattle.channels.specs.Heard.{each, sources, channels_of, channels_in, Bed, bed_next, bed_after}
use Rattle.channels.proofs.Promised.{bed-laws}
use Rattle.vad.specs.declared.VadSettings.{VadSettings}
use Rattle.vad.specs.declared.Strand.{Strand}
use Rattle.vad.specs.State.{tenths_of, state_of}
use Rattle.vad.specs.Strand as strand
use Rattle.float.specs.declared.Lufs.{Lufs}
use Rattle.comis.specs.declared.Shown.TheVariants as is
use Rattle.comis.specs.declared.loop_bank.Loops.{Loops}
use Rattle.float.specs.Silence.{silence_lufs}
use Rattle.ratio.specs.declared.Duck.{Duck}
use Rattle.ratio.specs.declared.Inputs.{Inputs}
use Rattle.ratio.specs.Status as ratio
use Rattle.ratio.specs.Frame as frames
use Rattle.chain.specs.declared.Chain.{Chain}
use Rattle.settings.specs.Settings.{stored_of, stored_duck}
use Rattle.chain.specs.Chain.{fresh_of, inputs_of, bed_level_of, bed_strand_of, work_of, kept_of, answer_of, key_anew, bed_anew}
use Rattle.chain.specs.Valid.{Valid}
use Rattle.rules.specs.Rules.{Event, frame, settings, reset, layout, shown, refuses, next, answers, rules}
use Rattle.rules.specs.Loudness.{key_heard, layout_in, nothing, bed_heard, enabled_in, key_reads, bed_reads, loudness_of, shown_of, reading_of, loud, says, part, loudness, Given, given, given_of}
use Rattle.rules.proofs.Accepted.{Accepted, accepted}
use Rattle.rules.proofs.Valid.{bed_samples}
use Rattle.rules.proofs.Beds as beds

-- ---- lists of frames, with one frame more

abbrev and_one : List (List Float) → List Float → List (List Float)
and_one fs f = fs ++ f ∷ []

whole-more : (fs : List (List Float)) (f : List Float) → Whole fs → length f ≡ frame_length → Whole (and_one fs f)
whole-more [] f w n = (n, tt)
whole-more (g ∷ fs) f w n = (w.0, whole-more fs f w.1 n)

heard-more : (fs : List (List Float)) (f : List Float) → heard (and_one fs f) ≡ heard fs ++ map clean_of f
unfolding heard
heard-more [] f = append-nil (map clean_of f)
heard-more (g ∷ fs) f = ap (λ (xs : List Float). map clean_of g ++ xs) (heard-more fs f) ∙ sym (append_assoc (map clean_of g) (heard fs) (map clean_of f))

after_more : (fs : List (List Float)) (f : List Float) → level_after (and_one fs f) ≡ (level.frame_of (level_after fs) f).level
unfolding level_after
after_more fs f = go fs level.fresh_of
  where
    go : (fs : List (List Float)) (l : Level) → foldl (λ l f. (level.frame_of l f).level) l (and_one fs f) ≡ (level.frame_of (foldl (λ l f. (level.frame_of l f).level) l fs) f).level
    go [] l = refl
    go (g ∷ fs) l = go fs (level.frame_of l g).level

-- ---- a level that heard the samples xs

pub record Heard (l : Level) (xs : List Float) : Type 0 where
  pub frames : List (List Float)
  pub whole : Whole frames
  pub level : l ≡ level_after frames
  pub samples : heard frames ≡ xs

nothing-heard : Heard level.fresh_of []
unfolding level_after heard
nothing-heard = record { frames = []; whole = tt; level = refl; samples = refl }

module _ (t : Strand) (xs f : List Float) (s : VadSettings) (h : Heard t.level xs) (n : length f ≡ frame_length) (ok : T (all_finite f)) where
  more-heard : Heard (strand.frame_of t f s).strand.level (xs ++ f)
  unfolding strand.frame_of strand.finish_of
  more-heard = record {
    frames = and_one h.frames f;
    whole = whole-more h.frames f h.whole n;
    level = ap (λ (l : Level). (level.frame_of l f).level) h.level ∙ sym (after_more h.frames f);
    samples = heard-more h.frames f ∙ (λ i. h.samples i ++ clean-finite f ok i);
  }

  reads : (level.frame_of t.level f).reading ≡ one-channel.bs1770 (xs ++ f)
  reads =
      ap (λ (l : Level). (level.frame_of l f).reading) h.level
      ∙ level-bs1770 h.frames f h.whole n
      ∙ (λ i. one-channel.bs1770 (h.samples i ++ clean-finite f ok i))

  shows : shown_of (strand.frame_of t f s).state ≡ loudness_of (one-channel.bs1770 (xs ++ f))
  unfolding strand.frame_of strand.finish_of state_of
  shows = ap loudness_of reads

-- ---- a bed that heard the samples xss, channel by channel

pub record BedHeard (l : Level) (s : Surround) (xss : List (List Float)) : Type 0 where
  pub frames : List (List Float)
  pub whole : channels.Whole (channels_of s.layout) frames
  pub bed : record { level = l; surround = s } ≡ bed_after s.layout frames
  pub samples : channels.heard (channels_of s.layout) frames ≡ xss

bed-nothing : (l : Layout) → BedHeard level.fresh_of (resting_of l) (nothing l)
unfolding bed_after channels.heard
bed-nothing l = record { frames = []; whole = tt; bed = refl; samples = refl }

module _ (l : Level) (s : Surround) (xss : List (List Float)) (f : List Float) (h : BedHeard l s xss) (n : length f ≡ channels_of s.layout * frame_length) (ok : T (all_finite f)) where
  abbrev k : ℕ
  k = channels_of s.layout

  bed-more : BedHeard (bed_frame_of l s f).framed.level (bed_frame_of l s f).surround (each xss (parts k f))
  unfolding bed_frame_of
  bed-more = record {
    frames = beds.and_one h.frames f;
    whole = beds.whole-more k h.frames f h.whole n;
    bed = ap (λ (b : Bed). bed_next b f) h.bed ∙ sym (beds.after_more s.layout h.frames f);
    samples = beds.heard-more k h.frames f ∙ (λ i. each (h.samples i) (bed-laws.hears k f ok i));
  }

  bed-read : (bed_frame_of l s f).framed.reading ≡ loudness-of.bs1770 (sources (used_weights s.layout) (each xss (parts k f)))
  bed-read =
      ap (λ (b : Bed). (bed_frame_of b.level b.surround f).framed.reading) h.bed
      ∙ bed-laws.reads_layout s.layout h.frames f h.whole n
      ∙ (λ i. loudness-of.bs1770 (sources (used_weights s.layout) (each (h.samples i) (bed-laws.hears k f ok i))))

-- ---- what the ducker shows of it

-- -100 and below is silence, and all else is to a tenth
reading-shown : (l : Lufs) → ratio.reading_of l ≡ cond (lt silence_lufs l.0) (is.Level (tenths_of l.0)) is.Silence
unfolding ratio.reading_of tenths_of
reading-shown l = refl

module _ (l : Loops) (d : Duck) (i : Inputs) where
  dialogue_shown : (frames.frame_of l d i).status.dialogue_lufs ≡ cond d.enabled (ratio.reading_of i.dialogue_short_term) is.Silence
  unfolding frames.frame_of frames.enabled_frame frames.disabled_frame ratio.status_of
  dialogue_shown = go d.enabled
    where
      go : (b : Bool) → (cond b (frames.enabled_frame l d i) (frames.disabled_frame d)).status.dialogue_lufs ≡ cond b (ratio.reading_of i.dialogue_short_term) is.Silence
      go true = refl
      go false = refl

  bed-shown : (frames.frame_of l d i).status.bed_lufs ≡ cond d.enabled (ratio.reading_of i.bed_short_term) is.Silence
  unfolding frames.frame_of frames.enabled_frame frames.disabled_frame ratio.status_of
  bed-shown = go d.enabled
    where
      go : (b : Bool) → (cond b (frames.enabled_frame l d i) (frames.disabled_frame d)).status.bed_lufs ≡ cond b (ratio.reading_of i.bed_short_term) is.Silence
      go true = refl
      go false = refl

-- ---- the two strands

pub record Like (c : Chain) (h : Log Event) : Type 0 where
  pub key : Heard c.key.level (key_heard h)
  pub bed : BedHeard c.bed.level c.surround (bed_heard h)
  pub layout : c.surround.layout ≡ layout_in h
  pub enabled : c.settings.duck.enabled ≡ enabled_in h

pub like_new : Like fresh_of empty
like_new = record { key = nothing-heard; bed = bed-nothing mono_of; layout = refl; enabled = refl }

-- a strand begun anew: the key, or the bed
abbrev anew : Chain → Bool → Chain
anew c b = cond b (key_anew c) (bed_anew c)

reset_like : (c : Chain) (h : Log Event) (n : ℕ) → Like c h → Like (next c (reset n)) (h ▹ reset n)
unfolding strand.reset_of
reset_like c h n l = record { key = key (eqb n 0); bed = bed (eqb n 0); layout = lay (eqb n 0); enabled = enabled (eqb n 0) }
  where
    key : (b : Bool) → Heard (anew c b).key.level (cond b [] (key_heard h))
    key true = nothing-heard
    key false = l.key

    bed : (b : Bool) → BedHeard (anew c b).bed.level (anew c b).surround (cond b (bed_heard h) (nothing (layout_in h)))
    bed true = l.bed
    bed false = subst (λ (x : Layout). BedHeard level.fresh_of (resting_of c.surround.layout) (nothing x)) l.layout (bed-nothing c.surround.layout)

    lay : (b : Bool) → (anew c b).surround.layout ≡ layout_in h
    lay true = l.layout
    lay false = l.layout

    enabled : (b : Bool) → (anew c b).settings.duck.enabled ≡ enabled_in h
    enabled true = l.enabled
    enabled false = l.enabled

-- ---- a frame

module _ (c : Chain) (h : Log Event) (v : Valid c) (l : Like c h) (key bed : List Float) (a : Accepted c key bed) where
  bed-whole : length bed ≡ channels_of c.surround.layout * frame_length
  bed-whole = bed_samples c v bed a.whole.bed_length ∙ ap (λ (n : ℕ). n * frame_length) (sym (beds.channels-valid c.surround.layout v.surround.layout))

  -- the layout in force is the history's
  bed-heard : BedHeard (bed_level_of c bed).framed.level (bed_level_of c bed).surround (each (bed_heard h) (channels_in (layout_in h) bed))
  bed-heard =
      subst (λ (x : Layout). BedHeard (bed_level_of c bed).framed.level (bed_level_of c bed).surround (each (bed_heard h) (channels_in x bed))) l.layout
      (bed-more c.bed.level c.surround (bed_heard h) bed l.bed bed-whole a.whole.bed_samples)

  bed-level-reads : (bed_level_of c bed).framed.reading ≡ bed_reads h bed
  bed-level-reads =
      bed-read c.bed.level c.surround (bed_heard h) bed l.bed bed-whole a.whole.bed_samples
      ∙ ap (λ (x : Layout). loudness-of.bs1770 (sources (used_weights x) (each (bed_heard h) (channels_in x bed)))) l.layout

  pub frame_like : Like (kept_of c (work_of c key bed)) (h ▹ frame key bed)
  unfolding work_of bed_strand_of strand.finish_of
  frame_like = record {
    key = more-heard c.key (key_heard h) key c.settings.key l.key a.whole.key_length a.whole.key_samples;
    bed = bed-heard;
    layout = unfold bed_frame_of in l.layout;
    enabled = l.enabled;
  }

  pub key_reads_lem : (work_of c key bed).key.reading ≡ key_reads h key
  unfolding work_of strand.frame_of strand.finish_of
  key_reads_lem = reads c.key (key_heard h) key c.settings.key l.key a.whole.key_length a.whole.key_samples

  pub bed-reads : (work_of c key bed).bed.reading ≡ bed_reads h bed
  unfolding work_of bed_strand_of strand.finish_of
  bed-reads = bed-level-reads

  pub ducker-given : given_of (inputs_of (work_of c key bed).key (work_of c key bed).bed) ≡ given (key_reads h key) (bed_reads h bed)
  unfolding inputs_of
  ducker-given = λ i. given (key_reads_lem i) (bed-reads i)

  -- a loudness that the ducker is given, as it shows it
  shown_by : (l' : Lufs) (r : Reading) → l'.0 ≡ r.short_term.0 → cond c.settings.duck.enabled (ratio.reading_of l') is.Silence ≡ reading_of (enabled_in h) r
  shown_by l' r e =
      (λ i. cond (l.enabled i) (reading-shown l' i) is.Silence) ∙ ap (λ (x : Float). cond (enabled_in h) (cond (lt silence_lufs x) (is.Level (tenths_of x)) is.Silence) is.Silence) e

  bed-shows : shown_of (work_of c key bed).bed.state ≡ loudness_of (bed_reads h bed)
  unfolding work_of bed_strand_of strand.finish_of state_of
  bed-shows = ap loudness_of bed-level-reads

  frame-says : part (shown (answer_of (work_of c key bed))) ≡ says h (frame key bed)
  unfolding work_of inputs_of
  frame-says =
      let k = shows c.key (key_heard h) key c.settings.key l.key a.whole.key_length a.whole.key_samples in
      let i = inputs_of (work_of c key bed).key (work_of c key bed).bed in
      let d = dialogue_shown c.loops c.settings.duck i ∙ shown_by i.dialogue_short_term (key_reads h key) (ap (λ (g : Given). g.dialogue_short_term) ducker-given) in
      let e = bed-shown c.loops c.settings.duck i ∙ shown_by i.bed_short_term (bed_reads h bed) (ap (λ (g : Given). g.bed_short_term) ducker-given) in
      λ j. loud (k j) (bed-shows j) (d j) (e j)

-- ---- any call

pub like_next : (c : Chain) (h : Log Event) (e : Event) → Valid c → Like c h → refuses c e ≡ 0 → Like (next c e) (h ▹ e)
unfolding stored_of stored_duck
like_next c h (frame key bed) v l z = frame_like c h v l key bed (accepted c key bed z)
like_next c h (settings a) v l z = record { key = l.key; bed = l.bed; layout = l.layout; enabled = refl }
like_next c h (reset n) v l z = reset_like c h n l
like_next c h (layout x) v l z = record { key = l.key; bed = bed-nothing (layouts.stored_of x); layout = refl; enabled = l.enabled }

like_says : (c : Chain) (h : Log Event) (e : Event) → Valid c → Like c h → refuses c e ≡ 0 → part (answers c e) ≡ says h e
like_says c h (frame key bed) v l z = frame-says c h v l key bed (accepted c key bed z)
like_says c h (settings a) v l z = refl
like_says c h (reset n) v l z = refl
like_says c h (layout x) v l z = refl

pub loudness-agrees : Agrees rules Valid loudness
loudness-agrees = record { Like = Like; like_new = like_new; like_next = like_next; like_says = like_says }
