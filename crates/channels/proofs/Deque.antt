-- The level of several channels, with 300 places for powers, is the Rust's, with a deque: on any count of powers, and whatever channels come behind.
use Prim.Native.Nat.{ℕ, zero, suc, ◌*◌, ◌≤◌}
use native.Mathlib.Omega.{arith}
use mathlib.Core.Path.{◌≡◌, refl, ap, sym, ◌∙◌}
use mathlib.Core.List.{List, [], ◌∷◌, map}
use lib.ListN.{length, take, drop, length-take, length-drop, length-map, length-append}
use lib.Seq.{take_at}
use lib.Ieee.{Float}
use Rattle.level.specs.declared.Weighing.{Weighing}
use Rattle.level.specs.declared.Joint.{Joint}
use Rattle.level.specs.Weighing.{run_of}
use Rattle.level.specs.Level.{no_channel, joined_of, read_of}
use Rattle.level.specs.Deque.{answered, frames_with}
use Rattle.level.proofs.Deque.{push-deque, read-deque, push-length}
use Rattle.channels.specs.declared.Channel.{Channel}
use Rattle.channels.specs.Channels.{JointLevel, begin_of, kept_of, parts, weighings, weighings_of, join_all, kept_in, finish_joint, joint_frame_of}
use Rattle.channels.specs.Deque.{meter_join, jointly, meters_next, meters_reading, meters_of}
use Rattle.channels.specs.Heard.{KeepsDeque}
use Rattle.channels.proofs.Weighings.{in_use-length, in_use}

-- each channel has 480 samples
abbrev pub Full : List (List Float) → Type 0
Full [] = Unit {0}
Full (x ∷ xs) = (length x ≡ 480) × Full xs

pub parts-full : (n : ℕ) (f : List Float) → length f ≡ n * 480 → Full (parts n f)
unfolding parts
parts-full zero f e = tt
parts-full (suc n) f e = (length-take 480 f ∙ omega (arith, e), parts-full n (drop 480 f) (length-drop 480 f ∙ omega (arith, e)))

-- then the Rust divides by 480
pub full-join : (j : Joint) (bs : List Float) (cs : List Channel) (xs : List (List Float)) → Full xs → join_all j bs (weighings cs xs) ≡ meter_join j bs (weighings cs xs) xs
unfolding join_all meter_join weighings
full-join j [] cs xs h = refl
full-join j (b ∷ bs) [] xs h = refl
full-join j (b ∷ bs) (c ∷ cs) [] h = refl
full-join j (b ∷ bs) (c ∷ cs) (x ∷ xs) h =
    full-join (joined_of j b (run_of (begin_of c) x) 480) bs cs xs h.1
    ∙ ap (λ (n : ℕ). meter_join (joined_of j b (run_of (begin_of c) x) n) bs (weighings cs xs) xs) (sym h.0)

module _ (ws : List Float) (j : JointLevel) (f : List Float) (h : length ws ≤ length j.channels) (l : length j.powers.list ≡ 300) (k : length f ≡ length ws * 480) where
  abbrev n : ℕ
  n = length ws

  -- the channels in use
  abbrev run : List Weighing
  run = weighings_of j.channels n f

  front_length : length (map kept_of run) ≡ n
  front_length = length-map run kept_of ∙ in_use-length j.channels n f h

  joint : join_all no_channel ws run ≡ jointly ws (meters_of n j) (parts n f)
  joint =
      full-join no_channel ws j.channels (parts n f) (parts-full n f k)
      ∙ ap (λ (vs : List Weighing). meter_join no_channel ws vs (parts n f)) (sym (in_use j.channels n f))

  channels : take n (kept_in j.channels run) ≡ map kept_of (weighings (take n j.channels) (parts n f))
  unfolding kept_in
  channels =
      take_at (map kept_of run) (drop (length (map kept_of run)) j.channels) n front_length
      ∙ ap (map kept_of) (sym (in_use j.channels n f))

  pub joint-deque : meters_of n (joint_frame_of j ws f).level ≡ meters_next ws (meters_of n j) (parts n f)
  unfolding joint_frame_of finish_joint read_of meters_next
  joint-deque =
      (λ i. record { channels = channels i; frames = push-deque j.powers l (join_all no_channel ws run).power i })
      ∙ ap (λ (x : Joint). record { channels = map kept_of (weighings (take n j.channels) (parts n f)); frames = frames_with (meters_of n j).frames x }) joint

  pub joint-reading : (joint_frame_of j ws f).reading ≡ meters_reading ws (meters_of n j) (parts n f)
  unfolding joint_frame_of finish_joint meters_reading
  joint-reading =
      read-deque j.powers l (join_all no_channel ws run)
      ∙ ap (λ (x : Joint). answered x (frames_with (meters_of n j).frames x)) joint

  -- the places stay
  pub joint-places : length (joint_frame_of j ws f).level.channels ≡ length j.channels
  unfolding joint_frame_of finish_joint kept_in
  joint-places =
      length-append (map kept_of run) (drop (length (map kept_of run)) j.channels)
      ∙ omega (arith, front_length, length-drop (length (map kept_of run)) j.channels)

  pub joint-powers : length (joint_frame_of j ws f).level.powers.list ≡ 300
  unfolding joint_frame_of finish_joint read_of
  joint-powers = push-length j.powers l (join_all no_channel ws run).power

pub keeps-deque : KeepsDeque
keeps-deque ws j f h l k = (joint-deque ws j f h l k, joint-reading ws j f h l k)
