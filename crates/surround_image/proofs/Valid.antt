-- What the codec of a bed's channels holds good is what the modules call valid.
use mathlib.Core.Path.{◌≡◌, refl, sym, ap}
use mathlib.Core.Bool.{Bool, true, false, cond, ◌&&◌, ◌||◌}
use mathlib.Core.List.{List}
use Prim.Native.Nat.{ℕ}
use native.Mathlib.Omega.{arith}
use borrow.Author.Tests.{eq-eqb, ne_eqb, eqb-true, eqb-false, le-leb, leb-true}
use lib.Dec.{T, eqb, leb}
use lib.Ieee.Bits.{is_true}
use lib.ListN.{get_or}
use Rattle.sequence.specs.Counted.{Counted}
use Rattle.sequence.proofs.Tests.{both}
use Rattle.strand_image.proofs.Valid.{state-valid, valid-state}
use Rattle.layout.specs.declared.Place.{Place}
use Rattle.layout.specs.Layout.{size_of, within_of, placed_of}
use Rattle.layout.specs.Valid.{PlaceValid}
use Rattle.channels.specs.declared.Channel.{Channel}
use Rattle.channels.specs.declared.Surround.{Surround}
use Rattle.channels.specs.Valid.{ChannelValid, SurroundValid}
use Rattle.surround_image.specs.Surround.{place, channel, surround}
use Rattle.surround_image.proofs.Codecs.{count_in, in_count}

-- ---- where a channel is

-- the rule of an LFE, as a test and as a fact
pub rule_angles : (a e f : ℕ) → T (eqb f 0 || eqb a 0 && eqb e 0) → (f ≡ 0 → ⊥) → (a ≡ 0) × (e ≡ 0)
rule_angles a e f t n = go (eqb f 0) refl t
  where
    go : (b : Bool) → eqb f 0 ≡ b → T (b || eqb a 0 && eqb e 0) → (a ≡ 0) × (e ≡ 0)
    go true q h = absurd (n (eqb-true f 0 q))
    go false q h = let z = both (eqb a 0) (eqb e 0) (is_true _ h) in (eqb-true a 0 z.0, eqb-true e 0 z.1)

pub angles_rule : (a e f : ℕ) → ((f ≡ 0 → ⊥) → (a ≡ 0) × (e ≡ 0)) → T (eqb f 0 || eqb a 0 && eqb e 0)
angles_rule a e f h = go (eqb f 0) refl
  where
    go : (b : Bool) → eqb f 0 ≡ b → T (b || eqb a 0 && eqb e 0)
    go true q = tt
    go false q = let z = h (eqb-false f 0 q) in rw (eq-eqb a 0 z.0, eq-eqb e 0 z.1) tt

-- a place is stored as it is exactly where an LFE's angles are zero
placed_same : (p : Place) → ((p.lfe ≡ 0 → ⊥) → (p.azimuth ≡ 0) × (p.elevation ≡ 0)) → placed_of p ≡ p
unfolding placed_of
placed_same p h = go (eqb p.lfe 0) refl
  where
    go : (b : Bool) → eqb p.lfe 0 ≡ b → cond b p (record { azimuth = 0; elevation = 0; lfe = p.lfe }) ≡ p
    go true e = refl
    go false e = let z = h (eqb-false p.lfe 0 e) in λ k. record { azimuth = sym z.0 k; elevation = sym z.1 k; lfe = p.lfe }

same-placed : (p : Place) → placed_of p ≡ p → (p.lfe ≡ 0 → ⊥) → (p.azimuth ≡ 0) × (p.elevation ≡ 0)
unfolding placed_of
same-placed p q n =
    let e : record { azimuth = 0; elevation = 0; lfe = p.lfe } ≡ p = rw (ne_eqb p.lfe 0 n) at q in
    (sym (ap (λ (x : Place). x.azimuth) e), sym (ap (λ (x : Place). x.elevation) e))

place-valid : (p : Place) → place.Ok p → PlaceValid p
unfolding place within_of
place-valid p ok = (
  (rw (le-leb (size_of p.azimuth) 180 ok.0.0, le-leb (size_of p.elevation) 90 ok.0.1.0, le-leb p.lfe 1 (omega (arith, ok.0.1.1))) tt),
  placed_same p (rule_angles p.azimuth p.elevation p.lfe ok.1),
)

valid-place : (p : Place) → PlaceValid p → place.Ok p
unfolding place within_of
valid-place p v =
    let a = both (leb (size_of p.azimuth) 180 && leb (size_of p.elevation) 90) (leb p.lfe 1) (is_true _ v.0) in
    let b = both (leb (size_of p.azimuth) 180) (leb (size_of p.elevation) 90) a.0 in (
      (leb-true (size_of p.azimuth) 180 b.0, (leb-true (size_of p.elevation) 90 b.1, omega (arith, leb-true p.lfe 1 a.1))),
      angles_rule p.azimuth p.elevation p.lfe (same-placed p v.1),
    )

-- ---- a channel's numbers

channel-valid : (c : Channel) → channel.Ok c → ChannelValid c
unfolding channel
channel-valid c ok = record { shelf = state-valid c.shelf ok.0; high_pass = state-valid c.high_pass ok.1.0; fast = ok.1.1 }

valid-channel : (c : Channel) → ChannelValid c → channel.Ok c
unfolding channel
valid-channel c v = (valid-state c.shelf v.shelf, (valid-state c.high_pass v.high_pass, v.fast))

-- ---- all of them

counted_as : {A : Type 0} {P Q : A → Type 0} {d : A} {n m : ℕ} {xs : List A} → ((a : A) → P a → Q a) → Counted P d n m xs → Counted Q d n m xs
counted_as {A} {P} {Q} {d} {n} {m} {xs} f r = record { within = r.within; size = r.size; good = λ k h. f (get_or xs k d) (r.good k h); rest = r.rest }

pub surround-valid : (s : Surround) → surround.Ok s → SurroundValid s
unfolding surround
surround-valid s ok = record {
  layout = record { some = (count_in s.layout.count ok.0).0; places = counted_as place-valid ok.1.0 };
  others = counted_as channel-valid ok.1.1;
}

pub valid-surround : (s : Surround) → SurroundValid s → surround.Ok s
unfolding surround
valid-surround s v = (
  in_count s.layout.count v.layout.some v.layout.places.within,
  (counted_as valid-place v.layout.places, counted_as valid-channel v.others),
)
