-- The codecs of a chain and of edition 1: how many words each takes, and its laws, which follow from those of its parts.
use mathlib.Core.Path.{◌≡◌, refl}
use mathlib.Core.List.{[], ◌∷◌}
use Prim.Native.Nat.{ℕ, ◌+◌, ◌^◌, ◌<◌}
use lib.ListN.{replicate}
use lib.Dec.{T, lit<}
use lib.Ieee.{to_bits, of_bits, eq, neg, lt, fits}
use Rattle.blocks.proofs.Lists.{below-nil, below_cons, below-replicate}
use Rattle.codec.specs.Codec.{CodecLaws}
use Rattle.codec.specs.Forms.{fixed}
use Rattle.codec.proofs.Forms.{f64-laws, flag-laws, one_laws, fixed_laws, pair-laws, as_a-laws, also-laws}
use Rattle.settings.specs.Settings.{outside_of, outside_strand, outside_duck, outside_settings, fresh_settings}
use Rattle.strand_image.specs.Strand.{strand, front, state, filters, floor, window, latest, decision, counts}
use Rattle.strand_image.proofs.Codecs.{strand-laws}
use Rattle.surround_image.proofs.Codecs.{surround-laws, surround-size}
use Rattle.image.specs.Layout.{edition, payload_words, body_words, unused_words}
use Rattle.image.specs.Chain.{strand_settings, from_duck, to_duck, duck, signed_of, signed_strand, signed_duck, signed_settings, settings_rule, numbers, settings, loops, body, chain}
use Rattle.image.specs.Edition1.{base}
use Rattle.image.specs.Edition1 as first

-- ---- how many words

pub size-strand-settings : strand_settings.size ≡ 3
unfolding strand_settings
size-strand-settings = refl

pub size-settings : settings.size ≡ 12
unfolding settings numbers strand_settings duck
size-settings = refl

pub size-strand : strand.size ≡ 628
unfolding strand front state filters floor window latest decision counts
size-strand = refl

size-loops : loops.size ≡ 4
unfolding loops
size-loops = refl

pub size-body : body.size ≡ body_words
unfolding body
size-body = λ i. size-settings i + (size-strand i + (size-strand i + size-loops i))

pub size-base : base.size ≡ first.payload_words
unfolding base
size-base = λ i. 1 + (size-body i + first.unused_words)

pub size-chain : chain.size ≡ payload_words
unfolding chain
size-chain = λ i. 1 + (size-body i + (surround-size i + unused_words))

-- ---- settings

pub strand-settings-laws : CodecLaws strand_settings
unfolding strand_settings
strand-settings-laws = as_a-laws _ _ (λ a. refl) (λ b. refl) (pair-laws (one_laws f64-laws) (pair-laws (one_laws f64-laws) (one_laws f64-laws)))

pub duck-laws : CodecLaws duck
unfolding duck
duck-laws = as_a-laws from_duck to_duck (λ a. refl) (λ b. refl)
    (pair-laws (one_laws flag-laws) (pair-laws (one_laws f64-laws) (pair-laws (one_laws f64-laws) (pair-laws (one_laws f64-laws) (pair-laws (one_laws f64-laws) (one_laws flag-laws))))))

pub numbers-laws : CodecLaws numbers
unfolding numbers
numbers-laws = as_a-laws _ _ (λ a. refl) (λ b. refl) (pair-laws strand-settings-laws (pair-laws strand-settings-laws duck-laws))

-- the fresh settings are good ones
pub fresh-numbers : numbers.Ok fresh_settings
unfolding numbers strand_settings duck of_bits neg fits
fresh-numbers = (((tt, tt), ((tt, tt), (tt, tt))), (((tt, tt), ((tt, tt), (tt, tt))), (tt, ((tt, tt), ((tt, tt), ((tt, tt), ((tt, tt), tt)))))))

pub fresh_rule : T (settings_rule fresh_settings)
unfolding outside_settings outside_strand outside_duck outside_of signed_settings signed_strand signed_duck signed_of eq lt of_bits neg to_bits
fresh_rule = tt

pub settings-laws : CodecLaws settings
unfolding settings
settings-laws = also-laws settings_rule fresh_settings numbers-laws fresh-numbers fresh_rule

-- ---- the ducker's loops

pub loops-laws : CodecLaws loops
unfolding loops
loops-laws = as_a-laws _ _ (λ a. refl) (λ b. refl) (pair-laws (one_laws f64-laws) (pair-laws (one_laws f64-laws) (pair-laws (one_laws f64-laws) (one_laws f64-laws))))

-- ---- the body

pub body-laws : CodecLaws body
unfolding body
body-laws = as_a-laws _ _ (λ a. refl) (λ b. refl) (pair-laws settings-laws (pair-laws strand-laws (pair-laws strand-laws loops-laws)))

-- ---- both editions

pub edition-laws : (n : ℕ) → n < 2 ^ 64 → CodecLaws (fixed (n ∷ []))
edition-laws n h = fixed_laws (n ∷ []) (below_cons (2 ^ 64) n [] h (below-nil (2 ^ 64) (lit< tt)))

unused-laws : (n : ℕ) → CodecLaws (fixed (replicate n 0))
unused-laws n = fixed_laws (replicate n 0) (below-replicate (2 ^ 64) n 0 (lit< tt))

pub base-laws : CodecLaws base
unfolding base
base-laws = as_a-laws _ _ (λ a. refl) (λ b. refl) (pair-laws (edition-laws first.edition (lit< tt)) (pair-laws body-laws (unused-laws first.unused_words)))

pub chain_laws : CodecLaws chain
unfolding chain
chain_laws = as_a-laws _ _ (λ a. refl) (λ b. refl)
    (pair-laws (edition-laws edition (lit< tt)) (pair-laws body-laws (pair-laws surround-laws (unused-laws unused_words))))
