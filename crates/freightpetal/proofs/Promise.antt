-- The three demands hold, and what is promised of images: the laws of chain and image, call by call, give them over lists.
use mathlib.Core.Path.{◌≡◌}
use mathlib.Core.Logic.{inl, inr}
use mathlib.Core.List.{List}
use Prim.Native.Nat.{ℕ}
use borrow.Author.Tests.{eq-eqb}
use lib.ListN.{length}
use Rattle.demands.specs.Demands.{Demands}
use Rattle.demands.proofs.Demands as demands
use Rattle.chain.specs.Base.{Base, widened}
use Rattle.rules.specs.Rules.{rules}
use Rattle.rules.specs.Rust.{rust}
use Rattle.rules.specs.RustState.{stored}
use Rattle.rules.specs.Loudness.{loudness}
use Rattle.chain.specs.Valid.{Valid}
use Rattle.rules.proofs.AgreesRust.{rust-agrees}
use Rattle.rules.proofs.RustState.{rust_stores}
use Rattle.rules.proofs.AgreesLoudness.{loudness-agrees}
use Rattle.image.specs.Edition.{image_in, refuses_in}
use Rattle.image.specs.Edition1.{first_edition}
use Rattle.image.specs.Edition1 as first
use Rattle.image.specs.Image.{meaning, refuses_image}
use Rattle.image.specs.Port.{images, port}
use Rattle.image.proofs.Laws.{number_old, meaning_valid, present, accepted_old, restore-accepted, wrong_length, bad_check, meaning_image, same-image, restore-image, image_old, one-word-refused, accepted-word-refused}
use Rattle.image.proofs.Foreign as foreign
use Rattle.image.proofs.Plug.{all_laws}
use Rattle.freightpetal.specs.Images.{ImageLaws}

pub promised : Demands rules images port rust loudness stored
promised = demands.demands rules images port all_laws rust loudness rust-agrees loudness-agrees stored rust_stores

edition_one : (b : List ℕ) → length b ≡ first.image_bytes
    → (refuses_image b ≡ refuses_in first_edition b)
    × (refuses_image b ≡ 0 → (s : Base) × Valid (widened s) × (image_in first_edition s ≡ b) × (meaning b ≡ widened s))
edition_one b l = (number_old b (eq-eqb (length b) first.image_bytes l), accepted_old b l)

pub image-laws : ImageLaws
image-laws = record {
  valid = demands.valid rules images port all_laws;
  comes_back = restore-image;
  means_image = meaning_image;
  accepted = λ old b e. (restore-accepted b old e, meaning_valid b);
  edition_two = present;
  edition_one = edition_one;
  written_by_one = image_old;
  wrong_length = λ b n. wrong_length b (λ l. n (inl l)) (λ l. n (inr l));
  bad_check = bad_check;
  unfit_one = foreign.unfit_one;
  unfit_two = foreign.unfit_two;
  one_image = same-image;
  one_word = one-word-refused;
  accepted_one_word = accepted-word-refused;
  foreign_unknown = foreign.foreign_unknown;
  foreign_words = foreign.foreign_words;
  foreign_unknown_one = foreign.foreign_unknown_one;
  foreign_words_one = foreign.foreign_words_one;
}
