-- Demands' laws of every call: the chain's of events, and those of saves and restores.
use Rattle.demands.specs.Laws.{Laws}
use Rattle.rules.specs.Rules.{rules}
use Rattle.rules.proofs.Laws.{laws}
use Rattle.image.specs.Port.{images, port}
use Rattle.image.proofs.Laws.{bits_inj, image-length, image-accepted, meaning_image, meaning_valid, present, image_number, saved, save_refused, restored, restore_refused}

abbrev pub all_laws : Laws rules images port
all_laws = record {
  events = laws;
  images = record {
    bits_inj = bits_inj;
    image_size = image-length;
    image_passes = image-accepted;
    meaning_image = meaning_image;
    meaning_valid = λ b e. meaning_valid b;
    present = present;
  };
  image_number = image_number;
  save_refused = λ s l v h. save_refused s l h;
  saved = λ s l v h. saved s l h;
  restore_refused = λ s b v h. restore_refused s b h;
  restored = λ s b v e. restored s b e;
}
