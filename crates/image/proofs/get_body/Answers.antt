-- `image::get_body` meets its contract.
use Rattle.image.specs.Chain.{body, settings, numbers, strand_settings, duck, loops}
use Rattle.strand_image.specs.Strand.{strand, front, state, filters, floor, window, latest, decision, counts}
use Rattle.image.proofs.get_body.Goals as goal

pub returns : goal.returns
unfolding body settings numbers strand_settings duck loops strand front state filters floor window latest decision counts
returns c =
    λ k. record {
      settings = c.get_settings-settings.ensures k;
      key = c.get_strand-key.ensures k;
      bed = c.get_strand-bed.ensures k;
      loops = c.get_loops-loops.ensures k;
      surround = c.args.surround;
    }
