-- The coefficients of a strand's six sections at 48 kHz, by the bits of each f64. Those of the detector were printed by one run of the Rust's formulas.
use Rattle.std.specs.Prelude.{List, [], ◌∷◌}
use Rattle.std.specs.Float.{binary64}
use Rattle.std.specs.Float.Ieee.{of_bits}
use Rattle.biquad.specs.declared.Coefficients.{Coefficients}

-- BS.1770-4 K-weighting: the shelving pre-filter, and the RLB high-pass
abbrev pub k_shelf : Coefficients
k_shelf = record {
  b0 = of_bits binary64 0x3ff88fdf15b33df7;  -- 1.53512485958697
  b1 = of_bits binary64 0xc005889803022552;  -- -2.69169618940638
  b2 = of_bits binary64 0x3ff32c9df0a5fdf9;  -- 1.19839281085285
  a1 = of_bits binary64 0xbffb0cf0c24e59d0;  -- -1.69065929318241
  a2 = of_bits binary64 0x3fe7707b85469635;  -- 0.73248077421585
}

abbrev pub k_high_pass : Coefficients
k_high_pass = record {
  b0 = of_bits binary64 0x3ff0000000000000;  -- 1.0
  b1 = of_bits binary64 0xc000000000000000;  -- -2.0
  b2 = of_bits binary64 0x3ff0000000000000;  -- 1.0
  a1 = of_bits binary64 0xbfffd73bffffffec;  -- -1.99004745483398
  a2 = of_bits binary64 0x3fefaeabfffffff8;  -- 0.99007225036621
}

-- the detector's speech band: a high-pass of 250 Hz and a low-pass of 4 kHz, both with Q = 1 / sqrt 2
abbrev pub band_high_pass : Coefficients
band_high_pass = record {
  b0 = of_bits binary64 0x3fef449cf6a6091a;  -- 0.977125627265454
  b1 = of_bits binary64 0xbfff449cf6a6091a;  -- -1.954251254530908
  b2 = of_bits binary64 0x3fef449cf6a6091a;  -- 0.977125627265454
  a1 = of_bits binary64 0xbfff42783ced73db;  -- -1.9537279491407762
  a2 = of_bits binary64 0x3fee8d8360bd3caf;  -- 0.9547745599210397
}

abbrev pub band_low_pass : Coefficients
band_low_pass = record {
  b0 = of_bits binary64 0x3fa956bf5f4f1282;  -- 0.04948995626867704
  b1 = of_bits binary64 0x3fb956bf5f4f1282;  -- 0.09897991253735408
  b2 = of_bits binary64 0x3fa956bf5f4f1282;  -- 0.04948995626867704
  a1 = of_bits binary64 0xbff4795fd98444a9;  -- -1.279632424997809
  a2 = of_bits binary64 0x3fde90df15b89be4;  -- 0.47759225007251715
}

-- the detector's pitch filter: a Butterworth low-pass of order 4 and 1 kHz, in two sections
abbrev pub pitch1 : Coefficients
pitch1 = record {
  b0 = of_bits binary64 0x3f6f45583e4b0c7f;  -- 0.0038172458174315356
  b1 = of_bits binary64 0x3f7f45583e4b0c7f;  -- 0.007634491634863071
  b2 = of_bits binary64 0x3f6f45583e4b0c7f;  -- 0.0038172458174315356
  a1 = of_bits binary64 0xbffc4fe3caafe0f4;  -- -1.7695043485128368
  a2 = of_bits binary64 0x3fe91cdcf658ee1a;  -- 0.7847733317825629
}

abbrev pub pitch2 : Coefficients
pitch2 = record {
  b0 = of_bits binary64 0x3f70aff87e9ddee2;  -- 0.004074068719880338
  b1 = of_bits binary64 0x3f80aff87e9ddee2;  -- 0.008148137439760676
  b2 = of_bits binary64 0x3f70aff87e9ddee2;  -- 0.004074068719880338
  a1 = of_bits binary64 0xbffe378672a9e99e;  -- -1.8885559538890457
  a2 = of_bits binary64 0x3fecf48ca948c235;  -- 0.9048522287685673
}

-- in the image's order
unfoldable pub sections_of : List Coefficients
sections_of = k_shelf ∷ k_high_pass ∷ band_high_pass ∷ band_low_pass ∷ pitch1 ∷ pitch2 ∷ []
