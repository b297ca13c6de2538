-- Every float that a chain stores.
use Rattle.std.specs.Prelude.{List, [], ◌∷◌, ◌++◌, Float, option_to_list}
use Rattle.level.specs.declared.Level.{Level}
use Rattle.channels.specs.declared.Channel.{Channel}
use Rattle.detector.specs.declared.FeatureDetector.{FeatureDetector}
use Rattle.detector.specs.Filters.{states_of}
use Rattle.vad.specs.declared.VadSettings.{VadSettings}
use Rattle.vad.specs.declared.Decision.{Decision}
use Rattle.vad.specs.declared.Strand.{Strand}
use Rattle.comis.specs.declared.loop_bank.Loops.{Loops}
use Rattle.ratio.specs.declared.Duck.{Duck}
use Rattle.settings.specs.declared.Settings.{Settings}
use Rattle.chain.specs.declared.Chain.{Chain}

abbrev pub of_strand_settings : VadSettings → List Float
of_strand_settings s = s.threshold ∷ s.hold_ms ∷ s.gate_lufs.0 ∷ []

abbrev pub of_duck : Duck → List Float
of_duck d = d.target_lu ∷ d.overvoice_lu ∷ d.max_reduction_db.0 ∷ d.speed ∷ []

abbrev pub of_settings : Settings → List Float
of_settings s = of_strand_settings s.key ++ of_strand_settings s.bed ++ of_duck s.duck

abbrev pub of_level : Level → List Float
of_level l = (l.shelf.z1 ∷ l.shelf.z2 ∷ l.high_pass.z1 ∷ l.high_pass.z2 ∷ l.fast ∷ []) ++ l.powers.list

abbrev pub of_detector : FeatureDetector → List Float
of_detector d =
    states_of d.filters ++ d.decimated.list ++ option_to_list d.floor.smoothed ++ (d.floor.window_min ∷ []) ++ d.floor.minima.list ++ d.history.list

abbrev pub of_decision : Decision → List Float
of_decision d = d.probability ∷ option_to_list d.power

abbrev pub of_strand : Strand → List Float
of_strand t = of_level t.level ++ of_detector t.detector ++ of_decision t.decision

abbrev pub of_loops : Loops → List Float
of_loops l = l.slow.0 ∷ l.mid.0 ∷ l.fast.0 ∷ l.hold_remaining_seconds ∷ []

-- of the bed's channels after the first
abbrev pub of_channel : Channel → List Float
of_channel c = c.shelf.z1 ∷ c.shelf.z2 ∷ c.high_pass.z1 ∷ c.high_pass.z2 ∷ c.fast ∷ []

abbrev pub of_channels : List Channel → List Float
of_channels [] = []
of_channels (c ∷ cs) = of_channel c ++ of_channels cs

unfoldable pub numbers_of : Chain → List Float
numbers_of c = of_settings c.settings ++ of_strand c.key ++ of_strand c.bed ++ of_loops c.loops ++ of_channels c.surround.others
