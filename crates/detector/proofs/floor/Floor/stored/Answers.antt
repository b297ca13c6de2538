-- `Floor::stored` meets its contract.
use Rattle.std.proofs.Common.{sym, le-ltb, lt-ltb}
use Rattle.detector.specs.Floor.{stored_of}
use Rattle.detector.proofs.floor.Floor.stored.Goals as goal

pub returns-then-self : goal.returns-then-self
unfolding stored_of
returns-then-self c =
    simp (lt-ltb _ _ c.if-self.true)

pub returns : goal.returns
unfolding stored_of
returns c =
    simp (
      sym c.push.ensures,
      le-ltb _ _ c.if-self.false,
    )
