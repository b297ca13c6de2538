-- `Eight::more` meets its contract: one product more for each lag.
use Rattle.std.proofs.Common.{◌+◌, arith}
use Rattle.detector.proofs.Lagged.{products-turn}
use Rattle.detector.proofs.voicing.Eight.more.Goals as goal

pub returns : goal.returns
returns c =
    let a = c.args in
    λ l. record {
      left0 = products-turn a.self.s0 a.x.now a.i _ a.lag _ (omega arith) (omega arith) l.left0;
      left1 = products-turn a.self.s1 a.x.now a.i _ (a.lag + 1) _ (omega arith) (omega arith) l.left1;
      left2 = products-turn a.self.s2 a.x.now a.i _ (a.lag + 2) _ (omega arith) (omega arith) l.left2;
      left3 = products-turn a.self.s3 a.x.now a.i _ (a.lag + 3) _ (omega arith) (omega arith) l.left3;
      left4 = products-turn a.self.s4 a.x.now a.i _ (a.lag + 4) _ (omega arith) (omega arith) l.left4;
      left5 = products-turn a.self.s5 a.x.now a.i _ (a.lag + 5) _ (omega arith) (omega arith) l.left5;
      left6 = products-turn a.self.s6 a.x.now a.i _ (a.lag + 6) _ (omega arith) (omega arith) l.left6;
      left7 = products-turn a.self.s7 a.x.now a.i _ (a.lag + 7) _ (omega arith) (omega arith) l.left7;
    }
