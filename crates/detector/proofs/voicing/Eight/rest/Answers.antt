-- `Eight::rest` meets its contract: what is left of each lag but the longest, which has nothing left.
use Rattle.std.proofs.Common.{◌+◌, ◌∙◌, [], ◌∷◌, arith}
use Rattle.detector.proofs.Lagged.{products-end, products-left}
use Rattle.detector.proofs.voicing.Eight.rest.Goals as goal

pub returns : goal.returns
returns c =
    let a = c.args in
    λ l k.
    (c.products.ensures ∙ products-left a.self.s0 a.x.now a.i (a.i + a.lag) (a.i + a.lag) (omega arith) ∙ l.left0) k
    ∷ (c.products-2.ensures ∙ products-left a.self.s1 a.x.now a.i (a.i + a.lag + 1) (a.i + (a.lag + 1)) (omega arith) ∙ l.left1) k
    ∷ (c.products-3.ensures ∙ products-left a.self.s2 a.x.now a.i (a.i + a.lag + 2) (a.i + (a.lag + 2)) (omega arith) ∙ l.left2) k
    ∷ (c.products-4.ensures ∙ products-left a.self.s3 a.x.now a.i (a.i + a.lag + 3) (a.i + (a.lag + 3)) (omega arith) ∙ l.left3) k
    ∷ (c.products-5.ensures ∙ products-left a.self.s4 a.x.now a.i (a.i + a.lag + 4) (a.i + (a.lag + 4)) (omega arith) ∙ l.left4) k
    ∷ (c.products-6.ensures ∙ products-left a.self.s5 a.x.now a.i (a.i + a.lag + 5) (a.i + (a.lag + 5)) (omega arith) ∙ l.left5) k
    ∷ (c.products-7.ensures ∙ products-left a.self.s6 a.x.now a.i (a.i + a.lag + 6) (a.i + (a.lag + 6)) (omega arith) ∙ l.left6) k
    ∷ (products-end a.self.s7 a.x.now a.i (a.lag + 7) _ (omega arith) l.left7) k
    ∷ []
