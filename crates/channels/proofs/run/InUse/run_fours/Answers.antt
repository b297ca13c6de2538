-- `InUse::run_fours` meets its contract: each four is right.
use Rattle.channels.specs.Runs.{Right}
use Rattle.channels.proofs.Runs.{put-four-right, below-most}
use Rattle.channels.proofs.run.InUse.run_fours.Goals as goal

pub returns-in_default-next_four : goal.returns-in_default-next_four
returns-in_default-next_four c =
    let a = c.args in
    λ ok. put-four-right a.self.now.channels a.self.now.xs.now a.run c.put_four-more.result c.run_four.result c.in-Some.f c.put_four-more.ensures ok c.run_four.ensures
    (below-most a.self.now.count c.in-Some.f a.self.now.within c.in-Some.ensures)

pub returns : goal.returns
returns c =
    let a = c.args in
    λ ok.
    let more : Right a.self.now.channels a.self.now.xs.now c.put_four-more.result =
    put-four-right a.self.now.channels a.self.now.xs.now a.run c.put_four-more.result c.run_four.result c.in-Some.f c.put_four-more.ensures ok c.run_four.ensures
    (below-most a.self.now.count c.in-Some.f a.self.now.within c.in-Some.ensures) in
    put-four-right a.self.now.channels a.self.now.xs.now c.put_four-more.result c.put_four.result c.run_four-2.result c.in-Some-next_four.g c.put_four.ensures more c.run_four-2.ensures
    (below-most a.self.now.count c.in-Some-next_four.g a.self.now.within c.in-Some-next_four.ensures)
