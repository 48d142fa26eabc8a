-- `load_metric::load::metric_of_blocks` meets its contract. Assumes nothing.
use Rattle.std.proofs.Common.{◌≡◌, arith}
use Rattle.load_metric.proofs.Found.{most_above, limit_is, stand_highest, goes_down, goes_up, ends}
use Rattle.load_metric.proofs.load.metric_of_blocks.Goals as goal
use Rattle.load_metric.proofs.load.metric_of_blocks.Goals.{At-loop-below}

limit : (c : At-loop-below) → c.min-most_above.result ≡ most_above c.args.exceedance_hours c.args.blocks.now
limit c = limit_is _ _ c.requires.covered c.saturating_sub.ensures c.min-most_above.ensures

pub loop-below-init : goal.loop-below-init
loop-below-init c = (rw c.highest-kw.ensures (stand_highest c.args.exceedance_hours c.args.blocks.now c.requires.some), c.level_below-below.ensures)

pub loop-below-smaller : goal.loop-below-smaller
loop-below-smaller c =
    let l = c.loop-below in
    let up = goes_up _ _ c.requires.each_has_hours _ l.invariant.0 l.invariant.1 (limit (goal.at.loop-below-smaller c).At-loop-below) c.loop-below-test.true c.level_below-below-in-loop-below.ensures in
    omega (arith, c.loop-below-test.true)

pub loop-below-preserved : goal.loop-below-preserved
loop-below-preserved c =
    let l = c.loop-below in
    (goes_down _ _ c.requires.each_has_hours _ l.invariant.0 l.invariant.1 (limit (goal.at.loop-below-preserved c).At-loop-below) c.loop-below-test.true, c.level_below-below-in-loop-below.ensures)

pub returns : goal.returns
returns c = ends _ _ c.requires.each_has_hours _ c.loop-below.invariant.0 c.loop-below.invariant.1 (limit (goal.at.returns c).At-loop-below) c.loop-below-test.false
