-- `migrate::migrate::migrate` meets its contract: refused with the first cause that is met, the arrays left; else the load and the rights go over. Assumes nothing.
use Rattle.std.proofs.lemmas.Result.{err_from_is_err_and}
use Rattle.migrate.proofs.MigrateSteps.{uneven, early_refused, load_there, losses, too_much, load_needs, rights_needs, migrated_steps}
use Rattle.migrate.proofs.migrate.migrate.Goals as goal

pub returns-in_default : goal.returns-in_default
returns-in_default c m e r = uneven _ _ _ _ c.args.columns m e r c.in_default.ensures

pub returns-in_err-check_lines : goal.returns-in_err-check_lines
returns-in_err-check_lines c m e r =
    let p = err_from_is_err_and c.from_residual.result c.from_residual.ensures.1 in
    rw (p.1, p.2) (early_refused _ _ _ _ _ m e r c.in-Some.lines c.in-Some.ensures _ (c.in_err-check_lines.ensures m e r))

pub transfer_of-x-requires : goal.transfer_of-x-requires
transfer_of-x-requires c =
    let k = c.requires in load_there _ _ _ _ _ _ _ k.reachable c.in-Some.lines c.in-Some.ensures (c.in_ok-check_lines.ensures _ _ k.reachable)

pub loss_exceeds_load-requires : goal.loss_exceeds_load-requires
loss_exceeds_load-requires c =
    let k = c.requires in losses _ _ _ _ _ _ _ k.reachable c.in-Some.lines c.in-Some.ensures (c.in_ok-check_lines.ensures _ _ k.reachable) _ c.transfer_of-x.ensures

pub returns-then-loss_exceeds_load : goal.returns-then-loss_exceeds_load
returns-then-loss_exceeds_load c m e r =
    too_much _ _ _ _ _ m e r c.in-Some.lines c.in-Some.ensures (c.in_ok-check_lines.ensures m e r) _ c.transfer_of-x.ensures _ c.loss_exceeds_load.ensures c.if-loss_exceeds_load.true

pub transfer_load-requires : goal.transfer_load-requires
transfer_load-requires c =
    let k = c.requires in load_needs _ _ _ _ _ _ _ k.reachable c.in-Some.lines c.in-Some.ensures (c.in_ok-check_lines.ensures _ _ k.reachable) _ c.transfer_of-x.ensures _ c.loss_exceeds_load.ensures c.if-loss_exceeds_load.false

pub transfer_rights-requires : goal.transfer_rights-requires
transfer_rights-requires c =
    let k = c.requires in rights_needs _ _ _ _ _ _ _ k.reachable c.in-Some.lines c.in-Some.ensures (c.in_ok-check_lines.ensures _ _ k.reachable) _ c.transfer_of-x.ensures _ c.loss_exceeds_load.ensures c.if-loss_exceeds_load.false _ c.transfer_load.ensures

pub returns : goal.returns
returns c m e r =
    migrated_steps _ _ _ _ _ m e r c.in-Some.lines c.in-Some.ensures (c.in_ok-check_lines.ensures m e r) _ c.transfer_of-x.ensures _ c.loss_exceeds_load.ensures c.if-loss_exceeds_load.false _ _ c.transfer_load.ensures c.transfer_rights.ensures
