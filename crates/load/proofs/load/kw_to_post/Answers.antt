-- `load::load::kw_to_post` meets its contract: its tests are the causes, in their order, and past them the kW is the load posted. Assumes nothing.
use mathlib.Core.Path.{refl}
use native.Mathlib.Omega.{arith}
use Rattle.std.proofs.lemmas.Result.{err_from_is_err_and}
use Rattle.load_metric.specs.Metering.{block_refusal}
use Rattle.ledger.specs.Causes.{refusal, call_causes, load_causes}
use Rattle.ledger.specs.Numbers.{first_met}
use Rattle.slots.specs.Layout.{ledger_in}
use Rattle.slots.proofs.CalendarLaws.{load_as_ledger}
use Rattle.slots.proofs.Reachable.{settings_known}
use Rattle.load.proofs.BlockLaws.{blocks_refused, blocks_posted, posted_in_term}
use Rattle.load.proofs.load.kw_to_post.Goals as goal

pub legal_settings-requires : goal.legal_settings-requires
legal_settings-requires c = settings_known _ _ _ _ c.requires.reachable refl

pub returns-in_err-kw-clause-refused : goal.returns-in_err-kw-clause-refused
unfolding refusal call_causes load_causes first_met ledger_in block_refusal
returns-in_err-kw-clause-refused c x r =
    let p = err_from_is_err_and c.from_residual.result c.from_residual.ensures.1 in
    let refused = blocks_refused _ _ c.legal_settings.ensures _ _ _ c.in_err-kw.field-0.0 c.in_err-kw.ensures in
    rw (p.1, p.2) (grind (arith, load_as_ledger, posted_in_term, refused))

pub returns-then-kind_ineligible-clause-refused : goal.returns-then-kind_ineligible-clause-refused
unfolding refusal call_causes load_causes first_met ledger_in
returns-then-kind_ineligible-clause-refused c x r =
    let given = blocks_posted _ _ c.legal_settings.ensures _ _ _ c.in_ok-kw.kw c.in_ok-kw.ensures in
    grind (arith, load_as_ledger, posted_in_term, given)

pub returns-clause-refused : goal.returns-clause-refused
unfolding refusal call_causes load_causes first_met ledger_in
returns-clause-refused c x r =
    let given = blocks_posted _ _ c.legal_settings.ensures _ _ _ c.in_ok-kw.kw c.in_ok-kw.ensures in
    grind (arith, load_as_ledger, posted_in_term, given)

pub returns-clause-posted : goal.returns-clause-posted
returns-clause-posted c = (blocks_posted _ _ c.legal_settings.ensures _ _ _ c.in_ok-kw.kw c.in_ok-kw.ensures).2
