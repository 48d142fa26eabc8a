-- No migration takes more from a record than it has, in every ledger that calls lead to. Assumes nothing.
use Prim.Native.Nat.{ℕ, ◌+◌, ◌≤◌, ◌<◌}
use mathlib.Core.Path.{◌≡◌, refl, sym, subst}
use mathlib.Core.Bool.{Bool, true, false, cond, not, ◌&&◌}
use mathlib.Core.List.{List}
use native.Mathlib.Nat.{le_trans, le_of_eq}
use native.Mathlib.Omega.{arith}
use lib.Dec.{eqb}
use borrow.Author.Tests.{eqb-true}
use Rattle.netting.specs.declared.netting.ClassLine.{ClassLine}
use Rattle.tariff.specs.Sum.{when_true}
use Rattle.tariff.specs.Terms.{has_month}
use Rattle.netting.specs.Migration.{netted, lost_by, shares}
use Rattle.tariff.proofs.Tests.{and_both}
use Rattle.netting.proofs.Transfers.{transfer_entry}
use Rattle.ledger.specs.Opening.{Opening, has_base}
use Rattle.ledger.specs.Ledger.{Ledger}
use Rattle.ledger.specs.Call.{Call, migrate}
use Rattle.ledger.specs.Effects.{effect}
use Rattle.ledger.specs.Migration.{transferred_where, loads_after, rights_after, priors_after, load_before, load_after, column_after, migrated}
use Rattle.ledger.specs.Balance.{given, gained, load_gained, RecordBalance, HolderBalance}
use Rattle.ledger.specs.Season.{accepted, step, after}
use Rattle.ledger.proofs.Columns.{column_fits}
use Rattle.ledger.proofs.Steps.{step_accepted}
use Rattle.ledger.proofs.TierFacts.{migrate_facts}

module _ (o : Opening) (L : Ledger) (term sink : ℕ) (lines : List ClassLine) (fits : (i : ℕ) → i < o.holders → lost_by o.holders (netted lines) i ≤ load_before L term sink i) where
  -- a record that moves where a test passes
  taken : (t : Bool) (v : ℕ → ℕ) (i : ℕ) → i < o.holders → RecordBalance o L term sink lines t v (cond t (column_after o L term sink lines v i) (v i)) i
  unfolding when_true given gained column_after
  taken true v i l =
      record {
        covers = column_fits o L term sink lines fits v i l;
        balance = transfer_entry o.holders (shares (netted lines) (load_before L term sink) v) v i (column_fits o L term sink lines fits v i l);
      }
  taken false v i l = record { covers = omega arith; balance = refl }

  -- the load, which moves by m
  load-balance : (t : Bool) (v : ℕ → ℕ) (i : ℕ) → i < o.holders → (t ≡ true → v i ≡ load_before L term sink i) → cond t (load_after o lines v i) (v i) + when_true t (lost_by o.holders (netted lines) i) ≡ v i + when_true t (load_gained o L term sink lines i)
  unfolding when_true load_gained load_after lost_by
  load-balance true v i l same = transfer_entry o.holders (netted lines) v i (le_trans (fits i l) (le_of_eq (sym (same refl))))
  load-balance false v i l same = refl

  moved-balance : (i : ℕ) → i < o.holders → HolderBalance o L term sink lines (migrated o L term sink lines) i
  unfolding migrated loads_after rights_after priors_after transferred_where load_before
  moved-balance i l =
      record {
        load_covers = fits i l;
        loads = λ s t. load-balance (eqb s sink && eqb t term) (λ h. L.loads.kw h s t) i l (λ e. let same = and_both (eqb s sink) (eqb t term) e in λ k. L.loads.kw i (eqb-true s sink same.0 k) (eqb-true t term same.1 k));
        carried = λ p m. taken (has_base o sink p && has_month term m) (λ h. L.rights.carried h p m) i l;
        awarded = λ p m. taken (has_base o sink p && has_month term m && not (eqb term 0)) (λ h. L.rights.awarded h p m) i l;
        allocated = λ p. taken (has_base o sink p && eqb term 0) (λ h. L.priors.allocated h p) i l;
        remaining = λ p. taken (has_base o sink p && eqb term 0) (λ h. L.priors.remaining h p) i l;
      }

pub never_below_zero_lem : (o : Opening) (cs : List Call) (term sink : ℕ) (lines : List ClassLine) → accepted o (after o cs) (migrate term sink lines) ≡ true → (i : ℕ) → i < o.holders → HolderBalance o (after o cs) term sink lines (step o (after o cs) (migrate term sink lines)) i
unfolding effect
never_below_zero_lem o cs term sink lines e i l =
    subst (λ N. HolderBalance o (after o cs) term sink lines N i) (sym (step_accepted o (after o cs) (migrate term sink lines) e))
    (moved-balance o (after o cs) term sink lines (migrate_facts o (after o cs) term sink lines e).fits i l)
