-- What a migration takes from a holder's records and adds to them (01, The plain ledger: no migration takes more from a record than it has).
-- Said by sums alone: a difference that stops at 0 could hide a loss.
use Rattle.std.specs.Prelude.{ℕ, ◌+◌, ◌≤◌, ◌≡◌, Bool, not, ◌&&◌, List, eqb}
use Rattle.netting.specs.declared.netting.ClassLine.{ClassLine}
use Rattle.tariff.specs.Sum.{when_true, sum_to}
use Rattle.tariff.specs.Terms.{has_month}
use Rattle.netting.specs.Migration.{netted, lost_by, shares}
use Rattle.ledger.specs.Opening.{Opening, has_base}
use Rattle.ledger.specs.Ledger.{Ledger}
use Rattle.ledger.specs.Migration.{load_before}

module _ (o : Opening) (L : Ledger) (term sink : ℕ) (lines : List ClassLine) where
  -- what holder i gives of its record to all others, and what it gains of theirs; v is the holders' column of records before the call
  unfoldable pub given : (ℕ → ℕ) → ℕ → ℕ
  given v i = sum_to o.holders (λ j. shares (netted lines) (load_before L term sink) v i j)

  unfoldable pub gained : (ℕ → ℕ) → ℕ → ℕ
  gained v i = sum_to o.holders (λ j. shares (netted lines) (load_before L term sink) v j i)

  -- the load that holder i gains; what it gives is `lost_by`
  unfoldable pub load_gained : ℕ → ℕ
  load_gained i = sum_to o.holders (λ j. netted lines j i)

  -- a record of holder i: what it gives is no more than it has, and what it has afterwards with what it gave is what it had with what it gained;
  -- one that does not take part gives and gains nothing
  pub record RecordBalance (takes_part : Bool) (v : ℕ → ℕ) (afterwards i : ℕ) : Type 0 where
    pub covers : when_true takes_part (given v i) ≤ v i
    pub balance : afterwards + when_true takes_part (given v i) ≡ v i + when_true takes_part (gained v i)

  -- every record of holder i, from the ledger L before the call to the ledger N after it
  pub record HolderBalance (N : Ledger) (i : ℕ) : Type 0 where
    pub load_covers : lost_by o.holders (netted lines) i ≤ L.loads.kw i sink term
    pub loads : (s t : ℕ) → N.loads.kw i s t + when_true (eqb s sink && eqb t term) (lost_by o.holders (netted lines) i) ≡ L.loads.kw i s t + when_true (eqb s sink && eqb t term) (load_gained i)
    pub carried : (p m : ℕ) → RecordBalance (has_base o sink p && has_month term m) (λ h. L.rights.carried h p m) (N.rights.carried i p m) i
    pub awarded : (p m : ℕ) → RecordBalance (has_base o sink p && has_month term m && not (eqb term 0)) (λ h. L.rights.awarded h p m) (N.rights.awarded i p m) i
    pub allocated : (p : ℕ) → RecordBalance (has_base o sink p && eqb term 0) (λ h. L.priors.allocated h p) (N.priors.allocated i p) i
    pub remaining : (p : ℕ) → RecordBalance (has_base o sink p && eqb term 0) (λ h. L.priors.remaining h p) (N.priors.remaining i p) i
