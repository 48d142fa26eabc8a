-- The plain ledger's figures (01, The plain ledger; 02, 1/14), as functions of the holder and of what the figure is kept for.
use Rattle.std.specs.Prelude.{ℕ, Bool, false}
use Rattle.source_evidence.specs.declared.evidence.Entry.{Entry}
use Rattle.source_evidence.specs.Evidence.{empty_entry}

-- by holder, sink and term: the load, and whether one was posted
pub record Loads : Type 0 where
  pub kw : ℕ → ℕ → ℕ → ℕ
  pub posted : ℕ → ℕ → ℕ → Bool

-- by holder, path and month: the carried and the awarded kW; by holder and path: whether a carry was posted
pub record Rights : Type 0 where
  pub carried : ℕ → ℕ → ℕ → ℕ
  pub awarded : ℕ → ℕ → ℕ → ℕ
  pub posted : ℕ → ℕ → Bool

-- by holder and path: last year's allocation a, what of it is left beside Long Term rights (a − l), and whether a prior was posted
pub record Priors : Type 0 where
  pub allocated : ℕ → ℕ → ℕ
  pub remaining : ℕ → ℕ → ℕ
  pub posted : ℕ → ℕ → Bool

-- by holder, source and kind of evidence: the entry, and whether one was posted
pub record EvidenceRecord : Type 0 where
  pub entry : ℕ → ℕ → ℕ → Entry
  pub posted : ℕ → ℕ → ℕ → Bool

-- by holder, path and tier: the kW nominated and the kW awarded, where tier 10 is the Long Term step's own record; the tier last closed, and the open one
-- (0 is none), and whether the step was held
pub record Tiers : Type 0 where
  pub nominated : ℕ → ℕ → ℕ → ℕ
  pub awards : ℕ → ℕ → ℕ → ℕ
  pub last_closed : ℕ
  pub current_tier : ℕ
  pub step_held : Bool

pub record Ledger : Type 0 where
  pub loads : Loads
  pub rights : Rights
  pub priors : Priors
  pub evidence : EvidenceRecord
  pub tiers : Tiers

-- all starts at 0 or empty
unfoldable pub empty_ledger : Ledger
empty_ledger =
    record {
      loads = record { kw = λ h s t. 0; posted = λ h s t. false };
      rights = record { carried = λ h p m. 0; awarded = λ h p m. 0; posted = λ h p. false };
      priors = record { allocated = λ h p. 0; remaining = λ h p. 0; posted = λ h p. false };
      evidence = record { entry = λ h s k. empty_entry; posted = λ h s k. false };
      tiers = record { nominated = λ h p t. 0; awards = λ h p t. 0; last_closed = 0; current_tier = 0; step_held = false };
    }

-- a ledger with one of its parts replaced
unfoldable pub with_loads : Ledger → Loads → Ledger
with_loads L x = record { loads = x; rights = L.rights; priors = L.priors; evidence = L.evidence; tiers = L.tiers }

unfoldable pub with_rights : Ledger → Rights → Ledger
with_rights L x = record { loads = L.loads; rights = x; priors = L.priors; evidence = L.evidence; tiers = L.tiers }

unfoldable pub with_priors : Ledger → Priors → Ledger
with_priors L x = record { loads = L.loads; rights = L.rights; priors = x; evidence = L.evidence; tiers = L.tiers }

unfoldable pub with_evidence : Ledger → EvidenceRecord → Ledger
with_evidence L x = record { loads = L.loads; rights = L.rights; priors = L.priors; evidence = x; tiers = L.tiers }

unfoldable pub with_tiers : Ledger → Tiers → Ledger
with_tiers L x = record { loads = L.loads; rights = L.rights; priors = L.priors; evidence = L.evidence; tiers = x }
