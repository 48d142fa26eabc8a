-- A migration at a sink and term, over the ledger's records (01, Migration).
use Rattle.std.specs.Prelude.{ℕ, Bool, cond, not, ◌&&◌, List, eqb}
use Rattle.netting.specs.declared.netting.ClassLine.{ClassLine}
use Rattle.tariff.specs.Terms.{has_month}
use Rattle.netting.specs.Migration.{netted, shares, transferred}
use Rattle.ledger.specs.Opening.{Opening, has_base}
use Rattle.ledger.specs.Ledger.{Ledger, Loads, Rights, Priors}

-- records of which those at some places are transferred: each place has a column of the holders' records, which changes as one
unfoldable pub transferred_where : (ℕ → ℕ → Bool) → ((ℕ → ℕ) → ℕ → ℕ) → (ℕ → ℕ → ℕ → ℕ) → ℕ → ℕ → ℕ → ℕ
transferred_where takes_part column records h p k = cond (takes_part p k) (column (λ i. records i p k) h) (records h p k)

-- the load at the sink and term moves
unfoldable pub loads_after : ℕ → ℕ → ((ℕ → ℕ) → ℕ → ℕ) → Loads → Loads
loads_after term sink column x = record { kw = transferred_where (λ s t. eqb s sink && eqb t term) column x.kw; posted = x.posted }

module _ (o : Opening) (term sink : ℕ) (column : (ℕ → ℕ) → ℕ → ℕ) where
  -- on the paths whose sink has that base: in term 0 the carried holdings of the three months move, in month k that month's carried and awarded ones
  unfoldable pub rights_after : Rights → Rights
  rights_after x =
      record {
        carried = transferred_where (λ p m. has_base o sink p && has_month term m) column x.carried;
        awarded = transferred_where (λ p m. has_base o sink p && has_month term m && not (eqb term 0)) column x.awarded;
        posted = x.posted;
      }

  -- in term 0 prior's a and a − l move, each apart
  unfoldable pub priors_after : Priors → Priors
  priors_after x =
      record {
        allocated = λ h p. cond (has_base o sink p && eqb term 0) (column (λ i. x.allocated i p) h) (x.allocated h p);
        remaining = λ h p. cond (has_base o sink p && eqb term 0) (column (λ i. x.remaining i p) h) (x.remaining h p);
        posted = x.posted;
      }

-- L of 01: a holder's load at the sink and term before the call
unfoldable pub load_before : Ledger → ℕ → ℕ → ℕ → ℕ
load_before L term sink h = L.loads.kw h sink term

-- the load moves by m
unfoldable pub load_after : Opening → List ClassLine → (ℕ → ℕ) → ℕ → ℕ
load_after o lines v = transferred o.holders (netted lines) v

module _ (o : Opening) (L : Ledger) (term sink : ℕ) (lines : List ClassLine) where
  -- any other record by its shares, every share of the value before the call
  unfoldable pub column_after : (ℕ → ℕ) → ℕ → ℕ
  column_after v = transferred o.holders (shares (netted lines) (load_before L term sink) v) v

  unfoldable pub migrated : Ledger
  migrated =
      record {
        loads = loads_after term sink (load_after o lines) L.loads;
        rights = rights_after o term sink column_after L.rights;
        priors = priors_after o term sink column_after L.priors;
        evidence = L.evidence;
        tiers = L.tiers;
      }
