-- What number 19 changes (02, 2/14): a nomination that was refused with 11 may be refused with 19, and nothing else. Said beside a ledger that has every
-- cause but 19.
use Rattle.std.specs.Prelude.{ℕ, ◌≡◌, Bool, cond, List, [], ◌∷◌, eqb}
use Rattle.ledger.specs.Opening.{Opening}
use Rattle.ledger.specs.Call.{Call}
use Rattle.ledger.specs.Ledger.{Ledger, empty_ledger}
use Rattle.ledger.specs.Numbers.{above_verified, unverified, Cause, cause, first_met}
use Rattle.ledger.specs.Causes.{call_causes, refusal}
use Rattle.ledger.specs.Effects.{effect}
use Rattle.ledger.specs.Season.{accepted, after}

-- the causes of a list but those of this number
unfoldable pub without_number : ℕ → List Cause → List Cause
without_number n [] = []
without_number n (cause number met ∷ later) = cond (eqb number n) (without_number n later) (cause number met ∷ without_number n later)

-- without 19: the refusal of a call, whether it is accepted, the ledger after it, and after a list of calls
module _ (o : Opening) where
  unfoldable pub refusal_without : Ledger → Call → ℕ
  refusal_without L c = first_met (without_number unverified (call_causes o L c))

  unfoldable pub accepted_without : Ledger → Call → Bool
  accepted_without L c = eqb (refusal_without L c) 0

  unfoldable pub step_without : Ledger → Call → Ledger
  step_without L c = cond (accepted_without L c) (effect o L c) L

  unfoldable pub after_without : Ledger → List Call → Ledger
  after_without L [] = L
  after_without L (c ∷ cs) = after_without (step_without L c) cs

pub record NumberSplit : Type 0 where
  -- in every ledger a call is accepted exactly if it is without 19 ..
  pub accepted_alike : (o : Opening) (L : Ledger) (c : Call) → accepted o L c ≡ accepted_without o L c
  -- .. and where it is refused with another number, that number was 11 and is 19
  pub renumbered : (o : Opening) (L : Ledger) (c : Call) → (refusal o L c ≡ refusal_without o L c → ⊥) → (refusal_without o L c ≡ above_verified) × (refusal o L c ≡ unverified)
  -- so every list of calls leads to the same ledger, and every figure, sum and limit of it is what it was
  pub same_ledger : (o : Opening) (cs : List Call) → after o cs ≡ after_without o empty_ledger cs
