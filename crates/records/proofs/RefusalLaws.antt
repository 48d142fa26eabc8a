-- Laws of the refusals' numbers. Assumes nothing.
use Prim.Native.Nat.{◌≤◌}
use mathlib.Core.Path.{◌≡◌, refl}
use native.Mathlib.Omega.{arith}
use Rattle.records.specs.declared.refusal.Refusal.{Refusal}
use Rattle.records.specs.declared.refusal.Refusal.TheVariants.{Unreadable, NotInBook, OutOfRange, NotAtThisTime, PostedBefore, BrokenBlocks, HoursMissing, NotBetweenLses, LossAboveLoad, SinkIneligible, AboveVerified, AbovePrior, AboveLimit, AboveNominated, OutputTooShort, BreaksRules, AboveTier1Award, NoTenYearEvidence, Unverified}
use Rattle.records.specs.Refusals.{number_of, refusal_of, refusals}

-- the refusal of a refusal's number
pub refusal_back : (r : Refusal) → refusal_of (number_of r) ≡ r
unfolding refusal_of refusals
refusal_back Unreadable = refl
refusal_back NotInBook = refl
refusal_back OutOfRange = refl
refusal_back NotAtThisTime = refl
refusal_back PostedBefore = refl
refusal_back BrokenBlocks = refl
refusal_back HoursMissing = refl
refusal_back NotBetweenLses = refl
refusal_back LossAboveLoad = refl
refusal_back SinkIneligible = refl
refusal_back AboveVerified = refl
refusal_back AbovePrior = refl
refusal_back AboveLimit = refl
refusal_back AboveNominated = refl
refusal_back OutputTooShort = refl
refusal_back BreaksRules = refl
refusal_back AboveTier1Award = refl
refusal_back NoTenYearEvidence = refl
refusal_back Unverified = refl

-- each number is 1 to 19
pub numbered : (r : Refusal) → (1 ≤ number_of r) × (number_of r ≤ 19)
numbered r = grind (arith)
