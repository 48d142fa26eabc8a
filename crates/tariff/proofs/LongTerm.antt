-- Laws of the part of a load that the Long Term step is for, by the holder and its ten-year evidence. Assumes nothing.
use Prim.Native.Nat.{◌≤◌, ◌<◌, min}
use mathlib.Core.Path.{◌≡◌}
use mathlib.Core.Bool.{true, false}
use borrow.Author.Tests.{lt-ltb, le-ltb}
use Rattle.tariff.specs.declared.settings.Settings.{Settings}
use Rattle.tariff.specs.declared.limit.Sums.{Sums}
use Rattle.tariff.specs.Eligible.{eligible_without_evidence, eligible_with_evidence}
use Rattle.tariff.specs.Limit.{eligible_by_evidence, long_term_of_lse, long_term_eligible}

module _ (settings : Settings) (s : Sums) where
  pub share_obaalse : s.obaalse ≡ true → long_term_eligible settings s ≡ eligible_with_evidence settings s.load
  unfolding long_term_eligible
  share_obaalse e = rw e

  -- evidence that reaches the fifth fraction and does not pass it changes nothing
  pub share_without : s.obaalse ≡ false → s.ten_year_kw ≤ eligible_without_evidence settings s.load → long_term_eligible settings s ≡ eligible_without_evidence settings s.load
  unfolding long_term_eligible long_term_of_lse
  share_without e l = rw (e, le-ltb (eligible_without_evidence settings s.load) s.ten_year_kw l)

  -- and where it passes, it is held to the sixth, also where that is below the fifth
  pub share_by_evidence : s.obaalse ≡ false → eligible_without_evidence settings s.load < s.ten_year_kw → long_term_eligible settings s ≡ min s.ten_year_kw (eligible_with_evidence settings s.load)
  unfolding long_term_eligible long_term_of_lse eligible_by_evidence
  share_by_evidence e l = rw (e, lt-ltb (eligible_without_evidence settings s.load) s.ten_year_kw l)
