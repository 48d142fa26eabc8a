-- Cases of missing and of short evidence (02, 2/14): for each what the definitions give, and the answers that its sentences come to.
use Rattle.std.specs.Prelude.{List, [], ◌∷◌, ◌++◌, replicate}
use Rattle.ledger.specs.Opening.{lse, obaalse, default_lap, scheduling_point}
use Rattle.ledger.specs.Call.{prior, verify, open_tier, nominate, close_tier}
use Rattle.ledger.specs.Season.{Request, call, done, refused, season}
use Rattle.ledger.specs.Marked.{Case, one_sink, steady_load, pass_tier, full_tier}

-- An OBAALSE with four sources: source 0 has no evidence, source 1 a contract for months 1 and 2, source 2 owned capacity for the season that comes to
-- 0 kW, source 3 a contract of 100 kW for the season
unfoldable pub four_sources : List Request
four_sources =
    steady_load 0 0 1000
    ∷ steady_load 0 1 1000
    ∷ steady_load 0 3 1000
    ∷ call (verify 0 1 2 100 100 1 2 0)
    ∷ call (verify 0 2 1 1 1 1 3 0)
    ∷ call (verify 0 3 2 100 100 1 3 0)
    ∷ pass_tier 1

-- In tier 2, whose limit is 500, no entry for the season is 19, whatever is asked for; 0 kW, too little and used up are 11. In month 1 source 1 has evidence,
-- and in month 3 it has none.
unfoldable pub evidence_case1 : Case
evidence_case1 =
    record {
      given =
          season (one_sink (obaalse ∷ []) 4 scheduling_point)
          (four_sources
          ++ (call (open_tier 2)
          ∷ call (nominate 0 0 1)
          ∷ call (nominate 0 0 501)
          ∷ call (nominate 0 1 1)
          ∷ call (nominate 0 2 1)
          ∷ call (nominate 0 3 101)
          ∷ call (nominate 0 3 100)
          ∷ call (nominate 0 3 1)
          ∷ call close_tier
          ∷ (pass_tier 3
          ++ (call (open_tier 4)
          ∷ call (nominate 0 0 1)
          ∷ call (nominate 0 1 101)
          ∷ call (nominate 0 1 100)
          ∷ call close_tier
          ∷ (pass_tier 5
          ++ pass_tier 6
          ++ pass_tier 7
          ++ (call (open_tier 8) ∷ call (nominate 0 1 1) ∷ call (nominate 0 2 1) ∷ []))))));
      expected =
          replicate 10 done
          ++ (refused 19
          ∷ refused 19
          ∷ refused 19
          ∷ refused 11
          ∷ refused 11
          ∷ done
          ∷ refused 11
          ∷ done
          ∷ done
          ∷ done
          ∷ done
          ∷ refused 19
          ∷ refused 11
          ∷ done
          ∷ (replicate 8 done ++ (refused 19 ∷ refused 11 ∷ [])));
    }

-- An OBAALSE that files evidence after tier 1, in which it is refused with 19 also above its a − l; in the step a source without evidence and without a
-- tier 1 award is 17, and one with an award and no ten-year evidence is 18
unfoldable pub evidence_case2 : Case
evidence_case2 =
    record {
      given =
          season (one_sink (obaalse ∷ []) 2 scheduling_point)
          (steady_load 0 0 1000
          ∷ call (prior 0 0 300 0)
          ∷ call (open_tier 1)
          ∷ call (nominate 0 0 1)
          ∷ call (nominate 0 0 301)
          ∷ call close_tier
          ∷ call (verify 0 0 2 5 5 1 3 0)
          ∷ call (open_tier 2)
          ∷ call (nominate 0 0 6)
          ∷ call (nominate 0 0 5)
          ∷ [])
          ++ season (one_sink (obaalse ∷ []) 2 scheduling_point)
          (steady_load 0 0 1000
          ∷ call (prior 0 0 300 0)
          ∷ call (verify 0 0 2 300 300 1 3 0)
          ∷ (full_tier 1 0 300 ++ (call (open_tier 10) ∷ call (nominate 0 1 1) ∷ call (nominate 0 0 1) ∷ [])));
      expected =
          replicate 4 done
          ++ (refused 19
          ∷ refused 19
          ∷ done
          ∷ done
          ∷ done
          ∷ refused 11
          ∷ done
          ∷ (replicate 9 done ++ (refused 17 ∷ refused 18 ∷ [])));
    }

-- an LSE verifies no source
unfoldable pub evidence_case3 : Case
evidence_case3 =
    record {
      given = season (one_sink (lse ∷ []) 1 default_lap) (steady_load 0 0 1000 ∷ (pass_tier 1 ++ (call (open_tier 2) ∷ call (nominate 0 0 500) ∷ [])));
      expected = replicate 6 done;
    }

unfoldable pub evidence_cases : List Case
evidence_cases = evidence_case1 ∷ evidence_case2 ∷ evidence_case3 ∷ []
