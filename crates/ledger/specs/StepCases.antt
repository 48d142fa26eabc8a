-- Cases of the Long Term step (02, 1/14): for each what the definitions give, and the answers and figures that its sentences come to.
use Rattle.std.specs.Prelude.{ℕ, List, [], ◌∷◌, ◌++◌, replicate}
use Rattle.tariff.specs.Settings.{present_settings}
use Rattle.ledger.specs.Opening.{Opening, lse, obaalse, default_lap, sub_lap, scheduling_point}
use Rattle.ledger.specs.Call.{load, carry, prior, verify, open_tier, nominate, award, close_tier, limit_of, held_on}
use Rattle.ledger.specs.Season.{Request, call, query, Answer, done, value, refused, season}
use Rattle.ledger.specs.Marked.{Case, block, steady_load, full_tier, one_sink}

-- an LSE; sinks 0 and 1 are bases of their own; paths 0 and 1 come from sources 0 and 1 to sink 0, path 2 from source 1 to sink 1
unfoldable pub two_bases : Opening
two_bases =
    record {
      holders = 1;
      sources = 2;
      sinks = 2;
      paths = 3;
      holder_kinds = lse ∷ [];
      sink_kinds = default_lap ∷ default_lap ∷ [];
      sink_parents = 0 ∷ 1 ∷ [];
      path_sources = 0 ∷ 1 ∷ 1 ∷ [];
      path_sinks = 0 ∷ 0 ∷ 1 ∷ [];
      settings = present_settings;
    }

-- holder 0 nominates so much on a path and is awarded all of it
unfoldable pub nominate_and_award : ℕ → ℕ → List Request
nominate_and_award p kw = call (nominate 0 p kw) ∷ call (award 0 p kw) ∷ []

-- Loads of 1,000 at both bases, 50 carried on path 0; source 0 has ten-year evidence of 240 kW, source 1 none. Tier 1 awards 200, 100 and 100.
unfoldable pub before1 : List Request
before1 =
    steady_load 0 0 1000
    ∷ call (load 0 1 0 0 100 (block 0 100 1000 ∷ []))
    ∷ call (carry 0 0 50)
    ∷ call (prior 0 0 400 0)
    ∷ call (prior 0 1 300 0)
    ∷ call (prior 0 2 300 0)
    ∷ call (verify 0 0 1 1000 2400 1 3 1)
    ∷ call (open_tier 10)
    ∷ call (open_tier 1)
    ∷ (nominate_and_award 0 200 ++ nominate_and_award 1 100 ++ nominate_and_award 2 100 ++ (call close_tier ∷ []))

unfoldable pub answers1 : List Answer
answers1 = replicate 8 done ++ (refused 4 ∷ replicate 8 done)

-- The step opens after tier 1, a refused try before it apart; its limit is the evidence less LT, 240 − 50. On path 0, 201 is above the tier 1 award: 17.
-- With 100 on path 1 the base has 150 of its fifth, 200. 51 more on path 0 pass it, and source 1 has no ten-year evidence: 18, also above the limit.
-- 50 more do not pass it, and nothing at the other base counts. The step's awards enter no holding; the step is over after its close, and tier 2 follows.
unfoldable pub step1 : List Request
step1 =
    call (open_tier 10)
    ∷ query (limit_of 0 0)
    ∷ call (nominate 0 0 201)
    ∷ call (nominate 0 1 100)
    ∷ call (nominate 0 0 51)
    ∷ call (nominate 0 0 91)
    ∷ call (nominate 0 0 50)
    ∷ call (nominate 0 2 100)
    ∷ call (nominate 0 1 1)
    ∷ call (award 0 0 50)
    ∷ call (award 0 0 1)
    ∷ query (held_on 0 0 1)
    ∷ call close_tier
    ∷ call (open_tier 10)
    ∷ call (open_tier 2)
    ∷ query (limit_of 0 0)
    ∷ []

unfoldable pub step_case1 : Case
step_case1 =
    record {
      given = season two_bases (before1 ++ step1);
      expected =
          answers1
          ++ (done
          ∷ value 190
          ∷ refused 17
          ∷ done
          ∷ refused 18
          ∷ refused 18
          ∷ done
          ∷ done
          ∷ refused 17
          ∷ done
          ∷ refused 14
          ∷ value 250
          ∷ done
          ∷ refused 4
          ∷ done
          ∷ value 150
          ∷ []);
    }

-- A load of 1,000 and evidence at one source: so much owned and marked or not, and a contract of 300 that is not marked. A tier 1 award of 300.
unfoldable pub with_evidence_of : ℕ → ℕ → List Request
with_evidence_of owned mark =
    steady_load 0 0 1000
    ∷ call (prior 0 0 400 0)
    ∷ call (verify 0 0 1 1000 owned 1 3 mark)
    ∷ call (verify 0 0 2 1000 300 1 3 0)
    ∷ (full_tier 1 0 300 ++ (call (open_tier 10) ∷ query (limit_of 0 0) ∷ []))

unfoldable pub step_limit : ℕ → ℕ → List Request → List Answer
step_limit owned mark requests = season (one_sink (lse ∷ []) 1 default_lap) (with_evidence_of owned mark ++ requests)

-- Evidence of a fifth, 200, changes nothing, 201 counts, 600 only to half the load, 500; without the mark it is a fifth.
-- At 240, 241 is above the limit, 13, and 240 is taken
unfoldable pub step_case2 : Case
step_case2 =
    record {
      given =
          step_limit 2000 1 []
          ++ step_limit 2010 1 []
          ++ step_limit 6000 1 []
          ++ step_limit 6000 0 []
          ++ step_limit 2400 1 (call (nominate 0 0 241) ∷ call (nominate 0 0 240) ∷ []);
      expected =
          replicate 10 done
          ++ (value 200
          ∷ replicate 10 done
          ++ (value 201 ∷ replicate 10 done ++ (value 500 ∷ replicate 10 done ++ (value 200 ∷ replicate 10 done ++ (value 240 ∷ refused 13 ∷ done ∷ [])))));
    }

-- An OBAALSE with a load of 1,000 and tier 1 awards of 100 from each of two sources, of which source 1 has no ten-year evidence: its limit is half the
-- load, its first kW needs evidence, and 11 does not apply, though it has used up what it has verified
unfoldable pub step_case3 : Case
step_case3 =
    record {
      given =
          season (one_sink (obaalse ∷ []) 2 scheduling_point)
          (steady_load 0 0 1000
          ∷ call (prior 0 0 100 0)
          ∷ call (prior 0 1 100 0)
          ∷ call (verify 0 0 2 100 100 1 3 1)
          ∷ call (verify 0 1 2 100 100 1 3 0)
          ∷ call (open_tier 1)
          ∷ (nominate_and_award 0 100
          ++ nominate_and_award 1 100
          ++ (call close_tier ∷ call (open_tier 10) ∷ query (limit_of 0 0) ∷ call (nominate 0 1 1) ∷ call (nominate 0 0 100) ∷ [])));
      expected = replicate 13 done ++ (value 500 ∷ refused 18 ∷ done ∷ []);
    }

-- Case 1 with the other base first: 100 from source 1 there are within its fifth. At sink 0, 190 and LT pass a fifth, and source 0 has ten-year evidence;
-- that source 1 has none is of no account at this base
unfoldable pub step_case4 : Case
step_case4 =
    record {
      given = season two_bases (before1 ++ (call (open_tier 10) ∷ call (nominate 0 2 100) ∷ call (nominate 0 0 191) ∷ call (nominate 0 0 190) ∷ []));
      expected = answers1 ++ (done ∷ done ∷ refused 13 ∷ done ∷ []);
    }

-- An LSE with a load of 1,000, paths 0 and 1 from sources 0 and 1 to its base, and path 2 to a Sub-LAP of it
unfoldable pub with_sub_lap : Opening
with_sub_lap =
    record {
      holders = 1;
      sources = 3;
      sinks = 2;
      paths = 3;
      holder_kinds = lse ∷ [];
      sink_kinds = default_lap ∷ sub_lap ∷ [];
      sink_parents = 0 ∷ 0 ∷ [];
      path_sources = 0 ∷ 1 ∷ 0 ∷ [];
      path_sinks = 0 ∷ 0 ∷ 1 ∷ [];
      settings = present_settings;
    }

-- Its ten-year evidence: 150 and 60 at source 0, 0 kW at source 1, and 10 at source 2, which no path comes from; 400 at source 1 do not run to month 3.
-- E is 220. The Sub-LAP has no tier 1 award: 17. With 210 nominated the fifth is passed, and 0 kW at source 1 are evidence; 221 is above the limit
unfoldable pub step_case5 : Case
step_case5 =
    record {
      given =
          season with_sub_lap
          (steady_load 0 0 1000
          ∷ call (prior 0 0 400 0)
          ∷ call (prior 0 1 300 0)
          ∷ call (verify 0 0 1 1000 1500 1 3 1)
          ∷ call (verify 0 0 2 100 60 1 3 1)
          ∷ call (verify 0 1 1 1 1 1 3 1)
          ∷ call (verify 0 1 2 1000 400 1 2 1)
          ∷ call (verify 0 2 2 100 10 1 3 1)
          ∷ call (open_tier 1)
          ∷ (nominate_and_award 0 200
          ++ nominate_and_award 1 100
          ++ (call close_tier
          ∷ call (open_tier 10)
          ∷ query (limit_of 0 0)
          ∷ call (nominate 0 2 1)
          ∷ call (nominate 0 1 100)
          ∷ call (nominate 0 0 110)
          ∷ call (nominate 0 0 11)
          ∷ [])));
      expected = replicate 16 done ++ (value 220 ∷ refused 17 ∷ done ∷ done ∷ refused 13 ∷ []);
    }

unfoldable pub step_cases : List Case
step_cases = step_case1 ∷ step_case2 ∷ step_case3 ∷ step_case4 ∷ step_case5 ∷ []
