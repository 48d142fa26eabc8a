-- Cases of books with a set line (02, 3/14): for each what the definitions give, and the answers that its sentences come to.
use Rattle.std.specs.Prelude.{ℕ, List, [], ◌∷◌, ◌++◌, replicate}
use Rattle.tariff.specs.Settings.{settings_of}
use Rattle.ledger.specs.Opening.{Opening, lse, obaalse, default_lap, scheduling_point}
use Rattle.ledger.specs.Call.{load, carry, prior, verify, open_tier, nominate, award, close_tier, limit_of}
use Rattle.ledger.specs.Season.{Request, Answer, call, query, done, value, refused, season}
use Rattle.ledger.specs.Marked.{Case, one_sink, block, steady_load, pass_tier}

-- an opening with the settings of a line of twelve numbers
unfoldable pub with_set : List ℕ → Opening → Opening
with_set numbers o =
    record {
      holders = o.holders;
      sources = o.sources;
      sinks = o.sinks;
      paths = o.paths;
      holder_kinds = o.holder_kinds;
      sink_kinds = o.sink_kinds;
      sink_parents = o.sink_parents;
      path_sources = o.path_sources;
      path_sinks = o.path_sinks;
      settings = settings_of numbers;
    }

-- one LSE with a path to a Default LAP, and these settings
unfoldable pub one_lse : List ℕ → Opening
one_lse numbers = with_set numbers (one_sink (lse ∷ []) 1 default_lap)

-- tier 1's limit of a load of 1,000 with 10 carried and a allocated last year
unfoldable pub tier1_of : List ℕ → ℕ → List Answer
tier1_of numbers a = season (one_lse numbers) (steady_load 0 0 1000 ∷ call (carry 0 0 10) ∷ call (prior 0 0 a 0) ∷ call (open_tier 1) ∷ query (limit_of 0 0) ∷ [])

-- Tier 1 has the least of three, each less LT. By halves P is 250: it is the least beside 400, and 200 is less than it. Where S and P are the whole load, the sixth
-- fraction is: 3/10 of it.
unfoldable pub settings_case1 : Case
settings_case1 =
    record {
      given =
          tier1_of (1 ∷ 2 ∷ 1 ∷ 2 ∷ 1 ∷ 200 ∷ 1 ∷ 50 ∷ 1 ∷ 5 ∷ 1 ∷ 1 ∷ []) 400
          ++ tier1_of (1 ∷ 2 ∷ 1 ∷ 2 ∷ 1 ∷ 200 ∷ 1 ∷ 50 ∷ 1 ∷ 5 ∷ 1 ∷ 1 ∷ []) 200
          ++ tier1_of (1 ∷ 1 ∷ 1 ∷ 1 ∷ 1 ∷ 200 ∷ 1 ∷ 50 ∷ 1 ∷ 5 ∷ 3 ∷ 10 ∷ []) 400;
      expected = replicate 5 done ++ (value 240 ∷ []) ++ replicate 5 done ++ (value 190 ∷ []) ++ replicate 5 done ++ (value 290 ∷ []);
    }

-- P is of the rounded S: of a load of 3 by 1/2 S is 1, and 2/3 of that is 0; tier 3 has S
unfoldable pub settings_case2 : Case
settings_case2 =
    record {
      given =
          season (one_lse (1 ∷ 2 ∷ 2 ∷ 3 ∷ 1 ∷ 200 ∷ 1 ∷ 50 ∷ 1 ∷ 5 ∷ 1 ∷ 2 ∷ []))
          (steady_load 0 0 3 ∷ (pass_tier 1 ++ (call (open_tier 2) ∷ query (limit_of 0 0) ∷ call close_tier ∷ call (open_tier 3) ∷ query (limit_of 0 0) ∷ [])));
      expected = replicate 5 done ++ (value 0 ∷ done ∷ done ∷ value 1 ∷ []);
    }

-- 3 in 7 may be missing, and nothing is rounded: 3 of 7 and 3 of 8, and not 4 of 8. Of 4 present hours 3/4 may exceed the metric: the load is 5 and not 7.
unfoldable pub settings_case3 : Case
settings_case3 =
    record {
      given =
          season (one_lse (1 ∷ 1 ∷ 1 ∷ 1 ∷ 3 ∷ 4 ∷ 3 ∷ 7 ∷ 1 ∷ 5 ∷ 1 ∷ 1 ∷ []))
          (call (load 0 0 0 0 8 (block 0 4 5 ∷ []))
          ∷ call (load 0 0 0 0 7 (block 0 1 5 ∷ block 1 3 7 ∷ []))
          ∷ call (load 0 0 1 0 8 (block 0 5 5 ∷ []))
          ∷ (pass_tier 1 ++ (call (open_tier 2) ∷ query (limit_of 0 0) ∷ [])));
      expected = done ∷ refused 7 ∷ done ∷ done ∷ done ∷ done ∷ done ∷ value 5 ∷ [];
    }

-- the Long Term step's limit with ten-year evidence of so many kW, for a load of 1,000
unfoldable pub step_of : List ℕ → ℕ → List Answer
step_of numbers kw = season (one_lse numbers) (steady_load 0 0 1000 ∷ call (verify 0 0 2 kw kw 1 3 1) ∷ (pass_tier 1 ++ (call (open_tier 10) ∷ query (limit_of 0 0) ∷ [])))

-- With a fifth fraction of 1/2 and a sixth of 1/4, evidence that reaches 500 changes nothing, and evidence that passes it lowers the limit to 250. An OBAALSE has the
-- sixth.
unfoldable pub settings_case4 : Case
settings_case4 =
    let numbers : List ℕ = 1 ∷ 1 ∷ 1 ∷ 1 ∷ 1 ∷ 200 ∷ 1 ∷ 50 ∷ 1 ∷ 2 ∷ 1 ∷ 4 ∷ [] in
    record {
      given =
          step_of numbers 500
          ++ step_of numbers 501
          ++ season (with_set numbers (one_sink (obaalse ∷ []) 1 scheduling_point)) (steady_load 0 0 1000 ∷ (pass_tier 1 ++ (call (open_tier 10) ∷ query (limit_of 0 0) ∷ [])));
      expected = replicate 6 done ++ (value 500 ∷ []) ++ replicate 6 done ++ (value 250 ∷ []) ++ replicate 5 done ++ (value 250 ∷ []);
    }

-- 18 by the fifth fraction: with 3/10 of 1,000 and 100 carried, 200 need no ten-year evidence and 201 do
unfoldable pub settings_case5 : Case
settings_case5 =
    record {
      given =
          season (one_lse (1 ∷ 1 ∷ 1 ∷ 1 ∷ 1 ∷ 200 ∷ 1 ∷ 50 ∷ 3 ∷ 10 ∷ 1 ∷ 1 ∷ []))
          (steady_load 0 0 1000
          ∷ call (carry 0 0 100)
          ∷ call (prior 0 0 900 0)
          ∷ call (open_tier 1)
          ∷ call (nominate 0 0 800)
          ∷ call (award 0 0 800)
          ∷ call close_tier
          ∷ call (open_tier 10)
          ∷ call (nominate 0 0 201)
          ∷ call (nominate 0 0 200)
          ∷ []);
      expected = replicate 9 done ++ (refused 18 ∷ done ∷ []);
    }

-- 0/1 everywhere: no hour may be missing, none may exceed the metric, and the season gives nothing. 1/1 everywhere: all hours but a block's may be missing, all may
-- exceed the metric, which is the smallest kW, and tier 1 gives the load less LT.
unfoldable pub settings_case6 : Case
settings_case6 =
    let nothing : List ℕ = 0 ∷ 1 ∷ 0 ∷ 1 ∷ 0 ∷ 1 ∷ 0 ∷ 1 ∷ 0 ∷ 1 ∷ 0 ∷ 1 ∷ [] in
    let everything : List ℕ = 1 ∷ 1 ∷ 1 ∷ 1 ∷ 1 ∷ 1 ∷ 1 ∷ 1 ∷ 1 ∷ 1 ∷ 1 ∷ 1 ∷ [] in
    let posted : Request = call (load 0 0 0 0 100 (block 0 1 1000 ∷ block 1 98 400 ∷ [])) in
    let rest : List Request = call (prior 0 0 5000 0) ∷ call (carry 0 0 10) ∷ call (open_tier 1) ∷ query (limit_of 0 0) ∷ [] in
    record {
      given =
          season (one_lse nothing) (posted ∷ call (load 0 0 0 0 100 (block 0 1 1000 ∷ block 1 99 400 ∷ [])) ∷ rest)
          ++ season (one_lse everything) (posted ∷ rest);
      expected = done ∷ refused 7 ∷ done ∷ done ∷ done ∷ done ∷ value 0 ∷ (replicate 5 done ++ (value 390 ∷ []));
    }

-- A fraction that breaks a rule is refused with 16: a denominator of 0, a numerator above its denominator, a number above 1,000. 1,000 is allowed.
unfoldable pub settings_case7 : Case
settings_case7 =
    record {
      given =
          season (one_lse (0 ∷ 0 ∷ 1 ∷ 1 ∷ 1 ∷ 1 ∷ 1 ∷ 1 ∷ 1 ∷ 1 ∷ 1 ∷ 1 ∷ [])) []
          ++ season (one_lse (1 ∷ 1 ∷ 1 ∷ 1 ∷ 1 ∷ 1 ∷ 2 ∷ 1 ∷ 1 ∷ 1 ∷ 1 ∷ 1 ∷ [])) []
          ++ season (one_lse (1 ∷ 1 ∷ 1 ∷ 1 ∷ 1 ∷ 1 ∷ 1 ∷ 1 ∷ 1 ∷ 1 ∷ 1001 ∷ 1001 ∷ [])) []
          ++ season (one_lse (1 ∷ 1 ∷ 1 ∷ 1 ∷ 1 ∷ 1 ∷ 1 ∷ 1 ∷ 1 ∷ 1 ∷ 1000 ∷ 1000 ∷ [])) [];
      expected = refused 16 ∷ refused 16 ∷ refused 16 ∷ done ∷ [];
    }

unfoldable pub settings_cases : List Case
settings_cases = settings_case1 ∷ settings_case2 ∷ settings_case3 ∷ settings_case4 ∷ settings_case5 ∷ settings_case6 ∷ settings_case7 ∷ []
