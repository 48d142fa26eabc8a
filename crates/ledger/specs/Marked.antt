-- The twelve marked cases of document 01: for each what the definitions give, and the answers and figures that 01 marks.
use Rattle.std.specs.Prelude.{ℕ, zero, suc, List, [], ◌∷◌, ◌++◌, length, replicate}
use Rattle.netting.specs.declared.netting.ClassLine.{ClassLine}
use Rattle.load_metric.specs.declared.block.Block.{Block}
use Rattle.load_metric.specs.Load.{metric, load_posted}
use Rattle.tariff.specs.Settings.{present_settings}
use Rattle.tariff.specs.Eligible.{seasonal_eligible, priority_eligible}
use Rattle.netting.specs.Migration.{netted}
use Rattle.ledger.specs.Opening.{Opening, lse, obaalse, default_lap, scheduling_point}
use Rattle.ledger.specs.Call.{load, carry, prior, verify, migrate, open_tier, nominate, award, close_tier, limit_of, held_on, net_on}
use Rattle.ledger.specs.Season.{Request, call, query, Answer, done, value, refused, season}

pub record Case : Type 0 where
  -- what the definitions give
  pub given : List Answer
  -- the answers that 01 marks, or that the sentences of 02 come to
  pub expected : List Answer

unfoldable pub up_to : ℕ → List ℕ
up_to zero = []
up_to (suc n) = up_to n ++ (n ∷ [])

-- a book with holders of these kinds, one sink, and a path to it from each of so many sources, by the present figures
unfoldable pub one_sink : List ℕ → ℕ → ℕ → Opening
one_sink kinds sources sink_kind =
    record {
      holders = length kinds;
      sources = sources;
      sinks = 1;
      paths = sources;
      holder_kinds = kinds;
      sink_kinds = sink_kind ∷ [];
      sink_parents = 0 ∷ [];
      path_sources = up_to sources;
      path_sinks = replicate sources 0;
      settings = present_settings;
    }

unfoldable pub block : ℕ → ℕ → ℕ → Block
block first hours kw = record { first = first; hours = hours; kw = kw }

unfoldable pub class_line : ℕ → ℕ → ℕ → ℕ → ClassLine
class_line i j customers watts = record { from = i; to = j; class = 1; customers = customers; watts = watts }

-- a load of kw in each of 100 hours, at sink 0
unfoldable pub steady_load : ℕ → ℕ → ℕ → Request
steady_load h term kw = call (load h 0 term 0 100 (block 0 100 kw ∷ []))

-- tiers that open and close with nothing nominated
unfoldable pub pass_tier : ℕ → List Request
pass_tier tier = call (open_tier tier) ∷ call close_tier ∷ []

-- a tier in which holder 0 nominates and is awarded kw on a path
unfoldable pub full_tier : ℕ → ℕ → ℕ → List Request
full_tier tier p kw = call (open_tier tier) ∷ call (nominate 0 p kw) ∷ call (award 0 p kw) ∷ call close_tier ∷ []

-- case 1, up to tier 1's limit query and from there to the end
unfoldable pub opening1 : Opening
opening1 = one_sink (lse ∷ []) 2 default_lap

unfoldable pub requests1 : List Request
requests1 =
    call (load 0 0 0 0 400 (block 0 398 1000 ∷ block 398 2 5000 ∷ []))
    ∷ call (carry 0 0 100)
    ∷ call (prior 0 1 300 20)
    ∷ call (open_tier 1)
    ∷ []

unfoldable pub rest1 : List Request
rest1 =
    query (limit_of 0 0)
    ∷ call (nominate 0 1 201)
    ∷ call (nominate 0 1 200)
    ∷ call (award 0 1 150)
    ∷ call (award 0 1 51)
    ∷ call close_tier
    ∷ query (net_on 1 2)
    ∷ []

unfoldable pub answers1 : List Answer
answers1 = done ∷ done ∷ done ∷ done ∷ done ∷ value 200 ∷ refused 13 ∷ done ∷ done ∷ refused 14 ∷ done ∷ value 150 ∷ []

unfoldable pub case1 : Case
case1 = record { given = season opening1 (requests1 ++ rest1); expected = answers1 }

-- case 2: 397 hours at 1,000 kW and 3 at 5,000: the metric is 5,000, and so is the month's limit
unfoldable pub blocks2 : List Block
blocks2 = block 0 397 1000 ∷ block 397 3 5000 ∷ []

unfoldable pub case2 : Case
case2 =
    record {
      given =
          value (metric present_settings blocks2)
          ∷ season (one_sink (lse ∷ []) 0 default_lap)
          (call (load 0 0 1 0 400 blocks2) ∷ (pass_tier 1 ++ pass_tier 2 ++ pass_tier 3 ++ (call (open_tier 4) ∷ query (limit_of 0 0) ∷ [])));
      expected = value 5000 ∷ (replicate 9 done ++ (value 5000 ∷ []));
    }

-- case 3: of 100 hours 2 may be missing, and 3 are 7
unfoldable pub case3 : Case
case3 =
    record {
      given =
          season (one_sink (lse ∷ lse ∷ []) 0 default_lap)
          (call (load 0 0 0 0 100 (block 0 98 1000 ∷ [])) ∷ call (load 1 0 0 0 100 (block 0 97 1000 ∷ [])) ∷ []);
      expected = done ∷ done ∷ refused 7 ∷ [];
    }

-- case 4: a metric of 1,000 and a contract of 1,200 post 0
unfoldable pub case4 : Case
case4 = record { given = value (load_posted present_settings 1200 (block 0 100 1000 ∷ [])) ∷ []; expected = value 0 ∷ [] }

-- case 5: a load of 3 has S 2 and P 1: with nothing awarded or carried these are the limits of tiers 3 and 2
unfoldable pub case5 : Case
case5 =
    record {
      given =
          value (seasonal_eligible present_settings 3)
          ∷ value (priority_eligible present_settings 3)
          ∷ season (one_sink (lse ∷ []) 0 default_lap)
          (steady_load 0 0 3
          ∷ (pass_tier 1 ++ (call (open_tier 2) ∷ query (limit_of 0 0) ∷ call close_tier ∷ call (open_tier 3) ∷ query (limit_of 0 0) ∷ [])));
      expected = value 2 ∷ value 1 ∷ (replicate 5 done ++ (value 1 ∷ done ∷ done ∷ value 2 ∷ []));
    }

-- case 6: in case 1's tier 1, 281 on path 1 is above a − l and above the limit: 12, not 13
unfoldable pub case6 : Case
case6 = record { given = season opening1 (requests1 ++ (call (nominate 0 1 281) ∷ [])); expected = replicate 5 done ++ (refused 12 ∷ []) }

-- case 7: after case 1, tier 2's limit is 250
unfoldable pub case7 : Case
case7 =
    record {
      given = season opening1 (requests1 ++ rest1 ++ (call (open_tier 2) ∷ query (limit_of 0 0) ∷ []));
      expected = answers1 ++ (done ∷ value 250 ∷ []);
    }

-- case 8: held 100, L 1,000, 500 to each of two: keeps 0
unfoldable pub case8 : Case
case8 =
    record {
      given =
          season (one_sink (lse ∷ lse ∷ lse ∷ []) 1 default_lap)
          (steady_load 0 0 1000
          ∷ call (carry 0 0 100)
          ∷ call (migrate 0 0 (class_line 0 1 500 1000 ∷ class_line 0 2 500 1000 ∷ []))
          ∷ query (held_on 0 0 1)
          ∷ query (held_on 1 0 1)
          ∷ query (held_on 2 0 1)
          ∷ []);
      expected = replicate 4 done ++ (value 0 ∷ value 50 ∷ value 50 ∷ []);
    }

-- case 9: held 1, m 999, L 1,000: keeps 1
unfoldable pub case9 : Case
case9 =
    record {
      given =
          season (one_sink (lse ∷ lse ∷ []) 1 default_lap)
          (steady_load 0 0 1000
          ∷ call (carry 0 0 1)
          ∷ call (migrate 0 0 (class_line 0 1 999 1000 ∷ []))
          ∷ query (held_on 0 0 1)
          ∷ query (held_on 1 0 1)
          ∷ []);
      expected = replicate 4 done ++ (value 1 ∷ value 0 ∷ []);
    }

-- case 10: 1,500 W against 501 W: m is 0, and nothing moves
unfoldable pub lines10 : List ClassLine
lines10 = class_line 0 1 1 1500 ∷ class_line 1 0 1 501 ∷ []

unfoldable pub case10 : Case
case10 =
    record {
      given =
          value (netted lines10 0 1)
          ∷ season (one_sink (lse ∷ lse ∷ []) 1 default_lap)
          (steady_load 0 0 1000 ∷ call (carry 0 0 1000) ∷ call (migrate 0 0 lines10) ∷ query (held_on 0 0 1) ∷ []);
      expected = value 0 ∷ (replicate 4 done ++ (value 1000 ∷ []));
    }

-- case 11: capacity 1,000 and right 3,333, not marked ten-year (02, 1/14): 334 is 11, 333 is taken
unfoldable pub case11 : Case
case11 =
    record {
      given =
          season (one_sink (obaalse ∷ []) 1 scheduling_point)
          (steady_load 0 0 1000
          ∷ call (prior 0 0 1000 0)
          ∷ call (verify 0 0 1 1000 3333 1 3 0)
          ∷ call (open_tier 1)
          ∷ call (nominate 0 0 334)
          ∷ call (nominate 0 0 333)
          ∷ []);
      expected = replicate 5 done ++ (refused 11 ∷ done ∷ []);
    }

-- case 12: a month's load of 700 with awards of 650 in the season and 100 carried: limit 0
unfoldable pub case12 : Case
case12 =
    record {
      given =
          season (one_sink (lse ∷ []) 1 default_lap)
          (steady_load 0 0 1000
          ∷ steady_load 0 1 700
          ∷ call (carry 0 0 100)
          ∷ (pass_tier 1 ++ full_tier 2 0 400 ++ full_tier 3 0 250 ++ (call (open_tier 4) ∷ query (limit_of 0 0) ∷ [])));
      expected = replicate 15 done ++ (value 0 ∷ []);
    }

unfoldable pub marked_cases : List Case
marked_cases =
    case1
    ∷ case2
    ∷ case3
    ∷ case4
    ∷ case5
    ∷ case6
    ∷ case7
    ∷ case8
    ∷ case9
    ∷ case10
    ∷ case11
    ∷ case12
    ∷ []
