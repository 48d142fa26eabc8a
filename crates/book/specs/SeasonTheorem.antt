-- The season theorem (demand 3; 02, 1/14): what holds of every opening and of every list of calls and queries that a program puts to the book.
-- It speaks of the answers and books that the methods return: `opening_outcome`, `outcome_of` and `query_answer_in` are what their contracts promise.
use Rattle.std.specs.Prelude.{ℕ, ◌+◌, ◌≤◌, ◌<◌, ◌≡◌, true, cond, List, [], ◌∷◌, ◌++◌, map, Ok}
use Rattle.netting.specs.declared.netting.ClassLine.{ClassLine}
use Rattle.tariff.specs.Sizes.{long_term_step}
use Rattle.tariff.specs.Sum.{sum_to}
use Rattle.tariff.specs.Terms.{is_month}
use Rattle.ledger.specs.Opening.{Opening, legal}
use Rattle.ledger.specs.Call.{Call, migrate, open_tier, held_on, net_on}
use Rattle.ledger.specs.Limits.{tier_limit}
use Rattle.ledger.specs.Balance.{HolderBalance}
use Rattle.ledger.specs.Season.{Request, call, query, accepted, step, after, held, net, season}
use Rattle.ledger.specs.Totals.{carried_in, awarded_in, posted_in, nominated_in}
use Rattle.book.specs.declared.book.Book.{Book}
use Rattle.records.specs.Answers.{Answer, answer_in, of_call, of_query}
use Rattle.book.specs.Reading.{ledger_of, opening_of_book}
use Rattle.book.specs.Outcomes.{outcome_of, query_answer_in}
use Rattle.book.specs.Opened.{opening_outcome}

-- the calls among the requests; a query changes nothing
unfoldable pub calls_of : List Request → List Call
calls_of [] = []
calls_of (call c ∷ requests) = c ∷ calls_of requests
calls_of (query q ∷ requests) = calls_of requests

-- the last of the books returned, each call being put to the book that the one before returned
unfoldable pub book_after : Book → List Request → Book
book_after b [] = b
book_after b (call c ∷ requests) = book_after (outcome_of b c).book requests
book_after b (query q ∷ requests) = book_after b requests

-- the answers on the way
unfoldable pub answers_of : Book → List Request → List Answer
answers_of b [] = []
answers_of b (call c ∷ requests) = of_call (outcome_of b c).answer ∷ answers_of (outcome_of b c).book requests
answers_of b (query q ∷ requests) = of_query (query_answer_in b q) ∷ answers_of b requests

-- a season's answers: the opening's, and unless it is refused all that follow
unfoldable pub season_answers : Opening → List Request → List Answer
season_answers o requests = of_call (opening_outcome o).answer ∷ cond (legal o) (answers_of (opening_outcome o).book requests) []

-- what holds of the last book after a legal opening
pub record SeasonHolds (o : Opening) (cs : List Call) (last : Book) : Type 0 where
  -- 2. It keeps its opening, the settings with it, and its arrays hold the plain ledger's figures, all of them; held and net answer the ledger's holding and its sum
  -- over the holders.
  pub opening : opening_of_book last ≡ o
  pub figures : ledger_of last ≡ after o cs
  pub held_answered : (h p m : ℕ) → h < o.holders → p < o.paths → is_month m ≡ true → query_answer_in last (held_on h p m) ≡ Ok (held (after o cs) h p m)
  pub net_answered : (p m : ℕ) → p < o.paths → is_month m ≡ true → query_answer_in last (net_on p m) ≡ Ok (net o (after o cs) p m)
  -- 3. Rights and loads are conserved: what the holders have is what the accepted calls brought in, the Long Term step's awards left out.
  pub rights_conserved : (p m : ℕ) → is_month m ≡ true → net o (ledger_of last) p m ≡ carried_in o cs p + awarded_in o cs p m
  pub loads_conserved : (s t : ℕ) → sum_to o.holders (λ h. (ledger_of last).loads.kw h s t) ≡ posted_in o cs s t
  -- 4. Nothing goes below zero: no accepted migration took more from a record than it had, and what each record has after it is accounted for.
  pub never_below_zero : (before later : List Call) (term sink : ℕ) (lines : List ClassLine) → cs ≡ before ++ (migrate term sink lines ∷ later) → accepted o (after o before) (migrate term sink lines) ≡ true → (h : ℕ) → h < o.holders → HolderBalance o (after o before) term sink lines (step o (after o before) (migrate term sink lines)) h
  -- 5. From each accepted open to the close of the tier, or of the Long Term step, or so far, a holder's nominations at a base are within the limit before that open.
  pub within_limit : (before later : List Call) (tier : ℕ) → cs ≡ before ++ (open_tier tier ∷ later) → accepted o (after o before) (open_tier tier) ≡ true → (h b : ℕ) → nominated_in o (step o (after o before) (open_tier tier)) later h b ≤ tier_limit o (after o before) tier h b
  -- 6. A holder's awards in the Long Term step are within its tier 1 awards, path by path (02, 1/14).
  pub step_within_tier1 : (h p : ℕ) → (ledger_of last).tiers.awards h p long_term_step ≤ (ledger_of last).tiers.awards h p 1

-- 1. Every answer is the plain ledger's, refusals with their numbers and figures with their values. And after a legal opening all of the above.
pub record SeasonTheorem : Type 0 where
  pub answered : (o : Opening) (requests : List Request) → map answer_in (season_answers o requests) ≡ season o requests
  pub kept : (o : Opening) (requests : List Request) → legal o ≡ true → SeasonHolds o (calls_of requests) (book_after (opening_outcome o).book requests)
