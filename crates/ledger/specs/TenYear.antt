-- Ten-year evidence, which the Long Term step asks for (02, 1/14).
use Rattle.std.specs.Prelude.{ℕ, ◌+◌, Bool, ◌||◌}
use Rattle.tariff.specs.Sizes.{ownership, contract}
use Rattle.tariff.specs.Sum.{sum_to}
use Rattle.source_evidence.specs.Evidence.{is_ten_year, ten_year_kw_of}
use Rattle.ledger.specs.Opening.{Opening}
use Rattle.ledger.specs.Ledger.{Ledger}

-- a holder has ten-year evidence at a source, of either kind
unfoldable pub has_ten_year : Ledger → ℕ → ℕ → Bool
has_ten_year L h s = is_ten_year (L.evidence.entry h s ownership) || is_ten_year (L.evidence.entry h s contract)

-- what it comes to at a source: ownership and contract add, each rounded by itself
unfoldable pub ten_year_at : Ledger → ℕ → ℕ → ℕ
ten_year_at L h s = ten_year_kw_of (L.evidence.entry h s ownership) + ten_year_kw_of (L.evidence.entry h s contract)

-- E: what it comes to over every source of the book
unfoldable pub ten_year_sum : Opening → Ledger → ℕ → ℕ
ten_year_sum o L h = sum_to o.sources (λ s. ten_year_at L h s)
