-- `nomination_tests::long_term_step::lacks_evidence_at` meets its contract. Assumes nothing.
use Prim.Native.Nat.{◌<◌}
use mathlib.Core.Path.{sym, ap, ◌∙◌, subst}
use mathlib.Core.Bool.{not, ◌&&◌}
use Rattle.ledger.specs.TenYear.{has_ten_year}
use Rattle.tariff.proofs.Tests.{and_after_true, and_left_false}
use Rattle.slots.specs.Layout.{ledger_in}
use Rattle.slots.proofs.Places.{source_place}
use Rattle.nomination_tests.proofs.long_term_step.lacks_evidence_at.Goals as goal

pub has_ten_year-requires : goal.has_ten_year-requires
has_ten_year-requires c = let k = c.requires in record { figures = k.figures; holder = k.holder; place = subst (λ s. s < 16) (sym c.path_source.ensures) (source_place _ _ _ _ k.figures.reachable _ k.second) }

pub returns-then-needs_evidence_at : goal.returns-then-needs_evidence_at
returns-then-needs_evidence_at c m x r =
    and_after_true c.if-needs_evidence_at.true (λ i. c.needs_evidence_at.ensures m x r i && not ((c.has_ten_year.ensures m x r ∙ ap (has_ten_year (ledger_in _ m x) _) c.path_source.ensures) i))

pub returns-else-needs_evidence_at : goal.returns-else-needs_evidence_at
returns-else-needs_evidence_at c m x r = c.if-needs_evidence_at.false ∙ sym (and_left_false _ (sym (c.needs_evidence_at.ensures m x r) ∙ c.if-needs_evidence_at.false))
