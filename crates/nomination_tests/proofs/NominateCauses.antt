-- The causes of a nomination as code finds them, but for what it has verified. Assumes nothing.
use Prim.Native.Nat.{ℕ, ◌+◌, ◌*◌, ◌^◌, ◌≤◌, ◌<◌}
use mathlib.Core.Path.{◌≡◌, sym, ap, ◌∙◌, subst}
use mathlib.Core.Bool.{Bool, ◌&&◌}
use mathlib.Core.List.{List}
use native.Mathlib.Nat.{le_trans, le_of_eq}
use native.Mathlib.Omega.{arith}
use lib.Dec.{ltb, eqb}
use Rattle.records.specs.declared.setup.KeptOpening.{KeptOpening}
use Rattle.source_evidence.specs.declared.evidence.Entry.{Entry}
use Rattle.tariff.specs.Ranges.{max_kw}
use Rattle.tariff.specs.Sum.{when_true}
use Rattle.tariff.proofs.Sums.{sum_ext}
use Rattle.ledger.specs.Opening.{Opening, path_source, path_base, has_base}
use Rattle.ledger.specs.Ledger.{Ledger}
use Rattle.ledger.specs.Limits.{sum_at_base, nominated_at, tier_limit}
use Rattle.ledger.specs.Causes.{exceeds_limit}
use Rattle.records.specs.Opening.{opening_in, KeepsBases}
use Rattle.slots.specs.Cells.{HasCell, read_at}
use Rattle.slots.specs.Layout.{nominated_slot, figure_slots, current_tier_in, figure_in, ledger_in}
use Rattle.slots.specs.Sums.{on_path, max_figure}
use Rattle.slots.specs.Steps.{Reachable}
use Rattle.slots.proofs.Reachable.{bases_known, counts}
use Rattle.slots.proofs.Figures.{from_zero, figure_fits, summable, room_for_more}
use Rattle.slots.proofs.Places.{source_place, path_base_place}
use Rattle.slots.proofs.PathSums.{base_sum_fits}
use Rattle.tier_limits.specs.Inputs.{SourceInputs}
use Rattle.nomination_tests.specs.Inputs.{NominationInputs}
use Rattle.nomination_tests.proofs.UsageLaws.{nominated_now}

-- where a nomination's path leads: to a source that evidence can be asked for at, and to a base that is kept and below 16
module _ {o : KeptOpening} {f : List ℕ} {h p kw : ℕ} (k : NominationInputs o f h p kw) where
  pub source_inputs : (s : ℕ) → s ≡ path_source (opening_in o) p → SourceInputs o f h s
  source_inputs s e = record { figures = k.figures; holder = k.holder; place = subst (λ n. n < 16) (sym e) (source_place _ _ _ _ k.figures.reachable _ k.path) }

  pub base_kept : KeepsBases o × (p < 16)
  base_kept = (bases_known _ _ _ _ k.figures.reachable, le_trans k.path (counts _ _ _ _ k.figures.reachable).3)

  pub base_place : (b : ℕ) → b ≡ path_base (opening_in o) p → b < 16
  base_place b e = subst (λ n. n < 16) (sym e) (path_base_place _ _ _ _ k.figures.reachable _ k.path)

-- what a holder nominates at a base in the open tier, and that it leaves room
module _ (o : KeptOpening) (f : List ℕ) (m : List Bool) (x : List Entry) (r : Reachable o f m x) (h : ℕ) (l : h < (opening_in o).holders) where
  pub nominated_at_lem : (base : ℕ) → sum_at_base (opening_in o) base (on_path f h nominated_slot) ≡ nominated_at (opening_in o) (ledger_in f m x) h base (ledger_in f m x).tiers.current_tier
  unfolding sum_at_base nominated_at
  nominated_at_lem base = sum_ext (opening_in o).paths (λ q k. ap (when_true (has_base (opening_in o) base q)) (nominated_now f m x h q (le_trans l (counts o f m x r).0) (le_trans k (counts o f m x r).3)))

  pub base_fits : (slot base v : ℕ) → slot < figure_slots → v ≡ sum_at_base (opening_in o) base (on_path f h slot) → v ≤ 16 * max_figure
  base_fits slot base v k e = le_trans (le_of_eq e) (base_sum_fits o f h slot base (summable o f m x r h slot l k))

  pub base_room : (base kw v : ℕ) → kw ≤ max_kw → v ≡ sum_at_base (opening_in o) base (on_path f h nominated_slot) → v + kw < 2 ^ 64
  base_room base kw v high e = let fits = base_fits nominated_slot base v (omega arith) e in omega arith

module _ (o : KeptOpening) (f : List ℕ) (m : List Bool) (x : List Entry) (h p : ℕ) where
  abbrev O : Opening
  O = opening_in o

  abbrev L : Ledger
  L = ledger_in f m x

  module _ (kw : ℕ) (inputs : NominationInputs o f h p kw) (r : Reachable o f m x) where
    holder : h < 8
    holder = le_trans inputs.holder (counts o f m x r).0

    path : p < 16
    path = le_trans inputs.path (counts o f m x r).3

    -- a figure of the holder on the path, and what has room beside it
    pub path_cell : (slot : ℕ) → slot < figure_slots → HasCell figure_slots h p slot
    path_cell slot l = record { holder = holder; place = path; in_row = l }

    pub path_room : (slot v : ℕ) → slot < figure_slots → v ≡ read_at figure_slots 0 f h p slot → v + kw < 2 ^ 64
    path_room slot v l e = room_for_more v kw (le_trans (le_of_eq e) (figure_fits o f m x r h p slot inputs.holder inputs.path l)) inputs.high

    -- causes 12 and 17
    pub tier_test : (tier slot now figure nominated from count k : ℕ) → now ≡ current_tier_in f → figure ≡ read_at figure_slots 0 f h p slot → nominated ≡ read_at figure_slots 0 f h p nominated_slot → slot ≡ from + k → k < count → (eqb now tier && ltb figure (nominated + kw)) ≡ (eqb L.tiers.current_tier tier && ltb (figure_in f from count 0 h p k) (L.tiers.nominated h p L.tiers.current_tier + kw))
    unfolding ledger_in
    tier_test tier slot now figure nominated from count k t e n s below = λ i. eqb (t i) tier && ltb ((e ∙ ap (read_at figure_slots 0 f h p) s ∙ from_zero f from count h p k holder path below) i) ((n ∙ nominated_now f m x h p holder path) i + kw)

    -- cause 13
    pub limit_test : (tier base limit nominated : ℕ) → tier ≡ current_tier_in f → base ≡ path_base O p → limit ≡ tier_limit O L tier h base → nominated ≡ sum_at_base O base (on_path f h nominated_slot) → ltb limit (nominated + kw) ≡ exceeds_limit O L L.tiers.current_tier h p kw
    unfolding exceeds_limit ledger_in
    limit_test tier base limit nominated t e l n =
        λ i. ltb ((l ∙ (λ j. tier_limit O L (t j) h (e j))) i) ((n ∙ nominated_at_lem o f m x r h inputs.holder base ∙ ap (λ b. nominated_at O L h b L.tiers.current_tier) e) i + kw)
