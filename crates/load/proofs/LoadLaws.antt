-- What an accepted load needs of the arrays, and what it leaves in them. Assumes nothing.
use Prim.Native.Nat.{ℕ, ◌+◌, ◌^◌, ◌≤◌, ◌<◌}
use mathlib.Core.Path.{◌≡◌, refl, sym, ap, ◌∙◌, subst}
use mathlib.Core.Bool.{Bool, true, false, ◌||◌}
use mathlib.Core.List.{List, []}
use native.Mathlib.Nat.{le_trans, le_of_eq, add-zero}
use native.Mathlib.Omega.{arith}
use lib.ListN.{drop}
use Rattle.records.specs.declared.setup.KeptOpening.{KeptOpening}
use Rattle.std.specs.Prelude.{Ok}
use Rattle.source_evidence.specs.declared.evidence.Entry.{Entry}
use Rattle.tariff.specs.Sum.{when_true}
use Rattle.tariff.specs.Sizes.{terms}
use Rattle.load_metric.specs.declared.block.Block.{Block}
use Rattle.load_metric.specs.Load.{load_posted}
use Rattle.tariff.specs.Ranges.{max_kw}
use Rattle.load_metric.proofs.Metric.{posted_le}
use Rattle.ledger.specs.Opening.{Opening}
use Rattle.ledger.specs.Ledger.{Ledger, with_loads}
use Rattle.ledger.specs.Call.{Call, load}
use Rattle.ledger.specs.Causes.{refusal}
use Rattle.ledger.specs.Effects.{same3, plus_at3, after_load, effect}
use Rattle.ledger.proofs.PostingFacts.{LoadFacts, load_facts}
use Rattle.records.specs.Opening.{opening_in}
use Rattle.slots.specs.Cells.{HasCell, read_at, stored_at, added_at}
use Rattle.slots.specs.Groups.{slots_of}
use Rattle.slots.specs.Layout.{figure_slots, posted_slots, figure_groups, posted_groups, evidence_groups, calendar_of, figures_of, posted_of, evidence_of, ledger_in, load_slot, load_posted_slot}
use Rattle.slots.specs.Steps.{Reachable, Steps}
use Rattle.slots.proofs.CellLaws.{shown_is}
use Rattle.slots.proofs.StoreLaws.{StoredIn, slot_stored, slot_added, number_posted}
use Rattle.slots.proofs.Reachable.{counts, figures_shown, posted_shown, evidence_known}
use Rattle.slots.proofs.Figures.{from_zero, load_fits, room_for_more}
use Rattle.slots.proofs.StepLaws.{accepted_test, steps_accepted}

module _ (o : KeptOpening) (f : List ℕ) (m : List Bool) (x : List Entry) (h s term contract n : ℕ) (blocks : List Block) (kw : ℕ) (r : Reachable o f m x) (unmet : 0 ≡ refusal (opening_in o) (ledger_in f m x) (load h s term contract n blocks)) (posts : kw ≡ load_posted (opening_in o).settings contract blocks) where
  abbrev O : Opening
  O = opening_in o

  abbrev L : Ledger
  L = ledger_in f m x

  abbrev call : Call
  call = load h s term contract n blocks

  facts : LoadFacts O L h s term contract n blocks
  facts = load_facts O L h s term contract n blocks (accepted_test O L call unmet)

  holder : h < 8
  holder = le_trans facts.holder (counts o f m x r).0

  sink : s < 16
  sink = le_trans facts.sink (counts o f m x r).2

  low : term < terms
  low = let last = facts.term_in_range in omega arith

  -- there is a slot of its term, and of each before it, and it has room for the kW
  pub load_room : (slot : ℕ) → slot ≤ term → HasCell figure_slots h s slot × (read_at figure_slots 0 f h s slot + kw < 2 ^ 64)
  unfolding ledger_in
  load_room slot within =
      let below : slot < terms = let l = low in omega arith in
      let same : slot ≡ load_slot + slot = omega arith in
      let is = ap (read_at figure_slots 0 f h s) same ∙ from_zero f load_slot terms h s slot holder sink below in (
        record { holder = holder; place = sink; in_row = omega arith },
        room_for_more _ kw (le_trans (le_of_eq is) (le_trans (load_fits o f m x r h s slot facts.holder) (omega arith))) (le_trans (le_of_eq posts) (posted_le O.settings max_kw contract blocks facts.block_kw)),
      )

  pub load_cell : (slot : ℕ) → slot ≤ term → HasCell posted_slots h s slot
  load_cell slot within = record { holder = holder; place = sink; in_row = let l = low in omega arith }

  -- the load of the term and the note of its posting are new, and nothing else
  loaded : (f' : List ℕ) → f' ≡ added_at figure_slots f h s (load_slot + term) kw → f' ≡ figures_of (effect O L call)
  unfolding figures_of figure_groups calendar_of slots_of effect with_loads after_load plus_at3
  loaded f' e =
      e ∙ shown_is figure_slots 0 _ (added_at figure_slots f h s (load_slot + term) kw) (calendar_of L) (omega arith)
      (slot_added figure_slots load_slot terms 0 [] (drop 1 (figure_groups L)) refl (omega arith) L.loads.kw _ f (calendar_of L) h s term kw holder sink low
      (λ i j k above below. λ z. L.loads.kw i j k + when_true (same3 h s (sym (add-zero term) z) i j k) (sym posts z))
      (figures_shown o f m x r))

  noted : (m' : List Bool) → m' ≡ stored_at posted_slots m h s (load_posted_slot + term) true → m' ≡ posted_of (effect O L call)
  unfolding posted_of posted_groups slots_of effect with_loads after_load
  noted m' e =
      e ∙ shown_is posted_slots false _ (stored_at posted_slots m h s (load_posted_slot + term) true) [] (omega arith)
      (slot_stored false posted_slots load_posted_slot terms 0 [] (drop 1 (posted_groups L)) refl (omega arith) L.loads.posted (λ i j k. same3 h s term i j k || L.loads.posted i j k) m [] h s term true holder sink low
      (subst (λ k. StoredIn terms 0 h s k true L.loads.posted (λ i j n. same3 h s term i j n || L.loads.posted i j n)) (sym (add-zero term)) (number_posted terms 0 h s term L.loads.posted))
      (posted_shown o f m x r))

  filed : x ≡ evidence_of (effect O L call)
  unfolding evidence_of evidence_groups effect with_loads
  filed = evidence_known o f m x r

  pub load_steps : (f' : List ℕ) (m' : List Bool) → f' ≡ added_at figure_slots f h s (load_slot + term) kw → m' ≡ stored_at posted_slots m h s (load_posted_slot + term) true → Steps O L call (Ok tt) f' m' x
  load_steps f' m' of_figures of_posted = steps_accepted O L call unmet f' m' x (loaded f' of_figures) (noted m' of_posted) filed
