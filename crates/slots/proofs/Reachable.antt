-- What is known of a book's arrays: the opening and the ledger that stand in them, and that they are those of that ledger. Assumes nothing.
use Prim.Native.Nat.{ℕ, ◌≤◌}
use mathlib.Core.Path.{◌≡◌, sym, ap, ◌∙◌, subst}
use mathlib.Core.Bool.{Bool, true, false}
use mathlib.Core.List.{List, []}
use lib.ListN.{length}
use Rattle.records.specs.declared.setup.KeptOpening.{KeptOpening}
use Rattle.source_evidence.specs.declared.evidence.Entry.{Entry}
use Rattle.tariff.specs.declared.settings.Settings.{Settings}
use Rattle.tariff.specs.Settings.{settings_legal}
use Rattle.ledger.specs.Opening.{Opening, legal}
use Rattle.ledger.specs.Ledger.{Ledger}
use Rattle.ledger.specs.Call.{Call}
use Rattle.ledger.specs.Season.{after}
use Rattle.ledger.proofs.LegalFacts.{legal_facts}
use Rattle.ledger.proofs.Bounds.{legal_counts, Fits, figures_fit}
use Rattle.ledger.proofs.TiersSound.{TiersSound, tiers_sound}
use Rattle.records.specs.Opening.{opening_in, KeepsBases}
use Rattle.records.proofs.OpeningLaws.{opening_back, bases_kept}
use Rattle.slots.specs.Cells.{Shows}
use Rattle.slots.specs.Groups.{in_slot}
use Rattle.slots.specs.Layout.{figure_slots, figure_count, posted_slots, figure_groups, posted_groups, calendar_of, figures_of, posted_of, evidence_of, ledger_in}
use Rattle.slots.specs.Steps.{Reachable}
use Rattle.slots.proofs.CellLaws.{array_shows}
use Rattle.slots.proofs.Confined.{confined}
use Rattle.slots.proofs.ReadBack.{read_back}

module _ (o : KeptOpening) (f : List ℕ) (m : List Bool) (x : List Entry) (r : Reachable o f m x) where
  abbrev now : Ledger
  now = after r.opening r.calls

  pub ledger_known : ledger_in f m x ≡ now
  ledger_known = (λ i. ledger_in (r.of_figures i) (r.of_posted i) (r.of_evidence i)) ∙ read_back now (confined r.opening r.is_legal r.calls)

  pub opening_known : opening_in o ≡ r.opening
  unfolding opening_in
  opening_known = ap opening_in r.of_opening ∙ opening_back r.opening r.is_legal

  pub bases_known : KeepsBases o
  bases_known = subst KeepsBases (sym r.of_opening) (bases_kept r.opening r.is_legal)

  -- what holds after every list of calls from a legal opening, holds of what stands in the arrays
  pub known : (P : Opening → Ledger → Type 0) → ((O : Opening) → legal O ≡ true → (cs : List Call) → P O (after O cs)) → P (opening_in o) (ledger_in f m x)
  known P all = subst (λ O. P O (ledger_in f m x)) (sym opening_known) (subst (P r.opening) (sym ledger_known) (all r.opening r.is_legal r.calls))

  pub counts : ((opening_in o).holders ≤ 8) × ((opening_in o).sources ≤ 16) × ((opening_in o).sinks ≤ 16) × ((opening_in o).paths ≤ 16)
  counts = known (λ O L. (O.holders ≤ 8) × (O.sources ≤ 16) × (O.sinks ≤ 16) × (O.paths ≤ 16)) (λ O ok cs. legal_counts O ok)

  -- the settings that are read from it are legal
  pub settings_known : {s : Settings} → s ≡ (opening_in o).settings → settings_legal s ≡ true
  settings_known e = ap settings_legal e ∙ known (λ O L. settings_legal O.settings ≡ true) (λ O ok cs. (legal_facts O ok).settings)

  pub fits : Fits (opening_in o) (ledger_in f m x)
  fits = known Fits figures_fit

  pub sound : TiersSound (ledger_in f m x).tiers
  sound = known (λ O L. TiersSound L.tiers) (λ O ok cs. tiers_sound O cs)

  -- the arrays are those of the ledger that stands in them
  pub figures_known : f ≡ figures_of (ledger_in f m x)
  figures_known = r.of_figures ∙ ap figures_of (sym ledger_known)

  pub posted_known : m ≡ posted_of (ledger_in f m x)
  posted_known = r.of_posted ∙ ap posted_of (sym ledger_known)

  pub evidence_known : x ≡ evidence_of (ledger_in f m x)
  evidence_known = r.of_evidence ∙ ap evidence_of (sym ledger_known)

  pub figures_shown : Shows figure_slots 0 f (in_slot 0 (figure_groups (ledger_in f m x))) (calendar_of (ledger_in f m x))
  unfolding figures_of
  figures_shown = subst (λ z. Shows figure_slots 0 z (in_slot 0 (figure_groups (ledger_in f m x))) (calendar_of (ledger_in f m x))) (sym figures_known) (array_shows figure_slots 0 (in_slot 0 (figure_groups (ledger_in f m x))) (calendar_of (ledger_in f m x)))

  pub posted_shown : Shows posted_slots false m (in_slot false (posted_groups (ledger_in f m x))) []
  unfolding posted_of
  posted_shown = subst (λ z. Shows posted_slots false z (in_slot false (posted_groups (ledger_in f m x))) []) (sym posted_known) (array_shows posted_slots false (in_slot false (posted_groups (ledger_in f m x))) [])

  pub figures_long : length f ≡ figure_count
  unfolding calendar_of
  figures_long = figures_shown.sized
