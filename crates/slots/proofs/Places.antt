-- In a book's opening, what a line names is in the book: a sink's base, a path's source and sink, and so the path's base. Assumes nothing.
use Prim.Native.Nat.{ℕ, ◌<◌}
use mathlib.Core.Path.{◌≡◌}
use mathlib.Core.Bool.{Bool, true, false, cond, ◌&&◌}
use mathlib.Core.List.{List}
use native.Mathlib.Nat.{le_trans}
use native.Mathlib.Omega.{arith}
use lib.Dec.{ltb, leb, eqb}
use borrow.Author.Tests.{ltb-true, eqb-true}
use Rattle.records.specs.declared.setup.KeptOpening.{KeptOpening}
use Rattle.source_evidence.specs.declared.evidence.Entry.{Entry}
use Rattle.tariff.proofs.Tests.{and_both, all_below_lem}
use Rattle.ledger.specs.Opening.{Opening, sink_kind, base, path_source, path_sink, path_base, parent_legal, sink_legal, path_legal, legal}
use Rattle.ledger.proofs.LegalFacts.{legal_facts}
use Rattle.records.specs.Opening.{opening_in}
use Rattle.slots.specs.Steps.{Reachable}
use Rattle.slots.proofs.Reachable.{known, counts}

pub legal_path : (o : Opening) → legal o ≡ true → (p : ℕ) → p < o.paths → (path_source o p < o.sources) × (path_sink o p < o.sinks)
unfolding path_legal
legal_path o ok p l =
    let both = and_both (ltb (path_source o p) o.sources) (ltb (path_sink o p) o.sinks) (all_below_lem o.paths (path_legal o) (legal_facts o ok).paths p l) in
    (ltb-true _ _ both.0, ltb-true _ _ both.1)

pub legal_base : (o : Opening) → legal o ≡ true → (s : ℕ) → s < o.sinks → base o s < o.sinks
unfolding sink_legal parent_legal
legal_base o ok s l =
    go (eqb (sink_kind o s) 2) (and_both (leb 1 (sink_kind o s) && leb (sink_kind o s) 4) (cond (eqb (sink_kind o s) 2) (ltb (base o s) s && eqb (sink_kind o (base o s)) 1) (eqb (base o s) s)) (all_below_lem o.sinks (sink_legal o) (legal_facts o ok).sinks s l)).1
  where
    go : (sub : Bool) → cond sub (ltb (base o s) s && eqb (sink_kind o (base o s)) 1) (eqb (base o s) s) ≡ true → base o s < o.sinks
    go true e = let below = ltb-true (base o s) s (and_both _ _ e).0 in omega arith
    go false e = let same = eqb-true (base o s) s e in omega arith

module _ (o : KeptOpening) (f : List ℕ) (m : List Bool) (x : List Entry) (r : Reachable o f m x) where
  pub base_place : (s : ℕ) → s < (opening_in o).sinks → base (opening_in o) s < 16
  base_place s l = le_trans (known o f m x r (λ O L. (s : ℕ) → s < O.sinks → base O s < O.sinks) (λ O ok cs. legal_base O ok) s l) (counts o f m x r).2

  pub source_place : (p : ℕ) → p < (opening_in o).paths → path_source (opening_in o) p < 16
  source_place p l = le_trans (known o f m x r (λ O L. (p : ℕ) → p < O.paths → path_source O p < O.sources) (λ O ok cs p l. (legal_path O ok p l).0) p l) (counts o f m x r).1

  pub path_base_place : (p : ℕ) → p < (opening_in o).paths → path_base (opening_in o) p < 16
  unfolding path_base
  path_base_place p l = base_place (path_sink (opening_in o) p) (known o f m x r (λ O L. (p : ℕ) → p < O.paths → path_sink O p < O.sinks) (λ O ok cs p l. (legal_path O ok p l).1) p l)
