-- The group that a head of each kind makes. Assumes nothing.
use Prim.Native.Nat.{ℕ}
use mathlib.Core.Path.{◌≡◌, sym, ap, ◌∙◌}
use mathlib.Core.Bool.{Bool}
use mathlib.Core.List.{List, map}
use Rattle.records.specs.declared.setup.KeptOpening.{KeptOpening}
use Rattle.source_evidence.specs.declared.evidence.Entry.{Entry}
use Rattle.std.specs.Prelude.{Result, Err}
use Rattle.ledger.specs.Call.{Call, load, carry, prior, verify, migrate, open_tier, nominate, award, close_tier, Query, limit_of, held_on, net_on}
use Rattle.ledger.specs.Season.{call, query}
use Rattle.book.specs.declared.book.Book.{Book}
use Rattle.records.specs.declared.refusal.Refusal.{Refusal}
use Rattle.records.specs.declared.refusal.Refusal.TheVariants.{Unreadable}
use Rattle.records.specs.Answers.{Answer, of_call, of_query}
use Rattle.book.specs.declared.book.Outcome.{Outcome}
use Rattle.book.specs.Reading.{book_in}
use Rattle.book.specs.Outcomes.{outcome_of, query_answer_in}
use Rattle.lines.specs.declared.rows.Row.{Row}
use Rattle.lines.specs.declared.rows.LineKind.TheVariants.{Load, Block, Carry, Prior, Verify, Migrate, Class, Open, Nominate, Award, Close, Limit, Held, Net}
use Rattle.lines.specs.Rows.{field, counted}
use Rattle.lines.proofs.KindLaws.{other_kind}
use Rattle.groups.specs.Groups.{Group, unreadable_group, request, lookup, when_complete, request_of}
use Rattle.counted_lines.specs.Counted.{block_of, class_line_of}
use Rattle.groups.specs.Outcome.{outcome_of_group, Answers}

module _ (r : Row) (lines : List Row) where
  pub load_request : r.kind ≡ Load → request_of r lines ≡ when_complete (counted Block (field 5 r) lines) (call (load (field 0 r) (field 1 r) (field 2 r) (field 3 r) (field 4 r) (map block_of lines)))
  unfolding request_of lookup
  load_request e = rw e

  pub carry_request : r.kind ≡ Carry → request_of r lines ≡ request (call (carry (field 0 r) (field 1 r) (field 2 r)))
  unfolding request_of lookup
  carry_request e = rw e

  pub prior_request : r.kind ≡ Prior → request_of r lines ≡ request (call (prior (field 0 r) (field 1 r) (field 2 r) (field 3 r)))
  unfolding request_of lookup
  prior_request e = rw e

  pub verify_request : r.kind ≡ Verify → request_of r lines ≡ request (call (verify (field 0 r) (field 1 r) (field 2 r) (field 3 r) (field 4 r) (field 5 r) (field 6 r) (field 7 r)))
  unfolding request_of lookup
  verify_request e = rw e

  pub migrate_request : r.kind ≡ Migrate → request_of r lines ≡ when_complete (counted Class (field 2 r) lines) (call (migrate (field 0 r) (field 1 r) (map class_line_of lines)))
  unfolding request_of lookup
  migrate_request e = rw e

  pub open_request : r.kind ≡ Open → request_of r lines ≡ request (call (open_tier (field 0 r)))
  unfolding request_of lookup
  open_request e = rw e

  pub nominate_request : r.kind ≡ Nominate → request_of r lines ≡ request (call (nominate (field 0 r) (field 1 r) (field 2 r)))
  unfolding request_of lookup
  nominate_request e = rw e

  pub award_request : r.kind ≡ Award → request_of r lines ≡ request (call (award (field 0 r) (field 1 r) (field 2 r)))
  unfolding request_of lookup
  award_request e = rw e

  pub close_request : r.kind ≡ Close → request_of r lines ≡ request (call close_tier)
  unfolding request_of lookup
  close_request e = rw e

  pub limit_request : r.kind ≡ Limit → request_of r lines ≡ request (query (limit_of (field 0 r) (field 1 r)))
  unfolding request_of lookup
  limit_request e = rw e

  pub held_request : r.kind ≡ Held → request_of r lines ≡ request (query (held_on (field 0 r) (field 1 r) (field 2 r)))
  unfolding request_of lookup
  held_request e = rw e

  pub net_request : r.kind ≡ Net → request_of r lines ≡ request (query (net_on (field 0 r) (field 1 r)))
  unfolding request_of lookup
  net_request e = rw e

  -- any other line is unreadable
  pub no_head : (r.kind ≡ Load → ⊥) → (r.kind ≡ Carry → ⊥) → (r.kind ≡ Prior → ⊥) → (r.kind ≡ Verify → ⊥) → (r.kind ≡ Migrate → ⊥) → (r.kind ≡ Open → ⊥) → (r.kind ≡ Nominate → ⊥) → (r.kind ≡ Award → ⊥) → (r.kind ≡ Close → ⊥) → (r.kind ≡ Limit → ⊥) → (r.kind ≡ Held → ⊥) → (r.kind ≡ Net → ⊥) → request_of r lines ≡ unreadable_group
  unfolding request_of lookup
  no_head l1 l2 l3 l4 l5 l6 l7 l8 l9 l10 l11 l12 =
      rw (other_kind r.kind Load l1)
      (rw (other_kind r.kind Carry l2)
      (rw (other_kind r.kind Prior l3)
      (rw (other_kind r.kind Verify l4)
      (rw (other_kind r.kind Migrate l5)
      (rw (other_kind r.kind Open l6)
      (rw (other_kind r.kind Nominate l7)
      (rw (other_kind r.kind Award l8)
      (rw (other_kind r.kind Close l9)
      (rw (other_kind r.kind Limit l10)
      (rw (other_kind r.kind Held l11)
      (rw (other_kind r.kind Net l12))))))))))))

module _ (b : Book) (g : Group) where
  -- a call returns what the book's contract says, a query answers and keeps the book
  pub by_call : (c : Call) (a : Result (Unit {0}) Refusal) (next : Book) → ◌≡◌ {A = Outcome} (record { answer = a; book = next }) (outcome_of b c) → g ≡ request (call c) → Answers b g (of_call a) next
  unfolding outcome_of_group
  by_call c a next e q = (λ i. record { answer = of_call (e i).answer; book = (e i).book }) ∙ sym (ap (outcome_of_group b) q)

  pub by_query : (q : Query) (a : Result ℕ Refusal) → a ≡ query_answer_in b q → g ≡ request (query q) → Answers b g (of_query a) b
  unfolding outcome_of_group
  by_query q a e p = (λ i. record { answer = of_query (e i); book = b }) ∙ sym (ap (outcome_of_group b) p)

  pub by_unreadable : g ≡ unreadable_group → Answers b g (Err Unreadable) b
  unfolding outcome_of_group
  by_unreadable p = sym (ap (outcome_of_group b) p)

-- an answer that is another
pub answers_as : (b : Book) (g : Group) (a a' : Answer) (next : Book) → a ≡ a' → Answers b g a' next → Answers b g a next
answers_as b g a a' next e is = (λ i. record { answer = e i; book = next }) ∙ is

-- the evidence, which is not lent, is that of the book that a group leads to
pub beside_evidence : (b : Book) (g : Group) (a : Answer) (o : KeptOpening) (f : List ℕ) (m : List Bool) (x : List Entry) → Answers b g a (book_in o f m x) → Answers b g a (book_in o f m (outcome_of_group b g).book.evidence)
unfolding book_in
beside_evidence b g a o f m x e = (λ i. record { answer = a; book = record { opening = o; figures = f; posted = m; evidence = (sym e i).book.evidence } }) ∙ e
