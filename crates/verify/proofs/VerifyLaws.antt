-- Evidence that is accepted is in range; what it needs of the arrays, and what it leaves in them. Assumes nothing.
use Prim.Native.Nat.{ℕ, ◌+◌, ◌-◌, ◌*◌, ◌≤◌, ◌<◌}
use mathlib.Core.Path.{◌≡◌, refl, sym, ap, ◌∙◌, subst}
use mathlib.Core.Bool.{Bool, true, false, cond, ◌&&◌, ◌||◌, and-true}
use mathlib.Core.List.{List, [], ◌∷◌, ◌++◌}
use mathlib.Core.Logic.{◌⊎◌, inl, inr}
use native.Mathlib.Nat.{le_trans}
use native.Mathlib.Omega.{arith}
use lib.ListN.{take, drop}
use lib.Dec.{eqb}
use borrow.Author.Tests.{eq-eqb, ne_eqb, eqb-true, eqb-false}
use Rattle.records.specs.declared.setup.KeptOpening.{KeptOpening}
use Rattle.std.specs.Prelude.{Ok}
use Rattle.source_evidence.specs.declared.evidence.Entry.{Entry}
use Rattle.source_evidence.specs.declared.filing.Filing.{Filing}
use Rattle.source_evidence.specs.declared.filing.Filed.{Filed}
use Rattle.tariff.specs.Sizes.{terms, ownership, contract, evidence_kinds}
use Rattle.source_evidence.specs.Evidence.{empty_entry, entry_of, is_ten_year}
use Rattle.source_evidence.specs.Filing.{is_out_of_range, filed_of, filing_outcome}
use Rattle.source_evidence.specs.Kind.{number_of, index_of, kind_of}
use Rattle.verify.specs.Asked.{verify_of}
use Rattle.source_evidence.proofs.EvidenceRange.{evidence_facts}
use Rattle.tariff.proofs.Tests.{decided, and_right_false}
use Rattle.ledger.specs.Opening.{Opening}
use Rattle.ledger.specs.Ledger.{Ledger, with_evidence}
use Rattle.ledger.specs.Call.{Call}
use Rattle.ledger.specs.Causes.{refusal}
use Rattle.ledger.specs.Effects.{same2, same3, after_verify, effect}
use Rattle.ledger.specs.Season as season
use Rattle.ledger.proofs.Steps.{step_accepted}
use Rattle.ledger.proofs.PostingFacts.{VerifyFacts, verify_facts}
use Rattle.records.specs.Opening.{opening_in}
use Rattle.slots.specs.Cells.{HasCell, look_at, stored_at, Shows}
use Rattle.slots.specs.Groups.{SlotGroup, slot_group, slots_of, in_slot}
use Rattle.slots.specs.Coverage.{coverage}
use Rattle.slots.specs.Layout.{figure_slots, posted_slots, evidence_slots, figure_groups, posted_groups, evidence_groups, calendar_of, figures_of, posted_of, evidence_of, is_posted_in, ledger_in, ownership_slot, contract_slot, ten_year_slot, flag, evidence_posted_slot}
use Rattle.slots.specs.Steps.{Reachable, Steps}
use Rattle.slots.proofs.CellLaws.{array_shows, shown_is}
use Rattle.slots.proofs.PostedLaws.{posted_number}
use Rattle.slots.proofs.StoreLaws.{StoredIn, slot_stored, number_posted}
use Rattle.slots.proofs.Reachable.{counts, figures_shown, posted_shown, evidence_known}
use Rattle.slots.proofs.StepLaws.{accepted_test, steps_accepted}
use Rattle.verify.specs.StoredEntry.{stored_by_term, stored_entry}
use Rattle.verify.proofs.TermLaws.{terms_stored}

-- the kind that a number in range names has that number
kind_numbered : (number : ℕ) → 1 ≤ number → number ≤ 2 → number_of (kind_of number) ≡ number
unfolding kind_of
kind_numbered number low high = grind arith

-- what is said of the entry in a place where one was filed, or was not
of_filed : (say : Entry → ℕ) (here : Bool) (filed old : Entry) → cond here (say filed) (say old) ≡ say (cond here filed old)
of_filed say true filed old = refl
of_filed say false filed old = refl

-- the coverage of a term where an entry was filed, in its kind and in the other one
module _ (h s kind : ℕ) (filed : Entry) (old : ℕ → ℕ → ℕ → Entry) (k x y t : ℕ) where
  this-kind : k ≡ kind → cond (same2 h s x y) (coverage t filed) (coverage t (old x y k)) ≡ coverage t (cond (same3 h s kind x y k) filed (old x y k))
  unfolding same2 same3
  this-kind e =
      of_filed (coverage t) (eqb x h && eqb y s) filed (old x y k)
      ∙ ap (λ b. coverage t (cond b filed (old x y k))) (sym (ap (λ b. eqb x h && eqb y s && b) (eq-eqb k kind e) ∙ and-true (eqb x h && eqb y s)))

  other-kind : (k ≡ kind → ⊥) → coverage t (old x y k) ≡ coverage t (cond (same3 h s kind x y k) filed (old x y k))
  unfolding same3
  other-kind ne = sym (ap (λ b. coverage t (cond b filed (old x y k))) (and_right_false (eqb x h && eqb y s) (ne_eqb k kind ne)))

-- what numbers in range file, under a kind of their number
filed_numbers : (f : Filing) (filed : Filed) → Ok filed ≡ filing_outcome f → (is_out_of_range f ≡ false) × (filed ≡ filed_of f)
unfolding filing_outcome
filed_numbers f filed e = (grind arith, grind arith)

-- whether evidence was posted, in the slot of its kind
pub posted_as : (m : List Bool) (h s : ℕ) (f : Filing) (filed : Filed) → Ok filed ≡ filing_outcome f → look_at posted_slots false m h s (evidence_posted_slot + index_of filed.kind) ≡ is_posted_in m evidence_posted_slot evidence_kinds 1 h s f.kind
unfolding filed_of
posted_as m h s f filed e =
    let numbers = filed_numbers f filed e in
    let range = (evidence_facts f.kind f.capacity f.right f.first f.last f.mark numbers.0).kinds in
    ap (λ y. look_at posted_slots false m h s (evidence_posted_slot + index_of y.kind)) numbers.1
    ∙ ap (λ n. look_at posted_slots false m h s (evidence_posted_slot + (n - ownership))) (kind_numbered f.kind range.0 range.1)
    ∙ posted_number m h s evidence_posted_slot evidence_kinds 1 f.kind (omega arith) range.0 (omega arith)

module _ (o : KeptOpening) (f : List ℕ) (m : List Bool) (x : List Entry) (h s : ℕ) (filing : Filing) (filed_as : Filed) (r : Reachable o f m x) (unmet : 0 ≡ refusal (opening_in o) (ledger_in f m x) (verify_of h s filing)) (files : filed_as ≡ filed_of filing) where
  abbrev O : Opening
  O = opening_in o

  abbrev L : Ledger
  L = ledger_in f m x

  abbrev call : Call
  call = verify_of h s filing

  abbrev kind : ℕ
  kind = filing.kind

  abbrev filed : Entry
  filed = entry_of filing.kind filing.capacity filing.right filing.first filing.last filing.mark

  facts : VerifyFacts O L h s filing.kind filing.capacity filing.right filing.first filing.last filing.mark
  facts = verify_facts O L h s filing.kind filing.capacity filing.right filing.first filing.last filing.mark (accepted_test O L call unmet)

  -- the kind is 1 or 2
  verify_kinds : (1 ≤ kind) × (kind ≤ 2)
  verify_kinds = facts.kinds

  slot_is : index_of filed_as.kind ≡ kind - 1
  unfolding filed_of
  slot_is = ap (λ y. index_of y.kind) files ∙ ap (λ n. n - ownership) (kind_numbered kind verify_kinds.0 verify_kinds.1)

  entry_is : filed_as.entry ≡ filed
  unfolding filed_of
  entry_is = ap (λ y. y.entry) files

  holder : h < 8
  holder = le_trans facts.holder (counts o f m x r).0

  source : s < 16
  source = le_trans facts.source (counts o f m x r).1

  -- the slots of the kind are there
  pub decided_cell : HasCell evidence_slots h s (index_of filed_as.kind)
  decided_cell = record { holder = holder; place = source; in_row = let range = verify_kinds in let is = slot_is in omega arith }

  abbrev entries : ℕ → ℕ → ℕ → Entry
  entries = L.evidence.entry

  -- the coverage of a term, by kind, with the entry filed
  abbrev coverage_filed : ℕ → ℕ → ℕ → ℕ → ℕ
  coverage_filed k u v n = coverage n (cond (same3 h s kind u v k) filed (entries u v k))

  abbrev groups_to_flags : List (SlotGroup ℕ)
  groups_to_flags = take 7 (figure_groups L) ++ (slot_group terms 0 (coverage_filed ownership) ∷ slot_group terms 0 (coverage_filed contract) ∷ [])

  -- the coverage of the kind's terms is new, ..
  coverage-stored : Shows figure_slots 0 (stored_by_term f h s (ownership_slot + terms * (kind - 1)) filed) (in_slot 0 (groups_to_flags ++ drop 9 (figure_groups L))) (calendar_of L)
  unfolding figure_groups slots_of
  coverage-stored = go (decided (eqb kind ownership))
    where
      go : (eqb kind ownership ≡ true) ⊎ (eqb kind ownership ≡ false) → Shows figure_slots 0 (stored_by_term f h s (ownership_slot + terms * (kind - 1)) filed) (in_slot 0 (groups_to_flags ++ drop 9 (figure_groups L))) (calendar_of L)
      go (inl t) =
          let one = eqb-true kind ownership t in
          let from : ownership_slot ≡ ownership_slot + terms * (kind - 1) = omega arith in
          subst (λ n. Shows figure_slots 0 (stored_by_term f h s n filed) (in_slot 0 (groups_to_flags ++ drop 9 (figure_groups L))) (calendar_of L)) from
          (subst (λ g. Shows figure_slots 0 (stored_by_term f h s ownership_slot filed) (in_slot 0 g) (calendar_of L)) (λ i. take 7 (figure_groups L) ++ (slot_group terms 0 (λ u v n. this-kind h s kind filed entries ownership u v n (sym one) i) ∷ slot_group terms 0 (λ u v n. other-kind h s kind filed entries contract u v n (λ q. omega (arith, q)) i) ∷ drop 9 (figure_groups L)))
          (terms_stored (take 7 (figure_groups L)) (drop 8 (figure_groups L)) ownership_slot (λ u v n. coverage n (entries u v ownership)) f (calendar_of L) h s filed refl (omega arith) holder source (figures_shown o f m x r)))
      go (inr t) =
          let other = eqb-false kind ownership t in
          let range = verify_kinds in
          let two : contract ≡ kind = omega (arith, other) in
          let from : contract_slot ≡ ownership_slot + terms * (kind - 1) = omega arith in
          subst (λ n. Shows figure_slots 0 (stored_by_term f h s n filed) (in_slot 0 (groups_to_flags ++ drop 9 (figure_groups L))) (calendar_of L)) from
          (subst (λ g. Shows figure_slots 0 (stored_by_term f h s contract_slot filed) (in_slot 0 g) (calendar_of L)) (λ i. take 7 (figure_groups L) ++ (slot_group terms 0 (λ u v n. other-kind h s kind filed entries ownership u v n (λ q. other (sym q)) i) ∷ slot_group terms 0 (λ u v n. this-kind h s kind filed entries contract u v n two i) ∷ drop 9 (figure_groups L)))
          (terms_stored (take 8 (figure_groups L)) (drop 9 (figure_groups L)) contract_slot (λ u v n. coverage n (entries u v contract)) f (calendar_of L) h s filed refl (omega arith) holder source (figures_shown o f m x r)))

  -- the kind's number, from its slot
  kind-back : kind - 1 + 1 ≡ kind
  kind-back = let range = verify_kinds in omega arith

  -- .. its flag, the note of the posting and the entry, and nothing else
  verified : (f' : List ℕ) → f' ≡ stored_entry f h s (kind - 1) filed → f' ≡ figures_of (effect O L call)
  unfolding figures_of figure_groups calendar_of slots_of effect with_evidence after_verify stored_entry
  verified f' e =
      e ∙ shown_is figure_slots 0 _ (stored_entry f h s (kind - 1) filed) (calendar_of L) (omega arith)
      (slot_stored 0 figure_slots ten_year_slot evidence_kinds 1 groups_to_flags [] refl (omega arith) (λ u v k. flag (is_ten_year (entries u v k))) (λ u v k. flag (is_ten_year (cond (same3 h s kind u v k) filed (entries u v k)))) _ (calendar_of L) h s (kind - 1) (flag (is_ten_year filed)) holder source (let range = verify_kinds in omega arith)
      (λ u v k low high. sym (ap (λ n. cond (same3 h s n u v k) (flag (is_ten_year filed)) (flag (is_ten_year (entries u v k)))) kind-back ∙ of_filed (λ y. flag (is_ten_year y)) (same3 h s kind u v k) filed (entries u v k)))
      coverage-stored)

  noted : (m' : List Bool) → m' ≡ stored_at posted_slots m h s (evidence_posted_slot + (kind - 1)) true → m' ≡ posted_of (effect O L call)
  unfolding posted_of posted_groups slots_of effect with_evidence after_verify
  noted m' e =
      e ∙ shown_is posted_slots false _ (stored_at posted_slots m h s (evidence_posted_slot + (kind - 1)) true) [] (omega arith)
      (slot_stored false posted_slots evidence_posted_slot evidence_kinds 1 (take 3 (posted_groups L)) [] refl (omega arith) L.evidence.posted (λ i j k. same3 h s kind i j k || L.evidence.posted i j k) m [] h s (kind - 1) true holder source (let range = verify_kinds in omega arith)
      (subst (λ n. StoredIn evidence_kinds 1 h s n true L.evidence.posted (λ i j k. same3 h s kind i j k || L.evidence.posted i j k)) (sym kind-back) (number_posted evidence_kinds 1 h s kind L.evidence.posted))
      (posted_shown o f m x r))

  evidence-shown : Shows evidence_slots empty_entry x (in_slot empty_entry (evidence_groups L)) []
  unfolding evidence_of
  evidence-shown = subst (λ z. Shows evidence_slots empty_entry z (in_slot empty_entry (evidence_groups L)) []) (sym (evidence_known o f m x r)) (array_shows evidence_slots empty_entry (in_slot empty_entry (evidence_groups L)) [])

  entered : (x' : List Entry) → x' ≡ stored_at evidence_slots x h s (kind - 1) filed → x' ≡ evidence_of (effect O L call)
  unfolding evidence_of evidence_groups slots_of effect with_evidence after_verify
  entered x' e =
      e ∙ ap (λ n. stored_at evidence_slots x h s n filed) (let same : kind - 1 ≡ 0 + (kind - 1) = omega arith in same)
      ∙ shown_is evidence_slots empty_entry _ (stored_at evidence_slots x h s (0 + (kind - 1)) filed) [] (omega arith)
      (slot_stored empty_entry evidence_slots 0 evidence_kinds 1 [] [] refl (omega arith) L.evidence.entry (λ i j k. cond (same3 h s kind i j k) filed (L.evidence.entry i j k)) x [] h s (kind - 1) filed holder source (let range = verify_kinds in omega arith)
      (λ i j k low high. ap (λ n. cond (same3 h s n i j k) filed (L.evidence.entry i j k)) (sym kind-back))
      evidence-shown)

  same : season.step O L call ≡ effect O L call
  same = step_accepted O L call (accepted_test O L call unmet)

  -- the entry is filed, whatever evidence the book has
  pub decided_filed : (x' : List Entry) → x' ≡ stored_at evidence_slots x h s (index_of filed_as.kind) filed_as.entry → x' ≡ evidence_of (season.step O L call)
  decided_filed x' e = entered x' (e ∙ (λ i. stored_at evidence_slots x h s (slot_is i) (entry_is i))) ∙ ap evidence_of (sym same)

  pub decided_steps : (f' : List ℕ) (m' : List Bool) → f' ≡ stored_entry f h s (index_of filed_as.kind) filed_as.entry → m' ≡ stored_at posted_slots m h s (evidence_posted_slot + index_of filed_as.kind) true → Steps O L call (Ok tt) f' m' (evidence_of (season.step O L call))
  decided_steps f' m' of_figures of_posted =
      steps_accepted O L call unmet f' m' (evidence_of (season.step O L call))
      (verified f' (of_figures ∙ (λ i. stored_entry f h s (slot_is i) (entry_is i))))
      (noted m' (of_posted ∙ (λ i. stored_at posted_slots m h s (evidence_posted_slot + slot_is i) true)))
      (ap evidence_of same)
