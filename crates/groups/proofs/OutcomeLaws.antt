-- What a head with the lines that it counts comes to. Assumes nothing.
use Prim.Native.Nat.{ℕ, ◌+◌, ◌-◌, ◌≤◌}
use mathlib.Core.Path.{◌≡◌, sym, ap, ◌∙◌, subst}
use mathlib.Core.Bool.{Bool, true, false}
use mathlib.Core.List.{List, map}
use native.Mathlib.Nat.{add-zero, le_trans, le_of_eq}
use native.Mathlib.Omega.{arith}
use lib.ListN.{length, take, drop, replicate, length-replicate, length-map, length-take, length-drop}
use lib.Dec.{eqb}
use borrow.Author.Tests.{eqb-true}
use Rattle.records.specs.declared.setup.KeptOpening.{KeptOpening}
use mathlib.Core.Logic.{◌⊎◌, inl, inr}
use Rattle.tariff.proofs.Tests.{decided, and_both, both_ways}
use Rattle.std.specs.Prelude.{Err}
use Rattle.ledger.specs.Season.{Request}
use Rattle.book.specs.declared.book.Book.{Book}
use Rattle.records.specs.declared.refusal.Refusal.TheVariants.{Unreadable}
use Rattle.records.specs.Answers.{Answer}
use Rattle.lines.specs.declared.rows.Row.{Row}
use Rattle.counted_lines.specs.declared.counted.CountedLines.{CountedLines}
use Rattle.lines.specs.declared.lines.NextRow.{NextRow}
use Rattle.lines.specs.Reading.{next_row}
use Rattle.lines.specs.declared.rows.LineKind.{LineKind}
use Rattle.lines.specs.declared.rows.LineKind.TheVariants.{Load, Migrate}
use Rattle.lines.specs.Rows.{same_kind, rows_of, field, counted, all_of_kind}
use Rattle.counted_lines.specs.Counted.{bytes_of_lines, rows_counted, counted_of, with_lines}
use Rattle.counted_lines.proofs.RowSteps.{consumed_within}
use Rattle.counted_lines.proofs.LineBytes.{bytes_within, rows_after}
use Rattle.lines.proofs.FieldLaws.{rest_all}
use Rattle.counted_lines.proofs.KeptLines.{all_kept}
use Rattle.lines.proofs.KindLaws.{is_same_kind, other_kind}
use Rattle.groups.specs.declared.outcome.GroupOutcome.{GroupOutcome}
use Rattle.groups.specs.Groups.{Group, request, lines_counted, when_complete, request_of}
use Rattle.groups.specs.Outcome.{of_one_line, head_group, head_bytes, first_group, group_bytes, outcome_of_group, Answers, GroupAnswers}
use Rattle.groups.proofs.HeadLaws.{by_unreadable}

-- counted lines are at most those that are left, and at most as many as are counted
pub rows_few : (n : ℕ) (s : List ℕ) → length (rows_counted n s) ≤ length (rows_of s)
unfolding rows_counted
rows_few n s = let len = length-take n (rows_of s) in omega arith

pub rows_counted_lem : (n : ℕ) (s : List ℕ) → length (rows_counted n s) ≤ n
unfolding rows_counted
rows_counted_lem n s = let len = length-take n (rows_of s) in omega arith

module _ (kind : LineKind) (n : ℕ) (s : List ℕ) (x : CountedLines) (read : x ≡ counted_of kind n s) where
  abbrev rows : List Row
  rows = rows_counted n s

  pub complete_is : x.complete ≡ counted kind n rows
  unfolding counted_of
  complete_is = ap (λ y. y.complete) read

  pub consumed_is : x.consumed ≡ bytes_of_lines n s
  unfolding counted_of
  consumed_is = ap (λ y. y.consumed) read

  -- where the lines are complete there are as many as counted, and an array with a place for each has them in its front
  module _ (all : x.complete ≡ true) where
    pub rows_many : length rows ≡ n
    unfolding counted
    rows_many = eqb-true (length rows) n (and_both (eqb (length rows) n) (all_of_kind kind rows) (sym complete_is ∙ all)).0

    pub count_fits : (places : ℕ) → length rows ≤ places → n ≤ places
    count_fits places = subst (λ k. k ≤ places) rows_many

    pub lines_are : {T : Type 0} (of : Row → T) (places : ℕ) (none : T) (kept : List T) → length rows ≤ places → kept ≡ with_lines (map of rows) (replicate places none) → take n kept ≡ map of rows
    lines_are of places none kept fits is =
        let many = length-map rows of in
        let long = length-replicate places none in
        (λ i. take (sym (many ∙ rows_many) i) (is i)) ∙ all_kept (map of rows) (replicate places none) (omega arith)

-- a head that makes a request if the lines it counts are complete
module _ (head : Row) (s : List ℕ) (kind : LineKind) (n : ℕ) (req : Request) (counts : lines_counted head ≡ n) (requests : request_of head (rows_counted n s) ≡ when_complete (counted kind n (rows_counted n s)) req) where
  what : (t : Bool) → counted kind n (rows_counted n s) ≡ t → head_group head s ≡ when_complete t req
  unfolding head_group
  what t e = ap (λ k. request_of head (rows_counted k s)) counts ∙ requests ∙ ap (λ u. when_complete u req) e

  -- lines that are not complete are unreadable, and the group is passed over
  pub counted_outcome : (b : Book) (a : Answer) (next : Book) → (counted kind n (rows_counted n s) ≡ true → Answers b (request req) a next) → (counted kind n (rows_counted n s) ≡ false → (a ≡ Err Unreadable) × (next ≡ b)) → Answers b (head_group head s) a next
  unfolding when_complete
  counted_outcome b a next read unread = go (decided (counted kind n (rows_counted n s)))
    where
      go : (counted kind n (rows_counted n s) ≡ true) ⊎ (counted kind n (rows_counted n s) ≡ false) → Answers b (head_group head s) a next
      go (inl e) = read e ∙ ap (outcome_of_group b) (sym (what true e))
      go (inr e) = let u = unread e in (λ i. record { answer = u.0 i; book = u.1 i }) ∙ by_unreadable b (head_group head s) (what false e)

-- the bytes that as many lines take as a head counts
module _ (head : Row) (s : List ℕ) (n : ℕ) (counts : lines_counted head ≡ n) where
  pub outcome_bytes : bytes_of_lines n s ≡ head_bytes head s
  unfolding head_bytes
  outcome_bytes = ap (λ k. bytes_of_lines k s) (sym counts)

module _ (head : Row) where
  pub load_counts : head.kind ≡ Load → lines_counted head ≡ field 5 head
  unfolding lines_counted
  load_counts e = rw e

  pub migrate_counts : head.kind ≡ Migrate → lines_counted head ≡ field 2 head
  unfolding lines_counted
  migrate_counts e = rw e

  -- any other head counts no lines
  module _ (s : List ℕ) where
    no_lines : lines_counted head ≡ 0 → 0 ≡ head_bytes head s
    unfolding head_bytes bytes_of_lines
    no_lines counts = ap (λ n. bytes_of_lines n s) (sym counts)

    pub other_counts : (head.kind ≡ Load → ⊥) → (head.kind ≡ Migrate → ⊥) → 0 ≡ head_bytes head s
    unfolding lines_counted
    other_counts l m = no_lines (none l m)
      where
        none : (head.kind ≡ Load → ⊥) → (head.kind ≡ Migrate → ⊥) → lines_counted head ≡ 0
        none l m = rw (other_kind head.kind Load l) (rw (other_kind head.kind Migrate m))

    pub kind_counts : (kind : LineKind) → head.kind ≡ kind → same_kind kind Load ≡ false → same_kind kind Migrate ≡ false → 0 ≡ head_bytes head s
    kind_counts kind e l m = other_counts (λ q. both_ways (is_same_kind kind Load (sym e ∙ q)) l) (λ q. both_ways (is_same_kind kind Migrate (sym e ∙ q)) m)

-- the outcome of a head that counts no lines
module _ (r : GroupOutcome) (a : Answer) (is : r ≡ of_one_line a) where
  pub answers_one_line : (b : Book) (g : Group) (next : Book) → Answers b g a next → Answers b g r.answer next
  unfolding of_one_line
  answers_one_line b g next e = (λ i. record { answer = (is i).answer; book = next }) ∙ e

  pub bytes_one_line : (head : Row) (s : List ℕ) → 0 ≡ head_bytes head s → r.consumed ≡ head_bytes head s
  unfolding of_one_line
  bytes_one_line head s none = ap (λ y. y.consumed) is ∙ none

-- the first group of what is left, by its head and what stands after that
module _ (rest : List ℕ) (x : NextRow) (read : x ≡ next_row rest) where
  abbrev after_head : List ℕ
  after_head = take (length rest - x.consumed) (drop x.consumed rest)

  pub head_fits : x.consumed ≤ length rest
  head_fits = le_trans (le_of_eq (ap (λ y. y.consumed) read)) (consumed_within rest)

  after-head-is : after_head ≡ drop (next_row rest).consumed rest
  after-head-is = rest_all rest x.consumed ∙ ap (λ y. drop y.consumed rest) read

  pub after_head_few : (most : ℕ) → length (rows_of rest) ≤ most → length (rows_of after_head) ≤ most
  unfolding bytes_of_lines
  after_head_few most few =
      let same = ap (λ s. length (rows_of s)) (after-head-is ∙ ap (λ n. drop n rest) (sym (add-zero (next_row rest).consumed))) in
      let after = ap length (rows_after 1 rest) in
      let fewer = length-drop 1 (rows_of rest) in
      omega arith

  group-is : head_group x.row after_head ≡ first_group rest
  unfolding first_group
  group-is = λ i. head_group (read i).row (after-head-is i)

  pub group_answers : (o : KeptOpening) (f : List ℕ) (m : List Bool) (a : Answer) (f' : List ℕ) (m' : List Bool) → GroupAnswers o f m (head_group x.row after_head) a f' m' → GroupAnswers o f m (first_group rest) a f' m'
  group_answers o f m a f' m' = subst (λ g. GroupAnswers o f m g a f' m') group-is

  bytes-are : x.consumed + head_bytes x.row after_head ≡ group_bytes rest
  unfolding group_bytes
  bytes-are = λ i. (read i).consumed + head_bytes (read i).row (after-head-is i)

  pub group_bytes_lem : (consumed : ℕ) → consumed ≡ head_bytes x.row after_head → x.consumed + consumed ≡ group_bytes rest
  group_bytes_lem consumed e = ap (λ n. x.consumed + n) e ∙ bytes-are

  pub group_fits : (consumed : ℕ) → consumed ≡ head_bytes x.row after_head → x.consumed + consumed ≤ length rest
  unfolding head_bytes
  group_fits consumed e =
      let within = bytes_within (lines_counted x.row) after_head in
      let all = ap length (rest_all rest x.consumed) in
      let left = length-drop x.consumed rest in
      let own = head_fits in
      omega arith
